-- What is told of a field in an array.
use Rattle.std.specs.Prelude.{ℕ, zero, suc, List, [], ◌∷◌, Option, Some, None, get_or}
use Rattle.sheet.specs.declared.Field.{Field}
use Rattle.sheet_field.specs.Memory.{field_in}

-- the fields before a place of an array, the last first
unfoldable pub before : ℕ → List ℕ → List Field
before zero ws = []
before (suc i) ws = field_in (get_or ws i 0) ∷ before i ws

-- what is written of a field
abbrev pub shown : Option ℕ → List Field
shown (Some w) = field_in w ∷ []
shown None = []
