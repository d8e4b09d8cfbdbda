-- What checking fields tells.
use Rattle.std.specs.Prelude.{ℕ, ◌≤◌, ◌≡◌, List, length, Option, Some, None}
use Rattle.order.specs.Limits.{most_variables}
use Rattle.sheet.specs.Sheet.{Part, count}
use Rattle.sheet.specs.Memory.{part_fields}
use Rattle.sheet.specs.Within.{PartFormed, depth, most_levels}
use Rattle.sheet_field.specs.Memory.{fields_at, most_fields}

-- the fields are those of the instructions x, which are formed as those of a sheet of V variables
pub record FieldsOf (fs : List ℕ) (v : ℕ) (x : Part) : Type 0 where
  pub same : fields_at 0 fs ≡ part_fields x
  pub formed : PartFormed v (count x) x
  pub few_levels : depth x ≤ most_levels

-- they are those of n instructions
pub record Found (fs : List ℕ) (v n : ℕ) : Type 0 where
  pub part : Part
  pub are : FieldsOf fs v part
  pub counted : n ≡ count part

pub record Checks (fs : List ℕ) (v : ℕ) (r : Option ℕ) : Type 0 where
  pub found : (n : ℕ) → r ≡ Some n → Found fs v n
  pub none : r ≡ None → length fs ≤ most_fields → v ≤ most_variables → (x : Part) → FieldsOf fs v x → ⊥
