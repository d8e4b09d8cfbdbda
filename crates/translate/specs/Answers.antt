-- What translating the fields of a sheet gives.
use Rattle.std.specs.Prelude.{ℕ, ◌≤◌, ◌≡◌, Option, None, Some, List, map, length}
use Rattle.std.proofs.lemmas.List.Edits.{sets}
use Rattle.order.specs.Limits.{most_variables, most_orders}
use Rattle.order.specs.Memory.{order_word}
use Rattle.sheet.specs.Sheet.{Part, count, sheet}
use Rattle.sheet.specs.Memory.{part_fields}
use Rattle.sheet.specs.Translation.{translation, temporaries_of}
use Rattle.sheet.specs.Within.{PartFormed}
use Rattle.sheet_field.specs.Memory.{fields_at, most_fields}
use Rattle.translate.specs.declared.Translated.{Translated}

-- the instructions x of V variables, translated into an array
pub record TranslatesTo (v : ℕ) (x : Part) (out : List ℕ) (r : Option Translated) (after : List ℕ) : Type 0 where
  -- where there is room for their orders and STOP, T and N, and the orders
  pub whole :
      length (translation (sheet v x)) ≤ most_orders
      → (r ≡ Some (record { temporaries = temporaries_of x; orders = length (translation (sheet v x)) }))
      × (after ≡ sets out 0 (map order_word (translation (sheet v x))))
  pub over : (length (translation (sheet v x)) ≤ most_orders → ⊥) → r ≡ None

-- whatever formed instructions the fields are of
pub record Translates (fs : List ℕ) (v : ℕ) (out : List ℕ) (r : Option Translated) (after : List ℕ) : Type 0 where
  pub kept : length after ≡ length out
  pub of :
      (x : Part)
      → PartFormed v (count x) x
      → fields_at 0 fs ≡ part_fields x
      → v ≤ most_variables
      → length fs ≤ most_fields
      → length out ≡ most_orders
      → TranslatesTo v x out r after
