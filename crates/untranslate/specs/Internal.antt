-- What the private functions tell.
use Rattle.std.specs.Prelude.{ℕ, ◌≤◌, ◌≡◌, Bool, true, false, List, map, length, take}
use Rattle.order.specs.Limits.{most_variables, most_orders}
use Rattle.order.specs.Memory.{order_word}
use Rattle.sheet.specs.Sheet.{Part, count, sheet}
use Rattle.sheet.specs.Memory.{part_fields}
use Rattle.sheet.specs.Translation.{translation, temporaries_of}
use Rattle.sheet.specs.Within.{PartFormed}
use Rattle.sheet_field.specs.Memory.{fields_at, most_fields}

pub record Same (front words : List ℕ) (r : Bool) : Type 0 where
  pub yes_so : r ≡ true → take (length words) front ≡ words
  pub no_so : r ≡ false → take (length words) front ≡ words → ⊥

-- what translating again tells of the instructions x
pub record AgainOf (v : ℕ) (x : Part) (t : ℕ) (os : List ℕ) (r : Bool) : Type 0 where
  pub yes_so :
      r ≡ true
      → (length (translation (sheet v x)) ≤ most_orders) × (temporaries_of x ≡ t) × (map order_word (translation (sheet v x)) ≡ os)
  pub no_so :
      r ≡ false
      → length (translation (sheet v x)) ≤ most_orders
      → temporaries_of x ≡ t
      → map order_word (translation (sheet v x)) ≡ os
      → ⊥

abbrev pub Again : List ℕ → ℕ → ℕ → List ℕ → Bool → Type 0
Again fs v t os r =
    (x : Part)
    → PartFormed v (count x) x
    → fields_at 0 fs ≡ part_fields x
    → v ≤ most_variables
    → length fs ≤ most_fields
    → AgainOf v x t os r
