-- What the private functions do.
use Rattle.std.specs.Prelude.{ℕ, ◌-◌, ◌≤◌, ◌<◌, ◌≡◌, List, eqb, length, get_or}
use Rattle.base.specs.Choice.{pick}
use Rattle.std.specs.declared.cmp.Ordering.{Ordering}
use Rattle.std.specs.declared.cmp.Ordering.TheVariants.{Equal}
use Rattle.std.specs.Ordering.{nat_cmp}

-- a row stands at a place among v others, of which those behind it have moved by one
pub record Inserted (v place row : ℕ) (index after : List ℕ) : Type 0 where
  pub before : (i : ℕ) → i < place → get_or after i 0 ≡ get_or index i 0
  pub here : get_or after place 0 ≡ row
  pub behind : (i : ℕ) → place < i → i ≤ v → get_or after i 0 ≡ get_or index (i - 1) 0

abbrev pub Inserts : ℕ → ℕ → ℕ → List ℕ → List ℕ → Type 0
Inserts v place row index after = place ≤ v → v < length index → Inserted v place row index after

-- the rows behind place i have moved by one
pub record Shifted (v place i : ℕ) (index after : List ℕ) : Type 0 where
  pub reached : place ≤ i
  pub before : (j : ℕ) → j ≤ i → get_or after j 0 ≡ get_or index j 0
  pub behind : (j : ℕ) → i < j → j ≤ v → get_or after j 0 ≡ get_or index (j - 1) 0

-- where two names stand, if what is behind place `last` is the same and the letters before it decide
abbrev pub decided_at : List ℕ → List ℕ → ℕ → Ordering
decided_at a b last = pick (eqb last 0) Equal (nat_cmp (get_or a (last - 1) 0) (get_or b (last - 1) 0))
