-- What holds of each order of a list.
use Prim.Native.Nat.{ℕ, zero, suc, ◌<◌}
use mathlib.Core.List.{List, [], ◌∷◌, ◌++◌}
use native.Mathlib.Omega.{arith}
use lib.ListN.{length, get_or}

module _ {A : Type 0} where
  abbrev pub Each : (A → Type 0) → List A → Type 0
  Each P [] = Unit {0}
  Each P (a ∷ l) = P a × Each P l

  module _ (P : A → Type 0) where
    pub each_append : (l m : List A) → Each P l → Each P m → Each P (l ++ m)
    each_append [] m h k = k
    each_append (a ∷ l) m h k = (h.0, each_append l m h.1 k)

    pub each_at : (l : List A) (d : A) → Each P l → (k : ℕ) → k < length l → P (get_or l k d)
    each_at [] d h k n = absurd (omega arith)
    each_at (a ∷ l) d h zero n = h.0
    each_at (a ∷ l) d h (suc k) n = each_at l d h.1 k (omega arith)

  pub each_map : (P Q : A → Type 0) → ((a : A) → P a → Q a) → (l : List A) → Each P l → Each Q l
  each_map P Q f [] h = tt
  each_map P Q f (a ∷ l) h = (f a h.0, each_map P Q f l h.1)
