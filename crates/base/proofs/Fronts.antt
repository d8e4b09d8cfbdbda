-- What follows where something is found at the front of a list: every reading that came before it found its part, and every
-- test that could refuse it passed.
use Prim.Native.Nat.{ℕ}
use mathlib.Core.Path.{◌≡◌, refl}
use mathlib.Core.Bool.{Bool, true, false}
use mathlib.Core.List.{List}
use native.Mathlib.Omega.{arith}
use Rattle.base.specs.Choice.{pick}
use Rattle.base.specs.Front.{FrontOf, found, missing, on_front}
use Rattle.base.proofs.Cases.{chosen_first, chosen_second}

module _ {E A : Type 0} {a : A} {l : List E} where
  pub never : {P : Type 0} → missing ≡ found a l → P
  never e = let z : ◌≡◌ {A = ℕ} 0 1 = cc in absurd (omega arith)

  -- a test that refuses where it holds, and one that refuses where it fails
  pub not_refused : (t : Bool) (f : FrontOf E A) → pick t missing f ≡ found a l → (t ≡ false) × (f ≡ found a l)
  not_refused t f e = chosen_second t missing f (found a l) never e

  pub let_through : (t : Bool) (f : FrontOf E A) → pick t f missing ≡ found a l → (t ≡ true) × (f ≡ found a l)
  let_through t f e = chosen_first t f missing (found a l) never e

  -- a reading of two parts
  pub both_found : {B P : Type 0} (f : FrontOf E B) (g : B → List E → FrontOf E A) → on_front f g missing ≡ found a l
      → ((b : B) (l₁ : List E) → f ≡ found b l₁ → g b l₁ ≡ found a l → P) → P
  unfolding on_front
  both_found (found b l₁) g e k = k b l₁ refl e
  both_found missing g e k = never e

-- a proof by what is found
pub by_front : {E A P : Type 0} (f : FrontOf E A) → ((a : A) (l : List E) → f ≡ found a l → P) → (f ≡ missing → P) → P
by_front (found a l) y n = y a l refl
by_front missing y n = n refl
