-- How a goal that is a choice is met: by the branch that its test takes.
use Prim.Native.Nat.{ℕ, ◌<◌, ◌≤◌}
use mathlib.Core.Bool.{Bool, true, false}
use mathlib.Core.Path.{◌≡◌, refl, sym, ap, ◌∙◌}
use native.Mathlib.Omega.{arith}
use borrow.Author.Tests.{lt-ltb, le-ltb, le-leb, lt-leb, eq-eqb, ne_eqb, ltb-true, ltb-false, eqb-true, eqb-false}
use lib.Dec.{ltb, eqb}
use Rattle.base.specs.Choice.{pick}

pub pick_yes : {A : Type 0} (t : Bool) (a b r : A) → t ≡ true → r ≡ a → r ≡ pick t a b
unfolding pick
pick_yes t a b r e p = rw e p

pub pick_no : {A : Type 0} (t : Bool) (a b r : A) → t ≡ false → r ≡ b → r ≡ pick t a b
unfolding pick
pick_no t a b r e p = rw e p

pub same : {A : Type 0} (a : A) → a ≡ a
same a = refl

-- a test that a callee made, read off the bool that it returned
pub told_yes : (t u : Bool) → u ≡ t → u ≡ true → t ≡ true
told_yes t u e p = sym e ∙ p

pub told_no : (t u : Bool) → u ≡ t → u ≡ false → t ≡ false
told_no t u e p = sym e ∙ p

-- a proof by what a test says
pub by_test : {P : Type 0} (t : Bool) → (t ≡ true → P) → (t ≡ false → P) → P
by_test true y n = y refl
by_test false y n = n refl

-- the same for two numbers, by whether one is less, or by whether they are equal
pub by_less : {P : Type 0} (a b : ℕ) → (a < b → P) → (b ≤ a → P) → P
by_less a b y n = by_test (ltb a b) (λ e. y (ltb-true a b e)) (λ e. n (ltb-false a b e))

pub by_equal : {P : Type 0} (a b : ℕ) → (a ≡ b → P) → ((a ≡ b → ⊥) → P) → P
by_equal a b y n = by_test (eqb a b) (λ e. y (eqb-true a b e)) (λ e. n (eqb-false a b e))

-- the value of a choice, where one of its parts is ruled out: so the test took the other
pub chosen_first : {A : Type 0} (t : Bool) (a b c : A) → (b ≡ c → ⊥) → pick t a b ≡ c → (t ≡ true) × (a ≡ c)
unfolding pick
chosen_first true a b c not-second e = (refl, e)
chosen_first false a b c not-second e = absurd (not-second e)

pub chosen_second : {A : Type 0} (t : Bool) (a b c : A) → (a ≡ c → ⊥) → pick t a b ≡ c → (t ≡ false) × (b ≡ c)
unfolding pick
chosen_second true a b c not_first e = absurd (not_first e)
chosen_second false a b c not_first e = (refl, e)

-- a choice whose second part is no says yes only where its test holds and its first part says yes
pub both_yes : (t u : Bool) → pick t u false ≡ true → (t ≡ true) × (u ≡ true)
unfolding pick
both_yes true u e = (refl, e)
both_yes false u e = let z : ◌≡◌ {A = ℕ} 0 1 = ap (λ b. pick b 1 0) e in absurd (omega arith)

-- what holds of each part of a choice, where the test takes it, holds of the choice
pub either_part : {A : Type 0} (P : A → Type 0) (t : Bool) (a b : A) → (t ≡ true → P a) → (t ≡ false → P b) → P (pick t a b)
unfolding pick
either_part P true a b y n = y refl
either_part P false a b y n = n refl

-- what turns the facts of a path into the values of its tests
pub ruleset tests = (lt-ltb, le-ltb, le-leb, lt-leb, eq-eqb, ne_eqb)

-- what `search` needs to close a return of a function whose tests its specification repeats
pub ruleset cases = (pick_yes, pick_no, same, tests, told_yes, told_no)
