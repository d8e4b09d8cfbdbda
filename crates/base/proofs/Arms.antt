-- What the default arm of a `match` on a number knows, where the other arms are 0, 1 .. without gaps.
use Prim.Native.Nat.{ℕ, zero, suc, ◌≤◌}
use mathlib.Core.Path.{◌≡◌}
use native.Mathlib.Omega.{arith}

-- k is none of the n numbers below n, in the form that a proof file has it
abbrev pub NoneOf : ℕ → ℕ → Type 0
NoneOf zero k = Unit {0}
NoneOf (suc n) k = NoneOf n k × (k ≡ n → ⊥)

pub none_of : (n k : ℕ) → NoneOf n k → n ≤ k
none_of zero k h = omega arith
none_of (suc n) k h = step (none_of n k h.0) h.1
  where
    step : n ≤ k → (k ≡ n → ⊥) → suc n ≤ k
    step a b = omega (arith, a, b)
