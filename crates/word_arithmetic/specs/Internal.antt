-- What the functions that the crate keeps to itself are shown to do.
use Rattle.std.specs.Prelude.{◌≡◌, ℕ, ◌^◌, ◌<◌, ◌≤◌, ℤ, pos, negsuc}
use Rattle.word.specs.Word.{wrap}

-- the step from a quotient away from zero
abbrev pub outward : ℤ → ℤ → ℤ
outward (pos m) (pos n) = pos 1
outward (pos m) (negsuc n) = negsuc 0
outward (negsuc m) (pos n) = negsuc 0
outward (negsuc m) (negsuc n) = pos 1

-- a power by repeated squaring: an exponent that is not negative takes at most 62 products
pub record PowerOf (a n power products : ℕ) : Type 0 where
  pub right : power ≡ wrap (a ^ n)
  pub few : n < 2147483648 → products ≤ 62
