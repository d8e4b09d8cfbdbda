-- What the theorems of proofs/Agreement.antt say of words in terms of the integers that they stand for.
use Rattle.std.specs.Prelude.{ℕ, ◌/◌, ◌%◌, ◌^◌, ◌≤◌, ◌≡◌, ℤ, pos, negsuc, nat_abs, ◌-ℤ◌, ◌*ℤ◌}
use Rattle.std.specs.Int.Signed.{lt_z}
use Rattle.base.specs.Choice.{pick}
use Rattle.word.specs.Word.{signed, word}

-- what wrapping makes of an integer: the one in the range of words that differs from it by a multiple of 2 to the 32
unfoldable pub wrapped : ℤ → ℤ
wrapped x = signed (word x)

-- how far q is from x / y, times the size of y
unfoldable pub distance : ℤ → ℤ → ℤ → ℕ
distance x y q = nat_abs (x -ℤ q *ℤ y)

-- 02, L3: q is "the nearest whole number" to x / y, "halves away from zero". No whole number is nearer, and of those as near
-- none is farther from zero.
pub record Nearest (x y q : ℤ) : Type 0 where
  pub near : (p : ℤ) → distance x y q ≤ distance x y p
  pub away : (p : ℤ) → distance x y p ≡ distance x y q → nat_abs p ≤ nat_abs q

-- -1, 0 or 1 as x is below y, equal to it or above it
unfoldable pub compared : ℤ → ℤ → ℤ
compared x y = pick (lt_z x y) (negsuc 0) (pick (lt_z y x) (pos 1) (pos 0))

-- the bit of a pattern at place i, from 0
unfoldable pub bit : ℕ → ℕ → ℕ
bit i a = a / 2 ^ i % 2
