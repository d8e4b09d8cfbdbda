-- Word arithmetic, document 01. "Words are 32-bit signed": a word is kept as its pattern, a number below 2 to the 32
-- (4294967296), and stands for an integer, its signed reading. Comments in quotes are the words of document 01 and of 02, L3.
use Rattle.std.specs.Prelude.{ℕ, zero, suc, ◌+◌, ◌-◌, ◌*◌, ◌/◌, ◌%◌, ◌^◌, min, max, Bool, not, ltb, eqb, ℤ, pos, negsuc, neg_ℤ}
use Rattle.std.specs.Int.Signed.{lt_z, le_z}
use Rattle.base.specs.Choice.{pick}
use Rattle.word.specs.declared.Relation.{Relation}
use Rattle.word.specs.declared.Relation.TheVariants.{Equal, Unequal, Less, AtMost, Greater, AtLeast}

-- ---- patterns and integers (`pos n` is n, `negsuc n` is -(n + 1))

-- the pattern of a number: what is left of it modulo 2 to the 32
unfoldable pub wrap : ℕ → ℕ
wrap n = n % 4294967296

-- the integer that a pattern stands for
unfoldable pub signed : ℕ → ℤ
signed a = pick (ltb a 2147483648) (pos a) (negsuc (4294967295 - a))

-- the pattern of an integer, modulo 2 to the 32
unfoldable pub word : ℤ → ℕ
word (pos n) = wrap n
word (negsuc n) = 4294967295 - wrap n

-- ---- "Sum, difference, product, negation and power wrap." (power is below)

unfoldable pub sum : ℕ → ℕ → ℕ
sum a b = wrap (a + b)

unfoldable pub difference : ℕ → ℕ → ℕ
difference a b = wrap (a + (4294967296 - b))

unfoldable pub product : ℕ → ℕ → ℕ
product a b = wrap (a * b)

unfoldable pub negation : ℕ → ℕ
negation a = wrap (4294967296 - a)

-- ---- `&`, `!`, `!!` and `\`, bit by bit

-- f of the two bits at each of the lowest k places
unfoldable pub bitwise : (ℕ → ℕ → ℕ) → ℕ → ℕ → ℕ → ℕ
bitwise f zero a b = 0
bitwise f (suc k) a b = bitwise f k (a / 2) (b / 2) * 2 + f (a % 2) (b % 2)

unfoldable pub and_bits : ℕ → ℕ → ℕ
and_bits a b = bitwise min 32 a b

unfoldable pub or_bits : ℕ → ℕ → ℕ
or_bits a b = bitwise max 32 a b

unfoldable pub xor_bits : ℕ → ℕ → ℕ
xor_bits a b = bitwise (λ x y. (x + y) % 2) 32 a b

unfoldable pub not_bits : ℕ → ℕ
not_bits a = 4294967295 - a

-- ---- "Comparison is signed and never wraps."

-- the six relations: = # < <= > >=
abbrev pub related : Relation → ℕ → ℕ → Bool
related Equal a b = eqb a b
related Unequal a b = not (eqb a b)
related Less a b = lt_z (signed a) (signed b)
related AtMost a b = le_z (signed a) (signed b)
related Greater a b = lt_z (signed b) (signed a)
related AtLeast a b = le_z (signed b) (signed a)

-- CMP: "ACC becomes -1, 0 or 1"
unfoldable pub comparison : ℕ → ℕ → ℕ
comparison a b = pick (related Less a b) (word (negsuc 0)) (pick (related Equal a b) 0 1)

-- B..: "only if ACC relates so to 0"
abbrev pub related_to_zero : Relation → ℕ → Bool
related_to_zero r a = related r a 0

-- ---- operations that may fault

-- what such an operation gives: a word, or a fault by its number
pub data Outcome : Type 0 where
  value : ℕ → Outcome
  fault : ℕ → Outcome

-- m / n rounded, "halves away from zero": the whole part of m / n + 1 / 2
abbrev pub rounded_size : ℕ → ℕ → ℕ
rounded_size m n = (m * 2 + n) / (n * 2)

-- the same of integers: below zero where just one of the two is
abbrev pub rounded : ℤ → ℤ → ℤ
rounded (pos m) (pos n) = pos (rounded_size m n)
rounded (pos m) (negsuc n) = neg_ℤ (pos (rounded_size m (suc n)))
rounded (negsuc m) (pos n) = neg_ℤ (pos (rounded_size (suc m) n))
rounded (negsuc m) (negsuc n) = pos (rounded_size (suc m) (suc n))

-- "the nearest whole number, halves away from zero": `Nearest` of specs/Integers.antt says it without a formula. "the least
-- word divided by -1 wraps to itself." "Faults: 1 zero divisor"
unfoldable pub quotient : ℕ → ℕ → Outcome
quotient a b = pick (eqb b 0) (fault 1) (value (word (rounded (signed a) (signed b))))

-- "x**0 is 1, for 0 too." "2 negative exponent"
unfoldable pub power : ℕ → ℕ → Outcome
power a n = pick (related Less n 0) (fault 2) (value (wrap (a ^ n)))

-- "Shifts are logical." "3 shift count outside 0..31": a negative count's pattern is not below 32 either
unfoldable pub shift_left : ℕ → ℕ → Outcome
shift_left a n = pick (ltb n 32) (value (wrap (a * 2 ^ n))) (fault 3)

unfoldable pub shift_right : ℕ → ℕ → Outcome
shift_right a n = pick (ltb n 32) (value (a / 2 ^ n)) (fault 3)
