-- The operations on patterns agree with the integers that the patterns stand for. For each operation of document 01's
-- "Word arithmetic" one theorem; `wrapped` and `Nearest` are of specs/Integers.antt. Comments in quotes are the words of
-- document 01 and of 02, L3.
use Prim.Native.Nat.{ℕ, ◌+◌, ◌-◌, ◌/◌, ◌%◌, ◌^◌, ◌<◌, ◌≤◌, min, max}
use mathlib.Core.Path.{◌≡◌, refl, sym, ap, ap₂, ◌∙◌}
use mathlib.Core.Bool.{false, ◌&&◌}
use mathlib.Core.Logic.{◌↔◌}
use native.Mathlib.Omega.{arith}
use native.Mathlib.Nat.{div-eq_of_lt, lt_of_lt_of_le}
use lib.Pow.{pow_mono}
use borrow.Author.Tests.{ne_eqb, lt-ltb, le-ltb}
use lib.Dec.{ltb, leb-zero}
use lib.IntN.{ℤ, pos, negsuc, neg_ℤ, ◌+ℤ◌, ◌-ℤ◌, ◌*ℤ◌, pow}
use lib.Signed.{mag, lt_z, le_z}
use Rattle.base.specs.Choice.{pick}
use Rattle.base.proofs.Cases.{by_less}
use Rattle.word.specs.Word.{wrap, signed, word, sum, difference, product, negation, rounded, quotient, power, shift_left, shift_right, value, fault}
use Rattle.word.specs.Word.{and_bits, or_bits, xor_bits, not_bits, comparison, related}
use Rattle.word.specs.Integers.{wrapped, Nearest, compared, bit}
use Rattle.word.specs.declared.Relation.{Relation}
use Rattle.word.proofs.Patterns.{word_small, signed_small, signed_word, word_signed, signed_equal, signed_low, signed_high, signed_pos}
use Rattle.word.proofs.Wrapping.{word_sum, word_difference, word_product, word_negation, word_power, word_pos, wrap_right}
use Rattle.word.proofs.Nearest.{rounded_nearest, nearest_only, none_by_zero}
use Rattle.word.proofs.Quotient.{quotient_in_range, signed_not_zero, word_by_minus_one}
use Rattle.word.proofs.Bits.{bitwise_at, bit_shifted}
use Rattle.word.proofs.SignedType.{less_one_pos, less_one_negsuc}
use Rattle.word.proofs.Comparison.{comparison_compared, relation_to_zero}

-- the test of a shift count says whether its reading is 0 to 31
shift_count : (n : ℕ) → ltb n 32 ≡ (le_z (pos 0) (signed n) && lt_z (signed n) (pos 32))
shift_count n =
    by_less n 2147483648
    (λ l. rw (signed_low n l, leb-zero n))
    (λ g. rw (signed_high n g) (le-ltb n 32 (omega arith)))

-- ---- what `wrapped` is: in range, nothing to an integer in range, and the same for integers 2 to the 32 apart

pub wrapped_in_range : (x : ℤ) → mag (wrapped x) < 2147483648
unfolding wrapped
wrapped_in_range x = signed_small (word x) (word_small x)

pub wrapped_keeps : (x : ℤ) → mag x < 2147483648 → wrapped x ≡ x
unfolding wrapped
wrapped_keeps x h = signed_word x h

pub wrapped_repeats : (x : ℤ) → wrapped (x +ℤ pos 4294967296) ≡ wrapped x
unfolding wrapped sum wrap word
wrapped_repeats x = ap signed (word_sum x (pos 4294967296) ∙ omega (arith, word_small x))

-- ---- "Sum, difference, product, negation and power wrap."

module _ (a b : ℕ) (small_a : a < 4294967296) (small_b : b < 4294967296) where
  pub sum_agrees : signed (sum a b) ≡ wrapped (signed a +ℤ signed b)
  unfolding wrapped
  sum_agrees = ap signed (sym (word_sum (signed a) (signed b) ∙ ap₂ sum (word_signed a small_a) (word_signed b small_b)))

  pub difference_agrees : signed (difference a b) ≡ wrapped (signed a -ℤ signed b)
  unfolding wrapped
  difference_agrees = ap signed (sym (word_difference (signed a) (signed b) ∙ ap₂ difference (word_signed a small_a) (word_signed b small_b)))

  pub product_agrees : signed (product a b) ≡ wrapped (signed a *ℤ signed b)
  unfolding wrapped
  product_agrees = ap signed (sym (word_product (signed a) (signed b) ∙ ap₂ product (word_signed a small_a) (word_signed b small_b)))

pub negation_agrees : (a : ℕ) → a < 4294967296 → signed (negation a) ≡ wrapped (neg_ℤ (signed a))
unfolding wrapped
negation_agrees a h = ap signed (sym (word_negation (signed a) ∙ ap negation (word_signed a h)))

-- an exponent that is not negative, and one that is: "2 negative exponent"
pub power_agrees : (a n k : ℕ) → a < 4294967296 → signed n ≡ pos k → power a n ≡ value (word (pow (signed a) k))
unfolding power pick signed
power_agrees a n k h e =
    rw (e, le-ltb k 0 (omega arith))
    (ap value (sym (word_power (signed a) k ∙ ap₂ (λ x m. wrap (x ^ m)) (word_signed a h) (sym (signed_pos n k e)))))

pub power_faults : (a n k : ℕ) → signed n ≡ negsuc k → power a n ≡ fault 2
unfolding power pick signed
power_faults a n k e = rw e

-- ---- "the nearest whole number, halves away from zero .. The least word divided by -1 still wraps to itself, and zero still faults."

-- there is one nearest whole number wherever the divisor is not zero, and none where it is
pub quotient_exists : (a b : ℕ) → b < 4294967296 → (b ≡ 0 → ⊥) → (q : ℤ) × Nearest (signed a) (signed b) q
quotient_exists a b small_b not_zero =
    (rounded (signed a) (signed b), rounded_nearest (signed a) (signed b) (signed_not_zero b small_b not_zero))

pub quotient_unique : (x y p q : ℤ) → Nearest x y p → Nearest x y q → p ≡ q
quotient_unique x y p q s t = nearest_only x y p s ∙ sym (nearest_only x y q t)

-- of words, the quotient is its pattern, and a fault where there is none
pub quotient_agrees : (a b : ℕ) (q : ℤ) → Nearest (signed a) (signed b) q → quotient a b ≡ value (word q)
unfolding quotient pick
quotient_agrees a b q t =
    let not_zero : b ≡ 0 → ⊥ = λ e. none_by_zero (signed a) (signed b) q (rw e (signed_low 0 (omega arith))) t in
    rw (ne_eqb b 0 not_zero) (ap (λ z. value (word z)) (sym (nearest_only (signed a) (signed b) q t)))

pub quotient_faults : (a : ℕ) → (quotient a 0 ≡ fault 1) × ((q : ℤ) → Nearest (signed a) (signed 0) q → ⊥)
unfolding quotient pick
quotient_faults a = (refl, λ q. none_by_zero (signed a) (signed 0) q (signed_low 0 (omega arith)))

-- no quotient leaves the range but that of the least word by -1
pub quotient_exact :
    (a b : ℕ) → a < 4294967296 → b < 4294967296 → (a ≡ 2147483648 → b ≡ 4294967295 → ⊥) →
    (q : ℤ) → Nearest (signed a) (signed b) q → wrapped q ≡ q
quotient_exact a b small_a small_b not_both q t =
    wrapped_keeps q
    (rw (nearest_only (signed a) (signed b) q t)
    (quotient_in_range a b small_a small_b (λ e. none_by_zero (signed a) (signed b) q e t) not_both))

pub quotient_by_minus_one : (a : ℕ) → a < 4294967296 → quotient a 4294967295 ≡ value (negation a)
unfolding quotient pick
quotient_by_minus_one a h = ap value (word_by_minus_one a h)

pub least_by_minus_one : quotient 2147483648 4294967295 ≡ value 2147483648
unfolding quotient pick signed word wrap
least_by_minus_one = refl

-- ---- "Shifts are logical." "shift count outside 0..31"

pub shift_left_agrees : (a n : ℕ) → a < 4294967296 → n < 32 → shift_left a n ≡ value (word (signed a *ℤ pos (2 ^ n)))
unfolding shift_left pick product
shift_left_agrees a n h count =
    rw (lt-ltb n 32 count)
    (ap value (sym (word_product (signed a) (pos (2 ^ n)) ∙ ap₂ product (word_signed a h) (word_pos (2 ^ n)) ∙ wrap_right a (2 ^ n))))

-- each bit moves by n places, with zeros behind the highest
pub shift_right_agrees : (a n : ℕ) → n < 32 → (w : ℕ) × (shift_right a n ≡ value w) × ((i : ℕ) → bit i w ≡ bit (n + i) a)
unfolding shift_right pick
shift_right_agrees a n count = (a / 2 ^ n, rw (lt-ltb n 32 count), λ i. bit_shifted n i a)

pub no_bit_behind : (a i : ℕ) → a < 4294967296 → 32 ≤ i → bit i a ≡ 0
unfolding bit
no_bit_behind a i h behind = ap (λ k. k % 2) (div-eq_of_lt (lt_of_lt_of_le h (pow_mono behind)))

pub shift_faults : (a n : ℕ) → (le_z (pos 0) (signed n) && lt_z (signed n) (pos 32)) ≡ false → (shift_left a n ≡ fault 3) × (shift_right a n ≡ fault 3)
unfolding shift_left shift_right pick
shift_faults a n e = rw (shift_count n ∙ e) (refl, refl)

-- ---- `\`, and the operations on two words bit by bit

pub not_agrees : (a : ℕ) → a < 4294967296 → signed (not_bits a) ≡ negsuc 0 -ℤ signed a
unfolding not_bits
not_agrees a h =
    by_less a 2147483648
    (λ l. rw (signed_low a l, signed_high (4294967295 - a) (omega arith), less_one_pos a) (ap negsuc (omega arith)))
    (λ g. rw (signed_high a g, signed_low (4294967295 - a) (omega arith), less_one_negsuc (4294967295 - a)))

module _ (i a b : ℕ) (within : i < 32) where
  pub and_agrees : bit i (and_bits a b) ≡ min (bit i a) (bit i b)
  unfolding and_bits
  and_agrees = bitwise_at min (λ x y h l. omega arith) 32 i a b within

  pub or_agrees : bit i (or_bits a b) ≡ max (bit i a) (bit i b)
  unfolding or_bits
  or_agrees = bitwise_at max (λ x y h l. omega arith) 32 i a b within

  pub xor_agrees : bit i (xor_bits a b) ≡ (bit i a + bit i b) % 2
  unfolding xor_bits
  xor_agrees = bitwise_at (λ x y. (x + y) % 2) (λ x y h l. omega arith) 32 i a b within

-- ---- "Comparison is signed and never wraps."

pub comparison_agrees : (a b : ℕ) → a < 4294967296 → b < 4294967296 → signed (comparison a b) ≡ compared (signed a) (signed b)
comparison_agrees a b small_a small_b = comparison_compared a b small_a small_b

-- CMP, then a test against zero, is the relation of the two words
pub relation_agrees : (r : Relation) (a b : ℕ) → a < 4294967296 → b < 4294967296 → related r (comparison a b) 0 ≡ related r a b
relation_agrees r a b small_a small_b = relation_to_zero a b small_a small_b r

-- equal words are those with equal readings
pub equal_agrees : (a b : ℕ) → a < 4294967296 → b < 4294967296 → (a ≡ b) ↔ (signed a ≡ signed b)
equal_agrees a b small_a small_b = (ap signed, signed_equal a b small_a small_b)
