-- What an operation gives is a word: a number below 2 to the 32.
use Prim.Native.Nat.{ℕ, zero, suc, ◌+◌, ◌-◌, ◌*◌, ◌/◌, ◌%◌, ◌^◌, ◌<◌, min, max}
use mathlib.Core.Path.{◌≡◌}
use mathlib.Core.Bool.{Bool, true, false}
use native.Mathlib.Omega.{arith}
use native.Mathlib.Nat.{pow-suc, div-le_self}
use lib.Dec.{ltb, eqb}
use lib.IntN.{negsuc}
use lib.Signed.{lt_z}
use Rattle.base.specs.Choice.{pick}
use Rattle.base.proofs.Cases.{by_test}
use Rattle.word.specs.Word.{wrap, signed, word, sum, difference, product, negation, bitwise, and_bits, or_bits, xor_bits, not_bits}
use Rattle.word.specs.Word.{comparison, value, fault, rounded, quotient, power, shift_left, shift_right}
use Rattle.word.proofs.Patterns.{word_small}
use Rattle.word.proofs.Wrapping.{wrap_small}

module _ (a b : ℕ) where
  pub sum_closed : sum a b < 4294967296
  unfolding sum
  sum_closed = wrap_small (a + b)

  pub difference_closed : difference a b < 4294967296
  unfolding difference
  difference_closed = wrap_small (a + (4294967296 - b))

  pub product_closed : product a b < 4294967296
  unfolding product
  product_closed = wrap_small (a * b)

pub negation_closed : (a : ℕ) → negation a < 4294967296
unfolding negation
negation_closed a = wrap_small (4294967296 - a)

pub not_closed : (a : ℕ) → not_bits a < 4294967296
unfolding not_bits
not_closed a = omega arith

-- k bits make a number below 2 to the k
bitwise_below : (f : ℕ → ℕ → ℕ) → ((x y : ℕ) → x < 2 → y < 2 → f x y < 2) → (k a b : ℕ) → bitwise f k a b < 2 ^ k
unfolding bitwise
bitwise_below f two zero a b = omega arith
bitwise_below f two (suc k) a b =
    let low : f (a % 2) (b % 2) < 2 = two (a % 2) (b % 2) (omega arith) (omega arith) in
    rw (pow-suc 2 k) (omega (arith, bitwise_below f two k (a / 2) (b / 2)))

module _ (a b : ℕ) where
  pub and_closed : and_bits a b < 4294967296
  unfolding and_bits
  and_closed = bitwise_below min (λ x y h l. omega arith) 32 a b

  pub or_closed : or_bits a b < 4294967296
  unfolding or_bits
  or_closed = bitwise_below max (λ x y h l. omega arith) 32 a b

  pub xor_closed : xor_bits a b < 4294967296
  unfolding xor_bits
  xor_closed = bitwise_below (λ x y. (x + y) % 2) (λ x y h l. omega arith) 32 a b

  pub comparison_closed : comparison a b < 4294967296
  unfolding comparison pick
  comparison_closed =
      by_test (lt_z (signed a) (signed b))
      (λ l. rw l (word_small (negsuc 0)))
      (λ g. by_test (eqb a b) (λ e. rw (g, e) (omega arith)) (λ n. rw (g, n) (omega arith)))

-- ---- the operations that may fault, where they give a value

value_is : (v w : ℕ) → value v ≡ value w → v ≡ w
value_is v w e = cc

no_value_law : {P : Type 0} (n w : ℕ) → fault n ≡ value w → P
no_value_law n w e = let z : ◌≡◌ {A = ℕ} 0 1 = cc in absurd (omega arith)

-- by a test, a fault or a value that is a word
picked : (t : Bool) (n v w : ℕ) → v < 4294967296 → pick t (fault n) (value v) ≡ value w → w < 4294967296
unfolding pick
picked true n v w h e = no_value_law n w e
picked false n v w h e = rw (← value_is v w e) h

picked_else : (t : Bool) (n v w : ℕ) → v < 4294967296 → pick t (value v) (fault n) ≡ value w → w < 4294967296
unfolding pick
picked_else true n v w h e = rw (← value_is v w e) h
picked_else false n v w h e = no_value_law n w e

module _ (a b w : ℕ) where
  pub quotient_closed : quotient a b ≡ value w → w < 4294967296
  unfolding quotient
  quotient_closed e = picked (eqb b 0) 1 (word (rounded (signed a) (signed b))) w (word_small (rounded (signed a) (signed b))) e

  pub power_closed : power a b ≡ value w → w < 4294967296
  unfolding power
  power_closed e = picked (lt_z (signed b) (signed 0)) 2 (wrap (a ^ b)) w (wrap_small (a ^ b)) e

  pub shift_left_closed : shift_left a b ≡ value w → w < 4294967296
  unfolding shift_left
  shift_left_closed e = picked_else (ltb b 32) 3 (wrap (a * 2 ^ b)) w (wrap_small (a * 2 ^ b)) e

  pub shift_right_closed : a < 4294967296 → shift_right a b ≡ value w → w < 4294967296
  unfolding shift_right
  shift_right_closed h e = picked_else (ltb b 32) 3 (a / 2 ^ b) w (omega (arith, div-le_self a (2 ^ b))) e
