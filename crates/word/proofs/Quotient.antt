-- The range of rounded quotients: by -1 a quotient is the negation, and every other one is in the range of words.
use Prim.Native.Nat.{ℕ, zero, suc, ◌+◌, ◌*◌, ◌<◌, ◌≤◌}
use mathlib.Core.Path.{◌≡◌, refl, sym, ap, ◌∙◌}
use native.Mathlib.Omega.{arith}
use native.Mathlib.Nat.{mul_comm, suc-mul, le-mul_of_pos_right}
use lib.IntN.{ℤ, pos, negsuc, neg_ℤ}
use lib.Signed.{mag}
use Rattle.base.proofs.Cases.{by_less, by_equal}
use Rattle.word.specs.Word.{signed, word, negation, rounded_size, rounded}
use Rattle.word.proofs.Patterns.{signed_low, signed_high, signed_small, signed_equal, word_signed}
use Rattle.word.proofs.Wrapping.{word_negation}
use Rattle.word.proofs.SignedType.{opposite_below, negation_small}
use Rattle.word.proofs.Nearest.{around, below}

-- ---- by -1

size_by_one : (n : ℕ) → rounded_size n 1 ≡ n
size_by_one n = omega arith

by_minus_one : (x : ℤ) → rounded x (negsuc 0) ≡ neg_ℤ x
by_minus_one (pos n) = ap (λ k. neg_ℤ (pos k)) (size_by_one n)
by_minus_one (negsuc n) = ap pos (size_by_one (suc n))

pub word_by_minus_one : (a : ℕ) → a < 4294967296 → word (rounded (signed a) (signed 4294967295)) ≡ negation a
word_by_minus_one a h =
    rw (signed_high 4294967295 (omega arith), by_minus_one (signed a), word_negation (signed a), word_signed a h)

-- ---- by any other number: in the range

size_at_most : (m n : ℕ) → 0 < n → rounded_size m n ≤ m
size_at_most m n h =
    by_less m (rounded_size m n)
    (λ l. absurd (omega (arith, (around m n h).low, below m (rounded_size m n) n l, le-mul_of_pos_right m h)))
    (λ g. g)

half_at_most : (m b : ℕ) → rounded_size m (suc (suc b)) * 2 ≤ m + 1
half_at_most m b =
    let q = rounded_size m (suc (suc b)) in
    let parted : q * suc (suc b) ≡ b * q + q + q = mul_comm q (suc (suc b)) ∙ suc-mul (suc b) q ∙ ap (λ k. k + q) (suc-mul b q) in
    by_less 0 q
    (λ l. omega (arith, (around m (suc (suc b)) (omega arith)).low, parted, le-mul_of_pos_right b l))
    (λ g. omega arith)

pub rounded_small :
    (x y : ℤ) → mag x < 2147483648 → (y ≡ pos 0 → ⊥) → (y ≡ negsuc 0 → ⊥) → mag (rounded x y) < 2147483648
rounded_small x (pos zero) h z m = absurd (z refl)
rounded_small (pos a) (pos (suc b)) h z m = omega (arith, size_at_most a (suc b) (omega arith))
rounded_small (pos a) (negsuc b) h z m =
    let s : rounded_size a (suc b) ≤ a = size_at_most a (suc b) (omega arith) in
    omega (arith, opposite_below (rounded_size a (suc b)) a (omega arith))
rounded_small (negsuc a) (pos (suc b)) h z m =
    omega (arith, opposite_below (rounded_size (suc a) (suc b)) a (size_at_most (suc a) (suc b) (omega arith)))
rounded_small (negsuc a) (negsuc zero) h z m = absurd (m refl)
rounded_small (negsuc a) (negsuc (suc b)) h z m = omega (arith, half_at_most (suc a) b)

-- ---- the same of words

pub signed_not_zero : (b : ℕ) → b < 4294967296 → (b ≡ 0 → ⊥) → signed b ≡ pos 0 → ⊥
signed_not_zero b h not_zero e = not_zero (signed_equal b 0 h (omega arith) (e ∙ sym (signed_low 0 (omega arith))))

pub signed_not_minus_one : (b : ℕ) → b < 4294967296 → (b ≡ 4294967295 → ⊥) → signed b ≡ negsuc 0 → ⊥
signed_not_minus_one b h not_minus_one e =
    not_minus_one (signed_equal b 4294967295 h (omega arith) (e ∙ sym (signed_high 4294967295 (omega arith))))

pub quotient_in_range :
    (a b : ℕ) → a < 4294967296 → b < 4294967296 → (signed b ≡ pos 0 → ⊥) → (a ≡ 2147483648 → b ≡ 4294967295 → ⊥) →
    mag (rounded (signed a) (signed b)) < 2147483648
quotient_in_range a b small_a small_b not_zero not_both =
    by_equal b 4294967295
    (λ e. rw (e, signed_high 4294967295 (omega arith), by_minus_one (signed a)) (negation_small a small_a (λ l. not_both l e)))
    (λ n. rounded_small (signed a) (signed b) (signed_small a small_a) not_zero (signed_not_minus_one b small_b n))
