-- How the function comes to a rounded quotient: from the quotient toward zero, by what is left over.
use Rattle.std.proofs.Common.{◌≡◌, ℕ, zero, suc, ◌+◌, ◌-◌, ◌*◌, ◌/◌, ◌%◌, ◌<◌, ◌≤◌, true, false, ltb, ◌⊎◌, ℤ, pos, negsuc, ◌+ℤ◌, ◌-ℤ◌, neg_ℤ, nat_abs, sym, refl, ap, ◌∙◌, ap₂, ⊎_elim, mod-lt, mul_assoc, suc-mul, div-add-mod', div-le_self, arith, to_z-of_z, w32, SFits, to_z, of_z, ltb-false, ltb-true, le-ltb, lt-ltb}
use native.Mathlib.Nat.{div-lt_self}
use lib.IntN.{neg_ℤ-neg_ℤ, +ℤ_idr}
use lib.Arith.{digits_div}
use lib.Signed.{mag, mag_rem, lt_z, quot_z, rem_z, nat_abs-le}
use Rattle.base.proofs.Cases.{by_less}
use Rattle.word.specs.Word.{signed, rounded_size, rounded}
use Rattle.word.proofs.SignedType.{opposite_below}
use Rattle.word.proofs.Nearest.{nat_abs_opposite, positive_size}
use Rattle.word.proofs.Quotient.{rounded_small, quotient_in_range, signed_not_zero}
use Rattle.word_arithmetic.specs.Internal.{outward}

-- ---- the quotient toward zero is in the range of words

toward_zero_small :
    (x y : ℤ) → mag x < 2147483648 → (y ≡ pos 0 → ⊥) → (y ≡ negsuc 0 → ⊥) → mag (quot_z x y) < 2147483648
toward_zero_small (pos a) (pos b) h z m = omega (arith, div-le_self a b)
toward_zero_small (pos a) (negsuc b) h z m = omega (arith, opposite_below (a / suc b) a (omega (arith, div-le_self a (suc b))))
toward_zero_small (negsuc a) (pos b) h z m = omega (arith, opposite_below (suc a / b) a (div-le_self (suc a) b))
toward_zero_small (negsuc a) (negsuc zero) h z m = absurd (m refl)
toward_zero_small (negsuc a) (negsuc (suc b)) h z m =
    let l : suc a / suc (suc b) < suc a = div-lt_self (omega arith) (omega arith) in
    omega arith

-- ---- from the quotient toward zero to the rounded one

module _ (m n : ℕ) where
  whole : m / n * (n * 2) ≡ m / n * n * 2
  whole = sym (mul_assoc (m / n) n 2)

  kept : m % n < n - m % n → rounded_size m n ≡ m / n
  kept h =
      ap (λ k. k / (n * 2)) (omega (arith, whole, div-add-mod' m n))
      ∙ digits_div (m / n) {m = n * 2} {r = m % n * 2 + n} (omega arith)

  raised : 0 < n → n - m % n ≤ m % n → rounded_size m n ≡ suc (m / n)
  raised positive h =
      let rest : m % n < n = mod-lt m positive in
      ap (λ k. k / (n * 2)) (omega (arith, whole, suc-mul (m / n) (n * 2), div-add-mod' m n))
      ∙ digits_div (suc (m / n)) {m = n * 2} {r = m % n * 2 - n} (omega arith)

next : (k : ℕ) → suc k ≡ k + 1
next k = omega arith

next_below : (k : ℕ) → neg_ℤ (pos k) +ℤ negsuc 0 ≡ negsuc k
next_below zero = refl
next_below (suc k) = ap negsuc (omega arith)

rounded_kept : (x y : ℤ) → nat_abs x % nat_abs y < nat_abs y - nat_abs x % nat_abs y → rounded x y ≡ quot_z x y
rounded_kept (pos a) (pos b) h = ap pos (kept a b h)
rounded_kept (pos a) (negsuc b) h = ap (λ k. neg_ℤ (pos k)) (kept a (suc b) h)
rounded_kept (negsuc a) (pos b) h = ap (λ k. neg_ℤ (pos k)) (kept (suc a) b h)
rounded_kept (negsuc a) (negsuc b) h = ap pos (kept (suc a) (suc b) h)

-- half of the divisor or more is left over
abbrev HalfLeft : ℤ → ℤ → Type 0
HalfLeft x y = nat_abs y - nat_abs x % nat_abs y ≤ nat_abs x % nat_abs y

rounded_outward : (x y : ℤ) → 0 < nat_abs y → HalfLeft x y → rounded x y ≡ quot_z x y +ℤ outward x y
rounded_outward (pos a) (pos b) h l = ap pos (raised a b h l ∙ next (a / b))
rounded_outward (pos a) (negsuc b) h l = ap (λ k. neg_ℤ (pos k)) (raised a (suc b) h l) ∙ sym (next_below (a / suc b))
rounded_outward (negsuc a) (pos b) h l = ap (λ k. neg_ℤ (pos k)) (raised (suc a) b h l) ∙ sym (next_below (suc a / b))
rounded_outward (negsuc a) (negsuc b) h l = ap pos (raised (suc a) (suc b) h l ∙ next (suc a / suc b))

outward_small : (x y : ℤ) → mag (outward x y) < 2147483648
outward_small (pos a) (pos b) = omega arith
outward_small (pos a) (negsuc b) = omega arith
outward_small (negsuc a) (pos b) = omega arith
outward_small (negsuc a) (negsuc b) = omega arith

-- ---- sizes, kept below zero

pub minus_small : (x : ℤ) → mag x < 2147483648 → mag (neg_ℤ (pos (nat_abs x))) < 2147483648
minus_small (pos n) h = omega (arith, opposite_below n n (omega arith))
minus_small (negsuc n) h = h

-- n less r, and whether that is more than r
minus_difference : (n r : ℕ) → r ≤ n → neg_ℤ (pos n) -ℤ neg_ℤ (pos r) ≡ neg_ℤ (pos (n - r))
minus_difference zero r h = let e : r ≡ 0 = omega arith in rw e refl
minus_difference (suc n) r h =
    ap (λ z. negsuc n +ℤ z) (neg_ℤ-neg_ℤ (pos r))
    ∙ by_less r (suc n)
    (λ l.
    let e : suc n - r ≡ suc (suc n - suc r) = omega arith in
    rw (lt-ltb r (suc n) l, e) refl)
    (λ g.
    let e : suc n - r ≡ 0 = omega arith in
    let f : r - suc n ≡ 0 = omega arith in
    rw (le-ltb r (suc n) g, e, f) refl)

minus_order : (a b : ℕ) → lt_z (neg_ℤ (pos a)) (neg_ℤ (pos b)) ≡ ltb b a
minus_order zero zero = refl
minus_order zero (suc b) = sym (le-ltb (suc b) 0 (omega arith))
minus_order (suc a) zero = sym (lt-ltb 0 (suc a) (omega arith))
minus_order (suc a) (suc b) =
    by_less b a
    (λ l. lt-ltb b a l ∙ sym (lt-ltb (suc b) (suc a) (omega arith)))
    (λ g. le-ltb b a g ∙ sym (le-ltb (suc b) (suc a) (omega arith)))

-- ---- as the machine works them out: an i32 is kept as its bits and read from them

abbrev pub stored : ℤ → ℤ
stored x = to_z w32 (of_z w32 x)

rest_size : (x y : ℤ) → nat_abs (rem_z x y) ≡ nat_abs x % nat_abs y
rest_size (pos a) y = refl
rest_size (negsuc a) y = nat_abs_opposite (pos (suc a % nat_abs y))

module _ (x y : ℤ) (fits_x : SFits w32 x) (fits_y : SFits w32 y) (not_these : (y ≡ pos 0 → ⊥) × (y ≡ negsuc 0 → ⊥)) where
  toward_fits : SFits w32 (quot_z (stored x) (stored y))
  toward_fits =
      rw (to_z-of_z fits_x, to_z-of_z fits_y) (record { sfits = toward_zero_small x y fits_x.sfits not_these.0 not_these.1 })

  toward : stored (quot_z (stored x) (stored y)) ≡ quot_z x y
  toward = to_z-of_z toward_fits ∙ rw (to_z-of_z fits_x, to_z-of_z fits_y) refl

  rest_stored : stored (rem_z (stored x) (stored y)) ≡ rem_z x y
  rest_stored =
      rw (to_z-of_z fits_x, to_z-of_z fits_y) (to_z-of_z {w = w32} (record { sfits = omega (arith, mag_rem x y, fits_x.sfits) }))

  divisor_size : 0 < nat_abs y
  divisor_size = positive_size y not_these.0

  -- r and s are the sizes of the rest and of the divisor, below zero
  module _ (r s : ℤ) (is_r : r ≡ neg_ℤ (pos (nat_abs (stored (rem_z (stored x) (stored y)))))) (is-s : s ≡ neg_ℤ (pos (nat_abs (stored y)))) where
    rest : stored r ≡ neg_ℤ (pos (nat_abs x % nat_abs y))
    rest =
        let e : r ≡ neg_ℤ (pos (nat_abs (rem_z x y))) = is_r ∙ ap (λ z. neg_ℤ (pos (nat_abs z))) rest_stored in
        rw e (to_z-of_z {w = w32} (record { sfits = minus_small (rem_z x y) (omega (arith, mag_rem x y, fits_x.sfits)) }))
        ∙ ap (λ k. neg_ℤ (pos k)) (rest_size x y)

    divisor : stored s ≡ neg_ℤ (pos (nat_abs y))
    divisor =
        let e : s ≡ neg_ℤ (pos (nat_abs y)) = is-s ∙ ap (λ z. neg_ℤ (pos (nat_abs z))) (to_z-of_z fits_y) in
        rw e (to_z-of_z {w = w32} (record { sfits = minus_small y fits_y.sfits }))

    left_over : stored s -ℤ stored r ≡ neg_ℤ (pos (nat_abs y - nat_abs x % nat_abs y))
    left_over =
        let l : nat_abs x % nat_abs y < nat_abs y = mod-lt (nat_abs x) divisor_size in
        rw (rest, divisor) (minus_difference (nat_abs y) (nat_abs x % nat_abs y) (omega arith))

    pub left_fits : SFits w32 (stored s -ℤ stored r)
    left_fits =
        let n : nat_abs y ≤ 2147483648 = nat_abs-le y fits_y.sfits in
        let l = opposite_below (nat_abs y - nat_abs x % nat_abs y) 2147483647 (omega arith) in
        rw left_over (record { sfits = omega (arith, l) })

    test : lt_z (stored (stored s -ℤ stored r)) (stored r) ≡ ltb (nat_abs x % nat_abs y) (nat_abs y - nat_abs x % nat_abs y)
    test = rw (to_z-of_z left_fits, left_over, rest) (minus_order (nat_abs y - nat_abs x % nat_abs y) (nat_abs x % nat_abs y))

    -- the bits of the step: 0 where less than half is left over, else those of the step away from zero
    module _ (o : ℤ) (step : ℕ) (is_o : o ≡ outward (stored x) (stored y)) where
      abbrev pub Chosen : Type 0
      Chosen =
          ((lt_z (stored (stored s -ℤ stored r)) (stored r) ≡ true) × (to_z w32 step ≡ pos 0))
          ⊎ ((lt_z (stored (stored s -ℤ stored r)) (stored r) ≡ false) × (to_z w32 step ≡ stored o))

      is_outward : o ≡ outward x y
      is_outward = is_o ∙ ap₂ outward (to_z-of_z fits_x) (to_z-of_z fits_y)

      sum_is : Chosen → stored (quot_z (stored x) (stored y)) +ℤ to_z w32 step ≡ rounded x y
      sum_is =
          ⊎_elim
          (λ w. rw (w.1, toward) (+ℤ_idr (quot_z x y) ∙ sym (rounded_kept x y (ltb-true _ _ (sym test ∙ w.0)))))
          (λ w.
          rw (w.1, toward, is_outward, to_z-of_z {w = w32} (record { sfits = outward_small x y }))
          (sym (rounded_outward x y divisor_size (ltb-false _ _ (sym test ∙ w.0)))))

      pub stepped_fits : Chosen → SFits w32 (stored (quot_z (stored x) (stored y)) +ℤ to_z w32 step)
      stepped_fits e = rw (sum_is e) (record { sfits = rounded_small x y fits_x.sfits not_these.0 not_these.1 })

      pub stepped : Chosen → stored (stored (quot_z (stored x) (stored y)) +ℤ to_z w32 step) ≡ rounded x y
      stepped e = to_z-of_z (stepped_fits e) ∙ sum_is e

-- a rounded quotient of words, as an i32
pub rounded_stored :
    (a b : ℕ) (q : ℤ) → a < 4294967296 → b < 4294967296 → (b ≡ 0 → ⊥) → (b ≡ 4294967295 → ⊥) →
    q ≡ rounded (signed a) (signed b) → stored q ≡ rounded (signed a) (signed b)
rounded_stored a b q small_a small_b not_zero not_minus_one e =
    rw e
    (to_z-of_z {w = w32} (record { sfits = quotient_in_range a b small_a small_b (signed_not_zero b small_b not_zero) (λ l m. not_minus_one m) }))
