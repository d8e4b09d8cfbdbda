-- Rounded division on the integers: `rounded x y` is the nearest whole number to x / y, and no other is.
use Prim.Native.Nat.{ℕ, zero, suc, ◌+◌, ◌-◌, ◌*◌, ◌/◌, ◌%◌, ◌<◌, ◌≤◌}
use mathlib.Core.Path.{◌≡◌, refl, sym, ap, ◌∙◌}
use native.Mathlib.Omega.{arith}
use native.Mathlib.Nat.{div-add-mod', mod-lt, mul_assoc, suc-mul, mul-le-mul_right, zero-mul, le_antisymm}
use borrow.Author.Tests.{lt-ltb, le-ltb}
use lib.IntN.{ℤ, pos, negsuc, neg_ℤ, nat_abs, ◌+ℤ◌, ◌-ℤ◌, ◌*ℤ◌, neg_ℤ-neg_ℤ, neg_ℤ-+ℤ, *ℤ-negsuc, *ℤ-zero}
use Rattle.base.proofs.Cases.{by_less}
use Rattle.word.specs.Word.{rounded_size, rounded}
use Rattle.word.specs.Integers.{distance, Nearest}

-- ---- of numbers that are not negative: the multiples of n around m

-- how far two numbers are apart
abbrev gap : ℕ → ℕ → ℕ
gap a b = (a - b) + (b - a)

-- the rounded quotient's multiple of n is less than half of n below m, or at most half of n above it
pub record Around (m n : ℕ) : Type 0 where
  pub low : rounded_size m n * n * 2 ≤ m * 2 + n
  pub high : m * 2 < rounded_size m n * n * 2 + n

quotient_around : (q a d : ℕ) → q ≡ a / d → 0 < d → (q * d ≤ a) × (a < q * d + d)
quotient_around q a d e h =
    let whole : a / d * d + a % d ≡ a = div-add-mod' a d in
    let rest : a % d < d = mod-lt a h in
    rw e (omega arith, omega arith)

pub around : (m n : ℕ) → 0 < n → Around m n
around m n h =
    let b = quotient_around (rounded_size m n) _ _ refl (omega arith) in
    let twice : rounded_size m n * n * 2 ≡ rounded_size m n * (n * 2) = mul_assoc (rounded_size m n) n 2 in
    record { low = omega (arith, b.0, b.1, twice); high = omega (arith, b.0, b.1, twice) }

-- one multiple is n or more below the next
pub below : (k l n : ℕ) → k < l → k * n + n ≤ l * n
below k l n h = rw (← suc-mul k n) (mul-le-mul_right n h)

module _ (m n : ℕ) (positive : 0 < n) where
  nearer : (k : ℕ) → gap m (rounded_size m n * n) ≤ gap m (k * n)
  nearer k =
      let a = around m n positive in
      by_less k (rounded_size m n)
      (λ l. omega (arith, a.low, a.high, below k (rounded_size m n) n l))
      (λ g.
      by_less (rounded_size m n) k
      (λ l. omega (arith, a.low, a.high, below (rounded_size m n) k n l))
      (λ l. rw (le_antisymm l g) (omega arith)))

  farther : (k : ℕ) → gap m (k * n) ≡ gap m (rounded_size m n * n) → k ≤ rounded_size m n
  farther k e =
      let a = around m n positive in
      by_less (rounded_size m n) k
      (λ l. absurd (omega (arith, e, a.low, a.high, below (rounded_size m n) k n l)))
      (λ g. g)

-- ---- the same with a dividend and a divisor that are not negative, and any integer for the quotient

-- the size of a difference
gap_size : (a b : ℕ) → nat_abs (pos a -ℤ pos b) ≡ gap a b
gap_size a zero = omega arith
gap_size a (suc b) =
    by_less a (suc b)
    (λ l. rw (lt-ltb a (suc b) l) (omega arith))
    (λ g. rw (le-ltb a (suc b) g) (omega arith))

-- how far a quotient below zero is off
below_zero_off : (m n k : ℕ) → nat_abs (pos m -ℤ negsuc k *ℤ pos n) ≡ m + suc k * n
below_zero_off m n k = rw (neg_ℤ-neg_ℤ (pos (suc k * n)))

-- an integer that is one of the numbers 0 to most
pub record UpTo (most : ℕ) (p : ℤ) : Type 0 where
  pub number : ℕ
  pub is : p ≡ pos number
  pub within : number ≤ most

module _ (m n : ℕ) (positive : 0 < n) where
  near_size : (p : ℤ) → nat_abs (pos m -ℤ pos (rounded_size m n) *ℤ pos n) ≤ nat_abs (pos m -ℤ p *ℤ pos n)
  near_size (pos k) = rw (gap_size m (rounded_size m n * n), gap_size m (k * n)) (nearer m n positive k)
  near_size (negsuc k) =
      let a = around m n positive in
      rw (gap_size m (rounded_size m n * n), below_zero_off m n k, suc-mul k n) (omega (arith, a.low, a.high))

  away_size : (p : ℤ) → nat_abs (pos m -ℤ p *ℤ pos n) ≡ nat_abs (pos m -ℤ pos (rounded_size m n) *ℤ pos n) → UpTo (rounded_size m n) p
  away_size (pos k) e = record {
    number = k;
    is = refl;
    within = farther m n positive k (sym (gap_size m (k * n)) ∙ e ∙ gap_size m (rounded_size m n * n));
  }
  away_size (negsuc k) e =
      let a = around m n positive in
      let f : m + suc k * n ≡ gap m (rounded_size m n * n) = sym (below_zero_off m n k) ∙ e ∙ gap_size m (rounded_size m n * n) in
      absurd (omega (arith, rw (suc-mul k n) at f, a.low, a.high))

-- ---- any dividend and divisor: p, or -p where just one of the two is below zero

pub nat_abs_opposite : (z : ℤ) → nat_abs (neg_ℤ z) ≡ nat_abs z
nat_abs_opposite (pos zero) = refl
nat_abs_opposite (pos (suc n)) = refl
nat_abs_opposite (negsuc n) = refl

opposite_times : (p : ℤ) (n : ℕ) → neg_ℤ p *ℤ pos n ≡ neg_ℤ (p *ℤ pos n)
opposite_times (pos zero) n = ap pos (zero-mul n) ∙ sym (ap (λ k. neg_ℤ (pos k)) (zero-mul n))
opposite_times (pos (suc k)) n = refl
opposite_times (negsuc k) n = sym (neg_ℤ-neg_ℤ (pos (suc k * n)))

opposite_difference : (x y : ℤ) → neg_ℤ (x -ℤ y) ≡ neg_ℤ x +ℤ y
opposite_difference x y = neg_ℤ-+ℤ x (neg_ℤ y) ∙ ap (λ z. neg_ℤ x +ℤ z) (neg_ℤ-neg_ℤ y)

abbrev turned : ℤ → ℤ → ℤ → ℤ
turned (pos m) (pos n) p = p
turned (pos m) (negsuc n) p = neg_ℤ p
turned (negsuc m) (pos n) p = neg_ℤ p
turned (negsuc m) (negsuc n) p = p

turned_twice : (x y p : ℤ) → turned x y (turned x y p) ≡ p
turned_twice (pos m) (pos n) p = refl
turned_twice (pos m) (negsuc n) p = neg_ℤ-neg_ℤ p
turned_twice (negsuc m) (pos n) p = neg_ℤ-neg_ℤ p
turned_twice (negsuc m) (negsuc n) p = refl

turned_size : (x y p : ℤ) → nat_abs (turned x y p) ≡ nat_abs p
turned_size (pos m) (pos n) p = refl
turned_size (pos m) (negsuc n) p = nat_abs_opposite p
turned_size (negsuc m) (pos n) p = nat_abs_opposite p
turned_size (negsuc m) (negsuc n) p = refl

rounded_turned : (x y : ℤ) → rounded x y ≡ turned x y (pos (rounded_size (nat_abs x) (nat_abs y)))
rounded_turned (pos m) (pos n) = refl
rounded_turned (pos m) (negsuc n) = refl
rounded_turned (negsuc m) (pos n) = refl
rounded_turned (negsuc m) (negsuc n) = refl

-- a distance goes by the sizes of the two
distance_size : (x y p : ℤ) → distance x y p ≡ nat_abs (pos (nat_abs x) -ℤ turned x y p *ℤ pos (nat_abs y))
unfolding distance
distance_size (pos m) (pos n) p = refl
distance_size (pos m) (negsuc n) p = ap (λ z. nat_abs (pos m -ℤ z)) (*ℤ-negsuc p n ∙ sym (opposite_times p (suc n)))
distance_size (negsuc m) (pos n) p =
    ap nat_abs (ap (λ z. negsuc m +ℤ z) (sym (opposite_times p n)) ∙ sym (opposite_difference (pos (suc m)) (neg_ℤ p *ℤ pos n)))
    ∙ nat_abs_opposite (pos (suc m) -ℤ neg_ℤ p *ℤ pos n)
distance_size (negsuc m) (negsuc n) p =
    ap nat_abs
    (ap (λ z. negsuc m -ℤ z) (*ℤ-negsuc p n)
    ∙ ap (λ z. negsuc m +ℤ z) (neg_ℤ-neg_ℤ (p *ℤ pos (suc n)))
    ∙ sym (opposite_difference (pos (suc m)) (p *ℤ pos (suc n))))
    ∙ nat_abs_opposite (pos (suc m) -ℤ p *ℤ pos (suc n))

-- ---- there is a nearest whole number, and only one

pub positive_size : (y : ℤ) → (y ≡ pos 0 → ⊥) → 0 < nat_abs y
positive_size (pos zero) h = absurd (h refl)
positive_size (pos (suc n)) h = omega arith
positive_size (negsuc n) h = omega arith

module _ (x y : ℤ) where
  -- the rounded quotient's distance, by the sizes
  rounded_off : distance x y (rounded x y) ≡ nat_abs (pos (nat_abs x) -ℤ pos (rounded_size (nat_abs x) (nat_abs y)) *ℤ pos (nat_abs y))
  rounded_off =
      distance_size x y (rounded x y)
      ∙ ap (λ p. nat_abs (pos (nat_abs x) -ℤ p *ℤ pos (nat_abs y)))
      (ap (turned x y) (rounded_turned x y) ∙ turned_twice x y (pos (rounded_size (nat_abs x) (nat_abs y))))

  rounded_size_law : nat_abs (rounded x y) ≡ rounded_size (nat_abs x) (nat_abs y)
  rounded_size_law = ap nat_abs (rounded_turned x y) ∙ turned_size x y (pos (rounded_size (nat_abs x) (nat_abs y)))

  -- one as near is, turned to the sizes' side, a number up to the rounded quotient's size
  as_near : (y ≡ pos 0 → ⊥) → (p : ℤ) → distance x y p ≡ distance x y (rounded x y) → UpTo (rounded_size (nat_abs x) (nat_abs y)) (turned x y p)
  as_near h p e =
      away_size (nat_abs x) (nat_abs y) (positive_size y h) (turned x y p) (sym (distance_size x y p) ∙ e ∙ rounded_off)

  pub rounded_nearest : (y ≡ pos 0 → ⊥) → Nearest x y (rounded x y)
  rounded_nearest h = record {
    near = λ p. rw (rounded_off, distance_size x y p) (near_size (nat_abs x) (nat_abs y) (positive_size y h) (turned x y p));
    away = λ p e.
        let u = as_near h p e in
        rw (rounded_size_law, ← turned_size x y p, u.is) u.within;
  }

  -- by zero no number is nearest: all are as near, and there is always one farther from zero
  pub none_by_zero : (q : ℤ) → y ≡ pos 0 → Nearest x y q → ⊥
  unfolding distance
  none_by_zero q e t =
      let further = t.away (pos (suc (nat_abs q))) (rw (e, *ℤ-zero q, *ℤ-zero (pos (suc (nat_abs q)))) refl) in
      omega (arith, further)

  pub nearest_only : (q : ℤ) → Nearest x y q → q ≡ rounded x y
  nearest_only q t =
      let not_zero : y ≡ pos 0 → ⊥ = λ e. none_by_zero q e t in
      let r = rounded_nearest not_zero in
      let same : distance x y (rounded x y) ≡ distance x y q = le_antisymm (r.near q) (t.near (rounded x y)) in
      let u = as_near not_zero q (sym same) in
      let size : rounded_size (nat_abs x) (nat_abs y) ≤ nat_abs q = rw (← rounded_size_law) (t.away (rounded x y) same) in
      let number : nat_abs q ≡ u.number = sym (turned_size x y q) ∙ ap nat_abs u.is in
      sym (turned_twice x y q)
      ∙ ap (turned x y) (u.is ∙ ap pos (omega (arith, u.within, size, number)))
      ∙ sym (rounded_turned x y)
