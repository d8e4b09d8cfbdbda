-- Laws of numbers that the kit lacks.
use Prim.Native.Nat.{ℕ, zero, suc, ◌+◌, ◌*◌, ◌/◌, ◌%◌, ◌^◌, ◌<◌}
use mathlib.Core.Path.{◌≡◌, sym, ap, ◌∙◌, subst⁻¹}
use native.Mathlib.Nat.{mul_comm, mul_assoc, add-mul-mod_self_right, mod-add-div', add-mul, pow-zero, pow-suc}
use native.Mathlib.Nat.{le_of_lt, lt_of_le_of_lt, mul-le-mul_left, mul-lt-mul_of_pos_right}
use lib.Pow.{pow-add, pow_pos}

-- a factor may be taken modulo m first
pub mod_mul_left : (a b m : ℕ) → (a % m) * b % m ≡ a * b % m
mod_mul_left a b m = sym (ap (λ n. n % m) whole ∙ add-mul-mod_self_right (a % m * b) (a / m * b) m)
  where
    swap : a / m * m * b ≡ a / m * b * m
    swap = mul_assoc (a / m) m b ∙ ap (λ n. a / m * n) (mul_comm m b) ∙ sym (mul_assoc (a / m) b m)

    whole : a * b ≡ a % m * b + a / m * b * m
    whole =
        ap (λ n. n * b) (sym (mod-add-div' a m))
        ∙ add-mul (a % m) (a / m * m) b
        ∙ ap (λ n. a % m * b + n) swap

pub mod_mul_right : (a b m : ℕ) → a * (b % m) % m ≡ a * b % m
mod_mul_right a b m = ap (λ n. n % m) (mul_comm a (b % m)) ∙ mod_mul_left b a m ∙ ap (λ n. n % m) (mul_comm b a)

-- the square of a base with half the exponent
pub pow_square : (a n : ℕ) → (a * a) ^ n ≡ a ^ n * a ^ n
pow_square a zero = pow-zero (a * a) ∙ sym (ap (λ k. k * k) (pow-zero a))
pow_square a (suc n) =
    pow-suc (a * a) n
    ∙ ap (λ k. k * (a * a)) (pow_square a n)
    ∙ regroup (a ^ n) a
    ∙ ap (λ k. k * k) (sym (pow-suc a n))
  where
    regroup : (p q : ℕ) → p * p * (q * q) ≡ p * q * (p * q)
    regroup p q =
        mul_assoc p p (q * q)
        ∙ ap (λ k. p * k) (sym (mul_assoc p q q) ∙ ap (λ k. k * q) (mul_comm p q) ∙ mul_assoc q p q)
        ∙ sym (mul_assoc p q (p * q))

-- the product of two numbers of k bits has at most k + k
pub mul_below : (k : ℕ) {a b : ℕ} → a < 2 ^ k → b < 2 ^ k → a * b < 2 ^ (k + k)
mul_below k {a} {b} ha hb =
    subst⁻¹ (λ (n : ℕ). a * b < n) (pow-add 2 k k)
    (lt_of_le_of_lt (mul-le-mul_left a (le_of_lt hb)) (mul-lt-mul_of_pos_right ha (pow_pos k)))
