-- Power by repeated squaring: what stays the same in a turn of the loop, and how many products it takes.
use Rattle.std.proofs.Common.{◌≡◌, ℕ, zero, suc, ◌+◌, ◌*◌, ◌/◌, ◌%◌, ◌^◌, ◌<◌, ◌≤◌, sym, ap, ◌∙◌, le_of_eq, mul-le-mul_right, mul_assoc, mul_comm, one-mul, pow-suc, mul-one, arith, pow_mono, pow-add}
use native.Mathlib.Nat.{pow-zero, pow-succ'}
use Rattle.base.proofs.Cases.{by_less}
use Rattle.base.proofs.Numbers.{pow_square}
use Rattle.word.specs.Word.{wrap, product}
use Rattle.word_arithmetic.specs.Internal.{PowerOf}
use Rattle.word.proofs.Wrapping.{wrap_left, wrap_right, wrap_small}

-- a base may be wrapped first
wrap_power : (a n : ℕ) → wrap (wrap a ^ n) ≡ wrap (a ^ n)
wrap_power a zero = ap wrap (pow-zero (wrap a) ∙ sym (pow-zero a))
wrap_power a (suc n) =
    ap wrap (pow-suc (wrap a) n)
    ∙ wrap_right (wrap a ^ n) a
    ∙ sym (wrap_left (wrap a ^ n) a)
    ∙ ap (λ k. wrap (k * a)) (wrap_power a n)
    ∙ wrap_left (a ^ n) a
    ∙ ap wrap (sym (pow-suc a n))

-- the square of the base, with half the exponent
squared : (x base n : ℕ) → wrap (x * product base base ^ n) ≡ wrap (x * base ^ (n + n))
unfolding product
squared x base n =
    sym (wrap_right x (wrap (base * base) ^ n))
    ∙ ap (λ k. wrap (x * k)) (wrap_power (base * base) n)
    ∙ wrap_right x ((base * base) ^ n)
    ∙ ap (λ k. wrap (x * k)) (pow_square base n ∙ sym (pow-add base n n))

even_turn : (acc base left : ℕ) → (left % 2 ≡ 1 → ⊥) → wrap (acc * product base base ^ (left / 2)) ≡ wrap (acc * base ^ left)
even_turn acc base left even = squared acc base (left / 2) ∙ ap (λ k. wrap (acc * base ^ k)) (omega arith)

odd_turn : (acc base left : ℕ) → left % 2 ≡ 1 → wrap (product acc base * product base base ^ (left / 2)) ≡ wrap (acc * base ^ left)
unfolding product
odd_turn acc base left odd =
    squared (wrap (acc * base)) base half
    ∙ wrap_left (acc * base) (base ^ (half + half))
    ∙ ap wrap
    (mul_assoc acc base (base ^ (half + half))
    ∙ ap (λ k. acc * k) (mul_comm base (base ^ (half + half)) ∙ sym (pow-suc base (half + half)))
    ∙ ap (λ k. acc * base ^ k) (omega arith))
  where
    half : ℕ
    half = left / 2

-- ---- the loop's invariant: after some turns, each of which takes at most two products and halves what is left

pub record Squared (a n acc base left products turns : ℕ) : Type 0 where
  pub right : wrap (acc * base ^ left) ≡ wrap (a ^ n)
  pub small : acc < 4294967296
  pub within : left * 2 ^ turns ≤ n
  pub short : 2 ^ turns ≤ 2 * n + 1
  pub few : products ≤ 2 * turns

abbrev pub Loop : (a n acc base left products : ℕ) → Type 0
Loop a n acc base left products = (turns : ℕ) × Squared a n acc base left products turns

pub start : (a n : ℕ) → Loop a n 1 a n 0
start a n = (
  0,
  record {
    right = ap wrap (one-mul (a ^ n));
    small = omega arith;
    within = le_of_eq (mul-one n);
    short = omega arith;
    few = omega arith;
  },
)

-- the bounds on the turns after one more
module _ (n left turns : ℕ) (within : left * 2 ^ turns ≤ n) (more : 0 < left) where
  within_next : left / 2 * 2 ^ suc turns ≤ n
  within_next =
      let regroup : left / 2 * 2 ^ suc turns ≡ left / 2 * 2 * 2 ^ turns = rw (pow-succ' 2 turns) (sym (mul_assoc (left / 2) 2 (2 ^ turns))) in
      let half : left / 2 * 2 * 2 ^ turns ≤ left * 2 ^ turns = mul-le-mul_right (2 ^ turns) (omega arith) in
      omega arith

  short_next : 2 ^ suc turns ≤ 2 * n + 1
  short_next =
      let double : 2 ^ suc turns ≡ 2 ^ turns * 2 = pow-suc 2 turns in
      let one_part : 1 * 2 ^ turns ≤ left * 2 ^ turns = mul-le-mul_right (2 ^ turns) more in
      omega arith

pub after_odd :
    (a n acc base left products : ℕ) → left % 2 ≡ 1 → 0 < left → Loop a n acc base left products →
    Loop a n (product acc base) (product base base) (left / 2) (products + 1 + 1)
unfolding product
after_odd a n acc base left products odd more (turns, s) = (
  suc turns,
  record {
    right = odd_turn acc base left odd ∙ s.right;
    small = wrap_small (acc * base);
    within = within_next n left turns s.within more;
    short = short_next n left turns s.within more;
    few = omega (arith, s.few);
  },
)

pub after_even :
    (a n acc base left products : ℕ) → (left % 2 ≡ 1 → ⊥) → 0 < left → Loop a n acc base left products →
    Loop a n acc (product base base) (left / 2) (products + 1)
after_even a n acc base left products even more (turns, s) = (
  suc turns,
  record {
    right = even_turn acc base left even ∙ s.right;
    small = s.small;
    within = within_next n left turns s.within more;
    short = short_next n left turns s.within more;
    few = omega (arith, s.few);
  },
)

turns_below : (turns limit : ℕ) → 2 ^ turns < 2 ^ limit → turns < limit
turns_below turns limit h = by_less turns limit (λ l. l) (λ g. absurd (omega (arith, pow_mono g)))

-- the count of products is far from wrapping
pub products_fit : (a n acc base left products : ℕ) → n < 4294967296 → Loop a n acc base left products → products ≤ 64
products_fit a n acc base left products h (turns, s) =
    omega (arith, turns_below turns 33 (omega (arith, s.short)), s.few)

pub finish : (a n acc base left products : ℕ) → left ≤ 0 → Loop a n acc base left products → PowerOf a n acc products
unfolding wrap
finish a n acc base left products done (turns, s) = record {
  right =
      let none : left ≡ 0 = omega arith in
      let last : wrap (acc * base ^ 0) ≡ wrap (a ^ n) = rw none at s.right in
      omega (arith, s.small, rw (pow-zero base, mul-one acc) at last);
  few = λ h. omega (arith, turns_below turns 32 (omega (arith, s.short)), s.few);
}
