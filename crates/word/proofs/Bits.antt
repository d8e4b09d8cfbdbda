-- The kit's operations on bits are those of specs/Word.antt on words.
use Prim.Native.Nat.{ℕ, zero, suc, ◌+◌, ◌*◌, ◌/◌, ◌%◌, ◌^◌, ◌<◌, min, max}
use mathlib.Core.Path.{◌≡◌, refl, sym, ap, ap₂, ◌∙◌}
use native.Mathlib.Omega.{arith}
use native.Mathlib.Nat.{pow-suc, pow-succ', div-div-eq-div-mul, div-one}
use lib.Pow.{pow-add}
use lib.Bits.{bit_and, bit_or, bit_xor, differ, and_step, or_step, xor_step}
use Rattle.word.specs.Word.{bitwise, and_bits, or_bits, xor_bits}
use Rattle.word.specs.Integers.{bit}

half_below : (k a : ℕ) → a < 2 ^ suc k → a / 2 < 2 ^ k
half_below k a h = omega (arith, rw (pow-suc 2 k) at h)

-- an operation that goes by its lowest bits is the one bit by bit
bitwise_is :
    (f g : ℕ → ℕ → ℕ) → ((a b : ℕ) → g a b ≡ g (a / 2) (b / 2) * 2 + f (a % 2) (b % 2)) → g 0 0 ≡ 0 →
    (k a b : ℕ) → a < 2 ^ k → b < 2 ^ k → g a b ≡ bitwise f k a b
unfolding bitwise
bitwise_is f g step none zero a b h l =
    let p : a ≡ 0 = omega arith in
    let q : b ≡ 0 = omega arith in
    rw (p, q) none
bitwise_is f g step none (suc k) a b h l =
    step a b
    ∙ ap (λ n. n * 2 + f (a % 2) (b % 2)) (bitwise_is f g step none k (a / 2) (b / 2) (half_below k a h) (half_below k b l))

pub and_is : (a b : ℕ) → a < 4294967296 → b < 4294967296 → bit_and a b ≡ and_bits a b
unfolding and_bits
and_is a b h l = bitwise_is min bit_and and_step refl 32 a b h l

pub or_is : (a b : ℕ) → a < 4294967296 → b < 4294967296 → bit_or a b ≡ or_bits a b
unfolding or_bits
or_is a b h l = bitwise_is max bit_or or_step refl 32 a b h l

differ_is : (x y : ℕ) → x < 2 → y < 2 → differ x y ≡ (x + y) % 2
differ_is zero y h l = omega arith
differ_is (suc zero) zero h l = refl
differ_is (suc zero) (suc y) h l = omega arith
differ_is (suc (suc x)) y h l = absurd (omega arith)

pub xor_is : (a b : ℕ) → a < 4294967296 → b < 4294967296 → bit_xor a b ≡ xor_bits a b
unfolding xor_bits
xor_is a b h l = bitwise_is (λ x y. (x + y) % 2) bit_xor step refl 32 a b h l
  where
    step : (c d : ℕ) → bit_xor c d ≡ bit_xor (c / 2) (d / 2) * 2 + (c % 2 + d % 2) % 2
    step c d = xor_step c d ∙ ap (λ n. bit_xor (c / 2) (d / 2) * 2 + n) (differ_is (c % 2) (d % 2) (omega arith) (omega arith))

-- the bit at place i + 1 is the bit at place i of the half
bit_suc : (i a : ℕ) → bit (suc i) a ≡ bit i (a / 2)
unfolding bit
bit_suc i a = ap (λ n. a / n % 2) (pow-succ' 2 i) ∙ ap (λ n. n % 2) (sym (div-div-eq-div-mul a 2 (2 ^ i)))

-- a shift to the right moves each bit
pub bit_shifted : (n i a : ℕ) → bit i (a / 2 ^ n) ≡ bit (n + i) a
unfolding bit
bit_shifted n i a = ap (λ k. k % 2) (div-div-eq-div-mul a (2 ^ n) (2 ^ i) ∙ ap (λ k. a / k) (sym (pow-add 2 n i)))

-- each bit of what is made bit by bit
pub bitwise_at :
    (f : ℕ → ℕ → ℕ) → ((x y : ℕ) → x < 2 → y < 2 → f x y < 2) →
    (k i a b : ℕ) → i < k → bit i (bitwise f k a b) ≡ f (bit i a) (bit i b)
unfolding bitwise bit
bitwise_at f two zero i a b h = absurd (omega arith)
bitwise_at f two (suc k) zero a b h =
    let low : f (a % 2) (b % 2) < 2 = two (a % 2) (b % 2) (omega arith) (omega arith) in
    rw (div-one a, div-one b) (omega arith)
bitwise_at f two (suc k) (suc i) a b h =
    let low : f (a % 2) (b % 2) < 2 = two (a % 2) (b % 2) (omega arith) (omega arith) in
    let half : (bitwise f k (a / 2) (b / 2) * 2 + f (a % 2) (b % 2)) / 2 ≡ bitwise f k (a / 2) (b / 2) = omega arith in
    bit_suc i (bitwise f k (a / 2) (b / 2) * 2 + f (a % 2) (b % 2))
    ∙ ap (bit i) half
    ∙ bitwise_at f two k i (a / 2) (b / 2) (omega arith)
    ∙ sym (ap₂ f (bit_suc i a) (bit_suc i b))
