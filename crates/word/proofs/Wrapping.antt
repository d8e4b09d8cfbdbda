-- `word` goes through the operations that wrap: the pattern of a sum is the sum of the patterns, and so on.
use Prim.Native.Nat.{ℕ, zero, suc, ◌+◌, ◌-◌, ◌*◌, ◌%◌, ◌^◌, ◌<◌, ◌≤◌}
use mathlib.Core.Path.{◌≡◌, refl, sym, ap, ap₂, ◌∙◌}
use native.Mathlib.Omega.{arith}
use native.Mathlib.Nat.{mul_comm, mul-sub, mul-le-mul_left, pow-zero, pow-suc}
use borrow.Author.Tests.{lt-ltb, le-ltb}
use lib.IntN.{ℤ, pos, negsuc, neg_ℤ, ◌+ℤ◌, ◌-ℤ◌, ◌*ℤ◌, sub_ℕ, pow, one, *ℤ_comm}
use Rattle.base.proofs.Cases.{by_less}
use Rattle.base.proofs.Numbers.{mod_mul_left, mod_mul_right}
use Rattle.word.specs.Word.{wrap, word, sum, difference, product, negation}
use Rattle.word.proofs.Patterns.{word_small}

-- a - b of two numbers
word_minus : (a b : ℕ) → word (sub_ℕ a b) ≡ wrap (a + (4294967296 - b % 4294967296))
unfolding word wrap
word_minus a b =
    by_less a b
    (λ l. rw (lt-ltb a b l) (omega arith))
    (λ g. rw (le-ltb a b g) (omega arith))

pub word_sum : (x y : ℤ) → word (x +ℤ y) ≡ sum (word x) (word y)
unfolding word wrap sum
word_sum (pos a) (pos b) = omega arith
word_sum (pos a) (negsuc b) = word_minus a (suc b) ∙ omega arith
word_sum (negsuc a) (pos b) = word_minus b (suc a) ∙ omega arith
word_sum (negsuc a) (negsuc b) = omega arith

pub word_negation : (x : ℤ) → word (neg_ℤ x) ≡ negation (word x)
unfolding word wrap negation
word_negation (pos zero) = refl
word_negation (pos (suc n)) = omega arith
word_negation (negsuc n) = omega arith

pub word_difference : (x y : ℤ) → word (x -ℤ y) ≡ difference (word x) (word y)
unfolding sum difference wrap negation
word_difference x y =
    let small : word y < 4294967296 = word_small y in
    word_sum x (neg_ℤ y) ∙ rw (word_negation y) (omega arith)

-- a factor may be wrapped first
pub wrap_left : (a b : ℕ) → wrap (wrap a * b) ≡ wrap (a * b)
unfolding wrap
wrap_left a b = mod_mul_left a b 4294967296

pub wrap_right : (a b : ℕ) → wrap (a * wrap b) ≡ wrap (a * b)
unfolding wrap
wrap_right a b = mod_mul_right a b 4294967296

wrap_both : (a b : ℕ) → product (wrap a) (wrap b) ≡ wrap (a * b)
unfolding product
wrap_both a b = wrap_left a (wrap b) ∙ wrap_right a b

product_comm : (a b : ℕ) → product a b ≡ product b a
unfolding product
product_comm a b = ap wrap (mul_comm a b)

product_negation : (a b : ℕ) → b < 4294967296 → product a (negation b) ≡ negation (product a b)
unfolding wrap product negation
product_negation a b h =
    let both : a * (4294967296 - b) ≡ a * 4294967296 - a * b = mul-sub a 4294967296 b in
    let within : a * b ≤ a * 4294967296 = mul-le-mul_left a (omega arith) in
    mod_mul_right a (4294967296 - b) 4294967296 ∙ omega arith

negation_negation : (a : ℕ) → a < 4294967296 → negation (negation a) ≡ a
unfolding wrap negation
negation_negation a h = omega arith

pub wrap_small : (a : ℕ) → wrap a < 4294967296
unfolding wrap
wrap_small a = omega arith

pub word_pos : (n : ℕ) → word (pos n) ≡ wrap n
unfolding word
word_pos n = refl

-- a negative number is the negation of a positive one
word_negsuc : (n : ℕ) → word (negsuc n) ≡ negation (wrap (suc n))
word_negsuc n = word_negation (pos (suc n)) ∙ ap negation (word_pos (suc n))

-- a product with one negative factor, and with two
pos_negsuc : (a b : ℕ) → word (pos a *ℤ negsuc b) ≡ product (word (pos a)) (word (negsuc b))
pos_negsuc a b =
    word_negation (pos (a * suc b))
    ∙ ap negation (word_pos (a * suc b) ∙ sym (wrap_both a (suc b)))
    ∙ sym (product_negation (wrap a) (wrap (suc b)) (wrap_small (suc b)))
    ∙ sym (ap₂ product (word_pos a) (word_negsuc b))

negsuc_negsuc : (a b : ℕ) → word (negsuc a *ℤ negsuc b) ≡ product (word (negsuc a)) (word (negsuc b))
negsuc_negsuc a b =
    word_pos (suc a * suc b)
    ∙ sym (wrap_both (suc a) (suc b))
    ∙ sym (negation_negation (product (wrap (suc a)) (wrap (suc b))) (unfold product in wrap_small (wrap (suc a) * wrap (suc b))))
    ∙ ap negation (sym (product_negation (wrap (suc a)) (wrap (suc b)) (wrap_small (suc b))) ∙ product_comm (wrap (suc a)) (negation (wrap (suc b))))
    ∙ sym (product_negation (negation (wrap (suc b))) (wrap (suc a)) (wrap_small (suc a)))
    ∙ product_comm (negation (wrap (suc b))) (negation (wrap (suc a)))
    ∙ sym (ap₂ product (word_negsuc a) (word_negsuc b))

pub word_product : (x y : ℤ) → word (x *ℤ y) ≡ product (word x) (word y)
word_product (pos a) (pos b) = word_pos (a * b) ∙ sym (ap₂ product (word_pos a) (word_pos b) ∙ wrap_both a b)
word_product (pos a) (negsuc b) = pos_negsuc a b
word_product (negsuc a) (pos b) =
    ap word (*ℤ_comm (negsuc a) (pos b)) ∙ pos_negsuc b a ∙ product_comm (word (pos b)) (word (negsuc a))
word_product (negsuc a) (negsuc b) = negsuc_negsuc a b

-- a power of a word's pattern is the pattern of the power
pub word_power : (x : ℤ) (n : ℕ) → word (pow x n) ≡ wrap (word x ^ n)
unfolding pow one
word_power x zero = rw pow-zero (word_pos 1)
word_power x (suc n) =
    word_product (pow x n) x
    ∙ ap (λ k. product k (word x)) (word_power x n)
    ∙ unfold product in wrap_left (word x ^ n) (word x)
    ∙ ap wrap (sym (pow-suc (word x) n))
