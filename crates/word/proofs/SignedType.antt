-- What the functions that go through an i32 need: the machine keeps an i32 as its bits, `of_z w32`, and reads it by `to_z w32`.
use Prim.Native.Nat.{ℕ, zero, suc, ◌-◌, ◌<◌, ◌≤◌}
use mathlib.Core.Path.{◌≡◌, refl, ap}
use mathlib.Core.Bool.{true, false}
use native.Mathlib.Omega.{arith}
use borrow.Author.Tests.{le-ltb, leb-false}
use lib.Dec.{T}
use lib.IntN.{ℤ, pos, negsuc, neg_ℤ, nat_abs, ◌-ℤ◌, +ℤ_idl}
use lib.Signed.{mag, le_z, non_neg}
use mir.Syntax.{w32}
use mir.Val.{to_z, of_z, Fits, SFits}
use mir.Facts.{to_z-of_z}
use Rattle.base.proofs.Cases.{by_less}
use Rattle.word.specs.Word.{wrap, signed, word, negation}
use Rattle.word.proofs.Patterns.{signed_low, signed_high, signed_small, signed_to_z, word_signed}
use Rattle.word.proofs.Wrapping.{word_negation}

-- an i32 that holds a word's reading is read as it
pub held : (a : ℕ) (r : ℤ) → a < 4294967296 → r ≡ signed a → to_z w32 (of_z w32 r) ≡ signed a
held a r h e = rw e (to_z-of_z {w = w32} {z = signed a} (record { sfits = signed_small a h }))

-- -1 less a number
pub less_one_pos : (n : ℕ) → negsuc 0 -ℤ pos n ≡ negsuc n
less_one_pos zero = refl
less_one_pos (suc n) = ap negsuc (omega arith)

pub less_one_negsuc : (n : ℕ) → negsuc 0 -ℤ negsuc n ≡ pos n
less_one_negsuc n = rw (le-ltb (suc n) 1 (omega arith)) (ap pos (omega arith))

-- ---- a pattern of the upper half as an i32

pub mirrored : (a : ℕ) → 2147483648 ≤ a → negsuc 0 -ℤ to_z w32 (4294967295 - a) ≡ signed a
mirrored a h =
    rw (signed_to_z (4294967295 - a), signed_low (4294967295 - a) (omega arith), signed_high a h)
    (less_one_pos (4294967295 - a))

-- ---- an i32 as a pattern: at least 0, and below 0

pub at_least_zero : (x : ℤ) → SFits w32 x → le_z (pos 0) x ≡ true → (T (non_neg x) × Fits w32 (nat_abs x)) × (nat_abs x ≡ word x)
unfolding word wrap
at_least_zero (pos n) h t = ((tt, record { fits = omega (arith, h.sfits) }), omega (arith, h.sfits))
at_least_zero (negsuc n) h t = let z : ◌≡◌ {A = ℕ} 0 1 = cc in absurd (omega arith)

pub record Complement (x z : ℤ) : Type 0 where
  pub fits : SFits w32 z
  pub unsigned : T (non_neg z) × Fits w32 (nat_abs z)
  pub within : nat_abs z ≤ 4294967295
  pub right : 4294967295 - nat_abs z ≡ word x

pub below_zero : (x : ℤ) → SFits w32 x → le_z (pos 0) x ≡ false → Complement x (negsuc 0 -ℤ x)
unfolding word wrap
below_zero (pos n) h t = absurd (omega (arith, leb-false 0 n t))
below_zero (negsuc n) h t =
    rw (less_one_negsuc n)
    record {
      fits = record { sfits = h.sfits };
      unsigned = (tt, record { fits = omega (arith, h.sfits) });
      within = omega (arith, h.sfits);
      right = omega (arith, h.sfits);
    }

-- ---- the negation of a word that is not the least

pub opposite_below : (n k : ℕ) → n ≤ suc k → mag (neg_ℤ (pos n)) ≤ k
opposite_below zero k h = omega arith
opposite_below (suc n) k h = omega arith

pub negation_small : (a : ℕ) → a < 4294967296 → (a ≡ 2147483648 → ⊥) → mag (neg_ℤ (signed a)) < 2147483648
negation_small a h least =
    by_less a 2147483648
    (λ l. rw (signed_low a l) (omega (arith, opposite_below a a (omega arith))))
    (λ g. rw (signed_high a g) (omega arith))

pub negation_fits : (a : ℕ) (r : ℤ) → a < 4294967296 → (a ≡ 2147483648 → ⊥) → r ≡ signed a → SFits w32 (pos 0 -ℤ to_z w32 (of_z w32 r))
negation_fits a r h least e = rw (held a r h e, +ℤ_idl (neg_ℤ (signed a))) (record { sfits = negation_small a h least })

pub word_of_negation : (a : ℕ) (r : ℤ) → a < 4294967296 → r ≡ signed a → word (pos 0 -ℤ to_z w32 (of_z w32 r)) ≡ negation a
word_of_negation a r h e = rw (held a r h e, +ℤ_idl (neg_ℤ (signed a)), word_negation (signed a), word_signed a h)
