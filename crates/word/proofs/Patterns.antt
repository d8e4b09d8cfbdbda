-- The signed reading of a pattern and the pattern of an integer undo one another.
use Prim.Native.Nat.{ℕ, ◌-◌, ◌%◌, ◌<◌, ◌≤◌}
use mathlib.Core.Path.{◌≡◌, sym, ap, ◌∙◌}
use native.Mathlib.Omega.{arith}
use borrow.Author.Tests.{lt-ltb, le-ltb}
use lib.IntN.{ℤ, pos, negsuc, nat_abs, pos-ne-negsuc}
use lib.Signed.{mag}
use mir.Syntax.{w32}
use mir.Val.{to_z, of_z}
use Rattle.base.specs.Choice.{pick}
use Rattle.base.proofs.Cases.{by_less}
use Rattle.word.specs.Word.{wrap, signed, word}

pub signed_low : (a : ℕ) → a < 2147483648 → signed a ≡ pos a
unfolding signed pick
signed_low a h = rw (lt-ltb a 2147483648 h)

pub signed_high : (a : ℕ) → 2147483648 ≤ a → signed a ≡ negsuc (4294967295 - a)
unfolding signed pick
signed_high a h = rw (le-ltb a 2147483648 h)

-- a word that reads as a number is that number
pub signed_pos : (a n : ℕ) → signed a ≡ pos n → a ≡ n
signed_pos a n e =
    by_less a 2147483648
    (λ l. ap nat_abs (sym (signed_low a l) ∙ e))
    (λ g. absurd (pos-ne-negsuc n (4294967295 - a) (sym e ∙ signed_high a g)))

-- the pattern of an integer is a word
pub word_small : (x : ℤ) → word x < 4294967296
unfolding word wrap
word_small (pos n) = omega arith
word_small (negsuc n) = omega arith

-- the reading of a word is in the range of 32-bit signed integers
pub signed_small : (a : ℕ) → a < 4294967296 → mag (signed a) < 2147483648
signed_small a h = by_less a 2147483648 (λ l. rw (signed_low a l) l) (λ g. rw (signed_high a g) (omega arith))

-- a word's reading has that word as its pattern
pub word_signed : (a : ℕ) → a < 4294967296 → word (signed a) ≡ a
unfolding word wrap
word_signed a h =
    by_less a 2147483648
    (λ l. rw (signed_low a l) (omega arith))
    (λ g. rw (signed_high a g) (omega arith))

-- an integer in the range is the reading of its pattern
pub signed_word : (x : ℤ) → mag x < 2147483648 → signed (word x) ≡ x
unfolding word wrap
signed_word (pos n) h =
    let e : n % 4294967296 ≡ n = omega arith in
    rw e (signed_low n h)
signed_word (negsuc n) h =
    let e : n % 4294967296 ≡ n = omega arith in
    rw (e, signed_high (4294967295 - n) (omega arith)) (ap negsuc (omega arith))

-- two words with one reading are the same
pub signed_equal : (a b : ℕ) → a < 4294967296 → b < 4294967296 → signed a ≡ signed b → a ≡ b
signed_equal a b h k e = sym (word_signed a h) ∙ ap word e ∙ word_signed b k

-- the kit reads the bits of an i32 as `signed` does, and gives an i32 the bits that `word` does
pub signed_to_z : (a : ℕ) → to_z w32 a ≡ signed a
unfolding signed pick
signed_to_z a = by_less a 2147483648 (λ l. rw (lt-ltb a 2147483648 l)) (λ g. rw (le-ltb a 2147483648 g) (ap negsuc (omega arith)))

pub word_of_z : (x : ℤ) → mag x < 2147483648 → of_z w32 x ≡ word x
unfolding word wrap
word_of_z (pos n) h = omega arith
word_of_z (negsuc n) h = omega arith
