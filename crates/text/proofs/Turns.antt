-- The turns of the loops that read a fixed string and a number: each is stated of the text left at place i.
use Prim.Native.Nat.{ℕ, ◌+◌, ◌-◌, ◌*◌, ◌<◌, ◌≤◌}
use mathlib.Core.Path.{◌≡◌, refl, sym, ap, ◌∙◌}
use mathlib.Core.Logic.{◌⊎◌, inl, inr}
use native.Mathlib.Omega.{arith}
use mathlib.Core.List.{List, [], ◌∷◌}
use borrow.Author.Tests.{lt-ltb, le-ltb, eq-eqb, ne_eqb}
use lib.Dec.{ltb, eqb}
use Rattle.base.proofs.Cases.{by_test}
use lib.ListN.{length, get_or, take, drop, drop_of_length-le}
use Rattle.std.proofs.lemmas.List.{get_or-take, length-take}
use Rattle.base.specs.Choice.{pick}
use Rattle.base.specs.Front.{found, missing}
use Rattle.base.proofs.Lists.{drop_more}
use Rattle.text.specs.Pieces.{Front, fixed, digits, numeral, greatest_number}

-- a fixed string read byte by byte: k of its bytes were read, up to place i
module _ (string s : List ℕ) (k i : ℕ) where
  -- the string is read to its end
  pub fixed_over : length string ≤ k → found [] (drop i s) ≡ fixed (drop k string) (drop i s)
  unfolding fixed
  fixed_over h = rw (drop_of_length-le string h) refl

  -- the text ends before it
  pub fixed_short : k < length string → length s ≤ i → missing ≡ fixed (drop k string) (drop i s)
  unfolding fixed
  fixed_short h g = rw (drop_more string k 0 h, drop_of_length-le s g) refl

  module _ (h : k < length string) (g : i < length s) where
    pub fixed_other : (get_or s i 0 ≡ get_or string k 0 → ⊥) → missing ≡ fixed (drop k string) (drop i s)
    unfolding fixed pick
    fixed_other n = rw (drop_more string k 0 h, drop_more s i 0 g, ne_eqb _ _ n) refl

    pub fixed_turn : get_or s i 0 ≡ get_or string k 0 → fixed (drop (k + 1) string) (drop (i + 1) s) ≡ fixed (drop k string) (drop i s)
    unfolding fixed pick
    fixed_turn e = rw (drop_more string k 0 h, drop_more s i 0 g, eq-eqb _ _ e) refl

-- a text that ends before a fixed string
shorter : (string l : List ℕ) → length l < length string → missing ≡ fixed string l
unfolding fixed pick
shorter [] l h = absurd (omega arith)
shorter (c ∷ cs) [] h = refl
shorter (c ∷ cs) (b ∷ l) h = by_test (eqb b c) (λ y. rw y (shorter cs l (omega (arith, h)))) (λ n. rw n refl)

-- the same of the text l, of which `there` is what stands in the string's place
module _ (string l : List ℕ) where
  pub there_short : length (take (length string) l) < length string → missing ≡ fixed string l
  there_short g = shorter string l (omega (arith, g, length-take (length string) l))

  module _ (k : ℕ) (there : List ℕ) (is : there ≡ take (length string) l) (long : length string ≤ length there) (h : k < length string) where
    inside : k < length l
    inside = omega (arith, h, long, ap length is, length-take (length string) l)

    same : get_or there k 0 ≡ get_or l k 0
    same = ap (λ x. get_or x k 0) is ∙ get_or-take (length string) l k 0 h

    pub there_other : (get_or there k 0 ≡ get_or string k 0 → ⊥) → missing ≡ fixed (drop k string) (drop k l)
    there_other n = fixed_other string l k k h inside (λ e. n (same ∙ e))

    pub there_turn : get_or there k 0 ≡ get_or string k 0 → fixed (drop (k + 1) string) (drop (k + 1) l) ≡ fixed (drop k string) (drop k l)
    there_turn e = fixed_turn string l k k h inside (sym same ∙ e)

-- a byte that is no digit, and one that is
module _ {A : Type 0} (b : ℕ) (x : Front A) where
  pub no_digit : (b < 48) ⊎ (57 < b) → missing ≡ pick (ltb b 48) missing (pick (ltb 57 b) missing x)
  unfolding pick
  no_digit (inl low) = rw (lt-ltb b 48 low) refl
  no_digit (inr high) = rw (le-ltb b 48 (omega arith), lt-ltb 57 b high) refl

  pub a_digit : (48 ≤ b) × (b ≤ 57) → x ≡ pick (ltb b 48) missing (pick (ltb 57 b) missing x)
  unfolding pick
  a_digit d = rw (le-ltb b 48 d.0, le-ltb 57 b d.1) refl

module _ (s : List ℕ) (close v i : ℕ) where
  pub digits_short : length s ≤ i → missing ≡ digits close v (drop i s)
  unfolding digits
  digits_short g = rw (drop_of_length-le s g) refl

  -- a byte more, as the loop tests it
  pub digits_here :
      i < length s
      → digits close v (drop i s)
      ≡ pick
      (eqb (get_or s i 0) close)
      (found v (drop (i + 1) s))
      (pick
      (ltb (get_or s i 0) 48)
      missing
      (pick
      (ltb 57 (get_or s i 0))
      missing
      (pick
      (eqb v 0)
      missing
      (pick
      (ltb greatest_number (v * 10 + (get_or s i 0 - 48)))
      missing
      (digits close (v * 10 + (get_or s i 0 - 48)) (drop (i + 1) s))))))
  unfolding digits
  digits_here g = rw (drop_more s i 0 g) refl

module _ (s : List ℕ) (close i : ℕ) where
  pub numeral_short : length s ≤ i → missing ≡ numeral close (drop i s)
  unfolding numeral
  numeral_short g = rw (drop_of_length-le s g) refl

  -- b is the byte there
  pub numeral_here :
      (b : ℕ)
      → i < length s
      → b ≡ get_or s i 0
      → numeral close (drop i s) ≡ pick (ltb b 48) missing (pick (ltb 57 b) missing (digits close (b - 48) (drop (i + 1) s)))
  unfolding numeral
  numeral_here b g e = rw (e, drop_more s i 0 g) refl
