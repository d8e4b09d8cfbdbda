-- Of two words one is below the other or they are equal, and that decides every relation.
use Prim.Native.Nat.{ℕ, ◌<◌}
use mathlib.Core.Path.{◌≡◌, refl, sym, ap, ◌∙◌}
use mathlib.Core.Bool.{Bool, true, false, not, true≢false}
use native.Mathlib.Omega.{arith}
use borrow.Author.Tests.{lt-ltb, le-ltb, le-leb, lt-leb, ltb-true, ltb-false, eq-eqb, ne_eqb}
use lib.Dec.{ltb, leb, eqb}
use lib.IntN.{ℤ, pos, negsuc}
use lib.Signed.{lt_z, le_z}
use Rattle.base.specs.Choice.{pick}
use Rattle.base.proofs.Cases.{by_test, by_less, by_equal}
use Rattle.word.specs.Word.{signed, word, wrap, comparison, related}
use Rattle.word.specs.Integers.{compared}
use Rattle.word.specs.declared.Relation.{Relation}
use Rattle.word.specs.declared.Relation.TheVariants.{Equal, Unequal, Less, AtMost, Greater, AtLeast}
use Rattle.word.proofs.Patterns.{signed_equal}

-- ---- the tests of order on the integers

leb_not : (m n : ℕ) → leb m n ≡ not (ltb n m)
leb_not m n = by_less n m (λ l. lt-leb m n l ∙ sym (ap not (lt-ltb n m l))) (λ g. le-leb m n g ∙ sym (ap not (le-ltb n m g)))

pub at_most_not : (x y : ℤ) → le_z x y ≡ not (lt_z y x)
at_most_not (pos a) (pos b) = leb_not a b
at_most_not (pos a) (negsuc b) = refl
at_most_not (negsuc a) (pos b) = refl
at_most_not (negsuc a) (negsuc b) = leb_not b a

not_below_self : (x : ℤ) → lt_z x x ≡ false
not_below_self (pos a) = le-ltb a a (omega arith)
not_below_self (negsuc a) = le-ltb a a (omega arith)

not_below_both : (x y : ℤ) → lt_z x y ≡ true → lt_z y x ≡ false
not_below_both (pos a) (pos b) h = le-ltb b a (omega (arith, ltb-true a b h))
not_below_both (pos a) (negsuc b) h = sym h
not_below_both (negsuc a) (pos b) h = refl
not_below_both (negsuc a) (negsuc b) h = le-ltb a b (omega (arith, ltb-true b a h))

apart : (x y : ℤ) → lt_z x y ≡ false → (x ≡ y → ⊥) → lt_z y x ≡ true
apart (pos a) (pos b) h ne = by_less b a (λ l. lt-ltb b a l) (λ g. absurd (ne (ap pos (omega (arith, ltb-false a b h)))))
apart (pos a) (negsuc b) h ne = refl
apart (negsuc a) (pos b) h ne = sym h
apart (negsuc a) (negsuc b) h ne = by_less a b (λ l. lt-ltb a b l) (λ g. absurd (ne (ap negsuc (omega (arith, ltb-false b a h)))))

-- ---- the place of one word against another

data Place : Type 0 where
  below level above : Place

is_below : Place → Bool
is_below below = true
is_below level = false
is_below above = false

is_level : Place → Bool
is_level below = false
is_level level = true
is_level above = false

is_above : Place → Bool
is_above below = false
is_above level = false
is_above above = true

record Placed (a b : ℕ) (p : Place) : Type 0 where
  lower : lt_z (signed a) (signed b) ≡ is_below p
  equal : eqb a b ≡ is_level p
  higher : lt_z (signed b) (signed a) ≡ is_above p

-- a proof for two words, by their place
by_place : {P : Type 0} (a b : ℕ) → a < 4294967296 → b < 4294967296 → ((p : Place) → Placed a b p → P) → P
unfolding is_below is_level is_above
by_place a b small_a small_b k =
    by_test (lt_z (signed a) (signed b))
    (λ l. k below (record {
      lower = l;
      equal = ne_eqb a b (λ e. true≢false (sym l ∙ rw e (not_below_self (signed b))));
      higher = not_below_both (signed a) (signed b) l;
    }))
    (λ g. by_equal a b
    (λ e. k level (record {
      lower = g;
      equal = eq-eqb a b e;
      higher = rw e (not_below_self (signed b));
    }))
    (λ ne. k above (record {
      lower = g;
      equal = ne_eqb a b ne;
      higher = apart (signed a) (signed b) g (λ e. ne (signed_equal a b small_a small_b e));
    })))

-- what a relation says at each place
verdict : Relation → Place → Bool
verdict Equal p = is_level p
verdict Unequal p = not (is_level p)
verdict Less p = is_below p
verdict AtMost p = not (is_above p)
verdict Greater p = is_above p
verdict AtLeast p = not (is_below p)

related_is : (r : Relation) (a b : ℕ) (p : Place) → Placed a b p → related r a b ≡ verdict r p
unfolding verdict
related_is Equal a b p d = d.equal
related_is Unequal a b p d = ap not d.equal
related_is Less a b p d = d.lower
related_is AtMost a b p d = at_most_not (signed a) (signed b) ∙ ap not d.higher
related_is Greater a b p d = d.higher
related_is AtLeast a b p d = at_most_not (signed b) (signed a) ∙ ap not d.lower

-- the word that CMP leaves for each place, and its own place against zero
number : Place → ℕ
number below = 4294967295
number level = 0
number above = 1

comparison_is : (a b : ℕ) (p : Place) → Placed a b p → comparison a b ≡ number p
unfolding comparison number word wrap pick is_below is_level
comparison_is a b below d = rw d.lower
comparison_is a b level d = rw (d.lower, d.equal)
comparison_is a b above d = rw (d.lower, d.equal)

number_placed : (p : Place) → Placed (number p) 0 p
unfolding number is_below is_level is_above signed pick
number_placed below = record { lower = refl; equal = refl; higher = refl }
number_placed level = record { lower = refl; equal = refl; higher = refl }
number_placed above = record { lower = refl; equal = refl; higher = refl }

compared_is : (a b : ℕ) (p : Place) → Placed a b p → compared (signed a) (signed b) ≡ signed (number p)
unfolding compared number is_below is_above signed pick
compared_is a b below d = rw d.lower
compared_is a b level d = rw (d.lower, d.higher)
compared_is a b above d = rw (d.lower, d.higher)

module _ (a b : ℕ) (small_a : a < 4294967296) (small_b : b < 4294967296) where
  pub relation_to_zero : (r : Relation) → related r (comparison a b) 0 ≡ related r a b
  relation_to_zero r =
      by_place a b small_a small_b
      (λ p d. ap (λ n. related r n 0) (comparison_is a b p d) ∙ related_is r (number p) 0 p (number_placed p) ∙ sym (related_is r a b p d))

  pub comparison_compared : signed (comparison a b) ≡ compared (signed a) (signed b)
  comparison_compared = by_place a b small_a small_b (λ p d. ap signed (comparison_is a b p d) ∙ sym (compared_is a b p d))
