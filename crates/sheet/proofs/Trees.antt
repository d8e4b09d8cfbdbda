-- The tree of a condition's tests is that condition: where its branches lead tells how its comparisons are joined.
use Prim.Native.Nat.{ℕ, zero, suc, ◌+◌, ◌≤◌, ◌<◌, max}
use mathlib.Core.Path.{◌≡◌, refl, sym, ap, ap₂, ◌∙◌}
use mathlib.Core.Bool.{Bool, true, false}
use mathlib.Core.List.{List, [], ◌∷◌, ◌++◌, append_assoc}
use native.Mathlib.Omega.{arith}
use borrow.Author.Tests.{lt-ltb, le-ltb, le-leb, lt-leb, eq-eqb, ne_eqb}
use Rattle.base.specs.Choice.{pick}
use Rattle.base.proofs.Cases.{by_less}
use Rattle.word.specs.declared.Relation.{Relation}
use Rattle.word.specs.declared.Relation.TheVariants.{Equal, Unequal, Less, AtMost, Greater, AtLeast}
use Rattle.sheet.specs.declared.Joining.{Joining}
use Rattle.sheet.specs.declared.Joining.TheVariants.{And, Or}
use Rattle.sheet.specs.Sheet.{Expression, Condition, compares, joins}
use Rattle.sheet.specs.Orders.{opposite}
use Rattle.sheet.specs.Condition.{comparisons, same_word, is_run, Merged, trying, leaving}
use Rattle.sheet.specs.Guess.{Test, test, last_to, last_on, Cut, cut, longer, furthest, first_member, on_at, alike}
use Rattle.sheet.specs.Guess.{word_of, goes_on, on_cut, tree}
use Rattle.sheet.proofs.Sizes.{trying_some, comparisons_some}

-- ---- the tests of a condition

-- The tests of a condition that begins with order p: on the answer g they fall through, on the other they lead to order d. Where
-- the answer that settles a run in its first member is g, that member leads to the order behind them all
unfoldable pub tests_of : ℕ → ℕ → Bool → ℕ → Condition → List Test
tests_of v p g d (compares r a b) = test (leaving g r) a b d (p + trying v (compares r a b)) ∷ []
tests_of v p g d (joins w a b) =
    tests_of v p (on_at w) (pick (alike (on_at w) g) d (p + trying v a + trying v b)) a ++ tests_of v (p + trying v a) g d b

data Some : List Test → Type 0 where
  some : (t : Test) (ts : List Test) → Some (t ∷ ts)

some_front : (xs ys : List Test) → Some xs → Some (xs ++ ys)
some_front _ ys (some t ts) = some t (ts ++ ys)

tests_some : (v p : ℕ) (g : Bool) (d : ℕ) (c : Condition) → Some (tests_of v p g d c)
unfolding tests_of
tests_some v p g d (compares r a b) = some _ []
tests_some v p g d (joins w a b) = some_front _ _ (tests_some v p (on_at w) _ a)

-- what is told by the last test alone
last_told :
    (f : List Test → ℕ)
    → ((t u : Test) (ts : List Test) → f (t ∷ u ∷ ts) ≡ f (u ∷ ts))
    → (xs ys : List Test)
    → Some ys
    → f (xs ++ ys) ≡ f ys
last_told f on [] _ (some u ts) = refl
last_told f on (t ∷ []) _ (some u ts) = on t u ts
last_told f on (t ∷ u ∷ xs) _ (some w ts) = on t u _ ∙ last_told f on (u ∷ xs) _ (some w ts)

to_behind : (t u : Test) (ts : List Test) → last_to (t ∷ u ∷ ts) ≡ last_to (u ∷ ts)
unfolding last_to
to_behind (test r x y a n) u ts = refl

on_behind : (t u : Test) (ts : List Test) → last_on (t ∷ u ∷ ts) ≡ last_on (u ∷ ts)
unfolding last_on
on_behind (test r x y a n) u ts = refl

module _ (v : ℕ) where
  pub tests_to : (p : ℕ) (g : Bool) (d : ℕ) (c : Condition) → last_to (tests_of v p g d c) ≡ d
  unfolding tests_of last_to
  tests_to p g d (compares r a b) = refl
  tests_to p g d (joins w a b) =
      let q = p + trying v a in
      last_told last_to to_behind (tests_of v p (on_at w) _ a) (tests_of v q g d b) (tests_some v q g d b) ∙ tests_to q g d b

  tests_on : (p : ℕ) (g : Bool) (d : ℕ) (c : Condition) → last_on (tests_of v p g d c) ≡ p + trying v c
  unfolding tests_of last_on trying
  tests_on p g d (compares r a b) = refl
  tests_on p g d (joins w a b) =
      let q = p + trying v a in
      last_told last_on on_behind (tests_of v p (on_at w) _ a) (tests_of v q g d b) (tests_some v q g d b)
      ∙ tests_on q g d b
      ∙ omega arith

-- ---- the first member of a run

abbrev longer_all : List Test → Cut → Cut
longer_all [] k = k
longer_all (t ∷ ts) k = longer t (longer_all ts k)

longer_append : (xs ys : List Test) (k : Cut) → longer_all (xs ++ ys) k ≡ longer_all xs (longer_all ys k)
longer_append [] ys k = refl
longer_append (t ∷ xs) ys k = ap (longer t) (longer_append xs ys k)

longer_cut : (xs ys zs : List Test) → longer_all xs (cut ys zs) ≡ cut (xs ++ ys) zs
longer_cut [] ys zs = refl
longer_cut (t ∷ xs) ys zs = ap (longer t) (longer_cut xs ys zs)

pub furthest_in : (e m a : ℕ) → a < e → furthest e m a ≡ max m a
unfolding pick
furthest_in e m a h = rw (lt-ltb a e h)

pub furthest_out : (e m a : ℕ) → e ≤ a → furthest e m a ≡ m
unfolding pick
furthest_out e m a h = rw (le-ltb a e h)

-- Two conditions, the first up to order s and both up to order n; the first leads to order f, the second to d. Then the first leads
-- beyond its end, and where it leads makes no difference behind the second
pub record Beyond (e m s d f : ℕ) : Type 0 where
  pub further : s < furthest e m f
  pub ahead : s < f
  pub over : furthest e (furthest e m f) d ≡ furthest e m d

pub beyond : (e m s n d : ℕ) (t : Bool) → s < n → n < e → n < d → n < furthest e m d → Beyond e m s d (pick t d n)
unfolding pick
beyond e m s n d true h k l far =
    record {
      further = omega arith;
      ahead = omega arith;
      over =
          by_less d e
          (λ i. furthest_in e _ d i ∙ let z = furthest_in e m d i in omega arith)
          (λ i. furthest_out e _ d i);
    }
beyond e m s n d false h k l far =
    let near = furthest_in e m n k in
    record {
      further = omega arith;
      ahead = h;
      over =
          by_less d e
          (λ i. furthest_in e _ d i ∙ let z = furthest_in e m d i in omega arith)
          (λ i. furthest_out e _ d i ∙ let z = furthest_out e m d i in omega arith);
    }

-- where the furthest is order n, and the first of two leads there or out of them all
pub still : (e n d : ℕ) (t : Bool) → n < e → e ≤ d → (furthest e n (pick t d n) ≡ n) × (n ≤ pick t d n)
unfolding pick
still e n d true h k = (furthest_out e n d k, omega arith)
still e n d false h k = (furthest_in e n n h ∙ omega arith, omega arith)

pub other_word : (w u : Joining) → same_word w u ≡ false → alike (on_at u) (on_at w) ≡ false
other_word And And e = e
other_word And Or e = refl
other_word Or And e = refl
other_word Or Or e = e

module _ (v : ℕ) where
  -- where a branch leads on, no member ends
  through :
      (e m p n : ℕ) (g : Bool) (d : ℕ) (c : Condition) (l : List Test)
      → p + trying v c ≡ n
      → n < e
      → n < d
      → n < furthest e m d
      → first_member e m (tests_of v p g d c ++ l) ≡ longer_all (tests_of v p g d c) (first_member e (furthest e m d) l)
  unfolding tests_of first_member pick trying
  through e m p n g d (compares r a b) l up h k far =
      rw (lt-leb (furthest e m d) (p + trying v (compares r a b)) (omega arith))
  through e m p n g d (joins w a b) l up h k far =
      let s = p + trying v a in
      let whole : s + trying v b ≡ n = omega arith in
      let some_b = trying_some v b in
      let x = beyond e m s n d (alike (on_at w) g) (omega arith) h k far in
      let f = pick (alike (on_at w) g) d n in
      let xs = tests_of v p (on_at w) f a in
      let ys = tests_of v s g d b in
      rw whole
      (ap (first_member e m) (append_assoc xs ys l)
      ∙ through e m p s (on_at w) f a (ys ++ l) refl (omega arith) x.ahead x.further
      ∙ ap (longer_all xs) (through e (furthest e m f) s n g d b l whole h k (rw x.over far))
      ∙ sym (longer_append xs ys _)
      ∙ ap (λ i. longer_all (xs ++ ys) (first_member e i l)) x.over)

  -- two conditions are the first member, where the first leads to their end and the second is one from there
  both_end :
      (e m p s n : ℕ) (g : Bool) (f : ℕ) (a : Condition) (ys l : List Test)
      → p + trying v a ≡ s
      → s < n
      → n < e
      → n ≤ f
      → furthest e m f ≡ n
      → first_member e n (ys ++ l) ≡ cut ys l
      → first_member e m ((tests_of v p g f a ++ ys) ++ l) ≡ cut (tests_of v p g f a ++ ys) l
  both_end e m p s n g f a ys l up more h k led second =
      let xs = tests_of v p g f a in
      ap (first_member e m) (append_assoc xs ys l)
      ∙ through e m p s g f a (ys ++ l) up (omega arith) (omega arith) (omega arith)
      ∙ ap (λ i. longer_all xs (first_member e i (ys ++ l))) led
      ∙ ap (longer_all xs) second
      ∙ longer_cut xs ys l

  -- where the furthest is its end, it is the first member
  ends_so :
      (e p n : ℕ) (g : Bool) (d : ℕ) (c : Condition) (l : List Test)
      → p + trying v c ≡ n
      → n < e
      → e ≤ d
      → first_member e n (tests_of v p g d c ++ l) ≡ cut (tests_of v p g d c) l
  unfolding tests_of first_member pick trying
  ends_so e p n g d (compares r a b) l up h k =
      let z = furthest_out e n d k in
      rw (le-leb (furthest e n d) (p + trying v (compares r a b)) (omega arith))
  ends_so e p n g d (joins w a b) l up h k =
      let s = p + trying v a in
      let whole : s + trying v b ≡ n = omega arith in
      let some_b = trying_some v b in
      let t = alike (on_at w) g in
      let x = still e n d t h k in
      rw whole
      (both_end e n p s n (on_at w) (pick t d n) a _ l refl (omega arith) h x.1 x.0 (ends_so e s n g d b l whole h k))

  -- a member of a run is no run of its word, so where it is a run its own first member leads to its end
  member :
      (e p n : ℕ) (w : Joining) (d : ℕ) (c : Condition) (l : List Test)
      → is_run w c ≡ false
      → p + trying v c ≡ n
      → n < e
      → e ≤ d
      → first_member e 0 (tests_of v p (on_at w) d c ++ l) ≡ cut (tests_of v p (on_at w) d c) l
  unfolding tests_of first_member pick trying
  member e p n w d (compares r a b) l apart up h k =
      let z = furthest_out e 0 d k in
      rw (le-leb (furthest e 0 d) (p + trying v (compares r a b)) (omega arith))
  member e p n w d (joins u a b) l apart up h k =
      let s = p + trying v a in
      let whole : s + trying v b ≡ n = omega arith in
      let some_b = trying_some v b in
      rw (whole, other_word w u apart)
      (both_end e 0 p s n (on_at u) n a _ l refl (omega arith) h (omega arith) (furthest_in e 0 n h ∙ omega arith)
      (ends_so e s n (on_at w) d b l whole h k))

-- ---- the tree

pub opposite_twice : (r : Relation) → opposite (opposite r) ≡ r
opposite_twice Equal = refl
opposite_twice Unequal = refl
opposite_twice Less = refl
opposite_twice AtMost = refl
opposite_twice Greater = refl
opposite_twice AtLeast = refl

pub leaving_twice : (g : Bool) (r : Relation) → leaving g (leaving g r) ≡ r
leaving_twice true r = opposite_twice r
leaving_twice false r = refl

pub word_again : (w : Joining) → word_of (on_at w) ≡ w
word_again And = refl
word_again Or = refl

-- the answer at which the first goes on, by where its last branch leads
pub goes_on_law : (w : Joining) (g : Bool) (e d : ℕ) → e < d → goes_on g e (pick (alike (on_at w) g) d e) ≡ on_at w
unfolding pick
goes_on_law And true e d h = rw (ne_eqb d e (omega arith))
goes_on_law And false e d h = rw (eq-eqb e e refl)
goes_on_law Or true e d h = rw (eq-eqb e e refl)
goes_on_law Or false e d h = rw (ne_eqb d e (omega arith))

cut_again :
    (rec : Bool → List Test → Condition) (g : Bool) (e : ℕ) (xs ys : List Test)
    → Some ys
    → on_cut rec g e (cut xs ys) ≡ joins (word_of (goes_on g e (last_to xs))) (rec (goes_on g e (last_to xs)) xs) (rec g ys)
cut_again rec g e xs _ (some t ts) = refl

one_again :
    (rec : Bool → List Test → Condition) (g : Bool) (r : Relation) (x y : Expression) (d n : ℕ)
    → n < d
    → on_cut rec g (last_on (test r x y d n ∷ [])) (first_member (last_on (test r x y d n ∷ [])) 0 (test r x y d n ∷ []))
    ≡ compares (leaving g r) x y
unfolding last_on first_member pick
one_again rec g r x y d n h =
    let z = furthest_out n 0 d (omega arith) in rw (le-leb (furthest n 0 d) n (omega arith))

pub outside : (n d : ℕ) (t : Bool) → n < d → n ≤ pick t d n
unfolding pick
outside n d true h = omega arith
outside n d false h = omega arith

pub tree_again :
    (v f p : ℕ) (g : Bool) (d : ℕ) (c : Condition)
    → comparisons c ≤ f
    → Merged c
    → p + trying v c < d
    → tree f g (tests_of v p g d c) ≡ c
unfolding tree Merged comparisons trying tests_of
tree_again v zero p g d c enough merged h = absurd (omega (arith, comparisons_some c))
tree_again v (suc f) p g d (compares r a b) enough merged h =
    one_again (tree f) g (leaving g r) a b d _ (omega arith) ∙ ap (λ r. compares r a b) (leaving_twice g r)
tree_again v (suc f) p g d (joins w a b) enough merged h =
    let s = p + trying v a in
    let n = s + trying v b in
    let z = pick (alike (on_at w) g) d n in
    let xs = tests_of v p (on_at w) z a in
    let ys = tests_of v s g d b in
    let whole : p + trying v (joins w a b) ≡ n = omega arith in
    let some_a = comparisons_some a in
    let some_b = comparisons_some b in
    let more_b = trying_some v b in
    let far = outside n d (alike (on_at w) g) (omega arith) in
    ap (λ e. on_cut (tree f) g e (first_member e 0 (xs ++ ys))) (tests_on v p g d (joins w a b) ∙ whole)
    ∙ ap (on_cut (tree f) g n) (member v n p s w z a ys merged.0 refl (omega arith) far)
    ∙ cut_again (tree f) g n xs ys (tests_some v s g d b)
    ∙ rw (tests_to v p (on_at w) z a, goes_on_law w g n d (omega arith), word_again w)
    (ap₂ (joins w)
    (tree_again v f p (on_at w) z a (omega arith) merged.1 (omega arith))
    (tree_again v f s g d b (omega arith) merged.2 (omega arith)))
