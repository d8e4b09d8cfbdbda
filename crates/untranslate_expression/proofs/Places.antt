-- Orders by their places, and fields put one behind the other.
use Prim.Native.Nat.{ℕ, zero, suc, ◌+◌, ◌/◌, ◌%◌, ◌≤◌, ◌<◌, max}
use mathlib.Core.Path.{◌≡◌, refl, sym, ap, ◌∙◌}
use mathlib.Core.Bool.{Bool, true, false}
use mathlib.Core.List.{List, [], ◌∷◌, ◌++◌, map}
use native.Mathlib.Omega.{arith}
use native.Mathlib.Nat.{add_assoc}
use native.Mathlib.Numerals.{add-one}
use borrow.Author.Tests.{le-ltb, eq-eqb, ne_eqb}
use lib.Dec.{ltb, leb, eqb}
use lib.ListN.{length, get_or, set, length-append, length-map}
use lib.Seq.{sets, drop-cons, set_comm}
use Rattle.base.specs.Choice.{pick}
use Rattle.base.specs.Places.{each}
use Rattle.base.proofs.Cases.{by_less, by_equal}
use Rattle.base.proofs.Lists.{sets_append}
use Rattle.base.proofs.Places.{each_at}
use Rattle.order.specs.declared.Order.{Order}
use Rattle.order.specs.declared.Order.TheVariants.{Store}
use Rattle.order.specs.Memory.{shapes, order_of, order_in}
use Rattle.order.proofs.Numbers.{no_order}
use Rattle.sheet.specs.declared.Field.{Field}
use Rattle.sheet_field.specs.Memory.{field_word}
use Rattle.std.specs.Prelude.{Some, None}
use Rattle.untranslate_expression.specs.declared.Link.TheVariants.{Kept}
use Rattle.untranslate_expression.specs.Internal.{orders_at, first_order, behind, loads, is_single, past_load, loads_leaf, link_by, link_of}
use Rattle.untranslate_expression.specs.Internal.{Past, PastWord, Writes, Safe}

-- ---- orders

orders_behind_suc : (at : ℕ) (os : List ℕ) → orders_at (suc at) os ≡ behind (orders_at at os)
orders_behind_suc zero [] = refl
orders_behind_suc zero (w ∷ os) = refl
orders_behind_suc (suc at) [] = refl
orders_behind_suc (suc at) (w ∷ os) = orders_behind_suc at os

pub orders_behind : (at : ℕ) (os : List ℕ) → orders_at (at + 1) os ≡ behind (orders_at at os)
orders_behind at os = rw (add-one at) (orders_behind_suc at os)

pub first_inside : (at : ℕ) (os : List ℕ) → at < length os → first_order (orders_at at os) ≡ order_in (get_or os at 0)
first_inside at os h = rw (drop-cons os at 0 h) refl

pub orders_inside : (at : ℕ) (os : List ℕ) → at < length os → orders_at at os ≡ order_in (get_or os at 0) ∷ orders_at (at + 1) os
orders_inside at os h = rw (drop-cons os at 0 h, add-one at) refl

pub none_outside : (at : ℕ) (os : List ℕ) → length os ≤ at → orders_at at os ≡ []
none_outside zero [] h = refl
none_outside zero (w ∷ os) h = absurd (omega arith)
none_outside (suc at) [] h = refl
none_outside (suc at) (w ∷ os) h = none_outside at os (omega arith)

module _ (os : List ℕ) (at : ℕ) where
  pub past_inside : at < length os → Past os at (at + 1)
  past_inside h = record { on = omega arith; over = λ g. omega arith; inside = λ g. omega arith; rest = orders_behind at os }

-- ---- whether an order is LOAD of a word, by its number

module _ (t v : ℕ) where
  abbrev loads_by : ℕ → Bool
  loads_by k = pick (eqb k 12) (eqb v t) false

  all_loads : each (λ k. loads t (order_of k v)) 0 38 ≡ each loads_by 0 38
  unfolding each order_of shapes pick
  all_loads = refl

  none_loads : (k : ℕ) → 38 ≤ k → loads t (order_of k v) ≡ loads_by k
  unfolding pick
  none_loads k h = rw (← no_order k v h, ne_eqb k 12 (λ e. omega (arith, e))) refl

  loads_told : (k : ℕ) → loads t (order_of k v) ≡ loads_by k
  loads_told k = by_less k 38 (λ h. each_at (λ j. loads t (order_of j v)) loads_by 38 all_loads k h) (none_loads k)

module _ (t x : ℕ) (small : t < 4294967296) where
  abbrev kind_of : ℕ
  kind_of = x / 4294967296

  abbrev word_of : ℕ
  word_of = x % 4294967296

  equal_parts : x ≡ 51539607552 + t → eqb x (51539607552 + t) ≡ loads_by t word_of kind_of
  unfolding pick
  equal_parts e =
      rw (eq-eqb x (51539607552 + t) e, eq-eqb kind_of 12 (omega (arith, e)), eq-eqb word_of t (omega (arith, e))) refl

  other_parts : (x ≡ 51539607552 + t → ⊥) → eqb x (51539607552 + t) ≡ loads_by t word_of kind_of
  unfolding pick
  other_parts n =
      by_equal kind_of 12
      (λ e. rw (ne_eqb x (51539607552 + t) n, eq-eqb kind_of 12 e, ne_eqb word_of t (λ f. n (omega (arith, e, f)))) refl)
      (λ e. rw (ne_eqb x (51539607552 + t) n, ne_eqb kind_of 12 e) refl)

  pub load_told : eqb x (51539607552 + t) ≡ loads t (order_in x)
  load_told = by_equal x (51539607552 + t) equal_parts other_parts ∙ sym (loads_told t word_of kind_of)

-- ---- whether an order is a link by itself, by its number

abbrev pub single_by : ℕ → Bool
single_by k = pick (ltb k 4) (leb 2 k) (pick (ltb k 13) false (pick (eqb k 24) false (ltb k 36)))

module _ (v : ℕ) where
  all_single : each (λ k. is_single (order_of k v)) 0 38 ≡ each single_by 0 38
  unfolding each order_of shapes pick
  all_single = refl

  none_single : (k : ℕ) → 38 ≤ k → is_single (order_of k v) ≡ single_by k
  unfolding pick
  none_single k h =
      rw (← no_order k v h, le-ltb k 4 (omega arith), le-ltb k 13 (omega arith), ne_eqb k 24 (λ e. omega (arith, e)), le-ltb k 36 (omega arith))
      refl

  pub single_told : (k : ℕ) → is_single (order_of k v) ≡ single_by k
  single_told k = by_less k 38 (λ h. each_at (λ j. is_single (order_of j v)) single_by 38 all_single k h) (none_single k)

-- ---- the first LOAD of a word, from place `at` on: none so far up to j

module _ (os : List ℕ) (at t j : ℕ) (on : at ≤ j) (same : past_load t (orders_at j os) ≡ past_load t (orders_at at os)) where
  pub word_found : j < length os → loads t (order_in (get_or os j 0)) ≡ true → PastWord os at t (j + 1)
  unfolding past_load pick
  word_found h yes_it = record {
    on = omega arith;
    inside = λ g. omega arith;
    rest = sym (ap (past_load t) (orders_inside j os h) ∙ ap (λ b. pick b (orders_at (j + 1) os) (past_load t (orders_at (j + 1) os))) yes_it) ∙ same;
  }

  pub word_later : j < length os → loads t (order_in (get_or os j 0)) ≡ false → past_load t (orders_at (j + 1) os) ≡ past_load t (orders_at at os)
  unfolding past_load pick
  word_later h no_it =
      sym (ap (past_load t) (orders_inside j os h) ∙ ap (λ b. pick b (orders_at (j + 1) os) (past_load t (orders_at (j + 1) os))) no_it) ∙ same

  pub word_never : length os ≤ j → (r : ℕ) → r ≡ max at (length os) → PastWord os at t r
  unfolding past_load
  word_never h r e = record {
    on = omega (arith, e);
    inside = λ g. omega (arith, e, g);
    rest = none_outside r os (omega (arith, e)) ∙ sym (ap (past_load t) (none_outside j os h)) ∙ same;
  }

-- ---- STR of a temporary

module _ (os : List ℕ) (at first t w : ℕ) (here : Store w ≡ first_order (orders_at at os)) where
  pub store_other : (w ≡ t → ⊥) → None ≡ link_of first t (orders_at at os)
  unfolding pick
  store_other h = rw (← here, ne_eqb w t h) refl

  module _ (same : w ≡ t) (q : Order) (behind_it : q ≡ first_order (orders_at (at + 1) os)) where
    stored : link_of first t (orders_at at os) ≡ pick (loads_leaf first q) (Some Kept) None
    unfolding pick
    stored =
        ap (λ o. link_by first t o (first_order (behind (orders_at at os)))) (sym here)
        ∙ ap (λ b. pick b (pick (loads_leaf first (first_order (behind (orders_at at os)))) (Some Kept) None) None) (eq-eqb w t same)
        ∙ ap (λ o. pick (loads_leaf first o) (Some Kept) None) (sym (behind_it ∙ ap first_order (orders_behind at os)))

    pub store_kept : (b : Bool) → b ≡ loads_leaf first q → b ≡ true → Some Kept ≡ link_of first t (orders_at at os)
    unfolding pick
    store_kept b known yes_it = sym (stored ∙ ap (λ k. pick k (Some Kept) None) (sym known ∙ yes_it))

    pub store_end : (b : Bool) → b ≡ loads_leaf first q → b ≡ false → None ≡ link_of first t (orders_at at os)
    unfolding pick
    store_end b known no_it = sym (stored ∙ ap (λ k. pick k (Some Kept) None) (sym known ∙ no_it))

-- ---- fields

pub map_append : {A B : Type 0} (f : A → B) (xs ys : List A) → map f (xs ++ ys) ≡ map f xs ++ map f ys
map_append f [] ys = refl
map_append f (x ∷ xs) ys = ap (λ l. f x ∷ l) (map_append f xs ys)

-- a store before others
pub set_sets : (ws l : List ℕ) (i j c : ℕ) → i < j → set (sets l j ws) i c ≡ sets (set l i c) j ws
set_sets [] l i j c h = refl
set_sets (w ∷ ws) l i j c h =
    set_sets ws (set l j w) i (suc j) c (omega arith) ∙ ap (λ m. sets m (suc j) ws) (set_comm l j i w c (λ e. omega arith))

pub writes_before : (ws l : List ℕ) (q c : ℕ) → set (sets l (q + 1) ws) q c ≡ sets l q (c ∷ ws)
writes_before ws l q c = rw (add-one q) (set_sets ws l q (suc q) c (omega arith))

pub writes_none : (n : ℕ) (fs : List ℕ) → Writes [] n fs n fs
writes_none n fs = record { place = omega arith; fields = refl }

pub writes_more :
    {es gs : List Field} {n j r : ℕ} {fs m after : List ℕ}
    → Writes es n fs j m
    → Writes gs j m r after
    → Writes (es ++ gs) n fs r after
writes_more {es} {gs} {n} {j} {r} {fs} {m} {after} p q = record {
  place = q.place ∙ rw (p.place, length-append es gs) (add_assoc n (length es) (length gs));
  fields =
      q.fields
      ∙ rw (p.fields, p.place, map_append field_word es gs, sets_append fs n (map field_word es) (map field_word gs), length-map es field_word) refl;
}

pub safe_more : {n j r : ℕ} {fs m after : List ℕ} → Safe n fs j m → Safe j m r after → Safe n fs r after
safe_more p q = record { kept = q.kept ∙ p.kept; inside = λ h. let i = p.inside h in omega (arith, q.inside (omega (arith, i, p.kept)), p.kept) }
