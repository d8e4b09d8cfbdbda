-- The first member of a run, told from orders: where the first condition of the run ends.
use Prim.Native.Nat.{ℕ, ◌+◌, ◌≤◌, ◌<◌, max}
use mathlib.Core.Path.{◌≡◌, refl, sym, ap, ◌∙◌}
use mathlib.Core.Bool.{Bool, true, false, not}
use mathlib.Core.List.{List, [], ◌∷◌, ◌++◌, append_assoc, append-nil}
use native.Mathlib.Omega.{arith}
use borrow.Author.Tests.{le-leb, lt-leb, eq-eqb, ne_eqb}
use lib.Dec.{leb}
use lib.ListN.{length}
use Rattle.std.specs.Prelude.{Option, Some, None}
use Rattle.base.specs.Choice.{pick}
use Rattle.word.specs.declared.Relation.{Relation}
use Rattle.order.specs.declared.Order.{Order}
use Rattle.order.specs.declared.Order.TheVariants.{Branch}
use Rattle.sheet.specs.declared.Joining.{Joining}
use Rattle.sheet.specs.Sheet.{Expression, Condition, compares, joins}
use Rattle.sheet.specs.Orders.{comparison_code, comparison_temporaries}
use Rattle.sheet.specs.Formed.{Expressed}
use Rattle.sheet.specs.Condition.{is_run, Merged, AllExpressed, trying}
use Rattle.sheet.specs.Guess.{furthest, other, on_at, alike}
use Rattle.sheet.proofs.Each.{Each}
use Rattle.sheet.proofs.CodeOrders.{OfExpression, comparison_orders}
use Rattle.sheet.proofs.Sizes.{trying_some}
use Rattle.sheet.proofs.Trees.{furthest_in, furthest_out, beyond, still, other_word, outside}
use Rattle.untranslate_expression.specs.Internal.{orders_at}
use Rattle.untranslate_expression.proofs.Places.{orders_inside, none_outside}
use Rattle.untranslate_condition.specs.Internal.{lead_at, step_by, on_step, member_end, FirstMember, goes_on_by, far_code}
use Rattle.untranslate_condition.proofs.Leads.{leads_nowhere}

-- ---- one order

module _ (e m k : ℕ) (r : Relation) (a : ℕ) (lead : Option (Relation × ℕ)) (leads : Some (r, a) ≡ lead) (far : ℕ) (its : far ≡ furthest e m a) where
  pub step_over : far ≤ k + 1 → None ≡ step_by e m k lead
  unfolding pick
  step_over h = rw (← leads, ← its, le-leb far (k + 1) h) refl

  pub step_on : k + 1 < far → Some far ≡ step_by e m k lead
  unfolding pick
  step_on h = rw (← leads, ← its, lt-leb far (k + 1) h) refl

not_other : (b : Bool) → not b ≡ other b
not_other true = refl
not_other false = refl

module _ (falls : Bool) (e : ℕ) (r : Relation) (a : ℕ) (lead : Option (Relation × ℕ)) (leads : Some (r, a) ≡ lead) where
  pub goes_back : a ≡ e → not falls ≡ goes_on_by falls e lead
  unfolding pick
  goes_back h = rw (← leads, eq-eqb a e h) (not_other falls)

  pub goes_out : (a ≡ e → ⊥) → falls ≡ goes_on_by falls e lead
  unfolding pick
  goes_out h = rw (← leads, ne_eqb a e h) refl

-- ---- a turn of the loop, and its ends

module _ (os : List ℕ) (p k m : ℕ) (on : p ≤ k) (far : k ≤ max p (length os))
    (same : member_end (length os) m k (orders_at k os) ≡ member_end (length os) 0 p (orders_at p os)) where
  turn : k < length os → member_end (length os) m k (orders_at k os)
      ≡ on_step (step_by (length os) m k (lead_at k os)) (k + 1) (λ i. member_end (length os) i (k + 1) (orders_at (k + 1) os))
  unfolding member_end
  turn h = rw (orders_inside k os h) refl

  pub member_on : k < length os → (t : Option ℕ) → t ≡ step_by (length os) m k (lead_at k os) → (i : ℕ) → t ≡ Some i
      → member_end (length os) i (k + 1) (orders_at (k + 1) os) ≡ member_end (length os) 0 p (orders_at p os)
  member_on h t known i is =
      sym (turn h ∙ ap (λ u. on_step u (k + 1) (λ i. member_end (length os) i (k + 1) (orders_at (k + 1) os))) (sym known ∙ is)) ∙ same

  pub member_over : k < length os → (t : Option ℕ) → t ≡ step_by (length os) m k (lead_at k os) → t ≡ None → FirstMember os p (k + 1)
  member_over h t known is = record {
    on = omega arith;
    over = λ g. omega arith;
    inside = λ g. omega arith;
    is = sym (turn h ∙ ap (λ u. on_step u (k + 1) (λ i. member_end (length os) i (k + 1) (orders_at (k + 1) os))) (sym known ∙ is)) ∙ same;
  }

  pub member_last : length os ≤ k → (r : ℕ) → r ≡ max p (length os) → FirstMember os p r
  unfolding member_end
  member_last h r e =
      let there : r ≡ k = omega (arith, e, on, far, h) in
      record {
        on = omega (arith, e);
        over = λ g. omega (arith, e, g);
        inside = λ g. omega (arith, e, g);
        is = there ∙ sym (ap (member_end (length os) m k) (none_outside k os h)) ∙ same;
      }

-- ---- the first member

module _ (v : ℕ) where
  -- the search goes over the orders of an expression
  passes :
      (t e m k n : ℕ) (cs l : List Order)
      → Each (OfExpression v t) cs
      → k + length cs ≡ n
      → member_end e m k (cs ++ l) ≡ member_end e m n l
  unfolding member_end
  passes t e m k n [] l h there = ap (λ i. member_end e m i l) (omega arith)
  passes t e m k n (o ∷ cs) l h there = rw (leads_nowhere v t o h.0) (passes t e m (k + 1) n cs l h.1 (omega arith))

  -- a comparison, which ends before order n
  tested :
      (e m p n : ℕ) (x y : Expression) (r : Relation) (d : ℕ) (l : List Order)
      → Expressed v x
      → Expressed v y
      → p + (length (comparison_code v x y) + 1) ≡ n
      → member_end e m p ((comparison_code v x y ++ (Branch r d ∷ [])) ++ l)
      ≡ on_step (pick (leb (furthest e m d) n) None (Some (furthest e m d))) n (λ i. member_end e i n l)
  unfolding member_end
  tested e m p n x y r d l hx hy here_is =
      let cs = comparison_code v x y in
      let next : p + length cs + 1 ≡ n = omega arith in
      ap (member_end e m p) (append_assoc cs (Branch r d ∷ []) l)
      ∙ passes (comparison_temporaries x y) e m p (p + length cs) cs (Branch r d ∷ l) (comparison_orders v x y hx hy) refl
      ∙ rw next refl

  -- where a branch leads on, no member ends
  through :
      (e m p n : ℕ) (g : Bool) (d : ℕ) (c : Condition) (l : List Order)
      → AllExpressed v c
      → p + trying v c ≡ n
      → n < e
      → n < d
      → n < furthest e m d
      → member_end e m p (far_code v p g d c ++ l) ≡ member_end e (furthest e m d) n l
  unfolding far_code pick trying AllExpressed
  through e m p n g d (compares r x y) l all here_is h k far =
      tested e m p n x y _ d l all.0 all.1 here_is ∙ rw (lt-leb (furthest e m d) n far) refl
  through e m p n g d (joins w a b) l all here_is h k far =
      let s = p + trying v a in
      let whole : s + trying v b ≡ n = omega arith in
      let some_b = trying_some v b in
      let x = beyond e m s n d (alike (on_at w) g) (omega arith) h k far in
      let f = pick (alike (on_at w) g) d n in
      let xs = far_code v p (on_at w) f a in
      let ys = far_code v s g d b in
      rw whole
      (ap (member_end e m p) (append_assoc xs ys l)
      ∙ through e m p s (on_at w) f a (ys ++ l) all.0 refl (omega arith) x.ahead x.further
      ∙ through e (furthest e m f) s n g d b l all.1 whole h k (rw x.over far)
      ∙ ap (λ i. member_end e i n l) x.over)

  -- where the furthest is its end, it is the first member
  ends_so :
      (e p n : ℕ) (g : Bool) (d : ℕ) (c : Condition) (l : List Order)
      → AllExpressed v c
      → p + trying v c ≡ n
      → n < e
      → e ≤ d
      → member_end e n p (far_code v p g d c ++ l) ≡ n
  unfolding far_code pick trying AllExpressed
  ends_so e p n g d (compares r x y) l all here_is h k =
      let z = furthest_out e n d k in
      tested e n p n x y _ d l all.0 all.1 here_is ∙ rw (le-leb (furthest e n d) n (omega arith)) refl
  ends_so e p n g d (joins w a b) l all here_is h k =
      let s = p + trying v a in
      let whole : s + trying v b ≡ n = omega arith in
      let some_b = trying_some v b in
      let f = pick (alike (on_at w) g) d n in
      let xs = far_code v p (on_at w) f a in
      let ys = far_code v s g d b in
      let x = still e n d (alike (on_at w) g) h k in
      rw whole
      (ap (member_end e n p) (append_assoc xs ys l)
      ∙ through e n p s (on_at w) f a (ys ++ l) all.0 refl (omega arith) (omega (arith, x.1)) (omega (arith, x.0))
      ∙ ap (λ i. member_end e i s (ys ++ l)) x.0
      ∙ ends_so e s n g d b l all.1 whole h k)

  -- a member of a run is no run of its word, and either answer of the first part of it that leads on leads to its end
  member :
      (e p n : ℕ) (w : Joining) (d : ℕ) (a : Condition) (l : List Order)
      → AllExpressed v a
      → is_run w a ≡ false
      → p + trying v a ≡ n
      → n < e
      → e ≤ d
      → member_end e 0 p (far_code v p (on_at w) d a ++ l) ≡ n
  unfolding far_code pick trying AllExpressed
  member e p n w d (compares r x y) l all apart here_is h k =
      let z = furthest_out e 0 d k in
      tested e 0 p n x y _ d l all.0 all.1 here_is ∙ rw (le-leb (furthest e 0 d) n (omega arith)) refl
  member e p n w d (joins u a b) l all apart here_is h k =
      let s = p + trying v a in
      let whole : s + trying v b ≡ n = omega arith in
      let some_b = trying_some v b in
      let xs = far_code v p (on_at u) n a in
      let ys = far_code v s (on_at w) d b in
      let x : furthest e 0 n ≡ n = furthest_in e 0 n h ∙ omega arith in
      rw (whole, other_word w u apart)
      (ap (member_end e 0 p) (append_assoc xs ys l)
      ∙ through e 0 p s (on_at u) n a (ys ++ l) all.0 refl (omega arith) (omega arith) (omega arith)
      ∙ ap (λ i. member_end e i s (ys ++ l)) x
      ∙ ends_so e s n (on_at w) d b l all.1 whole h k)

  -- a comparison is all of its orders
  pub one_member :
      (e p : ℕ) (g : Bool) (d : ℕ) (r : Relation) (x y : Expression)
      → AllExpressed v (compares r x y)
      → p + trying v (compares r x y) ≡ e
      → e < d
      → member_end e 0 p (far_code v p g d (compares r x y)) ≡ e
  unfolding far_code pick trying AllExpressed
  one_member e p g d r x y all here_is h =
      let z = furthest_out e 0 d (omega arith) in
      ap (member_end e 0 p) (sym (append-nil (far_code v p g d (compares r x y))))
      ∙ tested e 0 p e x y _ d [] all.0 all.1 here_is
      ∙ rw (le-leb (furthest e 0 d) e (omega arith)) refl

  -- a run has its first member at the front
  pub run_member :
      (e p : ℕ) (g : Bool) (d : ℕ) (w : Joining) (a b : Condition)
      → AllExpressed v (joins w a b)
      → Merged (joins w a b)
      → p + trying v a + trying v b ≡ e
      → e < d
      → member_end e 0 p (far_code v p g d (joins w a b)) ≡ p + trying v a
  unfolding far_code AllExpressed Merged
  run_member e p g d w a b all merged here_is h =
      let more_b = trying_some v b in
      rw here_is
      (member e p (p + trying v a) w (pick (alike (on_at w) g) d e) a (far_code v (p + trying v a) g d b) all.0 merged.0 refl (omega arith)
      (outside e d (alike (on_at w) g) h))
