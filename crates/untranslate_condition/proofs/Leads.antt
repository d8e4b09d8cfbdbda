-- Where orders lead: by their numbers, in a loop over them, and in the orders of expressions and conditions.
use Prim.Native.Nat.{ℕ, suc, ◌+◌, ◌-◌, ◌/◌, ◌%◌, ◌≤◌, ◌<◌, max}
use mathlib.Core.Path.{◌≡◌, refl, sym, ap, ◌∙◌}
use mathlib.Core.Bool.{Bool}
use mathlib.Core.List.{List, [], ◌∷◌, ◌++◌, append_assoc}
use native.Mathlib.Omega.{arith}
use native.Mathlib.Numerals.{add-one}
use borrow.Author.Tests.{lt-ltb, le-ltb, eq-eqb, ne_eqb}
use lib.Dec.{ltb}
use lib.ListN.{length, get_or}
use Rattle.std.specs.Prelude.{Option, Some, None}
use Rattle.base.specs.Choice.{pick}
use Rattle.base.specs.Places.{each}
use Rattle.base.proofs.Cases.{by_less}
use Rattle.base.proofs.Places.{each_at}
use Rattle.word.specs.declared.Relation.{Relation}
use Rattle.word.specs.declared.Relation.TheVariants.{AtLeast}
use Rattle.order.specs.declared.Order.{Order}
use Rattle.order.specs.declared.Order.TheVariants.{Word, Number, Store, Neg, Not, Jump, Skip, Branch, Cond, Send, Stop}
use Rattle.order.specs.Memory.{shapes, order_of, order_in}
use Rattle.order.proofs.Numbers.{no_order}
use Rattle.sheet.specs.Sheet.{Expression, Condition, compares, joins}
use Rattle.sheet.specs.Orders.{comparison_code, comparison_temporaries}
use Rattle.sheet.specs.Formed.{Expressed}
use Rattle.sheet.specs.Condition.{comparisons, AllExpressed, trying}
use Rattle.sheet_field.specs.Memory.{relations}
use Rattle.sheet.proofs.Each.{Each}
use Rattle.sheet.proofs.CodeOrders.{OfExpression, comparison_orders}
use Rattle.sheet.specs.Guess.{on_at}
use Rattle.untranslate_expression.specs.Internal.{orders_at, first_order}
use Rattle.untranslate_expression.proofs.Places.{orders_inside, none_outside}
use Rattle.untranslate_condition.specs.Internal.{lead_of, lead_at, left_by, branches_end, PastBranches, far_code}

-- ---- by numbers

module _ (v : ℕ) where
  abbrev lead_by : ℕ → Option (Relation × ℕ)
  lead_by k = pick (ltb k 5) None (pick (ltb k 11) (Some (get_or relations (k - 5) AtLeast, v)) None)

  all_lead : each (λ k. lead_of (order_of k v)) 0 38 ≡ each lead_by 0 38
  unfolding each order_of shapes pick
  all_lead = refl

  none_lead : (k : ℕ) → 38 ≤ k → lead_of (order_of k v) ≡ lead_by k
  unfolding pick
  none_lead k h = rw (← no_order k v h, le-ltb k 5 (omega arith), le-ltb k 11 (omega arith)) refl

  lead_told : (k : ℕ) → lead_of (order_of k v) ≡ lead_by k
  lead_told k = by_less k 38 (λ h. each_at (λ j. lead_of (order_of j v)) lead_by 38 all_lead k h) (none_lead k)

module _ (x : ℕ) where
  abbrev kind_of : ℕ
  kind_of = x / 4294967296

  pub lead_low : kind_of < 5 → None ≡ lead_of (order_in x)
  unfolding pick
  lead_low h = sym (lead_told (x % 4294967296) kind_of ∙ rw (lt-ltb kind_of 5 h) refl)

  pub lead_branch : 5 ≤ kind_of → kind_of < 11 → (r : Relation) → r ≡ get_or relations (kind_of - 5) AtLeast → Some (r, x % 4294967296) ≡ lead_of (order_in x)
  unfolding pick
  lead_branch h k r its = sym (lead_told (x % 4294967296) kind_of ∙ rw (le-ltb kind_of 5 h, lt-ltb kind_of 11 k, ← its) refl)

  pub lead_high : 5 ≤ kind_of → 11 ≤ kind_of → None ≡ lead_of (order_in x)
  unfolding pick
  lead_high h k = sym (lead_told (x % 4294967296) kind_of ∙ rw (le-ltb kind_of 5 h, le-ltb kind_of 11 k) refl)

pub lead_inside_law : (at : ℕ) (os : List ℕ) → at < length os → lead_at at os ≡ lead_of (order_in (get_or os at 0))
lead_inside_law at os h = ap (λ l. lead_of (first_order l)) (orders_inside at os h)

-- ---- branches counted: a turn of the loop, and its ends

module _ (os : List ℕ) (at n k left : ℕ) (on : at ≤ k) (far : k ≤ max at (length os))
    (same : branches_end left k (orders_at k os) ≡ branches_end n at (orders_at at os)) where
  pub branch_counted :
      k < length os
      → (left ≡ 0 → ⊥)
      → (m : ℕ)
      → m ≡ left_by left (lead_of (order_in (get_or os k 0)))
      → branches_end m (k + 1) (orders_at (k + 1) os) ≡ branches_end n at (orders_at at os)
  unfolding branches_end pick
  branch_counted h some m next =
      sym (ap (branches_end left k) (orders_inside k os h) ∙ rw (ne_eqb left 0 some, ← next, add-one k) refl) ∙ same

  pub branches_counted : k < length os → left ≡ 0 → PastBranches os at n k
  unfolding branches_end pick
  branches_counted h none = record {
    on = on;
    inside = λ g. omega (arith, h);
    is = sym (ap (branches_end left k) (orders_inside k os h) ∙ rw (eq-eqb left 0 none) refl) ∙ same;
  }

  pub branches_ended : length os ≤ k → (r : ℕ) → r ≡ max at (length os) → PastBranches os at n r
  unfolding branches_end
  branches_ended h r e =
      let there : r ≡ k = omega (arith, e, on, far, h) in
      record { on = omega (arith, e); inside = λ g. omega (arith, e, g); is = there ∙ sym (ap (branches_end left k) (none_outside k os h)) ∙ same }

-- ---- the orders of an expression lead nowhere

pub leads_nowhere : (v t : ℕ) (o : Order) → OfExpression v t o → lead_of o ≡ None
leads_nowhere v t (Word f w) h = refl
leads_nowhere v t (Number f n) h = refl
leads_nowhere v t (Store w) h = refl
leads_nowhere v t Neg h = refl
leads_nowhere v t Not h = refl
leads_nowhere v t (Jump a) h = refl
leads_nowhere v t (Skip a) h = refl
leads_nowhere v t (Branch r a) h = absurd h
leads_nowhere v t (Cond n) h = refl
leads_nowhere v t Send h = refl
leads_nowhere v t Stop h = refl

-- ---- a condition has as many branches as comparisons

module _ (v : ℕ) where
  expression_branches :
      (t n k q : ℕ) (cs l : List Order)
      → Each (OfExpression v t) cs
      → (n ≡ 0 → ⊥)
      → k + length cs ≡ q
      → branches_end n k (cs ++ l) ≡ branches_end n q l
  unfolding branches_end pick
  expression_branches t n k q [] l h some there = ap (λ i. branches_end n i l) (omega arith)
  expression_branches t n k q (o ∷ cs) l h some there =
      rw (ne_eqb n 0 some, leads_nowhere v t o h.0) (expression_branches t n (suc k) q cs l h.1 some (omega arith))

  comparison_branches :
      (n j k q : ℕ) (x y : Expression) (r : Relation) (d : ℕ) (l : List Order)
      → Expressed v x
      → Expressed v y
      → n ≡ 1 + j
      → k + (length (comparison_code v x y) + 1) ≡ q
      → branches_end n k ((comparison_code v x y ++ (Branch r d ∷ [])) ++ l) ≡ branches_end j q l
  unfolding branches_end pick
  comparison_branches n j k q x y r d l hx hy many there =
      let cs = comparison_code v x y in
      let b = k + length cs in
      let some : n ≡ 0 → ⊥ = λ z. omega arith in
      let next : suc b ≡ q = omega arith in
      let fewer : n - 1 ≡ j = omega arith in
      ap (branches_end n k) (append_assoc cs (Branch r d ∷ []) l)
      ∙ expression_branches (comparison_temporaries x y) n k b cs (Branch r d ∷ l) (comparison_orders v x y hx hy) some refl
      ∙ rw (ne_eqb n 0 some, next, fewer) refl

  pub condition_branches :
      (p : ℕ) (g : Bool) (d : ℕ) (c : Condition) (n j k q : ℕ) (l : List Order)
      → AllExpressed v c
      → n ≡ comparisons c + j
      → k + trying v c ≡ q
      → branches_end n k (far_code v p g d c ++ l) ≡ branches_end j q l
  unfolding far_code trying comparisons AllExpressed
  condition_branches p g d (compares r x y) n j k q l h many there =
      comparison_branches n j k q x y _ d l h.0 h.1 many there
  condition_branches p g d (joins w a b) n j k q l h many there =
      let s = p + trying v a in
      let xs = far_code v p (on_at w) _ a in
      let ys = far_code v s g d b in
      ap (branches_end n k) (append_assoc xs ys l)
      ∙ condition_branches p (on_at w) _ a n (comparisons b + j) k (k + trying v a) (ys ++ l) h.0 (omega arith) refl
      ∙ condition_branches s g d b (comparisons b + j) j (k + trying v a) q l h.1 refl (omega arith)
