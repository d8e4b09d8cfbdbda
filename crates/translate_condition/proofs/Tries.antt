-- The orders of what an IF asks: its comparisons with their branches, one behind the other, and COND before them.
use Prim.Native.Nat.{ℕ, ◌+◌, ◌≤◌, ◌<◌}
use mathlib.Core.Path.{◌≡◌, refl, sym, ap, ap₂, subst, ◌∙◌}
use mathlib.Core.Bool.{true, false}
use Rattle.std.specs.Prelude.{None, Some}
use mathlib.Core.List.{List, [], ◌∷◌, ◌++◌, map, append_assoc}
use native.Mathlib.Omega.{arith}
use native.Mathlib.Nat.{add-zero}
use borrow.Author.Tests.{lt-ltb, le-ltb}
use lib.ListN.{length, length-append}
use lib.Seq.{sets}
use Rattle.base.specs.Choice.{pick}
use Rattle.word.specs.declared.Relation.{Relation}
use Rattle.order.specs.declared.Order.{Order}
use Rattle.order.specs.declared.Order.TheVariants.{Branch, Cond}
use Rattle.order.specs.Memory.{order_word}
use Rattle.sheet.specs.declared.Joining.{Joining}
use Rattle.sheet.specs.declared.Joining.TheVariants.{And, Or}
use Rattle.sheet.specs.declared.Field.{Field}
use Rattle.sheet.specs.Sheet.{Condition, compares, joins}
use Rattle.sheet.specs.Fields.{expression_fields}
use Rattle.sheet.specs.Memory.{condition_fields}
use Rattle.sheet.specs.Orders.{temporary, comparison_code, opposite}
use Rattle.sheet.specs.Condition.{comparisons, trying, leaving, try_code, asking, asking_code}
use Rattle.sheet.proofs.Sizes.{try_length, asking_length, comparisons_some}
use Rattle.sheet_field.specs.Memory.{fields_at}
use Rattle.translate_expression.specs.declared.Spot.{Spot}
use Rattle.translate_expression.specs.Internal.{behind, Puts, Done, Comparing as Compared}
use Rattle.translate_expression.proofs.Turns.{puts_more, fields_behind}
use Rattle.translate_size.specs.declared.Asked.{Asked}
use Rattle.translate_size.specs.Answers.{capped}
use Rattle.translate_size.specs.Internal.{Trying as Sized}
use Rattle.translate_condition.specs.declared.Head.TheVariants.{Compare, Run}
use Rattle.translate_condition.specs.declared.Exits.{Exits}
use Rattle.translate_condition.specs.Internal.{first_head, first_exits, cond_of, Small, Comparing, Trying, Asking}
use Rattle.translate_condition.proofs.Looking.{not_longer}

-- ---- orders put

-- other orders as many, which are the same where there is room
pub puts_as :
    {os qs : List Order} {i r : ℕ} {out after : List ℕ}
    → length os ≡ length qs
    → (i + length os ≤ length out → os ≡ qs)
    → Puts os i out r after
    → Puts qs i out r after
puts_as {os} {qs} {i} {r} {out} {after} e same p = record {
  place = λ h. p.place (omega (arith, e)) ∙ ap (λ n. i + n) e;
  orders = λ h. let g : i + length os ≤ length out = omega (arith, e) in p.orders g ∙ ap (λ l. sets out i (map order_word l)) (same g);
  full = λ g h. p.full g (omega (arith, e));
  kept = p.kept;
}

pub puts_none : (i : ℕ) (out : List ℕ) → Puts [] i out i out
puts_none i out = record { place = λ h. omega arith; orders = λ h. refl; full = λ g h. omega arith; kept = refl }

pub small_kept : (fs : List ℕ) (word : ℕ) {os : List Order} {i r : ℕ} {out m : List ℕ} → Puts os i out r m → Small fs word out → Small fs word m
small_kept fs word p small = record { fields = small.fields; orders = omega (arith, small.orders, p.kept) }

-- ---- a comparison and its branch

pub branch_put :
    (fs : List ℕ) (at word i : ℕ) (s : Relation) (to : ℕ) (out : List ℕ) (c : Spot) (m : List ℕ)
    → Compared fs at word i out c m
    → (r : ℕ) (after : List ℕ)
    → Puts (Branch s to ∷ []) c.i m r after
    → Comparing fs at word i s to out (record { at = c.at; i = r }) after
branch_put fs at word i s to out c m p r after q = record {
  on = p.on;
  whole = λ v a b l w h small.
      let both = expression_fields a ++ expression_fields b in
      let few = not_longer fs at both l (h ∙ sym (append_assoc (expression_fields a) (expression_fields b) l)) in
      let done = p.whole v 0 a b l w h (omega (arith, small.fields, few, length-append (expression_fields a) (expression_fields b))) in
      record { rest = done.rest; put = puts_more done.put q };
}

-- ---- a run's code by that of its members

module _ (v i : ℕ) (x : Exits) (a b : Condition) where
  joined_many : (t : Joining) → trying v a + trying v b ≡ trying v (joins t a b)
  unfolding trying
  joined_many t = refl

  -- the rest begins behind the first member
  run_code :
      (t : Joining)
      → try_code v i (first_exits t (i + trying v a) x).falls (first_exits t (i + trying v a) x).yes (first_exits t (i + trying v a) x).no a
      ++ try_code v (i + trying v a) x.falls x.yes x.no b
      ≡ try_code v i x.falls x.yes x.no (joins t a b)
  unfolding try_code
  run_code And = refl
  run_code Or = refl

-- ---- a condition by its first field

module _ (fs : List ℕ) (at word i : ℕ) (x : Exits) (out : List ℕ) where
  -- no condition
  pub none_tried : None ≡ first_head (fields_at at fs) → Trying fs at word i x out (record { at = at; i = i }) out
  unfolding condition_fields
  none_tried known = record { on = omega arith; whole = λ v c l w h small. absurd (no_condition_law c l h) }
    where
      no_condition_law : (c : Condition) (l : List Field) → fields_at at fs ≡ condition_fields c ++ l → ⊥
      no_condition_law (compares t a b) l h = let z : ◌≡◌ {A = ℕ} 0 1 = cc (known ∙ ap first_head h) in omega arith
      no_condition_law (joins u a b) l h = let z : ◌≡◌ {A = ℕ} 0 1 = cc (known ∙ ap first_head h) in omega arith

  -- a comparison, whose branch asks for this relation and leads there
  module _ (s : Relation) (known : Some (Compare s) ≡ first_head (fields_at at fs)) (asks : Relation) (to : ℕ) (r : Spot) (after : List ℕ)
      (p : Comparing fs (at + 1) word i asks to out r after) where
    compared_whole :
        asks ≡ leaving x.falls s
        → to ≡ pick x.falls x.no x.yes
        → (v : ℕ) (c : Condition) (l : List Field)
        → word ≡ temporary v 0
        → fields_at at fs ≡ condition_fields c ++ l
        → Small fs word out
        → Done fs l (try_code v i x.falls x.yes x.no c) i out r after
    unfolding condition_fields try_code
    compared_whole so there v (compares t a b) l w h small =
        let same : s ≡ t = cc (known ∙ ap first_head h) in
        subst (λ o. Done fs l (comparison_code v a b ++ o ∷ []) i out r after) (ap₂ Branch (so ∙ ap (leaving x.falls) same) there)
        (p.whole v a b l w (fields_behind at fs ∙ ap behind h ∙ append_assoc (expression_fields a) (expression_fields b) l) small)
    compared_whole so there v (joins u a b) l w h small = let z : ◌≡◌ {A = ℕ} 0 1 = cc (known ∙ ap first_head h) in absurd (omega arith)

    -- a yes falls through
    pub yes_falls : x.falls ≡ true → asks ≡ opposite s → to ≡ x.no → Trying fs at word i x out r after
    unfolding pick
    yes_falls f so there = record { on = omega (arith, p.on); whole = compared_whole (rw f so) (rw f there) }

    -- a no does
    pub no_falls : x.falls ≡ false → asks ≡ s → to ≡ x.yes → Trying fs at word i x out r after
    unfolding pick
    no_falls f so there = record { on = omega (arith, p.on); whole = compared_whole (rw f so) (rw f there) }

  module _ (u : Joining) (known : Some (Run u) ≡ first_head (fields_at at fs)) (n : Asked) (sized : Sized fs (at + 1) n) (next : ℕ)
      (there : i + n.orders < 4294967296 → next ≡ i + n.orders) (e : Exits) (its : e ≡ first_exits u next x) (s : Spot) (m : List ℕ)
      (first : Trying fs (at + 1) word i e out s m) (r : Spot) (after : List ℕ) (rest : Trying fs s.at word s.i x m r after) where
    -- the orders of the two members, as they are where there is room for them
    members :
        (v : ℕ) (t : Joining) (a b : Condition) (l : List Field)
        → u ≡ t
        → word ≡ temporary v 0
        → fields_at (at + 1) fs ≡ condition_fields a ++ (condition_fields b ++ l)
        → Small fs word out
        → Done fs l (try_code v i x.falls x.yes x.no (joins t a b)) i out r after
    members v t a b l same w h small =
        let one = first.whole v a (condition_fields b ++ l) w h small in
        let two = rest.whole v b l w one.rest (small_kept fs word one.put small) in
        let size = (sized.whole v a (condition_fields b ++ l) h).its_orders in
        let k = i + trying v a in
        let as_many = try_length v i e.falls e.yes e.no a in
        let bs_many = try_length v s.i x.falls x.yes x.no b in
        let many = length-append (try_code v i e.falls e.yes e.no a) (try_code v s.i x.falls x.yes x.no b) in
        record {
          rest = two.rest;
          put =
              puts_as
              (many ∙ ap₂ ◌+◌ as_many bs_many ∙ joined_many v i x a b t ∙ sym (try_length v i x.falls x.yes x.no (joins t a b)))
              (λ g.
              let place : s.i ≡ k = one.put.place (omega (arith, g, many)) ∙ ap (λ y. i + y) as_many in
              let goes : next ≡ k = there (omega (arith, g, many, as_many, size, small.orders)) ∙ omega (arith, g, many, as_many, size, small.orders) in
              ap₂ (λ q p. try_code v i q.falls q.yes q.no a ++ try_code v p x.falls x.yes x.no b) (its ∙ ap₂ (λ y p. first_exits y p x) same goes) place
              ∙ run_code v i x a b t)
              (puts_more one.put two.put);
        }

    joined_whole :
        (v : ℕ) (c : Condition) (l : List Field)
        → word ≡ temporary v 0
        → fields_at at fs ≡ condition_fields c ++ l
        → Small fs word out
        → Done fs l (try_code v i x.falls x.yes x.no c) i out r after
    unfolding condition_fields
    joined_whole v (compares t a b) l w h small = let z : ◌≡◌ {A = ℕ} 0 1 = cc (known ∙ ap first_head h) in absurd (omega arith)
    joined_whole v (joins t a b) l w h small =
        members v t a b l (cc (known ∙ ap first_head h)) w
        (fields_behind at fs ∙ ap behind h ∙ append_assoc (condition_fields a) (condition_fields b) l) small

    pub run_tried : Trying fs at word i x out r after
    run_tried = record { on = omega (arith, first.on, rest.on); whole = joined_whole }

-- ---- COND, and all of it

fewer : (v : ℕ) (c : Condition) → comparisons c ≤ trying v c
unfolding comparisons trying
fewer v (compares r a b) = omega arith
fewer v (joins w a b) = omega (arith, fewer v a, fewer v b)

module _ (i count : ℕ) (out : List ℕ) where
  pub no_cond : count ≤ 1 → Puts (cond_of count) i out i out
  unfolding pick
  no_cond one = rw (le-ltb 1 count one) (puts_none i out)

  pub some_cond : 1 < count → (r : ℕ) (after : List ℕ) → Puts (Cond count ∷ []) i out r after → Puts (cond_of count) i out r after
  unfolding pick
  some_cond more r after p = rw (lt-ltb 1 count more) p

-- the orders of a condition of so many comparisons
asked_code : (v p : ℕ) (c : Condition) (d : ℕ) → cond_of (comparisons c) ++ try_code v (p + length (cond_of (comparisons c))) true (p + asking v c) d c ≡ asking_code v p c d
unfolding comparisons asking asking_code pick
asked_code v p (compares r a b) d = ap (λ k. try_code v k true (p + trying v (compares r a b)) d (compares r a b)) (add-zero p)
asked_code v p (joins w a b) d =
    let two : 1 < comparisons a + comparisons b = omega (arith, comparisons_some a, comparisons_some b) in
    rw (lt-ltb 1 (comparisons a + comparisons b) two) refl

-- two comparisons are counted as such by a word
cond_length : (v : ℕ) (c : Condition) (count : ℕ) → count ≡ capped (comparisons c) → length (cond_of count) + trying v c ≡ asking v c
unfolding comparisons asking pick
cond_length v (compares r a b) count e = rw e (omega arith)
cond_length v (joins w a b) count e =
    let two : 1 < count = omega (arith, e, comparisons_some a, comparisons_some b) in
    rw (lt-ltb 1 count two) refl

pub all_asked :
    (fs : List ℕ) (at word i count yes_at no_at : ℕ) (out : List ℕ) (j : ℕ) (m : List ℕ)
    → Puts (cond_of count) i out j m
    → (r : Spot) (after : List ℕ)
    → Trying fs at word j (record { falls = true; yes = yes_at; no = no_at }) m r after
    → Asking fs at word i count yes_at no_at out r.i after
all_asked fs at word i count yes_at no_at out j m q r after p v c l w h small counted goes =
    let done = p.whole v c l w h (small_kept fs word q small) in
    let tries = try_length v j true yes_at no_at c in
    let conds = cond_length v c count counted in
    let many = length-append (cond_of count) (try_code v j true yes_at no_at c) in
    puts_as (many ∙ omega (arith, tries, conds) ∙ sym (asking_length v i c no_at))
    (λ g.
    let number : count ≡ comparisons c = counted ∙ omega (arith, g, many, tries, fewer v c, small.orders) in
    let place : j ≡ i + length (cond_of count) = q.place (omega (arith, g, many)) in
    let to : yes_at ≡ i + asking v c = goes (omega (arith, g, many, tries, conds)) in
    rw (place, to, number) (asked_code v i c no_at))
    (puts_more q done.put)
