-- Orders put one behind the other, and an expression's operators from the innermost to the outermost.
use Prim.Native.Nat.{ℕ, zero, suc, ◌+◌, ◌*◌, ◌-◌, ◌<◌, ◌≤◌}
use mathlib.Core.Path.{◌≡◌, refl, sym, ap, subst, ◌∙◌}
use mathlib.Core.Bool.{Bool, true, false}
use Rattle.std.specs.Prelude.{Option, None, Some}
use mathlib.Core.List.{List, [], ◌∷◌, ◌++◌, map, append_assoc}
use native.Mathlib.Omega.{arith}
use native.Mathlib.Nat.{add_assoc}
use native.Mathlib.Numerals.{add-one}
use lib.ListN.{length, get_or, length-append, length-map}
use lib.Seq.{drop-cons}
use Rattle.base.proofs.Cases.{by_less}
use Rattle.base.proofs.Lists.{sets_append}
use Rattle.order.specs.declared.Operation.{Operation}
use Rattle.order.specs.declared.Operation.TheVariants.{Load, Cmp}
use Rattle.order.specs.declared.Order.{Order}
use Rattle.order.specs.declared.Order.TheVariants.{Store, Neg, Not}
use Rattle.sheet.specs.declared.Field.{Field}
use Rattle.sheet.specs.Sheet.{Expression, word, constant, negated, inverted, binary, operand, worked_out}
use Rattle.sheet.specs.Fields.{expression_fields}
use Rattle.sheet.specs.Orders.{operation, temporary, code, joined}
use Rattle.sheet_field.specs.Memory.{field_in, fields_at}
use Rattle.order.specs.Memory.{order_word}
use Rattle.translate_expression.specs.declared.Operand.{Operand}
use Rattle.translate_expression.specs.declared.Operand.TheVariants.{Word as OnWord, Constant as OnConstant}
use Rattle.translate_expression.specs.declared.Node.{Node}
use Rattle.translate_expression.specs.declared.Node.TheVariants.{Plain, Unary, Binary}
use Rattle.translate_expression.specs.declared.Step.{Step}
use Rattle.translate_expression.specs.declared.Step.TheVariants.{Put, Right as RightStep}
use Rattle.translate_expression.specs.declared.Spot.{Spot}
use Rattle.translate_expression.specs.Internal.{step_of, right_step, Stepping, Comparing, behind, node_of, first_node, is_operator, right_of, order_on, Puts, Done, Putting, Righting}
use Rattle.translate_expression.specs.Internal.{Run, Outwards, closing, Operating}

-- ---- fields

pub map_append : {A B : Type 0} (f : A → B) (xs ys : List A) → map f (xs ++ ys) ≡ map f xs ++ map f ys
map_append f [] ys = refl
map_append f (x ∷ xs) ys = ap (λ l. f x ∷ l) (map_append f xs ys)

fields_behind_suc : (at : ℕ) (fs : List ℕ) → fields_at (suc at) fs ≡ behind (fields_at at fs)
fields_behind_suc zero [] = refl
fields_behind_suc zero (w ∷ fs) = refl
fields_behind_suc (suc at) [] = refl
fields_behind_suc (suc at) (w ∷ fs) = fields_behind_suc at fs

pub fields_behind : (at : ℕ) (fs : List ℕ) → fields_at (at + 1) fs ≡ behind (fields_at at fs)
fields_behind at fs = rw (add-one at) (fields_behind_suc at fs)

pub first_inside : (at : ℕ) (fs : List ℕ) → at < length fs → first_node (fields_at at fs) ≡ node_of (field_in (get_or fs at 0))
first_inside at fs h = rw (drop-cons fs at 0 h) refl

-- ---- orders one behind the other

pub puts_more :
    {os qs : List Order} {i j r : ℕ} {out m after : List ℕ}
    → Puts os i out j m
    → Puts qs j m r after
    → Puts (os ++ qs) i out r after
puts_more {os} {qs} {i} {j} {r} {out} {m} {after} p q = record {
  place = λ h. let k = first h in q.place (second h) ∙ rw (p.place k, length-append os qs) (add_assoc i (length os) (length qs));
  orders = λ h.
      let k = first h in
      q.orders (second h)
      ∙ rw (p.orders k, p.place k, map_append order_word os qs, sets_append out i (map order_word os) (map order_word qs), length-map os order_word) refl;
  full = λ g h.
      by_less (i + length os) (length out)
      (λ l. let k = p.place (omega arith) in
      q.full (omega (arith, k, p.kept)) (omega (arith, k, h, p.kept, length-append os qs)) ∙ p.kept)
      (λ l. let k = p.full g l in q.full (omega (arith, k, p.kept)) (omega (arith, k, p.kept)) ∙ p.kept);
  kept = q.kept ∙ p.kept;
}
  where
    first : i + length (os ++ qs) ≤ length out → i + length os ≤ length out
    first h = omega (arith, h, length-append os qs)

    second : i + length (os ++ qs) ≤ length out → j + length qs ≤ length m
    second h = let k = first h in omega (arith, h, length-append os qs, p.place k, p.kept)

-- ---- what an expression's first field says

pub impossible : {P : Type 0} (a : Bool) → a ≡ true → a ≡ false → P
impossible a e f = let z : ◌≡◌ {A = ℕ} 0 1 = cc in absurd (omega arith)

record IsPlain (e : Expression) (l : List Field) (x : Operand) : Type 0 where
  codes : (v d : ℕ) → order_on Load x ∷ [] ≡ code v d e
  joins : (o : Operation) (v d : ℕ) (a b : List Order) → a ++ order_on o x ∷ [] ≡ joined o v d (operand e) a b
  past : behind (expression_fields e ++ l) ≡ l

plainly : (e : Expression) (l : List Field) (x : Operand) → Some x ≡ right_of (first_node (expression_fields e ++ l)) → IsPlain e l x
unfolding expression_fields code
plainly (word w) l x h =
    let same : x ≡ OnWord w = cc in
    record { codes = λ v d. rw same refl; joins = λ o v d a b. rw same refl; past = refl }
plainly (constant n) l x h =
    let same : x ≡ OnConstant n = cc in
    record { codes = λ v d. rw same refl; joins = λ o v d a b. rw same refl; past = refl }
plainly (negated e) l x h = let z : ◌≡◌ {A = ℕ} 0 1 = cc in absurd (omega arith)
plainly (inverted e) l x h = let z : ◌≡◌ {A = ℕ} 0 1 = cc in absurd (omega arith)
plainly (binary o a b) l x h = let z : ◌≡◌ {A = ℕ} 0 1 = cc in absurd (omega arith)

pub workedly : (e : Expression) (l : List Field) → None ≡ right_of (first_node (expression_fields e ++ l)) → operand e ≡ worked_out
unfolding expression_fields
workedly (word w) l h = let z : ◌≡◌ {A = ℕ} 0 1 = cc in absurd (omega arith)
workedly (constant n) l h = let z : ◌≡◌ {A = ℕ} 0 1 = cc in absurd (omega arith)
workedly (negated e) l h = refl
workedly (inverted e) l h = refl
workedly (binary o a b) l h = refl

pub some_node : (e : Expression) (l : List Field) → None ≡ right_of (first_node (expression_fields e ++ l)) → is_operator (first_node (expression_fields e ++ l)) ≡ true
unfolding expression_fields
some_node (word w) l h = let z : ◌≡◌ {A = ℕ} 0 1 = cc in absurd (omega arith)
some_node (constant n) l h = let z : ◌≡◌ {A = ℕ} 0 1 = cc in absurd (omega arith)
some_node (negated e) l h = refl
some_node (inverted e) l h = refl
some_node (binary o a b) l h = refl

-- ---- the leaf

module _ (fs : List ℕ) (at i : ℕ) (out : List ℕ) (t : ℕ) where
  pub leaf_put :
      (x : Operand)
      → Some x ≡ right_of (first_node (fields_at at fs))
      → (o : Order)
      → o ≡ order_on Load x
      → (r : ℕ) (after : List ℕ)
      → Puts (o ∷ []) i out r after
      → Putting fs at t i out (record { at = at + 1; i = r }) after
  leaf_put x known o its r after p = record {
    on = omega arith;
    whole = λ v d e l w h b.
        let q = plainly e l x (known ∙ ap (λ m. right_of (first_node m)) h) in
        record {
          rest = fields_behind at fs ∙ ap behind h ∙ q.past;
          put = subst (λ os. Puts os i out r after) (ap (λ y. y ∷ []) its ∙ q.codes v d) p;
        };
  }

  pub no_leaf :
      None ≡ right_of (first_node (fields_at at fs))
      → is_operator (first_node (fields_at at fs)) ≡ false
      → Putting fs at t i out (record { at = at; i = i }) out
  no_leaf known none = record {
    on = omega arith;
    whole = λ v d e l w h b.
        impossible _ (some_node e l (known ∙ ap (λ m. right_of (first_node m)) h)) (sym (ap (λ m. is_operator (first_node m)) h) ∙ none);
  }

-- ---- two operands

module _ (fs : List ℕ) (t : ℕ) (s : Spot) (m : List ℕ) (r : Spot) (after : List ℕ) (f : Operation) (i : ℕ) (out : List ℕ) (v d : ℕ)
    (a b : Expression) (l : List Field) (w : t ≡ temporary v d) (few : t + 1 + length (expression_fields b) ≤ 4294967295)
    (done : Done fs (expression_fields b ++ l) (code v d a) i out s m) where
  -- the left operand stands; a plain right one
  plain_joined :
      (x : Operand)
      → Some x ≡ right_of (first_node (fields_at s.at fs))
      → r.at ≡ s.at + 1
      → Puts (order_on f x ∷ []) s.i m r.i after
      → Done fs l (joined f v d (operand b) (code v d a) (code v (suc d) b)) i out r after
  plain_joined x plain past put =
      let q = plainly b l x (plain ∙ ap (λ k. right_of (first_node k)) done.rest) in
      record {
        rest = ap (λ k. fields_at k fs) past ∙ fields_behind s.at fs ∙ ap behind done.rest ∙ q.past;
        put = subst (λ os. Puts os i out r.i after) (q.joins f v d (code v d a) (code v (suc d) b)) (puts_more done.put put);
      }

  -- one that is worked out
  worked_joined :
      None ≡ right_of (first_node (fields_at s.at fs))
      → Righting fs s.at f t s.i m r after
      → Done fs l (joined f v d (operand b) (code v d a) (code v (suc d) b)) i out r after
  worked_joined worked right =
      let q = workedly b l (worked ∙ ap (λ k. right_of (first_node k)) done.rest) in
      let two = right.whole v d b l w done.rest few in
      record { rest = two.rest; put = subst (λ os. Puts os i out r.i after) (joining q) (puts_more done.put two.put) }
    where
      joining :
          operand b ≡ worked_out
          → code v d a ++ ((Store t ∷ code v (suc d) b) ++ closing f t (t + 1)) ≡ joined f v d (operand b) (code v d a) (code v (suc d) b)
      joining q =
          let more : temporary v (suc d) ≡ t + 1 = omega arith in
          rw (q, more, ← w) (sym (append_assoc (code v d a) (Store t ∷ code v (suc d) b) (closing f t (t + 1))))

  joined_by :
      (q : Option Operand)
      → q ≡ right_of (first_node (fields_at s.at fs))
      → (step : Step)
      → step ≡ right_step f s.at q
      → Stepping fs step t s m r after
      → Done fs l (joined f v d (operand b) (code v d a) (code v (suc d) b)) i out r after
  joined_by (Some x) known step e p = let u = p.put (order_on f x) (s.at + 1) e in plain_joined x known u.0 u.1
  joined_by None known step e p = worked_joined known (p.right f e)

-- a step goes on
right_on : (fs : List ℕ) (t : ℕ) (s : Spot) (m : List ℕ) (r : Spot) (after : List ℕ) (f : Operation) (q : Option Operand) (step : Step)
    → step ≡ right_step f s.at q
    → Stepping fs step t s m r after
    → s.at ≤ r.at
right_on fs t s m r after f (Some x) step e p = let u = p.put (order_on f x) (s.at + 1) e in omega (arith, u.0)
right_on fs t s m r after f None step e p = (p.right f e).on

-- ---- an operator

module _ (fs : List ℕ) (j t : ℕ) (s : Spot) (m : List ℕ) where
  no_turn : (r : Spot) (after : List ℕ) → s.at ≤ r.at → is_operator (first_node (fields_at j fs)) ≡ false → Operating fs j t s m r after
  no_turn r after on none = record { on = on; outwards = λ some i out p. impossible _ some none }

  module _ (o : Order) (known : Some (Unary o) ≡ first_node (fields_at j fs)) (r : Spot) (after : List ℕ) (here : r.at ≡ s.at)
      (put : Puts (o ∷ []) s.i m r.i after) (i : ℕ) (out : List ℕ) (p : Putting fs (j + 1) t i out s m) where
    under : (v d : ℕ) (e : Expression) (l : List Field) (q : Order) → o ≡ q → t ≡ temporary v d → fields_at (j + 1) fs ≡ expression_fields e ++ l
        → t + length (expression_fields e) ≤ 4294967295 → Done fs l (code v d e ++ q ∷ []) i out r after
    under v d e l q same w h b =
        let done = p.whole v d e l w h b in
        record {
          rest = ap (λ k. fields_at k fs) here ∙ done.rest;
          put = puts_more done.put (subst (λ x. Puts (x ∷ []) s.i m r.i after) same put);
        }

    unary_whole :
        (v d : ℕ) (e : Expression) (l : List Field)
        → t ≡ temporary v d
        → fields_at j fs ≡ expression_fields e ++ l
        → t + length (expression_fields e) ≤ 4294967295
        → Done fs l (code v d e) i out r after
    unfolding expression_fields code
    unary_whole v d (word n) l w h b = let z : ◌≡◌ {A = ℕ} 0 1 = cc (ap first_node h) in absurd (omega arith)
    unary_whole v d (constant n) l w h b = let z : ◌≡◌ {A = ℕ} 0 1 = cc (ap first_node h) in absurd (omega arith)
    unary_whole v d (negated e) l w h b = under v d e l Neg (cc (ap first_node h)) w (fields_behind j fs ∙ ap behind h) (omega arith)
    unary_whole v d (inverted e) l w h b = under v d e l Not (cc (ap first_node h)) w (fields_behind j fs ∙ ap behind h) (omega arith)
    unary_whole v d (binary f a e) l w h b = let z : ◌≡◌ {A = ℕ} 0 1 = cc (ap first_node h) in absurd (omega arith)

  module _ (f : Operation) (known : Some (Binary f) ≡ first_node (fields_at j fs)) (step : Step)
      (asked : step ≡ right_step f s.at (right_of (first_node (fields_at s.at fs)))) (r : Spot) (after : List ℕ)
      (stepping : Stepping fs step t s m r after) (i : ℕ) (out : List ℕ) (p : Putting fs (j + 1) t i out s m) where
    binary_whole :
        (v d : ℕ) (e : Expression) (l : List Field)
        → t ≡ temporary v d
        → fields_at j fs ≡ expression_fields e ++ l
        → t + length (expression_fields e) ≤ 4294967295
        → Done fs l (code v d e) i out r after
    unfolding expression_fields code
    binary_whole v d (word n) l w h b = let z : ◌≡◌ {A = ℕ} 0 1 = cc (ap first_node h) in absurd (omega arith)
    binary_whole v d (constant n) l w h b = let z : ◌≡◌ {A = ℕ} 0 1 = cc (ap first_node h) in absurd (omega arith)
    binary_whole v d (negated e) l w h b = let z : ◌≡◌ {A = ℕ} 0 1 = cc (ap first_node h) in absurd (omega arith)
    binary_whole v d (inverted e) l w h b = let z : ◌≡◌ {A = ℕ} 0 1 = cc (ap first_node h) in absurd (omega arith)
    binary_whole v d (binary o a e) l w h b =
        let same : f ≡ operation o = cc (ap first_node h) in
        let two = length-append (expression_fields a) (expression_fields e) in
        let done = p.whole v d a (expression_fields e ++ l) w
        (fields_behind j fs ∙ ap behind h ∙ append_assoc (expression_fields a) (expression_fields e) l) (omega (arith, b, two)) in
        subst (λ g. Done fs l (joined g v d (operand e) (code v d a) (code v (suc d) e)) i out r after) same
        (joined_by fs t s m r after f i out v d a e l w (omega (arith, b, two)) done _ refl step asked stepping)

  -- the operator at j by the step that it asks, and a place where there is none
  pub operating :
      (n : Option Node)
      → n ≡ first_node (fields_at j fs)
      → (step : Step)
      → Some step ≡ step_of n s.at (right_of (first_node (fields_at s.at fs)))
      → (r : Spot) (after : List ℕ)
      → Stepping fs step t s m r after
      → Operating fs j t s m r after
  operating (Some (Plain x)) known step e r after p = let z : ◌≡◌ {A = ℕ} 0 1 = cc in absurd (omega arith)
  operating (Some (Unary o)) known step e r after p =
      let u = p.put o s.at (cc) in
      record { on = omega (arith, u.0); outwards = λ some i out q. record { on = omega (arith, q.on, u.0); whole = unary_whole o known r after u.0 u.1 i out q } }
  operating (Some (Binary f)) known step e r after p =
      let asked : step ≡ right_step f s.at (right_of (first_node (fields_at s.at fs))) = cc in
      let on = right_on fs t s m r after f (right_of (first_node (fields_at s.at fs))) step asked p in
      record { on = on; outwards = λ some i out q. record { on = omega (arith, q.on, on); whole = binary_whole f known step asked r after p i out q } }
  operating None known step e r after p = let z : ◌≡◌ {A = ℕ} 0 1 = cc in absurd (omega arith)

  pub not_operating :
      (n : Option Node)
      → n ≡ first_node (fields_at j fs)
      → None ≡ step_of n s.at (right_of (first_node (fields_at s.at fs)))
      → Operating fs j t s m s m
  not_operating (Some (Plain x)) known e = no_turn s m (omega arith) (sym (ap is_operator known))
  not_operating (Some (Unary o)) known e = let z : ◌≡◌ {A = ℕ} 0 1 = cc in absurd (omega arith)
  not_operating (Some (Binary f)) known e = let z : ◌≡◌ {A = ℕ} 0 1 = cc in absurd (omega arith)
  not_operating None known e = no_turn s m (omega arith) (sym (ap is_operator known))

-- a right operand that is worked out, between the orders around it
pub right_put :
    (fs : List ℕ) (at : ℕ) (f : Operation) (t i : ℕ) (out : List ℕ) (j : ℕ) (m : List ℕ)
    → Puts (Store t ∷ []) i out j m
    → (kept : ℕ)
    → (t < 4294967295 → kept ≡ t + 1)
    → (s : Spot) (n : List ℕ)
    → Putting fs at kept j m s n
    → (k : ℕ) (after : List ℕ)
    → Puts (closing f t kept) s.i n k after
    → Righting fs at f t i out (record { at = s.at; i = k }) after
right_put fs at f t i out j m first kept next s n p k after last = record {
  on = p.on;
  whole = λ v d e l w h b.
      let one = next (omega arith) in
      let done = p.whole v (suc d) e l (omega arith) h (omega arith) in
      record {
        rest = done.rest;
        put = subst (λ x. Puts ((Store t ∷ code v (suc d) e) ++ closing f t x) i out k after) one (puts_more (puts_more first done.put) last);
      };
}

-- ---- the loop outwards

module _ (fs : List ℕ) (at t : ℕ) (m₀ : List ℕ) (j₀ : ℕ) (s₀ : Spot) where
  pub out_none : at ≤ j₀ → Outwards fs at t m₀ j₀ s₀ m₀ j₀ s₀
  out_none h = record { low = h; high = omega arith; far = omega arith; outwards = λ i out p. p }

  pub out_more :
      (m : List ℕ) (j : ℕ) (s : Spot)
      → Outwards fs at t m₀ j₀ s₀ m j s
      → at < j
      → Run fs at j₀
      → (n : List ℕ) (r : Spot)
      → Operating fs (j - 1) t s m r n
      → Outwards fs at t m₀ j₀ s₀ n (j - 1) r
  out_more m j s p h run n r q = record {
    low = omega arith;
    high = omega (arith, p.high);
    far = omega (arith, p.far, q.on);
    outwards = λ i out o.
        let back : j ≡ j - 1 + 1 = omega arith in
        q.outwards (run.operators (j - 1) (omega arith) (omega (arith, p.high))) i out
        (rw back at (p.outwards i out o));
  }

  module _ (m : List ℕ) (j : ℕ) (s : Spot) (p : Outwards fs at t m₀ j₀ s₀ m j s) where
    pub out_falls : at < j → Run fs at j₀ → j₀ ≤ s₀.at → 2 * (length fs - s.at) + 1 < 2 * (length fs - at)
    out_falls h run far = let e = run.inside (omega (arith, p.high)) in omega (arith, p.high, p.far)

    pub out_done : j ≤ at → (i : ℕ) (out : List ℕ) → Putting fs j₀ t i out s₀ m₀ → Putting fs at t i out s m
    out_done h i out q = let same : j ≡ at = omega (arith, p.low) in rw same at (p.outwards i out q)

-- ---- steps

pub step_put :
    (fs : List ℕ) (t : ℕ) (s : Spot) (m : List ℕ) (step : Step) (o : Order) (a : ℕ)
    → step ≡ Put o a
    → (r : ℕ) (after : List ℕ)
    → Puts (o ∷ []) s.i m r after
    → Stepping fs step t s m (record { at = a; i = r }) after
step_put fs t s m step o a e r after p = record {
  put = λ q b f.
      let same : o ≡ q = cc in
      let here : a ≡ b = cc in
      (here, subst (λ x. Puts (x ∷ []) s.i m r after) same p);
  right = λ f g. let z : ◌≡◌ {A = ℕ} 0 1 = cc in absurd (omega arith);
}

pub step_right :
    (fs : List ℕ) (t : ℕ) (s : Spot) (m : List ℕ) (step : Step) (f : Operation)
    → step ≡ RightStep f
    → (r : Spot) (after : List ℕ)
    → Righting fs s.at f t s.i m r after
    → Stepping fs step t s m r after
step_right fs t s m step f e r after p = record {
  put = λ o a g. let z : ◌≡◌ {A = ℕ} 0 1 = cc in absurd (omega arith);
  right = λ g h. let same : f ≡ g = cc in subst (λ x. Righting fs s.at x t s.i m r after) same p;
}

pub compared :
    (fs : List ℕ) (at t i : ℕ) (out : List ℕ) (s : Spot) (m : List ℕ)
    → Putting fs at t i out s m
    → (step : Step)
    → step ≡ right_step Cmp s.at (right_of (first_node (fields_at s.at fs)))
    → (r : Spot) (after : List ℕ)
    → Stepping fs step t s m r after
    → Comparing fs at t i out r after
compared fs at t i out s m p step e r after q = record {
  on = omega (arith, p.on, right_on fs t s m r after Cmp (right_of (first_node (fields_at s.at fs))) step e q);
  whole = λ v d a b l w h few.
      joined_by fs t s m r after Cmp i out v d a b l w (omega arith) (p.whole v d a (expression_fields b ++ l) w h (omega arith)) _ refl step e q;
}
