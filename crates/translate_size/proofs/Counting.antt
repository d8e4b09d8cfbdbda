-- Orders and temporaries counted, an expression's operators from the innermost to the outermost.
use Prim.Native.Nat.{ℕ, suc, ◌+◌, ◌*◌, ◌-◌, ◌<◌, ◌≤◌, max}
use mathlib.Core.Path.{◌≡◌, refl, sym, ap, subst, ◌∙◌}
use mathlib.Core.Bool.{false}
use Rattle.std.specs.Prelude.{Option, None, Some}
use mathlib.Core.List.{List, [], ◌∷◌, ◌++◌, append_assoc}
use native.Mathlib.Omega.{arith}
use lib.ListN.{length, length-append}
use Rattle.order.specs.declared.Operation.{Operation}
use Rattle.order.specs.declared.Order.{Order}
use Rattle.order.specs.declared.Order.TheVariants.{Neg, Not}
use Rattle.sheet.specs.declared.Field.{Field}
use Rattle.sheet.specs.Sheet.{Expression, word, constant, negated, inverted, binary, operand, worked_out}
use Rattle.sheet.specs.Fields.{expression_fields}
use Rattle.sheet.specs.Orders.{operation, code, joined, temporaries, joined_temporaries}
use Rattle.sheet_field.specs.Memory.{fields_at}
use Rattle.translate_expression.specs.declared.Operand.{Operand}
use Rattle.translate_expression.specs.declared.Node.{Node}
use Rattle.translate_expression.specs.declared.Node.TheVariants.{Plain, Unary, Binary}
use Rattle.translate_expression.specs.declared.Step.{Step}
use Rattle.translate_expression.specs.declared.Step.TheVariants.{Put, Right as RightStep}
use Rattle.translate_expression.specs.Internal.{behind, first_node, is_operator, right_of, order_on, right_step, step_of, Run}
use Rattle.translate_expression.proofs.Turns.{fields_behind, impossible, workedly, some_node}
use Rattle.translate_size.specs.declared.Counted.{Counted}
use Rattle.translate_size.specs.Answers.{capped}
use Rattle.translate_size.specs.Internal.{Counts, Measuring, Righting, OneMore, Stepping, Operating, Outwards}

-- ---- sums that stop at the largest u32

pub capped_one : (a : ℕ) → capped (capped a + 1) ≡ capped (a + 1)
capped_one a = omega arith

pub capped_sum : (a b : ℕ) → capped (capped a + capped b) ≡ capped (a + b)
capped_sum a b = omega arith

capped_four : (a : ℕ) → capped (capped a + 4) ≡ capped (a + 4)
capped_four a = omega arith

pub capped_max : (a b : ℕ) → max (capped a) (capped b) ≡ capped (max a b)
capped_max a b = omega arith

-- ---- the leaf

-- what a plain operand is
record IsPlain (e : Expression) (l : List Field) : Type 0 where
  one : (v d : ℕ) → length (code v d e) ≡ 1
  none : temporaries e ≡ 0
  joins : (o : Operation) (v d : ℕ) (a b : List Order) → length (joined o v d (operand e) a b) ≡ length a + 1
  uses : (a b : ℕ) → joined_temporaries (operand e) a b ≡ a
  past : behind (expression_fields e ++ l) ≡ l

plainly : (e : Expression) (l : List Field) (x : Operand) → Some x ≡ right_of (first_node (expression_fields e ++ l)) → IsPlain e l
unfolding expression_fields code temporaries
plainly (word w) l x h =
    record { one = λ v d. refl; none = refl; joins = λ o v d a b. length-append a _; uses = λ a b. refl; past = refl }
plainly (constant n) l x h =
    record { one = λ v d. refl; none = refl; joins = λ o v d a b. length-append a _; uses = λ a b. refl; past = refl }
plainly (negated e) l x h = let z : ◌≡◌ {A = ℕ} 0 1 = cc in absurd (omega arith)
plainly (inverted e) l x h = let z : ◌≡◌ {A = ℕ} 0 1 = cc in absurd (omega arith)
plainly (binary o a b) l x h = let z : ◌≡◌ {A = ℕ} 0 1 = cc in absurd (omega arith)

module _ (fs : List ℕ) (at : ℕ) where
  pub leaf_counted :
      (x : Operand)
      → Some x ≡ right_of (first_node (fields_at at fs))
      → Measuring fs at (record { at = at + 1; orders = 1; temporaries = 0 })
  leaf_counted x known = record {
    on = omega arith;
    whole = λ v d e l h.
        let q = plainly e l x (known ∙ ap (λ m. right_of (first_node m)) h) in
        record {
          rest = fields_behind at fs ∙ ap behind h ∙ q.past;
          its_orders = sym (ap capped (q.one v d));
          its_temporaries = sym (ap capped q.none);
        };
  }

  pub no_leaf :
      None ≡ right_of (first_node (fields_at at fs))
      → is_operator (first_node (fields_at at fs)) ≡ false
      → Measuring fs at (record { at = at; orders = 0; temporaries = 0 })
  no_leaf known none = record {
    on = omega arith;
    whole = λ v d e l h.
        impossible _ (some_node e l (known ∙ ap (λ m. right_of (first_node m)) h)) (sym (ap (λ m. is_operator (first_node m)) h) ∙ none);
  }

-- ---- two operands

worked_length : (f : Operation) (v d : ℕ) (a b : List Order) → length (joined f v d worked_out a b) ≡ length a + length b + 4
worked_length f v d a b = simp length-append (omega arith)

module _ (fs : List ℕ) (s r : Counted) (f : Operation) (v d : ℕ) (a b : Expression) (l : List Field)
    (done : Counts fs (expression_fields b ++ l) (length (code v d a)) (temporaries a) s) where
  plain_joined :
      (x : Operand)
      → Some x ≡ right_of (first_node (fields_at s.at fs))
      → OneMore s (s.at + 1) r
      → Counts fs l (length (joined f v d (operand b) (code v d a) (code v (suc d) b)))
      (joined_temporaries (operand b) (temporaries a) (temporaries b)) r
  plain_joined x plain more =
      let q = plainly b l x (plain ∙ ap (λ k. right_of (first_node k)) done.rest) in
      record {
        rest = ap (λ k. fields_at k fs) more.place ∙ fields_behind s.at fs ∙ ap behind done.rest ∙ q.past;
        its_orders =
            more.one_order
            ∙ ap (λ n. capped (n + 1)) done.its_orders
            ∙ capped_one (length (code v d a))
            ∙ sym (ap capped (q.joins f v d (code v d a) (code v (suc d) b)));
        its_temporaries = more.same_temporaries ∙ done.its_temporaries ∙ sym (ap capped (q.uses (temporaries a) (temporaries b)));
      }

  worked_joined :
      None ≡ right_of (first_node (fields_at s.at fs))
      → Righting fs s r
      → Counts fs l (length (joined f v d (operand b) (code v d a) (code v (suc d) b)))
      (joined_temporaries (operand b) (temporaries a) (temporaries b)) r
  worked_joined worked right =
      let q = workedly b l (worked ∙ ap (λ k. right_of (first_node k)) done.rest) in
      let two = right.whole v (suc d) (length (code v d a)) (temporaries a) b l done.its_orders done.its_temporaries done.rest in
      record {
        rest = two.rest;
        its_orders = two.its_orders ∙ rw q (sym (ap capped (worked_length f v d (code v d a) (code v (suc d) b))));
        its_temporaries = two.its_temporaries ∙ rw q refl;
      }

  pub joined_by :
      (q : Option Operand)
      → q ≡ right_of (first_node (fields_at s.at fs))
      → (step : Step)
      → step ≡ right_step f s.at q
      → Stepping fs step s r
      → Counts fs l (length (joined f v d (operand b) (code v d a) (code v (suc d) b)))
      (joined_temporaries (operand b) (temporaries a) (temporaries b)) r
  joined_by (Some x) known step e p = plain_joined x known (p.put (order_on f x) (s.at + 1) e)
  joined_by None known step e p = worked_joined known (p.right f e)

-- a step goes on
pub right_on : (fs : List ℕ) (s r : Counted) (f : Operation) (q : Option Operand) (step : Step)
    → step ≡ right_step f s.at q
    → Stepping fs step s r
    → s.at ≤ r.at
right_on fs s r f (Some x) step e p = let u = p.put (order_on f x) (s.at + 1) e in omega (arith, u.place)
right_on fs s r f None step e p = (p.right f e).on

-- ---- an operator

module _ (fs : List ℕ) (j : ℕ) (s : Counted) where
  no_turn : (r : Counted) → s.at ≤ r.at → is_operator (first_node (fields_at j fs)) ≡ false → Operating fs j s r
  no_turn r on none = record { on = on; outwards = λ some p. impossible _ some none }

  module _ (o : Order) (known : Some (Unary o) ≡ first_node (fields_at j fs)) (r : Counted) (more : OneMore s s.at r)
      (p : Measuring fs (j + 1) s) where
    under : (v d : ℕ) (e : Expression) (l : List Field) (q : Order) → fields_at (j + 1) fs ≡ expression_fields e ++ l
        → Counts fs l (length (code v d e ++ q ∷ [])) (temporaries e) r
    under v d e l q h =
        let done = p.whole v d e l h in
        record {
          rest = ap (λ k. fields_at k fs) more.place ∙ done.rest;
          its_orders =
              more.one_order
              ∙ ap (λ n. capped (n + 1)) done.its_orders
              ∙ capped_one (length (code v d e))
              ∙ sym (ap capped (length-append (code v d e) (q ∷ [])));
          its_temporaries = more.same_temporaries ∙ done.its_temporaries;
        }

    unary_whole :
        (v d : ℕ) (e : Expression) (l : List Field)
        → fields_at j fs ≡ expression_fields e ++ l
        → Counts fs l (length (code v d e)) (temporaries e) r
    unfolding expression_fields code temporaries
    unary_whole v d (word n) l h = let z : ◌≡◌ {A = ℕ} 0 1 = cc (ap first_node h) in absurd (omega arith)
    unary_whole v d (constant n) l h = let z : ◌≡◌ {A = ℕ} 0 1 = cc (ap first_node h) in absurd (omega arith)
    unary_whole v d (negated e) l h = under v d e l Neg (fields_behind j fs ∙ ap behind h)
    unary_whole v d (inverted e) l h = under v d e l Not (fields_behind j fs ∙ ap behind h)
    unary_whole v d (binary f a e) l h = let z : ◌≡◌ {A = ℕ} 0 1 = cc (ap first_node h) in absurd (omega arith)

  module _ (f : Operation) (known : Some (Binary f) ≡ first_node (fields_at j fs)) (step : Step)
      (asked : step ≡ right_step f s.at (right_of (first_node (fields_at s.at fs)))) (r : Counted)
      (stepping : Stepping fs step s r) (p : Measuring fs (j + 1) s) where
    binary_whole :
        (v d : ℕ) (e : Expression) (l : List Field)
        → fields_at j fs ≡ expression_fields e ++ l
        → Counts fs l (length (code v d e)) (temporaries e) r
    unfolding expression_fields code temporaries
    binary_whole v d (word n) l h = let z : ◌≡◌ {A = ℕ} 0 1 = cc (ap first_node h) in absurd (omega arith)
    binary_whole v d (constant n) l h = let z : ◌≡◌ {A = ℕ} 0 1 = cc (ap first_node h) in absurd (omega arith)
    binary_whole v d (negated e) l h = let z : ◌≡◌ {A = ℕ} 0 1 = cc (ap first_node h) in absurd (omega arith)
    binary_whole v d (inverted e) l h = let z : ◌≡◌ {A = ℕ} 0 1 = cc (ap first_node h) in absurd (omega arith)
    binary_whole v d (binary o a e) l h =
        let same : f ≡ operation o = cc (ap first_node h) in
        let done = p.whole v d a (expression_fields e ++ l)
        (fields_behind j fs ∙ ap behind h ∙ append_assoc (expression_fields a) (expression_fields e) l) in
        subst
        (λ g. Counts fs l (length (joined g v d (operand e) (code v d a) (code v (suc d) e))) (joined_temporaries (operand e) (temporaries a) (temporaries e)) r)
        same
        (joined_by fs s r f v d a e l done _ refl step asked stepping)

  -- the operator at j by the step that it asks, and a place where there is none
  pub operating :
      (n : Option Node)
      → n ≡ first_node (fields_at j fs)
      → (step : Step)
      → Some step ≡ step_of n s.at (right_of (first_node (fields_at s.at fs)))
      → (r : Counted)
      → Stepping fs step s r
      → Operating fs j s r
  operating (Some (Plain x)) known step e r p = let z : ◌≡◌ {A = ℕ} 0 1 = cc in absurd (omega arith)
  operating (Some (Unary o)) known step e r p =
      let u = p.put o s.at (cc) in
      record { on = omega (arith, u.place); outwards = λ some q. record { on = omega (arith, q.on, u.place); whole = unary_whole o known r u q } }
  operating (Some (Binary f)) known step e r p =
      let asked : step ≡ right_step f s.at (right_of (first_node (fields_at s.at fs))) = cc in
      let on = right_on fs s r f (right_of (first_node (fields_at s.at fs))) step asked p in
      record { on = on; outwards = λ some q. record { on = omega (arith, q.on, on); whole = binary_whole f known step asked r p q } }
  operating None known step e r p = let z : ◌≡◌ {A = ℕ} 0 1 = cc in absurd (omega arith)

  pub not_operating :
      (n : Option Node)
      → n ≡ first_node (fields_at j fs)
      → None ≡ step_of n s.at (right_of (first_node (fields_at s.at fs)))
      → Operating fs j s s
  not_operating (Some (Plain x)) known e = no_turn s (omega arith) (sym (ap is_operator known))
  not_operating (Some (Unary o)) known e = let z : ◌≡◌ {A = ℕ} 0 1 = cc in absurd (omega arith)
  not_operating (Some (Binary f)) known e = let z : ◌≡◌ {A = ℕ} 0 1 = cc in absurd (omega arith)
  not_operating None known e = no_turn s (omega arith) (sym (ap is_operator known))

-- ---- the loop outwards

module _ (fs : List ℕ) (at j₀ : ℕ) (s₀ : Counted) where
  pub out_none : at ≤ j₀ → Outwards fs at j₀ s₀ j₀ s₀
  out_none h = record { low = h; high = omega arith; far = omega arith; outwards = λ p. p }

  pub out_more :
      (j : ℕ) (s : Counted)
      → Outwards fs at j₀ s₀ j s
      → at < j
      → Run fs at j₀
      → (r : Counted)
      → Operating fs (j - 1) s r
      → Outwards fs at j₀ s₀ (j - 1) r
  out_more j s p h run r q = record {
    low = omega arith;
    high = omega (arith, p.high);
    far = omega (arith, p.far, q.on);
    outwards = λ o.
        let back : j ≡ j - 1 + 1 = omega arith in
        q.outwards (run.operators (j - 1) (omega arith) (omega (arith, p.high))) (rw back at (p.outwards o));
  }

  module _ (j : ℕ) (s : Counted) (p : Outwards fs at j₀ s₀ j s) where
    pub out_falls : at < j → Run fs at j₀ → j₀ ≤ s₀.at → 2 * (length fs - s.at) + 1 < 2 * (length fs - at)
    out_falls h run far = let e = run.inside (omega (arith, p.high)) in omega (arith, p.high, p.far)

    pub out_done : j ≤ at → Measuring fs j₀ s₀ → Measuring fs at s
    out_done h q = let same : j ≡ at = omega (arith, p.low) in rw same at (p.outwards q)

-- ---- steps

pub step_put : (fs : List ℕ) (s : Counted) (step : Step) (o : Order) (a n : ℕ) → step ≡ Put o a → n ≡ capped (s.orders + 1)
    → Stepping fs step s (record { at = a; orders = n; temporaries = s.temporaries })
step_put fs s step o a n e is = record {
  put = λ q b f. let here : a ≡ b = cc in record { place = here; one_order = is; same_temporaries = refl };
  right = λ f g. let z : ◌≡◌ {A = ℕ} 0 1 = cc in absurd (omega arith);
}

-- a right operand that is worked out
module _ (fs : List ℕ) (s second : Counted) (p : Measuring fs s.at second) (both n one two t : ℕ)
    (sums : both ≡ capped (s.orders + second.orders)) (all : n ≡ capped (both + 4))
    (ones : one ≡ capped (second.temporaries + 1)) (twos : two ≡ max one 2) (most : t ≡ max s.temporaries two) where
  orders_right : (a b : ℕ) → s.orders ≡ capped a → second.orders ≡ capped b → n ≡ capped (a + b + 4)
  orders_right a b e f =
      all ∙ ap (λ k. capped (k + 4)) (sums ∙ rw (e, f) (capped_sum a b)) ∙ capped_four (a + b)

  temporaries_right : (a b : ℕ) → s.temporaries ≡ capped a → second.temporaries ≡ capped b → t ≡ capped (max a (max 2 (1 + b)))
  temporaries_right a b e f =
      let some : one ≡ capped (1 + b) = omega (arith, ones, f) in
      let more : two ≡ capped (max 2 (1 + b)) = omega (arith, twos, some) in
      most ∙ rw (e, more) (capped_max a (max 2 (1 + b)))

  righting : Righting fs s (record { at = second.at; orders = n; temporaries = t })
  righting = record {
    on = p.on;
    whole = λ v d os ts e l is uses h.
        let done = p.whole v d e l h in
        record {
          rest = done.rest;
          its_orders = orders_right os (length (code v d e)) is done.its_orders;
          its_temporaries = temporaries_right ts (temporaries e) uses done.its_temporaries;
        };
  }

  pub step_right : (step : Step) (f : Operation) → step ≡ RightStep f
      → Stepping fs step s (record { at = second.at; orders = n; temporaries = t })
  step_right step f e = record {
    put = λ o a g. let z : ◌≡◌ {A = ℕ} 0 1 = cc in absurd (omega arith);
    right = λ g h. righting;
  }
