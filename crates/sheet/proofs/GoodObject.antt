-- The translation of a sheet within the limits is a good object: its words are variables and temporaries, its addresses are
-- those of its orders, and STOP is its last order alone.
use Prim.Native.Nat.{ℕ, ◌+◌, ◌-◌, ◌≤◌, ◌<◌}
use mathlib.Core.Path.{◌≡◌, refl, ap, ◌∙◌}
use mathlib.Core.Bool.{Bool, true, false}
use mathlib.Core.List.{List, [], ◌∷◌, ◌++◌}
use native.Mathlib.Omega.{arith}
use lib.ListN.{length, get_or, length-append, get_or-append}
use lib.Seq.{get_or-append_seam}
use Rattle.base.specs.Choice.{pick}
use Rattle.order.specs.declared.Order.{Order}
use Rattle.order.specs.declared.Order.TheVariants.{Word, Number, Store, Neg, Not, Jump, Skip, Branch, Cond, Send, Stop}
use Rattle.order.specs.Object.{is_stop}
use Rattle.order.specs.Limits.{most_variables, most_temporaries, most_orders}
use Rattle.order.specs.Good.{OperandFits, Good}
use Rattle.order.proofs.OrderTests.{not_stop}
use Rattle.sheet.specs.Sheet.{Simple, set, send, goto, Condition, compares, joins, Part, end, plain, when, either, count, Sheet, sheet, variables}
use Rattle.sheet.specs.declared.Joining.TheVariants.{And, Or}
use Rattle.sheet.specs.Orders.{code, simple_code, simple_size, comparison_code, temporaries, simple_temporaries, comparison_temporaries}
use Rattle.sheet.specs.Formed.{Leads, SimpleFormed}
use Rattle.sheet.specs.Condition.{trying, try_code, asking, asking_code, condition_temporaries, AllExpressed, ConditionFormed}
use Rattle.sheet.specs.Translation.{size, first_order, part_code, translation, temporaries_of, sheet_temporaries}
use Rattle.sheet.specs.Within.{PartFormed, Within}
use Rattle.sheet.proofs.Each.{Each, each_append, each_map, each_at}
use Rattle.sheet.proofs.CodeOrders.{OfExpression, statement_orders, comparison_orders}
use Rattle.sheet.proofs.Sizes.{code_length}
use Rattle.sheet.proofs.Starts.{first_below}

-- an order other than STOP that an object of V, T and N can hold
pub record Held (v t n : ℕ) (o : Order) : Type 0 where
  pub fits : OperandFits v t n o
  pub goes_on_law : is_stop o ≡ false

module _ (v t n : ℕ) where
  expression_held : (u : ℕ) → u ≤ t → (o : Order) → OfExpression v u o → Held v t n o
  expression_held u h (Word f w) p = record { fits = (p.0, omega arith); goes_on_law = refl }
  expression_held u h (Number f k) p = record { fits = p; goes_on_law = refl }
  expression_held u h (Store w) p = record { fits = (omega arith, omega arith); goes_on_law = refl }
  expression_held u h Neg p = record { fits = tt; goes_on_law = refl }
  expression_held u h Not p = record { fits = tt; goes_on_law = refl }
  expression_held u h (Jump a) p = absurd p
  expression_held u h (Skip a) p = absurd p
  expression_held u h (Branch r a) p = absurd p
  expression_held u h (Cond k) p = absurd p
  expression_held u h Send p = absurd p
  expression_held u h Stop p = absurd p

  all_held : (u : ℕ) → u ≤ t → (l : List Order) → Each (OfExpression v u) l → Each (Held v t n) l
  all_held u h = each_map (OfExpression v u) (Held v t n) (expression_held u h)

  either_below : (g : Bool) (y z : ℕ) → y < n → z < n → pick g z y < n
  unfolding pick
  either_below true y z h k = k
  either_below false y z h k = h

  try_held :
      (p : ℕ) (g : Bool) (y z : ℕ) (c : Condition)
      → AllExpressed v c
      → condition_temporaries c ≤ t
      → p + trying v c < n
      → y < n
      → z < n
      → Each (Held v t n) (try_code v p g y z c)
  unfolding try_code condition_temporaries AllExpressed trying
  try_held p g y z (compares r a b) f h e i j =
      each_append (Held v t n) (comparison_code v a b) _
      (all_held (comparison_temporaries a b) h (comparison_code v a b) (comparison_orders v a b f.0 f.1))
      (record { fits = either_below g y z i j; goes_on_law = refl }, tt)
  try_held p g y z (joins And a b) f h e i j =
      let q = p + trying v a in
      each_append (Held v t n) (try_code v p true q z a) _
      (try_held p true q z a f.0 (omega arith) (omega arith) (omega arith) j)
      (try_held q g y z b f.1 (omega arith) (omega arith) i j)
  try_held p g y z (joins Or a b) f h e i j =
      let q = p + trying v a in
      each_append (Held v t n) (try_code v p false y q a) _
      (try_held p false y q a f.0 (omega arith) (omega arith) i (omega arith))
      (try_held q g y z b f.1 (omega arith) (omega arith) i j)

  asking_held :
      (p : ℕ) (c : Condition) (d : ℕ)
      → ConditionFormed v c
      → condition_temporaries c ≤ t
      → p + asking v c < n
      → d < n
      → Each (Held v t n) (asking_code v p c d)
  unfolding asking_code asking
  asking_held p (compares r a b) d f h e k = try_held p true _ d (compares r a b) f.0 h e e k
  asking_held p (joins w a b) d f h e k = (
    record { fits = omega (arith, f.2); goes_on_law = refl },
    try_held (p + 1) true _ d (joins w a b) f.0 h (omega arith) e k,
  )

  module _ (m : ℕ) (to : ℕ → ℕ) (leads_below : (s : ℕ) → Leads m s → to s < n) where
    simple_held : (u : Simple) → SimpleFormed v m u → simple_temporaries u ≤ t → Each (Held v t n) (simple_code v to u)
    simple_held (set w e) x h =
        each_append (Held v t n) (code v 0 e) (Store w ∷ [])
        (all_held (temporaries e) h (code v 0 e) (statement_orders v e x.1))
        (record { fits = (x.0.0, omega arith); goes_on_law = refl }, tt)
    simple_held (send e) x h =
        each_append (Held v t n) (code v 0 e) (Send ∷ [])
        (all_held (temporaries e) h (code v 0 e) (statement_orders v e x))
        (record { fits = tt; goes_on_law = refl }, tt)
    simple_held (goto s) x h = (record { fits = leads_below s x; goes_on_law = refl }, tt)

    pub part_held :
        (p : ℕ) (x : Part)
        → PartFormed v m x
        → temporaries_of x ≤ t
        → p + size v x < n
        → Each (Held v t n) (part_code v to p x)
    unfolding PartFormed temporaries_of size part_code
    part_held p end f h k = tt
    part_held p (plain u l) f h k =
        each_append (Held v t n) (simple_code v to u) _
        (simple_held u f.0 (omega arith))
        (part_held (p + simple_size v u) l f.1 (omega arith) (omega arith))
    part_held p (when c x l) f h k =
        let b = p + asking v c in
        each_append (Held v t n) (asking_code v p c _) _
        (asking_held p c _ f.0 (omega arith) (omega arith) (omega arith))
        (each_append (Held v t n) (part_code v to b x) _
        (part_held b x f.2 (omega arith) (omega arith))
        (part_held (b + size v x) l f.3 (omega arith) (omega arith)))
    part_held p (either c x y l) f h k =
        let b = p + asking v c in
        let d = b + size v x + 1 in
        each_append (Held v t n) (asking_code v p c _) _
        (asking_held p c _ f.0 (omega arith) (omega arith) (omega arith))
        (each_append (Held v t n) (part_code v to b x) _
        (part_held b x f.3 (omega arith) (omega arith)) (
          record { fits = omega arith; goes_on_law = refl },
          each_append (Held v t n) (part_code v to d y) _
              (part_held d y f.4 (omega arith) (omega arith))
              (part_held (d + size v y) l f.5 (omega arith) (omega arith)),
        ))

-- ---- the whole

-- STOP behind orders that an object can hold
ended_good :
    (v t : ℕ) (os : List Order)
    → v ≤ most_variables
    → t ≤ most_temporaries
    → length (os ++ Stop ∷ []) ≤ most_orders
    → Each (Held v t (length (os ++ Stop ∷ []))) os
    → Good v t (os ++ Stop ∷ [])
ended_good v t os few_variables few_temporaries few_orders held =
    let counted = length-append os (Stop ∷ []) in
    record {
      variables = few_variables;
      temporaries = few_temporaries;
      some_orders = omega arith;
      few_orders = few_orders;
      operands =
          each_at (OperandFits v t (length l)) l Stop
          (each_append (OperandFits v t (length l)) os (Stop ∷ [])
          (each_map (Held v t (length l)) _ (λ o h. h.fits) os held) (tt, tt));
      stop_last_law =
          let last : length l - 1 ≡ length os = omega arith in
          ap (λ k. get_or l k Stop) last ∙ get_or-append_seam os Stop [] Stop;
      no_stop_earlier =
          λ k h. let before : k < length os = omega arith in
          not_stop (get_or l k Stop)
          (ap is_stop (get_or-append os (Stop ∷ []) Stop k before) ∙ (each_at (Held v t (length l)) os Stop held k before).goes_on_law);
    }
  where
    l : List Order
    l = os ++ Stop ∷ []

pub translation_good : (s : Sheet) → Within s → Good (variables s) (sheet_temporaries s) (translation s)
translation_good (sheet v x) w =
    let to = first_order v x in
    let os = part_code v to 0 x in
    let counted = length-append os (Stop ∷ []) in
    let many = code_length v to 0 x in
    ended_good v (temporaries_of x) os w.few_variables w.few_temporaries w.few_orders
    (part_held v (temporaries_of x) (length (os ++ Stop ∷ [])) (count x) to
    (λ s h. omega (arith, first_below v x s h))
    0 x w.formed (omega arith) (omega arith))
