-- The first orders of instructions, told from the orders alone, are those that the translation gives.
use Prim.Native.Nat.{ℕ, suc, ◌+◌, ◌-◌, ◌≤◌}
use mathlib.Core.Path.{◌≡◌, refl, ap, ◌∙◌}
use mathlib.Core.Bool.{Bool, true, false}
use mathlib.Core.List.{List, [], ◌∷◌, ◌++◌, append_assoc, append-nil}
use native.Mathlib.Omega.{arith}
use borrow.Author.Tests.{lt-ltb, le-ltb, ne_eqb}
use lib.ListN.{length, length-append}
use Rattle.base.specs.Choice.{pick}
use Rattle.order.specs.declared.Order.{Order}
use Rattle.order.specs.declared.Order.TheVariants.{Word, Number, Store, Neg, Not, Jump, Skip, Branch, Cond, Send, Stop}
use Rattle.word.specs.declared.Relation.{Relation}
use Rattle.sheet.specs.Sheet.{Expression, Simple, set, send, goto, Condition, compares, joins, Part, end, plain, when, either, Sheet, sheet, variables, instructions}
use Rattle.sheet.specs.declared.Joining.TheVariants.{And, Or}
use Rattle.sheet.specs.Orders.{code, simple_code, simple_size, temporaries, comparison_code, comparison_temporaries}
use Rattle.sheet.specs.Formed.{Expressed, SimpleFormed}
use Rattle.sheet.specs.Condition.{comparisons, trying, try_code, asking, asking_code, AllExpressed, ConditionFormed}
use Rattle.sheet.specs.Translation.{size, starts, first_order, part_code, translation}
use Rattle.sheet.specs.Beginnings.{inner, is_last, of_instruction, beginnings}
use Rattle.sheet.specs.Within.{PartFormed, Formed}
use Rattle.sheet.proofs.Each.{Each}
use Rattle.sheet.proofs.CodeOrders.{OfExpression, statement_orders, comparison_orders, code_some, comparison_some}
use Rattle.sheet.proofs.Sizes.{comparisons_some}

module _ (v : ℕ) where
  -- ---- one instruction: it begins with its first order, and behind its last one the next begins

  goes_on_law : (t k : ℕ) (o : Order) → OfExpression v t o → is_last v k o ≡ false
  goes_on_law t k (Word f w) h = refl
  goes_on_law t k (Number f n) h = refl
  goes_on_law t k (Store w) h = le-ltb w (v + 2) h.0
  goes_on_law t k Neg h = refl
  goes_on_law t k Not h = refl
  goes_on_law t k (Jump a) h = absurd h
  goes_on_law t k (Skip a) h = absurd h
  goes_on_law t k (Branch r a) h = absurd h
  goes_on_law t k (Cond n) h = absurd h
  goes_on_law t k Send h = absurd h
  goes_on_law t k Stop h = absurd h

  keeps : (t k : ℕ) (o : Order) → OfExpression v t o → inner k o ≡ k
  keeps t k (Word f w) h = refl
  keeps t k (Number f n) h = refl
  keeps t k (Store w) h = refl
  keeps t k Neg h = refl
  keeps t k Not h = refl
  keeps t k (Jump a) h = refl
  keeps t k (Skip a) h = refl
  keeps t k (Branch r a) h = absurd h
  keeps t k (Cond n) h = absurd h
  keeps t k Send h = refl
  keeps t k Stop h = refl

  can_begin : (t : ℕ) (o : Order) → OfExpression v t o → of_instruction o ≡ true
  can_begin t (Word f w) h = refl
  can_begin t (Number f n) h = refl
  can_begin t (Store w) h = refl
  can_begin t Neg h = refl
  can_begin t Not h = refl
  can_begin t (Jump a) h = absurd h
  can_begin t (Skip a) h = absurd h
  can_begin t (Branch r a) h = absurd h
  can_begin t (Cond n) h = absurd h
  can_begin t Send h = absurd h
  can_begin t Stop h = absurd h

  inside :
      (t k p q : ℕ) (os l : List Order)
      → Each (OfExpression v t) os
      → p + length os ≡ q
      → beginnings v false k p (os ++ l) ≡ beginnings v false k q l
  unfolding beginnings pick
  inside t k p q [] l h e = ap (λ i. beginnings v false k i l) (omega (arith, e))
  inside t k p q (o ∷ os) l h e = rw (goes_on_law t k o h.0, keeps t k o h.0) (inside t k (suc p) q os l h.1 (omega arith))

  -- the orders of an expression, then o
  one_begins :
      (t p q : ℕ) (os : List Order) (o : Order) (l : List Order)
      → Each (OfExpression v t) os
      → 1 ≤ length os
      → is_last v 0 o ≡ true
      → inner 0 o ≡ 0
      → p + length (os ++ o ∷ []) ≡ q
      → beginnings v true 0 p ((os ++ o ∷ []) ++ l) ≡ p ∷ beginnings v true 0 q l
  unfolding beginnings pick
  one_begins t p q [] o l h some last none e = absurd (omega arith)
  one_begins t p q (first ∷ os) o l h some last none e =
      let many = length-append os (o ∷ []) in
      let there : suc (suc p + length os) ≡ q = omega arith in
      rw (can_begin t first h.0, goes_on_law t 0 first h.0, keeps t 0 first h.0, append_assoc os (o ∷ []) l)
      (ap (λ k. p ∷ k) (inside t 0 (suc p) (suc p + length os) os (o ∷ l) h.1 refl ∙ rw (last, none, there)))

  simple_begins :
      (n : ℕ) (to : ℕ → ℕ) (p : ℕ) (u : Simple) (l : List Order)
      → SimpleFormed v n u
      → beginnings v true 0 p (simple_code v to u ++ l) ≡ p ∷ beginnings v true 0 (p + simple_size v u) l
  unfolding beginnings pick
  simple_begins n to p (set w e) l x =
      one_begins (temporaries e) p _ (code v 0 e) (Store w) l
      (statement_orders v e x.1) (code_some v 0 e) (lt-ltb w (v + 2) x.0.1) refl refl
  simple_begins n to p (send e) l x =
      one_begins (temporaries e) p _ (code v 0 e) Send l (statement_orders v e x) (code_some v 0 e) refl refl refl
  simple_begins n to p (goto s) l x = let next : suc p ≡ p + 1 = omega arith in rw next

  -- ---- conditions

  -- the orders of a comparison and its branch, where this is not the last
  test_inside :
      (k p q : ℕ) (a b : Expression) (r : Relation) (d : ℕ) (l : List Order)
      → Expressed v a
      → Expressed v b
      → p + (length (comparison_code v a b) + 1) ≡ q
      → beginnings v false (suc k) p ((comparison_code v a b ++ Branch r d ∷ []) ++ l) ≡ beginnings v false k q l
  unfolding beginnings pick
  test_inside k p q a b r d l x y e =
      let n = p + length (comparison_code v a b) in
      let there : suc n ≡ q = omega arith in
      let one_less : suc k - 1 ≡ k = omega arith in
      rw (append_assoc (comparison_code v a b) (Branch r d ∷ []) l)
      (inside (comparison_temporaries a b) (suc k) p n (comparison_code v a b) (Branch r d ∷ l) (comparison_orders v a b x y) refl
      ∙ rw (ne_eqb (suc k) 0 (omega arith), there, one_less)
      refl)

  -- and where it is
  test_ends :
      (p q : ℕ) (a b : Expression) (r : Relation) (d : ℕ) (l : List Order)
      → Expressed v a
      → Expressed v b
      → p + (length (comparison_code v a b) + 1) ≡ q
      → beginnings v false 0 p ((comparison_code v a b ++ Branch r d ∷ []) ++ l) ≡ beginnings v true 0 q l
  unfolding beginnings pick
  test_ends p q a b r d l x y e =
      let n = p + length (comparison_code v a b) in
      let there : suc n ≡ q = omega arith in
      rw (append_assoc (comparison_code v a b) (Branch r d ∷ []) l)
      (inside (comparison_temporaries a b) 0 p n (comparison_code v a b) (Branch r d ∷ l) (comparison_orders v a b x y) refl
      ∙ rw there)

  -- no instruction begins in a condition behind which another is tried
  try_inside :
      (k p q i : ℕ) (g : Bool) (y z : ℕ) (c : Condition) (l : List Order)
      → AllExpressed v c
      → p + trying v c ≡ q
      → i ≡ comparisons c + k
      → beginnings v false i p (try_code v p g y z c ++ l) ≡ beginnings v false k q l
  unfolding try_code trying comparisons AllExpressed
  try_inside k p q i g y z (compares r a b) l x e h =
      let one : i ≡ suc k = omega arith in
      ap (λ j. beginnings v false j p (try_code v p g y z (compares r a b) ++ l)) one
      ∙ test_inside k p q a b _ _ l x.0 x.1 e
  try_inside k p q i g y z (joins And a b) l x e h =
      let s = p + trying v a in
      ap (beginnings v false i p) (append_assoc (try_code v p true s z a) (try_code v s g y z b) l)
      ∙ try_inside (comparisons b + k) p s i true s z a _ x.0 refl (omega arith)
      ∙ try_inside k s q (comparisons b + k) g y z b l x.1 (omega arith) refl
  try_inside k p q i g y z (joins Or a b) l x e h =
      let s = p + trying v a in
      ap (beginnings v false i p) (append_assoc (try_code v p false y s a) (try_code v s g y z b) l)
      ∙ try_inside (comparisons b + k) p s i false y s a _ x.0 refl (omega arith)
      ∙ try_inside k s q (comparisons b + k) g y z b l x.1 (omega arith) refl

  -- behind the last of all one does
  try_ends :
      (p q i : ℕ) (g : Bool) (y z : ℕ) (c : Condition) (l : List Order)
      → AllExpressed v c
      → p + trying v c ≡ q
      → i + 1 ≡ comparisons c
      → beginnings v false i p (try_code v p g y z c ++ l) ≡ beginnings v true 0 q l
  unfolding try_code trying comparisons AllExpressed
  try_ends p q i g y z (compares r a b) l x e h =
      let none : i ≡ 0 = omega arith in
      ap (λ j. beginnings v false j p (try_code v p g y z (compares r a b) ++ l)) none
      ∙ test_ends p q a b _ _ l x.0 x.1 e
  try_ends p q i g y z (joins And a b) l x e h =
      let s = p + trying v a in
      let j = comparisons b - 1 in
      let some = comparisons_some b in
      ap (beginnings v false i p) (append_assoc (try_code v p true s z a) (try_code v s g y z b) l)
      ∙ try_inside j p s i true s z a _ x.0 refl (omega arith)
      ∙ try_ends s q j g y z b l x.1 (omega arith) (omega arith)
  try_ends p q i g y z (joins Or a b) l x e h =
      let s = p + trying v a in
      let j = comparisons b - 1 in
      let some = comparisons_some b in
      ap (beginnings v false i p) (append_assoc (try_code v p false y s a) (try_code v s g y z b) l)
      ∙ try_inside j p s i false y s a _ x.0 refl (omega arith)
      ∙ try_ends s q j g y z b l x.1 (omega arith) (omega arith)

  asking_begins :
      (p : ℕ) (c : Condition) (d : ℕ) (m l : List Order)
      → ConditionFormed v c
      → beginnings v true 0 p ((asking_code v p c d ++ m) ++ l) ≡ p ∷ beginnings v true 0 (p + asking v c) (m ++ l)
  unfolding asking asking_code trying try_code beginnings pick AllExpressed
  asking_begins p (compares r a b) d m l x =
      ap (beginnings v true 0 p) (append_assoc (asking_code v p (compares r a b) d) m l)
      ∙ one_begins (comparison_temporaries a b) p _ (comparison_code v a b) _ (m ++ l)
      (comparison_orders v a b x.0.0 x.0.1) (comparison_some v a b) refl refl
      (ap (λ k. p + k) (length-append (comparison_code v a b) _))
  asking_begins p (joins w a b) d m l x =
      let c = joins w a b in
      let some = comparisons_some c in
      let next : suc p ≡ p + 1 = omega arith in
      ap (beginnings v true 0 p) (append_assoc (asking_code v p c d) m l)
      ∙ ap (λ k. p ∷ k)
      (rw next (try_ends (p + 1) (p + (1 + trying v c)) _ true _ d c (m ++ l) x.0 (omega arith) (omega arith)))

  -- ---- parts

  -- the orders behind the part begin with order q
  part_begins :
      (n : ℕ) (to : ℕ → ℕ) (p q : ℕ) (x : Part) (l : List Order)
      → PartFormed v n x
      → p + size v x ≡ q
      → beginnings v true 0 p (part_code v to p x ++ l) ≡ starts v p x ++ beginnings v true 0 q l
  unfolding part_code PartFormed starts size beginnings pick
  part_begins n to p q end l f e = ap (λ k. beginnings v true 0 k l) (omega (arith, e))
  part_begins n to p q (plain u m) l f e =
      let d = p + simple_size v u in
      rw (append_assoc (simple_code v to u) (part_code v to d m) l, simple_begins n to p u (part_code v to d m ++ l) f.0)
      (ap (λ k. p ∷ k) (part_begins n to d q m l f.1 (omega arith)))
  part_begins n to p q (when c x m) l f e =
      let b = p + asking v c in
      let z = b + size v x in
      let xs = part_code v to b x in
      let ms = part_code v to z m in
      asking_begins p c _ (xs ++ ms) l f.0
      ∙ ap (λ k. p ∷ k)
      (rw (append_assoc xs ms l, append_assoc (starts v b x) (starts v z m) (beginnings v true 0 q l))
      (part_begins n to b z x (ms ++ l) f.2 refl
      ∙ ap (λ k. starts v b x ++ k) (part_begins n to z q m l f.3 (omega arith))))
  part_begins n to p q (either c x y m) l f e =
      let b = p + asking v c in
      let s = b + size v x in
      let d = s + 1 in
      let z = d + size v y in
      let xs = part_code v to b x in
      let ys = part_code v to d y in
      let ms = part_code v to z m in
      let next : suc s ≡ d = omega arith in
      asking_begins p c _ (xs ++ Skip z ∷ (ys ++ ms)) l f.0
      ∙ ap (λ k. p ∷ k)
      (rw (
        append_assoc xs (Skip z ∷ (ys ++ ms)) l,
        append_assoc ys ms l,
        append_assoc (starts v b x) (starts v d y ++ starts v z m) (beginnings v true 0 q l),
        append_assoc (starts v d y) (starts v z m) (beginnings v true 0 q l),
      )
      (part_begins n to b s x (Skip z ∷ (ys ++ (ms ++ l))) f.3 refl
      ∙ ap (λ k. starts v b x ++ k)
      (rw next
      (part_begins n to d z y (ms ++ l) f.4 refl
      ∙ ap (λ k. starts v d y ++ k) (part_begins n to z q m l f.5 (omega arith))))))

  pub begins :
      (n : ℕ) (to : ℕ → ℕ) (p : ℕ) (x : Part) (l : List Order)
      → PartFormed v n x
      → beginnings v true 0 p (part_code v to p x ++ l) ≡ starts v p x ++ beginnings v true 0 (p + size v x) l
  begins n to p x l f = part_begins n to p (p + size v x) x l f refl

  -- ---- the whole, wherever its jumps lead: STOP begins nothing

  pub code_begins :
      (n : ℕ) (to : ℕ → ℕ) (x : Part)
      → PartFormed v n x
      → beginnings v true 0 0 (part_code v to 0 x ++ Stop ∷ []) ≡ starts v 0 x
  unfolding beginnings pick
  code_begins n to x f = begins n to 0 x (Stop ∷ []) f ∙ append-nil (starts v 0 x)

pub translation_begins :
    (s : Sheet) → Formed s → beginnings (variables s) true 0 0 (translation s) ≡ starts (variables s) 0 (instructions s)
translation_begins (sheet v x) f = code_begins v _ (first_order v x) x f
