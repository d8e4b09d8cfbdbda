-- What an expression is worth is a word, and every instruction takes an order at least.
use Prim.Native.Nat.{ℕ, ◌+◌, ◌<◌, ◌≤◌}
use mathlib.Core.Path.{◌≡◌, refl, sym, ap, ◌∙◌}
use mathlib.Core.List.{List}
use native.Mathlib.Omega.{arith}
use native.Mathlib.Nat.{add_assoc}
use lib.ListN.{get_or}
use Rattle.word.specs.declared.Relation.{Relation}
use Rattle.word.specs.Word.{Outcome, negation, not_bits, related, related_to_zero, comparison}
use Rattle.word.proofs.Agreement.{relation_agrees}
use Rattle.word.proofs.Closed.{negation_closed, not_closed}
use Rattle.machine.specs.Frame.{Words}
use Rattle.machine.proofs.Effects.{Given, gives as worked, faults as faulting, operation_gives}
use Rattle.sheet.specs.declared.Operator.{Operator}
use Rattle.sheet.specs.declared.Operator.TheVariants.{Plus, Minus, Times, Over, Power, Left, Right, And, Or, Unlike}
use Rattle.sheet.specs.Sheet.{Expression, word, constant, negated, inverted, binary, Operand, in_word, itself, worked_out, operand}
use Rattle.sheet.specs.Sheet.{Simple, set, send, goto, Condition, compares, joins}
use Rattle.sheet.specs.declared.Joining.TheVariants.{And as AndRun, Or as OrRun}
use Rattle.sheet.specs.Orders.{operation}
use Rattle.sheet.specs.Formed.{Expressed}
use Rattle.sheet.specs.Worth.{Counted, gives, faults, behind, and_then, by_order, apply, both, worth, holds, Store, do_simple}
use Rattle.sheet.specs.Condition.{tried, answer}
use Rattle.sheet.specs.Meaning.{Move, deed, question, do_move}

-- ---- what holds of that which is given

abbrev pub Each : {A : Type 0} → (A → Type 0) → Counted A → Type 0
Each P (gives a k) = P a
Each P (faults n k) = Unit {0}

each_behind : {A : Type 0} (P : A → Type 0) (k : ℕ) (x : Counted A) → Each P x → Each P (behind k x)
each_behind P k (gives a j) p = p
each_behind P k (faults n j) p = tt

each_then :
    {A B : Type 0} (P : A → Type 0) (Q : B → Type 0) (x : Counted A) (f : A → Counted B)
    → Each P x
    → ((a : A) → P a → Each Q (f a))
    → Each Q (and_then x f)
each_then P Q (gives a k) f p on = each_behind Q k (f a) (on a p)
each_then P Q (faults n k) f p on = tt

-- ---- words

abbrev pub Small : ℕ → Type 0
Small a = a < 4294967296

abbrev pub SmallOperand : Operand → Type 0
SmallOperand (in_word w) = Unit {0}
SmallOperand (itself n) = Small n
SmallOperand worked_out = Unit {0}

pub small_operand : (v : ℕ) (e : Expression) → Expressed v e → SmallOperand (operand e)
unfolding Expressed
small_operand v (word w) x = tt
small_operand v (constant n) x = omega (arith, x)
small_operand v (negated e) x = tt
small_operand v (inverted e) x = tt
small_operand v (binary o l r) x = tt

small_outcome : (a b : ℕ) (o : Outcome) → Given a b o → Small a → Small b → Each Small (by_order o)
small_outcome a b o (worked w small) p q = small p q
small_outcome a b o (faulting n low high) p q = tt

abbrev Applies : Operator → Type 0
Applies o = (a b : ℕ) → Given a b (apply o a b)

applied : (o : Operator) → Applies o
applied Plus a b = operation_gives (operation Plus) a b
applied Minus a b = operation_gives (operation Minus) a b
applied Times a b = operation_gives (operation Times) a b
applied Over a b = operation_gives (operation Over) a b
applied Power a b = operation_gives (operation Power) a b
applied Left a b = operation_gives (operation Left) a b
applied Right a b = operation_gives (operation Right) a b
applied And a b = operation_gives (operation And) a b
applied Or a b = operation_gives (operation Or) a b
applied Unlike a b = operation_gives (operation Unlike) a b

module _ (ws : List ℕ) (words : Words ws) where
  pub each_both :
      {A : Type 0} (Q : A → Type 0) (f : ℕ → ℕ → Counted A) (x : Operand) (left right : Counted ℕ)
      → ((a b : ℕ) → Small a → Small b → Each Q (f a b))
      → SmallOperand x
      → Each Small left
      → Each Small right
      → Each Q (both f ws x left right)
  each_both Q f (in_word w) left right on small p q =
      each_then Small Q left (λ a. f a (get_or ws w 0)) p (λ a h. on a (get_or ws w 0) h (words w))
  each_both Q f (itself n) left right on small p q = each_then Small Q left (λ a. f a n) p (λ a h. on a n h small)
  each_both Q f worked_out left right on small p q =
      each_then
      Small
      Q
      left
      (λ a. and_then (behind 1 right) (λ b. behind 2 (f a b)))
      p
      (λ a h. each_then Small Q (behind 1 right) (λ b. behind 2 (f a b)) (each_behind Small 1 right q) (λ b g. each_behind Q 2 (f a b) (on a b h g)))

  pub small_worth : (v : ℕ) (e : Expression) → Expressed v e → Each Small (worth ws e)
  unfolding Expressed worth
  small_worth v (word w) x = words w
  small_worth v (constant n) x = omega (arith, x)
  small_worth v (negated e) x =
      each_then Small Small (worth ws e) (λ a. gives (negation a) 1) (small_worth v e x) (λ a h. negation_closed a)
  small_worth v (inverted e) x =
      each_then Small Small (worth ws e) (λ a. gives (not_bits a) 1) (small_worth v e x) (λ a h. not_closed a)
  small_worth v (binary o l r) x =
      each_both
      Small
      (λ a b. by_order (apply o a b))
      (operand r)
      (worth ws l)
      (worth ws r)
      (λ a b p q. small_outcome a b (apply o a b) (applied o a b) p q)
      (small_operand v r x.1)
      (small_worth v l x.0)
      (small_worth v r x.1)

-- ---- each takes one order at least

abbrev pub Some : {A : Type 0} → Counted A → Type 0
Some (gives a k) = 1 ≤ k
Some (faults n k) = 1 ≤ k

some_behind : {A : Type 0} (k : ℕ) (x : Counted A) → 1 ≤ k → Some (behind k x)
some_behind k (gives a j) h = omega (arith, h)
some_behind k (faults n j) h = omega (arith, h)

some_later : {A : Type 0} (k : ℕ) (x : Counted A) → Some x → Some (behind k x)
some_later k (gives a j) h = omega (arith, h)
some_later k (faults n j) h = omega (arith, h)

some_then : {A B : Type 0} (x : Counted A) (f : A → Counted B) → Some x → Some (and_then x f)
some_then (gives a k) f h = some_behind k (f a) h
some_then (faults n k) f h = h

some_both : {A : Type 0} (f : ℕ → ℕ → Counted A) (ws : List ℕ) (x : Operand) (left right : Counted ℕ) → Some left → Some (both f ws x left right)
some_both f ws (in_word w) left right h = some_then left _ h
some_both f ws (itself n) left right h = some_then left _ h
some_both f ws worked_out left right h = some_then left _ h

some_worth : (ws : List ℕ) (e : Expression) → Some (worth ws e)
unfolding worth
some_worth ws (word w) = omega arith
some_worth ws (constant n) = omega arith
some_worth ws (negated e) = some_then (worth ws e) _ (some_worth ws e)
some_worth ws (inverted e) = some_then (worth ws e) _ (some_worth ws e)
some_worth ws (binary o l r) = some_both (λ x y. by_order (apply o x y)) ws (operand r) (worth ws l) (worth ws r) (some_worth ws l)

some_holds : (ws : List ℕ) (r : Relation) (a b : Expression) → Some (holds ws r a b)
some_holds ws r a b = some_both (λ x y. gives (related r x y) 2) ws (operand b) (worth ws a) (worth ws b) (some_worth ws a)

some_simple : (room : ℕ) (m : Store) (u : Simple) → Some (do_simple room m u)
some_simple room m (set w e) = some_then (worth m.words e) _ (some_worth m.words e)
some_simple room m (send e) = some_then (worth m.words e) _ (some_worth m.words e)
some_simple room m (goto s) = omega arith

some_tried : (ws : List ℕ) (c : Condition) → Some (tried ws c)
unfolding tried
some_tried ws (compares r a b) = some_holds ws r a b
some_tried ws (joins AndRun a b) = some_then (tried ws a) _ (some_tried ws a)
some_tried ws (joins OrRun a b) = some_then (tried ws a) _ (some_tried ws a)

some_answer : (ws : List ℕ) (c : Condition) → Some (answer ws c)
some_answer ws (compares r a b) = some_tried ws (compares r a b)
some_answer ws (joins w a b) = some_later _ (tried ws (joins w a b)) (some_tried ws (joins w a b))

pub some_move : (room : ℕ) (m : Store) (x : Move) → Some (do_move room m x)
some_move room m (deed u w) = some_then (do_simple room m u) _ (some_simple room m u)
some_move room m (question c yes_way no_way) = some_then (answer m.words c) _ (some_answer m.words c)

-- ---- a comparison in two steps

behind_behind : {A : Type 0} (k j : ℕ) (x : Counted A) → behind (k + j) x ≡ behind k (behind j x)
behind_behind k j (gives a i) = ap (gives a) (add_assoc k j i)
behind_behind k j (faults n i) = ap (faults n) (add_assoc k j i)

then_behind : {A B : Type 0} (k : ℕ) (x : Counted A) (f : A → Counted B) → and_then (behind k x) f ≡ behind k (and_then x f)
then_behind k (gives a j) f = behind_behind k j (f a)
then_behind k (faults n j) f = refl

-- f is g and then K, where the value is as P says
then_alike :
    {A B C : Type 0} (P : A → Type 0) (x : Counted A) (f : A → Counted B) (g : A → Counted C) (K : C → Counted B)
    → Each P x
    → ((a : A) → P a → f a ≡ and_then (g a) K)
    → and_then x f ≡ and_then (and_then x g) K
then_alike P (gives a k) f g K p on = ap (behind k) (on a p) ∙ sym (then_behind k (g a) K)
then_alike P (faults n k) f g K p on = refl

module _ (ws : List ℕ) (words : Words ws) where
  both_alike :
      {B C : Type 0} (f : ℕ → ℕ → Counted B) (g : ℕ → ℕ → Counted C) (K : C → Counted B) (x : Operand) (left right : Counted ℕ)
      → ((a b : ℕ) → Small a → Small b → f a b ≡ and_then (g a b) K)
      → SmallOperand x
      → Each Small left
      → Each Small right
      → both f ws x left right ≡ and_then (both g ws x left right) K
  both_alike f g K (in_word w) left right on small p q =
      then_alike Small left (λ a. f a (get_or ws w 0)) (λ a. g a (get_or ws w 0)) K p (λ a h. on a (get_or ws w 0) h (words w))
  both_alike f g K (itself n) left right on small p q =
      then_alike Small left (λ a. f a n) (λ a. g a n) K p (λ a h. on a n h small)
  both_alike f g K worked_out left right on small p q =
      then_alike
      Small
      left
      (λ a. and_then (behind 1 right) (λ b. behind 2 (f a b)))
      (λ a. and_then (behind 1 right) (λ b. behind 2 (g a b)))
      K
      p
      (λ a h. then_alike
      Small
      (behind 1 right)
      (λ b. behind 2 (f a b))
      (λ b. behind 2 (g a b))
      K
      (each_behind Small 1 right q)
      (λ b i. ap (behind 2) (on a b h i) ∙ sym (then_behind 2 (g a b) K)))

  -- a comparison is CMP, then a test against zero
  pub compared :
      (v : ℕ) (r : Relation) (a b : Expression)
      → Expressed v a
      → Expressed v b
      → holds ws r a b
      ≡ and_then (both (λ x y. gives (comparison x y) 1) ws (operand b) (worth ws a) (worth ws b)) (λ z. gives (related_to_zero r z) 1)
  compared v r a b p q =
      both_alike
      (λ x y. gives (related r x y) 2)
      (λ x y. gives (comparison x y) 1)
      (λ z. gives (related_to_zero r z) 1)
      (operand b)
      (worth ws a)
      (worth ws b)
      (λ x y h i. rw (relation_agrees r x y h i) refl)
      (small_operand v b q)
      (small_worth ws words v a p)
      (small_worth ws words v b q)
