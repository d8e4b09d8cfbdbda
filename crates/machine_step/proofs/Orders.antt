-- What the next order of the array does: the fault that it meets, and the machine after it.
use Rattle.std.proofs.Common.{◌≡◌, ℕ, zero, suc, ◌+◌, ◌/◌, ◌%◌, ◌<◌, Bool, true, false, ltb, List, [], ◌∷◌, map, length, get_or, sym, refl, ap, ◌∙◌, arith}
use Prim.{Unit}
use lib.ListN.{get_or-eq_default, get_or-map}
use Rattle.base.specs.Choice.{pick}
use Rattle.base.proofs.Cases.{by_less}
use Rattle.word.specs.Word.{Outcome, value, fault}
use Rattle.order.specs.declared.Operation.{Operation}
use Rattle.order.specs.declared.Operation.TheVariants.{Load, Add, Sub, Mlt, Div, Exp, Shl, Shr, And, Or, Xor, Cmp}
use Rattle.order.specs.declared.Order.{Order}
use Rattle.order.specs.declared.Order.TheVariants.{Word, Number, Store, Neg, Not, Jump, Skip, Branch, Cond, Send, Stop}
use Rattle.order.specs.Memory.{shapes, order_of, order_in, orders_in}
use Rattle.order.proofs.Arrays.{order_at}
use Rattle.machine.specs.declared.Registers.{Registers}
use Rattle.machine.specs.Machine.{Machine, machine, done, failed, end_with, operate, to_acc, send, effect, next_effect}
use Rattle.machine.specs.Internal.{stepped, fault_of}
use Rattle.machine_effect.specs.Internal.{settled, sent_to}
use Rattle.machine_step.specs.Internal.{fault_in, carried}

-- ---- a number of an order that cannot fault

abbrev operation_may_fault : Operation → Bool
operation_may_fault Load = false
operation_may_fault Add = false
operation_may_fault Sub = false
operation_may_fault Mlt = false
operation_may_fault Div = true
operation_may_fault Exp = true
operation_may_fault Shl = true
operation_may_fault Shr = true
operation_may_fault And = false
operation_may_fault Or = false
operation_may_fault Xor = false
operation_may_fault Cmp = false

abbrev may_fault : Order → Bool
may_fault (Word f w) = operation_may_fault f
may_fault (Number f n) = operation_may_fault f
may_fault (Store w) = false
may_fault Neg = false
may_fault Not = false
may_fault (Jump a) = false
may_fault (Skip a) = false
may_fault (Branch r a) = false
may_fault (Cond n) = false
may_fault Send = true
may_fault Stop = false

-- k is none of the places, counted from n, where the list has true
abbrev pub Unmarked : List Bool → ℕ → ℕ → Type 0 → Type 0
Unmarked [] n k others = others
Unmarked (true ∷ l) n k others = Unmarked l (suc n) k (others × (k ≡ n → ⊥))
Unmarked (false ∷ l) n k others = Unmarked l (suc n) k others

-- what stands before the marks is kept
kept : (l : List Bool) (n k : ℕ) (others : Type 0) → Unmarked l n k others → others
kept [] n k others p = p
kept (true ∷ l) n k others p = (kept l (suc n) k (others × (k ≡ n → ⊥)) p).0
kept (false ∷ l) n k others p = kept l (suc n) k others p

unmarked : (l : List Bool) (n j k : ℕ) (others : Type 0) → n + j ≡ k → Unmarked l n k others → get_or l j false ≡ false
unmarked [] n j k others e p = refl
unmarked (true ∷ l) n zero k others e p = absurd ((kept l (suc n) k (others × (k ≡ n → ⊥)) p).1 (omega arith))
unmarked (true ∷ l) n (suc j) k others e p = unmarked l (suc n) j k (others × (k ≡ n → ⊥)) (omega arith) p
unmarked (false ∷ l) n zero k others e p = refl
unmarked (false ∷ l) n (suc j) k others e p = unmarked l (suc n) j k others (omega arith) p

-- the marks of the orders that may fault, by their numbers
abbrev pub marks : List Bool
marks = map (λ shape. may_fault (shape 0)) shapes

abbrev pub Quiet : ℕ → Type 0
Quiet k = Unmarked marks 0 k Unit

fault_of_operation : (o : Outcome) (m : Machine) → fault_of (to_acc o m) ≡ fault_in o
fault_of_operation (value a) (machine r ws out) = refl
fault_of_operation (fault n) m = refl

no_mark : {P : Type 0} → true ≡ false → P
no_mark e = let z : ◌≡◌ {A = ℕ} 0 1 = cc in absurd (omega arith)

operation_cannot_fault : (f : Operation) (a x : ℕ) → operation_may_fault f ≡ false → fault_in (operate f a x) ≡ 0
operation_cannot_fault Load a x e = refl
operation_cannot_fault Add a x e = refl
operation_cannot_fault Sub a x e = refl
operation_cannot_fault Mlt a x e = refl
operation_cannot_fault Div a x e = no_mark e
operation_cannot_fault Exp a x e = no_mark e
operation_cannot_fault Shl a x e = no_mark e
operation_cannot_fault Shr a x e = no_mark e
operation_cannot_fault And a x e = refl
operation_cannot_fault Or a x e = refl
operation_cannot_fault Xor a x e = refl
operation_cannot_fault Cmp a x e = refl

cannot_fault : (o : Order) (m : Machine) → may_fault o ≡ false → fault_of (effect o m) ≡ 0
cannot_fault (Word f w) (machine r ws out) e =
    fault_of_operation (operate f r.acc (get_or ws w 0)) (machine r ws out) ∙ operation_cannot_fault f r.acc (get_or ws w 0) e
cannot_fault (Number f n) (machine r ws out) e =
    fault_of_operation (operate f r.acc n) (machine r ws out) ∙ operation_cannot_fault f r.acc n e
cannot_fault (Store w) (machine r ws out) e = refl
cannot_fault Neg (machine r ws out) e = refl
cannot_fault Not (machine r ws out) e = refl
cannot_fault (Jump a) (machine r ws out) e = refl
cannot_fault (Skip a) (machine r ws out) e = refl
cannot_fault (Branch s a) (machine r ws out) e = refl
cannot_fault (Cond n) (machine r ws out) e = refl
cannot_fault Send m e = no_mark e
cannot_fault Stop (machine r ws out) e = refl

quiet : (k v : ℕ) (m : Machine) → Quiet k → fault_of (effect (order_of k v) m) ≡ 0
unfolding order_of shapes
quiet k v m q = cannot_fault (order_of k v) m (sym (get_or-map (λ shape. may_fault (shape v)) shapes k (λ v. Stop)) ∙ unmarked marks 0 k k Unit (omega arith) q)

-- ---- the fault that the next order meets

module _ (orders : List ℕ) (r : Registers) (ws out : List ℕ) (w n : ℕ) (h : w ≡ get_or orders r.next 0) where
  pub fault_met : n ≡ fault_of (effect (order_in w) (machine r ws out)) → n ≡ fault_of (next_effect (orders_in orders) (machine r ws out))
  fault_met e = rw (order_at orders r.next, ← h) e

  pub none_met : Quiet (w / 4294967296) → n ≡ 0 → n ≡ fault_of (next_effect (orders_in orders) (machine r ws out))
  none_met q e = fault_met (e ∙ sym (quiet (w / 4294967296) (w % 4294967296) (machine r ws out) q))

pub fault_answered : (o p : Outcome) (n : ℕ) (m : Machine) → n ≡ fault_in o → o ≡ p → n ≡ fault_of (to_acc p m)
fault_answered o p n m e i = e ∙ ap fault_in i ∙ sym (fault_of_operation p m)

pub fault_full : (t : Bool) (after : Machine) → pick t 0 4 ≡ fault_of (pick t (done after) (failed 4))
unfolding pick
fault_full true after = refl
fault_full false after = refl

-- ---- the machine after the next order

settled_effect :
    (o : Outcome) (r : Registers) (ws out : List ℕ)
    → machine (settled o (r.next + 1) r) ws out ≡ stepped (to_acc o (machine r ws out)) (machine r ws out)
settled_effect (value a) r ws out = refl
settled_effect (fault n) r ws out = refl

sent_effect :
    (t : Bool) (after : Machine) (r : Registers) (ws out : List ℕ)
    → pick t after (machine (end_with 4 r) ws out) ≡ stepped (pick t (done after) (failed 4)) (machine r ws out)
unfolding pick
sent_effect true after r ws out = refl
sent_effect false after r ws out = refl

carried_effect :
    (o : Order) (r : Registers) (ws out : List ℕ)
    → carried o (r.next + 1) (machine r ws out) ≡ stepped (effect o (machine r ws out)) (machine r ws out)
unfolding sent_to send
carried_effect (Word f w) r ws out = settled_effect (operate f r.acc (get_or ws w 0)) r ws out
carried_effect (Number f n) r ws out = settled_effect (operate f r.acc n) r ws out
carried_effect (Store w) r ws out = refl
carried_effect Neg r ws out = refl
carried_effect Not r ws out = refl
carried_effect (Jump a) r ws out = refl
carried_effect (Skip a) r ws out = refl
carried_effect (Branch s a) r ws out = refl
carried_effect (Cond n) r ws out = refl
carried_effect Send r ws out = sent_effect (ltb r.sent (length out / 4)) _ r ws out
carried_effect Stop r ws out = refl

-- the place behind is counted modulo 2 to the 64: at the last place of all there is no order, so STOP
pub step_carried :
    (orders : List ℕ) (r : Registers) (ws out : List ℕ) (w b : ℕ)
    → w ≡ get_or orders r.next 0
    → b ≡ (r.next + 1) % 18446744073709551616
    → length orders < 18446744073709551616
    → carried (order_in w) b (machine r ws out) ≡ stepped (next_effect (orders_in orders) (machine r ws out)) (machine r ws out)
unfolding order_of shapes
step_carried orders r ws out w b h bh few =
    by_less
    r.next
    (length orders)
    (λ l.
    let behind : b ≡ r.next + 1 = omega arith in
    rw (order_at orders r.next, ← h, behind) (carried_effect (order_in w) r ws out))
    (λ g.
    let none : w ≡ 0 = h ∙ get_or-eq_default orders 0 g in
    rw (order_at orders r.next, ← h, none))
