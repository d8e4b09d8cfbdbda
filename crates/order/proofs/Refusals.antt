-- The numbers and the places of refusals: 21 to 25, at a place of at most as many as there can be orders.
use Prim.Native.Nat.{ℕ, suc, ◌+◌, ◌-◌, ◌≤◌}
use mathlib.Core.Path.{◌≡◌, subst}
use mathlib.Core.List.{List, [], ◌∷◌}
use native.Mathlib.Omega.{arith}
use borrow.Author.Tests.{eqb-false}
use lib.Dec.{ltb, eqb}
use lib.ListN.{length}
use Rattle.base.specs.Choice.{pick}
use Rattle.base.specs.Front.{on_front}
use Rattle.base.proofs.Cases.{either_part}
use Rattle.base.proofs.Fronts.{by_front}
use Rattle.order.specs.declared.Order.{Order}
use Rattle.order.specs.declared.Order.TheVariants.{Word, Number, Store, Neg, Not, Jump, Skip, Branch, Cond, Send, Stop}
use Rattle.order.specs.Limits.{most_orders}
use Rattle.order.specs.Object.{Header, Lines, Reading, object, refused, header_at, lines_at}
use Rattle.order.specs.Object.{operand_refusal, first_stop, first_operand, stop_last, exactly, reading}
use Rattle.order.proofs.HeaderText.{Within, again_header}
use Rattle.order.proofs.RecordLines.{Read, again_lines}

-- what a reading refuses with, if it does
abbrev Bounded : Reading → Type 0
Bounded (object v t os) = Unit {0}
Bounded (refused n p) = (21 ≤ n) × (n ≤ 25) × (p ≤ most_orders)

-- ---- 23 and 24

-- 0 where an order is not refused
abbrev Known : ℕ → Type 0
Known n = (n ≡ 0 → ⊥) → (21 ≤ n) × (n ≤ 25)

word_known : (words w : ℕ) → Known (pick (ltb w 2) 23 (pick (ltb w words) 0 23))
word_known words w =
    either_part Known (ltb w 2) 23 _ (λ _. omega arith)
    (λ _. either_part Known (ltb w words) 0 23 (λ _. omega arith) (λ _. omega arith))

address_known : (n a : ℕ) → Known (pick (ltb a n) 0 24)
address_known n a = either_part Known (ltb a n) 0 24 (λ _. omega arith) (λ _. omega arith)

operand_known : (words n : ℕ) (o : Order) → Known (operand_refusal words n o)
operand_known words n (Word f w) = word_known words w
operand_known words n (Number f k) = omega arith
operand_known words n (Store w) = word_known words w
operand_known words n Neg = omega arith
operand_known words n Not = omega arith
operand_known words n (Jump a) = address_known n a
operand_known words n (Skip a) = address_known n a
operand_known words n (Branch r a) = address_known n a
operand_known words n (Cond k) = omega arith
operand_known words n Send = omega arith
operand_known words n Stop = omega arith

operands_bounded : (words n k : ℕ) (os : List Order) (after : Reading) → k + length os ≤ most_orders → Bounded after
    → Bounded (first_operand words n k os after)
unfolding first_operand
operands_bounded words n k [] after few b = b
operands_bounded words n k (o ∷ os) after few b =
    either_part Bounded (eqb (operand_refusal words n o) 0) _ _
    (λ _. operands_bounded words n (suc k) os after (omega arith) b)
    (λ e. let known = operand_known words n o (eqb-false (operand_refusal words n o) 0 e) in (known.0, known.1, omega arith))

-- ---- all of them

stops_bounded : (v t : ℕ) (os : List Order) → length os ≤ most_orders → Bounded (stop_last v t os)
unfolding stop_last
stops_bounded v t os few =
    either_part Bounded (eqb (first_stop 0 os) (length os - 1)) _ _ (λ _. tt) (λ _. omega arith)

lines_bounded : (h : Header) (ls : Lines) (l : List ℕ) → Within h.variables h.temporaries h.orders → Read h.orders l ls
    → Bounded (exactly h ls)
unfolding exactly
lines_bounded h ls l w r =
    either_part Bounded (ltb (length ls.orders) h.orders) _ _ (λ _. omega arith)
    (λ _. either_part Bounded (ltb 0 (length ls.rest)) _ _ (λ _. omega arith)
    (λ _. operands_bounded (h.variables + h.temporaries + 2) h.orders 0 ls.orders _ (omega arith)
    (stops_bounded h.variables h.temporaries ls.orders (omega arith))))

reading_bounded : (l : List ℕ) → Bounded (reading l)
unfolding reading on_front
reading_bounded l =
    by_front (header_at l)
    (λ h l₁ e. rw e (lines_bounded h (lines_at h.orders l₁) l₁ (again_header h l l₁ e).1 (again_lines h.orders l₁)))
    (λ e. rw e (omega arith))

pub refused_bounded : (l : List ℕ) (n p : ℕ) → reading l ≡ refused n p → (21 ≤ n) × (n ≤ 25) × (p ≤ most_orders)
refused_bounded l n p e = subst Bounded e (reading_bounded l)
