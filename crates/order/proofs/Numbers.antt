-- The number of an order and its operand tell the order: an array of words holds a program and loses nothing of it.
use Prim.Native.Nat.{ℕ, ◌+◌, ◌*◌, ◌/◌, ◌%◌, ◌<◌, ◌≤◌}
use mathlib.Core.Path.{◌≡◌, refl, sym, ap, ap₂, ◌∙◌}
use native.Mathlib.Omega.{arith}
use borrow.Author.Tests.{ne_eqb}
use lib.Dec.{eqb}
use lib.ListN.{get_or-eq_default}
use Rattle.base.proofs.Cases.{by_less}
use Rattle.word.specs.declared.Relation.{Relation}
use Rattle.word.specs.declared.Relation.TheVariants.{Equal, Unequal, Less, AtMost, Greater, AtLeast}
use Rattle.order.specs.declared.Operation.{Operation}
use Rattle.order.specs.declared.Operation.TheVariants.{Load, Add, Sub, Mlt, Div, Exp, Shl, Shr, And, Or, Xor, Cmp}
use Rattle.order.specs.declared.Order.{Order}
use Rattle.order.specs.declared.Order.TheVariants.{Word, Number, Store, Neg, Not, Jump, Skip, Branch, Cond, Send, Stop}
use Rattle.order.specs.Order.{operand}
use Rattle.order.specs.Object.{is_stop}
use Rattle.order.specs.Memory.{operation_number, branch_number, number, shapes, order_of, order_word, order_in}

-- ---- one order

operation_again : (f : Operation) (v : ℕ) → (order_of (12 + operation_number f) v ≡ Word f v) × (order_of (24 + operation_number f) v ≡ Number f v)
unfolding order_of shapes
operation_again Load v = (refl, refl)
operation_again Add v = (refl, refl)
operation_again Sub v = (refl, refl)
operation_again Mlt v = (refl, refl)
operation_again Div v = (refl, refl)
operation_again Exp v = (refl, refl)
operation_again Shl v = (refl, refl)
operation_again Shr v = (refl, refl)
operation_again And v = (refl, refl)
operation_again Or v = (refl, refl)
operation_again Xor v = (refl, refl)
operation_again Cmp v = (refl, refl)

branch_again : (r : Relation) (a : ℕ) → order_of (branch_number r) a ≡ Branch r a
unfolding order_of shapes
branch_again Equal a = refl
branch_again Unequal a = refl
branch_again Less a = refl
branch_again AtMost a = refl
branch_again Greater a = refl
branch_again AtLeast a = refl

pub order_again : (o : Order) → order_of (number o) (operand o) ≡ o
unfolding order_of shapes
order_again (Word f w) = (operation_again f w).0
order_again (Number f n) = (operation_again f n).1
order_again (Store w) = refl
order_again Neg = refl
order_again Not = refl
order_again (Jump a) = refl
order_again (Skip a) = refl
order_again (Branch r a) = branch_again r a
order_again (Cond n) = refl
order_again Send = refl
order_again Stop = refl

-- a number past the table stands for STOP, whose number is 0
pub number_below : (o : Order) → number o < 38
unfolding order_of shapes
number_below o =
    by_less (number o) 38 (λ l. l)
    (λ g. let past : number o ≡ 0 = ap number (sym (order_again o) ∙ ap (λ s. s (operand o)) (get_or-eq_default shapes (λ v. Stop) g)) in
    absurd (omega arith))

-- any other number stands for STOP
pub no_order : (k v : ℕ) → 38 ≤ k → Stop ≡ order_of k v
unfolding shapes order_of
no_order k v h = ap (λ f. f v) (sym (get_or-eq_default shapes (λ v. Stop) {n = k} h))

-- STOP alone has the number 0
pub stop_number : (o : Order) → eqb (number o) 0 ≡ is_stop o
stop_number (Word f w) = ne_eqb (12 + operation_number f) 0 (λ e. omega (arith, e))
stop_number (Number f n) = ne_eqb (24 + operation_number f) 0 (λ e. omega (arith, e))
stop_number (Store w) = refl
stop_number Neg = refl
stop_number Not = refl
stop_number (Jump a) = refl
stop_number (Skip a) = refl
stop_number (Branch Equal a) = refl
stop_number (Branch Unequal a) = refl
stop_number (Branch Less a) = refl
stop_number (Branch AtMost a) = refl
stop_number (Branch Greater a) = refl
stop_number (Branch AtLeast a) = refl
stop_number (Cond n) = refl
stop_number Send = refl
stop_number Stop = refl

-- ---- orders as single numbers

-- what is packed comes out again
pub high : (k v : ℕ) → v < 4294967296 → (k * 4294967296 + v) / 4294967296 ≡ k
high k v h = omega arith

pub low : (k v : ℕ) → v < 4294967296 → (k * 4294967296 + v) % 4294967296 ≡ v
low k v h = omega arith

pub order_in_law : (o : Order) → operand o < 4294967296 → order_in (order_word o) ≡ o
order_in_law o h = ap₂ order_of (high (number o) (operand o) h) (low (number o) (operand o) h) ∙ order_again o
