-- The array that `read` fills holds the orders that it read.
use Prim.Native.Nat.{ℕ, suc, ◌<◌, ◌≤◌}
use mathlib.Core.Path.{◌≡◌, refl, sym, ap, ap₂, ◌∙◌}
use mathlib.Core.List.{List, [], ◌∷◌, map}
use native.Mathlib.Omega.{arith}
use native.Mathlib.Nat.{zero-add}
use lib.ListN.{length, get_or, take, length-map, get_or-map}
use lib.Seq.{sets}
use Rattle.base.proofs.Lists.{take_sets}
use Rattle.text.specs.Pieces.{greatest_number}
use Rattle.order.specs.declared.Order.{Order}
use Rattle.order.specs.declared.Order.TheVariants.{Stop}
use Rattle.order.specs.Order.{operand}
use Rattle.order.specs.Memory.{shapes, order_of, order_word, order_in, orders_in}
use Rattle.order.specs.Good.{Good}
use Rattle.order.proofs.Numbers.{order_in_law}
use Rattle.order.proofs.OrderTests.{numbers_small}

-- the operands are words
pub data Narrow : List Order → Type 0 where
  none : Narrow []
  more : {o : Order} {os : List Order} → operand o < 4294967296 → Narrow os → Narrow (o ∷ os)

pub orders_in_law : (os : List Order) → Narrow os → orders_in (map order_word os) ≡ os
orders_in_law _ none = refl
orders_in_law _ (more {o} {os} h hs) = ap₂ ◌∷◌ (order_in_law o h) (orders_in_law os hs)

-- those of a good object are
narrow : (os : List Order) → ((k : ℕ) → k < length os → operand (get_or os k Stop) ≤ greatest_number) → Narrow os
narrow [] h = none
narrow (o ∷ os) h = more {o = o} (omega (arith, h 0 (omega arith))) (narrow os (λ k l. h (suc k) (omega arith)))

pub good_narrow : (v t : ℕ) (os : List Order) → Good v t os → Narrow os
good_narrow v t os g = narrow os (numbers_small v t os g)

-- the order at a place of an array; behind its end stands STOP
pub order_at : (ws : List ℕ) (i : ℕ) → get_or (orders_in ws) i Stop ≡ order_in (get_or ws i 0)
unfolding order_of shapes
order_at ws i = get_or-map order_in ws i 0

-- an array that is filled from its front holds there what it was filled with
pub array_holds : (os : List Order) (ws : List ℕ) → Narrow os → length os ≤ length ws → orders_in (take (length os) (sets ws 0 (map order_word os))) ≡ os
array_holds os ws small room =
    let count = length-map os order_word in
    ap (λ n. orders_in (take n (sets ws 0 (map order_word os)))) (sym (zero-add _ ∙ count))
    ∙ ap orders_in (take_sets ws 0 (map order_word os) (omega (arith, count, room)))
    ∙ orders_in_law os small
