-- Orders and operations by their numbers.
use Prim.Native.Nat.{ℕ, ◌+◌, ◌-◌, ◌<◌, ◌≤◌}
use mathlib.Core.Path.{◌≡◌, sym, ap, ◌∙◌}
use mathlib.Core.List.{map}
use native.Mathlib.Omega.{arith}
use lib.ListN.{get_or, take, drop}
use Rattle.base.proofs.Lists.{get_d_map_inside, among}
use Rattle.order.specs.declared.Operation.{Operation}
use Rattle.order.specs.declared.Operation.TheVariants.{Cmp}
use Rattle.order.specs.declared.Order.{Order}
use Rattle.order.specs.declared.Order.TheVariants.{Word, Number, Stop}
use Rattle.order.specs.Order.{operations}
use Rattle.order.specs.Memory.{shapes, order_of}

-- an operation on a word has its operation's number and 12, one on a number its operation's and 24
abbrev on_word : Operation → ℕ → Order
on_word f v = Word f v

abbrev on_number : Operation → ℕ → Order
on_number f v = Number f v

order_word_law : (k v : ℕ) → k < 12 → Word (get_or operations k Cmp) v ≡ order_of (12 + k) v
unfolding shapes order_of
order_word_law k v h =
    ap
    (λ f. f v)
    (sym
    (among (take 12 shapes) (map on_word operations) (drop 24 shapes) k (λ v. Stop) h
    ∙ get_d_map_inside on_word operations k (λ v. Stop) Cmp h))

order_number : (k v : ℕ) → k < 12 → Number (get_or operations k Cmp) v ≡ order_of (24 + k) v
unfolding shapes order_of
order_number k v h =
    ap
    (λ f. f v)
    (sym
    (among (take 24 shapes) (map on_number operations) (drop 36 shapes) k (λ v. Stop) h
    ∙ get_d_map_inside on_number operations k (λ v. Stop) Cmp h))

pub word_again : (k v : ℕ) → 12 ≤ k → k < 24 → Word (get_or operations (k - 12) Cmp) v ≡ order_of k v
word_again k v g h =
    let e : 12 + (k - 12) ≡ k = omega arith in
    order_word_law (k - 12) v (omega arith) ∙ ap (λ n. order_of n v) e

pub number_again : (k v : ℕ) → 24 ≤ k → k < 36 → Number (get_or operations (k - 24) Cmp) v ≡ order_of k v
number_again k v g h =
    let e : 24 + (k - 24) ≡ k = omega arith in
    order_number (k - 24) v (omega arith) ∙ ap (λ n. order_of n v) e
