-- Orders in memory, where each is one number. No text depends on these numbers.
use Rattle.std.specs.Prelude.{ℕ, ◌+◌, ◌*◌, ◌/◌, ◌%◌, List, [], ◌∷◌, ◌++◌, map, get_or}
use Rattle.word.specs.declared.Relation.{Relation}
use Rattle.word.specs.declared.Relation.TheVariants.{Equal, Unequal, Less, AtMost, Greater, AtLeast}
use Rattle.order.specs.declared.Operation.{Operation}
use Rattle.order.specs.declared.Operation.TheVariants.{Load, Add, Sub, Mlt, Div, Exp, Shl, Shr, And, Or, Xor, Cmp}
use Rattle.order.specs.declared.Order.{Order}
use Rattle.order.specs.declared.Order.TheVariants.{Word, Number, Store, Neg, Not, Jump, Skip, Branch, Cond, Send, Stop}
use Rattle.order.specs.Order.{operand, operations, branches}

abbrev pub operation_number : Operation → ℕ
operation_number Load = 0
operation_number Add = 1
operation_number Sub = 2
operation_number Mlt = 3
operation_number Div = 4
operation_number Exp = 5
operation_number Shl = 6
operation_number Shr = 7
operation_number And = 8
operation_number Or = 9
operation_number Xor = 10
operation_number Cmp = 11

abbrev pub branch_number : Relation → ℕ
branch_number Equal = 5
branch_number Unequal = 6
branch_number Less = 7
branch_number AtMost = 8
branch_number Greater = 9
branch_number AtLeast = 10

abbrev pub number : Order → ℕ
number Stop = 0
number Send = 1
number Neg = 2
number Not = 3
number (Jump a) = 4
number (Branch r a) = branch_number r
number (Store w) = 11
number (Word f w) = 12 + operation_number f
number (Number f n) = 24 + operation_number f
number (Skip a) = 36
number (Cond n) = 37

-- the orders that have these numbers, with the operand v
unfoldable pub shapes : List (ℕ → Order)
shapes =
    (λ v. Stop)
    ∷ (λ v. Send)
    ∷ (λ v. Neg)
    ∷ (λ v. Not)
    ∷ Jump
    ∷ map (λ r v. Branch r v) branches
    ++ Store
    ∷ map (λ f v. Word f v) operations
    ++ map (λ f v. Number f v) operations
    ++ Skip
    ∷ Cond
    ∷ []

unfoldable pub order_of : ℕ → ℕ → Order
order_of k v = get_or shapes k (λ v. Stop) v

-- an order as one number: that of its shape, times 2^32, and its operand
abbrev pub order_word : Order → ℕ
order_word o = number o * 4294967296 + operand o

abbrev pub order_in : ℕ → Order
order_in w = order_of (w / 4294967296) (w % 4294967296)

-- the orders that an array holds
abbrev pub orders_in : List ℕ → List Order
orders_in ws = map order_in ws
