-- What the answers of the functions stand for. A reader of the promises needs none of it.
use Rattle.std.specs.Prelude.{ℕ, ◌<◌, ◌≡◌, List, [], ◌∷◌, ◌++◌, Option, Some, None, ltb, eqb, take, drop}
use Rattle.base.specs.Choice.{pick}
use Rattle.base.specs.Text.{bytes}
use Rattle.base.specs.Front.{found, missing, on_front}
use Rattle.text.specs.Pieces.{Front, fixed, numeral}
use Rattle.order.specs.declared.Order.{Order}
use Rattle.order.specs.Order.{operand}
use Rattle.order.specs.Memory.{order_of}
use Rattle.order.specs.Object.{heading}

-- the names and kinds of the orders, by their numbers, each in a row of seven bytes
abbrev pub heading_rows : List ℕ
heading_rows =
    bytes
    "STOP\t-\tSEND\t-\tNEG\t-\t NOT\t-\t JMP\tA\t BE\tA\t  BNE\tA\t BLT\tA\t BLE\tA\t BGT\tA\t BGE\tA\t STR\tD\t LOAD\tD\tADD\tD\t SUB\tD\t MLT\tD\t DIV\tD\t EXP\tD\t SHL\tD\t SHR\tD\t AND\tD\t OR\tD\t  XOR\tD\t CMP\tD\t LOAD\tK\tADD\tK\t SUB\tK\t MLT\tK\t DIV\tK\t EXP\tK\t SHL\tK\t SHR\tK\t AND\tK\t OR\tK\t  XOR\tK\t CMP\tK\t SKIP\tA\tCOND\tK\t"

-- the lengths of the names and kinds
abbrev pub heading_lengths : List ℕ
heading_lengths = 7 ∷ 7 ∷ 6 ∷ 6 ∷ 6 ∷ 5 ∷ 6 ∷ 6 ∷ 6 ∷ 6 ∷ 6 ∷ 6 ∷ 7 ∷ 6 ∷ 6 ∷ 6 ∷ 6 ∷ 6 ∷ 6 ∷ 6 ∷ 6 ∷ 5 ∷ 6 ∷ 6 ∷ 7 ∷ 6 ∷ 6 ∷ 6 ∷ 6 ∷ 6 ∷ 6 ∷ 6 ∷ 6 ∷ 5 ∷ 6 ∷ 6 ∷ 7 ∷ 7 ∷ []

-- the number of an order by a sum of its first three letters
abbrev pub numbers_by_letters : List ℕ
numbers_by_letters = 0 ∷ 0 ∷ 17 ∷ 0 ∷ 0 ∷ 5 ∷ 16 ∷ 0 ∷ 7 ∷ 6 ∷ 18 ∷ 0 ∷ 0 ∷ 0 ∷ 0 ∷ 0 ∷ 19 ∷ 10 ∷ 0 ∷ 0 ∷ 0 ∷ 0 ∷ 23 ∷ 0 ∷ 3 ∷ 0 ∷ 0 ∷ 0 ∷ 4 ∷ 0 ∷ 0 ∷ 36 ∷ 9 ∷ 0 ∷ 0 ∷ 0 ∷ 37 ∷ 0 ∷ 0 ∷ 0 ∷ 14 ∷ 0 ∷ 0 ∷ 0 ∷ 0 ∷ 0 ∷ 13 ∷ 21 ∷ 11 ∷ 12 ∷ 0 ∷ 0 ∷ 1 ∷ 0 ∷ 15 ∷ 0 ∷ 0 ∷ 8 ∷ 22 ∷ 2 ∷ 0 ∷ 0 ∷ 20 ∷ 0 ∷ []

abbrev pub order_found : List ℕ → Option (Order × ℕ) → Front Order
order_found s (Some (o, i)) = found o (drop i s)
order_found s None = missing

-- the name and kind of the order with the number k, if there is one
abbrev pub heading_at : ℕ → List ℕ → Front (List ℕ)
heading_at k l = pick (ltb k 38) (fixed (heading (order_of k 0)) l) missing

-- the number of a record behind the heading of the order with the number k
abbrev pub number_after : ℕ → List ℕ → Front Order
number_after k l = on_front (numeral 10 l) (λ v l₁. pick (eqb (operand (order_of k v)) v) (found (order_of k v) l₁) missing) missing

-- the order with the number k is the only one that may stand at the front of a text, of which the first seven bytes are given
abbrev pub Likely : List ℕ → ℕ → Type 0
Likely front k = (j : ℕ) (l : List ℕ) → j < 38 → front ≡ take 7 (heading (order_of j 0) ++ l) → k ≡ j
