-- The text of an object and its reading, document 01 ("Object text, house form", rows 21 to 25). Texts are lists of bytes:
-- 9 is the tab, 10 the newline. Comments in quotes are document 01's words.
use Rattle.std.specs.Prelude.{ℕ, zero, suc, ◌+◌, ◌-◌, min, Bool, true, false, List, [], ◌∷◌, ◌++◌, ltb, eqb, length}
use Rattle.base.specs.Choice.{pick}
use Rattle.base.specs.Text.{bytes}
use Rattle.base.specs.Front.{found, missing, on_front}
use Rattle.text.specs.Pieces.{decimal, Front, fixed, numeral}
use Rattle.order.specs.declared.Order.{Order}
use Rattle.order.specs.declared.Order.TheVariants.{Word, Number, Store, Neg, Not, Jump, Skip, Branch, Cond, Send, Stop}
use Rattle.order.specs.Limits.{most_variables, most_temporaries, most_orders}
use Rattle.order.specs.Order.{name, kind, operand, table}

-- ---- the text of an object

-- "fields parted by tabs": a record's name and kind, each with the tab behind it
abbrev pub heading : Order → List ℕ
heading o = bytes (name o) ++ 9 ∷ bytes (kind o) ++ 9 ∷ []

-- "records of order, kind and number", "each line ended by newline"
abbrev pub record_text : Order → List ℕ
record_text o = heading o ++ decimal (operand o) ++ 10 ∷ []

unfoldable pub records_text : List Order → List ℕ
records_text [] = []
records_text (o ∷ os) = record_text o ++ records_text os

-- "First `BOX`, V, T, number of orders N"
abbrev pub header_text : ℕ → ℕ → ℕ → List ℕ
header_text v t n = bytes "BOX\t" ++ decimal v ++ 9 ∷ decimal t ++ 9 ∷ decimal n ++ 10 ∷ []

unfoldable pub text : ℕ → ℕ → List Order → List ℕ
text v t os = header_text v t (length os) ++ records_text os

-- ---- the header

pub record Header : Type 0 where
  pub variables : ℕ
  pub temporaries : ℕ
  pub orders : ℕ

-- 21 "header not of the form or over a limit". "N is at least 1."
unfoldable pub within_limits : ℕ → ℕ → ℕ → Bool
within_limits v t n =
    pick (ltb most_variables v) false (pick (ltb most_temporaries t) false (pick (ltb most_orders n) false (ltb 0 n)))

unfoldable pub header_at : List ℕ → Front Header
header_at l =
    on_front
    (fixed (bytes "BOX\t") l)
    (λ _ l₁. on_front
    (numeral 9 l₁)
    (λ v l₂. on_front
    (numeral 9 l₂)
    (λ t l₃. on_front
    (numeral 10 l₃)
    (λ n l₄. pick (within_limits v t n) (found (record { variables = v; temporaries = t; orders = n }) l₄) missing)
    missing)
    missing)
    missing)
    missing

-- ---- the records

-- a record of one of the table's lines, the first that fits. "A line whose order does not take its kind is not good"; nor is
-- one of kind `-` whose number is not 0, the operand of its order
unfoldable pub record_among : List (ℕ → Order) → List ℕ → Front Order
record_among [] l = missing
record_among (shape ∷ more) l =
    on_front
    (fixed (heading (shape 0)) l)
    (λ _ l₁. on_front (numeral 10 l₁) (λ v l₂. pick (eqb (operand (shape v)) v) (found (shape v) l₂) missing) missing)
    (record_among more l)

unfoldable pub record_at : List ℕ → Front Order
record_at l = record_among table l

-- the good lines at the front of a text, at most n of them, and the text behind them
pub record Lines : Type 0 where
  pub orders : List Order
  pub rest : List ℕ

unfoldable pub lines_at : ℕ → List ℕ → Lines
lines_at zero l = record { orders = []; rest = l }
lines_at (suc n) l =
    on_front
    (record_at l)
    (λ o l₁. record { orders = o ∷ (lines_at n l₁).orders; rest = (lines_at n l₁).rest })
    (record { orders = []; rest = l })

-- ---- what is read

-- an object: V, T and the orders; or a refusal: its number and its place
pub data Reading : Type 0 where
  object : ℕ → ℕ → List Order → Reading
  refused : ℕ → ℕ → Reading

-- 23 "word not in 2..V+T+1", 24 "address N or more"; 0 where neither holds
abbrev pub operand_refusal : ℕ → ℕ → Order → ℕ
operand_refusal words n (Word f w) = pick (ltb w 2) 23 (pick (ltb w words) 0 23)
operand_refusal words n (Number f k) = 0
operand_refusal words n (Store w) = pick (ltb w 2) 23 (pick (ltb w words) 0 23)
operand_refusal words n Neg = 0
operand_refusal words n Not = 0
operand_refusal words n (Jump a) = pick (ltb a n) 0 24
operand_refusal words n (Skip a) = pick (ltb a n) 0 24
operand_refusal words n (Branch r a) = pick (ltb a n) 0 24
operand_refusal words n (Cond k) = 0
operand_refusal words n Send = 0
operand_refusal words n Stop = 0

abbrev pub is_stop : Order → Bool
is_stop (Word f w) = false
is_stop (Number f n) = false
is_stop (Store w) = false
is_stop Neg = false
is_stop Not = false
is_stop (Jump a) = false
is_stop (Skip a) = false
is_stop (Branch r a) = false
is_stop (Cond n) = false
is_stop Send = false
is_stop Stop = true

-- the place of the first STOP, counted from k; past the last order where there is none
unfoldable pub first_stop : ℕ → List Order → ℕ
first_stop k [] = k
first_stop k (o ∷ os) = pick (is_stop o) k (first_stop (suc k) os)

-- "the first line with 23 or 24", counted from k; where there is none, what comes after this check
unfoldable pub first_operand : ℕ → ℕ → ℕ → List Order → Reading → Reading
first_operand words n k [] after = after
first_operand words n k (o ∷ os) after =
    pick (eqb (operand_refusal words n o) 0) (first_operand words n (suc k) os after) (refused (operand_refusal words n o) k)

-- 25 "last not STOP, or STOP earlier": "first early STOP, else N-1"
unfoldable pub stop_last : ℕ → ℕ → List Order → Reading
stop_last v t os =
    pick (eqb (first_stop 0 os) (length os - 1)) (object v t os) (refused 25 (min (first_stop 0 os) (length os - 1)))

-- 22 "not exactly N good lines": "first bad or missing line, extra text N"
unfoldable pub exactly : Header → Lines → Reading
exactly h ls =
    pick
    (ltb (length ls.orders) h.orders)
    (refused 22 (length ls.orders))
    (pick
    (ltb 0 (length ls.rest))
    (refused 22 h.orders)
    (first_operand
    (h.variables + h.temporaries + 2)
    h.orders
    0
    ls.orders
    (stop_last h.variables h.temporaries ls.orders)))

-- "Object checks: 21, 22, the first line with 23 or 24, then 25"
unfoldable pub reading : List ℕ → Reading
reading l = on_front (header_at l) (λ h l₁. exactly h (lines_at h.orders l₁)) (refused 21 0)

-- the good lines that are met before a refusal, or all of them
unfoldable pub lines_of : List ℕ → List Order
lines_of l = on_front (header_at l) (λ h l₁. (lines_at h.orders l₁).orders) []
