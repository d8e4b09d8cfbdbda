-- What the orders of an object have to be, said of the orders and not of a text: the objects that `reading` gives are these.
-- Comments in quotes are document 01's words.
use Rattle.std.specs.Prelude.{ℕ, ◌+◌, ◌-◌, ◌<◌, ◌≤◌, ◌≡◌, List, length, get_or}
use Rattle.text.specs.Pieces.{greatest_number}
use Rattle.order.specs.declared.Order.{Order}
use Rattle.order.specs.declared.Order.TheVariants.{Word, Number, Store, Neg, Not, Jump, Skip, Branch, Cond, Send, Stop}
use Rattle.order.specs.Limits.{most_variables, most_temporaries, most_orders}

-- "word not in 2..V+T+1" is refused
abbrev pub WordFits : ℕ → ℕ → ℕ → Type 0
WordFits v t w = (2 ≤ w) × (w < v + t + 2)

-- what an order of an object with V, T and n orders can carry: "Numbers are .. 0 to 2147483647", and "address N or more" is
-- refused
abbrev pub OperandFits : ℕ → ℕ → ℕ → Order → Type 0
OperandFits v t n (Word f w) = WordFits v t w
OperandFits v t n (Number f k) = k ≤ greatest_number
OperandFits v t n (Store w) = WordFits v t w
OperandFits v t n Neg = Unit {0}
OperandFits v t n Not = Unit {0}
OperandFits v t n (Jump a) = a < n
OperandFits v t n (Skip a) = a < n
OperandFits v t n (Branch r a) = a < n
OperandFits v t n (Cond k) = k ≤ greatest_number
OperandFits v t n Send = Unit {0}
OperandFits v t n Stop = Unit {0}

pub record Good (v t : ℕ) (os : List Order) : Type 0 where
  -- within the limits. "N is at least 1."
  pub variables : v ≤ most_variables
  pub temporaries : t ≤ most_temporaries
  pub some_orders : 1 ≤ length os
  pub few_orders : length os ≤ most_orders
  pub operands : (k : ℕ) → k < length os → OperandFits v t (length os) (get_or os k Stop)
  -- "last not STOP, or STOP earlier" is refused
  pub stop_last_law : get_or os (length os - 1) Stop ≡ Stop
  pub no_stop_earlier : (k : ℕ) → k + 1 < length os → get_or os k Stop ≡ Stop → ⊥
