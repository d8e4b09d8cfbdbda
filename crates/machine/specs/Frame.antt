-- What is said of the numbers, bytes, words and orders of a run, in the theorems of proofs/Frame.antt on what a run keeps.
use Rattle.std.specs.Prelude.{ℕ, ◌<◌, ◌≤◌, ◌≡◌, List, ◌⊎◌, get_or, set}
use Rattle.order.specs.declared.Order.{Order}
use Rattle.order.specs.declared.Order.TheVariants.{Word, Number, Store, Neg, Not, Jump, Skip, Branch, Cond, Send, Stop}
use Rattle.order.specs.Order.{operand}

-- 0 none, 1 to 4 that fault, 20 stopped
abbrev pub Ending : ℕ → Type 0
Ending n = (n ≤ 4) ⊎ (n ≡ 20)

-- bytes are bytes
abbrev pub Bytes : List ℕ → Type 0
Bytes l = (i : ℕ) → get_or l i 0 < 256

-- the words of a frame are words
abbrev pub Words : List ℕ → Type 0
Words ws = (i : ℕ) → get_or ws i 0 < 4294967296

-- the operands are words
abbrev pub Operands : List Order → Type 0
Operands os = (i : ℕ) → operand (get_or os i Stop) < 4294967296

-- the words after an order: STR stores the accumulator in its word, and no other order writes a word
abbrev pub written : Order → ℕ → List ℕ → List ℕ
written (Word f w) a ws = ws
written (Number f n) a ws = ws
written (Store w) a ws = set ws w a
written Neg a ws = ws
written Not a ws = ws
written (Jump i) a ws = ws
written (Skip i) a ws = ws
written (Branch s i) a ws = ws
written (Cond n) a ws = ws
written Send a ws = ws
written Stop a ws = ws
