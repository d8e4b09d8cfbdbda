-- The orders of expressions, of comparisons and of the instructions that are no IF, document 01 ("Translation"), and the temporaries
-- that they use. Comments in quotes are document 01's words.
use Rattle.std.specs.Prelude.{ℕ, suc, ◌+◌, max, List, [], ◌∷◌, ◌++◌, length}
use Rattle.word.specs.declared.Relation.{Relation}
use Rattle.word.specs.declared.Relation.TheVariants.{Equal, Unequal, Less, AtMost, Greater, AtLeast}
use Rattle.order.specs.declared.Operation.{Operation}
use Rattle.order.specs.declared.Operation.TheVariants.{Load, Add, Sub, Mlt, Div, Exp, Shl, Shr, And, Or, Xor, Cmp}
use Rattle.order.specs.declared.Order.{Order}
use Rattle.order.specs.declared.Order.TheVariants.{Word, Number, Store, Neg, Not, Jump, Send}
use Rattle.sheet.specs.declared.Operator.{Operator}
use Rattle.sheet.specs.declared.Operator.TheVariants.{Plus, Minus, Times, Over, Power, Left, Right, And as Both, Or as Either, Unlike}
use Rattle.sheet.specs.Sheet.{Expression, word, constant, negated, inverted, binary, Simple, set, send, goto}
use Rattle.sheet.specs.Sheet.{Operand, in_word, itself, worked_out, operand}

-- ---- expressions

abbrev pub operation : Operator → Operation
operation Plus = Add
operation Minus = Sub
operation Times = Mlt
operation Over = Div
operation Power = Exp
operation Left = Shl
operation Right = Shr
operation Both = And
operation Either = Or
operation Unlike = Xor

-- "Variables follow from 2 .., V of them; then T temporaries": the word of temporary d
abbrev pub temporary : ℕ → ℕ → ℕ
temporary v d = v + 2 + d

-- "A binary with a plain right operand is the left, then the order on it. Otherwise, with d temporaries in use: left, STR
-- temporary d, right with d+1 in use, STR temporary d+1, LOAD temporary d, order on d+1."
abbrev pub joined : Operation → ℕ → ℕ → Operand → List Order → List Order → List Order
joined o v d (in_word w) left right = left ++ Word o w ∷ []
joined o v d (itself n) left right = left ++ Number o n ∷ []
joined o v d worked_out left right =
    left
    ++ Store (temporary v d)
    ∷ right
    ++ Store (temporary v (suc d))
    ∷ Word Load (temporary v d)
    ∷ Word o (temporary v (suc d))
    ∷ []

-- "A variable or constant is plain: one LOAD. A unary minus or `\` is its operand, then NEG or NOT."
unfoldable pub code : ℕ → ℕ → Expression → List Order
code v d (word w) = Word Load w ∷ []
code v d (constant n) = Number Load n ∷ []
code v d (negated e) = code v d e ++ Neg ∷ []
code v d (inverted e) = code v d e ++ Not ∷ []
code v d (binary o l r) = joined (operation o) v d (operand r) (code v d l) (code v (suc d) r)

-- ---- instructions; `to` gives the address that GOTO s leads to

-- "Assignment ends in STR, SEND in SEND, a jump is one JMP"
abbrev pub simple_code : ℕ → (ℕ → ℕ) → Simple → List Order
simple_code v to (set w e) = code v 0 e ++ Store w ∷ []
simple_code v to (send e) = code v 0 e ++ Send ∷ []
simple_code v to (goto s) = Jump (to s) ∷ []

abbrev pub opposite : Relation → Relation
opposite Equal = Unequal
opposite Unequal = Equal
opposite Less = AtLeast
opposite AtMost = Greater
opposite Greater = AtMost
opposite AtLeast = Less

-- "A comparison is the same with CMP"
abbrev pub comparison_code : ℕ → Expression → Expression → List Order
comparison_code v l r = joined Cmp v 0 (operand r) (code v 0 l) (code v 1 r)

-- how many orders
abbrev pub simple_size : ℕ → Simple → ℕ
simple_size v u = length (simple_code v (λ s. 0) u)

-- ---- "T is the most that any statement uses"

-- temporaries d and d+1 and those of the right operand, whose first is d+1
abbrev pub joined_temporaries : Operand → ℕ → ℕ → ℕ
joined_temporaries (in_word w) left right = left
joined_temporaries (itself n) left right = left
joined_temporaries worked_out left right = max left (max 2 (1 + right))

unfoldable pub temporaries : Expression → ℕ
temporaries (word w) = 0
temporaries (constant n) = 0
temporaries (negated e) = temporaries e
temporaries (inverted e) = temporaries e
temporaries (binary o l r) = joined_temporaries (operand r) (temporaries l) (temporaries r)

abbrev pub simple_temporaries : Simple → ℕ
simple_temporaries (set w e) = temporaries e
simple_temporaries (send e) = temporaries e
simple_temporaries (goto s) = 0

abbrev pub comparison_temporaries : Expression → Expression → ℕ
comparison_temporaries l r = joined_temporaries (operand r) (temporaries l) (temporaries r)
