-- Orders, document 01: what the records of an object hold. "Order" is document 01's word for an instruction of the box.
-- Comments in quotes are document 01's words.
use Rattle.std.specs.Prelude.{ℕ, List, [], ◌∷◌, ◌++◌, map}
use Prim.Native.String.{String}
use Rattle.word.specs.declared.Relation.{Relation}
use Rattle.word.specs.declared.Relation.TheVariants.{Equal, Unequal, Less, AtMost, Greater, AtLeast}
use Rattle.order.specs.declared.Operation.{Operation}
use Rattle.order.specs.declared.Operation.TheVariants.{Load, Add, Sub, Mlt, Div, Exp, Shl, Shr, And, Or, Xor, Cmp}
use Rattle.order.specs.declared.Order.{Order}
use Rattle.order.specs.declared.Order.TheVariants.{Word, Number, Store, Neg, Not, Jump, Skip, Branch, Cond, Send, Stop}

-- ---- the table of orders: names and kinds

-- "LOAD ADD SUB MLT DIV EXP SHL SHR AND OR XOR", "CMP"
abbrev pub operation_name : Operation → String
operation_name Load = "LOAD"
operation_name Add = "ADD"
operation_name Sub = "SUB"
operation_name Mlt = "MLT"
operation_name Div = "DIV"
operation_name Exp = "EXP"
operation_name Shl = "SHL"
operation_name Shr = "SHR"
operation_name And = "AND"
operation_name Or = "OR"
operation_name Xor = "XOR"
operation_name Cmp = "CMP"

-- "BE BNE BLT BLE BGT BGE"
abbrev pub branch_name : Relation → String
branch_name Equal = "BE"
branch_name Unequal = "BNE"
branch_name Less = "BLT"
branch_name AtMost = "BLE"
branch_name Greater = "BGT"
branch_name AtLeast = "BGE"

abbrev pub name : Order → String
name (Word f w) = operation_name f
name (Number f n) = operation_name f
name (Store w) = "STR"
name Neg = "NEG"
name Not = "NOT"
name (Jump a) = "JMP"
name (Skip a) = "SKIP"
name (Branch r a) = branch_name r
name (Cond n) = "COND"
name Send = "SEND"
name Stop = "STOP"

-- D a word, K a number, A an address, - nothing
abbrev pub kind : Order → String
kind (Word f w) = "D"
kind (Number f n) = "K"
kind (Store w) = "D"
kind Neg = "-"
kind Not = "-"
kind (Jump a) = "A"
kind (Skip a) = "A"
kind (Branch r a) = "A"
kind (Cond n) = "K"
kind Send = "-"
kind Stop = "-"

-- the number of the order's record. "Kind `-` has number 0." COND's "is the count of comparisons" (02, L5)
abbrev pub operand : Order → ℕ
operand (Word f w) = w
operand (Number f n) = n
operand (Store w) = w
operand Neg = 0
operand Not = 0
operand (Jump a) = a
operand (Skip a) = a
operand (Branch r a) = a
operand (Cond n) = n
operand Send = 0
operand Stop = 0

-- ---- the table's lines, kind by kind: the orders that a record with a number can be

-- "LOAD ADD SUB MLT DIV EXP SHL SHR AND OR XOR", "CMP": "D or K"
abbrev pub operations : List Operation
operations = Load ∷ Add ∷ Sub ∷ Mlt ∷ Div ∷ Exp ∷ Shl ∷ Shr ∷ And ∷ Or ∷ Xor ∷ Cmp ∷ []

-- "BE BNE BLT BLE BGT BGE"
abbrev pub branches : List Relation
branches = Equal ∷ Unequal ∷ Less ∷ AtMost ∷ Greater ∷ AtLeast ∷ []

-- STR is of kind D, JMP, SKIP and the branches of kind A, "a new order COND, kind K" (02, L5), NEG, NOT, SEND and STOP of kind -,
-- whose number is 0. Each line's name and kind stand once, so their order decides nothing
unfoldable pub table : List (ℕ → Order)
table =
    map (λ f n. Word f n) operations
    ++ map (λ f n. Number f n) operations
    ++ Store
    ∷ (λ n. Neg)
    ∷ (λ n. Not)
    ∷ Jump
    ∷ Skip
    ∷ map (λ r n. Branch r n) branches
    ++ Cond
    ∷ (λ n. Send)
    ∷ (λ n. Stop)
    ∷ []
