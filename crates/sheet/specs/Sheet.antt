-- Sheets, document 01 ("Sheet text"): a program without the spelling of its source. "Sheet" is document 01's word for it.
-- Comments in quotes are the words of document 01 and of 02, L1 and L5.
use Rattle.std.specs.Prelude.{ℕ, suc, ◌+◌}
use Rattle.word.specs.declared.Relation.{Relation}
use Rattle.sheet.specs.declared.Operator.{Operator}
use Rattle.sheet.specs.declared.Joining.{Joining}

-- "`Wn`, `Kn`, `NEG`, `NOT`, or the source's operator"
pub data Expression : Type 0 where
  word : ℕ → Expression
  constant : ℕ → Expression
  negated : Expression → Expression
  inverted : Expression → Expression
  binary : Operator → Expression → Expression → Expression

-- "`SET` word expr, `SEND` expr, `GOTO` s": the instructions that are no IF, document 01's u
pub data Simple : Type 0 where
  set : ℕ → Expression → Simple
  send : Expression → Simple
  goto : ℕ → Simple

-- what an IF asks: a comparison; or a run of members joined by one word, as its first member and the rest, which is the second
-- member where there are two, and else the run of the others
pub data Condition : Type 0 where
  compares : Relation → Expression → Expression → Condition
  joins : Joining → Condition → Condition → Condition

-- a list of instructions: the whole program, or a part of an IF. It is at its end; or it has one of these instructions and what
-- follows; or an IF with its part, or with both its parts, and what follows
pub data Part : Type 0 where
  end : Part
  plain : Simple → Part → Part
  when : Condition → Part → Part → Part
  either : Condition → Part → Part → Part → Part

-- "V and its instructions in order"
pub data Sheet : Type 0 where
  sheet : ℕ → Part → Sheet

abbrev pub variables : Sheet → ℕ
variables (sheet v x) = v

abbrev pub instructions : Sheet → Part
instructions (sheet v x) = x

-- "Sheet numbers count every instruction, nested ones and the IF itself included"
unfoldable pub count : Part → ℕ
count end = 0
count (plain u l) = suc (count l)
count (when c x l) = suc (count x + count l)
count (either c x y l) = suc (count x + count y + count l)

-- "A variable or constant is plain": what an operand is to the order that takes it
pub data Operand : Type 0 where
  in_word : ℕ → Operand
  itself : ℕ → Operand
  worked_out : Operand

abbrev pub operand : Expression → Operand
operand (word w) = in_word w
operand (constant n) = itself n
operand (negated e) = worked_out
operand (inverted e) = worked_out
operand (binary o l r) = worked_out

-- with GOTO `to` s in the place of each GOTO s
abbrev pub retarget : (ℕ → ℕ) → Simple → Simple
retarget to (set w e) = set w e
retarget to (send e) = send e
retarget to (goto s) = goto (to s)

unfoldable pub retarget_part : (ℕ → ℕ) → Part → Part
retarget_part to end = end
retarget_part to (plain u l) = plain (retarget to u) (retarget_part to l)
retarget_part to (when c x l) = when c (retarget_part to x) (retarget_part to l)
retarget_part to (either c x y l) = either c (retarget_part to x) (retarget_part to y) (retarget_part to l)
