-- The sheet of a source, or the number and place of its refusal, document 01 ("What the box replies"). Comments in quotes
-- are document 01's words.
use Rattle.std.specs.Prelude.{ℕ, suc, Bool, true, false, List, [], ◌∷◌, ltb, leb, eqb, length}
use Rattle.base.specs.Choice.{pick}
use Rattle.sheet.specs.Sheet.{Sheet}
use Rattle.source.specs.Limits.{most_bytes}
use Rattle.source.specs.Cells.{Statements, ended, cut, ◌then◌, statements}
use Rattle.source.specs.Program.{Program, nothing_read, Outcome, refused, further, given, statement}

pub data Answer : Type 0 where
  accepted : Sheet → Answer
  refusal : ℕ → ℕ → Answer

-- ---- "Then statements in order, skipped ones not counted, from 1": behind k of them

unfoldable pub on_outcome : Outcome → (Program → Answer) → Answer
on_outcome (refused n k) rest = refusal n k
on_outcome (further p) rest = rest p
on_outcome (given s) rest = accepted s

unfoldable pub program : Program → ℕ → Statements → Answer
program p k ended = refusal 10 k
program p k (cut n) = refusal n (suc k)
program p k (cells then more) = on_outcome (statement p (suc k) cells) (λ q. program q (suc k) more)

-- ---- "1 comes first, then 2."

-- "allowed bytes are 10 and 32 to 126"
abbrev pub is_allowed : ℕ → Bool
is_allowed b = pick (eqb b 10) true (pick (leb 32 b) (leb b 126) false)

-- the offset of the first byte that is not allowed, where the first byte has offset i
pub data NotAllowed : Type 0 where
  offset : ℕ → NotAllowed
  all_allowed : NotAllowed

unfoldable pub not_allowed : ℕ → List ℕ → NotAllowed
not_allowed i [] = all_allowed
not_allowed i (b ∷ bs) = pick (is_allowed b) (not_allowed (suc i) bs) (offset i)

abbrev pub on_allowed : NotAllowed → List ℕ → Answer
on_allowed (offset i) source = refusal 2 i
on_allowed all_allowed source = program nothing_read 0 (statements source)

abbrev pub answer : List ℕ → Answer
answer source = pick (ltb most_bytes (length source)) (refusal 1 0) (on_allowed (not_allowed 0 source) source)
