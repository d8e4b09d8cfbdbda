-- What the answers of the public functions stand for. Comments in quotes are document 01's words.
use Rattle.std.specs.Prelude.{ℕ, suc, ◌+◌, ◌<◌, ◌≤◌, ◌≡◌, List, [], ◌∷◌, length, drop, Option, Some, None, Result, Ok, Err}
use Rattle.source.specs.declared.Mode.{Mode}
use Rattle.source.specs.declared.Mode.TheVariants.{Plain}
use Rattle.source.specs.declared.Refusal.{Refusal}
use Rattle.source.specs.Limits.{most_cells}
use Rattle.source.specs.Refusals.{refusal_number}
use Rattle.source.specs.Cells.{Turn, goes_on, ends, over, turn, Statements, ended, cut, ◌then◌, statements_from}
use Rattle.source.specs.Source.{NotAllowed, offset, all_allowed}
use Rattle.source.specs.Memory.{held}
use Rattle.cells.specs.declared.Next.{Next}

-- ---- bytes that are not allowed

-- "its offset", if there is such a byte
abbrev pub offset_of : NotAllowed → Option ℕ
offset_of (offset i) = Some i
offset_of all_allowed = None

-- ---- the next statement

-- the statements of the source s, where the next one is the answer; there is none; or it is refused
abbrev pub unrolled : List ℕ → Result (Option Next) Refusal → Statements
unrolled s (Ok (Some n)) = held n.statement then statements_from Plain [] (drop n.behind s)
unrolled s (Ok None) = ended
unrolled s (Err k) = cut (refusal_number k)

-- where a statement is read no further behind a byte; i is the offset of the byte behind that one
abbrev pub stopped : Turn → ℕ → (Mode → List ℕ → ℕ) → ℕ
stopped (goes_on m cells) i further = further m cells
stopped (ends cells) i further = i
stopped over i further = i

-- the offset behind the end mark of the next statement, where the bytes that are left begin at offset i; the source's length
-- where no byte ends the statement: the newline that the end of the source counts as is no byte
unfoldable pub offset_behind : ℕ → Mode → List ℕ → List ℕ → ℕ
offset_behind i m cells [] = i
offset_behind i m cells (b ∷ bs) = stopped (turn m b cells) (suc i) (λ n more. offset_behind (suc i) n more bs)

-- a statement of the source s, read from an offset on: where the next one begins, which is further on and not behind the end;
-- it has at least a cell, no more cells than bytes were read, and an end mark fits behind its cells
pub record Within (s : List ℕ) (at after cells : ℕ) : Type 0 where
  pub behind : after ≡ offset_behind at Plain [] (drop at s)
  pub forward : at < after
  pub inside : after ≤ length s
  pub some : 0 < cells
  pub short : at + cells ≤ after
  pub few : cells < most_cells

abbrev pub Moved : List ℕ → ℕ → Result (Option Next) Refusal → Type 0
Moved s at (Ok (Some n)) = Within s at n.behind n.statement.length
Moved s at (Ok None) = Unit {0}
Moved s at (Err k) = Unit {0}
