-- What the answers of the public function stand for.
use Rattle.std.specs.Prelude.{ℕ, Bool, false, List, ltb, leb, length, Result, Ok, Err}
use Rattle.base.specs.Choice.{pick}
use Rattle.source.specs.declared.Statement.{Statement}
use Rattle.source.specs.Limits.{most_cells}
use Rattle.source.specs.Memory.{held, lexemes_from}
use Rattle.source.specs.Refusals.{refusal_number}
use Rattle.source.specs.Tokens.{Lexed, lexed, refused, lexemes}
use Rattle.tokens.specs.declared.Failure.{Failure}
use Rattle.tokens.specs.declared.Failure.TheVariants.{Refused, Unfit}

-- what becomes of a statement's cells, or that the statement or the arrays are not fit for it
pub data Told : Type 0 where
  told : Lexed → Told
  unfit : Told

-- the tokens that two arrays hold of these cells, or the refusal with 5 or 6
abbrev pub lexed_in : List ℕ → Result ℕ Failure → List ℕ → List ℕ → Told
lexed_in cells (Ok n) ks vs = told (lexed (lexemes_from 0 n cells ks vs))
lexed_in cells (Err (Refused k)) ks vs = told (refused (refusal_number k))
lexed_in cells (Err Unfit) ks vs = unfit

-- whether n cells and two arrays with so many places are fit. A name of most_cells letters has no number in memory, so the statement
-- has room for an end mark.
abbrev pub fit : ℕ → ℕ → ℕ → Bool
fit n room other = pick (ltb n most_cells) (pick (leb most_cells room) (leb most_cells other) false) false

-- what becomes of a statement, where two arrays are lent for its tokens
unfoldable pub lexed_of : Statement → List ℕ → List ℕ → Told
lexed_of s ks vs = pick (fit s.length (length ks) (length vs)) (told (lexemes (held s))) unfit
