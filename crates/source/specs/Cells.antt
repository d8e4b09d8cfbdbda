-- From bytes to statements, document 01. "Each byte kept is a cell": cells are document 01's word. A letter outside quotes
-- is kept as a capital, a keyword letter as a small letter. Numbers of bytes: 10 newline, 32 space, 33 !, 37 %, 39 the
-- quote, 59 ;. Comments in quotes are document 01's words.
use Rattle.std.specs.Prelude.{ℕ, ◌+◌, ◌-◌, Bool, true, false, List, [], ◌∷◌, ◌++◌, ltb, leb, eqb, length, get_or, take}
use Rattle.base.specs.Choice.{pick}
use Rattle.source.specs.declared.Mode.{Mode}
use Rattle.source.specs.declared.Mode.TheVariants.{Plain, Keyword, Quoted, Comment}
use Rattle.source.specs.Limits.{most_cells}

-- ---- letters

abbrev pub is_capital : ℕ → Bool
is_capital b = pick (leb 65 b) (leb b 90) false

abbrev pub is_small : ℕ → Bool
is_small b = pick (leb 97 b) (leb b 122) false

-- "a to z become capitals"
abbrev pub capital : ℕ → ℕ
capital b = pick (is_small b) (b - 32) b

abbrev pub small : ℕ → ℕ
small b = pick (is_capital b) (b + 32) b

-- ---- one byte

-- what a byte makes of the cells of the statement that is being read
pub data Turn : Type 0 where
  goes_on : Mode → List ℕ → Turn
  ends : List ℕ → Turn
  -- "more than 256 cells"
  over : Turn

-- what comes of the cells where one more is not too many
abbrev pub room_for : List ℕ → Turn → Turn
room_for cells t = pick (ltb (length cells) most_cells) t over

abbrev pub kept : ℕ → Mode → List ℕ → Turn
kept c m cells = room_for cells (goes_on m (cells ++ c ∷ []))

-- "`;` or newline ends a statement; a statement of nothing is skipped"; the end mark is a cell
abbrev pub closes : List ℕ → Turn
closes cells = pick (eqb (length cells) 0) (goes_on Plain cells) (room_for cells (ends cells))

-- "when the last cell held is a keyword letter C"
abbrev pub ends_in_c : List ℕ → Bool
ends_in_c cells = eqb (get_or cells (length cells - 1) 0) 99

-- "A newline outside quotes .. is dropped with that C, and the statement goes on."
abbrev pub newline : List ℕ → Turn
newline cells = pick (ends_in_c cells) (room_for cells (goes_on Plain (take (length cells - 1) cells))) (closes cells)

-- "`!` where no cell of the statement is held yet starts a comment"
abbrev pub exclamation : List ℕ → Turn
exclamation cells = pick (eqb (length cells) 0) (goes_on Comment cells) (kept 33 Plain cells)

-- outside quotes and comments, where a letter is kept as the cell c and then read on in mode m. "`%` is not kept"; "Spaces
-- outside quotes vanish."
unfoldable pub outside : ℕ → Mode → ℕ → List ℕ → Turn
outside c m b cells =
    pick
    (pick (is_capital b) true (is_small b))
    (kept c m cells)
    (pick
    (eqb b 32)
    (goes_on Plain cells)
    (pick
    (eqb b 10)
    (newline cells)
    (pick
    (eqb b 37)
    (goes_on Keyword cells)
    (pick
    (eqb b 39)
    (kept b Quoted cells)
    (pick (eqb b 59) (closes cells) (pick (eqb b 33) (exclamation cells) (kept b Plain cells)))))))

-- a comment "swallows all through the next `;` or newline"
abbrev pub behind_comment : ℕ → Mode
behind_comment b = pick (eqb b 59) Plain (pick (eqb b 10) Plain Comment)

-- `%` "marks the letters after it as keyword letters up to the first non-letter"
unfoldable pub turn : Mode → ℕ → List ℕ → Turn
turn Plain b cells = outside (capital b) Plain b cells
turn Keyword b cells = outside (small b) Keyword b cells
turn Quoted b cells = kept b (pick (eqb b 39) Plain Quoted) cells
turn Comment b cells = goes_on (behind_comment b) cells

-- ---- all bytes

-- the cells of each statement, in order; or, behind those before it, the refusal of a statement with 3 or 4
infixr 20 ◌then◌
pub data Statements : Type 0 where
  ended : Statements
  cut : ℕ → Statements
  ◌then◌ : List ℕ → Statements → Statements

-- "The end of the source counts as one newline."
abbrev pub at_last : Turn → Statements
at_last (goes_on m cells) = ended
at_last (ends cells) = cells then ended
at_last over = cut 4

-- "source ends in quotes, or the newline its end counts as is dropped with a C"; "3 if the source's end meets both"
unfoldable pub source_end : Mode → List ℕ → Statements
source_end Plain cells = pick (ends_in_c cells) (cut 3) (at_last (newline cells))
source_end Keyword cells = pick (ends_in_c cells) (cut 3) (at_last (newline cells))
source_end Quoted cells = cut 3
source_end Comment cells = ended

-- what follows a byte, where `rest` reads the bytes behind it
unfoldable pub on_turn : Turn → (Mode → List ℕ → Statements) → Statements
on_turn (goes_on m cells) rest = rest m cells
on_turn (ends cells) rest = cells then rest Plain []
on_turn over rest = cut 4

unfoldable pub statements_from : Mode → List ℕ → List ℕ → Statements
statements_from m cells [] = source_end m cells
statements_from m cells (b ∷ bs) = on_turn (turn m b cells) (λ n held. statements_from n held bs)

-- the statements of a source
abbrev pub statements : List ℕ → Statements
statements source = statements_from Plain [] source
