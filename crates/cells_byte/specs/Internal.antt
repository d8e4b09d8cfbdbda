-- What the functions compute. `held` is the number of cells held, and `last` the last of them, or 0.
use Rattle.std.specs.Prelude.{ℕ, Bool, true, ltb, eqb, Result, Ok, Err}
use Rattle.base.specs.Choice.{pick}
use Rattle.source.specs.declared.Mode.{Mode}
use Rattle.source.specs.declared.Mode.TheVariants.{Plain, Keyword, Quoted, Comment}
use Rattle.source.specs.declared.Refusal.{Refusal}
use Rattle.source.specs.declared.Refusal.TheVariants.{Quotes, Cells}
use Rattle.source.specs.Limits.{most_cells}
use Rattle.source.specs.Cells.{is_capital, is_small, capital, small, behind_comment}
use Rattle.cells_byte.specs.declared.Change.{Change}
use Rattle.cells_byte.specs.declared.Change.TheVariants.{Keep, Skip, Shorten, End}
use Rattle.cells_byte.specs.declared.Ended.{Ended}
use Rattle.cells_byte.specs.declared.Ended.TheVariants.{Whole, Nothing}

-- ---- one byte

abbrev pub is_letter : ℕ → Bool
is_letter b = pick (is_capital b) true (is_small b)

abbrev pub kept_of : ℕ → Mode → ℕ → Result Change Refusal
kept_of c m held = pick (ltb held most_cells) (Ok (Keep c m)) (Err Cells)

abbrev pub closes_of : ℕ → Change
closes_of last = pick (eqb last 99) Shorten End

abbrev pub newline_of : ℕ → ℕ → Result Change Refusal
newline_of held last = pick (eqb held 0) (Ok (Skip Plain)) (pick (ltb held most_cells) (Ok (closes_of last)) (Err Cells))

abbrev pub exclamation_of : ℕ → Result Change Refusal
exclamation_of held = pick (eqb held 0) (Ok (Skip Comment)) (kept_of 33 Plain held)

unfoldable pub outside_of : ℕ → Mode → ℕ → ℕ → ℕ → Result Change Refusal
outside_of c m b held last =
    pick
    (is_letter b)
    (kept_of c m held)
    (pick
    (eqb b 32)
    (Ok (Skip Plain))
    (pick
    (eqb b 10)
    (newline_of held last)
    (pick
    (eqb b 37)
    (Ok (Skip Keyword))
    (pick
    (eqb b 39)
    (kept_of b Quoted held)
    (pick (eqb b 59) (newline_of held 0) (pick (eqb b 33) (exclamation_of held) (kept_of b Plain held)))))))

abbrev pub quoted_of : ℕ → ℕ → Result Change Refusal
quoted_of b held = pick (eqb b 39) (kept_of b Plain held) (kept_of b Quoted held)

unfoldable pub change_of : Mode → ℕ → ℕ → ℕ → Result Change Refusal
change_of Plain b held last = outside_of (capital b) Plain b held last
change_of Keyword b held last = outside_of (small b) Keyword b held last
change_of Quoted b held last = quoted_of b held
change_of Comment b held last = Ok (Skip (behind_comment b))

-- ---- the end of the source

abbrev pub over_at_end : ℕ → Refusal
over_at_end last = pick (eqb last 99) Quotes Cells

abbrev pub ended_by : ℕ → Result Change Refusal → Result Ended Refusal
ended_by last (Ok (Keep c m)) = Ok Nothing
ended_by last (Ok (Skip m)) = Ok Nothing
ended_by last (Ok Shorten) = Err Quotes
ended_by last (Ok End) = Ok Whole
ended_by last (Err k) = Err (over_at_end last)

abbrev pub ending_outside : ℕ → ℕ → Result Ended Refusal
ending_outside held last = ended_by last (newline_of held last)

unfoldable pub ending_of : Mode → ℕ → ℕ → Result Ended Refusal
ending_of Plain held last = ending_outside held last
ending_of Keyword held last = ending_outside held last
ending_of Quoted held last = Err Quotes
ending_of Comment held last = Ok Nothing
