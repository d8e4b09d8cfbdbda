-- What the private functions compute.
use Rattle.std.specs.Prelude.{ℕ, ◌+◌, ◌-◌, ◌<◌, ◌≤◌, ◌≡◌, List, [], eqb, get_or, take, drop, Option, Some, None, Result, Ok, Err}
use Rattle.base.specs.Choice.{pick}
use Rattle.source.specs.declared.Mode.{Mode}
use Rattle.source.specs.declared.Mode.TheVariants.{Plain}
use Rattle.source.specs.declared.Refusal.{Refusal}
use Rattle.source.specs.declared.Refusal.TheVariants.{Cells}
use Rattle.source.specs.Limits.{most_cells}
use Rattle.source.specs.Refusals.{refusal_number}
use Rattle.source.specs.Cells.{Turn, goes_on, ends, over, Statements, ended, cut, ◌then◌, statements_from}
use Rattle.cells.specs.declared.Gathering.{Gathering}
use Rattle.cells.specs.Answers.{Within}

-- ---- the cells that an array holds

unfoldable pub last_held : ℕ → List ℕ → ℕ
last_held held cells = pick (eqb held 0) 0 (get_or cells (held - 1) 0)

-- what a byte leaves, where `held` cells were held before it
abbrev pub reached : List ℕ → ℕ → Result (Option (Mode × ℕ)) Refusal → Turn
reached cells held (Ok (Some p)) = goes_on p.0 (take p.1 cells)
reached cells held (Ok None) = ends (take held cells)
reached cells held (Err k) = over

-- the numbers of cells that a byte may leave, and why it is refused
abbrev pub Bounded : ℕ → Result (Option (Mode × ℕ)) Refusal → Type 0
Bounded held (Ok (Some p)) = (p.1 ≤ most_cells) × (p.1 ≤ held + 1)
Bounded held (Ok None) = (0 < held) × (held < most_cells)
Bounded held (Err k) = k ≡ Cells

pub record Stepped (cells : List ℕ) (held : ℕ) (r : Result (Option (Mode × ℕ)) Refusal) (t : Turn) : Type 0 where
  pub same : reached cells held r ≡ t
  pub bounded : Bounded held r

-- ---- all bytes

-- the statements of the source s, where the next one's cells are in an array; there is none; or it is refused
abbrev pub following : List ℕ → List ℕ → Result (Option Gathering) Refusal → Statements
following s cells (Ok (Some g)) = take g.length cells then statements_from Plain [] (drop g.behind s)
following s cells (Ok None) = ended
following s cells (Err k) = cut (refusal_number k)

abbrev pub MovedTo : List ℕ → ℕ → Result (Option Gathering) Refusal → Type 0
MovedTo s at (Ok (Some g)) = Within s at g.behind g.length
MovedTo s at (Ok None) = Unit {0}
MovedTo s at (Err k) = Unit {0}

-- a statement of so many cells, and the offset behind it
abbrev pub up_to : ℕ → ℕ → Result (Option Gathering) Refusal
up_to n q = Ok (Some (record { length = n; behind = q }))

-- the cells that an array holds from the place `at` of a source on, and what they are
pub record Gathered (s : List ℕ) (at : ℕ) (cells : List ℕ) (r : Result (Option Gathering) Refusal) : Type 0 where
  pub same : following s cells r ≡ statements_from Plain [] (drop at s)
  pub moved : MovedTo s at r
