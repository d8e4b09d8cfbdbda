-- What the private function needs, and what holds between statements.
use Rattle.std.specs.Prelude.{ℕ, ◌≤◌, ◌≡◌, List, [], length, drop}
use Rattle.sheet.specs.Within.{most_levels}
use Rattle.sheet_field.specs.Memory.{most_fields}
use Rattle.source.specs.declared.Mode.TheVariants.{Plain}
use Rattle.source.specs.Limits.{most_bytes}
use Rattle.source.specs.Cells.{statements_from, statements}
use Rattle.source.specs.Memory.{name_rows, label_rows, letters_in}
use Rattle.source.specs.Program.{Program, nothing_read}
use Rattle.source.specs.Source.{program}
use Rattle.front_end_forms.specs.declared.Progress.{Progress}
use Rattle.front_end_forms.specs.Memory.{NameTable, Holds}

-- the source is within its limit, and the arrays have their lengths
pub record Rooms (source : List ℕ) (names : NameTable) (labels groups fields : List ℕ) : Type 0 where
  pub few_bytes : length source ≤ most_bytes
  pub room_for_letters : length names.letters ≡ most_bytes
  pub room_for_rows : length names.index ≡ name_rows
  pub room_for_labels : length labels ≡ label_rows
  pub room_for_groups : length groups ≡ most_levels
  pub room_for_fields : length fields ≡ most_fields

-- how far the statements of a source were read
pub record Going (source : List ℕ) (at k : ℕ) (p : Progress) (names : NameTable) (labels groups fields : List ℕ) : Type 0 where
  pub so_far : Program
  pub holds : Holds so_far p names labels groups fields
  pub same : program so_far k (statements_from Plain [] (drop at source)) ≡ program nothing_read 0 (statements source)
  pub inside : at ≤ length source
  pub fewer : k ≤ at
  -- names have no more letters than bytes were read
  pub few_letters : letters_in so_far.names ≤ at
