-- What finding, setting and moving labels comes to. `n` is the number of the instruction that comes next. Comments in quotes are
-- document 01's words.
use Rattle.std.specs.Prelude.{ℕ, ◌+◌, ◌≤◌, ◌<◌, Bool, false, ◌≡◌, List, ◌++◌, ltb, leb, eqb, length, Option, Some, None, Result, Ok, Err}
use Rattle.base.specs.Choice.{pick}
use Rattle.source.specs.Memory.{label_rows}
use Rattle.source.specs.Program.{Label, is_set, can_set, labels_set, moved, put_off, taken_up, number_of}
use Rattle.labels.specs.declared.Failure.{Failure}
use Rattle.labels.specs.declared.Failure.TheVariants.{Refused, Unfit}
use Rattle.labels.specs.Memory.{instruction_numbers, labels_of, SoFar}

-- the number of the instruction after a label, if the label is set
unfoldable pub found_of : ℕ → List Label → ℕ → Option ℕ
found_of n ls l = pick (is_set ls l) (Some (number_of n ls l)) None

-- ---- setting the labels of a statement

-- the labels that are set after those of a statement; document 01's number of the refusal; or that the table is not fit for them
pub data Labels : Type 0 where
  labels : List Label → Labels
  refusal : ℕ → Labels
  unfit : Labels

-- 9 "label 0 or over 9999, set twice, or never set"
abbrev pub set_in : ℕ → Result ℕ Failure → List ℕ → Labels
set_in n (Ok c) l = labels (labels_of n c l)
set_in n (Err Refused) l = refusal 9
set_in n (Err Unfit) l = unfit

-- the labels ls set behind ms
abbrev pub set_all : List Label → List ℕ → Labels
set_all ms ls = pick (can_set ms ls) (labels (ms ++ labels_set ls)) (refusal 9)

-- whether a table has its rows, they are enough for so many labels, and an instruction's number has its place in them
abbrev pub fit : ℕ → ℕ → ℕ → Bool
fit size many n = pick (eqb size label_rows) (pick (leb many label_rows) (ltb n instruction_numbers) false) false

-- what setting the labels ls does, behind the first labels of a table
unfoldable pub set_of : ℕ → ℕ → List ℕ → List ℕ → Labels
set_of n count l ls = pick (fit (length l) (count + length ls) n) (set_all (labels_of n count l) ls) unfit

abbrev pub SoFarIn : ℕ → Result ℕ Failure → List ℕ → Type 0
SoFarIn n (Ok c) l = SoFar n c l
SoFarIn n (Err e) l = Unit {0}

pub record SetsLabels (before : List ℕ) (count n : ℕ) (ls : List ℕ) (r : Result ℕ Failure) (after : List ℕ) : Type 0 where
  pub told : set_in n r after ≡ set_of n count before ls
  pub kept : length after ≡ length before
  pub so_far : SoFar n count before → SoFarIn n r after

-- ---- moving labels, round whose IF g groups are open

pub record Fits (n g count : ℕ) (l : List ℕ) : Type 0 where
  pub few_instructions : n < instruction_numbers
  pub few_groups : g < instruction_numbers
  pub rows : count ≤ length l

pub record PutsOff (n g : ℕ) (l after : List ℕ) : Type 0 where
  pub kept : length after ≡ length l
  pub told : (count : ℕ) → Fits n g count l → labels_of n count after ≡ moved (put_off g) (labels_of n count l)
  pub so_far : (count : ℕ) → Fits n g count l → SoFar n count l → SoFar n count after

pub record TakesUp (n g : ℕ) (l after : List ℕ) : Type 0 where
  pub kept : length after ≡ length l
  pub told : (count : ℕ) → Fits n g count l → labels_of n count after ≡ moved (taken_up g) (labels_of n count l)
  pub so_far : (count : ℕ) → Fits n g count l → SoFar n count l → SoFar n count after
