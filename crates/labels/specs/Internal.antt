-- What the private functions do.
use Rattle.std.specs.Prelude.{ℕ, ◌+◌, ◌*◌, ◌/◌, ◌%◌, ◌≤◌, ◌<◌, List, ◌∷◌, ◌≡◌, eqb, length, get_or, Result, Ok, Err}
use Rattle.base.specs.Choice.{pick}
use Rattle.source.specs.Memory.{label_rows}
use Rattle.labels.specs.declared.Failure.{Failure}
use Rattle.labels.specs.declared.Failure.TheVariants.{Refused, Unfit}
use Rattle.labels.specs.Memory.{spot_numbers, instruction_numbers, labels_of, SoFar}
use Rattle.labels.specs.Answers.{set_in, set_all, refusal, SoFarIn}

-- there is room for so many labels
pub record Room (l : List ℕ) (many n : ℕ) : Type 0 where
  pub whole : length l ≡ label_rows
  pub rows : many ≤ label_rows
  pub few : n < instruction_numbers

-- one label more: what comes of others behind it
pub record OneMore (l : List ℕ) (count n label c : ℕ) (after : List ℕ) : Type 0 where
  pub counted : c ≡ count + 1
  pub others : (ls : List ℕ) → set_all (labels_of n c after) ls ≡ set_all (labels_of n count l) (label ∷ ls)
  pub so_far : SoFar n count l → SoFar n c after

abbrev pub OneIn : List ℕ → ℕ → ℕ → ℕ → Result ℕ Failure → List ℕ → Type 0
OneIn l count n label (Ok c) after = OneMore l count n label c after
OneIn l count n label (Err Refused) after = (ls : List ℕ) → refusal 9 ≡ set_all (labels_of n count l) (label ∷ ls)
OneIn l count n label (Err Unfit) after = ⊥

-- a row of the table was left
abbrev pub InRows : ℕ → Result ℕ Failure → Type 0
InRows count (Ok c) = (c ≡ count + 1) × (c ≤ label_rows)
InRows count (Err e) = Unit {0}

pub record SetsOne (l : List ℕ) (count n label : ℕ) (r : Result ℕ Failure) (after : List ℕ) : Type 0 where
  pub kept : length after ≡ length l
  pub in_rows : InRows count r
  pub told : Room l (count + 1) n → OneIn l count n label r after

pub record SettingAll (l : List ℕ) (count n : ℕ) (ls : List ℕ) (r : Result ℕ Failure) (after : List ℕ) : Type 0 where
  pub told : set_in n r after ≡ set_all (labels_of n count l) ls
  pub so_far : SoFar n count l → SoFarIn n r after

pub record SetsAll (l : List ℕ) (count n : ℕ) (ls : List ℕ) (r : Result ℕ Failure) (after : List ℕ) : Type 0 where
  pub kept : length after ≡ length l
  pub told : Room l (count + length ls) n → SettingAll l count n ls r after

-- the labels ls are set so far, of all
pub record Loop (l : List ℕ) (count n : ℕ) (all ls : List ℕ) (set i : ℕ) (after : List ℕ) : Type 0 where
  pub counted : set ≡ count + i
  pub others : set_all (labels_of n set after) ls ≡ set_all (labels_of n count l) all
  pub so_far : SoFar n count l → SoFar n set after

abbrev pub moved_entry : ℕ → ℕ → ℕ → ℕ
moved_entry from to e = pick (eqb (e % spot_numbers) from) (e / spot_numbers * spot_numbers + to % spot_numbers) e

-- the rows before place i are moved
pub record Moving (from to : ℕ) (l : List ℕ) (i : ℕ) (after : List ℕ) : Type 0 where
  pub kept : length after ≡ length l
  pub done : (j : ℕ) → j < i → get_or after j 0 ≡ moved_entry from to (get_or l j 0)
  pub others : (j : ℕ) → i ≤ j → get_or after j 0 ≡ get_or l j 0

pub record Moves (from to : ℕ) (l after : List ℕ) : Type 0 where
  pub kept : length after ≡ length l
  pub done : (j : ℕ) → j < length l → get_or after j 0 ≡ moved_entry from to (get_or l j 0)
