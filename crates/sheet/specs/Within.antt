-- Which sheets there are, document 01: "A sheet is any such list with V up to .. whose translation has T up to .. and N up to ..",
-- the limits of an object, and 02, L1: "nested up to 16 deep", and no part is empty.
use Rattle.std.specs.Prelude.{ℕ, suc, ◌≤◌, max, length}
use Rattle.order.specs.Limits.{most_variables, most_temporaries, most_orders}
use Rattle.sheet.specs.Sheet.{Part, end, plain, when, either, count, Sheet, variables, instructions}
use Rattle.sheet.specs.Formed.{SimpleFormed}
use Rattle.sheet.specs.Condition.{ConditionFormed}
use Rattle.sheet.specs.Translation.{translation, sheet_temporaries}

-- words, constants and jumps, where all the sheet has n instructions; "a group with no instruction" is none
unfoldable pub PartFormed : ℕ → ℕ → Part → Type 0
PartFormed v n end = Unit {0}
PartFormed v n (plain u l) = SimpleFormed v n u × PartFormed v n l
PartFormed v n (when c x l) = ConditionFormed v c × (1 ≤ count x) × PartFormed v n x × PartFormed v n l
PartFormed v n (either c x y l) =
    ConditionFormed v c × (1 ≤ count x) × (1 ≤ count y) × PartFormed v n x × PartFormed v n y × PartFormed v n l

abbrev pub Formed : Sheet → Type 0
Formed s = PartFormed (variables s) (count (instructions s)) (instructions s)

-- "nested up to 16 deep .. A lone u counts as a level"
abbrev pub most_levels : ℕ
most_levels = 16

-- how deep IFs are nested
unfoldable pub depth : Part → ℕ
depth end = 0
depth (plain u l) = depth l
depth (when c x l) = max (suc (depth x)) (depth l)
depth (either c x y l) = max (suc (max (depth x) (depth y))) (depth l)

-- a sheet within the limits
pub record Within (s : Sheet) : Type 0 where
  pub formed : Formed s
  pub few_levels : depth (instructions s) ≤ most_levels
  pub few_variables : variables s ≤ most_variables
  pub few_temporaries : sheet_temporaries s ≤ most_temporaries
  pub few_orders : length (translation s) ≤ most_orders
