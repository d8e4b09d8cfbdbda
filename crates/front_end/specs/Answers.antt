-- What each case of the answer stands for.
use Rattle.std.specs.Prelude.{ℕ, List, eqb, length, Result, Ok, Err}
use Rattle.base.specs.Choice.{pick}
use Rattle.sheet.specs.declared.Field.{Field}
use Rattle.sheet.specs.Sheet.{count, variables, instructions}
use Rattle.sheet.specs.Memory.{sheet_fields}
use Rattle.sheet_field.specs.Memory.{fields_from, most_fields}
use Rattle.source.specs.Source.{Answer, accepted, refusal, answer}
use Rattle.source.specs.Refusals.{refusal_number}
use Rattle.front_end_forms.specs.declared.Failure.{Failure}
use Rattle.front_end_forms.specs.declared.Failure.TheVariants.{Refused, Unfit}
use Rattle.front_end.specs.declared.Sheet.{Sheet}

-- V, the number of instructions and the fields of a sheet; document 01's number and place of a refusal; or that the array has not
-- the places that it should have
pub data Told : Type 0 where
  fields_of_sheet : ℕ → ℕ → List Field → Told
  refused_at : ℕ → ℕ → Told
  unfit : Told

-- the fields stand at the front of the array
abbrev pub told : Result Sheet Failure → List ℕ → Told
told (Ok s) fs = fields_of_sheet s.variables s.instructions (fields_from 0 s.fields fs)
told (Err (Refused e k)) fs = refused_at (refusal_number e) k
told (Err Unfit) fs = unfit

abbrev pub answered : Answer → Told
answered (accepted s) = fields_of_sheet (variables s) (count (instructions s)) (sheet_fields s)
answered (refusal n k) = refused_at n k

-- the answer for a source, where an array is lent for its fields
unfoldable pub answered_in : List ℕ → List ℕ → Told
answered_in source fs = pick (eqb (length fs) most_fields) (answered (answer source)) unfit
