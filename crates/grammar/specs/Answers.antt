-- What `form_of` says of a statement: its form, in the terms of source/specs/Grammar.antt, with the instruction as the fields
-- that stand for it. Comments in quotes are document 01's words.
use Rattle.std.specs.Prelude.{ℕ, zero, suc, ◌*◌, ◌≤◌, Bool, false, Result, Ok, Err, List, [], ◌∷◌, leb, length}
use Rattle.base.specs.Choice.{pick}
use Rattle.sheet.specs.declared.Field.{Field}
use Rattle.sheet_field.specs.Memory.{fields_from}
use Rattle.source.specs.declared.Token.{Token}
use Rattle.source.specs.Limits.{most_cells}
use Rattle.source.specs.Grammar.{Instruction, simple, if_then, if_else, if_start, behind_first, form}
use Rattle.source.specs.Grammar.{beginning, declaration, ending, labels as labels_form, instruction as instruction_form, finish, finish_else, no_form, Form as StatementForm}
use Rattle.source.specs.Fields.{instruction_fields}
use Rattle.source.specs.Memory.{token_carried}
use Rattle.grammar.specs.declared.Form.{Form}
use Rattle.grammar.specs.declared.Form.TheVariants.{Begin, Declaration, End, Labels, Instruction as InstructionAt, Opening, Finish, FinishElse}
use Rattle.grammar.specs.declared.Failure.{Failure}
use Rattle.grammar.specs.declared.Failure.TheVariants.{NoForm, Unfit}

pub data Told : Type 0 where
  begins : Told
  declares : Told
  ends : Told
  labels : List ℕ → Told
  instruction : List ℕ → List Field → Told
  -- `%IF c %THEN %START`
  opening : List ℕ → List Field → Told
  finishes : Told
  -- `%FINISH %ELSE %START`
  goes_on : Told
  -- document 01's number of the refusal
  refusal : ℕ → Told
  -- the tokens are more than a statement can have, or than the array has places
  unfit : Told

abbrev pub instruction_told : List ℕ → Instruction → Told
instruction_told ls (simple u) = instruction ls (instruction_fields (simple u))
instruction_told ls (if_then c u) = instruction ls (instruction_fields (if_then c u))
instruction_told ls (if_else c u w) = instruction ls (instruction_fields (if_else c u w))
instruction_told ls (if_start c) = opening ls (instruction_fields (if_start c))

-- the form of a statement, its instruction as fields; 7 "no such form, or out of order"
abbrev pub fields_of : StatementForm → Told
fields_of beginning = begins
fields_of declaration = declares
fields_of ending = ends
fields_of (labels_form ls) = labels ls
fields_of (instruction_form ls i) = instruction_told ls i
fields_of finish = finishes
fields_of finish_else = goes_on
fields_of no_form = refusal 7

-- the numbers of c labels: a colon stands behind each
unfoldable pub labels_in : ℕ → List Token → List ℕ
labels_in zero ts = []
labels_in (suc c) [] = []
labels_in (suc c) (t ∷ ts) = token_carried t ∷ labels_in c (behind_first ts)

-- a form of the tokens ts, with the array that holds the fields
abbrev pub told_form : List Token → Form → List ℕ → Told
told_form ts Begin fs = begins
told_form ts Declaration fs = declares
told_form ts End fs = ends
told_form ts (Labels c) fs = labels (labels_in c ts)
told_form ts (InstructionAt c m) fs = instruction (labels_in c ts) (fields_from 0 m fs)
told_form ts (Opening c m) fs = opening (labels_in c ts) (fields_from 0 m fs)
told_form ts Finish fs = finishes
told_form ts FinishElse fs = goes_on

-- an answer about them
abbrev pub told : List Token → Result Form Failure → List ℕ → Told
told ts (Ok f) fs = told_form ts f fs
told ts (Err NoForm) fs = refusal 7
told ts (Err Unfit) fs = unfit

-- whether n tokens are no more than a statement can have, and than an array has places
abbrev pub fit : ℕ → ℕ → Bool
fit n room = pick (leb n most_cells) (leb n room) false

-- the form of n tokens, where an array is lent for the fields
unfoldable pub told_of : ℕ → List ℕ → List Token → Told
told_of n fs ts = pick (fit n (length fs)) (fields_of (form ts)) unfit

-- the labels and the fields of n tokens are no more than these
abbrev pub Few : ℕ → Form → Type 0
Few n Begin = Unit {0}
Few n Declaration = Unit {0}
Few n End = Unit {0}
Few n (Labels c) = 2 * c ≤ n
Few n (InstructionAt c m) = (2 * c ≤ n) × (m ≤ n)
Few n (Opening c m) = (2 * c ≤ n) × (m ≤ n)
Few n Finish = Unit {0}
Few n FinishElse = Unit {0}
