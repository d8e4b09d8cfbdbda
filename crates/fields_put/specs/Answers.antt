-- What putting fields behind others and leading their jumps to instructions does. Comments in quotes are document 01's words.
use Rattle.std.specs.Prelude.{ℕ, ◌+◌, List, [], ◌∷◌, ◌++◌, map, leb, length, Result, Ok, Err}
use Rattle.base.specs.Choice.{pick}
use Rattle.sheet.specs.declared.Field.{Field}
use Rattle.sheet_field.specs.Memory.{fields_from}
use Rattle.source.specs.Program.{Label, number_of, Unset as UnsetJump, unset, all_set, first_unset}
use Rattle.fields_put.specs.declared.Unfit.{Unfit}
use Rattle.fields_put.specs.declared.Failure.{Failure}
use Rattle.fields_put.specs.declared.Failure.TheVariants.{Unset, Unfit as NotLed}
use Rattle.fields.specs.Memory.{field_jumps, packed_field, label_of, jumping, jump_in}

-- ---- putting fields behind others

-- the fields that there are then, or that the array has no room for them
pub data Fields : Type 0 where
  fields : List Field → Fields
  no_room : Fields

abbrev pub put_in : Result ℕ Unfit → List ℕ → Fields
put_in (Ok n) ws = fields (fields_from 0 n ws)
put_in (Err e) ws = no_room

-- what putting the fields fs of statement k behind the first `at` of an array does
unfoldable pub put_of : ℕ → List Field → ℕ → List ℕ → Fields
put_of k fs at ws =
    pick (leb (at + length fs) (length ws)) (fields (fields_from 0 at ws ++ map (packed_field k) fs)) no_room

-- and one field
unfoldable pub push_of : Field → ℕ → List ℕ → Fields
push_of f at ws = pick (leb (length ws) at) no_room (fields (fields_from 0 at ws ++ (f ∷ [])))

-- ---- leading jumps to instructions

-- the fields with their jumps led to instructions; or document 01's number and place of the refusal
pub data LedFields : Type 0 where
  led : List Field → LedFields
  refusal : ℕ → ℕ → LedFields

-- 9 "label .. never set"; the place is that of the "first such jump"
abbrev pub led_by : (ℕ → ℕ) → List Field → UnsetJump → LedFields
led_by to fs (unset k) = refusal 9 k
led_by to fs all_set = led (map (jumping (λ p. to (label_of p))) fs)

-- n is the number of the instruction that would come next
abbrev pub led_all : ℕ → List Label → List Field → LedFields
led_all n ls fs = led_by (number_of n ls) fs (first_unset ls (map jump_in (field_jumps fs)))

-- what becomes of fields, or that the array is not fit for it
pub data Told : Type 0 where
  told : LedFields → Told
  unfit : Told

abbrev pub led_in : Result (Unit {0}) Failure → ℕ → List ℕ → Told
led_in (Ok u) n ws = told (led (fields_from 0 n ws))
led_in (Err (Unset k)) n ws = told (refusal 9 k)
led_in (Err NotLed) n ws = unfit

-- what leading the jumps of the first m fields of an array does, where it has a place for each
unfoldable pub led_of : ℕ → List Label → ℕ → List ℕ → Told
led_of n ls m ws = pick (leb m (length ws)) (told (led_all n ls (fields_from 0 m ws))) unfit
