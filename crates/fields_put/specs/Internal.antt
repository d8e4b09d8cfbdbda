-- What the private functions compute.
use Rattle.std.specs.Prelude.{ℕ, ◌-◌, ◌≤◌, ◌<◌, List, ◌∷◌, map, ◌≡◌, length, get_or, set, Result, Ok, Err}
use Rattle.sheet.specs.declared.Field.{Field}
use Rattle.sheet_field.specs.Memory.{carried, field_word, field_in, fields_from}
use Rattle.source.specs.Program.{Jump as SourceJump, Label, number_of, unset, first_unset}
use Rattle.fields_put.specs.declared.Failure.{Failure}
use Rattle.fields_put.specs.declared.Failure.TheVariants.{Unset, Unfit}
use Rattle.fields.specs.Memory.{field_jumps, label_of, jumping, jump_in}

-- a field is stored, and can be read back
pub record Puts (at : ℕ) (f : Field) (ws after : List ℕ) : Type 0 where
  pub stored : after ≡ set ws at (field_word f)
  pub fits : carried f < 4294967296

-- where the jumps of fields lead in the source
abbrev pub jumps_of : List Field → List SourceJump
jumps_of fs = map jump_in (field_jumps fs)

-- what leading the field at a place does, and what it tells of the first jump to a label never set
abbrev pub WayOf : ℕ → List Label → Field → Result (Unit {0}) Failure → Field → Type 0
WayOf n ls f (Ok u) g =
    (g ≡ jumping (λ p. number_of n ls (label_of p)) f)
    × ((fs : List Field) → first_unset ls (jumps_of (f ∷ fs)) ≡ first_unset ls (jumps_of fs))
WayOf n ls f (Err (Unset k)) g = (fs : List Field) → first_unset ls (jumps_of (f ∷ fs)) ≡ unset k
WayOf n ls f (Err Unfit) g = ⊥

pub record LeadsOne (n : ℕ) (ls : List Label) (i : ℕ) (ws : List ℕ) (r : Result (Unit {0}) Failure) (after : List ℕ) : Type 0 where
  pub kept : length after ≡ length ws
  pub others : (j : ℕ) → (j ≡ i → ⊥) → get_or after j 0 ≡ get_or ws j 0
  pub told : i < length ws → WayOf n ls (field_in (get_or ws i 0)) r (field_in (get_or after i 0))

-- the jumps before place i are led, of m fields
pub record Leading (n : ℕ) (ls : List Label) (m : ℕ) (ws : List ℕ) (i : ℕ) (after : List ℕ) : Type 0 where
  pub kept : length after ≡ length ws
  pub done : (j : ℕ) → j < i → field_in (get_or after j 0) ≡ jumping (λ p. number_of n ls (label_of p)) (field_in (get_or ws j 0))
  pub others : (j : ℕ) → i ≤ j → get_or after j 0 ≡ get_or ws j 0
  pub rest : first_unset ls (jumps_of (fields_from i (m - i) ws)) ≡ first_unset ls (jumps_of (fields_from 0 m ws))
