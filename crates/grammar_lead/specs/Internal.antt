-- What an expression begins with. A reader of the promises needs none of it.
use Rattle.std.specs.Prelude.{ℕ, ◌+◌, ◌≤◌, ◌≡◌, List, [], ◌∷◌, ◌++◌}
use Rattle.sheet.specs.declared.Field.{Field}
use Rattle.sheet.specs.declared.Field.TheVariants.{Neg, Not}
use Rattle.sheet_field.specs.Memory.{fields_from}
use Rattle.source.specs.Grammar.{Lead as Leading, bare, minus, invert, start_of, start}
use Rattle.grammar_look.specs.declared.Tokens.{Tokens}
use Rattle.grammar_look.specs.Internal.{ahead}
use Rattle.grammar_lead.specs.declared.Opened.{Opened}

-- the fields that a leading sign writes, and where the operands of the two upper levels start
abbrev pub lead_fields : Leading → List Field
lead_fields bare = []
lead_fields minus = Neg ∷ []
lead_fields invert = Not ∷ []

abbrev pub upper_place : Leading → ℕ → ℕ
upper_place bare out = out
upper_place minus out = out + 1
upper_place invert out = out

-- behind a sign for which the field f is written
pub record SignedAs (at out upper : ℕ) (f : Field) (fs : List ℕ) (r : Opened) (fs₁ : List ℕ) : Type 0 where
  pub fields : fields_from 0 r.out fs₁ ≡ fields_from 0 out fs ++ (f ∷ [])
  pub token_behind : r.at ≡ at + 1
  pub upper_given : r.upper ≡ upper
  pub field_behind : r.out ≡ out + 1

pub record OpenedAs (toks : Tokens) (at out : ℕ) (fs : List ℕ) (r : Opened) (fs₁ : List ℕ) : Type 0 where
  pub lead : Leading
  pub tokens : start_of (ahead toks at) ≡ start lead (ahead toks r.at)
  pub fields : fields_from 0 r.out fs₁ ≡ fields_from 0 out fs ++ lead_fields lead
  pub upper : r.upper ≡ upper_place lead out
  pub upper_within : r.upper ≤ r.out
  pub on : at ≤ r.at
  pub inside : r.at ≤ toks.count
  pub wider : out ≤ r.out
  pub few : r.out + at ≤ r.at + out
