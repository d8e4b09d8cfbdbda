-- What the functions that read operands do. A reader of the promises needs none of it.
use Rattle.std.specs.Prelude.{ℕ, zero, suc, ◌+◌, ◌<◌, ◌≤◌, ◌≡◌, Option, Some, None, IfSome, List, [], ◌∷◌, ◌++◌, length, get_or}
use Rattle.sheet.specs.declared.Operator.{Operator}
use Rattle.sheet.specs.declared.Field.{Field}
use Rattle.sheet.specs.declared.Field.TheVariants.{Binary as BinaryField}
use Rattle.sheet.specs.Sheet.{Expression}
use Rattle.sheet.specs.Fields.{expression_fields}
use Rattle.sheet_field.specs.Memory.{fields_from}
use Rattle.source.specs.declared.Token.{Token}
use Rattle.source.specs.declared.Token.TheVariants.{Name, Number, Quoted, Binary, Compare, Mark}
use Rattle.source.specs.Limits.{most_cells}
use Rattle.source.specs.Tokens.{mark_close}
use Rattle.source.specs.Grammar.{Read, read, none, next, past, operand_by, expression_in}
use Rattle.grammar_look.specs.declared.Tokens.{Tokens}
use Rattle.grammar_look.specs.Internal.{ahead, first_link}
use Rattle.grammar_output.specs.declared.Places.{Places}
use Rattle.grammar_output.specs.Internal.{insert_at, Small, places_word, place_for, places_after}
use Rattle.grammar_lead.specs.declared.Opened.{Opened}
use Rattle.grammar_operand.specs.declared.Reading.{Reading}

-- an expression and the closing bracket behind it
abbrev pub bracketed_by : (List Token → Read Expression) → List Token → Read Expression
bracketed_by inner ts = next (inner ts) (λ e rest. past mark_close rest (λ l. read e l))

-- ---- the two places of a chain

-- the links behind an operand, at most k
unfoldable pub links_pass : (List Token → Read Expression) → ℕ → Places → List Field → List Token → Read (List Field)
links_pass inner zero p fs ts = none
links_pass inner (suc k) p fs [] = read fs []
links_pass inner (suc k) p fs (Name w ∷ ts) = read fs (Name w ∷ ts)
links_pass inner (suc k) p fs (Number n ∷ ts) = read fs (Number n ∷ ts)
links_pass inner (suc k) p fs (Quoted n ∷ ts) = read fs (Quoted n ∷ ts)
links_pass inner (suc k) p fs (Binary o ∷ ts) =
    next
    (operand_by inner ts)
    (λ e rest. links_pass inner k (places_after p o (length fs + 1)) (insert_at (place_for p o) (BinaryField o) fs ++ expression_fields e) rest)
links_pass inner (suc k) p fs (Compare r ∷ ts) = read fs (Compare r ∷ ts)
links_pass inner (suc k) p fs (Mark m ∷ ts) = read fs (Mark m ∷ ts)

-- an operand, and at most k links behind it
abbrev pub operand_pass : (List Token → Read Expression) → ℕ → Places → List Field → List Token → Read (List Field)
operand_pass inner k p fs ts = next (operand_by inner ts) (λ e rest. links_pass inner k p (fs ++ expression_fields e) rest)

-- no place lies behind the last field
pub record WithinPlaces (out : ℕ) (p : Places) : Type 0 where
  pub low_within : p.low ≤ out
  pub middle_within : p.middle ≤ out
  pub high_within : p.high ≤ out

-- ---- open brackets

-- the expression round a bracket: where its operators go, and how many links it may yet have
pub record Frame : Type 0 where
  pub places : Places
  pub links : ℕ

-- what is read of the innermost expression, then the closing bracket and the links behind it, and so on outwards; k is the
-- fuel of the innermost
unfoldable pub resumed : ℕ → List Frame → Read (List Field) → Read (List Field)
resumed k [] r = r
resumed k (f ∷ fs) r =
    resumed (suc k) fs (next r (λ gs rest. past mark_close rest (λ l. links_pass (expression_in (suc k)) f.links f.places gs l)))

-- the word w holds a frame, whose places are among b fields and whose links are enough for the tokens from place a on
pub record Held (n a b w : ℕ) (f : Frame) : Type 0 where
  pub word : w ≡ places_word f.places
  pub small : Small f.places
  pub within : WithinPlaces b f.places
  pub enough : n < a + f.links

-- the stack holds frames, the innermost last
unfoldable pub Kept : ℕ → ℕ → ℕ → List ℕ → List Frame → Type 0
Kept n a b ws [] = Unit {0}
Kept n a b ws (f ∷ fs) = Held n a b (get_or ws (length fs) 0) f × Kept n a b ws fs

-- ---- how far a reading is

-- behind what an expression begins with, of which the first field is at place `out`
abbrev pub begun_at : ℕ → Opened → ℕ → Reading
begun_at out o d =
    record { at = o.at; out = o.out; depth = d; places = record { low = out; middle = o.upper; high = o.upper } }

-- there is room for what a reading may write
pub record Inside (n : ℕ) (fs stack : List ℕ) (s : Reading) : Type 0 where
  pub short : n ≤ most_cells
  pub inside : s.at ≤ n
  pub few : s.depth + s.out ≤ s.at
  pub room : n ≤ length fs
  pub deep : most_cells ≤ length stack
  pub within : WithinPlaces s.out s.places

-- a token more was read, and no more fields written and brackets opened than tokens read
abbrev pub Onward : ℕ → Reading → Option Reading → Type 0
Onward n s r = IfSome r (λ t. (s.at < t.at) × (t.at ≤ n) × (s.out ≤ t.out) × (t.depth + t.out + s.at ≤ t.at + s.depth + s.out))

-- what is to come comes to `all`: `pass` is what is to come of the innermost expression
pub record Reached
    (pass : (List Token → Read Expression) → ℕ → Places → List Field → List Token → Read (List Field))
    (toks : Tokens) (fs stack : List ℕ) (s : Reading) (all : Read (List Field)) : Type 0 where
  pub frames : List Frame
  pub fuel : ℕ
  pub links : ℕ
  pub depth_of : length frames ≡ s.depth
  pub kept : Kept toks.count s.at s.out stack frames
  pub within : WithinPlaces s.out s.places
  pub enough : toks.count ≤ s.at + fuel
  pub enough_links : toks.count < s.at + links
  pub same : resumed fuel frames (pass (expression_in fuel) links s.places (fields_from 0 s.out fs) (ahead toks s.at)) ≡ all

abbrev pub Arrived : Tokens → List ℕ → List ℕ → Option Reading → Read (List Field) → Type 0
Arrived toks fs stack (Some t) all = Reached links_pass toks fs stack t all
Arrived toks fs stack None all = none ≡ all

-- what each function does to what is to come
abbrev pub Operates : Tokens → Reading → List ℕ → List ℕ → Option Reading → List ℕ → List ℕ → Type 0
Operates toks s fs stack r fs₁ stack₁ =
    (all : Read (List Field)) → Reached operand_pass toks fs stack s all → Arrived toks fs₁ stack₁ r all

abbrev pub Links : Operator → Tokens → Reading → List ℕ → List ℕ → Option Reading → List ℕ → List ℕ → Type 0
Links o toks s fs stack r fs₁ stack₁ =
    (all : Read (List Field)) → first_link (ahead toks s.at) ≡ Some o → Reached links_pass toks fs stack s all
    → Arrived toks fs₁ stack₁ r all

abbrev pub Closes : Tokens → Reading → List ℕ → Option Reading → Type 0
Closes toks s stack r =
    (fs : List ℕ) (all : Read (List Field)) → first_link (ahead toks s.at) ≡ None → Reached links_pass toks fs stack s all
    → Arrived toks fs stack r all
