-- What the functions that read an instruction do. A reader of the promises needs none of it.
use Rattle.std.specs.Prelude.{ℕ, Option, Some, None, List, [], ◌∷◌, ◌++◌}
use Rattle.base.specs.Choice.{pick}
use Rattle.sheet.specs.declared.Field.{Field}
use Rattle.sheet.specs.declared.Field.TheVariants.{Else, Start, Finish, If}
use Rattle.sheet_field.specs.Memory.{fields_from}
use Rattle.source.specs.declared.Token.{Token}
use Rattle.source.specs.Tokens.{mark_then, mark_else, mark_start}
use Rattle.source.specs.Grammar.{Read, read, none, next, past, opens, behind_first, Instruction, simple, if_then, if_else, if_start, instruction_at}
use Rattle.source.specs.Fields.{instruction_fields}
use Rattle.grammar_look.specs.declared.Tokens.{Tokens}
use Rattle.grammar_look.specs.Internal.{ahead}
use Rattle.grammar_output.specs.Internal.{Moved}
use Rattle.grammar_simple.specs.Internal.{simple_pass}
use Rattle.grammar_condition.specs.Internal.{condition_pass}
use Rattle.grammar_instruction.specs.declared.Instructed.{Instructed}
use Rattle.grammar_instruction.specs.declared.Instructed.TheVariants.{Whole, Opening}

-- all fields up to now, with an instruction that is whole or that goes on behind its START
pub data Output : Type 0 where
  whole : List Field → Output
  opening : List Field → Output

abbrev pub output_in : Tokens → Option Instructed → List ℕ → Read Output
output_in toks (Some (Whole s)) fs = read (whole (fields_from 0 s.out fs)) (ahead toks s.at)
output_in toks (Some (Opening s)) fs = read (opening (fields_from 0 s.out fs)) (ahead toks s.at)
output_in toks None fs = none

-- as `Moved`
abbrev pub MovedOn : ℕ → ℕ → ℕ → ℕ → Option Instructed → Type 0
MovedOn d n at out (Some (Whole s)) = Moved d n at out (Some s)
MovedOn d n at out (Some (Opening s)) = Moved d n at out (Some s)
MovedOn d n at out None = Unit {0}

-- an instruction behind other fields
abbrev pub output_of : List Field → Instruction → Output
output_of fs (simple u) = whole (fs ++ instruction_fields (simple u))
output_of fs (if_then c u) = whole (fs ++ instruction_fields (if_then c u))
output_of fs (if_else c u w) = whole (fs ++ instruction_fields (if_else c u w))
output_of fs (if_start c) = opening (fs ++ instruction_fields (if_start c))

abbrev pub alternative_pass : List Field → List Token → Read (List Field)
alternative_pass fs ts = next (simple_pass (fs ++ (Else ∷ [])) ts) (λ g l. read (g ++ (Finish ∷ [])) l)

abbrev pub otherwise_pass : List Field → List Token → Read (List Field)
otherwise_pass fs ts = pick (opens mark_else ts) (alternative_pass fs (behind_first ts)) (read (fs ++ (Finish ∷ [])) ts)

abbrev pub lone_pass : List Field → List Token → Read (List Field)
lone_pass fs ts = next (simple_pass fs ts) (λ g l. otherwise_pass g l)

abbrev pub whole_pass : Read (List Field) → Read Output
whole_pass x = next x (λ g l. read (whole g) l)

abbrev pub consequent_pass : List Field → List Token → Read Output
consequent_pass fs ts = pick (opens mark_start ts) (read (opening fs) (behind_first ts)) (whole_pass (lone_pass fs ts))

abbrev pub conditional_pass : List Field → List Token → Read Output
conditional_pass fs ts =
    next (condition_pass (fs ++ (If ∷ [])) ts) (λ g l. past mark_then l (λ m. consequent_pass (g ++ (Start ∷ [])) m))

abbrev pub instruction_pass : List Field → List Token → Read Output
instruction_pass fs ts = next (instruction_at ts) (λ i rest. read (output_of fs i) rest)
