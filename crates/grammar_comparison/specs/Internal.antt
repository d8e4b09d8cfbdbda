-- What the functions that read comparisons, and look for them in brackets, do. A reader of the promises needs none of it.
use Rattle.std.specs.Prelude.{ℕ, Bool, false, Option, Some, None, List, ◌∷◌, ◌++◌}
use Rattle.sheet.specs.declared.Field.{Field}
use Rattle.sheet.specs.declared.Field.TheVariants.{Compare}
use Rattle.sheet.specs.Fields.{expression_fields}
use Rattle.sheet.specs.Memory.{condition_fields}
use Rattle.source.specs.declared.Token.{Token}
use Rattle.source.specs.Grammar.{Read, read, next, expression, relation_at, comparison_at, holds_relation}
use Rattle.grammar_output.specs.Internal.{written}

-- the relation stands before the first of the two expressions
abbrev pub compared_pass : List Field → List Token → Read (List Field)
compared_pass fs ts =
    next
    (expression ts)
    (λ a behind. next (relation_at behind) (λ r others. read (fs ++ Compare r ∷ expression_fields a) others))

abbrev pub comparison_pass : List Field → List Token → Read (List Field)
comparison_pass fs ts = written condition_fields fs (comparison_at ts)

-- ---- which brackets are a condition's

-- whether a relation stands before the end of a bracket, by how many brackets are open in it and by the tokens that follow; none
-- where it has ended
abbrev pub holds_from : Option ℕ → List Token → Bool
holds_from None ts = false
holds_from (Some d) ts = holds_relation d ts
