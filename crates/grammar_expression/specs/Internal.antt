-- What the functions that read an expression do. A reader of the promises needs none of it.
use Rattle.std.specs.Prelude.{ℕ, Option, Some, None, List}
use Rattle.sheet.specs.declared.Field.{Field}
use Rattle.sheet.specs.Fields.{expression_fields}
use Rattle.sheet_field.specs.Memory.{fields_from}
use Rattle.source.specs.declared.Token.{Token}
use Rattle.source.specs.Grammar.{Read, read, none, expression}
use Rattle.grammar_look.specs.declared.Tokens.{Tokens}
use Rattle.grammar_look.specs.Internal.{ahead}
use Rattle.grammar_output.specs.declared.Step.{Step}
use Rattle.grammar_output.specs.Internal.{written}

-- all fields up to now and the tokens that are left
abbrev pub stepped : Tokens → Option Step → List ℕ → Read (List Field)
stepped toks (Some s) fs = read (fields_from 0 s.out fs) (ahead toks s.at)
stepped toks None fs = none

-- a whole expression behind others
abbrev pub expression_pass : List Field → List Token → Read (List Field)
expression_pass fs ts = written expression_fields fs (expression ts)
