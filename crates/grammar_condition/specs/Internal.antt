-- What the function that reads a condition does. A reader of the promises needs none of it.
use Rattle.std.specs.Prelude.{List}
use Rattle.sheet.specs.declared.Field.{Field}
use Rattle.sheet.specs.Memory.{condition_fields}
use Rattle.source.specs.declared.Token.{Token}
use Rattle.source.specs.Grammar.{Read, condition_at}
use Rattle.grammar_output.specs.Internal.{written}

-- a whole condition behind others
abbrev pub condition_pass : List Field → List Token → Read (List Field)
condition_pass fs ts = written condition_fields fs (condition_at ts)
