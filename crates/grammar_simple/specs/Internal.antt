-- What the functions that read `name = expr`, `SEND(expr)` or `->label` do. A reader of the promises needs none of it.
use Rattle.std.specs.Prelude.{ℕ, List}
use Rattle.sheet.specs.declared.Field.{Field}
use Rattle.sheet.specs.Sheet.{set, send}
use Rattle.sheet.specs.Fields.{simple_fields}
use Rattle.source.specs.declared.Token.{Token}
use Rattle.source.specs.Tokens.{mark_close}
use Rattle.source.specs.Grammar.{Read, read, next, past, expression, simple_at}
use Rattle.grammar_output.specs.Internal.{written}

abbrev pub set_pass : ℕ → List Field → List Token → Read (List Field)
set_pass w fs ts = written simple_fields fs (next (expression ts) (λ e rest. read (set w e) rest))

abbrev pub send_pass : List Field → List Token → Read (List Field)
send_pass fs ts =
    written simple_fields fs (next (expression ts) (λ e rest. past mark_close rest (λ l. read (send e) l)))

abbrev pub simple_pass : List Field → List Token → Read (List Field)
simple_pass fs ts = written simple_fields fs (simple_at ts)
