use mathlib.Core.Path.{sym}
use Rattle.order_record.proofs.Writing.{record_length}
use Rattle.order_record.proofs.record_length.Goals as goal

pub returns-clause-exact : goal.returns-clause-exact
returns-clause-exact c = rw (c.heading.ensures.row, c.decimal_length.ensures.exact, c.operand_of.ensures, c.number_of.ensures) (sym (record_length c.args.o))
