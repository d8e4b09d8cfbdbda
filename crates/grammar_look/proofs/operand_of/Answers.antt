use Rattle.base.proofs.Cases.{cases}
use Rattle.grammar_look.proofs.operand_of.Goals as goal

pub returns-in-Mark-eq40 : goal.returns-in-Mark-eq40
returns-in-Mark-eq40 c = rw (c.in-Mark-eq40.is, ← c.in-Mark-eq40.field-0-is) (search cases depth 16)

pub returns-in_default : goal.returns-in_default
returns-in_default c =
    let not_the_mark = rw c.in_default.field-0-is at c.in_default.field-0-test.1 in
    rw c.in_default.is (search cases depth 16)
