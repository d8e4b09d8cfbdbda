use Rattle.base.proofs.Cases.{cases}
use Rattle.grammar_look.proofs.opening_of.Goals as goal

pub returns-in-Mark-eq134 : goal.returns-in-Mark-eq134
returns-in-Mark-eq134 c = rw (c.behind_arrow.ensures, c.in-Mark-eq134.is, ← c.in-Mark-eq134.field-0-is) (search cases depth 16)

pub returns-in_default : goal.returns-in_default
returns-in_default c =
    let not_the_mark = rw c.in_default.field-0-is at c.in_default.field-0-test.1 in
    rw c.in_default.is (search cases depth 16)
