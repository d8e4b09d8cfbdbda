use Rattle.base.proofs.Cases.{cases}
use Rattle.grammar_look.proofs.lead_of.Goals as goal

pub returns-in-Mark-eq92 : goal.returns-in-Mark-eq92
returns-in-Mark-eq92 c = rw (c.in-Mark-eq92.is, ← c.in-Mark-eq92.field-0-is) (search cases depth 16)

pub returns-in_default-2 : goal.returns-in_default-2
returns-in_default-2 c =
    let not_the_mark = rw c.in_default.field-0-is at c.in_default.field-0-test.1 in
    rw c.in_default.is (search cases depth 16)
