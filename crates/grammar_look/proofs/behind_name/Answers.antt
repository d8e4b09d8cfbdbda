use Rattle.base.proofs.Cases.{cases}
use Rattle.grammar_look.proofs.behind_name.Goals as goal

pub returns-in-Compare : goal.returns-in-Compare
returns-in-Compare c = rw c.in-Compare.is (search cases depth 16)

pub returns-in-Mark-eq40 : goal.returns-in-Mark-eq40
returns-in-Mark-eq40 c = rw (c.in-Mark-eq40.is, ← c.in-Mark-eq40.field-0-is) (search cases depth 16)

pub returns-in_default : goal.returns-in_default
returns-in_default c = rw c.in-Compare.is (search cases depth 16)

pub returns-in_default-2 : goal.returns-in_default-2
returns-in_default-2 c = rw (c.in-Mark-eq40.is, ← c.in-Mark-eq40.field-0-is) (search cases depth 16)

pub returns-in_default-3 : goal.returns-in_default-3
returns-in_default-3 c =
    let not_the_mark = rw c.in_default.field-0-is at c.in_default.field-0-test.1 in
    rw c.in_default.is (search cases depth 16)
