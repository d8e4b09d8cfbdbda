use mathlib.Core.Path.{◌∙◌}
use Rattle.base.proofs.Cases.{cases, pick_no}
use borrow.Author.Tests.{ne_eqb}
use Rattle.text.proofs.Turns.{digits_here, digits_short, no_digit}
use Rattle.text.proofs.read.digits_at.Goals.{then-not-is_ascii_digit-via-then-not-is_ascii_digit, then-not-is_ascii_digit-via-else-not-is_ascii_digit+then-v-eq0}
use Rattle.text.proofs.read.digits_at.Goals as goal

pub returns-then-b-close-clause-read : goal.returns-then-b-close-clause-read
returns-then-b-close-clause-read c =
    rw (← c.loop-i.invariant.0, digits_here _ _ _ _ c.loop-i-test.true) (search cases depth 16)

pub returns-then-not-is_ascii_digit-clause-read : goal.returns-then-not-is_ascii_digit-clause-read
returns-then-not-is_ascii_digit-clause-read c =
    rw (← c.loop-i.invariant.0, digits_here _ _ _ _ c.loop-i-test.true)
    (elim c.then-not-is_ascii_digit.branch [
      | then-not-is_ascii_digit-via-then-not-is_ascii_digit w ↦ pick_no _ _ _ _ (ne_eqb _ _ c.if-b-close.false) (no_digit _ _ w.if-not-is_ascii_digit.ensures.cases)
      | then-not-is_ascii_digit-via-else-not-is_ascii_digit+then-v-eq0 w ↦ let d = w.if-not-is_ascii_digit.ensures.cases in search cases depth 16
    ])

pub returns-then-v-gt-GREATEST_NUMBER-clause-read : goal.returns-then-v-gt-GREATEST_NUMBER-clause-read
returns-then-v-gt-GREATEST_NUMBER-clause-read c =
    let d = c.if-not-is_ascii_digit.ensures.cases in
    rw (← c.loop-i.invariant.0, digits_here _ _ _ _ c.loop-i-test.true) (search cases depth 16)

pub loop-i-preserved : goal.loop-i-preserved
loop-i-preserved c =
    let d = c.if-not-is_ascii_digit.ensures.cases in
    (rw (← c.loop-i.invariant.0, digits_here _ _ _ _ c.loop-i-test.true) (search cases depth 16), c.if-v-gt-GREATEST_NUMBER.false)

pub returns-clause-read : goal.returns-clause-read
returns-clause-read c = digits_short _ _ _ _ c.loop-i-test.false ∙ c.loop-i.invariant.0
