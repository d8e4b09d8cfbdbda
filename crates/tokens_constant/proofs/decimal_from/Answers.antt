use native.Mathlib.Omega.{arith}
use Rattle.tokens_constant.proofs.Constants.{digits_turn, digits_over, digits_stop, digits_end}
use Rattle.tokens_constant.proofs.decimal_from.Goals as goal

pub returns-then-not-is_ascii_digit : goal.returns-then-not-is_ascii_digit
returns-then-not-is_ascii_digit c =
    digits_stop _ _ _ _ _ c.loop-i.invariant c.loop-i-test.true c.if-not-is_ascii_digit.ensures.cases

pub returns-then-v-gt-GREATEST_CONSTANT : goal.returns-then-v-gt-GREATEST_CONSTANT
returns-then-v-gt-GREATEST_CONSTANT c =
    digits_over _ _ _ _ _ c.loop-i.invariant c.loop-i-test.true c.if-not-is_ascii_digit.ensures.cases
    c.if-v-gt-GREATEST_CONSTANT.true

pub loop-i-preserved : goal.loop-i-preserved
loop-i-preserved c =
    digits_turn _ _ _ _ _ c.loop-i.invariant c.loop-i-test.true c.if-not-is_ascii_digit.ensures.cases
    c.if-v-gt-GREATEST_CONSTANT.false

pub returns : goal.returns
returns c = digits_end _ _ _ _ _ c.loop-i.invariant _ c.loop-i-test.false (omega arith)
