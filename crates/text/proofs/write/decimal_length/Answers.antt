use native.Mathlib.Omega.{arith}
use Rattle.text.proofs.Decimal.{few_digits}
use Rattle.text.proofs.Writing.{length_turn, length_one}
use Rattle.text.proofs.write.decimal_length.Goals as goal

pub overflow_add-digits : goal.overflow_add-digits
overflow_add-digits c = record { fits = omega (arith, c.loop-x.invariant.0, few_digits 10 c.args.n) }

pub loop-x-preserved : goal.loop-x-preserved
loop-x-preserved c =
    let i = c.loop-x.invariant in
    (omega (arith, i.0, length_turn _ c.loop-x-test.true i.1), omega (arith, i.1))

pub returns : goal.returns
returns c =
    let e = c.loop-x.invariant.0 in
    let o = length_one _ c.loop-x-test.false in
    record { exact = omega (arith, e, o); few = omega (arith, e, o, few_digits 10 c.args.n) }
