use Rattle.std.proofs.Common.{ap}
use Rattle.base.specs.Choice.{pick}
use Rattle.word.specs.Word.{power, signed, value}
use Rattle.word.proofs.SignedType.{held}
use Rattle.word_arithmetic.proofs.pow.Goals as goal

pub returns-then-to_signed-lt0 : goal.returns-then-to_signed-lt0
unfolding power signed pick
returns-then-to_signed-lt0 c =
    let t = rw (held c.args.n _ c.ranges.n.fits c.to_signed.ensures) at c.if-to_signed-lt0.true in
    rw t

pub returns : goal.returns
unfolding power signed pick
returns c =
    let t = rw (held c.args.n _ c.ranges.n.fits c.to_signed.ensures) at c.if-to_signed-lt0.false in
    rw t (ap value c.power_of.ensures.right)
