use Rattle.word.proofs.Bits.{or_is}
use Rattle.word_arithmetic.proofs.bit_or.Goals as goal

pub returns : goal.returns
returns c = or_is c.args.a c.args.b c.ranges.a.fits c.ranges.b.fits
