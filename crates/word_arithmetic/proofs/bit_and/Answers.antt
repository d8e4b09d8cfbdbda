use Rattle.word.proofs.Bits.{and_is}
use Rattle.word_arithmetic.proofs.bit_and.Goals as goal

pub returns : goal.returns
returns c = and_is c.args.a c.args.b c.ranges.a.fits c.ranges.b.fits
