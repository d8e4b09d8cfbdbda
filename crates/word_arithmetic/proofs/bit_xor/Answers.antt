use Rattle.word.proofs.Bits.{xor_is}
use Rattle.word_arithmetic.proofs.bit_xor.Goals as goal

pub returns : goal.returns
returns c = xor_is c.args.a c.args.b c.ranges.a.fits c.ranges.b.fits
