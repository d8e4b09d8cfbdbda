use Rattle.base.specs.Choice.{pick}
use Rattle.word.specs.Word.{signed}
use Rattle.word.proofs.SignedType.{held}
use Rattle.word_arithmetic.proofs.to_zero.Goals as goal

pub returns-in-Less : goal.returns-in-Less
unfolding signed pick
returns-in-Less c = rw (c.in-Less.is, held c.args.a _ c.ranges.a.fits c.to_signed-x.ensures)

pub returns-in-AtMost : goal.returns-in-AtMost
unfolding signed pick
returns-in-AtMost c = rw (c.in-AtMost.is, held c.args.a _ c.ranges.a.fits c.to_signed-x.ensures)

pub returns-in-Greater : goal.returns-in-Greater
unfolding signed pick
returns-in-Greater c = rw (c.in-Greater.is, held c.args.a _ c.ranges.a.fits c.to_signed-x.ensures)

pub returns-in-AtLeast : goal.returns-in-AtLeast
unfolding signed pick
returns-in-AtLeast c = rw (c.in-AtLeast.is, held c.args.a _ c.ranges.a.fits c.to_signed-x.ensures)
