use Rattle.word_arithmetic.proofs.Ordered.{less, equal, greater}
use Rattle.word_arithmetic.proofs.cmp.Goals as goal

pub returns-in-Less : goal.returns-in-Less
returns-in-Less c = less c.args.a c.args.b c.ranges.a.fits c.ranges.b.fits _ _ c.to_signed.ensures c.to_signed-2.ensures c.in-Less.ensures

pub returns-in-Equal : goal.returns-in-Equal
returns-in-Equal c = equal c.args.a c.args.b c.ranges.a.fits c.ranges.b.fits _ _ c.to_signed.ensures c.to_signed-2.ensures c.in-Equal.ensures

pub returns-in-Greater : goal.returns-in-Greater
returns-in-Greater c = greater c.args.a c.args.b c.ranges.a.fits c.ranges.b.fits _ _ c.to_signed.ensures c.to_signed-2.ensures c.in-Greater.ensures
