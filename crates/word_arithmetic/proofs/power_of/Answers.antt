use Rattle.std.proofs.Common.{arith}
use Rattle.word_arithmetic.proofs.Squaring.{after_odd, after_even, products_fit, finish}
use Rattle.word_arithmetic.proofs.power_of.Goals as goal
use Rattle.word_arithmetic.proofs.power_of.Goals.{then-left-eq1, else-left-eq1}

pub overflow_add-products : goal.overflow_add-products
overflow_add-products c =
    omega (arith, products_fit _ _ _ _ _ _ c.ranges.n.fits c.loop-left.invariant)

-- where the branch's ways meet, the count has grown by at most one
pub overflow_add-products-in-loop-left : goal.overflow_add-products-in-loop-left
overflow_add-products-in-loop-left c =
    let few = products_fit _ _ _ _ _ _ c.ranges.n.fits c.loop-left.invariant in
    elim c.if-left-eq1.branch [ then-left-eq1 w ↦ omega (arith, few, w.products-is) | else-left-eq1 w ↦ omega (arith, few, w.products-is) ]

pub loop-left-preserved : goal.loop-left-preserved
loop-left-preserved c =
    let more = c.loop-left-test.true in
    elim c.if-left-eq1.branch [
      | then-left-eq1 w ↦ rw (w.acc-is, w.products-is, w.mul-acc.ensures, c.mul-base.ensures) (after_odd _ _ _ _ _ _ w.if-left-eq1.true more c.loop-left.invariant)
      | else-left-eq1 w ↦ rw (w.acc-is, w.products-is, c.mul-base.ensures) (after_even _ _ _ _ _ _ w.if-left-eq1.false more c.loop-left.invariant)
    ]

pub returns : goal.returns
returns c = finish _ _ _ _ _ _ c.loop-left-test.false c.loop-left.invariant
