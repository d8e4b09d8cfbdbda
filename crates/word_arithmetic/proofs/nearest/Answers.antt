use mathlib.Core.Logic.{inl, inr}
use Rattle.word_arithmetic.proofs.Rounding.{stepped_fits, stepped}
use Rattle.word_arithmetic.proofs.nearest.Goals as goal
use Rattle.word_arithmetic.proofs.nearest.Goals.{then-minus_size-rest, else-minus_size-rest}

pub overflow_add-result : goal.overflow_add-result
overflow_add-result c =
    stepped_fits _ _ c.ranges.x c.ranges.y c.requires _ _ c.minus_size-rest.ensures c.minus_size.ensures _ _ c.outward-step.ensures
    (elim c.if-minus_size-rest.branch [
      | then-minus_size-rest w ↦ inl (w.if-minus_size-rest.true, w.step-is)
      | else-minus_size-rest w ↦ inr (w.if-minus_size-rest.false, w.step-is)
    ])

pub returns : goal.returns
returns c =
    stepped _ _ c.ranges.x c.ranges.y c.requires _ _ c.minus_size-rest.ensures c.minus_size.ensures _ _ c.outward-step.ensures
    (elim c.if-minus_size-rest.branch [
      | then-minus_size-rest w ↦ inl (w.if-minus_size-rest.true, w.step-is)
      | else-minus_size-rest w ↦ inr (w.if-minus_size-rest.false, w.step-is)
    ])
