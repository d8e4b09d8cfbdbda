use mathlib.Core.Path.{sym, ap, ◌∙◌}
use Rattle.text.specs.Internal.{put_all}
use Rattle.text.proofs.Writing.{put_turn, put_over}
use Rattle.text.proofs.write.put_fixed.Goals as goal

pub loop-b-preserved : goal.loop-b-preserved
loop-b-preserved c = (
  ap (put_all _) c.put_byte-i.ensures ∙ sym (put_turn _ _ _ c.loop-b-test.true) ∙ c.loop-b.invariant.0,
  c.put_byte-i.auto.buffer ∙ c.loop-b.invariant.1,
)

pub returns : goal.returns
returns c = put_over _ _ _ c.loop-b-test.false ∙ c.loop-b.invariant.0
