use mathlib.Core.Path.{ap, ◌∙◌}
use Rattle.text.specs.Internal.{put_all}
use Rattle.object_writer.proofs.Writing.{records_turn, records_over}
use Rattle.object_writer.proofs.put_records.Goals as goal

pub loop-w-preserved : goal.loop-w-preserved
loop-w-preserved c = (
  ap (put_all _) c.put_record-j.ensures ∙ records_turn _ _ _ _ c.order_in.ensures c.loop-w-test.true ∙ c.loop-w.invariant.0,
  c.put_record-j.auto.buffer ∙ c.loop-w.invariant.1,
)

pub returns : goal.returns
returns c = records_over _ _ _ c.loop-w-test.false ∙ c.loop-w.invariant.0
