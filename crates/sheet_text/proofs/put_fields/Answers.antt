use mathlib.Core.Path.{◌∙◌}
use Rattle.sheet_line.specs.Answers.{before}
use Rattle.sheet_text.proofs.Writing.{put_turn, put_over}
use Rattle.sheet_text.proofs.put_fields.Goals as goal

pub loop-i-preserved : goal.loop-i-preserved
loop-i-preserved c =
    let loop = c.loop-i in (
      put_turn _ _ c.shown_at.result _ _ c.loop-i-test.true c.shown_at.ensures c.put_shown-j.ensures ∙ loop.invariant.0,
      c.put_shown-j.auto.buffer ∙ loop.invariant.1,
    )

pub returns : goal.returns
unfolding before
returns c =
    c.put_byte.ensures
    ∙ put_over c.args.fields.now _ _ c.loop-i-test.false
    ∙ c.loop-i.invariant.0
