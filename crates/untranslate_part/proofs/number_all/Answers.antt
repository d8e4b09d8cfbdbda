use mathlib.Core.Path.{◌∙◌}
use native.Mathlib.Omega.{arith}
use lib.ListN.{length-set}
use Rattle.untranslate_part.proofs.Numbered.{fill_turn, fill_end}
use Rattle.untranslate_part.proofs.number_all.Goals as goal

pub loop-i-preserved : goal.loop-i-preserved
loop-i-preserved c =
    let turn = fill_turn _ _ _ _ _ _ _ c.loop-i-test.true _ c.order_in.ensures _ c.role_of-q.ensures _ c.number_behind-n.ensures _ c.ends-here.ensures _ c.inner-k.ensures in
    (omega arith, omega (arith, turn.0, c.loop-i.invariant.1), simp length-set c.loop-i.invariant.2, turn.1 ∙ c.loop-i.invariant.3)

pub returns : goal.returns
returns c = fill_end _ _ _ _ _ _ _ c.loop-i-test.false ∙ c.loop-i.invariant.3
