use native.Mathlib.Omega.{arith}
use Rattle.sheet_check.proofs.States.{seconds_few}
use Rattle.sheet_check.proofs.Passes.{pass_none, pass_more, pass_stops, pass_ends}
use mathlib.Core.Path.{◌∙◌}
use Rattle.sheet_check.proofs.accepted.Goals as goal

pub loop-w-init : goal.loop-w-init
loop-w-init c = rw c.among-s.ensures (pass_none _ _ _)

pub one_step-requires : goal.one_step-requires
one_step-requires c =
    let p = c.loop-w.invariant.small in
    let pre = c.requires in
    let t = c.loop-w-test.true in
    let few = seconds_few _ _ p in (
      omega (arith, p.values, pre.0, t),
      omega (arith, few),
      omega (arith, p.conditions, pre.0, t),
      pre.1,
      pre.2,
    )

pub returns-in_default : goal.returns-in_default
returns-in_default c = pass_stops _ _ _ _ _ c.loop-w.invariant c.loop-w-test.true _ (rw (← c.field_in.ensures) c.one_step.ensures) c.in_default.is

pub loop-w-preserved : goal.loop-w-preserved
loop-w-preserved c = pass_more _ _ _ _ _ c.loop-w.invariant c.loop-w-test.true _ (rw (← c.field_in.ensures) c.one_step.ensures) _ c.in-Some.is

pub returns : goal.returns
returns c = c.is_final.ensures ∙ pass_ends _ _ _ _ _ c.loop-w.invariant c.loop-w-test.false
