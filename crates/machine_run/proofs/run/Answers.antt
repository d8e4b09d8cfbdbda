use mathlib.Core.Path.{sym}
use Rattle.machine.proofs.Steps.{ended_stays}
use Rattle.machine_run.proofs.Looping.{again, stopped, broke_off, out_of_budget_law}
use Rattle.machine_run.proofs.run.Goals as goal

pub returns-then-r-ne0 : goal.returns-then-r-ne0
returns-then-r-ne0 c = sym (ended_stays _ _ _ c.if-r-ne0.true)

pub returns-then-ending-eq-STOPPED : goal.returns-then-ending-eq-STOPPED
returns-then-ending-eq-STOPPED c =
    stopped _ _ _ _ _ _ _ _ _ _ _ _ c.loop-steps.invariant c.loop-steps-test.true c.step-state.ensures c.if-ending-eq-STOPPED.true

pub returns-then-ending-ne0 : goal.returns-then-ending-ne0
returns-then-ending-ne0 c =
    broke_off _ _ _ _ _ _ _ _ _ _ _ _ c.loop-steps.invariant c.loop-steps-test.true c.step-state.ensures c.if-ending-ne0.true c.if-ending-eq-STOPPED.false

pub loop-steps-preserved : goal.loop-steps-preserved
loop-steps-preserved c =
    again _ _ _ _ _ _ _ _ _ _ _ _ c.loop-steps.invariant c.loop-steps-test.true c.step-state.ensures c.if-ending-ne0.false

pub returns : goal.returns
returns c =
    out_of_budget_law _ _ _ _ _ _ _ _ _ _ _ c.loop-steps.invariant c.loop-steps-test.false c.fault_ahead.ensures c.end_with.ensures
