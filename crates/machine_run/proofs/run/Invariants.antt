use Rattle.order.specs.Memory.{orders_in}
use Rattle.machine_run.proofs.Looping.{Loop}
use Rattle.machine_run.proofs.run.Given as goal

abbrev pub invariant-loop-steps : goal.invariant-loop-steps
invariant-loop-steps l = Loop (orders_in l.orders) l.budget l.initial.state l.initial.words l.initial.output l.steps l.state l.words l.output
