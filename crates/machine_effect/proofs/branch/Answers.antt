use Rattle.base.proofs.Cases.{cases}
use Rattle.machine_effect.proofs.branch.Goals as goal

pub returns-then-to_zero : goal.returns-then-to_zero
returns-then-to_zero c = search cases depth 16

pub returns : goal.returns
returns c = search cases depth 16
