use Rattle.base.proofs.Cases.{cases}
use Rattle.machine_step.proofs.full.Goals as goal

pub returns-then-r-output : goal.returns-then-r-output
returns-then-r-output c = search cases depth 16

pub returns : goal.returns
returns c = search cases depth 16
