use Rattle.labels.specs.Internal.{Moving}
use Rattle.labels.proofs.move_spots.Given as goal

abbrev pub invariant-loop-e : goal.invariant-loop-e
invariant-loop-e l = Moving l.from l.to l.initial.labels l.e-index l.labels
