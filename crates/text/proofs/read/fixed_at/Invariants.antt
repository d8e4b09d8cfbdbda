use mathlib.Core.Path.{◌≡◌}
use lib.ListN.{drop}
use Rattle.text.specs.Pieces.{fixed}
use Rattle.text.proofs.read.fixed_at.Given as goal

abbrev pub invariant-loop-k : goal.invariant-loop-k
invariant-loop-k l = fixed (drop l.k l.string) (drop l.k (drop l.at l.s)) ≡ fixed l.string (drop l.at l.s)
