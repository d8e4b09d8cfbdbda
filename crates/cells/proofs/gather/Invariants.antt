use mathlib.Core.Path.{◌≡◌}
use lib.ListN.{length}
use Rattle.cells.proofs.Bytes.{Reads}
use Rattle.cells.proofs.gather.Given as goal

abbrev pub invariant-loop-i : goal.invariant-loop-i
invariant-loop-i l = Reads l.source l.at l.cells l.mode l.held l.i × (length l.cells ≡ length l.initial.cells)
