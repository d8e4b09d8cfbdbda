use mathlib.Core.Path.{◌≡◌}
use lib.ListN.{length, drop}
use Rattle.text.specs.Internal.{placed, put_all}
use Rattle.text.proofs.write.put_fixed.Given as goal

abbrev pub invariant-loop-b : goal.invariant-loop-b
invariant-loop-b l = (put_all (drop l.b-index l.string) (placed l.i l.buffer) ≡ put_all l.string (placed l.at l.initial.buffer)) × (length l.buffer ≡ length l.initial.buffer)
