use mathlib.Core.Path.{◌≡◌}
use lib.ListN.{length}
use Rattle.names.specs.Internal.{LookedUp}
use Rattle.names.proofs.look_up.Given as goal

abbrev pub invariant-loop-i : goal.invariant-loop-i
invariant-loop-i l = (length l.words ≡ length l.initial.words) × LookedUp l.i l.cells l.tokens.kinds.now l.tokens.values.now l.v l.letters l.index l.words
