use mathlib.Core.Path.{◌≡◌}
use lib.ListN.{length}
use Rattle.names.specs.Internal.{DeclaresOn}
use Rattle.names.proofs.declare.Given as goal

abbrev pub invariant-loop-i : goal.invariant-loop-i
invariant-loop-i l = (length l.letters ≡ length l.initial.letters) × (length l.index ≡ length l.initial.index) × DeclaresOn l.i l.tokens.count l.cells l.tokens.kinds.now l.tokens.values.now l.fn.others.count l.fn.others.letters l.initial.letters l.initial.index l.names.count l.names.letters l.letters l.index
