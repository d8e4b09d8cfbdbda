use Rattle.labels.specs.Memory.{labels_of}
use Rattle.fields_put.specs.Internal.{Leading}
use Rattle.fields_put.proofs.lead_jumps.Given as goal

abbrev pub invariant-loop-i : goal.invariant-loop-i
invariant-loop-i l = Leading l.next (labels_of l.next l.count l.labels) l.n l.initial.fields l.i l.fields
