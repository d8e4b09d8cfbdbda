use Rattle.translate.proofs.Tables.{Filling}
use Rattle.translate.proofs.note_firsts.Given as goal

abbrev pub invariant-loop-i : goal.invariant-loop-i
invariant-loop-i l = Filling l.v l.orders l.initial.firsts l.i l.n l.here l.k l.firsts
