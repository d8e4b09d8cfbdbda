use Prim.Native.Nat.{◌≤◌}
use mathlib.Core.Path.{◌≡◌}
use lib.ListN.{length, take}
use lib.Seq.{sets}
use Rattle.order.specs.Limits.{most_words}
use Rattle.skimp_state.specs.State.{words_bytes}
use Rattle.skimp_state.proofs.store_words.Given as goal

abbrev pub invariant-loop-i : goal.invariant-loop-i
invariant-loop-i l = (l.s ≡ sets l.initial.s 20 (words_bytes (take l.i l.words))) × (length l.words ≤ most_words)
