use Prim.Native.Nat.{◌≤◌}
use mathlib.Core.Path.{◌≡◌}
use mathlib.Core.List.{◌++◌}
use lib.ListN.{length, drop}
use Rattle.order.specs.Limits.{most_words}
use Rattle.skimp_state.specs.State.{words_at}
use Rattle.skimp_state.proofs.load_words.Given as goal

abbrev pub invariant-loop-i : goal.invariant-loop-i
invariant-loop-i l = (l.words ≡ words_at l.i 20 l.s ++ drop l.i l.initial.words) × (length l.words ≡ length l.initial.words) × (length l.initial.words ≤ most_words)
