use mathlib.Core.Path.{refl}
use Rattle.skimp_state.specs.State.{words_bytes}
use Rattle.skimp_state.proofs.Bytes.{store_turn}
use Rattle.skimp_state.proofs.store_words.Goals as goal

pub loop-i-init : goal.loop-i-init
unfolding words_bytes
loop-i-init c = (refl, c.requires)

pub loop-i-preserved : goal.loop-i-preserved
loop-i-preserved c =
    let l = c.loop-i in
    (rw (c.store_word.ensures, l.invariant.0) (store_turn _ _ _ c.loop-i-test.true), l.invariant.1)
