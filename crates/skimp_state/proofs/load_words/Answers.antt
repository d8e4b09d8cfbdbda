use Prim.Native.Nat.{◌<◌}
use mathlib.Core.Path.{refl, ◌∙◌}
use native.Mathlib.Omega.{arith}
use lib.ListN.{length, length-set}
use Rattle.skimp_state.specs.State.{words_at}
use Rattle.skimp_state.proofs.Bytes.{load_turn}
use Rattle.skimp_state.proofs.load_words.Goals as goal

pub loop-i-init : goal.loop-i-init
unfolding words_at
loop-i-init c = (refl, refl, c.requires)

pub loop-i-preserved : goal.loop-i-preserved
loop-i-preserved c =
    let l = c.loop-i in
    let h : l.i < length c.args.words.now = omega (arith, l.invariant.1, c.loop-i-test.true) in (
      rw (l.invariant.0, c.load_word.ensures) (load_turn _ _ _ h),
      length-set l.words l.i c.load_word.result ∙ l.invariant.1,
      l.invariant.2,
    )
