use mathlib.Core.Path.{refl}
use Rattle.skimp_state.proofs.Bytes.{number_eight}
use Rattle.skimp_state.proofs.registers.Goals as goal

pub returns : goal.returns
returns c =
    rw (← number_eight _, c.load_word-high.ensures, c.load_word.ensures, c.load_word-2.ensures, c.load_word-3.ensures, c.load_word-4.ensures) refl
