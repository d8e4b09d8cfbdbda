use Rattle.skimp_state.proofs.Bytes.{put_registers}
use Rattle.skimp_state.proofs.store_registers.Goals as goal

pub returns : goal.returns
returns c =
    rw (c.store_word-5.ensures, c.store_word-4.ensures, c.store_word-3.ensures, c.store_word-2.ensures, c.store_word.ensures) (put_registers _ _)
