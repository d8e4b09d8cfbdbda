use Rattle.skimp_state.proofs.Bytes.{put_four}
use Rattle.skimp_state.proofs.store_word.Goals as goal

pub returns : goal.returns
returns c =
    rw (c.put-4.ensures, c.put-3.ensures, c.put-2.ensures, c.put.ensures, c.to_be_bytes.ensures) (put_four _ _ _)
