use Rattle.call_run.proofs.Calls.{left_call}
use Rattle.call_run.proofs.run_with.Goals as goal

pub returns : goal.returns
returns c =
    rw (c.reply.ensures, c.store_words.ensures, c.store_registers.ensures)
    (left_call _ _ _ _ _ _ _ _ _ _ _ c.load_words.ensures c.registers-r.ensures c.run-done.ensures c.requires.fitting)
