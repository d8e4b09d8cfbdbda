use native.Mathlib.Omega.{arith}
use Rattle.grammar_output.proofs.Shifting.{put_behind}
use Rattle.grammar_output.proofs.put.Goals as goal

pub returns : goal.returns
returns c = rw c.packed.ensures.0 (put_behind _ _ _ c.packed.ensures.1 (omega arith))
