use native.Mathlib.Omega.{arith}
use Rattle.grammar_output.proofs.Shifting.{inserted}
use Rattle.grammar_output.proofs.insert.Goals as goal

pub returns : goal.returns
returns c = let l = c.loop-slot in
    let whole = l.auto.slot-items in
    let over = c.loop-slot-test.false in
    inserted _ _ l.slot-index _ _ _ _ l.slot-items c.packed-held.ensures c.requires (omega (arith, whole, over)) l.invariant
