use native.Mathlib.Omega.{arith}
use Rattle.std.proofs.lemmas.Result.{err_from_is_err_and}
use Rattle.fields_put.proofs.Leading.{leading_more, leading_stops, leading_ends, led_unfit}
use Rattle.fields_put.proofs.lead_jumps.Goals as goal

pub returns-then-fields-n : goal.returns-then-fields-n
returns-then-fields-n c = let both = (led_unfit _ _ _ _ c.if-fields-n.true) in record { told = both.0; kept = both.1 }

pub returns-in_err-lead_jump : goal.returns-in_err-lead_jump
returns-in_err-lead_jump c =
    let p = err_from_is_err_and c.from_residual.result c.from_residual.ensures.1 in
    let both = (leading_stops _ _ _ _ _ _ c.loop-i.invariant c.loop-i-test.true c.if-fields-n.false _ _ _ c.in_err-lead_jump.was c.lead_jump.ensures) in
    record { told = rw (p.1, p.2) both.0; kept = both.1 }

pub loop-i-preserved : goal.loop-i-preserved
loop-i-preserved c = leading_more _ _ _ _ _ _ c.loop-i.invariant c.loop-i-test.true c.if-fields-n.false _ _ c.in_ok-lead_jump.was c.lead_jump.ensures

pub returns : goal.returns
returns c = let both = (leading_ends _ _ _ _ _ _ c.loop-i.invariant (omega arith) c.loop-i-test.false c.if-fields-n.false) in record { told = both.0; kept = both.1 }
