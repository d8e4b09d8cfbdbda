use mathlib.Core.Path.{refl, sym}
use native.Mathlib.Omega.{arith}
use Rattle.object_reader.proofs.Scanning.{filling_start, filling_turn, filling_end, filling_over, filling_bad}
use Rattle.object_reader.proofs.read_lines.Goals as goal

pub loop-place-init : goal.loop-place-init
loop-place-init c = (refl, filling_start _ _ _ _ _)

pub loop-place-preserved : goal.loop-place-preserved
loop-place-preserved c =
    let i = c.loop-place.invariant in
    rw (c.noted-scan.ensures, c.put_order.ensures, ← i.0)
    (refl, filling_turn _ _ _ _ _ _ _ i.1 _ _ (omega (arith, i.0)) (sym c.in-Some.ensures))

pub returns-in_default : goal.returns-in_default
returns-in_default c =
    let i = c.loop-place.invariant in
    let both = filling_end _ _ _ _ _ _ _ i.1 (filling_bad _ _ _ _ _ _ _ i.1 (omega (arith, i.0)) (sym c.in_default.ensures)) in
    record { scanned = both.0; ordered = both.1 }

pub returns : goal.returns
returns c =
    let i = c.loop-place.invariant in
    let both = filling_end _ _ _ _ _ _ _ i.1 (filling_over _ _ _ _ _ _ _ i.1 (omega (arith, i.0))) in
    record { scanned = both.0; ordered = both.1 }
