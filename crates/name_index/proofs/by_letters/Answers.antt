use Prim.Native.Nat.{max}
use mathlib.Core.Path.{ap, ◌∙◌}
use native.Mathlib.Omega.{arith}
use Rattle.name_index.proofs.Order.{decided_start, decided_turn, decided_inside, decided_over, decided_nowhere, decided_here}
use Rattle.name_index.proofs.by_letters.Goals as goal

pub loop-i-init : goal.loop-i-init
loop-i-init c = (c.requires.0, c.requires.1, omega arith, omega arith, decided_start _ _)

pub loop-i-preserved : goal.loop-i-preserved
loop-i-preserved c = let a = c.args in
    let l = c.loop-i in
    let e = l.invariant.0 in
    let t = c.loop-i-test.true in
    let last = c.max-last.ensures ∙ ap (max l.last) c.differing.ensures in (
      e,
      l.invariant.1,
      omega (arith, t),
      rw last (decided_inside a.a.now a.b.now l.i l.last t (omega (arith, e, t)) l.invariant.3),
      rw last (decided_turn a.a.now a.b.now l.i l.last t (omega (arith, e, t)) l.invariant.3) ∙ l.invariant.4,
    )

pub returns-then-last-eq0 : goal.returns-then-last-eq0
returns-then-last-eq0 c = let a = c.args in
    let l = c.loop-i in
    let e = l.invariant.0 in
    let t = c.loop-i-test.false in
    decided_nowhere a.a.now a.b.now l.last c.if-last-eq0.true ∙ decided_over a.a.now a.b.now l.i l.last t (omega (arith, e, t)) ∙ l.invariant.4

pub returns : goal.returns
returns c = let a = c.args in
    let l = c.loop-i in
    let e = l.invariant.0 in
    let t = c.loop-i-test.false in
    c.cmp.ensures ∙ decided_here a.a.now a.b.now l.last c.if-last-eq0.false ∙ decided_over a.a.now a.b.now l.i l.last t (omega (arith, e, t)) ∙ l.invariant.4
