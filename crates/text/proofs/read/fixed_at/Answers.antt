use mathlib.Core.Path.{◌≡◌, refl, ◌∙◌}
use native.Mathlib.Omega.{arith}
use lib.ListN.{length, drop}
use Rattle.std.proofs.lemmas.List.{drop-drop}
use Rattle.text.proofs.Turns.{fixed_over, there_short, there_other, there_turn}
use Rattle.text.proofs.read.fixed_at.Goals as goal

pub returns-then-there-string-clause-read : goal.returns-then-there-string-clause-read
returns-then-there-string-clause-read c =
    there_short c.args.string.now (drop c.args.at c.args.s.now) (rw c.part-there.ensures at c.if-there-string.true)

pub loop-k-init : goal.loop-k-init
loop-k-init c = refl

pub returns-then-there-k-clause-read : goal.returns-then-there-k-clause-read
returns-then-there-k-clause-read c =
    there_other c.args.string.now (drop c.args.at c.args.s.now) c.loop-k.k _ c.part-there.ensures c.if-there-string.false c.loop-k-test.true c.if-there-k.true
    ∙ c.loop-k.invariant

pub loop-k-preserved : goal.loop-k-preserved
loop-k-preserved c =
    there_turn c.args.string.now (drop c.args.at c.args.s.now) c.loop-k.k _ c.part-there.ensures c.if-there-string.false c.loop-k-test.true c.if-there-k.false
    ∙ c.loop-k.invariant

pub returns-clause-read : goal.returns-clause-read
returns-clause-read c =
    let done : c.loop-k.k ≡ length c.args.string.now = omega (arith, c.loop-k-test.false, c.loop-k.auto.k-end) in
    rw (← drop-drop (length c.args.string.now) c.args.at c.args.s.now, ← done)
    (fixed_over c.args.string.now (drop c.args.at c.args.s.now) c.loop-k.k c.loop-k.k c.loop-k-test.false ∙ c.loop-k.invariant)
