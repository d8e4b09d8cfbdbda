use Prim.Native.Nat.{◌/◌, ◌%◌}
use mathlib.Core.Path.{◌≡◌, sym, ap, ◌∙◌}
use lib.ListN.{get_or}
use Rattle.source.specs.Program.{number_at}
use Rattle.labels.specs.Memory.{spot_numbers, spot_in}
use Rattle.labels.proofs.Finding.{found_here, found_turn, found_over}
use Rattle.labels.proofs.number_of.Goals as goal

pub returns-then-e-l : goal.returns-then-e-l
returns-then-e-l c =
    let e = c.at-e.ensures in
    let z : c.at-e.result / spot_numbers ≡ c.args.l = c.if-e-l.true in
    found_here (λ j. get_or c.args.labels.now j 0) _ _ _ _ c.loop-i-test.true (ap (λ n. n / spot_numbers) (sym e) ∙ z) _ (c.number_at.ensures ∙ ap (λ k. number_at c.args.next (spot_in c.args.next (k % spot_numbers))) e) ∙ c.loop-i.invariant

pub loop-i-preserved : goal.loop-i-preserved
loop-i-preserved c =
    found_turn (λ j. get_or c.args.labels.now j 0) _ _ _ _ c.loop-i-test.true (λ z. c.if-e-l.false (ap (λ n. n / spot_numbers) c.at-e.ensures ∙ z)) ∙ c.loop-i.invariant

pub returns : goal.returns
returns c = found_over (λ j. get_or c.args.labels.now j 0) c.args.next c.args.count c.loop-i.i c.args.l c.loop-i-test.false ∙ c.loop-i.invariant
