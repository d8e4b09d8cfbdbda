use mathlib.Core.Path.{sym, ap, ◌∙◌}
use Prim.Native.Nat.{◌+◌}
use native.Mathlib.Omega.{arith}
use Rattle.name_index.specs.Order.{side_of}
use Rattle.name_index.specs.Memory.{number_in, name_in}
use Rattle.name_index.proofs.Search.{search_here, search_first, search_second, search_over, search_few, word_found}
use Rattle.name_index.proofs.find.Goals as goal

pub loop-left-preserved-in-Less : goal.loop-left-preserved-in-Less
loop-left-preserved-in-Less c = let a = c.args in
    let l = c.loop-left in
    let inside = l.invariant.0 in
    let few = l.invariant.1 in
    let t = c.loop-left-test.true in
    let e = sym (c.compare.ensures ∙ ap (side_of a.name.now) (c.part-declared.ensures ∙ ap (name_in a.letters.now) c.at-row.ensures)) ∙ c.in-Less.is in
    (omega (arith, inside), omega (arith, few, t), search_first l.comparisons l.invariant.2 t e)

pub returns-in-Equal : goal.returns-in-Equal
returns-in-Equal c = let a = c.args in
    let l = c.loop-left in
    let t = c.loop-left-test.true in
    let e = sym (c.compare.ensures ∙ ap (side_of a.name.now) (c.part-declared.ensures ∙ ap (name_in a.letters.now) c.at-row.ensures)) ∙ c.in-Equal.is in
    let made = search_here l.comparisons l.invariant.2 t _ (ap (λ row. number_in row + 2) c.at-row.ensures) e in
    record { made = made; few = search_few made; found = λ ns filled held. word_found held a.name.now made }

pub loop-left-preserved : goal.loop-left-preserved
loop-left-preserved c = let a = c.args in
    let l = c.loop-left in
    let inside = l.invariant.0 in
    let few = l.invariant.1 in
    let t = c.loop-left-test.true in
    let e = sym (c.compare.ensures ∙ ap (side_of a.name.now) (c.part-declared.ensures ∙ ap (name_in a.letters.now) c.at-row.ensures)) ∙ c.in-Greater.is in
    (omega (arith, inside, t), omega (arith, few, t), search_second l.comparisons l.invariant.2 t e)

pub returns : goal.returns
returns c = let a = c.args in
    let l = c.loop-left in
    let made = search_over l.comparisons l.invariant.2 c.loop-left-test.false in
    record { made = made; few = search_few made; found = λ ns filled held. word_found held a.name.now made }
