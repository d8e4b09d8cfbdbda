use mathlib.Core.Path.{refl, sym, ap, ap₂, ◌∙◌}
use native.Mathlib.Omega.{arith}
use lib.ListN.{length-set}
use Rattle.base.proofs.Places.{each_none}
use Rattle.source.specs.Memory.{token_of, lexeme_of}
use Rattle.source.specs.Program.{looked_up}
use Rattle.names.proofs.Lookups.{token_in, lexeme_in, look_more, look_over}
use Rattle.names.proofs.look_up.Goals as goal

pub loop-i-init : goal.loop-i-init
loop-i-init c = let a = c.args in (refl, λ ns filled held. each_none (token_in a.tokens.now.kinds.now a.words.now) (λ j. looked_up ns (lexeme_in a.cells.now a.tokens.now.kinds.now a.tokens.now.values.now j)) 0)

pub loop-i-preserved : goal.loop-i-preserved
loop-i-preserved c = let a = c.args in
    let l = c.loop-i in
    let t = c.loop-i-test.true in
    let end = c.min-i-end.ensures in
    let same = l.invariant.0 in
    let k = c.at-kind.ensures in
    let v = c.at-value.ensures in (
      length-set l.words _ _ ∙ same,
      λ ns filled held.
          let s = ap (λ n. token_of n c.seen.result) (sym k) ∙ c.seen.ensures ns filled held ∙ ap₂ (λ n m. looked_up ns (lexeme_of a.cells.now n m)) k v in
          look_more a.tokens.now.kinds.now l.words (λ j. looked_up ns (lexeme_in a.cells.now a.tokens.now.kinds.now a.tokens.now.values.now j)) l.i c.seen.result (omega (arith, t, end, same)) s (l.invariant.1 ns filled held),
    )

pub returns-clause-seen : goal.returns-clause-seen
returns-clause-seen c = let a = c.args in
    let l = c.loop-i in
    λ ns filled held. look_over ns a.cells.now a.tokens.now.kinds.now a.tokens.now.values.now l.words _ l.i (omega arith) (omega arith) (l.invariant.1 ns filled held)
