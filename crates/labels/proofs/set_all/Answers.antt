use mathlib.Core.Path.{ap, subst, ◌∙◌}
use native.Mathlib.Omega.{arith}
use Rattle.std.proofs.lemmas.Result.{err_from_is_err_and}
use Rattle.source.specs.Memory.{token_carried}
use Rattle.labels.specs.Memory.{label_here}
use Rattle.labels.specs.Internal.{InRows}
use Rattle.labels.proofs.Setting.{loop_fails, loop_more, loop_ends}
use Rattle.labels.proofs.set_all.Goals as goal

pub returns-in_err-set : goal.returns-in_err-set
returns-in_err-set c =
    let p = err_from_is_err_and c.from_residual.result c.from_residual.ensures.1 in
    let here = c.value_of-l.ensures ∙ ap token_carried c.token_at.ensures in
    rw (p.1, p.2) (record {
      kept = c.set_label.ensures.kept ∙ c.loop-i.invariant.0;
      told = λ room. loop_fails _ _ _ (label_here c.args.tokens.now.kinds.now c.args.tokens.now.values.now) _ _ _ _ _ here c.loop-i-test.true _ _ _ c.in_err-set.was c.loop-i.invariant.0 room (c.loop-i.invariant.3 room) c.set_label.ensures;
    })

pub loop-i-preserved : goal.loop-i-preserved
loop-i-preserved c =
    let here = c.value_of-l.ensures ∙ ap token_carried c.token_at.ensures in (
      c.set_label.ensures.kept ∙ c.loop-i.invariant.0,
      let q = subst (InRows _) c.in_ok-set.was c.set_label.ensures.in_rows in omega (arith, q.0, c.loop-i.invariant.1),
      let q = subst (InRows _) c.in_ok-set.was c.set_label.ensures.in_rows in omega (arith, q.1),
      λ room. loop_more _ _ _ (label_here c.args.tokens.now.kinds.now c.args.tokens.now.values.now) _ _ _ _ _ here c.loop-i-test.true _ _ _ c.in_ok-set.was c.loop-i.invariant.0 room (c.loop-i.invariant.3 room) c.set_label.ensures,
    )

pub returns : goal.returns
returns c = record { kept = c.loop-i.invariant.0; told = λ room. loop_ends _ _ _ (label_here c.args.tokens.now.kinds.now c.args.tokens.now.values.now) _ _ _ _ c.loop-i-test.false (c.loop-i.invariant.3 room) }
