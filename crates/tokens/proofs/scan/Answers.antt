use mathlib.Core.Path.{refl, ◌∙◌}
use Rattle.std.proofs.lemmas.Result.{err_from_is_err_and}
use Rattle.tokens.proofs.Scanning.{scans_first, scans_turn, scans_wrong, scans_over}
use Rattle.tokens.proofs.scan.Goals as goal

pub loop-at-init : goal.loop-at-init
loop-at-init c = let p = c.requires in (scans_first _ _ _ p.1 p.2, refl, refl)

pub loop-at-preserved : goal.loop-at-preserved
loop-at-preserved c = (
  rw (c.put.ensures, c.put-in-loop-at.ensures, c.stored_of-stored.ensures)
      (scans_turn _ _ _ _ _ c.requires.0 c.loop-at.invariant.0 c.loop-at-test.true _ c.in_ok-one.ensures),
  c.put.auto.items ∙ c.loop-at.invariant.1,
  c.put-in-loop-at.auto.items ∙ c.loop-at.invariant.2,
)

pub returns-in_err-one : goal.returns-in_err-one
returns-in_err-one c =
    let p = err_from_is_err_and c.from_residual.result c.from_residual.ensures.1 in
    rw (p.1, p.2) (scans_wrong _ _ _ _ _ c.requires.0 c.loop-at.invariant.0 c.loop-at-test.true _ c.in_err-one.ensures)

pub returns : goal.returns
returns c = scans_over _ _ _ _ _ c.requires.0 c.loop-at.invariant.0 c.loop-at-test.false
