use mathlib.Core.Path.{ap, ◌∙◌}
use Rattle.std.proofs.Common.{Ok}
use Rattle.std.proofs.lemmas.Result.{err_from_is_err_and}
use Rattle.cells.proofs.Steps.{told_ending}
use Rattle.cells.proofs.Bytes.{reads_turn, statement_ends, statement_over, last_statement, no_statement, cut_statement}
use Rattle.cells.proofs.gather.Goals as goal

pub loop-i-preserved : goal.loop-i-preserved
loop-i-preserved c = (
  reads_turn _ _ _ _ _ _ c.loop-i.invariant.0 _ _ _ c.loop-i-test.true c.take_byte.auto.cells
      (rw c.in-Some.is at c.in_ok-m.ensures),
  c.take_byte.auto.cells ∙ c.loop-i.invariant.1,
)

pub returns-in_default : goal.returns-in_default
returns-in_default c =
    statement_ends _ _ _ _ _ _ c.loop-i.invariant.0 _ c.loop-i-test.true
    (rw c.in_default.is at c.in_ok-m.ensures)

pub returns-in_err-m : goal.returns-in_err-m
returns-in_err-m c =
    let p = err_from_is_err_and c.from_residual.result c.from_residual.ensures.1 in
    rw (p.1, p.2)
    (statement_over _ _ _ _ _ _ c.loop-i.invariant.0 _ _ c.loop-i-test.true c.in_err-m.ensures)

pub returns-in-Whole : goal.returns-in-Whole
returns-in-Whole c =
    last_statement _ _ _ _ _ _ c.loop-i.invariant.0 c.loop-i-test.false
    (told_ending _ _ _ _ _ _ c.last_held-last.ensures c.at_end.ensures (c.in_ok-at_end.was ∙ ap Ok c.in-Whole.is))

pub returns-in-Nothing : goal.returns-in-Nothing
returns-in-Nothing c =
    no_statement _ _ _ _ _ _ c.loop-i.invariant.0 c.loop-i-test.false
    (told_ending _ _ _ _ _ _ c.last_held-last.ensures c.at_end.ensures (c.in_ok-at_end.was ∙ ap Ok c.in-Nothing.is))

pub returns-in_err-at_end : goal.returns-in_err-at_end
returns-in_err-at_end c =
    let p = err_from_is_err_and c.from_residual-in_err-at_end.result c.from_residual-in_err-at_end.ensures.1 in
    rw (p.1, p.2)
    (cut_statement _ _ _ _ _ _ c.loop-i.invariant.0 c.loop-i-test.false _
    (told_ending _ _ _ _ _ _ c.last_held-last.ensures c.at_end.ensures c.in_err-at_end.was))
