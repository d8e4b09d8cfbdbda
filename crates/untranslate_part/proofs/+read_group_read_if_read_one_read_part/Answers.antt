use mathlib.Core.Path.{sym, ap, ◌∙◌}
use borrow.Author.Rules.{rules}
use Rattle.std.specs.Prelude.{Some}
use Rattle.untranslate_part.proofs.Choices.{choose_none, choose_one, choose_two}
use Rattle.untranslate_part.proofs.Turns.{turn_whole, turn_missing, turn_asked, reach_more, reach_never, reach_end}
use Rattle.untranslate_part.proofs.+read_group_read_if_read_one_read_part.Goals as goal

pub read_if-returns-in_err-q : goal.read_if-returns-in_err-q
read_if-returns-in_err-q t c = rw c.from_residual.ensures (choose_none _ _ _ _ _ _ _ _ c.in_err-q.ensures)

pub read_if-returns-in-One : goal.read_if-returns-in-One
read_if-returns-in-One t c =
    choose_one _ _ _ _ _ _ _ _ _ _ _ (ap Some (sym c.in-One.is) ∙ c.in_ok-q.ensures) c.read_group-x.ensures _ _ c.put_field-m.ensures

pub read_if-returns-in-Two : goal.read_if-returns-in-Two
read_if-returns-in-Two t c =
    choose_two _ _ _ _ _ _ _ _ _ _ _ _ _ (ap Some (sym c.in-Two.is) ∙ c.in_ok-q.ensures) c.read_group-x-in-Two.ensures _ _ c.read_group-y.ensures _ _ c.put_field-m-in-Two.ensures

pub read_one-returns-in_err-r : goal.read_one-returns-in_err-r
read_one-returns-in_err-r t c = rw c.from_residual.ensures (turn_missing _ _ _ _ _ _ _ _ _ c.begin.ensures c.in_err-r.was)

pub read_one-returns-in-Whole : goal.read_one-returns-in-Whole
read_one-returns-in-Whole t c = turn_whole _ _ _ _ _ _ _ _ _ c.begin.ensures _ (c.in_ok-r.was ∙ ap Some c.in-Whole.is)

pub read_one-returns-in-Asked : goal.read_one-returns-in-Asked
read_one-returns-in-Asked t c = turn_asked _ _ _ _ _ _ _ _ _ c.begin.ensures _ _ (c.in_ok-r.was ∙ ap Some c.in-Asked.is) _ _ c.read_if.ensures

pub read_part-returns-in_default : goal.read_part-returns-in_default
read_part-returns-in_default t c = reach_never _ _ _ _ _ _ _ _ _ _ c.loop-s.invariant.0 c.loop-s-test.true _ _ c.read_one.ensures c.in_default.is

pub read_part-loop-s-preserved : goal.read_part-loop-s-preserved
read_part-loop-s-preserved t c = (reach_more _ _ _ _ _ _ _ _ _ _ c.loop-s.invariant.0 c.loop-s-test.true _ _ c.read_one.ensures _ c.in-Some.is, search rules)

pub read_part-returns : goal.read_part-returns
read_part-returns t c = reach_end _ _ _ _ _ _ _ _ _ _ c.loop-s.invariant.0 c.loop-s-test.false
