use mathlib.Core.Path.{ap, ◌∙◌}
use Rattle.std.proofs.Common.{Ok}
use Rattle.std.proofs.lemmas.Result.{err_from_is_err_and}
use Rattle.cells.proofs.Steps.{told_change, by_keep, by_skip, some_held, by_shorten, by_end, by_over}
use Rattle.cells.proofs.take_byte.Goals as goal

pub returns-in_err-c : goal.returns-in_err-c
returns-in_err-c c =
    let p = err_from_is_err_and c.from_residual.result c.from_residual.ensures.1 in
    rw (p.1, p.2)
    (by_over _ _ c.requires.0 c.requires.1 _ _ _
    (told_change _ _ _ _ _ _ _ c.last_held-last.ensures c.change_by.ensures c.in_err-c.was))

pub overflow_sub-result : goal.overflow_sub-result
overflow_sub-result c =
    some_held _ _ c.requires.0 c.requires.1 _ _
    (told_change _ _ _ _ _ _ _ c.last_held-last.ensures c.change_by.ensures (c.in_ok-c.was ∙ ap Ok c.in-Shorten.is))

pub returns-in-Keep : goal.returns-in-Keep
returns-in-Keep c =
    rw c.put.ensures
    (by_keep _ _ c.requires.0 c.requires.1 _ _ _ _
    (told_change _ _ _ _ _ _ _ c.last_held-last.ensures c.change_by.ensures (c.in_ok-c.was ∙ ap Ok c.in-Keep.is)))

pub returns-in-Skip : goal.returns-in-Skip
returns-in-Skip c =
    by_skip _ _ c.requires.0 c.requires.1 _ _ _
    (told_change _ _ _ _ _ _ _ c.last_held-last.ensures c.change_by.ensures (c.in_ok-c.was ∙ ap Ok c.in-Skip.is))

pub returns-in-Shorten : goal.returns-in-Shorten
returns-in-Shorten c =
    by_shorten _ _ c.requires.0 c.requires.1 _ _
    (told_change _ _ _ _ _ _ _ c.last_held-last.ensures c.change_by.ensures (c.in_ok-c.was ∙ ap Ok c.in-Shorten.is))

pub returns-in-End : goal.returns-in-End
returns-in-End c =
    by_end _ _ c.requires.0 c.requires.1 _ _
    (told_change _ _ _ _ _ _ _ c.last_held-last.ensures c.change_by.ensures (c.in_ok-c.was ∙ ap Ok c.in-End.is))
