use mathlib.Core.Path.{ap, ◌∙◌}
use Rattle.std.proofs.Common.{Err}
use Rattle.source.specs.Limits.{most_cells}
use Rattle.grammar.proofs.Statements.{form_fit}
use Rattle.front_end_statement.proofs.Forms.{looked_up_law, by_tokens, few_names_told, on_nothing, told_as, told_none, told_unfit}
use Rattle.front_end_statement.proofs.on_tokens.Goals as goal

pub returns-in-Ok : goal.returns-in-Ok
returns-in-Ok c = let a = c.args in
    let short = c.requires.1 in
    λ q h small room.
    let same = looked_up_law q.names a.spelled.now.count most_cells a.cells.now a.spelled.now.kinds.now a.spelled.now.values.now _ (c.look_up.ensures.seen q.names _ h.its_names.named) short in
    by_tokens q a.k a.spelled.now.count a.cells.now a.spelled.now.kinds.now a.spelled.now.values.now _ short same
    (c.dispatch.ensures _ (told_as _ _ _ (c.form_of.ensures.read ∙ form_fit _ _ _ short short) _ c.in-Ok.is) (few_names_told q a.k a.spelled.now.count a.cells.now a.spelled.now.kinds.now a.spelled.now.values.now _ short same) q h small room)

pub returns-in-Err-NoForm : goal.returns-in-Err-NoForm
returns-in-Err-NoForm c = let a = c.args in
    let short = c.requires.1 in
    λ q h small room.
    let same = looked_up_law q.names a.spelled.now.count most_cells a.cells.now a.spelled.now.kinds.now a.spelled.now.values.now _ (c.look_up.ensures.seen q.names _ h.its_names.named) short in
    by_tokens q a.k a.spelled.now.count a.cells.now a.spelled.now.kinds.now a.spelled.now.values.now _ short same
    (on_nothing q a.k _ _ (told_none _ _ _ (c.form_of.ensures.read ∙ form_fit _ _ _ short short) (c.in-Err-NoForm.is ∙ ap Err c.in-Err-NoForm.field-0-is)))

pub returns-in-Err-Unfit : goal.returns-in-Err-Unfit
returns-in-Err-Unfit c =
    let short = c.requires.1 in
    λ q h small room.
    told_unfit _ _ _ (c.form_of.ensures.read ∙ form_fit _ _ _ short short) (c.in-Err-Unfit.is ∙ ap Err c.in-Err-Unfit.field-0-is)
