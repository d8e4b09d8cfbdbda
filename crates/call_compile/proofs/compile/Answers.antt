use mathlib.Core.Path.{refl, ap, ◌∙◌}
use Rattle.std.proofs.Common.{Err}
use Rattle.front_end.proofs.Fit.{is_fit}
use Rattle.call_compile.proofs.Sources.{refused_call_law, sheet_call_law, never_unfit}
use Rattle.call_compile.proofs.compile.Goals as goal

pub returns-in-Ok : goal.returns-in-Ok
returns-in-Ok c =
    let read = c.read in
    sheet_call_law _ read.result _ (read.ensures.told ∙ is_fit _ _ refl) _ _ _ _ c.in-Ok.is read.ensures.kept
    (rw c.front.ensures at c.write_object.ensures)

pub returns-in-Err-Refused : goal.returns-in-Err-Refused
returns-in-Err-Refused c =
    let read = c.read in
    rw (c.reply.ensures, c.number.ensures, c.in-Err-Refused.refusal-is, c.in-Err-Refused.place-is) (refused_call_law _ read.result _ (read.ensures.told ∙ is_fit _ _ refl) _ _ _ (c.in-Err-Refused.is ∙ ap Err c.in-Err-Refused.field-0-is))

pub returns-in-Err-Unfit : goal.returns-in-Err-Unfit
returns-in-Err-Unfit c =
    let read = c.read in
    never_unfit c.args.source.now read.result _ (read.ensures.told ∙ is_fit _ _ refl) (c.in-Err-Unfit.is ∙ ap Err c.in-Err-Unfit.field-0-is)
