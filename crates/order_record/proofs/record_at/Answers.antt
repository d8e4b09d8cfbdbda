use mathlib.Core.Path.{sym, ◌∙◌}
use Rattle.order_record.proofs.Reading.{heading_here, no_heading}
use Rattle.order_record.proofs.record_at.Goals as goal

pub returns-in_err-i : goal.returns-in_err-i
returns-in_err-i c =
    let likely = rw c.part.ensures at c.likely-k.ensures in
    rw c.from_residual.ensures (sym (no_heading _ _ likely (sym c.in_err-i.ensures)))

pub returns : goal.returns
returns c = c.number_after.ensures ∙ sym (heading_here _ _ _ _ (sym c.in_ok-i.ensures))
