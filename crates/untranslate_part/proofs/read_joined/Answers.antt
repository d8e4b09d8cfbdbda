use Rattle.untranslate_part.proofs.Joined.{joined_none, joined_read}
use Rattle.untranslate_part.proofs.read_joined.Goals as goal

pub returns-in_err-d : goal.returns-in_err-d
returns-in_err-d c = rw c.from_residual.ensures (joined_none _ _ _ _ _ _ c.past_branches-e.ensures c.in_err-d.ensures)

pub returns : goal.returns
returns c = joined_read _ _ _ _ _ _ c.past_branches-e.ensures c.requires _ _ c.in_ok-d.ensures _ _ c.put_field-n.ensures _ _ c.read_condition-m.ensures
