use Rattle.translate_condition.proofs.Tries.{all_asked}
use Rattle.translate_condition.proofs.put_asking.Goals as goal

pub returns : goal.returns
returns c = all_asked _ _ _ _ _ _ _ _ _ _ c.put_cond-j.ensures _ _ c.put_condition.ensures
