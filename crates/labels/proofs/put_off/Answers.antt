use Rattle.labels.proofs.Moving.{puts_off}
use Rattle.labels.proofs.put_off.Goals as goal

pub returns : goal.returns
returns c = puts_off _ c.args.g _ _ c.move_spots.ensures
