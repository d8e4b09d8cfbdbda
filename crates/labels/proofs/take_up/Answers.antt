use Rattle.labels.proofs.Moving.{takes_up}
use Rattle.labels.proofs.take_up.Goals as goal

pub returns : goal.returns
returns c = takes_up _ c.args.g _ _ c.move_spots.ensures
