use mathlib.Core.Path.{refl}
use Rattle.fields_put.proofs.Putting.{push_none, push_whole}
use Rattle.fields_put.proofs.push.Goals as goal

pub returns-then-fields-at : goal.returns-then-fields-at
returns-then-fields-at c = record { told = push_none _ _ _ c.if-fields-at.true; kept = refl }

pub returns : goal.returns
returns c = let both = (push_whole _ _ _ c.if-fields-at.false _ c.store.ensures) in record { told = both.0; kept = both.1 }
