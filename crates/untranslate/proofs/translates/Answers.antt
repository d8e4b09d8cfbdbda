use mathlib.Core.Path.{refl}
use Rattle.untranslate.proofs.Again.{again_compared}
use Rattle.untranslate.proofs.translates.Goals as goal

pub returns : goal.returns
returns c = λ x formed same few small. again_compared _ _ _ _ _ refl _ _ c.translate.ensures x formed same few small _ c.in-Some.is c.if-again-t.false c.if-again-orders.false _ c.same.ensures
