use mathlib.Core.Path.{refl}
use native.Mathlib.Omega.{arith}
use Rattle.translate.proofs.Translating.{finishes}
use Rattle.translate.proofs.finish.Goals as goal

pub returns : goal.returns
returns c = finishes _ _ _ _ _ _ _ _ c.note_firsts-n.ensures (omega (arith, c.before.requires.2)) refl c.lead_all.ensures c.largest.ensures
