use mathlib.Core.Path.{◌∙◌}
use Rattle.base.specs.Text.{bytes}
use Rattle.names.proofs.Lookups.{told_apart}
use Rattle.names.proofs.is_send.Goals as goal

pub returns : goal.returns
unfolding bytes
returns c = c.is_eq.ensures ∙ told_apart _ _ _ c.compare.ensures
