use mathlib.Core.Path.{refl}
use Rattle.base.specs.Text.{bytes}
use Rattle.sheet_text.proofs.front_lengths.Goals as goal

pub returns : goal.returns
unfolding bytes
returns c = refl
