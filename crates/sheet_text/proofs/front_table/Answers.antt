use mathlib.Core.Path.{refl}
use Rattle.base.specs.Text.{bytes}
use Rattle.sheet_text.proofs.front_table.Goals as goal

pub returns : goal.returns
unfolding bytes
returns c = refl
