use Rattle.std.proofs.Common.{refl}
use Rattle.word.specs.Word.{sum, wrap}
use Rattle.word_arithmetic.proofs.add.Goals as goal

pub returns : goal.returns
unfolding sum wrap
returns c = refl
