use Rattle.std.proofs.Common.{refl}
use Rattle.word.specs.Word.{product, wrap}
use Rattle.word_arithmetic.proofs.mul.Goals as goal

pub returns : goal.returns
unfolding product wrap
returns c = refl
