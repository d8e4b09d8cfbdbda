use Rattle.std.proofs.Common.{refl}
use Rattle.word.specs.Word.{not_bits}
use Rattle.word_arithmetic.proofs.bit_not.Goals as goal

pub returns : goal.returns
unfolding not_bits
returns c = refl
