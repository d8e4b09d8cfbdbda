use Rattle.std.proofs.Common.{arith}
use Rattle.word.specs.Word.{difference, wrap}
use Rattle.word_arithmetic.proofs.sub.Goals as goal

-- the supplied function says which number, with b added, wraps to a: there is one below 2 to the 32
pub returns : goal.returns
unfolding difference wrap
returns c = omega arith
