use Rattle.base.proofs.Cases.{cases}
use Rattle.word.specs.Word.{shift_left, wrap}
use Rattle.word_arithmetic.proofs.shl.Goals as goal

pub returns-then-n-lt-SHIFT_COUNTS : goal.returns-then-n-lt-SHIFT_COUNTS
unfolding shift_left wrap
returns-then-n-lt-SHIFT_COUNTS c = search cases depth 16

pub returns-else-n-lt-SHIFT_COUNTS : goal.returns-else-n-lt-SHIFT_COUNTS
unfolding shift_left
returns-else-n-lt-SHIFT_COUNTS c = search cases depth 16
