use Rattle.base.proofs.Cases.{cases}
use Rattle.grammar.proofs.is_fit.Goals as goal

pub returns-then-n-le-MOST_CELLS : goal.returns-then-n-le-MOST_CELLS
returns-then-n-le-MOST_CELLS c = search cases depth 16

pub returns-else-n-le-MOST_CELLS : goal.returns-else-n-le-MOST_CELLS
returns-else-n-le-MOST_CELLS c = search cases depth 16
