use Rattle.untranslate_part.proofs.Whole.{guess_read, guess_made}
use native.Mathlib.Omega.{arith}
use Rattle.untranslate_part.proofs.try_guess.Goals as goal

pub returns : goal.returns
returns c = guess_made _ _ _ _ _ (guess_read _ _ _ _ _ c.number_all.ensures (omega (arith, c.if-orders-gt-MOST_ORDERS.false)) _ _ c.read_part.ensures)
