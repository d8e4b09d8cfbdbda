use Rattle.tokens_fixed.proofs.Signs.{pair_sign}
use Rattle.tokens_fixed.proofs.sign_at.Goals as goal

pub returns-in-Some : goal.returns-in-Some
returns-in-Some c = pair_sign _ _ _ _ (rw c.at-d.ensures at c.in-Some.ensures.pair) c.in-Some.ensures.no_name
