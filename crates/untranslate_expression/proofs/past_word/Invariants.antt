use mathlib.Core.Path.{◌≡◌}
use Rattle.untranslate_expression.specs.Internal.{orders_at, past_load}
use Rattle.untranslate_expression.proofs.past_word.Given as goal

abbrev pub invariant-loop-j : goal.invariant-loop-j
invariant-loop-j l = past_load l.word (orders_at l.j l.orders) ≡ past_load l.word (orders_at l.at l.orders)
