use mathlib.Core.Path.{sym, ◌∙◌}
use Rattle.translate_size.proofs.Counting.{leaf_counted, no_leaf}
use Rattle.translate_size.proofs.leaf_size.Goals as goal

pub returns-in-Some : goal.returns-in-Some
returns-in-Some c = λ none. leaf_counted _ _ _ (sym c.in-Some.is ∙ c.right_at.ensures.found)

pub returns-in-None : goal.returns-in-None
returns-in-None c = λ none. no_leaf _ _ (sym c.in-None.is ∙ c.right_at.ensures.found) none
