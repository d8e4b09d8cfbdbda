use borrow.Author.Rules.{rules}
use Rattle.untranslate_expression.proofs.Places.{load_told}
use Rattle.untranslate_expression.proofs.loads_word.Goals as goal

pub returns : goal.returns
returns c = load_told _ _ (search rules)
