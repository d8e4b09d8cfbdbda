use Rattle.std.proofs.Common.{arith}
use Rattle.std.proofs.lemmas.Grind.{common_steps}
use Rattle.source.specs.Grammar.{opens}
use Rattle.grammar_look.proofs.Tokens.mark_at.Goals as goal

pub returns-clause-found : goal.returns-clause-found
unfolding opens
returns-clause-found c = grind (arith, common_steps)
