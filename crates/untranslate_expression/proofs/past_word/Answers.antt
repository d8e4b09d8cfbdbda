use mathlib.Core.Path.{sym, ◌∙◌}
use Rattle.untranslate_expression.proofs.Places.{word_found, word_later, word_never}
use Rattle.untranslate_expression.proofs.past_word.Goals as goal

pub returns-then-loads_word : goal.returns-then-loads_word
returns-then-loads_word c = word_found _ _ _ _ c.loop-j.auto.j c.loop-j.invariant c.loop-j-test.true (sym c.loads_word.ensures ∙ c.if-loads_word.true)

pub loop-j-preserved : goal.loop-j-preserved
loop-j-preserved c = word_later _ _ _ _ c.loop-j.auto.j c.loop-j.invariant c.loop-j-test.true (sym c.loads_word.ensures ∙ c.if-loads_word.false)

pub returns : goal.returns
returns c = word_never _ _ _ _ c.loop-j.auto.j c.loop-j.invariant c.loop-j-test.false _ c.max.ensures
