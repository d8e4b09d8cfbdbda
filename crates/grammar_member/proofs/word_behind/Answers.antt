use Rattle.base.proofs.Cases.{cases}
use Rattle.grammar_member.specs.Internal.{word_behind}
use Rattle.grammar_member.proofs.word_behind.Goals as goal

pub returns-then-mark_at : goal.returns-then-mark_at
unfolding word_behind
returns-then-mark_at c = search cases depth 16

pub returns-then-mark_at-2 : goal.returns-then-mark_at-2
unfolding word_behind
returns-then-mark_at-2 c = search cases depth 16

pub returns : goal.returns
unfolding word_behind
returns c = search cases depth 16
