use Rattle.names.proofs.Lookups.{send_word_law, other_word}
use Rattle.names.proofs.word_of.Goals as goal

pub returns-then-is_send : goal.returns-then-is_send
returns-then-is_send c = let a = c.args in λ ns filled held. send_word_law ns a.name.now _ c.is_send.ensures c.if-is_send.true

pub returns : goal.returns
returns c = let a = c.args in λ ns filled held. other_word ns a.name.now _ c.is_send.ensures _ c.if-is_send.false (c.find.ensures.found ns filled held)
