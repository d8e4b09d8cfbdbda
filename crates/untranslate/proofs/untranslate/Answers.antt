use Rattle.untranslate.proofs.Sheets.{untranslates, no_sheet, no_translation, a_sheet}
use Rattle.untranslate.proofs.untranslate.Goals as goal

pub returns-in_err-instructions : goal.returns-in_err-instructions
returns-in_err-instructions c = rw c.from_residual.ensures (untranslates _ _ _ _ _ _ c.guess-n.ensures _ (λ os good held long. no_sheet _ _ _ _ _ _ c.guess-n.ensures os good held long _ c.check.ensures c.in_err-instructions.was))

pub returns-then-translates : goal.returns-then-translates
returns-then-translates c = untranslates _ _ _ _ _ _ c.guess-n.ensures _ (λ os good held long. a_sheet _ _ _ _ _ _ c.guess-n.ensures os good held long _ _ c.check.ensures c.in_ok-instructions.was _ c.translates.ensures c.if-translates.true)

pub returns-else-translates : goal.returns-else-translates
returns-else-translates c = untranslates _ _ _ _ _ _ c.guess-n.ensures _ (λ os good held long. no_translation _ _ _ _ _ _ c.guess-n.ensures os good held long _ c.translates.ensures c.if-translates.false)
