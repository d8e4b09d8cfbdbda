use mathlib.Core.Path.{sym, ap, ◌∙◌}
use borrow.Author.Rules.{rules}
use Rattle.std.proofs.Common.{is_some}
use Rattle.labels.proofs.Setting.{zero_set, great_set, twice_set, one_set}
use Rattle.labels.proofs.set_label.Goals as goal

pub returns-then-l-eq0 : goal.returns-then-l-eq0
returns-then-l-eq0 c = zero_set _ _ _ _ c.if-l-eq0.true

pub returns-then-l-gt-GREATEST_LABEL : goal.returns-then-l-gt-GREATEST_LABEL
returns-then-l-gt-GREATEST_LABEL c = great_set _ _ _ _ c.if-l-eq0.false c.if-l-gt-GREATEST_LABEL.true

pub returns-then-is_some : goal.returns-then-is_some
returns-then-is_some c = twice_set _ _ _ _ c.if-l-eq0.false c.if-l-gt-GREATEST_LABEL.false (ap is_some (sym c.number_of.ensures) ∙ sym c.is_some.ensures ∙ c.if-is_some.true)

pub returns : goal.returns
returns c = one_set _ _ _ _ c.if-l-eq0.false c.if-l-gt-GREATEST_LABEL.false _ c.put.ensures (search rules) (ap is_some (sym c.number_of.ensures) ∙ sym c.is_some.ensures ∙ c.if-is_some.false) c.if-count-ge-LABEL_ROWS.false
