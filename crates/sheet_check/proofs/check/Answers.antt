use mathlib.Core.Path.{sym, ◌∙◌}
use Rattle.sheet_check.proofs.Passes.{check_yes, check_no, count_few}
use Rattle.sheet_check.proofs.check.Goals as goal

pub accepted-requires : goal.accepted-requires
accepted-requires c = (c.if-fields-gt-MOST_FIELDS.false, c.if-v-gt-MOST_VARIABLES.false, count_few c.args.fields.now _ c.count-n.ensures c.if-fields-gt-MOST_FIELDS.false)

pub returns-then-accepted : goal.returns-then-accepted
returns-then-accepted c = check_yes _ _ _ c.count-n.ensures (sym c.accepted.ensures ∙ c.if-accepted.true)

pub returns-else-accepted : goal.returns-else-accepted
returns-else-accepted c = check_no _ _ _ c.count-n.ensures (sym c.accepted.ensures ∙ c.if-accepted.false)
