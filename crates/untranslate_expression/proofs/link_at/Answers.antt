use mathlib.Core.Path.{sym, ◌∙◌}
use Rattle.untranslate_expression.proofs.Places.{store_other, store_kept, store_end}
use Rattle.untranslate_expression.proofs.link_at.Goals as goal

pub returns-in-Store : goal.returns-in-Store
returns-in-Store c =
    store_kept c.args.orders.now c.args.at c.args.first c.args.word _ (sym c.in-Store.is ∙ c.order_at.ensures) c.if-w-word.true _
    c.order_at-then-w-word.ensures _ c.loads_leaf.ensures c.if-loads_leaf.true

pub returns-in_default : goal.returns-in_default
returns-in_default c =
    store_end c.args.orders.now c.args.at c.args.first c.args.word _ (sym c.in-Store.is ∙ c.order_at.ensures) c.if-w-word.true _
    c.order_at-then-w-word.ensures _ c.loads_leaf.ensures c.if-loads_leaf.false

pub returns-in_default-2 : goal.returns-in_default-2
returns-in_default-2 c = store_other c.args.orders.now c.args.at c.args.first c.args.word _ (sym c.in-Store.is ∙ c.order_at.ensures) c.if-w-word.false
