use mathlib.Core.Path.{sym, ap, ◌∙◌}
use Rattle.std.specs.Prelude.{Some}
use native.Mathlib.Omega.{arith}
use Rattle.untranslate_expression.specs.Internal.{operator_of}
use Rattle.untranslate_expression.proofs.Counting.{no_link}
use Rattle.untranslate_expression.proofs.Along.{link_unary, link_plain, link_kept, link_end, read_done}
use Rattle.untranslate_expression.proofs.+read_expression_read_link.Goals as goal

pub read_expression-returns : goal.read_expression-returns
read_expression-returns t c =
    read_done _ _ _ _ _ _ _ _ _ c.past.ensures c.count_links-links.ensures c.leaf_place-leaf.ensures _ _ c.read_leaf-s.ensures _ _ _ c.loop-q-test.false c.loop-q.invariant.0

pub read_link-returns-then-orders-at : goal.read_link-returns-then-orders-at
read_link-returns-then-orders-at t c = link_end _ _ _ _ _ _ (no_link _ _ _ _ c.if-orders-at.true)

pub read_link-returns-in-Unary : goal.read_link-returns-in-Unary
read_link-returns-in-Unary t c = link_unary _ _ _ _ _ _ _ (ap Some (sym c.in-Unary.is) ∙ c.in-Some.ensures) _ _ c.put_field.ensures

pub read_link-returns-in-Plain : goal.read_link-returns-in-Plain
read_link-returns-in-Plain t c =
    link_plain _ _ _ _ _ _ _ _ (ap Some (sym c.in-Plain.is) ∙ c.in-Some.ensures) _ _ c.put_field-in-Plain.ensures _ _ c.put_field-m.ensures

pub read_link-returns-in-Kept : goal.read_link-returns-in-Kept
read_link-returns-in-Kept t c =
    link_kept _ _ _ _ _ _ (ap Some (sym c.in-Kept.is) ∙ c.in-Some.ensures) c.if-orders-at.false _ (λ h. omega (arith, c.saturating_add.ensures)) _ _ c.read_expression-r.ensures
    _ _ _ c.past.ensures c.past-c.ensures c.past-in-Kept.ensures _ (c.operator_of.ensures ∙ ap operator_of c.order_at.ensures) _ _ c.put_field-in-Kept.ensures

pub read_link-returns-in_default : goal.read_link-returns-in_default
read_link-returns-in_default t c = link_end _ _ _ _ _ _ (sym c.link_at.ensures ∙ c.in_default.is)
