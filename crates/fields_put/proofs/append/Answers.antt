use mathlib.Core.Path.{sym, ◌∙◌}
use borrow.Author.Tests.{leb-true}
use Rattle.fields_put.proofs.Putting.{loop_none, loop_more, loop_ends, put_none}
use Rattle.fields_put.proofs.append.Goals as goal

pub returns-then-not-has_places-clause-told : goal.returns-then-not-has_places-clause-told
returns-then-not-has_places-clause-told c = put_none _ _ _ _ c.has_places.ensures c.if-not-has_places.true

pub loop-i-init : goal.loop-i-init
loop-i-init c = loop_none _ _ _ _

pub loop-i-preserved : goal.loop-i-preserved
loop-i-preserved c =
    loop_more _ _ _ _ (leb-true _ _ (sym c.has_places.ensures ∙ c.if-not-has_places.false)) _ _ c.loop-i.invariant c.loop-i-test.true _ _ c.field_in.ensures c.packed.ensures _ c.store.ensures

pub returns-clause-told : goal.returns-clause-told
returns-clause-told c =
    loop_ends _ _ _ _ (leb-true _ _ (sym c.has_places.ensures ∙ c.if-not-has_places.false)) _ _ c.loop-i.invariant c.loop-i-test.false
