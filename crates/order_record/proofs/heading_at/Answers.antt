use mathlib.Core.Path.{refl}
use borrow.Author.Tests.{lt-ltb, le-ltb}
use Rattle.base.specs.Choice.{pick}
use Rattle.order_record.proofs.heading_at.Goals as goal

pub returns-then-k-lt38 : goal.returns-then-k-lt38
unfolding pick
returns-then-k-lt38 c = rw (lt-ltb _ 38 c.if-k-lt38.true, ← c.heading.ensures.row) c.fixed_at.ensures.read

pub returns-else-k-lt38 : goal.returns-else-k-lt38
unfolding pick
returns-else-k-lt38 c = rw (le-ltb _ 38 c.if-k-lt38.false) refl
