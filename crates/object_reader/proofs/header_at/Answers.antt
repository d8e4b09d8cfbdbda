use mathlib.Core.Path.{refl, sym, ◌∙◌}
use Rattle.base.specs.Text.{bytes}
use Rattle.base.proofs.Cases.{cases}
use Rattle.base.specs.Front.{on_front}
use Rattle.order.specs.Object.{header_at}
use Rattle.object_reader.proofs.Scanning.{bounded}
use Rattle.object_reader.proofs.header_at.Goals as goal

pub returns-in_err-at-clause-found : goal.returns-in_err-at-clause-found
unfolding header_at on_front bytes
returns-in_err-at-clause-found c = rw (c.from_residual.ensures, ← c.in_err-at.ensures.read) refl

pub returns-in_err-variables-clause-found : goal.returns-in_err-variables-clause-found
unfolding header_at on_front bytes
returns-in_err-variables-clause-found c =
    rw (c.from_residual-in_err-variables.ensures, ← c.in_ok-at.ensures.read, ← c.in_err-variables.ensures.read) refl

pub returns-in_err-temporaries-clause-found : goal.returns-in_err-temporaries-clause-found
unfolding header_at on_front bytes
returns-in_err-temporaries-clause-found c =
    rw (c.from_residual-in_err-temporaries.ensures, ← c.in_ok-at.ensures.read, ← c.in_ok-variables.ensures.read, ← c.in_err-temporaries.ensures.read) refl

pub returns-in_err-orders-clause-found : goal.returns-in_err-orders-clause-found
unfolding header_at on_front bytes
returns-in_err-orders-clause-found c =
    rw (c.from_residual-in_err-orders.ensures, ← c.in_ok-at.ensures.read, ← c.in_ok-variables.ensures.read, ← c.in_ok-temporaries.ensures.read, ← c.in_err-orders.ensures.read) refl

pub returns-then-within_limits-clause-found : goal.returns-then-within_limits-clause-found
unfolding header_at on_front bytes
returns-then-within_limits-clause-found c =
    rw (← c.in_ok-at.ensures.read, ← c.in_ok-variables.ensures.read, ← c.in_ok-temporaries.ensures.read, ← c.in_ok-orders.ensures.read)
    (search cases depth 16)

pub returns-then-within_limits-clause-bounded : goal.returns-then-within_limits-clause-bounded
returns-then-within_limits-clause-bounded c = bounded _ _ _ (sym c.within_limits.ensures ∙ c.if-within_limits.true)

pub returns-else-within_limits-clause-found : goal.returns-else-within_limits-clause-found
unfolding header_at on_front bytes
returns-else-within_limits-clause-found c =
    rw (← c.in_ok-at.ensures.read, ← c.in_ok-variables.ensures.read, ← c.in_ok-temporaries.ensures.read, ← c.in_ok-orders.ensures.read)
    (search cases depth 16)
