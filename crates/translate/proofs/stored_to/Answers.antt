use native.Mathlib.Omega.{arith}
use Rattle.translate.proofs.ByNumber.{stores, stores_nothing}
use Rattle.translate.proofs.stored_to.Goals as goal

pub returns-then-x-eq-STORE : goal.returns-then-x-eq-STORE
returns-then-x-eq-STORE c = stores _ _ _ c.if-x-eq-STORE.true _ (omega (arith, c.saturating_sub.ensures))

pub returns-else-x-eq-STORE : goal.returns-else-x-eq-STORE
returns-else-x-eq-STORE c = stores_nothing _ _ _ c.if-x-eq-STORE.false
