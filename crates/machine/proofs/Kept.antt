-- What each order keeps, a run keeps.
use Prim.Native.Nat.{ℕ}
use mathlib.Core.Path.{◌≡◌, refl}
use mathlib.Core.List.{List}
use lib.ListN.{get_or}
use Rattle.order.specs.declared.Order.{Order}
use Rattle.order.specs.declared.Order.TheVariants.{Stop}
use Rattle.machine.specs.declared.Registers.{Registers}
use Rattle.machine.specs.Machine.{Machine, machine, Effect, done, failed, ran, next_effect, run}
use Rattle.machine.specs.Internal.{stepped}
use Rattle.machine.proofs.Effects.{Case, case}
use Rattle.machine.proofs.Steps.{Runs, rests, meets, waits, takes, runs}

-- P holds of the machine after the next order, whatever that order does
abbrev pub Keeps : List Order → (Machine → Type 0) → Type 0
Keeps os P =
    (r : Registers) (ws out : List ℕ) (o : Order) (e : Effect)
    → get_or os r.next Stop ≡ o
    → Case r ws out o e
    → P (machine r ws out)
    → P (stepped e (machine r ws out))

module _ (os : List Order) (P : Machine → Type 0) (keeps : Keeps os P) where
  next_keeps : (m : Machine) (e : Effect) → next_effect os m ≡ e → P m → P (stepped e m)
  next_keeps (machine r ws out) e i p = keeps r ws out (get_or os r.next Stop) e refl (rw i at (case r ws out (get_or os r.next Stop))) p

  along : {b k : ℕ} {m left : Machine} → Runs os b m (ran k left) → P m → P left
  along (rests b m ended) p = p
  along (meets b r ws out n going e low high) p = next_keeps (machine r ws out) (failed n) e p
  along (waits m after going e) p = p
  along (takes b k m after left going e q) p = along q (next_keeps m (done after) e p)

  pub kept : (b : ℕ) (m : Machine) (k : ℕ) (left : Machine) → run os b m ≡ ran k left → P m → P left
  kept b m k left e p = along (rw e at (runs os b m)) p
