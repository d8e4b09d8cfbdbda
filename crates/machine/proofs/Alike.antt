-- Two lists of orders that agree at every place run alike: zeros behind a program are STOP, as places outside it are.
use Prim.Native.Nat.{ℕ}
use mathlib.Core.Path.{◌≡◌, sym, ap, ◌∙◌}
use mathlib.Core.List.{List}
use lib.ListN.{get_or}
use Rattle.order.specs.declared.Order.{Order}
use Rattle.order.specs.declared.Order.TheVariants.{Stop}
use Rattle.machine.specs.Machine.{Machine, machine, Run, one_more, effect, next_effect, run}
use Rattle.machine.proofs.Steps.{ended_stays, fault_is_met, no_budget, one_order, Runs, rests, meets, waits, takes, runs}

module _ (os os' : List Order) (alike : (k : ℕ) → get_or os k Stop ≡ get_or os' k Stop) where
  next_alike : (m : Machine) → next_effect os' m ≡ next_effect os m
  next_alike (machine r ws out) = ap (λ o. effect o (machine r ws out)) (sym (alike r.next))

  comes_to : {b : ℕ} {m : Machine} {x : Run} → Runs os b m x → run os' b m ≡ x
  comes_to (rests b m ended) = ended_stays os' m b ended
  comes_to (meets b r ws out n going e low high) = fault_is_met os' (machine r ws out) b n going (next_alike (machine r ws out) ∙ e)
  comes_to (waits m after going e) = no_budget os' m after going (next_alike m ∙ e)
  comes_to (takes b k m after left going e p) = one_order os' m b after going (next_alike m ∙ e) ∙ ap one_more (comes_to p)

  pub run_same : (b : ℕ) (m : Machine) → run os b m ≡ run os' b m
  run_same b m = sym (comes_to (runs os b m))
