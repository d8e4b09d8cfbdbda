-- A run by what its next order does.
use Prim.Native.Nat.{ℕ, zero, suc, ◌≤◌}
use mathlib.Core.Path.{◌≡◌, refl}
use mathlib.Core.List.{List}
use native.Mathlib.Omega.{arith}
use borrow.Author.Tests.{eq-eqb, ne_eqb}
use lib.ListN.{get_or}
use Rattle.base.specs.Choice.{pick}
use Rattle.base.proofs.Cases.{by_equal}
use Rattle.order.specs.declared.Order.{Order}
use Rattle.order.specs.declared.Order.TheVariants.{Stop}
use Rattle.machine.specs.declared.Registers.{Registers}
use Rattle.machine.specs.Machine.{Machine, machine, Effect, done, failed, Run, ran, end_with, ending, next_effect, one_more, faulted, run}
use Rattle.machine.proofs.Effects.{Fate, goes, ends, fails, case, fate}

module _ (os : List Order) (m : Machine) where
  -- "An ended state takes no step and reports its ending again."
  pub ended_stays : (b : ℕ) → (ending m ≡ 0 → ⊥) → run os b m ≡ ran 0 m
  unfolding run pick
  ended_stays zero ended = rw (ne_eqb (ending m) 0 ended)
  ended_stays (suc b) ended = rw (ne_eqb (ending m) 0 ended)

  -- "a faulting order is not counted"; "A fault is met even with no budget left": b may be 0
  pub fault_is_met : (b n : ℕ) → ending m ≡ 0 → next_effect os m ≡ failed n → run os b m ≡ faulted n m
  unfolding run pick
  fault_is_met zero n going e = rw (eq-eqb (ending m) 0 going, e)
  fault_is_met (suc b) n going e = rw (eq-eqb (ending m) 0 going, e)

  pub no_budget : (after : Machine) → ending m ≡ 0 → next_effect os m ≡ done after → run os 0 m ≡ ran 0 m
  unfolding run pick
  no_budget after going e = rw (eq-eqb (ending m) 0 going, e)

  -- "One order carried out is one step"
  pub one_order : (b : ℕ) (after : Machine) → ending m ≡ 0 → next_effect os m ≡ done after → run os (suc b) m ≡ one_more (run os b after)
  unfolding run pick
  one_order b after going e = rw (eq-eqb (ending m) 0 going, e)

-- the fate of the next order
pub next_fate : (os : List Order) (r : Registers) (ws out : List ℕ) → Fate r ws out (next_effect os (machine r ws out))
next_fate os r ws out = fate (case r ws out (get_or os r.next Stop))

pub fault_numbers : {r : Registers} {ws out : List ℕ} {e : Effect} (n : ℕ) → Fate r ws out e → e ≡ failed n → (1 ≤ n) × (n ≤ 4)
fault_numbers n (goes s vs left _ _ _) e = let z : ◌≡◌ {A = ℕ} 0 1 = cc in absurd (omega arith)
fault_numbers n ends e = let z : ◌≡◌ {A = ℕ} 0 1 = cc in absurd (omega arith)
fault_numbers n (fails k low high) e = let i : k ≡ n = cc in (omega arith, omega arith)

-- ---- the ways of a run

-- a run with a budget from a machine, and what it comes to
pub data Runs (os : List Order) : ℕ → Machine → Run → Type 0 where
  rests : (b : ℕ) (m : Machine) → (ending m ≡ 0 → ⊥) → Runs os b m (ran 0 m)
  meets :
      (b : ℕ) (r : Registers) (ws out : List ℕ) (n : ℕ)
      → r.ending ≡ 0
      → next_effect os (machine r ws out) ≡ failed n
      → 1 ≤ n
      → n ≤ 4
      → Runs os b (machine r ws out) (ran 0 (machine (end_with n r) ws out))
  waits : (m after : Machine) → ending m ≡ 0 → next_effect os m ≡ done after → Runs os 0 m (ran 0 m)
  takes :
      (b k : ℕ) (m after left : Machine)
      → ending m ≡ 0
      → next_effect os m ≡ done after
      → Runs os b after (ran k left)
      → Runs os (suc b) m (ran (suc k) left)

module _ (os : List Order) where
  one_taken : (b : ℕ) (m after : Machine) (x : Run) → ending m ≡ 0 → next_effect os m ≡ done after → Runs os b after x → Runs os (suc b) m (one_more x)
  one_taken b m after (ran k left) going e p = takes b k m after left going e p

  met :
      (b : ℕ) (r : Registers) (ws out : List ℕ) (n : ℕ)
      → r.ending ≡ 0
      → next_effect os (machine r ws out) ≡ failed n
      → Runs os b (machine r ws out) (faulted n (machine r ws out))
  met b r ws out n going e =
      let few = fault_numbers n (next_fate os r ws out) e in meets b r ws out n going e few.0 few.1

  going_on :
      (b : ℕ) (r : Registers) (ws out : List ℕ) (e : Effect)
      → r.ending ≡ 0
      → next_effect os (machine r ws out) ≡ e
      → ((after : Machine) → Runs os b after (run os b after))
      → Runs os (suc b) (machine r ws out) (run os (suc b) (machine r ws out))
  going_on b r ws out (done after) going e rec = rw (one_order os (machine r ws out) b after going e) (one_taken b (machine r ws out) after _ going e (rec after))
  going_on b r ws out (failed n) going e rec = rw (fault_is_met os (machine r ws out) (suc b) n going e) (met (suc b) r ws out n going e)

  at_once :
      (r : Registers) (ws out : List ℕ) (e : Effect)
      → r.ending ≡ 0
      → next_effect os (machine r ws out) ≡ e
      → Runs os 0 (machine r ws out) (run os 0 (machine r ws out))
  at_once r ws out (done after) going e = rw (no_budget os (machine r ws out) after going e) (waits (machine r ws out) after going e)
  at_once r ws out (failed n) going e = rw (fault_is_met os (machine r ws out) 0 n going e) (met 0 r ws out n going e)

  at_rest : (b : ℕ) (m : Machine) → (ending m ≡ 0 → ⊥) → Runs os b m (run os b m)
  at_rest b m ended = rw (ended_stays os m b ended) (rests b m ended)

  pub runs : (b : ℕ) (m : Machine) → Runs os b m (run os b m)
  runs zero (machine r ws out) =
      by_equal r.ending 0 (λ going. at_once r ws out _ going refl) (λ ended. at_rest zero (machine r ws out) ended)
  runs (suc b) (machine r ws out) =
      by_equal r.ending 0 (λ going. going_on b r ws out _ going refl (λ after. runs b after)) (λ ended. at_rest (suc b) (machine r ws out) ended)
