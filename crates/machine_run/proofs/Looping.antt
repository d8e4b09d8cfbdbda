-- The loop of the function `run`: its invariant, and what each way out of it leaves.
use Prim.Native.Nat.{ℕ, suc, ◌+◌, ◌-◌, ◌<◌, ◌≤◌}
use mathlib.Core.Path.{◌≡◌, refl, sym, ap, ◌∙◌}
use mathlib.Core.List.{List}
use native.Mathlib.Omega.{arith}
use native.Mathlib.Nat.{add-zero, sub-zero}
use lib.ListN.{length}
use Rattle.order.specs.declared.Order.{Order}
use Rattle.machine.specs.declared.Registers.{Registers}
use Rattle.machine.specs.Machine.{Machine, machine, Effect, done, failed, Run, ran, end_with, next_effect, one_more, run}
use Rattle.machine.specs.Internal.{stepped, fault_of}
use Rattle.machine.proofs.Effects.{Fate, goes, ends, fails}
use Rattle.machine.proofs.Steps.{ended_stays, fault_is_met, no_budget, one_order, next_fate}

-- k steps more
abbrev more : ℕ → Run → Run
more k (ran j m) = ran (k + j) m

more_one : (k : ℕ) (x : Run) → more k (one_more x) ≡ more (k + 1) x
more_one k (ran j m) = ap (λ n. ran n m) (omega arith)

none_more : (x : Run) → more 0 x ≡ x
none_more (ran j m) = ap (λ n. ran n m) (omega arith)

-- what holds of a run that has taken some steps and goes on: the rest of it leads where the whole does
pub record Loop (os : List Order) (budget : ℕ) (r₀ : Registers) (ws₀ out₀ : List ℕ) (steps : ℕ) (r : Registers) (ws out : List ℕ) : Type 0 where
  pub within : steps ≤ budget
  pub going : r.ending ≡ 0
  pub same_words : length ws ≡ length ws₀
  pub same_output : length out ≡ length out₀
  pub same : more steps (run os (budget - steps) (machine r ws out)) ≡ run os budget (machine r₀ ws₀ out₀)

pub start : (os : List Order) (budget : ℕ) (r : Registers) (ws out : List ℕ) → r.ending ≡ 0 → Loop os budget r ws out 0 r ws out
start os budget r ws out going =
    record { within = omega arith; going = going; same_words = refl; same_output = refl; same = rw (sub-zero budget) (none_more (run os budget (machine r ws out))) }

-- the registers, words and output that make a machine
parts : {r s : Registers} {ws vs out left : List ℕ} → machine r ws out ≡ machine s vs left → (r ≡ s) × (ws ≡ vs) × (out ≡ left)
parts e = (cc, cc, cc)

lengths :
    (r : Registers) (ws out : List ℕ) {e : Effect} (s : Registers) (vs left : List ℕ)
    → Fate r ws out e
    → machine s vs left ≡ stepped e (machine r ws out)
    → (length vs ≡ length ws) × (length left ≡ length out)
lengths r ws out s vs left (goes s₁ vs₁ left₁ _ v l) e = (ap length (parts e).1 ∙ v, ap length (parts e).2 ∙ l)
lengths r ws out s vs left ends e = (ap length (parts e).1, ap length (parts e).2)
lengths r ws out s vs left (fails n _ _) e = (ap length (parts e).1, ap length (parts e).2)

-- what a step from a machine that goes on makes of its run
data Turn (os : List Order) (b : ℕ) (m : Machine) (s : Registers) (vs left : List ℕ) : Type 0 where
  on : s.ending ≡ 0 → run os (suc b) m ≡ one_more (run os b (machine s vs left)) → Turn os b m s vs left
  stop : s.ending ≡ 20 → run os (suc b) m ≡ ran 1 (machine s vs left) → Turn os b m s vs left
  fault : 1 ≤ s.ending → s.ending ≤ 4 → run os (suc b) m ≡ ran 0 (machine s vs left) → Turn os b m s vs left

ended : {r s : Registers} {ws vs out left : List ℕ} → machine r ws out ≡ machine s vs left → r.ending ≡ s.ending
ended e = ap (λ (t : Registers). t.ending) (parts e).0

turn :
    (os : List Order) (b : ℕ) (r : Registers) (ws out : List ℕ) (s : Registers) (vs left : List ℕ) {e : Effect}
    → r.ending ≡ 0
    → next_effect os (machine r ws out) ≡ e
    → machine s vs left ≡ stepped e (machine r ws out)
    → Fate r ws out e
    → Turn os b (machine r ws out) s vs left
turn os b r ws out s vs left going e i (goes s₁ vs₁ left₁ z _ _) =
    on (ended i ∙ z ∙ going) (one_order os (machine r ws out) b _ going e ∙ ap (λ m. one_more (run os b m)) (sym i))
turn os b r ws out s vs left going e i ends =
    stop
    (ended i)
    (one_order os (machine r ws out) b _ going e
    ∙ ap one_more (ended_stays os (machine (end_with 20 r) ws out) b (λ z. omega arith))
    ∙ ap (λ m. ran 1 m) (sym i))
turn os b r ws out s vs left going e i (fails n low high) =
    let is = ended i in
    fault (omega arith) (omega arith) (fault_is_met os (machine r ws out) (suc b) n going e ∙ ap (λ m. ran 0 m) (sym i))

module _ (os : List Order) (budget : ℕ) (r₀ : Registers) (ws₀ out₀ : List ℕ) (steps : ℕ) (r : Registers) (ws out : List ℕ) where
  -- the run from here, one step of its budget set apart
  from_here :
      (x : Run)
      → Loop os budget r₀ ws₀ out₀ steps r ws out
      → steps < budget
      → run os (suc (budget - (steps + 1))) (machine r ws out) ≡ x
      → more steps x ≡ run os budget (machine r₀ ws₀ out₀)
  from_here x l h e =
      sym (ap (more steps) (ap (λ n. run os n (machine r ws out)) (less steps budget h) ∙ e)) ∙ l.same
    where
      less : (k n : ℕ) → k < n → n - k ≡ suc (n - (k + 1))
      less k n h = omega arith

  module _ (s : Registers) (vs left : List ℕ) where
    turned :
        Loop os budget r₀ ws₀ out₀ steps r ws out
        → machine s vs left ≡ stepped (next_effect os (machine r ws out)) (machine r ws out)
        → Turn os (budget - (steps + 1)) (machine r ws out) s vs left
    turned l e = turn os (budget - (steps + 1)) r ws out s vs left l.going refl e (next_fate os r ws out)

    pub lengths_kept :
        Loop os budget r₀ ws₀ out₀ steps r ws out
        → machine s vs left ≡ stepped (next_effect os (machine r ws out)) (machine r ws out)
        → (length vs ≡ length ws₀) × (length left ≡ length out₀)
    lengths_kept l e =
        let kept = lengths r ws out s vs left (next_fate os r ws out) e in
        (kept.0 ∙ l.same_words, kept.1 ∙ l.same_output)

    on_again :
        Loop os budget r₀ ws₀ out₀ steps r ws out
        → steps < budget
        → s.ending ≡ 0
        → Turn os (budget - (steps + 1)) (machine r ws out) s vs left
        → more (steps + 1) (run os (budget - (steps + 1)) (machine s vs left)) ≡ run os budget (machine r₀ ws₀ out₀)
    on_again l h g (on z i) =
        sym (more_one steps (run os (budget - (steps + 1)) (machine s vs left)))
        ∙ from_here (one_more (run os (budget - (steps + 1)) (machine s vs left))) l h i
    on_again l h g (stop z i) = absurd (omega arith)
    on_again l h g (fault low high i) = absurd (omega arith)

    pub again :
        Loop os budget r₀ ws₀ out₀ steps r ws out
        → steps < budget
        → machine s vs left ≡ stepped (next_effect os (machine r ws out)) (machine r ws out)
        → s.ending ≡ 0
        → Loop os budget r₀ ws₀ out₀ (steps + 1) s vs left
    again l h e g =
        record {
          within = omega arith;
          going = g;
          same_words = (lengths_kept l e).0;
          same_output = (lengths_kept l e).1;
          same = on_again l h g (turned l e);
        }

    stop_counts :
        Loop os budget r₀ ws₀ out₀ steps r ws out
        → steps < budget
        → s.ending ≡ 20
        → Turn os (budget - (steps + 1)) (machine r ws out) s vs left
        → ran (steps + 1) (machine s vs left) ≡ run os budget (machine r₀ ws₀ out₀)
    stop_counts l h g (on z i) = absurd (omega arith)
    stop_counts l h g (stop z i) = from_here (ran 1 (machine s vs left)) l h i
    stop_counts l h g (fault low high i) = absurd (omega arith)

    -- the order was STOP
    pub stopped :
        Loop os budget r₀ ws₀ out₀ steps r ws out
        → steps < budget
        → machine s vs left ≡ stepped (next_effect os (machine r ws out)) (machine r ws out)
        → s.ending ≡ 20
        → ran (steps + 1) (machine s vs left) ≡ run os budget (machine r₀ ws₀ out₀)
    stopped l h e g = stop_counts l h g (turned l e)

    fault_does_not :
        Loop os budget r₀ ws₀ out₀ steps r ws out
        → steps < budget
        → (s.ending ≡ 0 → ⊥)
        → (s.ending ≡ 20 → ⊥)
        → Turn os (budget - (steps + 1)) (machine r ws out) s vs left
        → ran steps (machine s vs left) ≡ run os budget (machine r₀ ws₀ out₀)
    fault_does_not l h g f (on z i) = absurd (g z)
    fault_does_not l h g f (stop z i) = absurd (f z)
    fault_does_not l h g f (fault low high i) =
        ap (λ n. ran n (machine s vs left)) (sym (add-zero steps)) ∙ from_here (ran 0 (machine s vs left)) l h i

    -- the order faulted
    pub broke_off :
        Loop os budget r₀ ws₀ out₀ steps r ws out
        → steps < budget
        → machine s vs left ≡ stepped (next_effect os (machine r ws out)) (machine r ws out)
        → (s.ending ≡ 0 → ⊥)
        → (s.ending ≡ 20 → ⊥)
        → ran steps (machine s vs left) ≡ run os budget (machine r₀ ws₀ out₀)
    broke_off l h e g f = fault_does_not l h g f (turned l e)

  at_the_end :
      (e : Effect)
      → r.ending ≡ 0
      → next_effect os (machine r ws out) ≡ e
      → run os 0 (machine r ws out) ≡ ran 0 (machine (end_with (fault_of e) r) ws out)
  at_the_end (done after) going e =
      no_budget os (machine r ws out) after going e ∙ ap (λ n. ran 0 (machine (end_with n r) ws out)) going
  at_the_end (failed n) going e = fault_is_met os (machine r ws out) 0 n going e

  -- no budget is left: the fault ahead is met, and where there is none (0), nothing changes
  pub out_of_budget_law :
      (n : ℕ) (s : Registers)
      → Loop os budget r₀ ws₀ out₀ steps r ws out
      → budget ≤ steps
      → n ≡ fault_of (next_effect os (machine r ws out))
      → s ≡ end_with n r
      → ran budget (machine s ws out) ≡ run os budget (machine r₀ ws₀ out₀)
  out_of_budget_law n s l h e i =
      let whole : budget ≡ steps = omega (arith, l.within) in
      ap (λ k. ran k (machine s ws out)) whole
      ∙ rw (i, e)
      (ap (λ k. ran k (machine (end_with (fault_of (next_effect os (machine r ws out))) r) ws out)) (sym (add-zero steps))
      ∙ sym (ap (more steps) (at_the_end (next_effect os (machine r ws out)) l.going refl))
      ∙ ap (λ k. more steps (run os k (machine r ws out))) (spent steps budget l.within h)
      ∙ l.same)
    where
      spent : (k n : ℕ) → k ≤ n → n ≤ k → 0 ≡ n - k
      spent k n low high = omega arith
