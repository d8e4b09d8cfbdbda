-- "Running a then b more steps over one output equals running a+b, steps summed", and a run's steps are within its budget.
use Prim.Native.Nat.{ℕ, ◌+◌, ◌-◌, ◌≤◌, ◌<◌}
use mathlib.Core.Path.{◌≡◌, refl, sym, ap, ◌∙◌}
use mathlib.Core.List.{List}
use native.Mathlib.Omega.{arith}
use native.Mathlib.Nat.{zero-add, suc-add}
use Rattle.base.proofs.Cases.{by_equal}
use Rattle.order.specs.declared.Order.{Order}
use Rattle.machine.specs.Machine.{Machine, machine, Run, ran, end_with, ending, one_more, run}
use Rattle.machine.proofs.Steps.{ended_stays, fault_is_met, one_order, Runs, rests, meets, waits, takes, runs}

module _ (os : List Order) where
  resumed :
      {a k : ℕ} {m m₁ : Machine} (b j : ℕ) (m₂ : Machine)
      → Runs os a m (ran k m₁)
      → run os b m₁ ≡ ran j m₂
      → run os (a + b) m ≡ ran (k + j) m₂
  resumed b j m₂ (rests a m ended) e =
      rw (zero-add j) (ended_stays os m (a + b) ended ∙ sym (ended_stays os m b ended) ∙ e)
  resumed b j m₂ (meets a r ws out n going i low high) e =
      rw (zero-add j)
      (fault_is_met os (machine r ws out) (a + b) n going i
      ∙ sym (ended_stays os (machine (end_with n r) ws out) b (λ z. omega arith))
      ∙ e)
  resumed b j m₂ (waits m after going i) e = rw (zero-add b, zero-add j) e
  resumed b j m₂ (takes a k m after m₁ going i p) e =
      rw (suc-add a b, suc-add k j) (one_order os m (a + b) after going i ∙ ap one_more (resumed b j m₂ p e))

  pub resume :
      (a b : ℕ) (m : Machine) (k : ℕ) (m₁ : Machine) (j : ℕ) (m₂ : Machine)
      → run os a m ≡ ran k m₁
      → run os b m₁ ≡ ran j m₂
      → run os (a + b) m ≡ ran (k + j) m₂
  resume a b m k m₁ j m₂ e i = resumed b j m₂ (rw e at (runs os a m)) i

  few : {b k : ℕ} {m left : Machine} → Runs os b m (ran k left) → k ≤ b
  few (rests b m ended) = omega arith
  few (meets b r ws out n going e low high) = omega arith
  few (waits m after going e) = omega arith
  few (takes b k m after left going e p) = let less = few p in omega arith

  pub within_budget : (b : ℕ) (m : Machine) (k : ℕ) (left : Machine) → run os b m ≡ ran k left → k ≤ b
  within_budget b m k left e = few (rw e at (runs os b m))

  -- a run that takes every step of its budget has used up any smaller one, and had not ended there
  module _ (b c : ℕ) (m left : Machine) (less : b < c) (all : run os c m ≡ ran c left) where
    parted :
        (k : ℕ) (m₁ : Machine) (j : ℕ) (m₂ : Machine)
        → run os b m ≡ ran k m₁
        → run os (c - b) m₁ ≡ ran j m₂
        → (k ≡ b) × (1 ≤ j)
    parted k m₁ j m₂ e f =
        let whole : b + (c - b) ≡ c = omega (arith, less) in
        let both : ran (k + j) m₂ ≡ ran c left = sym (resume b (c - b) m k m₁ j m₂ e f) ∙ ap (λ n. run os n m) whole ∙ all in
        let sum : k + j ≡ c = cc in
        let few₁ = within_budget b m k m₁ e in
        let few₂ = within_budget (c - b) m₁ j m₂ f in
        (omega (arith, sum, few₁, few₂, less), omega (arith, sum, few₁, few₂, less))

    used_before : (k : ℕ) (m₁ : Machine) (x : Run) → run os b m ≡ ran k m₁ → run os (c - b) m₁ ≡ x → (k ≡ b) × (ending m₁ ≡ 0)
    used_before k m₁ (ran j m₂) e f =
        let parts = parted k m₁ j m₂ e f in (
          parts.0,
          by_equal (ending m₁) 0 (λ going. going)
              (λ ended. let none : ran j m₂ ≡ ran 0 m₁ = sym f ∙ ended_stays os m₁ (c - b) ended in
              let no_steps : j ≡ 0 = cc in
              absurd (omega (arith, parts.1, no_steps))),
        )

    pub used_up : (k : ℕ) (m₁ : Machine) → run os b m ≡ ran k m₁ → (k ≡ b) × (ending m₁ ≡ 0)
    used_up k m₁ e = used_before k m₁ (run os (c - b) m₁) e refl
