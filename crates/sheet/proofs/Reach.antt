-- Runs that come from one machine to another in a number of steps, and orders that stand at a place of a program.
use Prim.Native.Nat.{ℕ, ◌+◌, ◌<◌, ◌≤◌}
use mathlib.Core.Path.{◌≡◌, refl, sym, ap, ◌∙◌}
use mathlib.Core.List.{List, [], ◌∷◌, ◌++◌}
use native.Mathlib.Omega.{arith}
use native.Mathlib.Nat.{zero-add, add-zero, add_assoc}
use native.Mathlib.Numerals.{one-add}
use lib.ListN.{length, get_or, length-append, get_or-append}
use lib.Seq.{get_or-append-add}
use Rattle.order.specs.declared.Order.{Order}
use Rattle.order.specs.declared.Order.TheVariants.{Stop}
use Rattle.machine.specs.Machine.{Machine, machine, Effect, done, failed, Run, ran, ending, effect, next_effect, one_more, run}
use Rattle.machine.proofs.Steps.{one_order, no_budget, fault_is_met}

-- k steps before a run
abbrev pub more : ℕ → Run → Run
more k (ran j m) = ran (k + j) m

-- the machine at order p: it has not ended, has sent c numbers and holds a
abbrev pub here : ℕ → ℕ → ℕ → List ℕ → List ℕ → Machine
here a p c ws out = machine (record { acc = a; next = p; sent = c; ending = 0 }) ws out

-- the place behind the last of some orders
pub behind_last : (p : ℕ) (l : List Order) (o : Order) → p + length (l ++ o ∷ []) ≡ p + length l + 1
behind_last p l o = ap (λ k. p + k) (length-append l (o ∷ [])) ∙ sym (add_assoc p (length l) 1)

module _ (os : List Order) where
  -- k steps lead from one machine to the other
  abbrev pub Reaches : ℕ → Machine → Machine → Type 0
  Reaches k m n = (b : ℕ) → run os (k + b) m ≡ more k (run os b n)

  more_none : (x : Run) → x ≡ more 0 x
  more_none (ran j m) = ap (λ i. ran i m) (sym (zero-add j))

  more_more : (k j : ℕ) (x : Run) → more k (more j x) ≡ more (k + j) x
  more_more k j (ran i m) = ap (λ n. ran n m) (sym (add_assoc k j i))

  more_one : (x : Run) → one_more x ≡ more 1 x
  more_one (ran j m) = ap (λ i. ran i m) (sym (one-add j))

  pub at_once : (m : Machine) → Reaches 0 m m
  at_once m b = ap (λ n. run os n m) (zero-add b) ∙ more_none (run os b m)

  pub and_on : (k j : ℕ) (m n l : Machine) → Reaches k m n → Reaches j n l → Reaches (k + j) m l
  and_on k j m n l e f b =
      ap (λ i. run os i m) (add_assoc k j b) ∙ e (j + b) ∙ ap (more k) (f b) ∙ more_more k j (run os b l)

  pub one_step : (m n : Machine) → ending m ≡ 0 → next_effect os m ≡ done n → Reaches 1 m n
  one_step m n going e b = ap (λ i. run os i m) (one-add b) ∙ one_order os m b n going e ∙ more_one (run os b n)

  -- ---- orders at a place

  -- the orders l stand from place p on
  pub record Stands (p : ℕ) (l : List Order) : Type 0 where
    pub each : (i : ℕ) → i < length l → get_or os (p + i) Stop ≡ get_or l i Stop

  pub stands_first : (p : ℕ) (o : Order) (l : List Order) → Stands p (o ∷ l) → get_or os p Stop ≡ o
  stands_first p o l s = ap (λ i. get_or os i Stop) (sym (add-zero p)) ∙ s.each 0 (omega arith)

  pub stands_left : (p : ℕ) (l r : List Order) → Stands p (l ++ r) → Stands p l
  stands_left p l r s =
      record { each = λ i h. s.each i (rw (length-append l r) (omega (arith, h))) ∙ get_or-append l r Stop i h }

  pub stands_right : (p : ℕ) (l r : List Order) → Stands p (l ++ r) → Stands (p + length l) r
  stands_right p l r s =
      record {
        each =
            λ i h. ap (λ n. get_or os n Stop) (add_assoc p (length l) i)
            ∙ s.each (length l + i) (rw (length-append l r) (omega (arith, h)))
            ∙ get_or-append-add l r i Stop;
      }

  -- there are k orders before them
  pub stands_behind : (p k : ℕ) (l r : List Order) → length l ≡ k → Stands p (l ++ r) → Stands (p + k) r
  stands_behind p k l r e s = rw e at (stands_right p l r s)

  pub stands_last : (p : ℕ) (l : List Order) (o : Order) → Stands p (l ++ o ∷ []) → get_or os (p + length l) Stop ≡ o
  stands_last p l o s = stands_first (p + length l) o [] (stands_right p l (o ∷ []) s)

  pub stands_rest : (p : ℕ) (o : Order) (l : List Order) → Stands p (o ∷ l) → Stands (p + 1) l
  stands_rest p o l s = stands_right p (o ∷ []) l s

  -- one order that is carried out
  pub carried_out :
      (a p c : ℕ) (ws out : List ℕ) (o : Order) (n : Machine)
      → get_or os p Stop ≡ o
      → effect o (here a p c ws out) ≡ done n
      → Reaches 1 (here a p c ws out) n
  carried_out a p c ws out o n e f = one_step (here a p c ws out) n refl (rw e f)

  -- one order that faults
  pub not_carried_out :
      (a p c : ℕ) (ws out : List ℕ) (o : Order) (n : ℕ)
      → get_or os p Stop ≡ o
      → effect o (here a p c ws out) ≡ failed n
      → next_effect os (here a p c ws out) ≡ failed n
  not_carried_out a p c ws out o n e f = rw e f

  -- ---- what becomes of a run

  none_yet : (k : ℕ) (x : Run) (m : Machine) → 1 ≤ k → ran 0 m ≡ more k x → ⊥
  none_yet k (ran i n) m some e = let z : 0 ≡ k + i = cc in omega (arith, some, z)

  -- a machine that takes a step does not fault at once
  waits_so :
      (k : ℕ) (m n : Machine) (e : Effect)
      → 1 ≤ k
      → ending m ≡ 0
      → Reaches k m n
      → next_effect os m ≡ e
      → run os 0 m ≡ ran 0 m
  waits_so k m n (done after) some going f e = no_budget os m after going e
  waits_so k (machine r ws out) n (failed q) some going f e =
      absurd (none_yet k (run os 0 n) _ some (sym (fault_is_met os (machine r ws out) (k + 0) q going e) ∙ f 0))

  pub waits : (k : ℕ) (m n : Machine) → 1 ≤ k → ending m ≡ 0 → Reaches k m n → run os 0 m ≡ ran 0 m
  waits k m n some going f = waits_so k m n (next_effect os m) some going f refl
