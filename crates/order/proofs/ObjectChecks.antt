-- The checks 22 to 25 pass exactly where every operand is in its range and the last order, and no other, is STOP.
use Prim.Native.Nat.{ℕ, zero, suc, ◌+◌, ◌-◌, ◌<◌, ◌≤◌}
use mathlib.Core.Path.{◌≡◌, refl, ap, ◌∙◌}
use mathlib.Core.Bool.{true, false}
use mathlib.Core.List.{List, [], ◌∷◌}
use native.Mathlib.Omega.{arith}
use borrow.Author.Tests.{le-ltb, eq-eqb, eqb-true}
use lib.Dec.{eqb}
use lib.ListN.{length, get_or}
use Rattle.base.specs.Choice.{pick}
use Rattle.base.proofs.Cases.{by_test, chosen_first}
use Rattle.base.proofs.Lists.{each_cons}
use Rattle.order.specs.declared.Order.{Order}
use Rattle.order.specs.declared.Order.TheVariants.{Stop}
use Rattle.order.specs.Object.{Reading, object, refused, operand_refusal, is_stop, first_stop, first_operand, stop_last, exactly}
use Rattle.order.specs.Good.{Good}
use Rattle.order.proofs.OrderTests.{fits_passes, stop_told, other_told, not_stop}

pub not_object : {n p v t : ℕ} {os : List Order} → refused n p ≡ object v t os → ⊥
not_object e = let z : ◌≡◌ {A = ℕ} 0 1 = cc in omega arith

-- ---- 23 and 24

operands_pass : (words n k : ℕ) (os : List Order) (after : Reading)
    → ((i : ℕ) → i < length os → operand_refusal words n (get_or os i Stop) ≡ 0) → first_operand words n k os after ≡ after
unfolding first_operand pick
operands_pass words n k [] after good = refl
operands_pass words n k (o ∷ os) after good =
    rw (eq-eqb (operand_refusal words n o) 0 (good 0 (omega arith)))
    (operands_pass words n (suc k) os after (λ i l. good (suc i) (omega arith)))

pub operands_good : (words n k v t : ℕ) (os all : List Order) (after : Reading) → first_operand words n k os after ≡ object v t all
    → ((i : ℕ) → i < length os → operand_refusal words n (get_or os i Stop) ≡ 0) × (after ≡ object v t all)
unfolding first_operand
operands_good words n k v t [] all after e = (λ i l. absurd (omega arith), e)
operands_good words n k v t (o ∷ os) all after e =
    let here = chosen_first (eqb (operand_refusal words n o) 0) _ _ (object v t all) not_object e in
    let there = operands_good words n (suc k) v t os all after here.1 in
    (each_cons (λ p. operand_refusal words n p ≡ 0) o Stop os (length os) (eqb-true (operand_refusal words n o) 0 here.0) there.0, there.1)

-- ---- 25

-- the first STOP of a list of orders is at place p
record FirstStop (os : List Order) (p : ℕ) : Type 0 where
  here : is_stop (get_or os p Stop) ≡ true
  before : (i : ℕ) → i < p → is_stop (get_or os i Stop) ≡ false

first_stop_law : (k p : ℕ) (os : List Order) → p < length os → FirstStop os p → first_stop k os ≡ k + p
unfolding first_stop pick
first_stop_law k p [] l f = absurd (omega arith)
first_stop_law k zero (o ∷ os) l f = rw f.here (omega arith)
first_stop_law k (suc p) (o ∷ os) l f =
    rw (f.before 0 (omega arith))
    (first_stop_law (suc k) p os (omega arith) (record { here = f.here; before = λ i h. f.before (suc i) (omega arith) }) ∙ omega arith)

not_before : (k : ℕ) (os : List Order) → k ≤ first_stop k os
unfolding first_stop pick
not_before k [] = omega arith
not_before k (o ∷ os) = by_test (is_stop o) (λ y. rw y (omega arith)) (λ n. rw n (omega (arith, not_before (suc k) os)))

stop_first : (k p : ℕ) (os : List Order) → p < length os → first_stop k os ≡ k + p → FirstStop os p
unfolding first_stop pick
stop_first k p [] l e = absurd (omega arith)
stop_first k zero (o ∷ os) l e =
    by_test (is_stop o)
    (λ y. record { here = y; before = λ i h. absurd (omega arith) })
    (λ n. let past : first_stop (suc k) os ≡ k + 0 = rw n at e in absurd (omega (arith, not_before (suc k) os)))
stop_first k (suc p) (o ∷ os) l e =
    by_test (is_stop o)
    (λ y. let now : k ≡ k + suc p = rw y at e in absurd (omega arith))
    (λ n. let behind : first_stop (suc k) os ≡ k + suc p = rw n at e in
    let f = stop_first (suc k) p os (omega arith) (behind ∙ omega arith) in
    record { here = f.here; before = each_cons (λ q. is_stop q ≡ false) o Stop os p n f.before })

-- the last order is STOP, and no other
module _ (os : List Order) (some : 1 ≤ length os) where
  stops_last : get_or os (length os - 1) Stop ≡ Stop → ((k : ℕ) → k + 1 < length os → get_or os k Stop ≡ Stop → ⊥)
      → first_stop 0 os ≡ length os - 1
  stops_last last none_earlier =
      first_stop_law 0 (length os - 1) os (omega arith)
      (record {
        here = ap is_stop last;
        before = λ i h. other_told (get_or os i Stop) (none_earlier i (omega arith));
      })
      ∙ omega arith

  pub last_stops : first_stop 0 os ≡ length os - 1
      → (get_or os (length os - 1) Stop ≡ Stop) × ((k : ℕ) → k + 1 < length os → get_or os k Stop ≡ Stop → ⊥)
  last_stops e =
      let f = stop_first 0 (length os - 1) os (omega arith) (e ∙ omega arith) in
      (stop_told (get_or os (length os - 1) Stop) f.here, λ k h. not_stop (get_or os k Stop) (f.before k (omega arith)))

-- the lines of a good object pass every check
pub all_pass : (v t : ℕ) (os : List Order) → Good v t os
    → exactly (record { variables = v; temporaries = t; orders = length os }) (record { orders = os; rest = [] }) ≡ object v t os
unfolding exactly stop_last pick
all_pass v t os g =
    rw (le-ltb (length os) (length os) (omega arith))
    (operands_pass (v + t + 2) (length os) 0 os (stop_last v t os)
    (λ i h. fits_passes v t (length os) (get_or os i Stop) (g.operands i h))
    ∙ rw (eq-eqb (first_stop 0 os) (length os - 1) (stops_last os g.some_orders g.stop_last_law g.no_stop_earlier)))
