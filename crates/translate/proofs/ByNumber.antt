-- Which orders are jumps and which store, by their numbers: 4 and 11.
use Prim.Native.Nat.{ℕ, ◌-◌, ◌≤◌}
use mathlib.Core.Path.{◌≡◌, refl}
use mathlib.Core.List.{List}
use native.Mathlib.Omega.{arith}
use borrow.Author.Tests.{eq-eqb, ne_eqb}
use lib.Dec.{eqb}
use lib.ListN.{get_or}
use Rattle.base.specs.Choice.{pick}
use Rattle.base.specs.Places.{each}
use Rattle.base.proofs.Cases.{by_less}
use Rattle.base.proofs.Places.{each_at}
use Rattle.order.specs.declared.Order.TheVariants.{Jump}
use Rattle.order.specs.Memory.{shapes, order_of, order_word}
use Rattle.order.proofs.Numbers.{no_order}
use Rattle.sheet.specs.Temporaries.{temporary_of, stored_to}
use Rattle.translate.specs.Internal.{led_by}

module _ (firsts : List ℕ) (last w a : ℕ) where
  abbrev led_at : ℕ → ℕ
  led_at k = pick (eqb k 4) (order_word (Jump (get_or firsts (a - 1) last))) w

  all_led : each (λ k. led_by firsts last w (order_of k a)) 0 38 ≡ each led_at 0 38
  unfolding each order_of shapes pick
  all_led = refl

  none_led : (k : ℕ) → 38 ≤ k → led_by firsts last w (order_of k a) ≡ led_at k
  unfolding pick
  none_led k h = rw (← no_order k a h, ne_eqb k 4 (λ e. omega (arith, e))) refl

  led_told : (k : ℕ) → led_by firsts last w (order_of k a) ≡ led_at k
  led_told k = by_less k 38 (λ h. each_at (λ j. led_by firsts last w (order_of j a)) led_at 38 all_led k h) (none_led k)

  module _ (k : ℕ) where
    pub jump_led : k ≡ 4 → (r : ℕ) → r ≡ order_word (Jump (get_or firsts (a - 1) last)) → r ≡ led_by firsts last w (order_of k a)
    unfolding pick
    jump_led e r is = rw (led_told k, eq-eqb k 4 e) is

    pub other_led : (k ≡ 4 → ⊥) → w ≡ led_by firsts last w (order_of k a)
    unfolding pick
    other_led e = rw (led_told k, ne_eqb k 4 e) refl

module _ (v w : ℕ) where
  abbrev stored_by : ℕ → ℕ
  stored_by k = pick (eqb k 11) (temporary_of v w) 0

  all_stored : each (λ k. stored_to v (order_of k w)) 0 38 ≡ each stored_by 0 38
  unfolding each order_of shapes pick
  all_stored = refl

  none_stored : (k : ℕ) → 38 ≤ k → stored_to v (order_of k w) ≡ stored_by k
  unfolding pick
  none_stored k h = rw (← no_order k w h, ne_eqb k 11 (λ e. omega (arith, e))) refl

  stored_told : (k : ℕ) → stored_to v (order_of k w) ≡ stored_by k
  stored_told k = by_less k 38 (λ h. each_at (λ j. stored_to v (order_of j w)) stored_by 38 all_stored k h) (none_stored k)

  module _ (k : ℕ) where
    pub stores : k ≡ 11 → (r : ℕ) → r ≡ temporary_of v w → r ≡ stored_to v (order_of k w)
    unfolding pick
    stores e r is = rw (stored_told k, eq-eqb k 11 e) is

    pub stores_nothing : (k ≡ 11 → ⊥) → 0 ≡ stored_to v (order_of k w)
    unfolding pick
    stores_nothing e = rw (stored_told k, ne_eqb k 11 e) refl
