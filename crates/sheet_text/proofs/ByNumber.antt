-- The kind of a field and what it carries, by the number that it is in memory.
use Prim.Native.Nat.{ℕ, ◌≤◌}
use mathlib.Core.Path.{◌≡◌, refl}
use native.Mathlib.Omega.{arith}
use borrow.Author.Tests.{le-ltb}
use lib.Dec.{ltb}
use Rattle.base.specs.Choice.{pick}
use Rattle.base.specs.Places.{each}
use Rattle.base.proofs.Cases.{by_less}
use Rattle.base.proofs.Places.{each_at}
use Rattle.sheet_field.specs.Memory.{kind, carried, shapes, field_of}
use Rattle.sheet_field.proofs.Numbering.{no_field}

module _ (v : ℕ) where
  abbrev pub kind_by : ℕ → ℕ
  kind_by k = pick (ltb k 29) k 0

  all_kinds : each (λ k. kind (field_of k v)) 0 29 ≡ each kind_by 0 29
  unfolding each field_of shapes pick
  all_kinds = refl

  no_kind : (k : ℕ) → 29 ≤ k → kind (field_of k v) ≡ kind_by k
  unfolding pick
  no_kind k h = rw (← no_field k v h, le-ltb k 29 h) refl

  pub kind_told : (k : ℕ) → kind (field_of k v) ≡ kind_by k
  kind_told k = by_less k 29 (λ h. each_at (λ j. kind (field_of j v)) kind_by 29 all_kinds k h) (no_kind k)

  abbrev pub carried_by : ℕ → ℕ
  carried_by k = pick (ltb k 23) 0 (pick (ltb k 29) v 0)

  all_carried : each (λ k. carried (field_of k v)) 0 29 ≡ each carried_by 0 29
  unfolding each field_of shapes pick
  all_carried = refl

  none_carried : (k : ℕ) → 29 ≤ k → carried (field_of k v) ≡ carried_by k
  unfolding pick
  none_carried k h = rw (← no_field k v h, le-ltb k 23 (omega (arith, h)), le-ltb k 29 h) refl

  pub carried_told : (k : ℕ) → carried (field_of k v) ≡ carried_by k
  carried_told k = by_less k 29 (λ h. each_at (λ j. carried (field_of j v)) carried_by 29 all_carried k h) (none_carried k)
