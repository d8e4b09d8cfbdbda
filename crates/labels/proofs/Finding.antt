-- Labels found, and what the arrival of an instruction does to them.
use Prim.Native.Nat.{ℕ, zero, suc, ◌+◌, ◌-◌, ◌/◌, ◌%◌, ◌<◌, ◌≤◌}
use mathlib.Core.Path.{◌≡◌, refl, sym, ap, ap₂, ◌∙◌}
use mathlib.Core.List.{List, ◌∷◌}
use native.Mathlib.Omega.{arith}
use borrow.Author.Tests.{eq-eqb, ne_eqb, lt-ltb, le-ltb}
use lib.ListN.{get_or}
use Rattle.std.proofs.Common.{Some, None}
use Rattle.base.specs.Choice.{pick}
use Rattle.base.specs.Places.{each}
use Rattle.base.proofs.Cases.{by_less, by_equal}
use Rattle.base.proofs.Places.{each_more, each_over, each_same}
use Rattle.source.specs.Program.{Spot, before, next, behind, Label, label, is_set, moved, arrived, number_at, number_of}
use Rattle.labels.specs.Memory.{spot_numbers, instruction_numbers, spot_in, label_in, labels_of, SoFar}
use Rattle.labels.specs.Answers.{found_of}

-- ---- spots by their numbers

module _ (n m : ℕ) where
  pub spot_next : m ≡ n → spot_in n m ≡ next
  unfolding pick
  spot_next e = rw (eq-eqb m n e) refl

  pub spot_before : (m ≡ n → ⊥) → m < instruction_numbers → spot_in n m ≡ before m
  unfolding pick
  spot_before e h = rw (ne_eqb m n e, lt-ltb m instruction_numbers h) refl

  pub spot_behind : (m ≡ n → ⊥) → instruction_numbers ≤ m → spot_in n m ≡ behind (m - instruction_numbers)
  unfolding pick
  spot_behind e h = rw (ne_eqb m n e, le-ltb m instruction_numbers h) refl

-- ---- the loop that finds a label

module _ (f : ℕ → ℕ) (n count i l : ℕ) where
  abbrev left : ℕ → List Label
  left k = each (λ j. label_in n (f j)) k (count - k)

  pub found_here : i < count → f i / spot_numbers ≡ l → (m : ℕ) → m ≡ number_at n (spot_in n (f i % spot_numbers)) → Some m ≡ found_of n (left i) l
  unfolding found_of is_set number_of pick
  found_here h e m known = rw (each_more (λ j. label_in n (f j)) i count h, eq-eqb _ _ e, known) refl

  pub found_turn : i < count → (f i / spot_numbers ≡ l → ⊥) → found_of n (left (i + 1)) l ≡ found_of n (left i) l
  unfolding found_of is_set number_of pick
  found_turn h e = rw (each_more (λ j. label_in n (f j)) i count h, ne_eqb _ _ e) refl

  pub found_over : count ≤ i → None ≡ found_of n (left i) l
  unfolding found_of is_set number_of pick
  found_over h = rw (each_over (λ j. label_in n (f j)) i count h) refl

-- ---- labels moved

-- each of them
pub moved_each : (f : Spot → Spot) (spot number : ℕ → ℕ) (in_place : ℕ → Spot) (k count : ℕ)
    → moved f (each (λ i. label (number i) (in_place i)) k count) ≡ each (λ i. label (number i) (f (in_place i))) k count
unfolding moved each
moved_each f spot number in_place k zero = refl
moved_each f spot number in_place k (suc count) =
    ap (λ l. label (number k) (f (in_place k)) ∷ l) (moved_each f spot number in_place (suc k) count)

-- by the numbers of their spots: f in the definitions is g in memory
pub moved_same : (f : Spot → Spot) (n m count : ℕ) (l after : List ℕ)
    → ((i : ℕ) → i < count → (get_or after i 0 / spot_numbers ≡ get_or l i 0 / spot_numbers)
    × (spot_in m (get_or after i 0 % spot_numbers) ≡ f (spot_in n (get_or l i 0 % spot_numbers))))
    → labels_of m count after ≡ moved f (labels_of n count l)
moved_same f n m count l after same =
    each_same _ _ 0 count (λ i from less. let two = same i (omega arith) in ap₂ label two.0 two.1)
    ∙ sym (moved_each f (λ i. 0) (λ i. get_or l i 0 / spot_numbers) (λ i. spot_in n (get_or l i 0 % spot_numbers)) 0 count)

-- ---- an instruction comes, or several: the next has the number m then

module _ (n m : ℕ) (later : n < m) (few : m < instruction_numbers) where
  spot_arrived : (s : ℕ) → (s < instruction_numbers → s ≤ n) → spot_in m s ≡ arrived n (spot_in n s)
  spot_arrived s so_far =
      by_less s instruction_numbers
      (λ h. let g = so_far h in
      spot_before m s (λ e. absurd (omega arith)) h
      ∙ by_equal s n
      (λ e. ap before e ∙ sym (ap (arrived n) (spot_next n s e)))
      (λ e. sym (ap (arrived n) (spot_before n s e h))))
      (λ h. spot_behind m s (λ e. absurd (omega arith)) h ∙ sym (ap (arrived n) (spot_behind n s (λ e. absurd (omega arith)) h)))

  pub labels_arrived : (count : ℕ) (l : List ℕ) → SoFar n count l → labels_of m count l ≡ moved (arrived n) (labels_of n count l)
  labels_arrived count l so_far =
      moved_same (arrived n) n m count l l (λ i h. (refl, spot_arrived (get_or l i 0 % spot_numbers) (so_far i h)))

  pub so_far_later : (count : ℕ) (l : List ℕ) → SoFar n count l → SoFar m count l
  so_far_later count l so_far i h g = let k = so_far i h g in omega arith
