-- Labels moved from one spot to another.
use Prim.Native.Nat.{ℕ, ◌+◌, ◌-◌, ◌*◌, ◌/◌, ◌%◌, ◌<◌, ◌≤◌}
use mathlib.Core.Path.{◌≡◌, refl, sym, ap, ◌∙◌}
use mathlib.Core.List.{List}
use native.Mathlib.Omega.{arith}
use borrow.Author.Tests.{eq-eqb, ne_eqb}
use lib.ListN.{get_or}
use Rattle.base.specs.Choice.{pick}
use Rattle.base.proofs.Cases.{by_less, by_equal}
use Rattle.source.specs.Program.{behind, put_off, taken_up}
use Rattle.labels.specs.Memory.{spot_numbers, instruction_numbers, spot_in}
use Rattle.labels.specs.Answers.{PutsOff, TakesUp}
use Rattle.labels.specs.Internal.{moved_entry, Moves}
use Rattle.labels.proofs.Finding.{spot_next, spot_before, spot_behind, moved_same}

-- ---- a row of the table

module _ (from to e : ℕ) where
  pub entry_moved : e % spot_numbers ≡ from → e / spot_numbers * spot_numbers + to % spot_numbers ≡ moved_entry from to e
  unfolding pick
  entry_moved h = rw (eq-eqb (e % spot_numbers) from h) refl

  pub entry_left : (e % spot_numbers ≡ from → ⊥) → e ≡ moved_entry from to e
  unfolding pick
  entry_left h = rw (ne_eqb (e % spot_numbers) from h) refl

  -- its label stays
  same_label : moved_entry from to e / spot_numbers ≡ e / spot_numbers
  same_label =
      by_equal (e % spot_numbers) from
      (λ h. let moved_to = entry_moved h in omega (arith, moved_to))
      (λ h. ap (λ k. k / spot_numbers) (sym (entry_left h)))

  -- its spot
  spot_moved : e % spot_numbers ≡ from → to < spot_numbers → moved_entry from to e % spot_numbers ≡ to
  spot_moved h few = let moved_to = entry_moved h in omega (arith, moved_to)

  spot_left : (e % spot_numbers ≡ from → ⊥) → moved_entry from to e % spot_numbers ≡ e % spot_numbers
  spot_left h = ap (λ k. k % spot_numbers) (sym (entry_left h))

-- ---- a first part ends, and an IF ends

module _ (n g : ℕ) (few : n < instruction_numbers) (small : g < instruction_numbers) (e : ℕ) where
  abbrev far : ℕ
  far = instruction_numbers + g % instruction_numbers

  far_behind : (m : ℕ) → m ≡ far → spot_in n m ≡ behind g
  far_behind m is_far =
      let same : m - instruction_numbers ≡ g = omega arith in
      spot_behind n m (λ z. absurd (omega arith)) (omega arith) ∙ ap behind same

  put_off_spot : spot_in n (moved_entry n far e % spot_numbers) ≡ put_off g (spot_in n (e % spot_numbers))
  put_off_spot =
      by_equal (e % spot_numbers) n
      (λ h. far_behind (moved_entry n far e % spot_numbers) (spot_moved n far e h (omega arith)) ∙ sym (ap (put_off g) (spot_next n (e % spot_numbers) h)))
      (λ h. ap (spot_in n) (spot_left n far e h) ∙ elsewhere h)
    where
      elsewhere : (e % spot_numbers ≡ n → ⊥) → spot_in n (e % spot_numbers) ≡ put_off g (spot_in n (e % spot_numbers))
      elsewhere h =
          by_less (e % spot_numbers) instruction_numbers
          (λ k. let s = spot_before n (e % spot_numbers) h k in s ∙ sym (ap (put_off g) s))
          (λ k. let s = spot_behind n (e % spot_numbers) h k in s ∙ sym (ap (put_off g) s))

  put_off_far : (e % spot_numbers < instruction_numbers → e % spot_numbers ≤ n)
      → moved_entry n far e % spot_numbers < instruction_numbers → moved_entry n far e % spot_numbers ≤ n
  put_off_far so_far h =
      by_equal (e % spot_numbers) n
      (λ k. let z = spot_moved n far e k (omega arith) in absurd (omega arith))
      (λ k. let z = spot_left n far e k in let y = so_far (omega arith) in omega arith)

  take_up_spot : spot_in n (moved_entry far n e % spot_numbers) ≡ taken_up g (spot_in n (e % spot_numbers))
  unfolding pick
  take_up_spot =
      by_equal (e % spot_numbers) far
      (λ h. spot_next n (moved_entry far n e % spot_numbers) (spot_moved far n e h (omega arith))
      ∙ sym (ap (taken_up g) (far_behind (e % spot_numbers) h) ∙ rw (eq-eqb g g refl) refl))
      (λ h. ap (spot_in n) (spot_left far n e h)
      ∙ by_equal (e % spot_numbers) n
      (λ k. let s = spot_next n (e % spot_numbers) k in s ∙ sym (ap (taken_up g) s))
      (λ k. elsewhere h k))
    where
      elsewhere : (e % spot_numbers ≡ far → ⊥) → (e % spot_numbers ≡ n → ⊥) → spot_in n (e % spot_numbers) ≡ taken_up g (spot_in n (e % spot_numbers))
      elsewhere h k =
          by_less (e % spot_numbers) instruction_numbers
          (λ low. let s = spot_before n (e % spot_numbers) k low in s ∙ sym (ap (taken_up g) s))
          (λ high. let s = spot_behind n (e % spot_numbers) k high in
          let other : e % spot_numbers - instruction_numbers ≡ g → ⊥ = λ z. h (omega arith) in
          s ∙ sym (ap (taken_up g) s ∙ rw (ne_eqb (e % spot_numbers - instruction_numbers) g other) refl))

  take_up_far : (e % spot_numbers < instruction_numbers → e % spot_numbers ≤ n)
      → moved_entry far n e % spot_numbers < instruction_numbers → moved_entry far n e % spot_numbers ≤ n
  take_up_far so_far h =
      by_equal (e % spot_numbers) far
      (λ k. let z = spot_moved far n e k (omega arith) in omega arith)
      (λ k. let z = spot_left far n e k in let y = so_far (omega arith) in omega arith)

module _ (n g : ℕ) (l after : List ℕ) where
  pub puts_off : Moves n (instruction_numbers + g % instruction_numbers) l after → PutsOff n g l after
  puts_off p = record {
    kept = p.kept;
    told = λ count fits.
        moved_same (put_off g) n n count l after
        (λ i h.
        let e = p.done i (omega (arith, fits.rows)) in (
          ap (λ k. k / spot_numbers) e ∙ same_label n (instruction_numbers + g % instruction_numbers) (get_or l i 0),
          ap (λ k. spot_in n (k % spot_numbers)) e ∙ put_off_spot n g fits.few_instructions fits.few_groups (get_or l i 0),
        ));
    so_far = λ count fits so_far i h.
        let e = p.done i (omega (arith, fits.rows)) in
        rw e (put_off_far n g fits.few_instructions fits.few_groups (get_or l i 0) (so_far i h));
  }

  pub takes_up : Moves (instruction_numbers + g % instruction_numbers) n l after → TakesUp n g l after
  takes_up p = record {
    kept = p.kept;
    told = λ count fits.
        moved_same (taken_up g) n n count l after
        (λ i h.
        let e = p.done i (omega (arith, fits.rows)) in (
          ap (λ k. k / spot_numbers) e ∙ same_label (instruction_numbers + g % instruction_numbers) n (get_or l i 0),
          ap (λ k. spot_in n (k % spot_numbers)) e ∙ take_up_spot n g fits.few_instructions fits.few_groups (get_or l i 0),
        ));
    so_far = λ count fits so_far i h.
        let e = p.done i (omega (arith, fits.rows)) in
        rw e (take_up_far n g fits.few_instructions fits.few_groups (get_or l i 0) (so_far i h));
  }
