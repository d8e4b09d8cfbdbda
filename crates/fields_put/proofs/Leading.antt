-- Jumps led to instructions.
use Prim.Native.Nat.{ℕ, ◌+◌, ◌-◌, ◌/◌, ◌%◌, ◌<◌, ◌≤◌}
use mathlib.Core.Path.{◌≡◌, refl, sym, ap, ◌∙◌}
use mathlib.Core.Bool.{true, false}
use mathlib.Core.List.{List, [], ◌∷◌, map}
use native.Mathlib.Omega.{arith}
use borrow.Author.Tests.{le-leb, lt-leb}
use lib.ListN.{length, get_or}
use lib.Seq.{get_or-set_same, get_or-set_other}
use Rattle.std.proofs.Common.{Option, Some, None, Result, Ok, Err}
use Rattle.base.specs.Choice.{pick}
use Rattle.base.proofs.Cases.{by_test, by_equal}
use Rattle.base.proofs.Places.{each_map, each_same}
use Rattle.sheet.specs.declared.Field.{Field}
use Rattle.sheet.specs.declared.Field.TheVariants.{Goto}
use Rattle.sheet_field.specs.Memory.{field_word, field_in, fields_from}
use Rattle.sheet_field.proofs.Stored.{field_in_law, fields_each, fields_more, fields_over}
use Rattle.source.specs.Program.{Label, is_set, number_of, unset, all_set, first_unset}
use Rattle.labels.specs.Answers.{found_of}
use Rattle.fields_put.specs.declared.Failure.{Failure}
use Rattle.fields_put.specs.declared.Failure.TheVariants.{Unset, Unfit}
use Rattle.fields_put.specs.Internal.{Puts, jumps_of, LeadsOne, Leading}
use Rattle.fields.specs.Memory.{label_numbers, jump_of, field_jumps, label_of, jumping, jumping_as}
use Rattle.fields_put.specs.Answers.{led, led_by, led_all, told, unfit, led_in, led_of}
use Rattle.fields_put.proofs.Putting.{puts_kept}

-- ---- one field

module _ (ls : List Label) (f : Field) (fs : List Field) where
  none_unset : jump_of f ≡ None → first_unset ls (jumps_of (f ∷ fs)) ≡ first_unset ls (jumps_of fs)
  unfolding field_jumps
  none_unset e = rw e refl

  module _ (p : ℕ) (e : jump_of f ≡ Some p) where
    is_set_law : is_set ls (label_of p) ≡ true → first_unset ls (jumps_of (f ∷ fs)) ≡ first_unset ls (jumps_of fs)
    unfolding field_jumps first_unset pick
    is_set_law t = rw (e, t) refl

    is_unset : is_set ls (label_of p) ≡ false → first_unset ls (jumps_of (f ∷ fs)) ≡ unset (p / label_numbers)
    unfolding field_jumps first_unset pick
    is_unset t = rw (e, t) refl

found_told : (n : ℕ) (ls : List Label) (l m : ℕ) → Some m ≡ found_of n ls l → (is_set ls l ≡ true) × (m ≡ number_of n ls l)
unfolding found_of pick
found_told n ls l m e =
    by_test (is_set ls l)
    (λ t. let same : m ≡ number_of n ls l = cc (rw t at e) in (t, same))
    (λ t. let z = rw t at e in absurd (cc))

missing_told : (n : ℕ) (ls : List Label) (l : ℕ) → None ≡ found_of n ls l → is_set ls l ≡ false
unfolding found_of pick
missing_told n ls l e =
    by_test (is_set ls l) (λ t. let z = rw t at e in absurd (cc)) (λ t. t)

module _ (n : ℕ) (ls : List Label) (i : ℕ) (ws : List ℕ) (f : Field) (is_field : f ≡ field_in (get_or ws i 0)) where
  pub lead_none : (j : Option ℕ) → j ≡ jump_of f → j ≡ None → LeadsOne n ls i ws (Ok tt) ws
  lead_none j known e =
      let no_jump = ap jump_of (sym is_field) ∙ sym known ∙ e in
      record {
        kept = refl;
        others = λ j h. refl;
        told = λ h. (rw no_jump refl, λ fs. none_unset ls (field_in (get_or ws i 0)) fs no_jump);
      }

  module _ (j : Option ℕ) (known : j ≡ jump_of f) (p : ℕ) (e : j ≡ Some p) where
    jumps : jump_of (field_in (get_or ws i 0)) ≡ Some p
    jumps = ap jump_of (sym is_field) ∙ sym known ∙ e

    pub lead_unset : None ≡ found_of n ls (p % label_numbers) → LeadsOne n ls i ws (Err (Unset (p / label_numbers))) ws
    lead_unset none = record {
      kept = refl;
      others = λ j h. refl;
      told = λ h fs. is_unset ls (field_in (get_or ws i 0)) fs p jumps (missing_told n ls (p % label_numbers) none);
    }

    pub lead_set : (s : ℕ) → Some s ≡ found_of n ls (p % label_numbers) → (after : List ℕ) → Puts i (Goto s) ws after → LeadsOne n ls i ws (Ok tt) after
    lead_set s found after put =
        let both = found_told n ls (p % label_numbers) s found in
        record {
          kept = puts_kept put;
          others = λ j h. rw put.stored (get_or-set_other ws i j (field_word (Goto s)) 0 h);
          told = λ h. (
            ap (λ l. field_in (get_or l i 0)) put.stored
                ∙ ap field_in (get_or-set_same ws i (field_word (Goto s)) 0 h)
                ∙ field_in_law (Goto s) put.fits
                ∙ ap Goto both.1
                ∙ sym (ap (jumping_as (λ q. number_of n ls (label_of q)) (field_in (get_or ws i 0))) jumps),
            λ fs. is_set_law ls (field_in (get_or ws i 0)) fs p jumps both.0,
          );
        }

-- ---- the loop

module _ (n : ℕ) (ls : List Label) (m : ℕ) (ws : List ℕ) where
  module _ (i : ℕ) (now : List ℕ) (p : Leading n ls m ws i now) where
    here : i < m → (fs : List Field) → fields_from i (m - i) ws ≡ field_in (get_or ws i 0) ∷ fields_from (i + 1) (m - (i + 1)) ws
    here h fs = fields_more ws i m h

    same_here : field_in (get_or now i 0) ≡ field_in (get_or ws i 0)
    same_here = ap field_in (p.others i (omega arith))

    pub leading_more : i < m → m ≤ length ws → {u : Unit {0}} (r : Result (Unit {0}) Failure) (after : List ℕ) → r ≡ Ok u → LeadsOne n ls i now r after → Leading n ls m ws (i + 1) after
    leading_more h room (Ok v) after e one =
        let way = one.told (omega (arith, p.kept)) in
        record {
          kept = one.kept ∙ p.kept;
          done = λ j g.
              by_equal j i
              (λ same. rw same (way.0 ∙ ap (jumping (λ q. number_of n ls (label_of q))) same_here))
              (λ other. ap field_in (one.others j other) ∙ p.done j (omega arith));
          others = λ j g. one.others j (λ z. absurd (omega arith)) ∙ p.others j (omega arith);
          rest =
              sym (ap (λ f. first_unset ls (jumps_of (f ∷ fields_from (i + 1) (m - (i + 1)) ws))) (sym same_here) ∙ way.1 (fields_from (i + 1) (m - (i + 1)) ws))
              ∙ ap (λ l. first_unset ls (jumps_of l)) (sym (fields_more ws i m h))
              ∙ p.rest;
        }
    leading_more h room (Err f) after e one = absurd (cc)

    pub leading_stops : i < m → m ≤ length ws → (f : Failure) (r : Result (Unit {0}) Failure) (after : List ℕ) → r ≡ Err f → LeadsOne n ls i now r after
        → (led_in (Err f) m after ≡ led_of n ls m ws) × (length after ≡ length ws)
    unfolding led_of pick
    leading_stops h room f (Ok v) after e one = absurd (cc)
    leading_stops h room f (Err Unfit) after e one = absurd (one.told (omega (arith, p.kept)))
    leading_stops h room Unfit (Err (Unset j)) after e one = absurd (cc)
    leading_stops h room (Unset k) (Err (Unset j)) after e one =
        let same : j ≡ k = cc in
        let first =
        sym p.rest
        ∙ ap (λ l. first_unset ls (jumps_of l)) (fields_more ws i m h)
        ∙ ap (λ f. first_unset ls (jumps_of (f ∷ fields_from (i + 1) (m - (i + 1)) ws))) (sym same_here)
        ∙ one.told (omega (arith, p.kept)) (fields_from (i + 1) (m - (i + 1)) ws)
        ∙ ap unset same in (
          rw (le-leb m (length ws) room) (ap told (sym (ap (led_by (number_of n ls) (fields_from 0 m ws)) first))),
          one.kept ∙ p.kept,
        )

    pub leading_ends : i ≤ m → m ≤ i → m ≤ length ws → (told (led (fields_from 0 m now)) ≡ led_of n ls m ws) × (length now ≡ length ws)
    unfolding led_of pick
    leading_ends g h room =
        let same : i ≡ m = omega arith in
        let first : first_unset ls (jumps_of (fields_from 0 m ws)) ≡ all_set =
        sym p.rest ∙ ap (λ l. first_unset ls (jumps_of l)) (fields_over ws i m h) ∙ none_left in (
          rw (le-leb m (length ws) room)
              (ap told
              (ap led
              (fields_each 0 m now
              ∙ each_same _ _ 0 m (λ j from less. p.done j (omega arith))
              ∙ sym (each_map (jumping (λ q. number_of n ls (label_of q))) (λ j. field_in (get_or ws j 0)) 0 m)
              ∙ ap (map (jumping (λ q. number_of n ls (label_of q)))) (sym (fields_each 0 m ws)))
              ∙ sym (ap (led_by (number_of n ls) (fields_from 0 m ws)) first))),
          p.kept,
        )
      where
        none_left : first_unset ls (jumps_of []) ≡ all_set
        none_left = unfold field_jumps in unfold first_unset in refl

  -- with a place for each field
  pub led_fit : m ≤ length ws → led_of n ls m ws ≡ told (led_all n ls (fields_from 0 m ws))
  unfolding led_of pick
  led_fit h = rw (le-leb m (length ws) h) refl

  pub led_unfit : length ws < m → (unfit ≡ led_of n ls m ws) × (length ws ≡ length ws)
  unfolding led_of pick
  led_unfit h = (rw (lt-leb m (length ws) h) refl, refl)
