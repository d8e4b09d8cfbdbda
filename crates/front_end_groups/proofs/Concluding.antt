-- The end of a program: groups that are open, and its jumps led to instructions.
use Prim.Native.Nat.{ℕ, ◌+◌}
use mathlib.Core.Path.{◌≡◌, refl, sym, ap, ap₂, ◌∙◌}
use mathlib.Core.List.{List, [], ◌∷◌, map}
use native.Mathlib.Omega.{arith}
use lib.ListN.{length, get_or}
use Rattle.sheet.specs.declared.Field.{Field}
use Rattle.sheet.specs.Sheet.{count}
use Rattle.sheet.specs.Memory.{part_fields}
use Rattle.sheet_field.specs.Memory.{fields_from}
use Rattle.source.specs.Program.{Program, Outcome, refused, Group, count_outside, next_number, closed, Unset, unset, all_set, first_unset, number_of, sheet_of, finished, concluding}
use Rattle.source.proofs.Parts.{count_same}
use Rattle.labels.specs.Memory.{labels_of}
use Rattle.groups.specs.Memory.{statement_in, GroupsHeld}
use Rattle.groups.proofs.Held.{statement_of_law, innermost, held_rest}
use Rattle.std.proofs.Common.{Result, Ok, Err}
use Rattle.source.specs.declared.Refusal.TheVariants.{Label as BadLabel, Group as BadGroup}
use Rattle.fields_put.specs.declared.Failure.{Failure as NotLed}
use Rattle.fields_put.specs.declared.Failure.TheVariants.{Unset as UnsetAt, Unfit as TooShort}
use Rattle.fields.specs.Memory.{label_of, unpacked, jumping}
use Rattle.fields_put.specs.Answers.{led, refusal, led_by, led_all, told, unfit, led_in, led_of}
use Rattle.fields_put.proofs.Leading.{led_fit}
use Rattle.fields.proofs.Instructions.{led_part}
use Rattle.front_end_forms.specs.declared.Progress.{Progress}
use Rattle.front_end_forms.specs.declared.Failure.TheVariants.{Refused}
use Rattle.front_end_forms.specs.Memory.{NameTable, outside_fields, program_fields, Holds, Held}
use Rattle.front_end_forms.specs.Answers.{Comes, refuses, comes, Gives, FewCounts}
use Rattle.front_end_forms.proofs.Stages.{comes_refused}

-- ---- a group is open: the outermost tells the place

module _ (ws : List ℕ) (o : Outcome) where
  first_open : (gs : List Group) → GroupsHeld gs ws → (length gs ≡ 0 → ⊥) → closed gs o ≡ refused 13 (statement_in (get_or ws 0 0))
  unfolding closed
  first_open [] held n = absurd (n refl)
  first_open (g ∷ []) held n =
      ap (refused 13) (sym (ap statement_in (innermost g [] ws held) ∙ statement_of_law g (count_outside (g ∷ []))))
  first_open (g ∷ h ∷ gs) held n = first_open (h ∷ gs) (held_rest g (h ∷ gs) ws held) (λ z. absurd (omega arith))

none_open : (gs : List Group) → length gs ≡ 0 → gs ≡ []
none_open [] e = refl
none_open (g ∷ gs) e = absurd (omega arith)

closed_none : (gs : List Group) (o : Outcome) → gs ≡ [] → closed gs o ≡ o
unfolding closed
closed_none gs o e = rw e refl

module _ {q : Program} {p : Progress} {ns : NameTable} {ls gs fs : List ℕ} (h : Holds q p ns ls gs fs) where
  pub left_open : {A : Type 0} {T : A → Outcome → Type 0} → (p.groups ≡ 0 → ⊥) → (s : ℕ) → s ≡ statement_in (get_or gs 0 0)
      → Comes T (Err (Refused BadGroup s)) (concluding q)
  left_open n s known =
      comes_refused BadGroup s
      (first_open gs _ q.groups h.its_groups.grouped (λ z. n (h.its_groups.opened ∙ z)) ∙ ap (refused 13) (sym known))

  -- ---- none is: the jumps are led

  module _ (counts : FewCounts p) (none : p.groups ≡ 0) (r : Result (Unit {0}) NotLed) (after : List ℕ)
      (e : led_in r p.fields after ≡ led_of (p.instructions + 1) (labels_of (p.instructions + 1) p.labels ls) p.fields fs) where
    no_groups : q.groups ≡ []
    no_groups = none_open q.groups (sym h.its_groups.opened ∙ none)

    concludes : concluding q ≡ finished q (first_unset q.set q.jumps)
    concludes = closed_none q.groups _ no_groups

    abbrev held_fields : List Field
    held_fields = fields_from 0 p.fields fs

    number : p.instructions + 1 ≡ next_number q
    number = omega (arith, h.its_fields.counted)

    -- the answer is that of the program's first jump to a label never set
    jumps_led : led_in r p.fields after ≡ told (led_by (number_of (next_number q) q.set) held_fields (first_unset q.set q.jumps))
    jumps_led =
        e
        ∙ led_fit (p.instructions + 1) _ p.fields fs (omega (arith, counts.few_fields, h.its_fields.room_for_fields))
        ∙ ap₂ (λ n ms. told (led_all n ms held_fields)) number h.its_labels.labelled
        ∙ ap (λ js. told (led_by (number_of (next_number q) q.set) held_fields (first_unset q.set js))) h.its_fields.jumped

    plain_fields : map unpacked held_fields ≡ part_fields q.here
    plain_fields = h.its_fields.fielded ∙ ap (λ gs. program_fields gs q.here) no_groups ∙ outside_none
      where
        outside_none : program_fields [] q.here ≡ part_fields q.here
        outside_none = unfold outside_fields in refl

    counted_all : p.instructions ≡ count q.here
    counted_all = h.its_fields.counted ∙ ap (λ gs. count_outside gs + count q.here) no_groups ∙ outside_none
      where
        outside_none : count_outside [] + count q.here ≡ count q.here
        outside_none = unfold count_outside in omega arith

    sheet_held : fields_from 0 p.fields after ≡ map (jumping (λ l. number_of (next_number q) q.set (label_of l))) held_fields → Held p after (sheet_of q)
    sheet_held same = record {
      variables_too = h.its_names.named.counted;
      instructions_too = counted_all ∙ sym (count_same (number_of (next_number q) q.set) q.here);
      fields_too = same ∙ led_part (number_of (next_number q) q.set) held_fields q.here plain_fields;
    }

    pub comes_given : {v : Unit {0}} → r ≡ Ok v → Comes (λ (u : Unit {0}) o. Gives (Held p after) o) (Ok tt) (concluding q)
    comes_given w = rw concludes (by_unset (first_unset q.set q.jumps) (rw w at jumps_led))
      where
        by_unset : (u : Unset) → told (led (fields_from 0 p.fields after)) ≡ told (led_by (number_of (next_number q) q.set) held_fields u)
            → Comes (λ (u : Unit {0}) o. Gives (Held p after) o) (Ok tt) (finished q u)
        by_unset (unset k) z = absurd (cc)
        by_unset all_set z = comes tt _ (record { sheet_too = sheet_of q; same = refl; kept = sheet_held (cc) })

    pub comes_unset : (k : ℕ) → r ≡ Err (UnsetAt k) → Comes (λ (u : Unit {0}) o. Gives (Held p after) o) (Err (Refused BadLabel k)) (concluding q)
    comes_unset k w = rw concludes (by_unset (first_unset q.set q.jumps) (rw w at jumps_led))
      where
        by_unset : (u : Unset) → told (refusal 9 k) ≡ told (led_by (number_of (next_number q) q.set) held_fields u)
            → Comes (λ (u : Unit {0}) o. Gives (Held p after) o) (Err (Refused BadLabel k)) (finished q u)
        by_unset (unset j) z = let there : k ≡ j = cc in rw there (refuses BadLabel j)
        by_unset all_set z = absurd (cc)

    pub led_fits : {A : Type 0} → r ≡ Err TooShort → A
    led_fits w = by_unset (first_unset q.set q.jumps) (rw w at jumps_led)
      where
        by_unset : {A : Type 0} (u : Unset) → unfit ≡ told (led_by (number_of (next_number q) q.set) held_fields u) → A
        by_unset (unset k) z = absurd (cc)
        by_unset all_set z = absurd (cc)
