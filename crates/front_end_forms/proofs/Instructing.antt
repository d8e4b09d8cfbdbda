-- An instruction: its names, its jumps, its labels, its place.
use Prim.Native.Nat.{ℕ}
use mathlib.Core.Bool.{Bool, true, false}
use mathlib.Core.Path.{◌≡◌, refl, sym, ap, ◌∙◌}
use mathlib.Core.List.{List}
use Rattle.std.proofs.Common.{Result, Ok, Err}
use Rattle.source.specs.declared.Refusal.TheVariants.{Name as BadName, Label as BadLabel}
use Rattle.base.specs.Choice.{pick}
use Rattle.sheet_field.specs.Memory.{fields_at}
use Rattle.source.specs.Grammar.{Instruction}
use Rattle.source.specs.Program.{Program, Outcome, known, jumps_in, all, is_label, labelling, setting, instructing, placing, with_few_temporaries}
use Rattle.source.specs.Program.{with_few_comparisons, with_few_levels, with_few_orders}
use Rattle.fields.specs.Memory.{fields_known, field_jumps}
use Rattle.fields.proofs.Instructions.{known_fields, jumps_fields}
use Rattle.front_end_forms.specs.declared.Progress.{Progress}
use Rattle.front_end_forms.specs.declared.Failure.{Failure}
use Rattle.front_end_forms.specs.declared.Failure.TheVariants.{Refused, Unfit}
use Rattle.front_end_forms.specs.Answers.{Comes, Goes, IsInstruction}
use Rattle.front_end_forms.proofs.Stages.{comes_refused, says}
use Rattle.front_end_forms.proofs.Labelling.{labels_refused, labels_further}

-- what the fields tell of the instruction
module _ {own : List ℕ} {opens : Bool} {i : Instruction} (is : IsInstruction own opens i) where
  pub known_told : {t : Bool} → fields_known (fields_at 0 own) ≡ t → known i ≡ t
  known_told u = sym (known_fields i) ∙ (rw is.its_fields at u)

  pub jumps_told : {t : Bool} → all is_label (field_jumps (fields_at 0 own)) ≡ t → all is_label (jumps_in i) ≡ t
  jumps_told u = ap (all is_label) (sym (jumps_fields i)) ∙ (rw is.its_fields at u)

-- the limits, and the place behind the others
abbrev rest_of : Program → ℕ → List ℕ → Instruction → Outcome
rest_of q k new i =
    with_few_temporaries k i (with_few_comparisons k i (with_few_levels k q.groups i (with_few_orders k (placing k i (setting q new)))))

module _ (q : Program) (k : ℕ) (new : List ℕ) (i : Instruction) {A : Type 0} {T : A → Outcome → Type 0} where
  pub not_known : known i ≡ false → Comes T (Err (Refused BadName k)) (instructing q k new i)
  unfolding pick
  not_known t = comes_refused BadName k (rw t refl)

  module _ (u : known i ≡ true) where
    pub not_labels : all is_label (jumps_in i) ≡ false → Comes T (Err (Refused BadLabel k)) (instructing q k new i)
    unfolding pick
    not_labels w = comes_refused BadLabel k (rw (u, w) refl)

    module _ (w : all is_label (jumps_in i) ≡ true) {P : Program → Progress → Type 0} {r : Result Progress Failure} where
      pub not_set : (f : Failure) → Comes (Goes P) r (labelling q k new) → r ≡ Err f → Comes T (Err f) (instructing q k new i)
      unfolding pick
      not_set (Refused e j) one same =
          let z : Comes (Goes P) (Err (Refused e j)) (labelling q k new) = rw same at one in
          comes_refused e j (rw (u, w) (labels_refused q k new (rest_of q k new i) _ j (says z)))
      not_set Unfit one same =
          let z : Comes (Goes P) (Err Unfit) (labelling q k new) = rw same at one in
          absurd (says z)

      pub then_placed : {last : Result A Failure} (n : Progress) → Comes (Goes P) r (labelling q k new) → r ≡ Ok n
          → (P (setting q new) n → Comes T last (rest_of q k new i)) → Comes T last (instructing q k new i)
      unfolding pick
      then_placed n one same place =
          let z : Comes (Goes P) (Ok n) (labelling q k new) = rw same at one in
          let went = says z in
          let both = labels_further q k new (rest_of q k new i) went.program went.same in
          let h : P (setting q new) n = rw (← both.1) at went.kept in
          rw (u, w, both.0) (place h)
