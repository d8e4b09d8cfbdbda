-- The labels of a statement.
use Prim.Native.Nat.{ℕ, ◌+◌, ◌≤◌, ◌<◌}
use mathlib.Core.Bool.{true}
use mathlib.Core.Path.{◌≡◌, refl, sym, ap, ◌∙◌}
use mathlib.Core.List.{List, ◌++◌}
use native.Mathlib.Omega.{arith}
use borrow.Author.Tests.{lt-ltb, le-ltb}
use lib.Dec.{ltb}
use lib.ListN.{length}
use Rattle.base.specs.Choice.{pick}
use Rattle.base.proofs.Cases.{by_test}
use Rattle.base.proofs.Places.{each_length}
use Rattle.source.specs.Limits.{most_labels}
use Rattle.source.specs.Memory.{most_listed}
use Rattle.source.specs.Program.{Program, Outcome, refused, further, can_set, labels_set, labelling, setting, with_labels, with_few_labels}
use Rattle.std.proofs.Common.{Result, Ok, Err}
use Rattle.source.specs.declared.Refusal.TheVariants.{Label as BadLabel, Limit as OverLimit}
use Rattle.labels.specs.declared.Failure.{Failure as LabelsFailure}
use Rattle.labels.specs.declared.Failure.TheVariants.{Refused as NotSet, Unfit as SetUnfit}
use Rattle.labels.specs.Memory.{labels_of, SoFar}
use Rattle.labels.specs.Answers.{set_in, set_all, SetsLabels, SoFarIn}
use Rattle.labels.proofs.Setting.{not_set_all, set_together, set_whole, never_unfit}
use Rattle.front_end_forms.specs.declared.Progress.{Progress}
use Rattle.front_end_forms.specs.declared.Stage.TheVariants.{Instructions}
use Rattle.front_end_forms.specs.declared.Failure.TheVariants.{Refused}
use Rattle.front_end_forms.specs.Memory.{NameTable, Holds}
use Rattle.front_end_forms.specs.Answers.{Comes, Goes, FewCounts, SameCounts}
use Rattle.front_end_forms.proofs.Stages.{comes_refused, comes_further}

-- the numbers with labels
abbrev in_instructions : Progress → ℕ → Progress
in_instructions p c = record {
  stage = Instructions;
  names = p.names;
  labels = c;
  fields = p.fields;
  instructions = p.instructions;
  orders = p.orders;
  groups = p.groups;
}

pub labels_same : (p : Progress) (c : ℕ) → SameCounts p (in_instructions p c)
labels_same p c = record { instructions_same = refl; fields_same = refl; orders_same = refl; groups_same = refl }

module _ {q : Program} {p : Progress} {ns : NameTable} {ls gs fs : List ℕ} (h : Holds q p ns ls gs fs) (counts : FewCounts p) (k : ℕ) (new : List ℕ)
    (few : length new ≤ most_listed) (r : Result ℕ LabelsFailure) (after : List ℕ) (sets : SetsLabels ls p.labels (p.instructions + 1) new r after) where
  -- there is room for them
  all_told : set_in (p.instructions + 1) r after ≡ set_all q.set new
  all_told =
      let so_far = h.its_labels in
      sets.told
      ∙ set_whole ls p.labels (p.instructions + 1) new
      (record {
        whole = so_far.room_for_labels;
        rows = omega (arith, so_far.few_labels);
        few = omega (arith, counts.few_instructions);
      })
      ∙ ap (λ ms. set_all ms new) so_far.labelled

  pub comes_unset : r ≡ Err NotSet → Comes (Goes (λ o n. Holds o n ns after gs fs)) (Err (Refused BadLabel k)) (labelling q k new)
  unfolding pick
  comes_unset e = let t = not_set_all q.set new 9 (rw e at all_told) in comes_refused BadLabel k (rw t.0 refl)

  pub labels_fit : {A : Type 0} → r ≡ Err SetUnfit → A
  labels_fit e = never_unfit q.set new (rw e at all_told)

  module _ (c : ℕ) (e : r ≡ Ok c) where
    both : (can_set q.set new ≡ true) × (labels_of (p.instructions + 1) c after ≡ q.set ++ labels_set new)
    both = set_together q.set new (labels_of (p.instructions + 1) c after) (rw e at all_told)

    count : length (setting q new).set ≡ c
    count = ap length (sym both.1) ∙ each_length _ 0 c

    pub comes_over : most_labels < c → Comes (Goes (λ o n. Holds o n ns after gs fs)) (Err (Refused OverLimit k)) (labelling q k new)
    unfolding pick
    comes_over over = comes_refused OverLimit k (rw (both.0, count, lt-ltb most_labels c over) refl)

    pub comes_labelled : c ≤ most_labels
        → Comes (Goes (λ o n. Holds o n ns after gs fs)) (Ok (in_instructions p c)) (labelling q k new)
    unfolding pick
    comes_labelled few_too =
        comes_further (setting q new) _ (rw (both.0, count, le-ltb most_labels c few_too) refl)
        (record {
          staged = refl;
          its_names = h.its_names;
          its_labels = record {
            labelled = both.1;
            so_far = told_so_far (sets.so_far h.its_labels.so_far);
            few_labels = few_too;
            room_for_labels = sets.kept ∙ h.its_labels.room_for_labels;
          };
          its_groups = h.its_groups;
          its_fields = h.its_fields;
        })
      where
        told_so_far : SoFarIn (p.instructions + 1) r after → SoFar (p.instructions + 1) c after
        told_so_far s = rw e at s

-- ---- an instruction behind its labels

module _ (q : Program) (k : ℕ) (new : List ℕ) (o : Outcome) where
  abbrev pub behind_labels : Outcome
  behind_labels = with_labels q k new (with_few_labels k (setting q new) o)

  pub labels_refused : (n j : ℕ) → labelling q k new ≡ refused n j → behind_labels ≡ refused n j
  unfolding pick
  labels_refused n j e =
      by_test
      (can_set q.set new)
      (λ t. by_test
      (ltb most_labels (length (setting q new).set))
      (λ u. rw (t, u) (rw (t, u) at e))
      (λ u. let z = rw (t, u) at e in absurd (cc)))
      (λ t. rw t (rw t at e))

  module _ (q' : Program) (e : labelling q k new ≡ further q') where
    pub labels_further : (behind_labels ≡ o) × (setting q new ≡ q')
    unfolding pick
    labels_further =
        by_test
        (can_set q.set new)
        (λ t. by_test
        (ltb most_labels (length (setting q new).set))
        (λ u. let z = rw (t, u) at e in absurd (cc))
        (λ u. let same : setting q new ≡ q' = cc (rw (t, u) at e) in (rw (t, u) refl, same)))
        (λ t. let z = rw t at e in absurd (cc))
