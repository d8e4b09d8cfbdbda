-- The loops over the fields.
use Prim.Native.Nat.{ℕ, suc, ◌+◌, ◌≤◌, ◌<◌}
use mathlib.Core.Path.{◌≡◌, refl, sym, ap, subst, ◌∙◌}
use mathlib.Core.Bool.{Bool, true, false}
use mathlib.Core.List.{List, [], ◌∷◌, map}
use native.Mathlib.Omega.{arith}
use mir.Val.{bool_byte}
use native.Mathlib.Numerals.{add-one}
use lib.ListN.{length, get_or, drop, length-map, length-drop}
use lib.Seq.{drop-cons}
use Rattle.base.specs.Choice.{pick}
use Rattle.sheet.specs.declared.Field.{Field}
use Rattle.sheet.specs.Sheet.{count}
use Rattle.sheet.specs.Within.{PartFormed}
use Rattle.sheet_field.specs.Memory.{field_in, fields_at, most_fields}
use Rattle.sheet_check.specs.declared.State.{State}
use Rattle.std.specs.Prelude.{Option, Some, None}
use Rattle.sheet_check.specs.Internal.{begins, begun, step_of, is_final, start, on_step, accepts}
use Rattle.sheet_check.specs.Answers.{Checks}
use Rattle.sheet_check.proofs.States.{Small, start_small, step_small}
use Rattle.sheet_check.proofs.Complete.{complete, begun_part}
use Rattle.sheet_check.proofs.Sound.{sound}

left_more : (fs : List ℕ) (i : ℕ) → i < length fs → fields_at i fs ≡ field_in (get_or fs i 0) ∷ fields_at (i + 1) fs
left_more fs i h = ap (map field_in) (drop-cons fs i 0 h) ∙ ap (λ k. field_in (get_or fs i 0) ∷ fields_at k fs) (sym (add-one i))

left_none : (fs : List ℕ) (i : ℕ) → length fs ≤ i → fields_at i fs ≡ []
left_none fs i h = none (fields_at i fs) (length-map (drop i fs) field_in ∙ length-drop i fs ∙ omega arith)
  where
    none : (l : List Field) → length l ≡ 0 → l ≡ []
    none [] e = refl
    none (f ∷ l) e = absurd (omega arith)

-- ---- instructions counted

pub one_or_none : (t : Bool) (r : ℕ) → r ≡ pick t 1 0 → r ≤ 1
unfolding pick
one_or_none true r e = omega arith
one_or_none false r e = omega arith

pub record Counting (fs : List ℕ) (i n : ℕ) : Type 0 where
  pub all : n + begun (fields_at i fs) ≡ begun (fields_at 0 fs)
  pub few : n ≤ i
  pub inside : i ≤ length fs

module _ (fs : List ℕ) where
  pub count_none : Counting fs 0 0
  count_none = record { all = omega arith; few = omega arith; inside = omega arith }

  module _ (i n : ℕ) (p : Counting fs i n) (h : i < length fs) where
    pub count_more : (t : Bool) → t ≡ begins (field_in (get_or fs i 0)) → (r : ℕ) → r ≡ bool_byte t → Counting fs (i + 1) (n + r)
    unfolding begun pick
    count_more t told r e = by t e (ap begun (left_more fs i h) ∙ ap (λ b. pick b (suc (begun (fields_at (i + 1) fs))) (begun (fields_at (i + 1) fs))) (sym told))
      where
        by : (t : Bool) → r ≡ bool_byte t → begun (fields_at i fs) ≡ pick t (suc (begun (fields_at (i + 1) fs))) (begun (fields_at (i + 1) fs)) → Counting fs (i + 1) (n + r)
        by true is one = record { all = omega (arith, p.all, is, one); few = omega (arith, p.few, is); inside = omega arith }
        by false is one = record { all = omega (arith, p.all, is, one); few = omega (arith, p.few, is); inside = omega arith }

  pub count_all : (i n : ℕ) → Counting fs i n → length fs ≤ i → n ≡ begun (fields_at 0 fs)
  unfolding begun
  count_all i n p h = let none = ap begun (left_none fs i h) in omega (arith, p.all, none)

-- ---- fields accepted

pub record Passing (v n : ℕ) (fs : List ℕ) (i : ℕ) (s : State) : Type 0 where
  pub same : accepts v n s (fields_at i fs) ≡ accepts v n start (fields_at 0 fs)
  pub small : Small i s
  pub inside : i ≤ length fs

module _ (v n : ℕ) (fs : List ℕ) where
  pub pass_none : Passing v n fs 0 start
  pass_none = record { same = refl; small = start_small; inside = omega arith }

  module _ (i : ℕ) (s : State) (p : Passing v n fs i s) (h : i < length fs) (r : Option State) (e : r ≡ step_of v n s (field_in (get_or fs i 0))) where
    ahead : on_step r (λ t. accepts v n t (fields_at (i + 1) fs)) ≡ accepts v n start (fields_at 0 fs)
    unfolding accepts
    ahead = ap (λ x. on_step x (λ t. accepts v n t (fields_at (i + 1) fs))) e ∙ sym (ap (accepts v n s) (left_more fs i h)) ∙ p.same

    pub pass_more : (t : State) → r ≡ Some t → Passing v n fs (i + 1) t
    pass_more t g = record {
      same = sym (ap (λ x. on_step x (λ t. accepts v n t (fields_at (i + 1) fs))) g) ∙ ahead;
      small = step_small i s p.small v n (field_in (get_or fs i 0)) r t e g;
      inside = omega arith;
    }

    pub pass_stops : r ≡ None → false ≡ accepts v n start (fields_at 0 fs)
    pass_stops g = sym (ap (λ x. on_step x (λ t. accepts v n t (fields_at (i + 1) fs))) g) ∙ ahead

  pub pass_ends : (i : ℕ) (s : State) → Passing v n fs i s → length fs ≤ i → is_final s ≡ accepts v n start (fields_at 0 fs)
  unfolding accepts
  pass_ends i s p h = sym (ap (accepts v n s) (left_none fs i h)) ∙ p.same

-- ---- what the check tells

module _ (fs : List ℕ) (v : ℕ) where
  module _ (n : ℕ) (counted : n ≡ begun (fields_at 0 fs)) where
    pub check_yes : accepts v n start (fields_at 0 fs) ≡ true → Checks fs v (Some n)
    check_yes e = record {
      found = λ m g.
          let same : n ≡ m = cc in
          let it = sound v n (fields_at 0 fs) e in
          let many : n ≡ count it.part = counted ∙ ap begun it.is ∙ begun_part it.part in
          record { part = it.part; are = record { same = it.is; formed = subst (λ k. PartFormed v k it.part) many it.formed; few_levels = it.few_levels }; counted = sym same ∙ many };
      none = λ g. let z : ◌≡◌ {A = ℕ} 0 1 = cc in absurd (omega arith);
    }

    pub check_no : accepts v n start (fields_at 0 fs) ≡ false → Checks fs v None
    check_no e = record {
      found = λ m g. let z : ◌≡◌ {A = ℕ} 0 1 = cc in absurd (omega arith);
      none = λ g few small x f.
          let many : n ≡ count x = counted ∙ ap begun f.same ∙ begun_part x in
          let all : accepts v n start (fields_at 0 fs) ≡ true = ap (accepts v n start) f.same ∙ complete v n x (subst (λ k. PartFormed v k x) (sym many) f.formed) f.few_levels in
          let z : ◌≡◌ {A = ℕ} 0 1 = cc in absurd (omega arith);
    }

begun_few : (l : List Field) → begun l ≤ length l
unfolding begun pick
begun_few [] = omega arith
begun_few (f ∷ l) = by (begins f) (begun_few l)
  where
    by : (t : Bool) → begun l ≤ length l → pick t (suc (begun l)) (begun l) ≤ suc (length l)
    by true h = omega arith
    by false h = omega arith

pub count_few : (fs : List ℕ) (n : ℕ) → n ≡ begun (fields_at 0 fs) → length fs ≤ most_fields → n ≤ most_fields
count_few fs n e h = omega (arith, e, begun_few (fields_at 0 fs), length-map fs field_in)
