-- What stands at a place of an array of fields.
use Prim.Native.Nat.{ℕ, ◌-◌, ◌<◌, ◌≤◌}
use mathlib.Core.Path.{◌≡◌, sym, ap, ◌∙◌}
use mathlib.Core.List.{List, [], ◌∷◌, map}
use native.Mathlib.Omega.{arith}
use lib.ListN.{length, get_or, drop, length-map, length-drop, get_or-eq_default}
use lib.Seq.{drop-cons}
use Rattle.base.proofs.Cases.{by_less}
use Rattle.sheet.specs.declared.Field.{Field}
use Rattle.sheet.specs.declared.Field.TheVariants.{Else, Run}
use Rattle.sheet.specs.declared.Joining.{Joining}
use Rattle.sheet_field.specs.Memory.{shapes, field_of, field_in, fields_at}
use Rattle.translate_expression.specs.Internal.{behind}
use Rattle.translate_expression.proofs.Turns.{fields_behind}
use Rattle.translate_size.specs.Internal.{Past}

module _ (fs : List ℕ) where
  pub left_length : (at : ℕ) → length (fields_at at fs) ≡ length fs - at
  left_length at = length-map (drop at fs) field_in ∙ length-drop at fs

  pub some_inside : (at : ℕ) (f : Field) (l : List Field) → fields_at at fs ≡ f ∷ l → at < length fs
  some_inside at f l e = let n = sym (left_length at) ∙ ap length e in omega (arith, n)

  -- the first of the fields
  pub first_field : (at : ℕ) (f g : Field) (l : List Field) → f ≡ field_in (get_or fs at 0) → fields_at at fs ≡ g ∷ l → f ≡ g
  first_field at f g l known e =
      let two = sym (ap (map field_in) (drop-cons fs at 0 (some_inside at g l e))) ∙ e in
      let same : field_in (get_or fs at 0) ≡ g = cc in
      known ∙ same

  -- those behind it
  pub past_first : (at r : ℕ) (f : Field) (l : List Field) → Past (length fs) at r → fields_at at fs ≡ f ∷ l → fields_at r fs ≡ l
  past_first at r f l p e =
      ap (λ k. fields_at k fs) (p.inside (some_inside at f l e)) ∙ fields_behind at fs ∙ ap behind e

  pub none_left : (at : ℕ) → fields_at at fs ≡ [] → length fs ≤ at
  none_left at e = let n = sym (left_length at) ∙ ap length e in omega (arith, n)

  -- past the end stands ELSE
  pub run_inside : (at : ℕ) (w : Joining) (n : ℕ) → Run w n ≡ field_in (get_or fs at 0) → at < length fs
  unfolding field_of shapes
  run_inside at w n known =
      by_less at (length fs) (λ h. h)
      (λ h.
      let none : Run w n ≡ Else = known ∙ ap field_in (get_or-eq_default fs 0 {n = at} h) in
      let z : ◌≡◌ {A = ℕ} 0 1 = cc in
      absurd (omega arith))
