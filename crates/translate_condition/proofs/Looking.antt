-- What stands at a place of an array of fields.
use Prim.Native.Nat.{ℕ, suc, ◌-◌, ◌≤◌, ◌<◌}
use mathlib.Core.Path.{◌≡◌, refl, sym, ap, ◌∙◌}
use mathlib.Core.List.{List, [], ◌∷◌, ◌++◌, map}
use native.Mathlib.Omega.{arith}
use lib.ListN.{length, get_or, drop, length-append, length-map, length-drop}
use lib.Seq.{drop-cons}
use Rattle.sheet.specs.declared.Field.{Field}
use Rattle.sheet_field.specs.Memory.{field_in, fields_at}

module _ (fs : List ℕ) where
  pub fields_inside : (at : ℕ) → at < length fs → fields_at at fs ≡ field_in (get_or fs at 0) ∷ fields_at (suc at) fs
  fields_inside at h = ap (map field_in) (drop-cons fs at 0 h)

  pub fields_length : (at : ℕ) → length (fields_at at fs) ≡ length fs - at
  fields_length at = length-map (drop at fs) field_in ∙ length-drop at fs

  none_left : (l : List Field) → length l ≡ 0 → l ≡ []
  none_left [] e = refl
  none_left (f ∷ l) e = absurd (omega arith)

  pub fields_outside : (at : ℕ) → length fs ≤ at → fields_at at fs ≡ []
  fields_outside at h = none_left (fields_at at fs) (fields_length at ∙ omega arith)

  -- no more stand there than the array has
  pub not_longer : (at : ℕ) (xs l : List Field) → fields_at at fs ≡ xs ++ l → length xs ≤ length fs
  not_longer at xs l e =
      let n = sym (fields_length at) ∙ ap length e ∙ length-append xs l in
      omega (arith, n)
