-- The text of fields tells the fields: no two lists of them have one text.
use Prim.Native.Nat.{ℕ, ◌≤◌}
use mathlib.Core.Path.{◌≡◌, refl, sym, ap, ap₂, ◌∙◌}
use mathlib.Core.List.{List, [], ◌∷◌, ◌++◌, append_assoc}
use native.Mathlib.Omega.{arith}
use lib.ListN.{drop}
use Rattle.base.specs.Choice.{pick}
use Rattle.base.specs.Text.{bytes}
use Rattle.base.specs.Front.{found, missing}
use Rattle.base.proofs.Cases.{by_test}
use Rattle.base.proofs.Fronts.{never}
use Rattle.text.specs.Pieces.{decimal, numeral, greatest_number}
use Rattle.text.proofs.Decimal.{numeral_decimal}
use Rattle.sheet.specs.declared.Field.{Field}
use Rattle.sheet.specs.Fields.{field_text}
use Rattle.sheet.proofs.Each.{Each}
use Rattle.sheet_text.specs.TextOfFields.{begins, fields_text, header_text}
use Rattle.sheet_text.proofs.FieldText.{Closed, tab, newline, after_digits, after_number}
use Rattle.sheet_text.proofs.FieldText.{field_at, field_read, no_field}
use Rattle.sheet_text.proofs.SmallNumbers.{Small}

-- each field is closed by what stands before the next, or by the last newline
pub closed : (fs : List Field) → Closed (fields_text fs)
unfolding fields_text pick
closed [] = newline []
closed (f ∷ fs) =
    by_test (begins f) (λ y. rw y (newline (field_text f ++ fields_text fs))) (λ n. rw n (tab (field_text f ++ fields_text fs)))

-- the first field of a text
first_field : (f : Field) (fs : List Field) → Small f → field_at (drop 1 (fields_text (f ∷ fs))) ≡ found f (fields_text fs)
unfolding fields_text
first_field f fs small = field_read f (fields_text fs) (closed fs) small

no_first_field : field_at (drop 1 (fields_text [])) ≡ missing
unfolding fields_text
no_first_field = no_field

pub fields_told : (fs gs : List Field) → Each Small fs → Each Small gs → fields_text fs ≡ fields_text gs → fs ≡ gs
fields_told [] [] x y e = refl
fields_told [] (g ∷ gs) x y e = never (sym no_first_field ∙ ap (λ l. field_at (drop 1 l)) e ∙ first_field g gs y.0)
fields_told (f ∷ fs) [] x y e = never (sym no_first_field ∙ ap (λ l. field_at (drop 1 l)) (sym e) ∙ first_field f fs x.0)
fields_told (f ∷ fs) (g ∷ gs) x y e =
    let same : found f (fields_text fs) ≡ found g (fields_text gs) =
    sym (first_field f fs x.0) ∙ ap (λ l. field_at (drop 1 l)) e ∙ first_field g gs y.0 in
    let field : f ≡ g = cc in
    let behind : fields_text fs ≡ fields_text gs = cc in
    ap₂ ◌∷◌ field (fields_told fs gs x.1 y.1 behind)

-- ---- the header

header_parts : (v is : ℕ) (l : List ℕ) → header_text v is ++ l ≡ bytes "SHEET\t" ++ (decimal v ++ 9 ∷ (decimal is ++ l))
header_parts v is l = simp append_assoc

header_numbers : (v is : ℕ) (l : List ℕ) → v ≤ greatest_number
    → numeral 9 (drop 6 (header_text v is ++ l)) ≡ found v (decimal is ++ l)
unfolding bytes
header_numbers v is l small =
    ap (λ t. numeral 9 (drop 6 t)) (header_parts v is l)
    ∙ numeral_decimal 9 v (decimal is ++ l) small (omega arith)

pub header_told : (v w is js : ℕ) (l m : List ℕ) → v ≤ greatest_number → w ≤ greatest_number → Closed l → Closed m
    → header_text v is ++ l ≡ header_text w js ++ m → (v ≡ w) × (l ≡ m)
header_told v w is js l m small small_too c d e =
    let same : found v (decimal is ++ l) ≡ found w (decimal js ++ m) =
    sym (header_numbers v is l small) ∙ ap (λ t. numeral 9 (drop 6 t)) e ∙ header_numbers w js m small_too in
    let variables : v ≡ w = cc in
    let behind : decimal is ++ l ≡ decimal js ++ m = cc in
    (variables, sym (after_number is l c) ∙ ap after_digits behind ∙ after_number js m d)
