-- The object text of a sheet: it is read as the sheet's translation, gives the sheet back, and tells sheets apart.
use Prim.Native.Nat.{ℕ}
use mathlib.Core.Path.{◌≡◌, refl, sym, ap, ◌∙◌}
use mathlib.Core.List.{List}
use native.Mathlib.Omega.{arith}
use Rattle.order.specs.Object.{Reading, object, refused, reading}
use Rattle.order.proofs.RoundTrip.{read_text, text_read, read_good}
use Rattle.sheet.specs.Sheet.{Sheet, variables}
use Rattle.sheet.specs.Translation.{translation, sheet_temporaries, object_text}
use Rattle.sheet.specs.Within.{Within}
use Rattle.sheet.specs.ReadBack.{given, read_back}
use Rattle.sheet.proofs.GoodObject.{translation_good}
use Rattle.sheet.proofs.ReadBack.{read_back_law, given_translates}

pub object_read : (s : Sheet) → Within s → reading (object_text s) ≡ object (variables s) (sheet_temporaries s) (translation s)
object_read s w = read_text (variables s) (sheet_temporaries s) (translation s) (translation_good s w)

-- an object text gives its sheet back, and only the object text of a sheet gives one: that sheet
pub object_back : (s : Sheet) → Within s → read_back (reading (object_text s)) ≡ given s
object_back s w = ap read_back (object_read s w) ∙ read_back_law s w

back_from : (l : List ℕ) (s : Sheet) (x : Reading) → reading l ≡ x → read_back x ≡ given s → Within s × (object_text s ≡ l)
back_from l s (object v t os) e g =
    let all = given_translates v t os s (read_good l v t os e) g in
    (all.0, rw (all.1, all.2, all.3) (text_read l v t os e))
back_from l s (refused n place) e g = let z : ◌≡◌ {A = ℕ} 0 1 = cc in absurd (omega arith)

pub back_object : (l : List ℕ) (s : Sheet) → read_back (reading l) ≡ given s → Within s × (object_text s ≡ l)
back_object l s g = back_from l s (reading l) refl g

-- equal objects, equal sheets
pub objects_tell : (s q : Sheet) → Within s → Within q → object_text s ≡ object_text q → s ≡ q
objects_tell s q w x e =
    let both = sym (object_back s w) ∙ ap (λ l. read_back (reading l)) e ∙ object_back q x in
    cc
