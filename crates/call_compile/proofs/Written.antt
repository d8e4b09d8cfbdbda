-- The text of a sheet's object, from the array that the translation fills.
use Prim.Native.Nat.{ℕ, ◌≤◌}
use mathlib.Core.Path.{◌≡◌, sym, ap, ap₂, ◌∙◌}
use mathlib.Core.List.{List}
use native.Mathlib.Omega.{arith}
use lib.ListN.{length, take}
use lib.Seq.{length-take-le}
use Rattle.order.specs.Limits.{most_orders}
use Rattle.order.specs.Memory.{orders_in}
use Rattle.order.specs.Object.{text}
use Rattle.order.proofs.Arrays.{good_narrow, array_holds}
use Rattle.sheet.specs.Sheet.{Part, Sheet, sheet, variables}
use Rattle.sheet.specs.Memory.{sheet_fields}
use Rattle.sheet.specs.Within.{Within}
use Rattle.sheet.specs.Translation.{translation, temporaries_of, object_text}
use Rattle.sheet.proofs.GoodObject.{translation_good}
use Rattle.sheet_field.specs.Memory.{fields_at, most_fields}
use Rattle.translate.specs.declared.Translated.{Translated}
use Rattle.std.proofs.Common.{Option, Some, None}
use Rattle.translate.specs.Answers.{TranslatesTo, Translates}
use Rattle.call.specs.Reply.{wrote, text_writing}
use Rattle.call_compile.specs.Internal.{OrdersWritten}

module _ (fs : List ℕ) (v : ℕ) (zeros : List ℕ) (long : length zeros ≡ most_orders) (a : Option Translated) (out : List ℕ) (told : Translates fs v zeros a out) where
  module _ (x : Part) (w : Within (sheet v x)) (same : fields_at 0 fs ≡ sheet_fields (sheet v x)) (small : length fs ≤ most_fields) where
    it : TranslatesTo v x zeros a out
    it = told.of x w.formed same w.few_variables small long

    -- a sheet within the limits has room
    no_over : {P : Type 0} → a ≡ None → P
    no_over e = let both = (it.whole w.few_orders).0 in absurd (cc)

    whole_by :
        (z : Translated) (before : List ℕ) (r : ℕ) (after : List ℕ)
        → a ≡ Some z
        → OrdersWritten (take z.orders out) v z.temporaries before r after
        → wrote r after ≡ text_writing 12 (object_text (sheet v x)) before
    whole_by z before r after e written =
        let told = it.whole w.few_orders in
        let both : z ≡ record { temporaries = temporaries_of x; orders = length (translation (sheet v x)) } = cc (sym e ∙ told.0) in
        let used : z.temporaries ≡ temporaries_of x = ap (λ (y : Translated). y.temporaries) both in
        let many : z.orders ≡ length (translation (sheet v x)) = ap (λ (y : Translated). y.orders) both in
        let good = translation_good (sheet v x) w in
        let held : orders_in (take z.orders out) ≡ translation (sheet v x) =
        ap₂ (λ k l. orders_in (take k l)) many told.1
        ∙ array_holds (translation (sheet v x)) zeros (good_narrow v (temporaries_of x) (translation (sheet v x)) good) (omega (arith, long, w.few_orders)) in
        written (omega (arith, many, w.few_orders, length-take-le z.orders out (room many)))
        ∙ ap₂ (λ k l. text_writing 12 (text v k l) before) used held
      where
        room : z.orders ≡ length (translation (sheet v x)) → z.orders ≤ length out
        room many = omega (arith, many, w.few_orders, told.kept, long)

  pub never_over : (s : Sheet) → Within s → variables s ≡ v → fields_at 0 fs ≡ sheet_fields s → length fs ≤ most_fields → {P : Type 0} → a ≡ None → P
  never_over (sheet u x) w same fields small e = no_over x (rw same at w) fields small e

  pub whole_written :
      (s : Sheet)
      → Within s
      → variables s ≡ v
      → fields_at 0 fs ≡ sheet_fields s
      → length fs ≤ most_fields
      → (z : Translated) (before : List ℕ) (r : ℕ) (after : List ℕ)
      → a ≡ Some z
      → OrdersWritten (take z.orders out) v z.temporaries before r after
      → wrote r after ≡ text_writing 12 (object_text s) before
  whole_written (sheet u x) w same fields small z before r after e written =
      whole_by x (rw same at w) fields small z before r after e written ∙ ap (λ k. text_writing 12 (object_text (sheet k x)) before) (sym same)
