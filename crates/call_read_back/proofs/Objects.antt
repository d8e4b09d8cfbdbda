-- From an object to its sheet: what the functions have told, and the call that follows from it.
use Prim.Native.Nat.{ℕ, ◌≤◌}
use mathlib.Core.Path.{◌≡◌, refl, sym, ap, ap₂, ◌∙◌}
use mathlib.Core.List.{List, map}
use native.Mathlib.Omega.{arith}
use native.Mathlib.Nat.{zero-add}
use lib.ListN.{length, take, length-map}
use lib.Seq.{sets}
use Rattle.std.specs.Prelude.{Option, Some, None}
use Rattle.base.proofs.Lists.{take_sets}
use Rattle.order.specs.declared.Order.{Order}
use Rattle.order.specs.Limits.{most_orders}
use Rattle.order.specs.Good.{Good}
use Rattle.order.specs.Memory.{order_word}
use Rattle.order.specs.Object.{Reading, object, refused, reading, lines_of}
use Rattle.order.proofs.RoundTrip.{read_good, lines_read}
use Rattle.sheet.specs.Sheet.{count, instructions}
use Rattle.sheet.specs.Memory.{sheet_fields}
use Rattle.sheet.specs.ReadBack.{Given, given, none, untranslate}
use Rattle.sheet.proofs.ReadBack.{given_translates}
use Rattle.sheet_field.specs.Memory.{fields_at, most_fields}
use Rattle.untranslate.specs.declared.Untranslated.{Untranslated}
use Rattle.untranslate.specs.Answers.{Answers, Untranslates}
use Rattle.sheet_text.specs.Answers.{InMemory}
use Rattle.sheet_text.specs.TextOfFields.{text_of_fields}
use Rattle.sheet_text.proofs.Flat.{flat_memory}
use Rattle.object_reader.specs.Answers.{good, verdict_of}
use Rattle.call.specs.Reply.{reply, wrote, text_writing}
use Rattle.call.specs.ReadingBack.{sheet_call, object_sheet_call, read_back_call}
use Rattle.call.proofs.Refused.{Refused}
use Rattle.call_read_back.specs.Internal.{SheetWritten}

-- ---- the sheet that is read back

abbrev read_sheet : ℕ → ℕ → Untranslated
read_sheet k n = record { instructions = k; fields = n }

module _ (ws : List ℕ) (v t : ℕ) (zeros : List ℕ) (long : length zeros ≡ most_fields) (a : Option Untranslated) (fields : List ℕ) (told : Untranslates ws v t zeros a fields)
    (os : List Order) (fine : Good v t os) (held : ws ≡ map order_word os) where
  written_for :
      (k n : ℕ) (before : List ℕ) (r : ℕ) (after : List ℕ)
      → a ≡ Some (read_sheet k n)
      → wrote r after ≡ text_writing 32 (text_of_fields v k (fields_at 0 (take n fields))) before
      → (g : Given)
      → untranslate v t os ≡ g
      → Answers g a fields
      → wrote r after ≡ sheet_call g before
  written_for k n before r after e written none is h = let z : ◌≡◌ {A = ℕ} 0 1 = cc in absurd (omega (arith, z))
  written_for k n before r after e written (given s) is h =
      let both : Some (read_sheet k n) ≡ Some (read_sheet (count (instructions s)) (length (sheet_fields s))) = sym e ∙ h.0 in
      let same : read_sheet k n ≡ read_sheet (count (instructions s)) (length (sheet_fields s)) = cc in
      let counted : k ≡ count (instructions s) = ap (λ q. q.instructions) same in
      let many : n ≡ length (sheet_fields s) = ap (λ q. q.fields) same in
      let translates = given_translates v t os s fine is in
      let memory : InMemory s (take n fields) v k = record {
        fields = ap (λ j. fields_at 0 (take j fields)) many ∙ h.1;
        its_variables = translates.1;
        its_instructions = sym counted;
      } in
      written ∙ ap (λ l. text_writing 32 l before) (flat_memory s (take n fields) v k translates.0 memory)

  pub sheet_call_law :
      (k n : ℕ) (before : List ℕ) (r : ℕ) (after : List ℕ)
      → a ≡ Some (read_sheet k n)
      → wrote r after ≡ text_writing 32 (text_of_fields v k (fields_at 0 (take n fields))) before
      → wrote r after ≡ sheet_call (untranslate v t os) before
  sheet_call_law k n before r after e written = written_for k n before r after e written (untranslate v t os) refl (told.of os fine held long)

  missing_for : (buffer : List ℕ) → a ≡ None → (g : Given) → Answers g a fields → wrote (reply 31 0) buffer ≡ sheet_call g buffer
  missing_for buffer e none h = refl
  missing_for buffer e (given s) h = let both = h.0 in let z : ◌≡◌ {A = ℕ} 0 1 = cc in absurd (omega (arith, z))

  pub missing_call : (buffer : List ℕ) → a ≡ None → wrote (reply 31 0) buffer ≡ sheet_call (untranslate v t os) buffer
  missing_call buffer e = missing_for buffer e (untranslate v t os) (told.of os fine held long)

-- ---- the object that is read

module _ (l : List ℕ) where
  pub refused_call_law : (r : ℕ) (buffer : List ℕ) → Refused (reading l) r → wrote r buffer ≡ read_back_call l buffer
  unfolding read_back_call
  refused_call_law r buffer k = rw (k.same, k.replied) refl

  -- what a good object has
  record Object (v t n : ℕ) : Type 0 where
    orders : List Order
    is : reading l ≡ object v t orders
    many : n ≡ length orders

  object_by : (x : Reading) (v t n : ℕ) → reading l ≡ x → good v t n ≡ verdict_of x → Object v t n
  object_by (refused k p) v t n i e = let z : ◌≡◌ {A = ℕ} 0 1 = cc in absurd (omega (arith, z))
  object_by (object w u os) v t n i e =
      let a : v ≡ w = cc in
      let b : t ≡ u = cc in
      let c : n ≡ length os = cc in
      record { orders = os; is = rw (a, b) i; many = c }

  module _ (v t n : ℕ) (e : good v t n ≡ verdict_of (reading l)) where
    it : Object v t n
    it = object_by (reading l) v t n refl e

    pub few_orders : n ≤ most_orders
    few_orders = omega (arith, it.many, (read_good l v t it.orders it.is).few_orders)

    pub good_call :
        (zeros before : List ℕ) (r : ℕ) (after : List ℕ)
        → length zeros ≡ most_orders
        → SheetWritten (take n (sets zeros 0 (map order_word (lines_of l)))) v t before r after
        → wrote r after ≡ read_back_call l before
    unfolding read_back_call
    good_call zeros before r after long written =
        let os = it.orders in
        let fine = read_good l v t os it.is in
        let k = length-map os order_word in
        let held : take n (sets zeros 0 (map order_word (lines_of l))) ≡ map order_word os =
        ap₂ (λ j w. take j (sets zeros 0 (map order_word w))) (it.many ∙ sym k ∙ sym (zero-add (length (map order_word os)))) (lines_read l v t os it.is)
        ∙ take_sets zeros 0 (map order_word os) (omega (arith, k, long, fine.few_orders)) in
        written os fine held ∙ ap (λ x. object_sheet_call x before) (sym it.is)
