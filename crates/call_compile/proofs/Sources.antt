-- What the front end has told, and the call that follows from it.
use Prim.Native.Nat.{ℕ, ◌≤◌}
use mathlib.Core.Path.{◌≡◌, refl, sym, ap, ◌∙◌}
use mathlib.Core.List.{List}
use native.Mathlib.Omega.{arith}
use lib.ListN.{length, take}
use lib.Seq.{length-take-le}
use Rattle.sheet.specs.declared.Field.{Field}
use Rattle.sheet.specs.Sheet.{Sheet}
use Rattle.sheet.specs.Within.{Within}
use Rattle.sheet.specs.Memory.{sheet_fields}
use Rattle.sheet.proofs.Lengths.{sheet_few}
use Rattle.sheet_field.specs.Memory.{fields_from, most_fields}
use Rattle.sheet_field.proofs.Stored.{fields_length, fields_front}
use Rattle.source.specs.Source.{Answer, accepted, refusal, answer}
use Rattle.source.proofs.WithinLimits.{given_within}
use Rattle.std.proofs.Common.{Result, Ok, Err}
use Rattle.source.specs.declared.Refusal.{Refusal}
use Rattle.source.specs.Refusals.{refusal_number}
use Rattle.front_end_forms.specs.declared.Failure.{Failure}
use Rattle.front_end_forms.specs.declared.Failure.TheVariants.{Refused, Unfit}
use Rattle.front_end.specs.declared.Sheet.{Sheet as SheetIs}
use Rattle.front_end.specs.Answers.{Told, fields_of_sheet, refused_at, unfit, told, answered}
use Rattle.call.specs.Reply.{reply, wrote}
use Rattle.call.specs.Compile.{answer_call, compile_call}
use Rattle.call_compile.specs.Internal.{ObjectWritten}

-- ---- the cases of what is told

abbrev number : Told → ℕ
number (fields_of_sheet v many gs) = 0
number (refused_at n k) = 1
number unfit = 2

abbrev first : Told → ℕ
first (fields_of_sheet v many gs) = v
first (refused_at n k) = n
first unfit = 0

abbrev second : Told → ℕ
second (fields_of_sheet v many gs) = many
second (refused_at n k) = k
second unfit = 0

abbrev fields_or : List Field → Told → List Field
fields_or d (fields_of_sheet v many gs) = gs
fields_or d (refused_at n k) = d
fields_or d unfit = d

-- ---- the call

refused_by : (a : Answer) (n k : ℕ) (buffer : List ℕ) → refused_at n k ≡ answered a → wrote (reply n k) buffer ≡ answer_call a buffer
refused_by (accepted s) n k buffer e = let z : ◌≡◌ {A = ℕ} 1 0 = ap number e in absurd (omega (arith, z))
refused_by (refusal m j) n k buffer e = let x : n ≡ m = ap first e in let y : k ≡ j = ap second e in rw (x, y) refl

sheet_by :
    (a : Answer) (v count n : ℕ) (fs before : List ℕ) (r : ℕ) (after : List ℕ)
    → ((s : Sheet) → a ≡ accepted s → Within s)
    → length fs ≡ most_fields
    → fields_of_sheet v count (fields_from 0 n fs) ≡ answered a
    → ObjectWritten (take n fs) v before r after
    → wrote r after ≡ answer_call a before
sheet_by (accepted s) v count n fs before r after within long e written =
    let same : fields_from 0 n fs ≡ sheet_fields s = ap (fields_or (sheet_fields s)) e in
    let few = sheet_few s (within s refl) in
    let many = sym (fields_length 0 n fs) ∙ ap length same in
    let inside : n ≤ length fs = omega (arith, few, many, long) in
    let short = length-take-le n fs inside in
    written s (within s refl) (sym (ap first e)) (sym (fields_front n fs inside) ∙ same) (omega (arith, short, few, many))
sheet_by (refusal m j) v count n fs before r after within long e written =
    let z : ◌≡◌ {A = ℕ} 0 1 = ap number e in absurd (omega (arith, z))

never_by : {A : Type 0} (a : Answer) → unfit ≡ answered a → A
never_by (accepted s) e = let z : ◌≡◌ {A = ℕ} 2 0 = ap number e in absurd (omega (arith, z))
never_by (refusal n k) e = let z : ◌≡◌ {A = ℕ} 2 1 = ap number e in absurd (omega (arith, z))

module _ (source : List ℕ) (a : Result SheetIs Failure) (fs : List ℕ) (e : told a fs ≡ answered (answer source)) where
  pub refused_call_law : (n : Refusal) (k : ℕ) (buffer : List ℕ) → a ≡ Err (Refused n k) → wrote (reply (refusal_number n) k) buffer ≡ compile_call source buffer
  unfolding compile_call
  refused_call_law n k buffer z = refused_by (answer source) (refusal_number n) k buffer (rw z at e)

  pub sheet_call_law :
      (s : SheetIs) (before : List ℕ) (r : ℕ) (after : List ℕ)
      → a ≡ Ok s
      → length fs ≡ most_fields
      → ObjectWritten (take s.fields fs) s.variables before r after
      → wrote r after ≡ compile_call source before
  unfolding compile_call
  sheet_call_law s before r after z long written =
      sheet_by (answer source) s.variables s.instructions s.fields fs before r after (λ t. given_within source t) long (rw z at e) written

  pub never_unfit : {A : Type 0} → a ≡ Err Unfit → A
  never_unfit z = never_by (answer source) (rw z at e)
