-- What the reader makes of a scan is what the checks 22 to 25 say of the lines.
use Prim.Native.Nat.{ℕ, ◌+◌, ◌-◌, ◌<◌, ◌≤◌, min}
use mathlib.Core.Path.{◌≡◌, refl, sym, ap, ◌∙◌}
use mathlib.Core.Bool.{Bool, true, false}
use mathlib.Core.List.{List, []}
use native.Mathlib.Omega.{arith}
use borrow.Author.Tests.{lt-ltb, le-ltb, ltb-false, ne_eqb}
use lib.Dec.{ltb, eqb}
use lib.ListN.{length, drop, length-drop}
use Rattle.std.specs.Prelude.{Option, Some, None, IfSome, unwrap_or}
use Rattle.base.specs.Choice.{pick}
use Rattle.base.specs.Front.{found, missing, on_front}
use Rattle.base.proofs.Cases.{by_test, by_less}
use Rattle.order.specs.declared.Order.{Order}
use Rattle.order.specs.Object.{Header as HeaderRead, header_at, Lines, lines_at, Reading, object, refused}
use Rattle.order.specs.Object.{first_operand, first_stop, stop_last, exactly, reading, lines_of}
use Rattle.object_reader.specs.declared.Frame.{Frame}
use Rattle.object_reader.specs.declared.Refusal.{Refusal}
use Rattle.object_reader.specs.declared.Refusal.TheVariants.{Header, Line, Word, Address, Stop}
use Rattle.object_reader.specs.declared.Scan.{Scan}
use Rattle.object_reader.specs.Answers.{refusal_of, verdict_of}
use Rattle.object_reader.specs.Internal.{reading_at, troubled, ScanOf, stop_verdict, trouble_verdict, scan_verdict}

verdict_chosen : (b : Bool) (x y : Reading) → verdict_of (pick b x y) ≡ pick b (verdict_of x) (verdict_of y)
unfolding pick
verdict_chosen true x y = refl
verdict_chosen false x y = refl

verdict_at : (r : Refusal) (after : Reading) → verdict_of (reading_at (refusal_of r) after) ≡ refusal_of r
verdict_at Header after = refl
verdict_at (Line k) after = refl
verdict_at (Word k) after = refl
verdict_at (Address k) after = refl
verdict_at (Stop k) after = refl

verdict_troubled : (t : Option Refusal) (after : Reading) → verdict_of (troubled t after) ≡ trouble_verdict t (verdict_of after)
verdict_troubled None after = refl
verdict_troubled (Some r) after = verdict_at r after

-- some text is left behind a place exactly if it lies before the end
text_left : (s : List ℕ) (i : ℕ) → ltb i (length s) ≡ ltb 0 (length (drop i s))
text_left s i =
    by_less
    i
    (length s)
    (λ h. lt-ltb i (length s) h ∙ sym (lt-ltb 0 (length (drop i s)) (omega (arith, length-drop i s))))
    (λ h. le-ltb i (length s) h ∙ sym (le-ltb 0 (length (drop i s)) (omega (arith, length-drop i s))))

-- the place of the first STOP of some orders, where it is told whether there is one
stops_judged :
    (stop : Option ℕ) (v t : ℕ) (os : List Order)
    → 0 < length os
    → unwrap_or stop (length os) ≡ first_stop 0 os
    → IfSome stop (λ k. k < length os)
    → stop_verdict stop (record { variables = v; temporaries = t; orders = length os }) ≡ verdict_of (stop_last v t os)
unfolding stop_last pick
stops_judged None v t os some e h =
    let other : length os ≡ length os - 1 → ⊥ = λ z. omega arith in
    let least : min (length os) (length os - 1) ≡ length os - 1 = omega arith in
    rw (← e, ne_eqb (length os) (length os - 1) other, least) refl
stops_judged (Some k) v t os some e h =
    let least : min k (length os - 1) ≡ k = omega arith in
    rw (← e, least, verdict_chosen (eqb k (length os - 1)) (object v t os) (refused 25 k)) refl

module _ (f : Frame) (s : List ℕ) (ls : Lines) (scan : Scan) (some : 0 < f.orders) (most : length ls.orders ≤ f.orders)
    (known : ScanOf (f.variables + f.temporaries + 2) f.orders s ls scan) where
  -- where there are as many lines as the header says
  whole_judged :
      length ls.orders ≡ f.orders
      → trouble_verdict scan.trouble (stop_verdict scan.stop f)
      ≡ verdict_of (first_operand (f.variables + f.temporaries + 2) f.orders 0 ls.orders (stop_last f.variables f.temporaries ls.orders))
  whole_judged e =
      ap
      (λ k. trouble_verdict scan.trouble (stop_verdict scan.stop (record { variables = f.variables; temporaries = f.temporaries; orders = k })))
      (sym e)
      ∙ ap (λ r. trouble_verdict scan.trouble r)
      (stops_judged scan.stop f.variables f.temporaries ls.orders (omega arith) (rw known.counted at known.stops) (rw known.counted at known.early))
      ∙ sym (verdict_troubled scan.trouble (stop_last f.variables f.temporaries ls.orders))
      ∙ ap verdict_of (sym (known.operands (stop_last f.variables f.temporaries ls.orders)))

  pub scan_judged :
      scan_verdict scan (length s) f
      ≡ verdict_of (exactly (record { variables = f.variables; temporaries = f.temporaries; orders = f.orders }) ls)
  unfolding exactly pick
  scan_judged =
      rw (known.counted, text_left s scan.at, known.behind)
      (by_test
      (ltb (length ls.orders) f.orders)
      (λ e. rw e refl)
      (λ e. rw
      e
      (by_test
      (ltb 0 (length ls.rest))
      (λ g. rw g refl)
      (λ g. rw g (whole_judged (omega (arith, most, ltb-false (length ls.orders) f.orders e)))))))

-- the reading behind a good header, and behind none
module _ (l : List ℕ) where
  pub reading_found :
      (h : HeaderRead) (rest : List ℕ)
      → header_at l ≡ found h rest
      → (reading l ≡ exactly h (lines_at h.orders rest)) × (lines_of l ≡ (lines_at h.orders rest).orders)
  unfolding reading lines_of on_front
  reading_found h rest e = (rw e refl, rw e refl)

  pub reading_none : header_at l ≡ missing → (reading l ≡ refused 21 0) × (lines_of l ≡ [])
  unfolding reading lines_of on_front
  reading_none e = (rw e refl, rw e refl)
