-- What the answers of the private functions stand for, and what their loops do. A reader of the promises needs none of it.
use Rattle.std.specs.Prelude.{ℕ, ◌+◌, ◌-◌, ◌<◌, ◌≤◌, ◌≡◌, List, Option, Some, None, IfSome, unwrap_or, ltb, eqb, length, drop}
use Rattle.std.specs.Option.{option_or}
use Rattle.base.specs.Choice.{pick}
use Rattle.base.specs.Front.{found, missing}
use Rattle.text.specs.Pieces.{Front}
use Rattle.order.specs.declared.Order.{Order}
use Rattle.order.specs.declared.Order.TheVariants.{Word, Number as OnNumber, Store, Neg, Not, Jump, Skip, Branch, Cond, Send, Stop}
use Rattle.order.specs.Limits.{most_variables, most_temporaries, most_orders}
use Rattle.order.specs.Object.{Header, Lines, Reading, refused, first_operand, first_stop, is_stop}
use Rattle.object_reader.specs.declared.Frame.{Frame}
use Rattle.object_reader.specs.declared.Refusal.{Refusal}
use Rattle.object_reader.specs.declared.Refusal.TheVariants.{Word as BadWord, Address as BadAddress}
use Rattle.object_reader.specs.declared.Scan.{Scan}
use Rattle.object_reader.specs.Answers.{Verdict, good, refusal, refusal_of}

-- ---- the header

abbrev pub header_found : List ℕ → Option (Frame × ℕ) → Front Header
header_found s (Some (f, i)) = found (record { variables = f.variables; temporaries = f.temporaries; orders = f.orders }) (drop i s)
header_found s None = missing

abbrev pub header_bounded : Option (Frame × ℕ) → Type 0
header_bounded (Some (f, i)) = (f.variables ≤ most_variables) × (f.temporaries ≤ most_temporaries) × (0 < f.orders) × (f.orders ≤ most_orders)
header_bounded None = Unit {0}

-- ---- the records, one after the other

abbrev pub word_trouble : ℕ → ℕ → ℕ → Option Refusal
word_trouble w words place = pick (ltb w 2) (Some (BadWord place)) (pick (ltb w words) None (Some (BadWord place)))

abbrev pub address_trouble : ℕ → ℕ → ℕ → Option Refusal
address_trouble a n place = pick (ltb a n) None (Some (BadAddress place))

abbrev pub trouble_of : ℕ → ℕ → ℕ → Order → Option Refusal
trouble_of words n place (Word f w) = word_trouble w words place
trouble_of words n place (OnNumber f k) = None
trouble_of words n place (Store w) = word_trouble w words place
trouble_of words n place Neg = None
trouble_of words n place Not = None
trouble_of words n place (Jump a) = address_trouble a n place
trouble_of words n place (Skip a) = address_trouble a n place
trouble_of words n place (Branch r a) = address_trouble a n place
trouble_of words n place (Cond k) = None
trouble_of words n place Send = None
trouble_of words n place Stop = None

-- what is read where a check is failed, else what comes after this check
abbrev pub reading_at : Verdict → Reading → Reading
reading_at (good v t n) after = after
reading_at (refusal n place) after = refused n place

abbrev pub troubled : Option Refusal → Reading → Reading
troubled None after = after
troubled (Some trouble) after = reading_at (refusal_of trouble) after

abbrev pub stop_here : Order → ℕ → Option ℕ
stop_here o place = pick (is_stop o) (Some place) None

abbrev pub noted_scan : ℕ → ℕ → Order → ℕ → Scan → Scan
noted_scan words n o at scan = record {
  at = at;
  count = scan.count + 1;
  trouble = option_or scan.trouble (trouble_of words n scan.count o);
  stop = option_or scan.stop (stop_here o scan.count);
}

-- what is known after the lines ls of the text s
pub record ScanOf (words n : ℕ) (s : List ℕ) (ls : Lines) (scan : Scan) : Type 0 where
  pub counted : scan.count ≡ length ls.orders
  pub behind : drop scan.at s ≡ ls.rest
  pub operands : (after : Reading) → first_operand words n 0 ls.orders after ≡ troubled scan.trouble after
  pub stops : unwrap_or scan.stop scan.count ≡ first_stop 0 ls.orders
  pub early : IfSome scan.stop (λ k. k < scan.count)

abbrev pub stop_verdict : Option ℕ → Frame → Verdict
stop_verdict (Some k) f = pick (eqb k (f.orders - 1)) (good f.variables f.temporaries f.orders) (refusal 25 k)
stop_verdict None f = refusal 25 (f.orders - 1)

abbrev pub trouble_verdict : Option Refusal → Verdict → Verdict
trouble_verdict None after = after
trouble_verdict (Some trouble) after = refusal_of trouble

abbrev pub scan_verdict : Scan → ℕ → Frame → Verdict
scan_verdict scan len f =
    pick
    (ltb scan.count f.orders)
    (refusal 22 scan.count)
    (pick (ltb scan.at len) (refusal 22 f.orders) (trouble_verdict scan.trouble (stop_verdict scan.stop f)))
