-- What an accepted text is: the text of the object that is read, which is good.
use Prim.Native.Nat.{ℕ, ◌+◌, ◌-◌}
use mathlib.Core.Path.{◌≡◌, ◌∙◌}
use mathlib.Core.List.{List, [], ◌++◌, append-nil}
use native.Mathlib.Omega.{arith}
use borrow.Author.Tests.{ltb-false, eqb-true}
use lib.Dec.{ltb, eqb}
use lib.ListN.{length, get_or, drop_of_length-le}
use Rattle.base.specs.Front.{on_front}
use Rattle.base.proofs.Cases.{chosen_first, chosen_second}
use Rattle.base.proofs.Fronts.{by_front}
use Rattle.order.specs.declared.Order.{Order}
use Rattle.order.specs.declared.Order.TheVariants.{Stop}
use Rattle.order.specs.Object.{Header, Lines, object, header_text, records_text, text, header_at, lines_at}
use Rattle.order.specs.Object.{first_stop, stop_last, exactly, reading, lines_of}
use Rattle.order.specs.Good.{Good}
use Rattle.order.proofs.HeaderText.{Within, again_header}
use Rattle.order.proofs.RecordLines.{Read, again_lines}
use Rattle.order.proofs.OrderTests.{passed_fits}
use Rattle.order.proofs.ObjectChecks.{not_object, operands_good, last_stops}

pub record Accepted (l : List ℕ) (v t : ℕ) (os : List Order) : Type 0 where
  pub written : l ≡ text v t os
  pub good : Good v t os
  pub lines : lines_of l ≡ os

-- what the checks behind the header say of the lines that were read
record Checked (h : Header) (ls : Lines) (v t : ℕ) (os : List Order) : Type 0 where
  all_lines : length ls.orders ≡ h.orders
  no_more : ls.rest ≡ []
  good : Good h.variables h.temporaries ls.orders
  same : object h.variables h.temporaries ls.orders ≡ object v t os

checked : (h : Header) (ls : Lines) (l : List ℕ) (v t : ℕ) (os : List Order) → Within h.variables h.temporaries h.orders
    → Read h.orders l ls → exactly h ls ≡ object v t os → Checked h ls v t os
unfolding exactly stop_last
checked h ls l v t os w r e =
    let enough = chosen_second (ltb (length ls.orders) h.orders) _ _ (object v t os) not_object e in
    let over = chosen_second (ltb 0 (length ls.rest)) _ _ (object v t os) not_object enough.1 in
    let operands = operands_good (h.variables + h.temporaries + 2) h.orders 0 v t ls.orders os _ over.1 in
    let stops = chosen_first (eqb (first_stop 0 ls.orders) (length ls.orders - 1)) _ _ (object v t os) not_object operands.1 in
    let all : length ls.orders ≡ h.orders = omega (arith, ltb-false (length ls.orders) h.orders enough.0) in
    let ends = last_stops ls.orders (omega arith) (eqb-true (first_stop 0 ls.orders) (length ls.orders - 1) stops.0) in
    record {
      all_lines = all;
      no_more = drop_of_length-le ls.rest {i = 0} (ltb-false 0 (length ls.rest) over.0);
      good = record {
        variables = w.variables;
        temporaries = w.temporaries;
        some_orders = omega arith;
        few_orders = omega arith;
        operands = λ k below. passed_fits h.variables h.temporaries (length ls.orders) (get_or ls.orders k Stop)
            (r.numbers k below) (rw all (operands.0 k below));
        stop_last_law = ends.0;
        no_stop_earlier = ends.1;
      };
      same = stops.1;
    }

-- the header and the lines together
joined : (h : Header) (ls : Lines) (l rest : List ℕ) (v t : ℕ) (os : List Order)
    → l ≡ header_text h.variables h.temporaries h.orders ++ rest → rest ≡ records_text ls.orders ++ ls.rest → lines_of l ≡ ls.orders → Checked h ls v t os → Accepted l v t os
unfolding text
joined h ls l rest v t os header behind lines c =
    let variables : h.variables ≡ v = cc in
    let temporaries : h.temporaries ≡ t = cc in
    let orders : ls.orders ≡ os = cc in
    record {
      written = cc (append-nil (records_text ls.orders));
      good = rw (← variables, ← temporaries, ← orders) c.good;
      lines = lines ∙ orders;
    }

pub accepted : (l : List ℕ) (v t : ℕ) (os : List Order) → reading l ≡ object v t os → Accepted l v t os
unfolding reading lines_of on_front
accepted l v t os e =
    by_front (header_at l)
    (λ h l₁ found_Here. let header = again_header h l l₁ found_Here in
    let read = again_lines h.orders l₁ in
    joined h (lines_at h.orders l₁) l l₁ v t os header.0 read.whole (rw found_Here)
    (checked h (lines_at h.orders l₁) l₁ v t os header.1 read (rw found_Here at e)))
    (λ none. absurd (not_object (rw none at e)))
