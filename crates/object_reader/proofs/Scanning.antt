-- The records of an object, one after the other: what is known after each.
use Prim.Native.Nat.{ℕ, suc, ◌+◌, ◌-◌, ◌<◌, ◌≤◌}
use mathlib.Core.Path.{◌≡◌, refl, sym, ap, ◌∙◌}
use mathlib.Core.Bool.{Bool, true, false}
use mathlib.Core.List.{List, [], ◌∷◌, ◌++◌, map, append-nil}
use native.Mathlib.Omega.{arith}
use native.Mathlib.Nat.{add-zero}
use native.Mathlib.Numerals.{add-one}
use borrow.Author.Tests.{lt-ltb, le-ltb, ltb-true, ltb-false}
use lib.Dec.{ltb, eqb}
use lib.ListN.{length, drop, set, length-append, length-map}
use lib.Seq.{sets, append_snoc, length-sets}
use Rattle.std.specs.Prelude.{Option, Some, None, IfSome, unwrap_or}
use Rattle.std.specs.Option.{option_or}
use Rattle.base.specs.Choice.{pick}
use Rattle.base.specs.Front.{found, missing, on_front}
use Rattle.base.proofs.Cases.{by_test}
use Rattle.base.proofs.Lists.{sets_more}
use Rattle.order.specs.declared.Order.{Order}
use Rattle.order.specs.declared.Order.TheVariants.{Word, Number, Store, Neg, Not, Jump, Skip, Branch, Cond, Send, Stop}
use Rattle.order.specs.Limits.{most_variables, most_temporaries, most_orders}
use Rattle.order.specs.Memory.{order_word}
use Rattle.order.specs.Object.{within_limits, record_at, Lines, lines_at, Reading, refused}
use Rattle.order.specs.Object.{operand_refusal, is_stop, first_operand, first_stop}
use Rattle.object_reader.specs.declared.Refusal.{Refusal}
use Rattle.object_reader.specs.declared.Refusal.TheVariants.{Header, Line, Word as BadWord, Address as BadAddress, Stop as LateStop}
use Rattle.object_reader.specs.declared.Scan.{Scan}
use Rattle.object_reader.specs.Answers.{refusal_of}
use Rattle.object_reader.specs.Internal.{word_trouble, address_trouble, trouble_of, reading_at, troubled, stop_here, noted_scan, ScanOf}

-- ---- the limits

-- a choice whose first part is no says yes only where its test fails
only_no : (t u : Bool) → pick t false u ≡ true → (t ≡ false) × (u ≡ true)
unfolding pick
only_no true u e = let z : ◌≡◌ {A = ℕ} 0 1 = ap (λ b. pick b 1 0) e in absurd (omega arith)
only_no false u e = (refl, e)

pub bounded : (v t n : ℕ) → within_limits v t n ≡ true → (v ≤ most_variables) × (t ≤ most_temporaries) × (0 < n) × (n ≤ most_orders)
unfolding within_limits
bounded v t n e =
    let a = only_no _ _ e in
    let b = only_no _ _ a.1 in
    let c = only_no _ _ b.1 in
    (ltb-false most_variables v a.0, ltb-false most_temporaries t b.0, ltb-true 0 n c.1, ltb-false most_orders n c.0)

-- ---- one order more

-- a test of an operand, as the definition makes it and as the code does
word_troubled :
    (w words k : ℕ) (after : Reading)
    → pick (eqb (pick (ltb w 2) 23 (pick (ltb w words) 0 23)) 0) after (refused (pick (ltb w 2) 23 (pick (ltb w words) 0 23)) k)
    ≡ troubled (word_trouble w words k) after
unfolding pick
word_troubled w words k after =
    by_test
    (ltb w 2)
    (λ e. rw e refl)
    (λ e. rw e (by_test (ltb w words) (λ f. rw f refl) (λ f. rw f refl)))

address_troubled :
    (a n k : ℕ) (after : Reading)
    → pick (eqb (pick (ltb a n) 0 24) 0) after (refused (pick (ltb a n) 0 24) k) ≡ troubled (address_trouble a n k) after
unfolding pick
address_troubled a n k after = by_test (ltb a n) (λ e. rw e refl) (λ e. rw e refl)

module _ (words n : ℕ) where
  operand_troubled :
      (o : Order) (k : ℕ) (after : Reading)
      → pick (eqb (operand_refusal words n o) 0) after (refused (operand_refusal words n o) k) ≡ troubled (trouble_of words n k o) after
  unfolding pick
  operand_troubled (Word f w) k after = word_troubled w words k after
  operand_troubled (Number f v) k after = refl
  operand_troubled (Store w) k after = word_troubled w words k after
  operand_troubled Neg k after = refl
  operand_troubled Not k after = refl
  operand_troubled (Jump a) k after = address_troubled a n k after
  operand_troubled (Skip a) k after = address_troubled a n k after
  operand_troubled (Branch r a) k after = address_troubled a n k after
  operand_troubled (Cond v) k after = refl
  operand_troubled Send k after = refl
  operand_troubled Stop k after = refl

  operand_snoc :
      (k : ℕ) (os : List Order) (o : Order) (after : Reading)
      → first_operand words n k (os ++ o ∷ []) after ≡ first_operand words n k os (troubled (trouble_of words n (k + length os) o) after)
  unfolding first_operand
  operand_snoc k [] o after = operand_troubled o k after ∙ ap (λ i. troubled (trouble_of words n i o) after) (omega arith)
  operand_snoc k (x ∷ os) o after =
      ap (λ r. pick (eqb (operand_refusal words n x) 0) r (refused (operand_refusal words n x) k))
      (operand_snoc (suc k) os o after
      ∙ ap (λ i. first_operand words n (suc k) os (troubled (trouble_of words n i o) after)) (omega arith))

-- a check that is failed gives the same whatever comes after it
refused_first : (r : Refusal) (x y : Reading) → reading_at (refusal_of r) x ≡ reading_at (refusal_of r) y
refused_first Header x y = refl
refused_first (Line k) x y = refl
refused_first (BadWord k) x y = refl
refused_first (BadAddress k) x y = refl
refused_first (LateStop k) x y = refl

troubled_twice : (t u : Option Refusal) (after : Reading) → troubled t (troubled u after) ≡ troubled (option_or t u) after
troubled_twice None u after = refl
troubled_twice (Some r) u after = refused_first r (troubled u after) after

-- the first STOP of some orders, if there is one
stop_among : (k : ℕ) (os : List Order) (o : Order) → first_stop k (os ++ o ∷ []) ≡ pick (ltb (first_stop k os) (k + length os)) (first_stop k os) (pick (is_stop o) (k + length os) (k + length os + 1))
unfolding first_stop pick
stop_among k [] o = rw (add-zero k, le-ltb k k (omega arith), add-one k) refl
stop_among k (x ∷ os) o =
    let shift : suc k + length os ≡ k + suc (length os) = omega arith in
    by_test
    (is_stop x)
    (λ e. rw (e, lt-ltb k (k + suc (length os)) (omega arith)) refl)
    (λ e. rw (e, ← shift) (stop_among (suc k) os o))

stop_snoc :
    (stop : Option ℕ) (os : List Order) (o : Order)
    → unwrap_or stop (length os) ≡ first_stop 0 os
    → IfSome stop (λ k. k < length os)
    → unwrap_or (option_or stop (stop_here o (length os))) (length os + 1) ≡ first_stop 0 (os ++ o ∷ [])
unfolding pick
stop_snoc None os o e h =
    let all : 0 + length os ≡ length os = omega arith in
    rw (stop_among 0 os o, ← e, all, le-ltb (length os) (length os) (omega arith))
    (by_test (is_stop o) (λ y. rw y refl) (λ n. rw n refl))
stop_snoc (Some k) os o e h = rw (stop_among 0 os o, ← e, lt-ltb k (0 + length os) (omega arith)) refl

early_snoc :
    (stop : Option ℕ) (n : ℕ) (o : Order)
    → IfSome stop (λ k. k < n)
    → IfSome (option_or stop (stop_here o n)) (λ k. k < n + 1)
unfolding pick
early_snoc None n o h = by_test (is_stop o) (λ y. rw y (omega arith)) (λ y. rw y tt)
early_snoc (Some k) n o h = omega arith

map_snoc : {A B : Type 0} (f : A → B) (l : List A) (a : A) → map f (l ++ a ∷ []) ≡ map f l ++ f a ∷ []
map_snoc f [] a = refl
map_snoc f (x ∷ l) a = ap (λ r. f x ∷ r) (map_snoc f l a)

-- an array that is filled from its front, with one entry more
fill_more :
    {A : Type 0} (f : A → ℕ) (array : List ℕ) (l : List A) (a : A) (k : ℕ)
    → k ≡ length l
    → set (sets array 0 (map f l)) k (f a) ≡ sets array 0 (map f (l ++ a ∷ []))
fill_more f array l a k e =
    let z : k ≡ 0 + length (map f l) = omega (arith, e, length-map l f) in
    ap (λ i. set (sets array 0 (map f l)) i (f a)) z ∙ sets_more array 0 (map f l) (f a) ∙ ap (λ vs. sets array 0 vs) (sym (map_snoc f l a))

-- ---- the loop over the lines

abbrev pub lines : List Order → List ℕ → Lines
lines os rest = record { orders = os; rest = rest }

-- the lines os, and behind them the lines ls
abbrev after_lines : List Order → Lines → Lines
after_lines os ls = lines (os ++ ls.orders) ls.rest

regroup : (os : List Order) (o : Order) (ls : Lines) → after_lines os (after_lines (o ∷ []) ls) ≡ after_lines (os ++ o ∷ []) ls
regroup os o ls = ap (λ l. lines l ls.rest) (sym (append_snoc os o ls.orders))

-- what holds of the scan and of the array before each turn: some lines are read, and what is left gives the rest of them
pub record Filling (words n : ℕ) (s : List ℕ) (at : ℕ) (array₀ array : List ℕ) (scan : Scan) : Type 0 where
  pub orders : List Order
  pub counted : scan.count ≡ length orders
  pub few : scan.count ≤ n
  pub here : lines_at n (drop at s) ≡ after_lines orders (lines_at (n - scan.count) (drop scan.at s))
  pub checked : (after : Reading) → first_operand words n 0 orders after ≡ troubled scan.trouble after
  pub stops : unwrap_or scan.stop scan.count ≡ first_stop 0 orders
  pub early : IfSome scan.stop (λ k. k < scan.count)
  pub filled : array ≡ sets array₀ 0 (map order_word orders)

module _ (words n : ℕ) (s : List ℕ) (at : ℕ) (array₀ : List ℕ) where
  pub filling_start : Filling words n s at array₀ array₀ (record { at = at; count = 0; trouble = None; stop = None })
  unfolding first_operand first_stop
  filling_start = record {
    orders = [];
    counted = refl;
    few = omega arith;
    here = let z : n ≡ n - 0 = omega arith in ap (λ k. lines_at k (drop at s)) z;
    checked = λ after. refl;
    stops = refl;
    early = tt;
    filled = refl;
  }

  module _ (array : List ℕ) (scan : Scan) (f : Filling words n s at array₀ array scan) where
    -- the lines from here on, where a record stands here
    line_more :
        (o : Order) (i : ℕ)
        → scan.count < n
        → record_at (drop scan.at s) ≡ found o (drop i s)
        → lines_at (n - scan.count) (drop scan.at s) ≡ after_lines (o ∷ []) (lines_at (n - (scan.count + 1)) (drop i s))
    unfolding lines_at on_front
    line_more o i h e =
        let m : n - scan.count ≡ suc (n - (scan.count + 1)) = omega arith in
        rw (m, e) refl

    pub filling_turn :
        (o : Order) (i : ℕ)
        → scan.count < n
        → record_at (drop scan.at s) ≡ found o (drop i s)
        → Filling words n s at array₀ (set array scan.count (order_word o)) (noted_scan words n o i scan)
    filling_turn o i h e = record {
      orders = f.orders ++ o ∷ [];
      counted = omega (arith, length-append f.orders (o ∷ []), f.counted);
      few = omega arith;
      here = f.here ∙ ap (λ ls. after_lines f.orders ls) (line_more o i h e) ∙ regroup f.orders o (lines_at (n - (scan.count + 1)) (drop i s));
      checked = λ after.
          operand_snoc words n 0 f.orders o after
          ∙ f.checked (troubled (trouble_of words n (0 + length f.orders) o) after)
          ∙ troubled_twice scan.trouble (trouble_of words n (0 + length f.orders) o) after
          ∙ ap (λ k. troubled (option_or scan.trouble (trouble_of words n k o)) after) place;
      stops = rw f.counted (stop_snoc scan.stop f.orders o (rw f.counted at f.stops) (rw f.counted at f.early));
      early = early_snoc scan.stop scan.count o f.early;
      filled = ap (λ l. set l scan.count (order_word o)) f.filled ∙ fill_more order_word array₀ f.orders o scan.count f.counted;
    }
      where
        place : 0 + length f.orders ≡ scan.count
        place = omega (arith, f.counted)

    -- the array keeps its length
    pub length_kept : length array ≡ length array₀
    length_kept = ap length f.filled ∙ length-sets array₀ 0 (map order_word f.orders)

    -- no line is left to read
    pub filling_end :
        lines_at (n - scan.count) (drop scan.at s) ≡ lines [] (drop scan.at s)
        → ScanOf words n s (lines_at n (drop at s)) scan × (array ≡ sets array₀ 0 (map order_word (lines_at n (drop at s)).orders))
    filling_end e =
        rw (f.here ∙ ap (λ ls. after_lines f.orders ls) e ∙ ap (λ l. lines l (drop scan.at s)) (append-nil f.orders)) (
          record { counted = f.counted; behind = refl; operands = f.checked; stops = f.stops; early = f.early },
          f.filled,
        )

    pub filling_over : n ≤ scan.count → lines_at (n - scan.count) (drop scan.at s) ≡ lines [] (drop scan.at s)
    unfolding lines_at
    filling_over h = let z : n - scan.count ≡ 0 = omega arith in rw z refl

    pub filling_bad :
        scan.count < n
        → record_at (drop scan.at s) ≡ missing
        → lines_at (n - scan.count) (drop scan.at s) ≡ lines [] (drop scan.at s)
    unfolding lines_at on_front
    filling_bad h e =
        let m : n - scan.count ≡ suc (n - (scan.count + 1)) = omega arith in
        rw (m, e) refl
