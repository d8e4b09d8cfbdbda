-- The loops: the table of first orders, the jumps led, the largest temporary.
use Prim.Native.Nat.{ℕ, zero, suc, ◌+◌, ◌≤◌, ◌<◌, max}
use mathlib.Core.Path.{◌≡◌, refl, sym, ap, ap₂, ◌∙◌}
use mathlib.Core.Bool.{Bool, true, false}
use mathlib.Core.List.{List, [], ◌∷◌, ◌++◌, map, append_assoc, append-nil}
use native.Mathlib.Omega.{arith}
use native.Mathlib.Nat.{add-zero, zero-add}
use native.Mathlib.Numerals.{add-one}
use lib.ListN.{length, get_or, set, take, drop, length-map, length-set}
use lib.Seq.{sets, drop-cons, take-suc, set-append_seam, get_or-append_seam, length-take-le, take_all}
use Rattle.base.specs.Choice.{pick}
use Rattle.order.specs.declared.Order.{Order}
use Rattle.order.specs.Memory.{order_in, orders_in}
use Rattle.sheet.specs.Temporaries.{stored_to, largest_stored}
use Rattle.sheet.specs.Beginnings.{inner, is_last, of_instruction, beginnings}
use Rattle.translate.specs.Internal.{Noted, noted, noted_by, table_from, table}

-- ---- the table

drop_ended : {A : Type 0} (l : List A) (i : ℕ) → length l ≤ i → drop i l ≡ []
drop_ended [] zero h = refl
drop_ended [] (suc i) h = refl
drop_ended (x ∷ l) zero h = absurd (omega arith)
drop_ended (x ∷ l) (suc i) h = drop_ended l i (omega arith)

-- what is noted in the end, and so far
pub record Filling (v : ℕ) (ws l₀ : List ℕ) (i n : ℕ) (here : Bool) (k : ℕ) (l : List ℕ) : Type 0 where
  pub ahead : table_from v here k i (orders_in (drop i ws)) (noted n l) ≡ table v ws l₀
  pub few : n ≤ i
  pub inside : i ≤ length ws

pub count_of : Noted → ℕ
count_of (noted n l) = n

list_of : Noted → List ℕ
list_of (noted n l) = l

noted_few : (here : Bool) (o : Order) (i n : ℕ) (l : List ℕ) (b : Bool) → pick here (of_instruction o) false ≡ b → count_of (noted_by here o i (noted n l)) ≤ n + 1
unfolding pick count_of
noted_few here o i n l true e = rw e (omega arith)
noted_few here o i n l false e = rw e (omega arith)

pub note_first : (here : Bool) (o : Order) (i n : ℕ) (l after : List ℕ) → here ≡ true → of_instruction o ≡ true → after ≡ set l n i
    → noted (n + 1) after ≡ noted_by here o i (noted n l)
unfolding pick
note_first here o i n l after e f g = rw (e, f, g) refl

pub note_other : (here : Bool) (o : Order) (i n : ℕ) (l : List ℕ) → here ≡ true → of_instruction o ≡ false → noted n l ≡ noted_by here o i (noted n l)
unfolding pick
note_other here o i n l e f = rw (e, f) refl

pub note_none : (here : Bool) (o : Order) (i n : ℕ) (l : List ℕ) → here ≡ false → noted n l ≡ noted_by here o i (noted n l)
unfolding pick
note_none here o i n l e = rw e refl

module _ (v : ℕ) (ws l₀ : List ℕ) where
  pub fill_more :
      (i n : ℕ) (here : Bool) (k : ℕ) (l : List ℕ)
      → Filling v ws l₀ i n here k l
      → i < length ws
      → (o : Order)
      → o ≡ order_in (get_or ws i 0)
      → (m : ℕ) (after : List ℕ)
      → noted m after ≡ noted_by here o i (noted n l)
      → (next : Bool)
      → next ≡ is_last v k o
      → (left : ℕ)
      → left ≡ inner k o
      → Filling v ws l₀ (i + 1) m next left after
  unfolding table_from count_of
  fill_more i n here k l p inside o is m after e next last left now = record {
    ahead =
        rw (add-one i, e, last, now, is)
        (sym (ap (λ os. table_from v here k i (orders_in os) (noted n l)) (drop-cons ws i 0 inside)) ∙ p.ahead);
    few = let few = noted_few here o i n l _ refl in let c = ap count_of e in omega (arith, few, c, p.few);
    inside = omega arith;
  }

  pub fill_ends : (i n : ℕ) (here : Bool) (k : ℕ) (l : List ℕ) → Filling v ws l₀ i n here k l → length ws ≤ i → noted n l ≡ table v ws l₀
  unfolding table_from
  fill_ends i n here k l p over = sym (ap (λ os. table_from v here k i (orders_in os) (noted n l)) (drop_ended ws i over)) ∙ p.ahead

-- it holds the beginnings
filled : (v : ℕ) (here : Bool) (k i : ℕ) (os : List Order) (n : ℕ) (l : List ℕ)
    → table_from v here k i os (noted n l) ≡ noted (n + length (beginnings v here k i os)) (sets l n (beginnings v here k i os))
unfolding table_from beginnings pick
filled v here k i [] n l = ap (λ m. noted m l) (sym (add-zero n))
filled v here k i (o ∷ os) n l =
    by (pick here (of_instruction o) false) refl (filled v (is_last v k o) (inner k o) (suc i) os (n + 1) (set l n i)) (filled v (is_last v k o) (inner k o) (suc i) os n l)
  where
    bs : List ℕ
    bs = beginnings v (is_last v k o) (inner k o) (suc i) os

    by : (b : Bool) → pick here (of_instruction o) false ≡ b
        → table_from v (is_last v k o) (inner k o) (suc i) os (noted (n + 1) (set l n i)) ≡ noted (n + 1 + length bs) (sets (set l n i) (n + 1) bs)
        → table_from v (is_last v k o) (inner k o) (suc i) os (noted n l) ≡ noted (n + length bs) (sets l n bs)
        → table_from v (is_last v k o) (inner k o) (suc i) os (noted_by here o i (noted n l))
        ≡ noted (n + length (pick (pick here (of_instruction o) false) (i ∷ bs) bs)) (sets l n (pick (pick here (of_instruction o) false) (i ∷ bs) bs))
    by true e yes_so no_so =
        rw e (yes_so ∙ ap₂ noted (omega arith) (ap (λ m. sets (set l n i) m bs) (add-one n)))
    by false e yes_so no_so = rw e no_so

pub table_holds : (v : ℕ) (ws l : List ℕ) → table v ws l ≡ noted (length (beginnings v true 0 0 (orders_in ws))) (sets l 0 (beginnings v true 0 0 (orders_in ws)))
table_holds v ws l = filled v true 0 0 (orders_in ws) 0 l ∙ ap (λ k. noted k (sets l 0 (beginnings v true 0 0 (orders_in ws)))) (zero-add (length (beginnings v true 0 0 (orders_in ws))))

-- no more begin than there are orders
pub begun_few : (v : ℕ) (here : Bool) (k i : ℕ) (os : List Order) → length (beginnings v here k i os) ≤ length os
unfolding beginnings pick
begun_few v here k i [] = omega arith
begun_few v here k i (o ∷ os) = by (pick here (of_instruction o) false) (begun_few v (is_last v k o) (inner k o) (suc i) os)
  where
    by : (b : Bool) → length (beginnings v (is_last v k o) (inner k o) (suc i) os) ≤ length os
        → length (pick b (i ∷ beginnings v (is_last v k o) (inner k o) (suc i) os) (beginnings v (is_last v k o) (inner k o) (suc i) os)) ≤ suc (length os)
    by true h = omega arith
    by false h = omega arith

-- ---- each jump led

module _ (g : ℕ → ℕ) (ws : List ℕ) where
  -- those before place i are led
  pub record Leading (i : ℕ) (l : List ℕ) : Type 0 where
    pub so_far : l ≡ map g (take i ws) ++ drop i ws
    pub inside : i ≤ length ws
    pub long : length l ≡ length ws

  pub lead_none : Leading 0 ws
  lead_none = record { so_far = refl; inside = omega arith; long = refl }

  map_more : (xs : List ℕ) (y : ℕ) → map g (xs ++ y ∷ []) ≡ map g xs ++ g y ∷ []
  map_more [] y = refl
  map_more (x ∷ xs) y = ap (λ l. g x ∷ l) (map_more xs y)

  pub lead_more : (i : ℕ) (l : List ℕ) → Leading i l → i < length ws → (after : List ℕ) → after ≡ set l i (g (get_or l i 0)) → Leading (i + 1) after
  lead_more i l p h after e =
      let xs = map g (take i ws) in
      let here : length xs ≡ i = length-map (take i ws) g ∙ length-take-le i ws (omega arith) in
      let parted : l ≡ xs ++ get_or ws i 0 ∷ drop (suc i) ws = p.so_far ∙ ap (λ k. xs ++ k) (drop-cons ws i 0 h) in
      let read : get_or l i 0 ≡ get_or ws i 0 =
      ap (λ k. get_or k i 0) parted ∙ ap (λ j. get_or (xs ++ get_or ws i 0 ∷ drop (suc i) ws) j 0) (sym here) ∙ get_or-append_seam xs (get_or ws i 0) (drop (suc i) ws) 0 in
      let stored : set l i (g (get_or l i 0)) ≡ xs ++ g (get_or ws i 0) ∷ drop (suc i) ws =
      ap₂ (λ k x. set k i (g x)) parted read ∙ ap (λ j. set (xs ++ get_or ws i 0 ∷ drop (suc i) ws) j (g (get_or ws i 0))) (sym here)
      ∙ set-append_seam xs (get_or ws i 0) (drop (suc i) ws) (g (get_or ws i 0)) in
      record {
        so_far =
            e
            ∙ stored
            ∙ sym (append_assoc xs (g (get_or ws i 0) ∷ []) (drop (suc i) ws))
            ∙ rw (add-one i) (ap (λ k. k ++ drop (suc i) ws) (sym (ap (map g) (take-suc ws i 0 h) ∙ map_more (take i ws) (get_or ws i 0))));
        inside = omega arith;
        long = ap length e ∙ length-set l i (g (get_or l i 0)) ∙ p.long;
      }

  pub lead_ends : (i : ℕ) (l : List ℕ) → Leading i l → length ws ≤ i → l ≡ map g ws
  lead_ends i l p h =
      p.so_far ∙ rw (drop_ended ws i h, take_all i ws h) (append-nil (map g ws))

-- ---- the largest temporary

pub largest_more : (v : ℕ) (ws : List ℕ) (i t : ℕ) → i < length ws
    → max t (largest_stored v (orders_in (drop i ws))) ≡ max (max t (stored_to v (order_in (get_or ws i 0)))) (largest_stored v (orders_in (drop (i + 1) ws)))
unfolding largest_stored
largest_more v ws i t h = rw (drop-cons ws i 0 h, add-one i) (omega arith)

pub largest_ends : (v : ℕ) (ws : List ℕ) (i t : ℕ) → length ws ≤ i → max t (largest_stored v (orders_in (drop i ws))) ≡ t
unfolding largest_stored
largest_ends v ws i t h = rw (drop_ended ws i h) (omega arith)

-- ---- what is noted, looked up

pub noted_there : (l : List ℕ) (n k d : ℕ) → k < n → k < length l → get_or l k 0 ≡ get_or (take n l) k d
noted_there [] n k d h g = absurd (omega arith)
noted_there (x ∷ l) zero k d h g = absurd (omega arith)
noted_there (x ∷ l) (suc n) zero d h g = refl
noted_there (x ∷ l) (suc n) (suc k) d h g = noted_there l n k d (omega arith) (omega arith)

pub noted_over : (l : List ℕ) (n k d : ℕ) → n ≤ k → d ≡ get_or (take n l) k d
noted_over [] zero k d h = refl
noted_over [] (suc n) k d h = refl
noted_over (x ∷ l) zero k d h = refl
noted_over (x ∷ l) (suc n) zero d h = absurd (omega arith)
noted_over (x ∷ l) (suc n) (suc k) d h = noted_over l n k d (omega arith)

pub noted_past : (l : List ℕ) (n k d : ℕ) → length l ≤ k → d ≡ get_or (take n l) k d
noted_past [] zero k d h = refl
noted_past [] (suc n) k d h = refl
noted_past (x ∷ l) zero k d h = refl
noted_past (x ∷ l) (suc n) zero d h = absurd (omega arith)
noted_past (x ∷ l) (suc n) (suc k) d h = noted_past l n k d (omega arith)
