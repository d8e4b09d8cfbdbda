-- Records and their orders: the record of an order is read as that order, and no other line is.
use Prim.Native.Nat.{ℕ, ◌≤◌}
use mathlib.Core.Path.{◌≡◌, refl, sym, ap, ◌∙◌}
use mathlib.Core.List.{List, [], ◌∷◌, ◌++◌, map, append_assoc}
use native.Mathlib.Omega.{arith}
use borrow.Author.Tests.{eq-eqb, eqb-true}
use lib.Dec.{eqb}
use lib.ListN.{get_or}
use Rattle.base.specs.Choice.{pick}
use Rattle.base.specs.Text.{bytes}
use Rattle.base.specs.Front.{found, missing, on_front}
use Rattle.base.proofs.Lists.{map_at}
use Rattle.base.proofs.Fronts.{never, let_through, both_found, by_front}
use Rattle.text.specs.Pieces.{Front, decimal, fixed, numeral, greatest_number}
use Rattle.text.proofs.Fronts.{front_fixed}
use Rattle.text.proofs.Decimal.{numeral_decimal, decimal_numeral}
use Rattle.order.specs.declared.Order.{Order}
use Rattle.order.specs.declared.Order.TheVariants.{Stop}
use Rattle.order.specs.Order.{operand, table}
use Rattle.order.specs.Memory.{number, shapes, order_of}
use Rattle.order.specs.Object.{heading, record_text, record_among, record_at}
use Rattle.order.proofs.Numbers.{order_again}

-- ---- the table

-- an order's heading says nothing of its operand
same_headings : (v : ℕ) → map (λ s. heading (s v)) shapes ≡ map (λ s. heading (s 0)) shapes
unfolding shapes
same_headings v = refl

same_in_table : (v : ℕ) → map (λ s. heading (s v)) table ≡ map (λ s. heading (s 0)) table
unfolding table
same_in_table v = refl

-- what is read behind the heading of a shape
abbrev pub order_at : (ℕ → Order) → List ℕ → Front Order
order_at s l = on_front (numeral 10 l) (λ v l₁. pick (eqb (operand (s v)) v) (found (s v) l₁) missing) missing

-- no other heading fits where a heading stands, whatever text is behind it: in the table, and in the order of the numbers
headings_told : (l : List ℕ) → map (λ s. record_among table (heading (s 0) ++ l)) shapes ≡ map (λ s. order_at s l) shapes
unfolding shapes table bytes record_among fixed pick on_front order_at
headings_told l = refl

-- both at each number
pub heading_at_law : (k v : ℕ) → heading (order_of k v) ≡ heading (order_of k 0)
unfolding order_of
heading_at_law k v = map_at (λ s. heading (s v)) (λ s. heading (s 0)) shapes (λ v. Stop) (same_headings v) refl k

-- ---- the record of an order, read by the shapes of any table that keeps to both rules

-- the text field by field
parts : (o : Order) (rest : List ℕ) → record_text o ++ rest ≡ heading o ++ (decimal (operand o) ++ 10 ∷ rest)
parts o rest =
    append_assoc (heading o ++ decimal (operand o)) (10 ∷ []) rest ∙ append_assoc (heading o) (decimal (operand o)) (10 ∷ rest)

module _ (ss : List (ℕ → Order)) (told : (l : List ℕ) → map (λ s. record_among ss (heading (s 0) ++ l)) shapes ≡ map (λ s. order_at s l) shapes) where
  record_at_law : (k : ℕ) (l : List ℕ) → record_among ss (heading (order_of k 0) ++ l) ≡ order_at (order_of k) l
  unfolding order_of shapes
  record_at_law k l =
      map_at (λ s. record_among ss (heading (s 0) ++ l)) (λ s. order_at s l) shapes (λ v. Stop) (told l)
      (ap (λ m. get_or m 0 missing) (told l)) k

  among_again : (o : Order) (rest : List ℕ) → operand o ≤ greatest_number → record_among ss (record_text o ++ rest) ≡ found o rest
  unfolding order_at on_front pick
  among_again o rest small =
      ap (record_among ss) (parts o rest)
      ∙ ap (λ h. record_among ss (h ++ (decimal (operand o) ++ 10 ∷ rest))) (ap heading (sym (order_again o)) ∙ heading_at_law (number o) (operand o))
      ∙ record_at_law (number o) (decimal (operand o) ++ 10 ∷ rest)
      ∙ rw (numeral_decimal 10 (operand o) rest small (omega arith), order_again o, eq-eqb (operand o) (operand o) refl)

among : (ss : List (ℕ → Order)) → ((v : ℕ) → map (λ s. heading (s v)) ss ≡ map (λ s. heading (s 0)) ss) → (o : Order) (l rest : List ℕ)
    → record_among ss l ≡ found o rest → (l ≡ record_text o ++ rest) × (operand o ≤ greatest_number)
unfolding record_among on_front
among [] same o l rest e = never e
among (s ∷ ss) same o l rest e =
    by_front (fixed (heading (s 0)) l)
    (λ x l₁ f. both_found (numeral 10 l₁) _ (rw f at e)
    (λ v l₂ n p. let told = let_through (eqb (operand (s v)) v) _ p in
    let operand_is = eqb-true (operand (s v)) v told.0 in
    let written = decimal_numeral 10 v l₁ l₂ n in
    let front = front_fixed (heading (s 0)) l l₁ x f in
    let all = same v in
    let order_is : s v ≡ o = cc in
    (cc (parts o rest), rw (← order_is) (omega arith))))
    (λ f. among ss (λ v. let all = same v in cc) o l rest (rw f at e))

-- ---- the record of an order

pub record_again : (o : Order) (rest : List ℕ) → operand o ≤ greatest_number → record_at (record_text o ++ rest) ≡ found o rest
unfolding record_at
record_again = among_again table headings_told

pub again_record : (o : Order) (l rest : List ℕ) → record_at l ≡ found o rest → (l ≡ record_text o ++ rest) × (operand o ≤ greatest_number)
unfolding record_at
again_record = among table same_in_table

-- what is read where a heading stands
pub heading_read : (k : ℕ) (l : List ℕ) → record_at (heading (order_of k 0) ++ l) ≡ order_at (order_of k) l
unfolding record_at
heading_read = record_at_law table headings_told

-- a text at whose front a record is read has the heading of its order there
pub read_heading : (o : Order) (l rest : List ℕ) → record_at l ≡ found o rest → l ≡ heading (order_of (number o) 0) ++ (decimal (operand o) ++ 10 ∷ rest)
read_heading o l rest e =
    (again_record o l rest e).0
    ∙ parts o rest
    ∙ ap (λ h. h ++ (decimal (operand o) ++ 10 ∷ rest)) (ap heading (sym (order_again o)) ∙ heading_at_law (number o) (operand o))
