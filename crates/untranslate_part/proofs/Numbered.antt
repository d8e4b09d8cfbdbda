-- The table gives each address that a jump leads to the number of its instruction.
use Prim.Native.Nat.{ℕ, zero, suc, ◌+◌, ◌-◌, ◌≤◌, ◌<◌}
use mathlib.Core.Path.{◌≡◌, refl, sym, ap, ◌∙◌}
use mathlib.Core.Bool.{Bool, true, false}
use mathlib.Core.List.{List, [], ◌∷◌, ◌++◌}
use native.Mathlib.Omega.{arith}
use native.Mathlib.Nat.{zero-add}
use native.Mathlib.Numerals.{add-one}
use lib.Dec.{ltb}
use lib.ListN.{length, get_or, set, length-append, get_or-eq_default}
use lib.Seq.{sets}
use Rattle.base.specs.Choice.{pick}
use Rattle.base.proofs.Cases.{by_less}
use Rattle.base.proofs.Lists.{get_d_sets}
use Rattle.order.specs.declared.Order.{Order}
use Rattle.order.specs.declared.Order.TheVariants.{Word, Number, Store, Neg, Not, Jump, Skip, Branch, Cond, Send, Stop}
use Rattle.order.specs.Memory.{order_in}
use Rattle.sheet.specs.declared.Field.TheVariants.{Set}
use Rattle.sheet.specs.Sheet.{Part, count, sheet}
use Rattle.sheet.specs.Formed.{Leads}
use Rattle.sheet.specs.Translation.{size, starts, first_order, part_code, translation}
use Rattle.sheet.specs.Within.{PartFormed}
use Rattle.sheet.specs.Beginnings.{inner, is_last, of_instruction, beginnings}
use Rattle.sheet.proofs.Sizes.{code_length, count_starts}
use Rattle.sheet.proofs.Beginnings.{translation_begins}
use Rattle.untranslate_expression.specs.Internal.{orders_at}
use Rattle.untranslate_expression.proofs.Places.{orders_inside, none_outside}
use Rattle.untranslate_part.specs.declared.Role.{Role}
use Rattle.untranslate_part.specs.declared.Role.TheVariants.{Inside, Last}
use Rattle.untranslate_part.specs.Internal.{role_of, inner_by, ends_by, begins_by, number_behind, numbers}

-- ---- roles

store_inner : (t : Bool) (k w : ℕ) → k ≡ inner_by k (pick t (Last (Set w)) Inside)
unfolding pick
store_inner true k w = refl
store_inner false k w = refl

store_ends : (t : Bool) (k w : ℕ) → t ≡ ends_by k (pick t (Last (Set w)) Inside)
unfolding pick
store_ends true k w = refl
store_ends false k w = refl

store_begins : (t : Bool) (w : ℕ) → true ≡ begins_by (pick t (Last (Set w)) Inside)
unfolding pick
store_begins true w = refl
store_begins false w = refl

inner_role : (first k : ℕ) (o : Order) → inner k o ≡ inner_by k (role_of first o)
inner_role first k (Word f w) = refl
inner_role first k (Number f n) = refl
inner_role first k (Store w) = store_inner (ltb w first) k w
inner_role first k Neg = refl
inner_role first k Not = refl
inner_role first k (Jump a) = refl
inner_role first k (Skip a) = refl
inner_role first k (Branch r a) = refl
inner_role first k (Cond n) = refl
inner_role first k Send = refl
inner_role first k Stop = refl

last_role : (v k : ℕ) (o : Order) → is_last v k o ≡ ends_by k (role_of (v + 2) o)
last_role v k (Word f w) = refl
last_role v k (Number f n) = refl
last_role v k (Store w) = store_ends (ltb w (v + 2)) k w
last_role v k Neg = refl
last_role v k Not = refl
last_role v k (Jump a) = refl
last_role v k (Skip a) = refl
last_role v k (Branch r a) = refl
last_role v k (Cond n) = refl
last_role v k Send = refl
last_role v k Stop = refl

begins_role : (first : ℕ) (o : Order) → of_instruction o ≡ begins_by (role_of first o)
begins_role first (Word f w) = refl
begins_role first (Number f n) = refl
begins_role first (Store w) = store_begins (ltb w first) w
begins_role first Neg = refl
begins_role first Not = refl
begins_role first (Jump a) = refl
begins_role first (Skip a) = refl
begins_role first (Branch r a) = refl
begins_role first (Cond n) = refl
begins_role first Send = refl
begins_role first Stop = refl

-- ---- one order on

number_few : (here : Bool) (q : Role) (n : ℕ) → number_behind here q n ≤ suc n
unfolding pick
number_few true q n = few (begins_by q)
  where
    few : (t : Bool) → pick t (suc n) n ≤ suc n
    few true = omega arith
    few false = omega arith
number_few false q n = omega arith

-- a turn of the loop that fills the table, and its end
module _ (os : List ℕ) (first : ℕ) where
  pub fill_turn :
      (table : List ℕ) (here : Bool) (b n i : ℕ)
      → i < length os
      → (o : Order)
      → o ≡ order_in (get_or os i 0)
      → (q : Role)
      → q ≡ role_of first o
      → (k : ℕ)
      → k ≡ number_behind here q n
      → (t : Bool)
      → t ≡ ends_by b q
      → (c : ℕ)
      → c ≡ inner_by b q
      → (k ≤ n + 1)
      × (sets (set table i n) (i + 1) (numbers first t c k (orders_at (i + 1) os)) ≡ sets table i (numbers first here b n (orders_at i os)))
  unfolding numbers
  fill_turn table here b n i h o is q role k next t ends c left = (
    omega (arith, number_few here q n),
    rw (orders_inside i os h, ← is, ← role, ← next, ← ends, ← left, add-one i) refl,
  )

  pub fill_end : (table : List ℕ) (here : Bool) (b n i : ℕ) → length os ≤ i → table ≡ sets table i (numbers first here b n (orders_at i os))
  unfolding numbers
  fill_end table here b n i h = rw (none_outside i os h) refl

-- ---- the numbers of the beginnings

abbrev behind_by : Bool → Bool → ℕ → ℕ
behind_by here t n = pick here (pick t (suc n) n) n

pub numbers_length : (first : ℕ) (here : Bool) (b n : ℕ) (l : List Order) → length (numbers first here b n l) ≡ length l
unfolding numbers
numbers_length first here b n [] = refl
numbers_length first here b n (o ∷ l) =
    let q = role_of first o in
    ap suc (numbers_length first (ends_by b q) (inner_by b q) (number_behind here q n) l)

module _ (v : ℕ) where
  -- one order on; b branches are to come that do not end their IF
  numbers_on : (here : Bool) (b n : ℕ) (o : Order) (l : List Order)
      → numbers (v + 2) here b n (o ∷ l) ≡ n ∷ numbers (v + 2) (is_last v b o) (inner b o) (behind_by here (of_instruction o) n) l
  unfolding numbers
  numbers_on here b n o l = rw (last_role v b o, inner_role (v + 2) b o, begins_role (v + 2) o) refl

  -- beginning k from order p on is order p + i, whose number is n + k
  record Numbered (here : Bool) (b p n k e : ℕ) (l : List Order) : Type 0 where
    i : ℕ
    place : get_or (beginnings v here b p l) k e ≡ p + i
    inside : i < length l
    number : get_or (numbers (v + 2) here b n l) i 0 ≡ n + k

  later : (here next : Bool) (b c p n k m j e : ℕ) (o : Order) (l : List Order)
      → numbers (v + 2) here b n (o ∷ l) ≡ n ∷ numbers (v + 2) next c m l
      → get_or (beginnings v here b p (o ∷ l)) k e ≡ get_or (beginnings v next c (suc p) l) j e
      → m + j ≡ n + k
      → Numbered next c (suc p) m j e l
      → Numbered here b p n k e (o ∷ l)
  later here next b c p n k m j e o l on skipped sum a = record {
    i = suc a.i;
    place = skipped ∙ a.place ∙ omega arith;
    inside = omega (arith, a.inside);
    number = ap (λ z. get_or z (suc a.i) 0) on ∙ a.number ∙ sum;
  }

  -- by whether an instruction begins with the first order
  one_on :
      (o : Order) (l : List Order) (here t : Bool) (b p n k e : ℕ)
      → of_instruction o ≡ t
      → ((q m j : ℕ) → j < length (beginnings v (is_last v b o) (inner b o) q l) → Numbered (is_last v b o) (inner b o) q m j e l)
      → k < length (beginnings v here b p (o ∷ l))
      → Numbered here b p n k e (o ∷ l)
  unfolding beginnings pick
  one_on o l true true b p n zero e its rest h = record {
    i = 0;
    place = rw its (omega arith);
    inside = omega arith;
    number = ap (λ z. get_or z 0 0) (numbers_on true b n o l) ∙ omega arith;
  }
  one_on o l true true b p n (suc k) e its rest h =
      later true (is_last v b o) b (inner b o) p n (suc k) (suc n) k e o l (numbers_on true b n o l ∙ rw its refl) (rw its refl) (omega arith)
      (rest (suc p) (suc n) k (let g : suc k < suc (length (beginnings v (is_last v b o) (inner b o) (suc p) l)) = rw its at h in omega arith))
  one_on o l true false b p n k e its rest h =
      later true (is_last v b o) b (inner b o) p n k n k e o l (numbers_on true b n o l ∙ rw its refl) (rw its refl) refl
      (rest (suc p) n k (rw its at h))
  one_on o l false t b p n k e its rest h =
      later false (is_last v b o) b (inner b o) p n k n k e o l (numbers_on false b n o l) refl refl (rest (suc p) n k h)

  numbered : (l : List Order) (here : Bool) (b p n k e : ℕ) → k < length (beginnings v here b p l) → Numbered here b p n k e l
  unfolding beginnings
  numbered [] here b p n k e h = absurd (omega arith)
  numbered (o ∷ l) here b p n k e h =
      one_on o l here (of_instruction o) b p n k e refl (λ q m j g. numbered l (is_last v b o) (inner b o) q m j e g) h

  -- STOP behind them has the number past the last
  stop_on :
      (here t : Bool) (b p n i : ℕ) (o : Order) (l : List Order)
      → of_instruction o ≡ t
      → ((q m : ℕ) → get_or (numbers (v + 2) (is_last v b o) (inner b o) m l) i 0 ≡ m + length (beginnings v (is_last v b o) (inner b o) q l))
      → get_or (numbers (v + 2) here b n (o ∷ l)) (suc i) 0 ≡ n + length (beginnings v here b p (o ∷ l))
  unfolding beginnings pick
  stop_on true true b p n i o l its rest = rw (numbers_on true b n o l, its) (rest (suc p) (suc n) ∙ omega arith)
  stop_on true false b p n i o l its rest = rw (numbers_on true b n o l, its) (rest (suc p) n)
  stop_on false t b p n i o l its rest = rw (numbers_on false b n o l) (rest (suc p) n)

  stop_first : (here : Bool) (b p n : ℕ) → get_or (numbers (v + 2) here b n (Stop ∷ [])) 0 0 ≡ n + length (beginnings v here b p (Stop ∷ []))
  unfolding beginnings numbers pick
  stop_first true b p n = omega arith
  stop_first false b p n = omega arith

  stop_number :
      (l : List Order) (here : Bool) (b p n : ℕ)
      → get_or (numbers (v + 2) here b n (l ++ Stop ∷ [])) (length l) 0 ≡ n + length (beginnings v here b p (l ++ Stop ∷ []))
  stop_number [] here b p n = stop_first here b p n
  stop_number (o ∷ l) here b p n =
      stop_on here (of_instruction o) b p n (length l) o (l ++ Stop ∷ []) refl (λ q m. stop_number l (is_last v b o) (inner b o) q m)

  -- ---- a sheet's table

  -- the number of the instruction that a jump leads to, or one past the last
  pub first_number :
      (x : Part)
      → PartFormed v (count x) x
      → (s : ℕ)
      → Leads (count x) s
      → (first_order v x s < length (translation (sheet v x)))
      × (get_or (numbers (v + 2) true 0 1 (translation (sheet v x))) (first_order v x s) 0 ≡ s)
  first_number x f s h =
      let os = translation (sheet v x) in
      let cs = part_code v (first_order v x) 0 x in
      let begins = translation_begins (sheet v x) f in
      let many = count_starts v 0 x in
      let all = length-append cs (Stop ∷ []) in
      let long = code_length v (first_order v x) 0 x in
      by_less (s - 1) (length (starts v 0 x))
      (λ less.
      let a = numbered os true 0 0 1 (s - 1) (size v x) (rw (ap length begins) less) in
      let there : first_order v x s ≡ a.i = ap (λ l. get_or l (s - 1) (size v x)) (sym begins) ∙ a.place ∙ zero-add a.i in
      (rw there a.inside, rw there (a.number ∙ omega arith)))
      (λ past.
      let there : first_order v x s ≡ length cs = get_or-eq_default (starts v 0 x) (size v x) {n = s - 1} past ∙ sym long in
      (rw there (omega arith), rw there (stop_number cs true 0 0 1 ∙ ap (λ k. 1 + k) (ap length begins) ∙ omega arith)))

  pub table_leads :
      (x : Part)
      → PartFormed v (count x) x
      → (base table : List ℕ)
      → table ≡ sets base 0 (numbers (v + 2) true 0 1 (translation (sheet v x)))
      → length (translation (sheet v x)) ≤ length base
      → (s : ℕ)
      → Leads (count x) s
      → get_or table (first_order v x s) 0 ≡ s
  table_leads x f base table filled room s h =
      let a = first_number x f s h in
      let ns = numbers (v + 2) true 0 1 (translation (sheet v x)) in
      let same = numbers_length (v + 2) true 0 1 (translation (sheet v x)) in
      ap (λ t. get_or t (first_order v x s) 0) filled
      ∙ ap (λ k. get_or (sets base 0 ns) k 0) (sym (zero-add (first_order v x s)))
      ∙ get_d_sets ns base 0 (first_order v x s) 0 (omega (arith, a.0, same)) (omega (arith, same, room))
      ∙ a.1
