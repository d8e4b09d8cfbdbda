-- The fields of a sheet are accepted.
use Prim.Native.Nat.{ℕ, zero, suc, ◌+◌, ◌*◌, ◌-◌, ◌/◌, ◌%◌, ◌≤◌, ◌<◌}
use mathlib.Core.Path.{◌≡◌, refl, sym, ap, ◌∙◌}
use mathlib.Core.Bool.{Bool, true, false}
use mathlib.Core.List.{List, [], ◌∷◌, ◌++◌, append_assoc, append-nil}
use native.Mathlib.Omega.{arith}
use native.Mathlib.Nat.{zero-add}
use native.Mathlib.Numerals.{add-one}
use borrow.Author.Tests.{lt-ltb, le-leb, ne_eqb}
use lib.Dec.{eqb}
use lib.ListN.{length}
use Rattle.base.specs.Choice.{pick}
use Rattle.word.specs.declared.Relation.{Relation as Compared}
use Rattle.text.specs.Pieces.{greatest_number}
use Rattle.sheet.specs.declared.Field.{Field}
use Rattle.sheet.specs.declared.Field.TheVariants.{Else, Start, Finish, If, Compare, Run}
use Rattle.sheet.specs.declared.Joining.{Joining}
use Rattle.sheet.specs.declared.Joining.TheVariants.{And, Or}
use Rattle.sheet.specs.Sheet.{Expression, word, constant, negated, inverted, binary as joined, Simple, set, send, goto}
use Rattle.sheet.specs.Sheet.{Condition, compares, joins, Part, end, plain, when, either, count}
use Rattle.sheet.specs.Fields.{expression_fields, simple_fields}
use Rattle.sheet.specs.Memory.{condition_fields, part_fields}
use Rattle.sheet.specs.Formed.{Expressed, Leads, SimpleFormed}
use Rattle.sheet.specs.Condition.{comparisons, is_run, Merged, AllExpressed, most_comparisons, ConditionFormed}
use Rattle.sheet.specs.Within.{PartFormed, depth, most_levels}
use Rattle.sheet.proofs.Checking.{variable_yes}
use Rattle.sheet_check.specs.declared.Next.{Next}
use Rattle.sheet_check.specs.declared.Next.TheVariants.{Instruction, Start as StartNext, Condition as ConditionNext}
use Rattle.sheet_check.specs.declared.State.{State}
use Rattle.sheet_check.specs.Internal.{begins, begun, leads_to, else_step, finish_step, compare_step, first_of, run_step, condition_step, opened}
use Rattle.sheet_check.specs.Internal.{next_step, step_of, is_final, start, accepts}

pub never : {P : Type 0} → false ≡ true → P
never e = let z : ◌≡◌ {A = ℕ} 0 1 = cc in absurd (omega arith)

-- the groups as a number: their parts, the innermost the lowest digit
unfoldable pub digits : List Bool → ℕ
digits [] = 0
digits (true ∷ gs) = 2 * digits gs + 1
digits (false ∷ gs) = 2 * digits gs

-- which condition may come: any; or one that is no run of a word, behind that word
pub data Choice : Type 0 where
  any : Choice
  behind : Joining → Choice

abbrev pub Fits : Choice → Condition → Type 0
Fits any c = Unit {0}
Fits (behind w) c = is_run w c ≡ false

-- what comes behind the expressions: instructions or the end of a part; START; or a condition, m others beside it, with r comparisons
-- at most
pub data Due : Type 0 where
  instruction : Due
  opening : ℕ → Due
  condition : Choice → ℕ → ℕ → Due

abbrev pub choice_next : Choice → Next
choice_next any = ConditionNext
choice_next (behind w) = first_of w

abbrev pub next_of : Due → Next
next_of instruction = Instruction
next_of (opening r) = StartNext
next_of (condition c m r) = choice_next c

abbrev conditions_of : Due → ℕ
conditions_of instruction = 0
conditions_of (opening r) = 0
conditions_of (condition c m r) = m

abbrev room_of : Due → ℕ
room_of instruction = 0
room_of (opening r) = r
room_of (condition c m r) = r

-- true is a second part; the innermost group is the first
abbrev pub state_at : ℕ → Due → List Bool → Bool → State
state_at k due gs some = record {
  values = k;
  groups = length gs;
  seconds = digits gs;
  conditions = conditions_of due;
  room = room_of due;
  next = next_of due;
  some = some;
}

-- what comes behind a condition that m others follow
abbrev pub after : ℕ → ℕ → Due
after zero r = opening r
after (suc m) r = condition any m r

-- whether a list that had some instructions or not has some with those of x
abbrev pub with_part : Bool → Part → Bool
with_part b end = b
with_part b (plain u l) = true
with_part b (when c x l) = true
with_part b (either c x y l) = true

some_part : (b : Bool) (x : Part) → 1 ≤ count x → with_part b x ≡ true
unfolding count
some_part b end h = absurd (omega arith)
some_part b (plain u l) h = refl
some_part b (when c x l) h = refl
some_part b (either c x y l) h = refl

with_true : (x : Part) → with_part true x ≡ true
with_true end = refl
with_true (plain u l) = refl
with_true (when c x l) = refl
with_true (either c x y l) = refl

pub not_zero : (k : ℕ) → eqb (suc k) 0 ≡ false
not_zero k = ne_eqb (suc k) 0 (λ e. omega (arith, e))

pub one_less : (k : ℕ) → suc k - 1 ≡ k
one_less k = omega arith

module _ (v n : ℕ) where
  -- ---- expressions

  values : (due : Due) (gs : List Bool) (b : Bool) (e : Expression) (k : ℕ) (l : List Field) → Expressed v e
      → accepts v n (state_at (suc k) due gs b) (expression_fields e ++ l) ≡ accepts v n (state_at k due gs b) l
  unfolding accepts step_of pick expression_fields Expressed
  values due gs b (word w) k l h = rw (not_zero k, variable_yes v w h, one_less k) refl
  values due gs b (constant m) k l h = rw (not_zero k, le-leb m greatest_number h, one_less k) refl
  values due gs b (negated e) k l h = rw (not_zero k) (values due gs b e k l h)
  values due gs b (inverted e) k l h = rw (not_zero k) (values due gs b e k l h)
  values due gs b (joined o x y) k l h =
      rw (not_zero k, add-one (suc k), append_assoc (expression_fields x) (expression_fields y) l)
      (values due gs b x (suc k) (expression_fields y ++ l) h.0 ∙ values due gs b y k l h.1)

  -- ---- instructions

  leads_yes : (s : ℕ) → Leads n s → leads_to n s ≡ true
  unfolding pick
  leads_yes s h = rw (le-leb 1 s h.0, le-leb s (n + 1) h.1) refl

  simply : (gs : List Bool) (b : Bool) (u : Simple) (l : List Field) → SimpleFormed v n u
      → accepts v n (state_at 0 instruction gs b) (simple_fields u ++ l) ≡ accepts v n (state_at 0 instruction gs true) l
  unfolding accepts step_of pick
  simply gs b (set w e) l h = rw (variable_yes v w h.0) (values instruction gs true e 0 l h.1)
  simply gs b (send e) l h = values instruction gs true e 0 l h
  simply gs b (goto s) l h = rw (leads_yes s h) refl

  -- ---- groups

  open_one : (r : ℕ) (gs : List Bool) (b : Bool) (l : List Field) → length gs < most_levels
      → accepts v n (state_at 0 (opening r) gs b) (Start ∷ l) ≡ accepts v n (state_at 0 instruction (false ∷ gs) false) l
  unfolding accepts step_of pick opened digits
  open_one r gs b l h = rw (lt-ltb (length gs) most_levels h, add-one (length gs)) refl

  -- ---- conditions

  pub at_condition : (c : Choice) (s : State) (f : Field) → next_step v n (choice_next c) s f ≡ condition_step s f
  at_condition any s f = refl
  at_condition (behind And) s f = refl
  at_condition (behind Or) s f = refl

  compare_one : (q : Compared) (c : Choice) (m r : ℕ) (gs : List Bool) (b : Bool) (l : List Field)
      → accepts v n (state_at 0 (condition c m (suc r)) gs b) (Compare q ∷ l) ≡ accepts v n (state_at 2 (after m r) gs b) l
  unfolding accepts step_of pick compare_step
  compare_one q c zero r gs b l = rw (at_condition c, not_zero r, one_less r) refl
  compare_one q c (suc m) r gs b l = rw (at_condition c, not_zero r, not_zero m, one_less r, one_less m) refl

  run_one : (w : Joining) (c : Choice) (m r : ℕ) (gs : List Bool) (b : Bool) (x y : Condition) (l : List Field) → Fits c (joins w x y)
      → accepts v n (state_at 0 (condition c m r) gs b) (Run w 0 ∷ l) ≡ accepts v n (state_at 0 (condition (behind w) (suc m) r) gs b) l
  unfolding accepts step_of pick run_step
  run_one w any m r gs b x y l h = rw (add-one m) refl
  run_one And (behind And) m r gs b x y l h = never (sym h)
  run_one And (behind Or) m r gs b x y l h = rw (add-one m) refl
  run_one Or (behind And) m r gs b x y l h = rw (add-one m) refl
  run_one Or (behind Or) m r gs b x y l h = never (sym h)

  tries : (c : Condition) (choice : Choice) (m r left : ℕ) (gs : List Bool) (b : Bool) (l : List Field)
      → AllExpressed v c → Merged c → Fits choice c → comparisons c + left ≡ r
      → accepts v n (state_at 0 (condition choice m r) gs b) (condition_fields c ++ l) ≡ accepts v n (state_at 0 (after m left) gs b) l
  unfolding condition_fields AllExpressed Merged comparisons
  tries (compares q x y) choice m r left gs b l h merged fits few =
      let one : r ≡ suc left = omega (arith, few) in
      ap (λ k. accepts v n (state_at 0 (condition choice m k) gs b) (condition_fields (compares q x y) ++ l)) one
      ∙ compare_one q choice m left gs b ((expression_fields x ++ expression_fields y) ++ l)
      ∙ ap (accepts v n (state_at 2 (after m left) gs b)) (append_assoc (expression_fields x) (expression_fields y) l)
      ∙ values (after m left) gs b x 1 (expression_fields y ++ l) h.0
      ∙ values (after m left) gs b y 0 l h.1
  tries (joins w x y) choice m r left gs b l h merged fits few =
      run_one w choice m r gs b x y ((condition_fields x ++ condition_fields y) ++ l) fits
      ∙ ap (accepts v n (state_at 0 (condition (behind w) (suc m) r) gs b)) (append_assoc (condition_fields x) (condition_fields y) l)
      ∙ tries x (behind w) (suc m) r (comparisons y + left) gs b (condition_fields y ++ l) h.0 merged.1 merged.0 (omega arith)
      ∙ tries y any m (comparisons y + left) left gs b l h.1 merged.2 tt refl

  asked : (gs : List Bool) (b : Bool) (c : Condition) (l : List Field) → ConditionFormed v c → length gs < most_levels
      → accepts v n (state_at 0 instruction gs b) (If ∷ (condition_fields c ++ (Start ∷ l))) ≡ accepts v n (state_at 0 instruction (false ∷ gs) false) l
  unfolding accepts step_of pick
  asked gs b c l h room =
      let left : comparisons c + (most_comparisons - comparisons c) ≡ most_comparisons = omega (arith, h.2) in
      tries c any 0 most_comparisons (most_comparisons - comparisons c) gs true (Start ∷ l) h.0 h.1 tt left
      ∙ open_one (most_comparisons - comparisons c) gs true l room

  close_one : (g : Bool) (gs : List Bool) (l : List Field)
      → accepts v n (state_at 0 instruction (g ∷ gs) true) (Finish ∷ l) ≡ accepts v n (state_at 0 instruction gs true) l
  unfolding accepts step_of pick finish_step digits
  close_one true gs l = let h : (2 * digits gs + 1) / 2 ≡ digits gs = omega arith in rw (not_zero (length gs), h, one_less (length gs)) refl
  close_one false gs l = let h : (2 * digits gs) / 2 ≡ digits gs = omega arith in rw (not_zero (length gs), h, one_less (length gs)) refl

  turn_one : (gs : List Bool) (l : List Field)
      → accepts v n (state_at 0 instruction (false ∷ gs) true) (Else ∷ l) ≡ accepts v n (state_at 0 instruction (true ∷ gs) false) l
  unfolding accepts step_of pick else_step digits
  turn_one gs l = let h : (2 * digits gs) % 2 ≡ 0 = omega arith in rw (not_zero (length gs), h) refl

  part : (x : Part) (gs : List Bool) (b : Bool) (l : List Field) → PartFormed v n x → length gs + depth x ≤ most_levels
      → accepts v n (state_at 0 instruction gs b) (part_fields x ++ l) ≡ accepts v n (state_at 0 instruction gs (with_part b x)) l
  unfolding part_fields PartFormed depth
  part end gs b l f h = refl
  part (plain u x) gs b l f h =
      ap (accepts v n (state_at 0 instruction gs b)) (append_assoc (simple_fields u) (part_fields x) l)
      ∙ simply gs b u (part_fields x ++ l) f.0
      ∙ part x gs true l f.1 h
      ∙ ap (λ t. accepts v n (state_at 0 instruction gs t) l) (with_true x)
  part (when c x y) gs b l f h =
      ap (λ k. accepts v n (state_at 0 instruction gs b) (If ∷ k))
      (append_assoc (condition_fields c) (Start ∷ (part_fields x ++ (Finish ∷ part_fields y))) l
      ∙ ap (λ k. condition_fields c ++ (Start ∷ k)) (append_assoc (part_fields x) (Finish ∷ part_fields y) l))
      ∙ asked gs b c (part_fields x ++ (Finish ∷ (part_fields y ++ l))) f.0 (omega arith)
      ∙ part x (false ∷ gs) false (Finish ∷ (part_fields y ++ l)) f.2 (omega arith)
      ∙ ap (λ t. accepts v n (state_at 0 instruction (false ∷ gs) t) (Finish ∷ (part_fields y ++ l))) (some_part false x f.1)
      ∙ close_one false gs (part_fields y ++ l)
      ∙ part y gs true l f.3 (omega arith)
      ∙ ap (λ t. accepts v n (state_at 0 instruction gs t) l) (with_true y)
  part (either c x y z) gs b l f h =
      ap (λ k. accepts v n (state_at 0 instruction gs b) (If ∷ k))
      (append_assoc (condition_fields c) (Start ∷ (part_fields x ++ (Else ∷ (part_fields y ++ (Finish ∷ part_fields z))))) l
      ∙ ap (λ k. condition_fields c ++ (Start ∷ k))
      (append_assoc (part_fields x) (Else ∷ (part_fields y ++ (Finish ∷ part_fields z))) l
      ∙ ap (λ k. part_fields x ++ (Else ∷ k)) (append_assoc (part_fields y) (Finish ∷ part_fields z) l)))
      ∙ asked gs b c (part_fields x ++ (Else ∷ (part_fields y ++ (Finish ∷ (part_fields z ++ l))))) f.0 (omega arith)
      ∙ part x (false ∷ gs) false (Else ∷ (part_fields y ++ (Finish ∷ (part_fields z ++ l)))) f.3 (omega arith)
      ∙ ap (λ t. accepts v n (state_at 0 instruction (false ∷ gs) t) (Else ∷ (part_fields y ++ (Finish ∷ (part_fields z ++ l))))) (some_part false x f.1)
      ∙ turn_one gs (part_fields y ++ (Finish ∷ (part_fields z ++ l)))
      ∙ part y (true ∷ gs) false (Finish ∷ (part_fields z ++ l)) f.4 (omega arith)
      ∙ ap (λ t. accepts v n (state_at 0 instruction (true ∷ gs) t) (Finish ∷ (part_fields z ++ l))) (some_part false y f.2)
      ∙ close_one true gs (part_fields z ++ l)
      ∙ part z gs true l f.5 (omega arith)
      ∙ ap (λ t. accepts v n (state_at 0 instruction gs t) l) (with_true z)

  pub complete : (x : Part) → PartFormed v n x → depth x ≤ most_levels → accepts v n start (part_fields x) ≡ true
  unfolding digits accepts is_final pick
  complete x f h =
      ap (accepts v n start) (sym (append-nil (part_fields x)))
      ∙ part x [] false [] f (omega arith)

-- ---- the count

begun_append : (xs ys : List Field) → begun (xs ++ ys) ≡ begun xs + begun ys
unfolding begun pick
begun_append [] ys = sym (zero-add (begun ys))
begun_append (x ∷ xs) ys = by (begins x) (begun_append xs ys)
  where
    by : (t : Bool) → begun (xs ++ ys) ≡ begun xs + begun ys → pick t (suc (begun (xs ++ ys))) (begun (xs ++ ys)) ≡ pick t (suc (begun xs)) (begun xs) + begun ys
    by true e = omega (arith, e)
    by false e = e

begun_expression : (e : Expression) → begun (expression_fields e) ≡ 0
unfolding begun expression_fields pick
begun_expression (word w) = refl
begun_expression (constant m) = refl
begun_expression (negated e) = begun_expression e
begun_expression (inverted e) = begun_expression e
begun_expression (joined o x y) = begun_append (expression_fields x) (expression_fields y) ∙ omega (arith, begun_expression x, begun_expression y)

begun_simple : (u : Simple) → begun (simple_fields u) ≡ 1
unfolding begun pick
begun_simple (set w e) = ap suc (begun_expression e)
begun_simple (send e) = ap suc (begun_expression e)
begun_simple (goto s) = refl

begun_condition : (c : Condition) → begun (condition_fields c) ≡ 0
unfolding begun pick condition_fields
begun_condition (compares r x y) = begun_append (expression_fields x) (expression_fields y) ∙ omega (arith, begun_expression x, begun_expression y)
begun_condition (joins w x y) = begun_append (condition_fields x) (condition_fields y) ∙ omega (arith, begun_condition x, begun_condition y)

pub begun_part : (x : Part) → begun (part_fields x) ≡ count x
unfolding part_fields count begun pick
begun_part end = refl
begun_part (plain u l) = begun_append (simple_fields u) (part_fields l) ∙ omega (arith, begun_simple u, begun_part l)
begun_part (when c x l) =
    ap suc
    (begun_append (condition_fields c) (Start ∷ (part_fields x ++ (Finish ∷ part_fields l)))
    ∙ omega (arith, begun_condition c, begun_append (part_fields x) (Finish ∷ part_fields l), begun_part x, begun_part l))
begun_part (either c x y l) =
    ap suc
    (begun_append (condition_fields c) (Start ∷ (part_fields x ++ (Else ∷ (part_fields y ++ (Finish ∷ part_fields l)))))
    ∙ omega (
      arith,
      begun_condition c,
      begun_append (part_fields x) (Else ∷ (part_fields y ++ (Finish ∷ part_fields l))),
      begun_append (part_fields y) (Finish ∷ part_fields l),
      begun_part x,
      begun_part y,
      begun_part l,
    ))
