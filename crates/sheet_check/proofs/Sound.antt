-- What is accepted are the fields of a sheet. From the last field to the first: what the fields that are left are, by the state.
use Prim.Native.Nat.{ℕ, zero, suc, ◌+◌, ◌*◌, ◌-◌, ◌/◌, ◌%◌, ◌≤◌}
use mathlib.Core.Path.{◌≡◌, refl, sym, ap, subst, ◌∙◌}
use mathlib.Core.Bool.{Bool, true, false}
use mathlib.Core.List.{List, [], ◌∷◌, ◌++◌, append_assoc, append-nil}
use native.Mathlib.Omega.{arith}
use native.Mathlib.Numerals.{add-one}
use borrow.Author.Tests.{ltb-true, leb-true}
use lib.Dec.{ltb, leb}
use lib.ListN.{length}
use Rattle.base.specs.Choice.{pick}
use Rattle.word.specs.declared.Relation.{Relation as Compared}
use Rattle.text.specs.Pieces.{greatest_number}
use Rattle.sheet.specs.declared.Operator.{Operator}
use Rattle.sheet.specs.declared.Field.{Field}
use Rattle.sheet.specs.declared.Field.TheVariants.{Else, Start, Finish, If, Send, Neg, Not, Binary, Compare, Word, Constant, Set, Goto, Run}
use Rattle.sheet.specs.declared.Joining.{Joining}
use Rattle.sheet.specs.declared.Joining.TheVariants.{And, Or}
use Rattle.sheet.specs.Sheet.{Expression, word, constant, negated, inverted, binary, Simple, set, send, goto}
use Rattle.sheet.specs.Sheet.{Condition, compares, joins, Part, end, plain, when, either, count}
use Rattle.sheet.specs.Fields.{expression_fields, simple_fields}
use Rattle.sheet.specs.Memory.{condition_fields, part_fields}
use Rattle.sheet.specs.Formed.{Expressed, Leads, SimpleFormed}
use Rattle.sheet.specs.Condition.{comparisons, Merged, AllExpressed, most_comparisons, ConditionFormed}
use Rattle.sheet.specs.Within.{PartFormed, depth, most_levels}
use Rattle.sheet.specs.ReadBack.{is_variable}
use Rattle.base.proofs.Cases.{both_yes}
use Rattle.sheet.proofs.Checking.{variable_told}
use Rattle.sheet_check.specs.declared.State.{State}
use Rattle.std.specs.Prelude.{Some, None}
use Rattle.sheet_check.specs.Internal.{value_step, leads_to, among, else_step, finish_step, instruction_step, compare_step, may_join, joined, run_step, condition_step}
use Rattle.sheet_check.specs.Internal.{opened, start_step, next_step, step_of, at_instruction, is_final, start, on_step, accepts}
use Rattle.sheet_check.proofs.Complete.{never, digits, Choice, any, behind, Fits, Due, instruction, opening, condition}
use Rattle.sheet_check.proofs.Complete.{choice_next, next_of, state_at, after, not_zero, one_less, at_condition}

-- a step that a test allows
record Allowed (t : Bool) (f : State → Bool) (s : State) : Type 0 where
  yes_so : t ≡ true
  on : f s ≡ true

allowed : (t : Bool) (s : State) (f : State → Bool) → on_step (pick t (Some s) None) f ≡ true → Allowed t f s
unfolding pick
allowed true s f e = record { yes_so = refl; on = e }
allowed false s f e = never e

module _ (v n : ℕ) where
  -- ---- what the fields can be

  -- so many expressions, and what stands behind them
  data Values : ℕ → List Field → List Field → Type 0 where
    none : {l : List Field} → Values 0 l l
    more : {k : ℕ} {l m : List Field} (e : Expression) → Expressed v e → Values k l m → Values (suc k) (expression_fields e ++ l) m

  -- the end of a part, and all behind it
  data Closing : List Bool → List Field → Type 0 where
    ended : Closing [] []
    finished : {g : Bool} {gs : List Bool} {l : List Field} (x : Part) → PartFormed v n x → length gs + depth x ≤ most_levels → Closing gs l
        → Closing (g ∷ gs) (Finish ∷ (part_fields x ++ l))
    turned : {gs : List Bool} {l : List Field} (y x : Part) → 1 ≤ count y → PartFormed v n y → suc (length gs) + depth y ≤ most_levels
        → PartFormed v n x → length gs + depth x ≤ most_levels → Closing gs l
        → Closing (false ∷ gs) (Else ∷ (part_fields y ++ (Finish ∷ (part_fields x ++ l))))

  -- a group that is open needs an instruction
  abbrev Filled : List Bool → Bool → Part → Type 0
  Filled [] b x = Unit {0}
  Filled (g ∷ gs) b x = b ≡ false → 1 ≤ count x

  -- instructions, and the end of the part
  record Rest (gs : List Bool) (b : Bool) (l : List Field) : Type 0 where
    part : Part
    behind : List Field
    is : l ≡ part_fields part ++ behind
    formed : PartFormed v n part
    levels : length gs + depth part ≤ most_levels
    closing : Closing gs behind
    filled : Filled gs b part

  data Begun : List Bool → List Field → Type 0 where
    begun : {gs : List Bool} {l : List Field} → Rest (false ∷ gs) false l → Begun gs (Start ∷ l)

  -- m conditions of r comparisons at most, and START behind them
  data Conditions : ℕ → ℕ → List Bool → List Field → Type 0 where
    none : {r : ℕ} {gs : List Bool} {l : List Field} → Begun gs l → Conditions 0 r gs l
    more : {m r : ℕ} {gs : List Bool} {l : List Field} (c : Condition) → AllExpressed v c → Merged c → (left : ℕ) → comparisons c + left ≤ r
        → Conditions m left gs l → Conditions (suc m) r gs (condition_fields c ++ l)

  -- the same, where the first is one that may come
  record Asked (choice : Choice) (m r : ℕ) (gs : List Bool) (l : List Field) : Type 0 where
    first : Condition
    expressed : AllExpressed v first
    merged : Merged first
    fits : Fits choice first
    behind_it : List Field
    is : l ≡ condition_fields first ++ behind_it
    left : ℕ
    few : comparisons first + left ≤ r
    others : Conditions m left gs behind_it

  abbrev Then : Due → List Bool → Bool → List Field → Type 0
  Then instruction gs b l = Rest gs b l
  Then (opening r) gs b l = Begun gs l
  Then (condition c m r) gs b l = Asked c m r gs l

  record Behind (k : ℕ) (due : Due) (gs : List Bool) (b : Bool) (l : List Field) : Type 0 where
    rest : List Field
    values : Values k l rest
    then : Then due gs b rest

  -- ---- one field before

  no_more : {k : ℕ} {l m : List Field} → Values k l m → k ≡ 0 → l ≡ m
  no_more none e = refl
  no_more (more e x vs) h = absurd (omega arith)

  then_is : (due : Due) {gs : List Bool} {b : Bool} {l : List Field} → Behind 0 due gs b l → Then due gs b l
  then_is due {gs} {b} h = subst (Then due gs b) (sym (no_more h.values refl)) h.then

  -- an expression, and what it stands before
  record Leaf (k : ℕ) (l m : List Field) : Type 0 where
    first : Expression
    expressed : Expressed v first
    left : List Field
    fields : l ≡ expression_fields first ++ left
    others : Values k left m

  one_value : {j k : ℕ} {l m : List Field} → Values j l m → j ≡ suc k → Leaf k l m
  one_value none e = absurd (omega arith)
  one_value {j} {k} (more {k = i} {l = l} {m = m} e x vs) h =
      let same : i ≡ k = omega arith in
      record { first = e; expressed = x; left = l; fields = refl; others = subst (λ a. Values a l m) same vs }

  unary : (f : Field) (make : Expression → Expression) → ((e : Expression) → f ∷ expression_fields e ≡ expression_fields (make e)) → ((e : Expression) → Expressed v e → Expressed v (make e))
      → (k : ℕ) (due : Due) (gs : List Bool) (b : Bool) (l : List Field) → Behind (suc k) due gs b l → Behind (suc k) due gs b (f ∷ l)
  unary f make fields good k due gs b l h =
      let one = one_value h.values refl in
      record {
        rest = h.rest;
        values =
            subst (λ a. Values (suc k) a h.rest) (sym (ap (λ a. f ∷ a) one.fields))
            (subst (λ a. Values (suc k) (a ++ one.left) h.rest) (sym (fields one.first)) (more (make one.first) (good one.first one.expressed) one.others));
        then = h.then;
      }

  operator : (o : Operator) (k : ℕ) (due : Due) (gs : List Bool) (b : Bool) (l : List Field) → Behind (suc (suc k)) due gs b l → Behind (suc k) due gs b (Binary o ∷ l)
  unfolding expression_fields Expressed
  operator o k due gs b l h =
      let one = one_value h.values refl in
      let two = one_value one.others refl in
      let x = one.first in
      let y = two.first in
      let parts : Binary o ∷ l ≡ expression_fields (binary o x y) ++ two.left =
      ap (λ a. Binary o ∷ a) (one.fields ∙ ap (λ a. expression_fields x ++ a) two.fields ∙ sym (append_assoc (expression_fields x) (expression_fields y) two.left)) in
      record {
        rest = h.rest;
        values = subst (λ a. Values (suc k) a h.rest) (sym parts) (more (binary o x y) (one.expressed, two.expressed) two.others);
        then = h.then;
      }

  leaf : (e : Expression) (f : Field) → expression_fields e ≡ f ∷ [] → Expressed v e → (k : ℕ) (due : Due) (gs : List Bool) (b : Bool) (l : List Field)
      → Behind k due gs b l → Behind (suc k) due gs b (f ∷ l)
  leaf e f fields good k due gs b l h = record {
    rest = h.rest;
    values = subst (λ a. Values (suc k) (a ++ l) h.rest) fields (more e good h.values);
    then = h.then;
  }

  -- an instruction that is no IF, before others
  plainly : (gs : List Bool) (b : Bool) (u : Simple) (l : List Field) → SimpleFormed v n u → Rest gs true l → Rest gs b (simple_fields u ++ l)
  unfolding part_fields PartFormed depth count
  plainly gs b u l good h = record {
    part = plain u h.part;
    behind = h.behind;
    is = ap (λ a. simple_fields u ++ a) h.is ∙ sym (append_assoc (simple_fields u) (part_fields h.part) h.behind);
    formed = (good, h.formed);
    levels = h.levels;
    closing = h.closing;
    filled = some gs;
  }
    where
      some : (gs : List Bool) → Filled gs b (plain u h.part)
      some [] = tt
      some (g ∷ gs) = λ e. omega arith

  one_expression : (gs : List Bool) (b : Bool) (l : List Field) → Behind 1 instruction gs true l → (make : Expression → Simple) (f : Field)
      → ((e : Expression) → simple_fields (make e) ≡ f ∷ expression_fields e) → ((e : Expression) → Expressed v e → SimpleFormed v n (make e)) → Rest gs b (f ∷ l)
  one_expression gs b l h make f fields good =
      let one = one_value h.values refl in
      let e = one.first in
      let same : one.left ≡ h.rest = no_more one.others refl in
      subst (Rest gs b)
      (ap (λ a. a ++ one.left) (fields e) ∙ sym (ap (λ a. f ∷ a) one.fields))
      (plainly gs b (make e) one.left (good e one.expressed) (subst (Rest gs true) (sym same) h.then))

  -- an IF, before others
  module _ (gs : List Bool) (b : Bool) (c : Condition) (fc : ConditionFormed v c) (p : Part) (fp : PartFormed v n p)
      (few : suc (length gs) + depth p ≤ most_levels) (some : 1 ≤ count p) where
    full : (gs : List Bool) (q : Part) → 1 ≤ count q → Filled gs b q
    full [] q h = tt
    full (g ∷ gs) q h = λ e. h

    closes : {behind : List Field} → Closing (false ∷ gs) behind → Rest gs b (If ∷ (condition_fields c ++ (Start ∷ (part_fields p ++ behind))))
    unfolding part_fields PartFormed depth count
    closes (finished {l = l} q fq lq closing) = record {
      part = when c p q;
      behind = l;
      is =
          ap (λ a. If ∷ a)
          (ap (λ a. condition_fields c ++ (Start ∷ a)) (sym (append_assoc (part_fields p) (Finish ∷ part_fields q) l))
          ∙ sym (append_assoc (condition_fields c) (Start ∷ (part_fields p ++ (Finish ∷ part_fields q))) l));
      formed = (fc, some, fp, fq);
      levels = omega arith;
      closing = closing;
      filled = full gs (when c p q) (omega arith);
    }
    closes (turned {l = l} z q sz fz lz fq lq closing) = record {
      part = either c p z q;
      behind = l;
      is =
          ap (λ a. If ∷ a)
          (ap (λ a. condition_fields c ++ (Start ∷ (part_fields p ++ (Else ∷ a)))) (sym (append_assoc (part_fields z) (Finish ∷ part_fields q) l))
          ∙ ap (λ a. condition_fields c ++ (Start ∷ a)) (sym (append_assoc (part_fields p) (Else ∷ (part_fields z ++ (Finish ∷ part_fields q))) l))
          ∙ sym (append_assoc (condition_fields c) (Start ∷ (part_fields p ++ (Else ∷ (part_fields z ++ (Finish ∷ part_fields q))))) l));
      formed = (fc, some, sz, fp, fz, fq);
      levels = omega arith;
      closing = closing;
      filled = full gs (either c p z q) (omega arith);
    }

  -- no condition is left
  all_tried : {m r : ℕ} {gs : List Bool} {l : List Field} → Conditions m r gs l → m ≡ 0 → Begun gs l
  all_tried (none h) e = h
  all_tried (more c expressed merged left few others) e = absurd (omega arith)

  begins_with : (gs : List Bool) (b : Bool) (c : Condition) → ConditionFormed v c → {l : List Field} → Begun gs l → Rest gs b (If ∷ (condition_fields c ++ l))
  begins_with gs b c fc (begun h) =
      subst (Rest gs b) (ap (λ a. If ∷ (condition_fields c ++ (Start ∷ a))) (sym h.is))
      (closes gs b c fc h.part h.formed h.levels (h.filled refl) h.closing)

  opens : (gs : List Bool) (b : Bool) (l : List Field) → Asked any 0 most_comparisons gs l → Rest gs b (If ∷ l)
  opens gs b l h =
      subst (λ a. Rest gs b (If ∷ a)) (sym h.is)
      (begins_with gs b h.first (h.expressed, h.merged, omega (arith, h.few)) (all_tried h.others refl))

  -- ---- a condition, before others

  -- the conditions behind one that m others follow
  follow : (m r : ℕ) (gs : List Bool) (b : Bool) (l : List Field) → Then (after m r) gs b l → Conditions m r gs l
  follow zero r gs b l h = none h
  follow (suc m) r gs b l h =
      subst (Conditions (suc m) r gs) (sym h.is) (more h.first h.expressed h.merged h.left h.few h.others)

  compares_fit : (choice : Choice) (q : Compared) (x y : Expression) → Fits choice (compares q x y)
  compares_fit any q x y = tt
  compares_fit (behind w) q x y = refl

  comparison : (q : Compared) (choice : Choice) (m r : ℕ) (gs : List Bool) (b : Bool) (l : List Field) → Behind 2 (after m r) gs b l
      → Asked choice m (suc r) gs (Compare q ∷ l)
  unfolding condition_fields AllExpressed Merged comparisons
  comparison q choice m r gs b l h =
      let one = one_value h.values refl in
      let two = one_value one.others refl in
      let x = one.first in
      let y = two.first in
      let same : two.left ≡ h.rest = no_more two.others refl in
      record {
        first = compares q x y;
        expressed = (one.expressed, two.expressed);
        merged = tt;
        fits = compares_fit choice q x y;
        behind_it = two.left;
        is =
            ap (λ a. Compare q ∷ a)
            (one.fields
            ∙ ap (λ a. expression_fields x ++ a) two.fields
            ∙ sym (append_assoc (expression_fields x) (expression_fields y) two.left));
        left = r;
        few = omega arith;
        others = subst (Conditions m r gs) (sym same) (follow m r gs b h.rest h.then);
      }

  joins_fit : (choice : Choice) (w : Joining) (x y : Condition) → may_join (choice_next choice) w ≡ true → Fits choice (joins w x y)
  joins_fit any w x y e = tt
  joins_fit (behind And) And x y e = never e
  joins_fit (behind And) Or x y e = refl
  joins_fit (behind Or) And x y e = refl
  joins_fit (behind Or) Or x y e = never e

  -- the next of the conditions
  next_one : {k m r : ℕ} {gs : List Bool} {l : List Field} → Conditions k r gs l → k ≡ suc m → Asked any m r gs l
  next_one (none h) e = absurd (omega arith)
  next_one {m = m} {gs = gs} (more {m = j} {l = l} c expressed merged left few others) e =
      let same : j ≡ m = omega arith in
      record {
        first = c;
        expressed = expressed;
        merged = merged;
        fits = tt;
        behind_it = l;
        is = refl;
        left = left;
        few = few;
        others = subst (λ a. Conditions a left gs l) same others;
      }

  run : (w : Joining) (choice : Choice) (m r : ℕ) (gs : List Bool) (l : List Field) → may_join (choice_next choice) w ≡ true
      → Asked (behind w) (suc m) r gs l → Asked choice m r gs (Run w 0 ∷ l)
  unfolding condition_fields AllExpressed Merged comparisons
  run w choice m r gs l may h =
      let it = next_one h.others refl in
      let x = h.first in
      let y = it.first in
      record {
        first = joins w x y;
        expressed = (h.expressed, it.expressed);
        merged = (h.fits, h.merged, it.merged);
        fits = joins_fit choice w x y may;
        behind_it = it.behind_it;
        is =
            ap (λ a. Run w 0 ∷ a)
            (h.is ∙ ap (λ a. condition_fields x ++ a) it.is ∙ sym (append_assoc (condition_fields x) (condition_fields y) it.behind_it));
        left = it.left;
        few = omega (arith, h.few, it.few);
        others = it.others;
      }

  -- the end of a part
  finishes : (g : Bool) (gs : List Bool) (l : List Field) → suc (length gs) ≤ most_levels → Rest gs true l → Rest (g ∷ gs) true (Finish ∷ l)
  unfolding part_fields PartFormed depth
  finishes g gs l few h = record {
    part = end;
    behind = Finish ∷ l;
    is = refl;
    formed = tt;
    levels = omega arith;
    closing = subst (λ a. Closing (g ∷ gs) (Finish ∷ a)) (sym h.is) (finished h.part h.formed h.levels h.closing);
    filled = λ e. never (sym e);
  }

  turns_by : (gs : List Bool) (y : Part) (behind : List Field) → 1 ≤ count y → PartFormed v n y → suc (length gs) + depth y ≤ most_levels → Closing (true ∷ gs) behind
      → Closing (false ∷ gs) (Else ∷ (part_fields y ++ behind))
  turns_by gs y _ some fy ly (finished x fx lx c) = turned y x some fy ly fx lx c

  turns : (gs : List Bool) (l : List Field) → suc (length gs) ≤ most_levels → Rest (true ∷ gs) false l → Rest (false ∷ gs) true (Else ∷ l)
  unfolding part_fields PartFormed depth
  turns gs l few h = record {
    part = end;
    behind = Else ∷ l;
    is = refl;
    formed = tt;
    levels = omega arith;
    closing =
        subst (λ a. Closing (false ∷ gs) (Else ∷ a)) (sym h.is) (turns_by gs h.part h.behind (h.filled refl) h.formed h.levels h.closing);
    filled = λ e. never (sym e);
  }

  -- ---- all the fields

  abbrev Accepted : List Field → Type 0
  Accepted l = (k : ℕ) (due : Due) (gs : List Bool) (b : Bool) → length gs ≤ most_levels → accepts v n (state_at k due gs b) l ≡ true → Behind k due gs b l

  else_back : (l : List Field) (ahead : Accepted l) (gs : List Bool) (b : Bool) → length gs ≤ most_levels
      → on_step (else_step (state_at 0 instruction gs b)) (λ t. accepts v n t l) ≡ true → Rest gs b (Else ∷ l)
  unfolding else_step pick digits
  else_back l ahead [] b few e = never e
  else_back l ahead (true ∷ gs) b few e = let odd : (2 * digits gs + 1) % 2 ≡ 1 = omega arith in never (rw (not_zero (length gs), odd) at e)
  else_back l ahead (false ∷ gs) false few e = let even : (2 * digits gs) % 2 ≡ 0 = omega arith in never (rw (not_zero (length gs), even) at e)
  else_back l ahead (false ∷ gs) true few e =
      let even : (2 * digits gs) % 2 ≡ 0 = omega arith in
      turns gs l few (then_is instruction (ahead 0 instruction (true ∷ gs) false few (rw (not_zero (length gs), even) at e)))

  finish_back : (l : List Field) (ahead : Accepted l) (gs : List Bool) (b : Bool) → length gs ≤ most_levels
      → on_step (finish_step (state_at 0 instruction gs b)) (λ t. accepts v n t l) ≡ true → Rest gs b (Finish ∷ l)
  unfolding finish_step pick digits
  finish_back l ahead [] b few e = never e
  finish_back l ahead (g ∷ gs) false few e = never (rw (not_zero (length gs)) at e)
  finish_back l ahead (true ∷ gs) true few e =
      let half : (2 * digits gs + 1) / 2 ≡ digits gs = omega arith in
      finishes true gs l few (then_is instruction (ahead 0 instruction gs true (omega arith) (rw (not_zero (length gs), half, one_less (length gs)) at e)))
  finish_back l ahead (false ∷ gs) true few e =
      let half : (2 * digits gs) / 2 ≡ digits gs = omega arith in
      finishes false gs l few (then_is instruction (ahead 0 instruction gs true (omega arith) (rw (not_zero (length gs), half, one_less (length gs)) at e)))

  module _ (l : List Field) (ahead : Accepted l) (gs : List Bool) (b : Bool) (few : length gs ≤ most_levels) where
    abbrev goes : State → Bool
    goes t = accepts v n t l

    value_back : (k : ℕ) (due : Due) (f : Field) → on_step (value_step v (state_at (suc k) due gs b) f) goes ≡ true → Behind (suc k) due gs b (f ∷ l)
    unfolding expression_fields Expressed
    value_back k due Else e = never e
    value_back k due Start e = never e
    value_back k due Finish e = never e
    value_back k due If e = never e
    value_back k due Send e = never e
    value_back k due Neg e = unary Neg negated (λ x. refl) (λ x h. h) k due gs b l (ahead (suc k) due gs b few e)
    value_back k due Not e = unary Not inverted (λ x. refl) (λ x h. h) k due gs b l (ahead (suc k) due gs b few e)
    value_back k due (Binary o) e = operator o k due gs b l (ahead (suc (suc k)) due gs b few (rw (add-one (suc k)) at e))
    value_back k due (Compare r) e = never e
    value_back k due (Word w) e =
        let it = allowed (is_variable v w) (state_at (suc k - 1) due gs b) goes e in
        leaf (word w) (Word w) refl (variable_told v w it.yes_so) k due gs b l (ahead k due gs b few (rw (one_less k) at it.on))
    value_back k due (Constant m) e =
        let it = allowed (leb m greatest_number) (state_at (suc k - 1) due gs b) goes e in
        leaf (constant m) (Constant m) refl (leb-true m greatest_number it.yes_so) k due gs b l (ahead k due gs b few (rw (one_less k) at it.on))
    value_back k due (Set w) e = never e
    value_back k due (Goto m) e = never e
    value_back k due (Run w m) e = never e

    at_once : (due : Due) (f : Field) → Then due gs b (f ∷ l) → Behind 0 due gs b (f ∷ l)
    at_once due f h = record { rest = f ∷ l; values = none; then = h }

    leads_told : (s : ℕ) → leads_to n s ≡ true → Leads n s
    leads_told s e = let two = both_yes (leb 1 s) (leb s (n + 1)) e in (leb-true 1 s two.0, leb-true s (n + 1) two.1)

    instruction_back : (f : Field) → on_step (instruction_step v n (state_at 0 instruction gs b) f) goes ≡ true → Rest gs b (f ∷ l)
    unfolding pick
    instruction_back Else e = else_back l ahead gs b few e
    instruction_back Start e = never e
    instruction_back Finish e = finish_back l ahead gs b few e
    instruction_back If e =
        opens gs b l (then_is (condition any 0 most_comparisons) (ahead 0 (condition any 0 most_comparisons) gs true few e))
    instruction_back Send e = one_expression gs b l (ahead 1 instruction gs true few e) send Send (λ x. refl) (λ x h. h)
    instruction_back Neg e = never e
    instruction_back Not e = never e
    instruction_back (Binary o) e = never e
    instruction_back (Compare r) e = never e
    instruction_back (Word w) e = never e
    instruction_back (Constant m) e = never e
    instruction_back (Set w) e =
        let it = allowed (is_variable v w) (state_at 1 instruction gs true) goes e in
        one_expression gs b l (ahead 1 instruction gs true few it.on) (set w) (Set w) (λ x. refl) (λ x h. (variable_told v w it.yes_so, h))
    instruction_back (Goto m) e =
        let it = allowed (leads_to n m) (state_at 0 instruction gs true) goes e in
        plainly gs b (goto m) l (leads_told m it.yes_so) (then_is instruction (ahead 0 instruction gs true few it.on))
    instruction_back (Run w m) e = never e

    start_back : (r : ℕ) (f : Field) → on_step (start_step (state_at 0 (opening r) gs b) f) goes ≡ true → Begun gs (f ∷ l)
    unfolding opened digits
    start_back r Else e = never e
    start_back r Start e =
        let it = allowed (ltb (length gs) most_levels) (among 0 (length gs + 1) (2 * digits gs) false) goes e in
        begun (then_is instruction (ahead 0 instruction (false ∷ gs) false (ltb-true (length gs) most_levels it.yes_so) (rw (add-one (length gs)) at it.on)))
    start_back r Finish e = never e
    start_back r If e = never e
    start_back r Send e = never e
    start_back r Neg e = never e
    start_back r Not e = never e
    start_back r (Binary o) e = never e
    start_back r (Compare q) e = never e
    start_back r (Word w) e = never e
    start_back r (Constant m) e = never e
    start_back r (Set w) e = never e
    start_back r (Goto m) e = never e
    start_back r (Run w m) e = never e

    compare_back : (q : Compared) (choice : Choice) (m r : ℕ) → on_step (compare_step (state_at 0 (condition choice m r) gs b)) goes ≡ true
        → Asked choice m r gs (Compare q ∷ l)
    unfolding compare_step pick
    compare_back q choice m zero e = never e
    compare_back q choice zero (suc r) e =
        comparison q choice 0 r gs b l (ahead 2 (opening r) gs b few (rw (not_zero r, one_less r) at e))
    compare_back q choice (suc m) (suc r) e =
        comparison q choice (suc m) r gs b l (ahead 2 (condition any m r) gs b few (rw (not_zero r, not_zero m, one_less r, one_less m) at e))

    run_back : (w : Joining) (k : ℕ) (choice : Choice) (m r : ℕ) → on_step (run_step (state_at 0 (condition choice m r) gs b) w k) goes ≡ true
        → Asked choice m r gs (Run w k ∷ l)
    unfolding run_step pick
    run_back w zero choice m r e =
        let it = allowed (may_join (choice_next choice) w) (joined (state_at 0 (condition choice m r) gs b) w) goes e in
        run w choice m r gs l it.yes_so
        (then_is (condition (behind w) (suc m) r) (ahead 0 (condition (behind w) (suc m) r) gs b few (rw (add-one m) at it.on)))
    run_back w (suc k) choice m r e = never (rw (not_zero k) at e)

    condition_back : (choice : Choice) (m r : ℕ) (f : Field) → on_step (condition_step (state_at 0 (condition choice m r) gs b) f) goes ≡ true
        → Asked choice m r gs (f ∷ l)
    condition_back choice m r Else e = never e
    condition_back choice m r Start e = never e
    condition_back choice m r Finish e = never e
    condition_back choice m r If e = never e
    condition_back choice m r Send e = never e
    condition_back choice m r Neg e = never e
    condition_back choice m r Not e = never e
    condition_back choice m r (Binary o) e = never e
    condition_back choice m r (Compare q) e = compare_back q choice m r e
    condition_back choice m r (Word w) e = never e
    condition_back choice m r (Constant k) e = never e
    condition_back choice m r (Set w) e = never e
    condition_back choice m r (Goto k) e = never e
    condition_back choice m r (Run w k) e = run_back w k choice m r e

    next_back : (due : Due) (f : Field) → on_step (next_step v n (next_of due) (state_at 0 due gs b) f) goes ≡ true → Behind 0 due gs b (f ∷ l)
    next_back instruction f e = at_once instruction f (instruction_back f e)
    next_back (opening r) f e = at_once (opening r) f (start_back r f e)
    next_back (condition c m r) f e = at_once (condition c m r) f (condition_back c m r f (rw (at_condition v n c) at e))

  not_final : (c : Choice) → at_instruction (choice_next c) ≡ false
  not_final any = refl
  not_final (behind And) = refl
  not_final (behind Or) = refl

  final : (k : ℕ) (due : Due) (gs : List Bool) (b : Bool) → is_final (state_at k due gs b) ≡ true → Behind k due gs b []
  unfolding is_final pick part_fields PartFormed depth
  final zero instruction [] b e = record {
    rest = [];
    values = none;
    then = record { part = end; behind = []; is = refl; formed = tt; levels = omega arith; closing = ended; filled = tt };
  }
  final zero instruction (g ∷ gs) b e = never (rw (not_zero (length gs)) at e)
  final zero (opening r) [] b e = never e
  final zero (opening r) (g ∷ gs) b e = never (rw (not_zero (length gs)) at e)
  final zero (condition c m r) [] b e = never (rw (not_final c) at e)
  final zero (condition c m r) (g ∷ gs) b e = never (rw (not_zero (length gs)) at e)
  final (suc k) due gs b e = never (rw (not_zero k) at e)

  sound_from : (l : List Field) → Accepted l
  unfolding accepts step_of pick
  sound_from [] k due gs b few e = final k due gs b e
  sound_from (f ∷ l) zero due gs b few e = next_back l (sound_from l) gs b few due f e
  sound_from (f ∷ l) (suc k) due gs b few e = value_back l (sound_from l) gs b few k due f (rw (not_zero k) at e)

  -- the instructions that fields are of
  pub record Parsed (l : List Field) : Type 0 where
    pub part : Part
    pub is : l ≡ part_fields part
    pub formed : PartFormed v n part
    pub few_levels : depth part ≤ most_levels

  ends : (l : List Field) → Closing [] l → l ≡ []
  ends _ ended = refl

  pub sound : (l : List Field) → accepts v n start l ≡ true → Parsed l
  unfolding digits
  sound l e =
      let h = then_is instruction (sound_from l 0 instruction [] false (omega arith) e) in
      record {
        part = h.part;
        is = h.is ∙ ap (λ a. part_fields h.part ++ a) (ends h.behind h.closing) ∙ append-nil (part_fields h.part);
        formed = h.formed;
        few_levels = omega (arith, h.levels);
      }
