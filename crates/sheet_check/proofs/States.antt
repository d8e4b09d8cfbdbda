-- The states of a check, and that their numbers stay small.
use Prim.Native.Nat.{ℕ, zero, suc, ◌+◌, ◌*◌, ◌-◌, ◌/◌, ◌%◌, ◌≤◌, ◌<◌}
use mathlib.Core.Path.{◌≡◌, refl, sym, ap, subst, ◌∙◌}
use mathlib.Core.Bool.{Bool, true, false}
use native.Mathlib.Omega.{arith}
use native.Mathlib.Nat.{add-zero, add-suc}
use native.Mathlib.Numerals.{add-one}
use borrow.Author.Tests.{ltb-true, eqb-false, leb-true}
use lib.Dec.{eqb, ltb, leb}
use Rattle.base.specs.Choice.{pick}
use Rattle.base.proofs.Cases.{by_less}
use Rattle.text.specs.Pieces.{greatest_number}
use Rattle.sheet.specs.declared.Field.{Field}
use Rattle.sheet.specs.declared.Field.TheVariants.{Else, Start, Finish, If, Send, Neg, Not, Binary, Compare, Word, Constant, Set, Goto, Run}
use Rattle.sheet.specs.declared.Joining.{Joining}
use Rattle.sheet.specs.Within.{most_levels}
use Rattle.sheet.specs.ReadBack.{is_variable}
use Rattle.sheet_check.specs.declared.Next.{Next}
use Rattle.sheet_check.specs.declared.Next.TheVariants.{Instruction, Start as StartNext, Condition, NoAnd, NoOr}
use Rattle.sheet_check.specs.declared.State.{State}
use Rattle.std.specs.Prelude.{Option, Some, None}
use Rattle.sheet_check.specs.Internal.{with_values, value_step, leads_to, among, else_step, finish_step, instruction_step}
use Rattle.sheet_check.specs.Internal.{compare_step, may_join, run_step, condition_step, opened, start_step, next_step, step_of, start}

-- ---- powers of two

unfoldable pub power : ℕ → ℕ
power zero = 1
power (suc k) = power k + power k

power_some : (k : ℕ) → 1 ≤ power k
unfolding power
power_some zero = omega arith
power_some (suc k) = omega (arith, power_some k)

power_rises : (j k : ℕ) → power j ≤ power (j + k)
unfolding power
power_rises j zero = rw (add-zero j) (omega arith)
power_rises j (suc k) = rw (add-suc j k) (omega (arith, power_rises j k))

power_few : (k : ℕ) → k ≤ most_levels → power k ≤ 2147483648
unfolding power
power_few k h =
    let most = leb-true (power most_levels) 2147483648 refl in
    let all : k + (most_levels - k) ≡ most_levels = omega arith in
    omega (arith, power_rises k (most_levels - k), ap power all, most)

-- ---- numbers that stay small

pub record Small (i : ℕ) (s : State) : Type 0 where
  pub values : s.values ≤ i + 2
  pub conditions : s.conditions ≤ i
  pub groups : s.groups ≤ most_levels
  pub seconds : s.seconds + 1 ≤ power s.groups

pub seconds_few : (i : ℕ) (s : State) → Small i s → s.seconds < 2147483648
seconds_few i s p = omega (arith, p.seconds, power_few s.groups p.groups)

abbrev StepSmall : ℕ → Option State → Type 0
StepSmall i (Some s) = Small i s
StepSmall i None = Unit {0}

pub start_small : Small 0 start
unfolding power
start_small = record { values = omega arith; conditions = omega arith; groups = omega arith; seconds = omega arith }

small_when : (i : ℕ) (t : Bool) (x : Option State) → (t ≡ true → StepSmall i x) → StepSmall i (pick t x None)
unfolding pick
small_when i true x h = h refl
small_when i false x h = tt

small_either : (i : ℕ) (t : Bool) (x y : Option State) → (t ≡ true → StepSmall i x) → (t ≡ false → StepSmall i y) → StepSmall i (pick t x y)
unfolding pick
small_either i true x y h k = h refl
small_either i false x y h k = k refl

twice : (g n : ℕ) → n + 1 ≤ power g → 2 * n + 1 ≤ power (g + 1)
unfolding power
twice g n h = rw (add-one g) (omega arith)

evenly : (g n : ℕ) → (g ≡ 0 → ⊥) → (n % 2 ≡ 1 → ⊥) → n + 1 ≤ power g → n + 1 + 1 ≤ power g
unfolding power
evenly zero n some even h = absurd (some refl)
evenly (suc g) n some even h = let odd : n % 2 ≡ 0 = by_less (n % 2) 1 (λ l. omega arith) (λ l. absurd (even (omega arith))) in omega (arith, odd)

halved : (g n : ℕ) → (g ≡ 0 → ⊥) → n + 1 ≤ power g → n / 2 + 1 ≤ power (g - 1)
unfolding power
halved zero n some h = absurd (some refl)
halved (suc g) n some h = let back : suc g - 1 ≡ g = omega arith in rw back (omega arith)

some_values : (k : ℕ) → (k ≡ 0 → ⊥) → 1 ≤ k
some_values zero h = absurd (h refl)
some_values (suc k) h = omega arith

small_if : (i : ℕ) (t : Bool) (x : Option State) → StepSmall i x → StepSmall i (pick t x None)
unfolding pick
small_if i true x h = h
small_if i false x h = tt

small_unless : (i : ℕ) (t : Bool) (x : Option State) → (t ≡ false → StepSmall i x) → StepSmall i (pick t None x)
unfolding pick
small_unless i true x h = tt
small_unless i false x h = h refl

module _ (i : ℕ) (s : State) (p : Small i s) where
  same : (k : ℕ) → k ≤ i + 1 + 2 → Small (i + 1) (with_values s k)
  same k h = record { values = h; conditions = omega (arith, p.conditions); groups = p.groups; seconds = p.seconds }

  follows : (k m r : ℕ) (next : Next) (b : Bool) → k ≤ 2 → m ≤ i + 1
      → Small (i + 1) (record { values = k; groups = s.groups; seconds = s.seconds; conditions = m; room = r; next = next; some = b })
  follows k m r next b h few = record { values = omega arith; conditions = few; groups = p.groups; seconds = p.seconds }

  further : Small (i + 1) s
  further = record {
    values = omega (arith, p.values);
    conditions = omega (arith, p.conditions);
    groups = p.groups;
    seconds = p.seconds;
  }

  value_small : (v : ℕ) (f : Field) → 1 ≤ s.values → StepSmall (i + 1) (value_step v s f)
  value_small v Else h = tt
  value_small v Start h = tt
  value_small v Finish h = tt
  value_small v If h = tt
  value_small v Send h = tt
  value_small v Neg h = further
  value_small v Not h = further
  value_small v (Binary o) h = same (s.values + 1) (omega (arith, p.values))
  value_small v (Compare r) h = tt
  value_small v (Word w) h = small_if (i + 1) (is_variable v w) (Some (with_values s (s.values - 1))) (same (s.values - 1) (omega (arith, p.values)))
  value_small v (Constant n) h = small_if (i + 1) (leb n greatest_number) (Some (with_values s (s.values - 1))) (same (s.values - 1) (omega (arith, p.values)))
  value_small v (Set w) h = tt
  value_small v (Goto n) h = tt
  value_small v (Run w n) h = tt

  opens : s.groups < most_levels → Small (i + 1) (among 0 (s.groups + 1) (2 * s.seconds) false)
  opens l = record {
    values = omega arith;
    conditions = omega arith;
    groups = omega arith;
    seconds = twice s.groups s.seconds p.seconds;
  }

  open_small : StepSmall (i + 1) (opened s)
  unfolding opened
  open_small = small_when (i + 1) (ltb s.groups most_levels) _ (λ e. opens (ltb-true s.groups most_levels e))

  else_small : StepSmall (i + 1) (else_step s)
  unfolding else_step
  else_small =
      small_unless (i + 1) (eqb s.groups 0) _
      (λ some. small_unless (i + 1) (eqb (s.seconds % 2) 1) _
      (λ even. small_when (i + 1) s.some _
      (λ e. record {
        values = omega arith;
        conditions = omega arith;
        groups = p.groups;
        seconds = evenly s.groups s.seconds (eqb-false s.groups 0 some) (eqb-false (s.seconds % 2) 1 even) p.seconds;
      })))

  finish_small : StepSmall (i + 1) (finish_step s)
  unfolding finish_step
  finish_small =
      small_unless (i + 1) (eqb s.groups 0) _
      (λ some. small_when (i + 1) s.some _
      (λ e. record {
        values = omega arith;
        conditions = omega arith;
        groups = omega (arith, p.groups);
        seconds = halved s.groups s.seconds (eqb-false s.groups 0 some) p.seconds;
      }))

  instruction_small : (v n : ℕ) (f : Field) → StepSmall (i + 1) (instruction_step v n s f)
  instruction_small v n Else = else_small
  instruction_small v n Start = tt
  instruction_small v n Finish = finish_small
  instruction_small v n If = follows 0 0 _ Condition true (omega arith) (omega arith)
  instruction_small v n Send = follows 1 0 0 Instruction true (omega arith) (omega arith)
  instruction_small v n Neg = tt
  instruction_small v n Not = tt
  instruction_small v n (Binary o) = tt
  instruction_small v n (Compare r) = tt
  instruction_small v n (Word w) = tt
  instruction_small v n (Constant k) = tt
  instruction_small v n (Set w) = small_when (i + 1) (is_variable v w) _ (λ e. follows 1 0 0 Instruction true (omega arith) (omega arith))
  instruction_small v n (Goto k) = small_when (i + 1) (leads_to n k) _ (λ e. follows 0 0 0 Instruction true (omega arith) (omega arith))
  instruction_small v n (Run w k) = tt

  compare_small : StepSmall (i + 1) (compare_step s)
  unfolding compare_step
  compare_small =
      small_unless (i + 1) (eqb s.room 0) _
      (λ some. small_either (i + 1) (eqb s.conditions 0) _ _
      (λ e. follows 2 0 _ StartNext s.some (omega arith) (omega arith))
      (λ e. follows 2 _ _ Condition s.some (omega arith) (omega (arith, p.conditions))))

  run_small : (w : Joining) (n : ℕ) → StepSmall (i + 1) (run_step s w n)
  unfolding run_step
  run_small w n =
      small_when (i + 1) (eqb n 0) _
      (λ none. small_when (i + 1) (may_join s.next w) _ (λ e. follows 0 _ _ _ s.some (omega arith) (omega (arith, p.conditions))))

  condition_small : (f : Field) → StepSmall (i + 1) (condition_step s f)
  condition_small Else = tt
  condition_small Start = tt
  condition_small Finish = tt
  condition_small If = tt
  condition_small Send = tt
  condition_small Neg = tt
  condition_small Not = tt
  condition_small (Binary o) = tt
  condition_small (Compare r) = compare_small
  condition_small (Word w) = tt
  condition_small (Constant k) = tt
  condition_small (Set w) = tt
  condition_small (Goto k) = tt
  condition_small (Run w k) = run_small w k

  begin_small : (f : Field) → StepSmall (i + 1) (start_step s f)
  begin_small Else = tt
  begin_small Start = open_small
  begin_small Finish = tt
  begin_small If = tt
  begin_small Send = tt
  begin_small Neg = tt
  begin_small Not = tt
  begin_small (Binary o) = tt
  begin_small (Compare r) = tt
  begin_small (Word w) = tt
  begin_small (Constant k) = tt
  begin_small (Set w) = tt
  begin_small (Goto k) = tt
  begin_small (Run w k) = tt

  next_small : (v n : ℕ) (next : Next) (f : Field) → StepSmall (i + 1) (next_step v n next s f)
  next_small v n Instruction f = instruction_small v n f
  next_small v n StartNext f = begin_small f
  next_small v n Condition f = condition_small f
  next_small v n NoAnd f = condition_small f
  next_small v n NoOr f = condition_small f

  any_small : (v n : ℕ) (f : Field) → StepSmall (i + 1) (step_of v n s f)
  unfolding step_of
  any_small v n f =
      small_either (i + 1) (eqb s.values 0) _ _ (λ e. next_small v n s.next f) (λ e. value_small v f (some_values s.values (eqb-false s.values 0 e)))

  pub step_small : (v n : ℕ) (f : Field) (r : Option State) (t : State) → r ≡ step_of v n s f → r ≡ Some t → Small (i + 1) t
  step_small v n f r t e g = subst (StepSmall (i + 1)) (sym e ∙ g) (any_small v n f)
