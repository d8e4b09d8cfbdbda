-- The fields of a sheet, told one by one.
use Rattle.std.specs.Prelude.{ℕ, suc, ◌+◌, ◌*◌, ◌-◌, ◌/◌, ◌%◌, Bool, true, false, List, [], ◌∷◌, Option, Some, None, ltb, leb, eqb}
use Rattle.base.specs.Choice.{pick}
use Rattle.text.specs.Pieces.{greatest_number}
use Rattle.sheet.specs.declared.Field.{Field}
use Rattle.sheet.specs.declared.Field.TheVariants.{Else, Start, Finish, If, Send, Neg, Not, Binary, Compare, Word, Constant, Set, Goto, Run}
use Rattle.sheet.specs.declared.Joining.{Joining}
use Rattle.sheet.specs.declared.Joining.TheVariants.{And, Or}
use Rattle.sheet.specs.Condition.{most_comparisons}
use Rattle.sheet.specs.Within.{most_levels}
use Rattle.sheet.specs.ReadBack.{is_variable}
use Rattle.sheet_check.specs.declared.Next.{Next}
use Rattle.sheet_check.specs.declared.Next.TheVariants.{Instruction, Start as StartNext, Condition, NoAnd, NoOr}
use Rattle.sheet_check.specs.declared.State.{State}

-- ---- instructions counted

abbrev pub begins : Field → Bool
begins Else = false
begins Start = false
begins Finish = false
begins If = true
begins Send = true
begins Neg = false
begins Not = false
begins (Binary o) = false
begins (Compare r) = false
begins (Word w) = false
begins (Constant n) = false
begins (Set w) = true
begins (Goto s) = true
begins (Run w n) = false

-- how many fields begin an instruction
unfoldable pub begun : List Field → ℕ
begun [] = 0
begun (f ∷ l) = pick (begins f) (suc (begun l)) (begun l)

-- ---- what a field does to the state

abbrev pub with_values : State → ℕ → State
with_values s k = record {
  values = k;
  groups = s.groups;
  seconds = s.seconds;
  conditions = s.conditions;
  room = s.room;
  next = s.next;
  some = s.some;
}

-- where an expression must come
abbrev pub value_step : ℕ → State → Field → Option State
value_step v s Else = None
value_step v s Start = None
value_step v s Finish = None
value_step v s If = None
value_step v s Send = None
value_step v s Neg = Some s
value_step v s Not = Some s
value_step v s (Binary o) = Some (with_values s (s.values + 1))
value_step v s (Compare r) = None
value_step v s (Word w) = pick (is_variable v w) (Some (with_values s (s.values - 1))) None
value_step v s (Constant k) = pick (leb k greatest_number) (Some (with_values s (s.values - 1))) None
value_step v s (Set w) = None
value_step v s (Goto k) = None
value_step v s (Run w k) = None

abbrev pub leads_to : ℕ → ℕ → Bool
leads_to n s = pick (leb 1 s) (leb s (n + 1)) false

-- a place among instructions: so many expressions must come first, these are the open groups and their second parts, and the
-- innermost group has an instruction or none
abbrev pub among : ℕ → ℕ → ℕ → Bool → State
among k groups seconds some = record {
  values = k;
  groups = groups;
  seconds = seconds;
  conditions = 0;
  room = 0;
  next = Instruction;
  some = some;
}

-- an instruction that is no IF and that k expressions follow
abbrev pub instructed : State → ℕ → State
instructed s k = among k s.groups s.seconds true

-- an IF
abbrev pub asked : State → State
asked s = record {
  values = 0;
  groups = s.groups;
  seconds = s.seconds;
  conditions = 0;
  room = most_comparisons;
  next = Condition;
  some = true;
}

unfoldable pub else_step : State → Option State
else_step s =
    pick
    (eqb s.groups 0)
    None
    (pick
    (eqb (s.seconds % 2) 1)
    None
    (pick
    s.some
    (Some (among 0 s.groups (s.seconds + 1) false))
    None))

unfoldable pub finish_step : State → Option State
finish_step s =
    pick
    (eqb s.groups 0)
    None
    (pick
    s.some
    (Some (among 0 (s.groups - 1) (s.seconds / 2) true))
    None)

-- where an instruction or the end of a part must come
abbrev pub instruction_step : ℕ → ℕ → State → Field → Option State
instruction_step v n s Else = else_step s
instruction_step v n s Start = None
instruction_step v n s Finish = finish_step s
instruction_step v n s If = Some (asked s)
instruction_step v n s Send = Some (instructed s 1)
instruction_step v n s Neg = None
instruction_step v n s Not = None
instruction_step v n s (Binary o) = None
instruction_step v n s (Compare r) = None
instruction_step v n s (Word w) = None
instruction_step v n s (Constant k) = None
instruction_step v n s (Set w) = pick (is_variable v w) (Some (instructed s 1)) None
instruction_step v n s (Goto k) = pick (leads_to n k) (Some (instructed s 0)) None
instruction_step v n s (Run w k) = None

-- a comparison, which two expressions follow, then what is next, and m conditions beside that
abbrev pub compared : State → ℕ → Next → State
compared s m next = record {
  values = 2;
  groups = s.groups;
  seconds = s.seconds;
  conditions = m;
  room = s.room - 1;
  next = next;
  some = s.some;
}

unfoldable pub compare_step : State → Option State
compare_step s =
    pick
    (eqb s.room 0)
    None
    (pick (eqb s.conditions 0) (Some (compared s 0 StartNext)) (Some (compared s (s.conditions - 1) Condition)))

-- whether a run of a word may come
abbrev pub may_join : Next → Joining → Bool
may_join Instruction w = false
may_join StartNext w = false
may_join Condition w = true
may_join NoAnd And = false
may_join NoAnd Or = true
may_join NoOr And = true
may_join NoOr Or = false

-- what comes behind the word of a run
abbrev pub first_of : Joining → Next
first_of And = NoAnd
first_of Or = NoOr

-- a run, which its first member and the rest follow
abbrev pub joined : State → Joining → State
joined s w = record {
  values = 0;
  groups = s.groups;
  seconds = s.seconds;
  conditions = s.conditions + 1;
  room = s.room;
  next = first_of w;
  some = s.some;
}

unfoldable pub run_step : State → Joining → ℕ → Option State
run_step s w n = pick (eqb n 0) (pick (may_join s.next w) (Some (joined s w)) None) None

-- where a condition must come
abbrev pub condition_step : State → Field → Option State
condition_step s Else = None
condition_step s Start = None
condition_step s Finish = None
condition_step s If = None
condition_step s Send = None
condition_step s Neg = None
condition_step s Not = None
condition_step s (Binary o) = None
condition_step s (Compare r) = compare_step s
condition_step s (Word w) = None
condition_step s (Constant k) = None
condition_step s (Set w) = None
condition_step s (Goto k) = None
condition_step s (Run w k) = run_step s w k

unfoldable pub opened : State → Option State
opened s =
    pick
    (ltb s.groups most_levels)
    (Some (among 0 (s.groups + 1) (2 * s.seconds) false))
    None

-- where START must come
abbrev pub start_step : State → Field → Option State
start_step s Else = None
start_step s Start = opened s
start_step s Finish = None
start_step s If = None
start_step s Send = None
start_step s Neg = None
start_step s Not = None
start_step s (Binary o) = None
start_step s (Compare r) = None
start_step s (Word w) = None
start_step s (Constant k) = None
start_step s (Set w) = None
start_step s (Goto k) = None
start_step s (Run w k) = None

abbrev pub next_step : ℕ → ℕ → Next → State → Field → Option State
next_step v n Instruction s f = instruction_step v n s f
next_step v n StartNext s f = start_step s f
next_step v n Condition s f = condition_step s f
next_step v n NoAnd s f = condition_step s f
next_step v n NoOr s f = condition_step s f

unfoldable pub step_of : ℕ → ℕ → State → Field → Option State
step_of v n s f = pick (eqb s.values 0) (next_step v n s.next s f) (value_step v s f)

abbrev pub at_instruction : Next → Bool
at_instruction Instruction = true
at_instruction StartNext = false
at_instruction Condition = false
at_instruction NoAnd = false
at_instruction NoOr = false

unfoldable pub is_final : State → Bool
is_final s = pick (eqb s.values 0) (pick (eqb s.groups 0) (at_instruction s.next) false) false

abbrev pub on_step : Option State → (State → Bool) → Bool
on_step (Some s) f = f s
on_step None f = false

-- whether a sheet of n instructions can go on from the state s with these fields
unfoldable pub accepts : ℕ → ℕ → State → List Field → Bool
accepts v n s [] = is_final s
accepts v n s (f ∷ l) = on_step (step_of v n s f) (λ t. accepts v n t l)

abbrev pub start : State
start = among 0 0 0 false
