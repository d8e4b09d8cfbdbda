-- What a statement of each form does to a program in memory, stated of every program that the arguments hold. Nothing is said of
-- arguments that hold none: the layer calls its functions with none such.
use Rattle.std.specs.Prelude.{ℕ, ◌+◌, ◌≤◌, ◌<◌, Bool, true, false, ◌≡◌, List, length, Result, Ok, Err}
use Rattle.order.specs.Limits.{most_orders}
use Rattle.sheet.specs.Sheet.{Sheet}
use Rattle.sheet.specs.Within.{most_levels}
use Rattle.sheet_field.specs.Memory.{fields_at, most_fields}
use Rattle.source.specs.declared.Refusal.{Refusal}
use Rattle.source.specs.Refusals.{refusal_number}
use Rattle.source.specs.Limits.{most_bytes}
use Rattle.source.specs.Memory.{most_listed, letters_in}
use Rattle.source.specs.Tokens.{Lexeme}
use Rattle.source.specs.Grammar.{Instruction, simple, if_then, if_else, if_start}
use Rattle.source.specs.Grammar.{beginning, declaration, labels as labelled_by, instruction as labelled_instruction}
use Rattle.source.specs.Fields.{instruction_fields}
use Rattle.source.specs.Program.{Program, Outcome, refused, further, given, names_in, in_order}
use Rattle.fields.specs.Memory.{statement_numbers}
use Rattle.front_end_forms.specs.declared.Progress.{Progress}
use Rattle.front_end_forms.specs.declared.Step.{Step}
use Rattle.front_end_forms.specs.declared.Step.TheVariants.{Further, Given}
use Rattle.front_end_forms.specs.declared.Failure.{Failure}
use Rattle.front_end_forms.specs.declared.Failure.TheVariants.{Refused}
use Rattle.front_end_forms.specs.Memory.{NameTable, Holds}

-- an answer and the outcome that it stands for, where T says which that is of an answer that is no failure. No outcome is unfit.
pub data Comes {A : Type 0} (T : A → Outcome → Type 0) : Result A Failure → Outcome → Type 0 where
  refuses : (e : Refusal) (k : ℕ) → Comes T (Err (Refused e k)) (refused (refusal_number e) k)
  comes : (a : A) (o : Outcome) → T a o → Comes T (Ok a) o

-- the outcome is a program that goes on, and P holds of it
pub record Goes (P : Program → Progress → Type 0) (p : Progress) (o : Outcome) : Type 0 where
  pub program : Program
  pub same : o ≡ further program
  pub kept : P program p

-- the outcome is a sheet, and G holds of it
pub record Gives (G : Sheet → Type 0) (o : Outcome) : Type 0 where
  pub sheet_too : Sheet
  pub same : o ≡ given sheet_too
  pub kept : G sheet_too

abbrev pub Steps : (Program → Progress → Type 0) → (Sheet → Type 0) → Step → Outcome → Type 0
Steps P G (Further p) o = Goes P p o
Steps P G Given o = Gives G o

-- counts that leave room for one instruction more
pub record FewCounts (p : Progress) : Type 0 where
  pub few_instructions : p.instructions < most_orders
  pub few_fields : p.fields ≤ most_fields
  pub few_orders : p.orders < most_orders
  pub few_levels : p.groups ≤ most_levels

-- %BEGIN
abbrev pub Begins : Progress → ℕ → Result Progress Failure → Type 0
Begins p k r =
    (q : Program) (ns : NameTable) (ls gs fs : List ℕ) (xs : List Lexeme)
    → Holds q p ns ls gs fs
    → Comes (Goes (λ o n. Holds o n ns ls gs fs)) r (in_order q q.stage k xs beginning)

-- a declaration of the names among xs
abbrev pub Declares : Progress → ℕ → List Lexeme → NameTable → Result Progress Failure → NameTable → Type 0
Declares p k xs before r after =
    (q : Program) (ls gs fs : List ℕ)
    → Holds q p before ls gs fs
    → length (names_in xs) ≤ most_listed
    → letters_in q.names + letters_in (names_in xs) ≤ most_bytes
    → Comes (Goes (λ o n. Holds o n after ls gs fs)) r (in_order q q.stage k xs declaration)

-- labels change nothing else that is counted
pub record SameCounts (p n : Progress) : Type 0 where
  pub instructions_same : n.instructions ≡ p.instructions
  pub fields_same : n.fields ≡ p.fields
  pub orders_same : n.orders ≡ p.orders
  pub groups_same : n.groups ≡ p.groups

abbrev pub KeepsCounts : Progress → Result Progress Failure → Type 0
KeepsCounts p (Ok n) = SameCounts p n
KeepsCounts p (Err e) = Unit {0}

-- the labels ls of a statement
abbrev pub SetsLabels : Progress → ℕ → List ℕ → List ℕ → Result Progress Failure → List ℕ → Type 0
SetsLabels p k ls before r after =
    (q : Program) (ns : NameTable) (gs fs : List ℕ) (xs : List Lexeme)
    → Holds q p ns before gs fs
    → length ls ≤ most_listed
    → Comes (Goes (λ o n. Holds o n ns after gs fs)) r (in_order q q.stage k xs (labelled_by ls))

-- whether an instruction goes on behind its START
abbrev pub goes_on : Instruction → Bool
goes_on (simple u) = false
goes_on (if_then c u) = false
goes_on (if_else c u w) = false
goes_on (if_start c) = true

-- an array holds the fields of an instruction, and it is known whether that goes on
pub record IsInstruction (own : List ℕ) (opens : Bool) (i : Instruction) : Type 0 where
  pub its_fields : fields_at 0 own ≡ instruction_fields i
  pub its_opening : opens ≡ goes_on i

-- an instruction with its labels
abbrev pub Instructs : Progress → ℕ → List ℕ → List ℕ → Bool → List ℕ → List ℕ → List ℕ → Result Progress Failure → List ℕ → List ℕ → List ℕ → Type 0
Instructs p k labels own opens before_ls before_gs before_fs r ls gs fs =
    (q : Program) (ns : NameTable) (xs : List Lexeme) (i : Instruction)
    → Holds q p ns before_ls before_gs before_fs
    → k < statement_numbers
    → IsInstruction own opens i
    → length labels ≤ most_listed
    → Comes (Goes (λ o n. Holds o n ns ls gs fs)) r (in_order q q.stage k xs (labelled_instruction labels i))
