-- What a statement does to a program in memory.
use Rattle.std.specs.Prelude.{ℕ, ◌+◌, ◌<◌, ◌≤◌, ◌≡◌, List, Result, Err}
use Rattle.source.specs.Limits.{most_bytes, most_cells}
use Rattle.source.specs.Memory.{letters_in}
use Rattle.source.specs.Program.{Program, Outcome, statement}
use Rattle.fields.specs.Memory.{statement_numbers}
use Rattle.front_end_forms.specs.declared.Progress.{Progress}
use Rattle.front_end_forms.specs.declared.Step.{Step}
use Rattle.front_end_forms.specs.declared.Failure.{Failure}
use Rattle.front_end_forms.specs.declared.Failure.TheVariants.{Unfit}
use Rattle.front_end_forms.specs.Memory.{NameTable, Holds, Held}
use Rattle.front_end_forms.specs.Answers.{Comes, Steps}

-- what follows where a statement stands for an outcome of the program q, with room for so many letters of names more
abbrev pub Follows : Progress → ℕ → ℕ → NameTable → List ℕ → List ℕ → List ℕ → Result Step Failure → NameTable → List ℕ → List ℕ → List ℕ → (Program → Outcome) → Type 0
Follows p k many before_ns before_ls before_gs before_fs r ns ls gs fs outcome =
    (q : Program)
    → Holds q p before_ns before_ls before_gs before_fs
    → k < statement_numbers
    → letters_in q.names + many ≤ most_bytes
    → Comes (Steps (λ o n. Holds o n ns ls gs fs) (Held p fs)) r (outcome q)

-- what a statement of so many cells does; one that no end mark fits behind is unfit
pub record OnStatement (p : Progress) (k count : ℕ) (cells : List ℕ) (before_ns : NameTable) (before_ls before_gs before_fs : List ℕ) (r : Result Step Failure) (ns : NameTable) (ls gs fs : List ℕ) : Type 0 where
  pub short : count < most_cells → Follows p k count before_ns before_ls before_gs before_fs r ns ls gs fs (λ q. statement q k cells)
  pub long : most_cells ≤ count → r ≡ Err Unfit
