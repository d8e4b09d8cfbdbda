-- What the end of a group and the end of a program do to a program in memory, stated of every program that the arguments hold.
use Rattle.std.specs.Prelude.{ℕ, List, Result}
use Rattle.source.specs.Tokens.{Lexeme}
use Rattle.source.specs.Grammar.{ending, finish, finish_else}
use Rattle.source.specs.Program.{Program, in_order}
use Rattle.front_end_forms.specs.declared.Progress.{Progress}
use Rattle.front_end_forms.specs.declared.Failure.{Failure}
use Rattle.front_end_forms.specs.Memory.{NameTable, Holds, Held}
use Rattle.front_end_forms.specs.Answers.{Comes, Goes, Gives}

-- %FINISH
abbrev pub Finishes : Progress → ℕ → List ℕ → List ℕ → List ℕ → Result Progress Failure → List ℕ → List ℕ → Type 0
Finishes p k before_ls gs before_fs r ls fs =
    (q : Program) (ns : NameTable) (xs : List Lexeme)
    → Holds q p ns before_ls gs before_fs
    → Comes (Goes (λ o n. Holds o n ns ls gs fs)) r (in_order q q.stage k xs finish)

-- %FINISH %ELSE %START
abbrev pub GoesOn : Progress → ℕ → List ℕ → List ℕ → List ℕ → Result Progress Failure → List ℕ → List ℕ → List ℕ → Type 0
GoesOn p k before_ls before_gs before_fs r ls gs fs =
    (q : Program) (ns : NameTable) (xs : List Lexeme)
    → Holds q p ns before_ls before_gs before_fs
    → Comes (Goes (λ o n. Holds o n ns ls gs fs)) r (in_order q q.stage k xs finish_else)

-- the end of a program
abbrev pub Concludes : Progress → ℕ → List ℕ → List ℕ → List ℕ → Result (Unit {0}) Failure → List ℕ → Type 0
Concludes p k ls gs before r after =
    (q : Program) (ns : NameTable) (xs : List Lexeme)
    → Holds q p ns ls gs before
    → Comes (λ (u : Unit {0}) o. Gives (Held p after) o) r (in_order q q.stage k xs ending)
