-- What the private function does.
use Rattle.std.specs.Prelude.{ℕ, ◌≡◌, List, ◌∷◌, length, Result}
use Rattle.sheet.specs.Sheet.{Part, end, Condition}
use Rattle.source.specs.Program.{Program, Group, first, second, with_few_orders, regrouped, put_off}
use Rattle.front_end_forms.specs.declared.Progress.{Progress}
use Rattle.front_end_forms.specs.declared.Failure.{Failure}
use Rattle.front_end_forms.specs.Memory.{NameTable, Holds}
use Rattle.front_end_forms.specs.Answers.{Comes, Goes}

-- %FINISH %ELSE %START behind a first part with instructions
abbrev pub Seconds : Progress → ℕ → List ℕ → List ℕ → List ℕ → Result Progress Failure → List ℕ → List ℕ → List ℕ → Type 0
Seconds p k before_ls before_gs before_fs r ls gs fs =
    (q : Program) (ns : NameTable) (j : ℕ) (x : Part) (c : Condition) (hs : List Group)
    → Holds q p ns before_ls before_gs before_fs
    → q.groups ≡ first j x c ∷ hs
    → Comes (Goes (λ o n. Holds o n ns ls gs fs)) r
    (with_few_orders k (regrouped q (put_off (length hs)) (second k x c q.here ∷ hs) end))
