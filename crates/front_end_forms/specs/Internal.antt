-- What the private functions do.
use Rattle.std.specs.Prelude.{ℕ, ◌+◌, ◌<◌, Bool, true, false, ◌≡◌, List, ltb, set, Result}
use Rattle.base.specs.Choice.{pick}
use Rattle.sheet.specs.Within.{most_levels}
use Rattle.source.specs.Grammar.{Instruction}
use Rattle.source.specs.Program.{Program, jumps_in, all, is_label, with_few_temporaries, with_few_comparisons, with_few_levels, with_few_orders, placing}
use Rattle.groups.specs.Memory.{group_word}
use Rattle.fields.specs.Memory.{statement_numbers}
use Rattle.front_end_forms.specs.declared.Progress.{Progress}
use Rattle.front_end_forms.specs.declared.Failure.{Failure}
use Rattle.front_end_forms.specs.Memory.{NameTable, Holds}
use Rattle.front_end_forms.specs.Answers.{Comes, Goes, IsInstruction}

abbrev pub too_deep : Bool → ℕ → ℕ → Bool
too_deep opens instructions many = pick (ltb many most_levels) false (pick opens true (ltb 1 instructions))

-- how many groups are open then, and the array that holds them
abbrev pub Opens : ℕ → ℕ → Bool → ℕ → List ℕ → ℕ → List ℕ → Type 0
Opens k began true many ws r after = (r ≡ many + 1) × (after ≡ set ws many (group_word k 0 began))
Opens k began false many ws r after = (r ≡ many) × (after ≡ ws)

-- an instruction behind its labels
abbrev pub Places : Progress → ℕ → List ℕ → Bool → List ℕ → List ℕ → Result Progress Failure → List ℕ → List ℕ → Type 0
Places p k own opens before_gs before_fs r gs fs =
    (q : Program) (ns : NameTable) (ls : List ℕ) (i : Instruction)
    → Holds q p ns ls before_gs before_fs
    → k < statement_numbers
    → IsInstruction own opens i
    → all is_label (jumps_in i) ≡ true
    → Comes (Goes (λ o n. Holds o n ns ls gs fs)) r
    (with_few_temporaries k i (with_few_comparisons k i (with_few_levels k q.groups i (with_few_orders k (placing k i q)))))
