-- Words, constants and jumps of a sheet, document 01: "Words run from 2 to V+1, constants from 0 to 2147483647."
use Rattle.std.specs.Prelude.{ℕ, ◌+◌, ◌≤◌, ◌<◌}
use Rattle.text.specs.Pieces.{greatest_number}
use Rattle.sheet.specs.Sheet.{Expression, word, constant, negated, inverted, binary, Simple, set, send, goto}

abbrev pub IsVariable : ℕ → ℕ → Type 0
IsVariable v w = (2 ≤ w) × (w < v + 2)

unfoldable pub Expressed : ℕ → Expression → Type 0
Expressed v (word w) = IsVariable v w
Expressed v (constant n) = n ≤ greatest_number
Expressed v (negated e) = Expressed v e
Expressed v (inverted e) = Expressed v e
Expressed v (binary o l r) = Expressed v l × Expressed v r

-- "s is an instruction's number from 1, or one past the last for the end"; n is the number of instructions
abbrev pub Leads : ℕ → ℕ → Type 0
Leads n s = (1 ≤ s) × (s ≤ n + 1)

abbrev pub SimpleFormed : ℕ → ℕ → Simple → Type 0
SimpleFormed v n (set w e) = IsVariable v w × Expressed v e
SimpleFormed v n (send e) = Expressed v e
SimpleFormed v n (goto s) = Leads n s
