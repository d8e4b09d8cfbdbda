-- The labels of a program in memory.
use Rattle.std.specs.Prelude.{ℕ, ◌-◌, ◌*◌, ◌/◌, ◌%◌, ◌≤◌, ◌<◌, List, ltb, eqb, get_or}
use Rattle.base.specs.Choice.{pick}
use Rattle.base.specs.Places.{each}
use Rattle.source.specs.Memory.{token_of, token_carried}
use Rattle.source.specs.Program.{Spot, before, next, behind, Label, label}

-- a label stands in the upper half of a word, and the number of its spot in the lower half
abbrev pub spot_numbers : ℕ
spot_numbers = 65536

-- the numbers of instructions are less than this; from it on come the spots behind first parts
abbrev pub instruction_numbers : ℕ
instruction_numbers = 32768

-- the spot with a number, where n is the number of the instruction that comes next
abbrev pub spot_in : ℕ → ℕ → Spot
spot_in n m = pick (eqb m n) next (pick (ltb m instruction_numbers) (before m) (behind (m - instruction_numbers)))

abbrev pub label_in : ℕ → ℕ → Label
label_in n e = label (e / spot_numbers) (spot_in n (e % spot_numbers))

abbrev pub labels_of : ℕ → ℕ → List ℕ → List Label
labels_of n count l = each (λ i. label_in n (get_or l i 0)) 0 count

-- none of them stands before an instruction that comes after the next
abbrev pub SoFar : ℕ → ℕ → List ℕ → Type 0
SoFar n count l = (i : ℕ) → i < count → get_or l i 0 % spot_numbers < instruction_numbers → get_or l i 0 % spot_numbers ≤ n

-- what every second token carries: the labels of a statement
abbrev pub label_here : List ℕ → List ℕ → ℕ → ℕ
label_here ks vs i = token_carried (token_of (get_or ks (i * 2) 0) (get_or vs (i * 2) 0))

abbrev pub labels_at : ℕ → List ℕ → List ℕ → List ℕ
labels_at n ks vs = each (label_here ks vs) 0 n
