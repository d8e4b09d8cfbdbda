-- The open groups of a program in memory.
use Rattle.std.specs.Prelude.{ℕ, ◌+◌, ◌*◌, ◌/◌, ◌%◌, ◌≡◌, List, [], ◌∷◌, length, get_or}
use Rattle.source.specs.Program.{Group, first, second, count_outside}

-- a group stands in memory with a number of instructions, which is less than this
abbrev pub instruction_numbers : ℕ
instruction_numbers = 2147483648

-- a group of statement k that is a first part, where s is 0, or a second, where it is 1, and began behind n instructions
abbrev pub group_word : ℕ → ℕ → ℕ → ℕ
group_word k s n = k * 4294967296 + s * 2147483648 + n % instruction_numbers

abbrev pub began_in : ℕ → ℕ
began_in w = w % instruction_numbers

abbrev pub part_in : ℕ → ℕ
part_in w = w / instruction_numbers % 2

abbrev pub statement_in : ℕ → ℕ
statement_in w = w / 4294967296

abbrev pub word_of : Group → ℕ → ℕ
word_of (first k x c) n = group_word k 0 n
word_of (second k x c y) n = group_word k 1 n

-- an array holds groups, the innermost first in the list and last in the array
unfoldable pub GroupsHeld : List Group → List ℕ → Type 0
GroupsHeld [] ws = Unit {0}
GroupsHeld (g ∷ gs) ws = (get_or ws (length gs) 0 ≡ word_of g (count_outside (g ∷ gs))) × GroupsHeld gs ws
