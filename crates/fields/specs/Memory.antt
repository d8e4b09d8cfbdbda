-- The fields of a program in memory, where a jump carries the number of its statement and its label; and what the fields of an
-- instruction, as they stand in memory, tell of it.
use Rattle.std.specs.Prelude.{ℕ, ◌+◌, ◌*◌, ◌/◌, ◌%◌, Bool, true, false, List, [], ◌∷◌, Option, Some, None}
use Rattle.base.specs.Choice.{pick}
use Rattle.sheet.specs.declared.Field.{Field}
use Rattle.sheet.specs.declared.Field.TheVariants.{Else, Start, Finish, If, Send, Neg, Not, Binary, Compare, Word, Constant, Set, Goto, Run}
use Rattle.source.specs.Limits.{most_bytes, greatest_label}
use Rattle.source.specs.Program.{is_known, Jump as SourceJump, jump}

-- ---- names: `known` of source/specs/Program.antt, told on fields

abbrev pub field_known : Field → Bool
field_known Else = true
field_known Start = true
field_known Finish = true
field_known If = true
field_known Send = true
field_known Neg = true
field_known Not = true
field_known (Binary o) = true
field_known (Compare r) = true
field_known (Word w) = is_known w
field_known (Constant n) = true
field_known (Set w) = is_known w
field_known (Goto l) = true
field_known (Run w n) = true

unfoldable pub fields_known : List Field → Bool
fields_known [] = true
fields_known (f ∷ fs) = pick (field_known f) (fields_known fs) false

-- ---- jumps: `jumps_in` of source/specs/Program.antt, told on fields

-- the number that a jump carries
abbrev pub jump_of : Field → Option ℕ
jump_of Else = None
jump_of Start = None
jump_of Finish = None
jump_of If = None
jump_of Send = None
jump_of Neg = None
jump_of Not = None
jump_of (Binary o) = None
jump_of (Compare r) = None
jump_of (Word w) = None
jump_of (Constant n) = None
jump_of (Set w) = None
jump_of (Goto l) = Some l
jump_of (Run w n) = None

abbrev pub with_jump : Option ℕ → List ℕ → List ℕ
with_jump (Some l) ls = l ∷ ls
with_jump None ls = ls

unfoldable pub field_jumps : List Field → List ℕ
field_jumps [] = []
field_jumps (f ∷ fs) = with_jump (jump_of f) (field_jumps fs)

-- a jump stands in memory with the number of its statement: those numbers and labels are less than these. A statement that is not
-- skipped has a byte at least.
abbrev pub statement_numbers : ℕ
statement_numbers = most_bytes + 2

abbrev pub label_numbers : ℕ
label_numbers = greatest_label + 1

-- a jump of statement k
abbrev pub packed_jump : ℕ → ℕ → ℕ
packed_jump k l = k % statement_numbers * label_numbers + l % label_numbers

-- a field with another number where it jumps
abbrev pub jumping_as : (ℕ → ℕ) → Field → Option ℕ → Field
jumping_as to f (Some l) = Goto (to l)
jumping_as to f None = f

abbrev pub jumping : (ℕ → ℕ) → Field → Field
jumping to f = jumping_as to f (jump_of f)

-- a field of statement k as it is put
abbrev pub packed_field : ℕ → Field → Field
packed_field k f = jumping (packed_jump k) f

-- what stands in memory: the field with its label, and the jump with its statement
abbrev pub label_of : ℕ → ℕ
label_of p = p % label_numbers

abbrev pub unpacked : Field → Field
unpacked f = jumping label_of f

abbrev pub jump_in : ℕ → SourceJump
jump_in p = jump (p / label_numbers) (label_of p)
