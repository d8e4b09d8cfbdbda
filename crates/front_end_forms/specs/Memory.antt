-- A program in memory: what numbers and arrays hold of it while it is read.
use Rattle.std.specs.Prelude.{ℕ, ◌+◌, ◌≤◌, ◌<◌, ◌≡◌, List, [], ◌∷◌, ◌++◌, map, length}
use Rattle.order.specs.Limits.{most_variables, most_orders}
use Rattle.sheet.specs.declared.Field.{Field}
use Rattle.sheet.specs.declared.Field.TheVariants.{Else}
use Rattle.sheet.specs.Sheet.{Part, count, Sheet, variables, instructions as instructions_of}
use Rattle.sheet.specs.Memory.{part_fields, sheet_fields}
use Rattle.sheet.specs.Translation.{size}
use Rattle.sheet.specs.Within.{most_levels}
use Rattle.sheet_field.specs.Memory.{fields_from, most_fields}
use Rattle.source.specs.Limits.{most_labels}
use Rattle.source.specs.Memory.{label_rows}
use Rattle.source.specs.Grammar.{if_start}
use Rattle.source.specs.Fields.{instruction_fields}
use Rattle.source.specs.Program.{Program, Stage, nothing, declarations, instructions, Label, Jump, Group, first, second, count_outside, orders_outside}
use Rattle.name_index.specs.Memory.{NamesHeld}
use Rattle.labels.specs.Memory.{labels_of, SoFar}
use Rattle.groups.specs.Memory.{GroupsHeld}
use Rattle.fields.specs.Memory.{field_jumps, unpacked, jump_in}
use Rattle.front_end_forms.specs.declared.Stage.{Stage as Reached}
use Rattle.front_end_forms.specs.declared.Stage.TheVariants.{Nothing, Declarations, Instructions}
use Rattle.front_end_forms.specs.declared.Progress.{Progress}

abbrev pub stage_of : Stage → Reached
stage_of nothing = Nothing
stage_of declarations = Declarations
stage_of instructions = Instructions

abbrev pub no_progress : Progress
no_progress = record { stage = Nothing; names = record { count = 0; letters = 0 }; labels = 0; fields = 0; instructions = 0; orders = 0; groups = 0 }

-- the fields before the innermost list that is not closed, and all of them
unfoldable pub outside_fields : List Group → List Field
outside_fields [] = []
outside_fields (first k x c ∷ gs) = outside_fields gs ++ (part_fields x ++ instruction_fields (if_start c))
outside_fields (second k x c y ∷ gs) =
    outside_fields gs ++ (part_fields x ++ (instruction_fields (if_start c) ++ (part_fields y ++ (Else ∷ []))))

abbrev pub program_fields : List Group → Part → List Field
program_fields gs x = outside_fields gs ++ part_fields x

-- the two arrays for names
pub record NameTable : Type 0 where
  pub letters : List ℕ
  pub index : List ℕ

abbrev pub table_of : List ℕ → List ℕ → NameTable
table_of letters index = record { letters = letters; index = index }

-- they hold the names of v variables, which have so many letters
pub record HoldsNames (ns : List (List ℕ)) (v filled : ℕ) (table : NameTable) : Type 0 where
  pub named : NamesHeld ns v filled table.letters table.index
  pub few_names : v ≤ most_variables

-- a table holds c labels, where n is the number of the next instruction
pub record HoldsLabels (ls : List Label) (c n : ℕ) (table : List ℕ) : Type 0 where
  pub labelled : labels_of n c table ≡ ls
  pub so_far : SoFar n c table
  pub few_labels : c ≤ most_labels
  pub room_for_labels : length table ≡ label_rows

-- an array holds open groups
pub record HoldsGroups (gs : List Group) (many : ℕ) (array : List ℕ) : Type 0 where
  pub grouped : GroupsHeld gs array
  pub opened : many ≡ length gs
  pub few_levels : many ≤ most_levels
  pub room_for_groups : length array ≡ most_levels

-- an array holds the fields of instructions, whose jumps carry their statements too
pub record HoldsFields (gs : List Group) (x : Part) (js : List Jump) (n many orders : ℕ) (array : List ℕ) : Type 0 where
  pub fielded : map unpacked (fields_from 0 n array) ≡ program_fields gs x
  pub jumped : map jump_in (field_jumps (fields_from 0 n array)) ≡ js
  pub counted : many ≡ count_outside gs + count x
  pub ordered : (v : ℕ) → orders ≡ orders_outside v gs + size v x
  pub few_orders : orders < most_orders
  pub room_for_fields : length array ≡ most_fields

-- numbers and arrays hold the program q
pub record Holds (q : Program) (p : Progress) (names : NameTable) (labels groups fields : List ℕ) : Type 0 where
  pub staged : p.stage ≡ stage_of q.stage
  pub its_names : HoldsNames q.names p.names.count p.names.letters names
  pub its_labels : HoldsLabels q.set p.labels (p.instructions + 1) labels
  pub its_groups : HoldsGroups q.groups p.groups groups
  pub its_fields : HoldsFields q.groups q.here q.jumps p.fields p.instructions p.orders fields

-- the sheet that the program is, in memory
pub record Held (p : Progress) (fields : List ℕ) (s : Sheet) : Type 0 where
  pub variables_too : p.names.count ≡ variables s
  pub instructions_too : p.instructions ≡ count (instructions_of s)
  pub fields_too : fields_from 0 p.fields fields ≡ sheet_fields s
