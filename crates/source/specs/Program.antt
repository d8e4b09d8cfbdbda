-- From statements to a sheet, document 01 ("Statements", "What the box replies") and 02, L1 and L5: the order of parts,
-- names, labels, groups and limits. Comments in quotes are their words.
use Rattle.std.specs.Prelude.{ℕ, suc, ◌+◌, max, Bool, true, false, List, [], ◌∷◌, ◌++◌, map, ltb, leb, eqb, length}
use Rattle.base.specs.Choice.{pick}
use Rattle.base.specs.Text.{bytes}
use Rattle.order.specs.Limits.{most_variables, most_temporaries, most_orders}
use Rattle.sheet.specs.Sheet.{Expression, word, constant, negated, inverted, binary, Simple, set, send, goto}
use Rattle.sheet.specs.Sheet.{Condition, compares, joins, Part, end, plain, when, either, count, Sheet, sheet, retarget_part}
use Rattle.sheet.specs.Orders.{simple_temporaries}
use Rattle.sheet.specs.Condition.{comparisons, most_comparisons, asking, condition_temporaries}
use Rattle.sheet.specs.Translation.{size}
use Rattle.sheet.specs.Within.{most_levels}
use Rattle.source.specs.declared.Token.{Token}
use Rattle.source.specs.declared.Token.TheVariants.{Name}
use Rattle.source.specs.Limits.{greatest_label, most_labels}
use Rattle.source.specs.Tokens.{Lexeme, name, token, Lexed, lexed, refused as wrong, lexemes}
use Rattle.source.specs.Grammar.{Instruction, simple, if_then, if_else, if_start, send_word}
use Rattle.source.specs.Grammar.{Form, beginning, declaration, ending, labels, instruction, finish, finish_else, no_form, form}

-- ---- what was read so far

-- "`%BEGIN` first; then any number of `%INTEGER` name lists; then any number of instructions"
pub data Stage : Type 0 where
  nothing : Stage
  declarations : Stage
  instructions : Stage

-- where a label stands: before the instruction with a number from 1; before the instruction that comes next in the innermost open
-- group, "or the instruction after the whole IF, and so on outwards, or the end"; or, behind the last instruction of a first part,
-- before the instruction that comes after the whole IF round which so many groups are open
pub data Spot : Type 0 where
  before : ℕ → Spot
  next : Spot
  behind : ℕ → Spot

pub data Label : Type 0 where
  label : ℕ → Spot → Label

-- a jump: the number of its statement, and the label that it names
pub data Jump : Type 0 where
  jump : ℕ → ℕ → Jump

-- an open group: the number of the statement with its %START, the instructions before its IF in the list that holds it, what the
-- IF asks; and, where the group is a second part, the first
pub data Group : Type 0 where
  first : ℕ → Part → Condition → Group
  second : ℕ → Part → Condition → Part → Group

-- the open groups, the innermost first, and the instructions of the innermost list that is not closed
pub record Program : Type 0 where
  pub stage : Stage
  pub names : List (List ℕ)
  pub set : List Label
  pub jumps : List Jump
  pub groups : List Group
  pub here : Part

abbrev pub nothing_read : Program
nothing_read = record { stage = nothing; names = []; set = []; jumps = []; groups = []; here = end }

-- one list behind another
unfoldable pub append : Part → Part → Part
append end y = y
append (plain u l) y = plain u (append l y)
append (when c x l) y = when c x (append l y)
append (either c w x l) y = either c w x (append l y)

-- how many instructions there are outside the innermost list
unfoldable pub count_outside : List Group → ℕ
count_outside [] = 0
count_outside (first k x c ∷ gs) = count x + 1 + count_outside gs
count_outside (second k x c y ∷ gs) = count x + 1 + count y + count_outside gs

-- the number of the next instruction
abbrev pub next_number : Program → ℕ
next_number p = suc (count_outside p.groups + count p.here)

-- how many orders: an open IF's own, and "the jump over an ELSE"
unfoldable pub orders_outside : ℕ → List Group → ℕ
orders_outside v [] = 0
orders_outside v (first k x c ∷ gs) = size v x + asking v c + orders_outside v gs
orders_outside v (second k x c y ∷ gs) = size v x + asking v c + size v y + 1 + orders_outside v gs

abbrev pub orders_so_far : Program → ℕ
orders_so_far p = orders_outside (length p.names) p.groups + size (length p.names) p.here

-- what comes of a statement: document 01's number and place of a refusal, the program read so far, or its sheet
pub data Outcome : Type 0 where
  refused : ℕ → ℕ → Outcome
  further : Program → Outcome
  given : Sheet → Outcome

-- ---- names. "A name is .. compared whole."

unfoldable pub same_name : List ℕ → List ℕ → Bool
same_name [] [] = true
same_name [] (d ∷ ds) = false
same_name (c ∷ cs) [] = false
same_name (c ∷ cs) (d ∷ ds) = pick (eqb c d) (same_name cs ds) false

-- the word of a name, where the first of the names has word w; 0 where it is unknown
unfoldable pub word_from : ℕ → List (List ℕ) → List ℕ → ℕ
word_from w [] n = 0
word_from w (m ∷ ms) n = pick (same_name m n) w (word_from (suc w) ms n)

-- "SEND cannot be declared or used as a variable."
abbrev pub word_of : List (List ℕ) → List ℕ → ℕ
word_of ms n = pick (same_name (bytes "SEND") n) send_word (word_from 2 ms n)

abbrev pub looked_up : List (List ℕ) → Lexeme → Token
looked_up ms (name n) = Name (word_of ms n)
looked_up ms (token t) = t

-- "name unknown .. or SEND misused": words 0 and 1 are no variable's
abbrev pub is_known : ℕ → Bool
is_known w = leb 2 w

-- whether every name of an expression is a variable's
unfoldable pub all_known : Expression → Bool
all_known (word w) = is_known w
all_known (constant n) = true
all_known (negated e) = all_known e
all_known (inverted e) = all_known e
all_known (binary o l r) = pick (all_known l) (all_known r) false

abbrev pub known_simple : Simple → Bool
known_simple (set w e) = pick (is_known w) (all_known e) false
known_simple (send e) = all_known e
known_simple (goto l) = true

unfoldable pub known_condition : Condition → Bool
known_condition (compares r a b) = pick (all_known a) (all_known b) false
known_condition (joins w a b) = pick (known_condition a) (known_condition b) false

-- whether every name of an instruction is a variable's
abbrev pub known : Instruction → Bool
known (simple u) = known_simple u
known (if_then c u) = pick (known_condition c) (known_simple u) false
known (if_else c u w) = pick (known_condition c) (pick (known_simple u) (known_simple w) false) false
known (if_start c) = known_condition c

-- ---- declarations

-- the names of a statement
unfoldable pub names_in : List Lexeme → List (List ℕ)
names_in [] = []
names_in (name n ∷ xs) = n ∷ names_in xs
names_in (token t ∷ xs) = names_in xs

-- "declared twice, or SEND misused": whether names can be declared behind others
unfoldable pub can_declare : List (List ℕ) → List (List ℕ) → Bool
can_declare ms [] = true
can_declare ms (n ∷ ns) = pick (eqb (word_of ms n) 0) (can_declare (ms ++ n ∷ []) ns) false

abbrev pub declaring : Program → List (List ℕ) → Program
declaring p ns =
    record {
      stage = declarations;
      names = p.names ++ ns;
      set = p.set;
      jumps = p.jumps;
      groups = p.groups;
      here = p.here;
    }

-- "over .. variables"
abbrev pub declare : Program → ℕ → List (List ℕ) → Outcome
declare p k ns =
    pick
    (can_declare p.names ns)
    (pick (ltb most_variables (length (p.names ++ ns))) (refused 11 k) (further (declaring p ns)))
    (refused 8 k)

-- ---- labels

abbrev pub is_label : ℕ → Bool
is_label l = pick (eqb l 0) false (leb l greatest_label)

unfoldable pub is_set : List Label → ℕ → Bool
is_set [] l = false
is_set (label m s ∷ ls) l = pick (eqb m l) true (is_set ls l)

abbrev pub labels_set : List ℕ → List Label
labels_set ls = map (λ l. label l next) ls

-- "label 0 or over 9999, set twice": whether labels can be set behind others
unfoldable pub can_set : List Label → List ℕ → Bool
can_set ms [] = true
can_set ms (l ∷ ls) = pick (is_label l) (pick (is_set ms l) false (can_set (ms ++ label l next ∷ []) ls)) false

-- each label moved as `f` moves its spot
unfoldable pub moved : (Spot → Spot) → List Label → List Label
moved f [] = []
moved f (label l s ∷ ls) = label l (f s) ∷ moved f ls

-- the instruction with the number n comes
abbrev pub arrived : ℕ → Spot → Spot
arrived n (before s) = before s
arrived n next = before n
arrived n (behind g) = behind g

-- a first part ends, round whose IF g groups are open
abbrev pub put_off : ℕ → Spot → Spot
put_off g (before s) = before s
put_off g next = behind g
put_off g (behind h) = behind h

-- an IF ends, round which g groups are open
abbrev pub taken_up : ℕ → Spot → Spot
taken_up g (before s) = before s
taken_up g next = next
taken_up g (behind h) = pick (eqb h g) next (behind h)

abbrev pub simple_jumps : Simple → List ℕ
simple_jumps (set w e) = []
simple_jumps (send e) = []
simple_jumps (goto l) = l ∷ []

-- the labels that the jumps of an instruction name
unfoldable pub jumps_in : Instruction → List ℕ
jumps_in (simple u) = simple_jumps u
jumps_in (if_then c u) = simple_jumps u
jumps_in (if_else c u w) = simple_jumps u ++ simple_jumps w
jumps_in (if_start c) = []

unfoldable pub all : (ℕ → Bool) → List ℕ → Bool
all test [] = true
all test (l ∷ ls) = pick (test l) (all test ls) false

-- ---- instructions

-- the labels of a statement
abbrev pub setting : Program → List ℕ → Program
setting p ls =
    record {
      stage = instructions;
      names = p.names;
      set = p.set ++ labels_set ls;
      jumps = p.jumps;
      groups = p.groups;
      here = p.here;
    }

-- the open groups and the innermost list, with an instruction of statement k more. "In a sheet .. a lone u as a group of one"
pub data Places : Type 0 where
  places : List Group → Part → Places

abbrev pub alone : Simple → Part
alone u = plain u end

abbrev pub placed : ℕ → List Group → Part → Instruction → Places
placed k gs x (simple u) = places gs (append x (alone u))
placed k gs x (if_then c u) = places gs (append x (when c (alone u) end))
placed k gs x (if_else c u w) = places gs (append x (either c (alone u) (alone w) end))
placed k gs x (if_start c) = places (first k x c ∷ gs) end

abbrev pub groups_of : Places → List Group
groups_of (places gs x) = gs

abbrev pub list_of : Places → Part
list_of (places gs x) = x

-- instruction i of statement k behind what was read
abbrev pub placing : ℕ → Instruction → Program → Program
placing k i p =
    record {
      stage = instructions;
      names = p.names;
      set = moved (arrived (next_number p)) p.set;
      jumps = p.jumps ++ map (jump k) (jumps_in i);
      groups = groups_of (placed k p.groups p.here i);
      here = list_of (placed k p.groups p.here i);
    }

-- the level of an IF, or 0 of another instruction: "nested up to 16 deep", where "a lone u counts as a level"
abbrev pub level : List Group → Instruction → ℕ
level gs (simple u) = 0
level gs (if_then c u) = suc (length gs)
level gs (if_else c u w) = suc (length gs)
level gs (if_start c) = suc (length gs)

-- the temporaries of an instruction
abbrev pub temporaries_in : Instruction → ℕ
temporaries_in (simple u) = simple_temporaries u
temporaries_in (if_then c u) = max (condition_temporaries c) (simple_temporaries u)
temporaries_in (if_else c u w) = max (condition_temporaries c) (max (simple_temporaries u) (simple_temporaries w))
temporaries_in (if_start c) = condition_temporaries c

-- the comparisons of an instruction
abbrev pub comparisons_in : Instruction → ℕ
comparisons_in (simple u) = 0
comparisons_in (if_then c u) = comparisons c
comparisons_in (if_else c u w) = comparisons c
comparisons_in (if_start c) = comparisons c

-- "over .. set labels"
abbrev pub with_few_labels : ℕ → Program → Outcome → Outcome
with_few_labels k p o = pick (ltb most_labels (length p.set)) (refused 11 k) o

-- "Orders are over at the first statement where those so far and STOP pass" the limit
abbrev pub orders_with_stop : Program → ℕ
orders_with_stop p = orders_so_far p + 1

abbrev pub with_few_orders : ℕ → Program → Outcome
with_few_orders k p = pick (ltb most_orders (orders_with_stop p)) (refused 11 k) (further p)

abbrev pub with_few_temporaries : ℕ → Instruction → Outcome → Outcome
with_few_temporaries k i o = pick (ltb most_temporaries (temporaries_in i)) (refused 11 k) o

-- "up to 16 comparisons .. over 16 is 11"
abbrev pub with_few_comparisons : ℕ → Instruction → Outcome → Outcome
with_few_comparisons k i o = pick (ltb most_comparisons (comparisons_in i)) (refused 11 k) o

abbrev pub with_few_levels : ℕ → List Group → Instruction → Outcome → Outcome
with_few_levels k gs i o = pick (ltb most_levels (level gs i)) (refused 11 k) o

abbrev pub with_labels : Program → ℕ → List ℕ → Outcome → Outcome
with_labels p k ls o = pick (can_set p.set ls) o (refused 9 k)

abbrev pub labelling : Program → ℕ → List ℕ → Outcome
labelling p k ls = with_labels p k ls (with_few_labels k (setting p ls) (further (setting p ls)))

abbrev pub instructing : Program → ℕ → List ℕ → Instruction → Outcome
instructing p k ls i =
    pick
    (known i)
    (pick
    (all is_label (jumps_in i))
    (with_labels
    p
    k
    ls
    (with_few_labels
    k
    (setting p ls)
    (with_few_temporaries
    k
    i
    (with_few_comparisons k i (with_few_levels k p.groups i (with_few_orders k (placing k i (setting p ls))))))))
    (refused 9 k))
    (refused 8 k)

-- ---- groups closed

-- what was read, with other groups and another innermost list, its labels moved as `f` moves them
abbrev pub regrouped : Program → (Spot → Spot) → List Group → Part → Program
regrouped p f gs x =
    record { stage = p.stage; names = p.names; set = moved f p.set; jumps = p.jumps; groups = gs; here = x }

-- "A group with no instruction, labels or none, is refusal 7."
abbrev pub with_some : ℕ → Part → Outcome → Outcome
with_some k x o = pick (eqb (count x) 0) (refused 7 k) o

-- `%FINISH`; without a group it "is refusal 13"
abbrev pub finishing : Program → ℕ → List Group → Outcome
finishing p k [] = refused 13 k
finishing p k (first j x c ∷ gs) =
    with_some k p.here (further (regrouped p (taken_up (length gs)) gs (append x (when c p.here end))))
finishing p k (second j x c y ∷ gs) =
    with_some k p.here (further (regrouped p (taken_up (length gs)) gs (append x (either c y p.here end))))

-- `%FINISH %ELSE %START`; behind a second part it is another "mixture"
abbrev pub alternating : Program → ℕ → List Group → Outcome
alternating p k [] = refused 13 k
alternating p k (first j x c ∷ gs) =
    with_some
    k
    p.here
    (with_few_orders k (regrouped p (put_off (length gs)) (second k x c p.here ∷ gs) end))
alternating p k (second j x c y ∷ gs) = refused 7 k

-- ---- the end. "A label never set is found at `%ENDOFPROGRAM`"; the place is the "first such jump"

pub data Unset : Type 0 where
  unset : ℕ → Unset
  all_set : Unset

unfoldable pub first_unset : List Label → List Jump → Unset
first_unset ls [] = all_set
first_unset ls (jump k l ∷ js) = pick (is_set ls l) (first_unset ls js) (unset k)

-- the number of an instruction, or one past the last, which is n
abbrev pub number_at : ℕ → Spot → ℕ
number_at n (before s) = s
number_at n next = n
number_at n (behind g) = n

-- "a label as the number of the instruction after it or one past the last"; 0 where it is not set
unfoldable pub number_of : ℕ → List Label → ℕ → ℕ
number_of n [] l = 0
number_of n (label m s ∷ ls) l = pick (eqb m l) (number_at n s) (number_of n ls l)

abbrev pub sheet_of : Program → Sheet
sheet_of p = sheet (length p.names) (retarget_part (number_of (next_number p) p.set) p.here)

abbrev pub finished : Program → Unset → Outcome
finished p (unset k) = refused 9 k
finished p all_set = given (sheet_of p)

abbrev pub statement_of : Group → ℕ
statement_of (first k x c) = k
statement_of (second k x c y) = k

-- "A group left open at `%ENDOFPROGRAM` .. is refusal 13 (open: place of the first such `%START`, found before 9"
unfoldable pub closed : List Group → Outcome → Outcome
closed [] o = o
closed (g ∷ []) o = refused 13 (statement_of g)
closed (g ∷ h ∷ gs) o = closed (h ∷ gs) o

abbrev pub concluding : Program → Outcome
concluding p = closed p.groups (finished p (first_unset p.set p.jumps))

-- ---- a statement, number k from 1, in its part of the program

abbrev pub opened : Program → Program
opened p =
    record {
      stage = declarations;
      names = p.names;
      set = p.set;
      jumps = p.jumps;
      groups = p.groups;
      here = p.here;
    }

abbrev pub in_order : Program → Stage → ℕ → List Lexeme → Form → Outcome
in_order p nothing k xs beginning = further (opened p)
in_order p nothing k xs declaration = refused 7 k
in_order p nothing k xs ending = refused 7 k
in_order p nothing k xs (labels ls) = refused 7 k
in_order p nothing k xs (instruction ls i) = refused 7 k
in_order p nothing k xs finish = refused 7 k
in_order p nothing k xs finish_else = refused 7 k
in_order p nothing k xs no_form = refused 7 k
in_order p declarations k xs beginning = refused 7 k
in_order p declarations k xs declaration = declare p k (names_in xs)
in_order p declarations k xs ending = concluding p
in_order p declarations k xs (labels ls) = labelling p k ls
in_order p declarations k xs (instruction ls i) = instructing p k ls i
in_order p declarations k xs finish = finishing p k p.groups
in_order p declarations k xs finish_else = alternating p k p.groups
in_order p declarations k xs no_form = refused 7 k
in_order p instructions k xs beginning = refused 7 k
in_order p instructions k xs declaration = refused 7 k
in_order p instructions k xs ending = concluding p
in_order p instructions k xs (labels ls) = labelling p k ls
in_order p instructions k xs (instruction ls i) = instructing p k ls i
in_order p instructions k xs finish = finishing p k p.groups
in_order p instructions k xs finish_else = alternating p k p.groups
in_order p instructions k xs no_form = refused 7 k

abbrev pub on_lexed : Program → ℕ → Lexed → Outcome
on_lexed p k (wrong n) = refused n k
on_lexed p k (lexed xs) = in_order p p.stage k xs (form (map (looked_up p.names) xs))

-- "then the first of 5 and 6 from the left; then 7, 8, 9, 11"
unfoldable pub statement : Program → ℕ → List ℕ → Outcome
statement p k cells = on_lexed p k (lexemes cells)
