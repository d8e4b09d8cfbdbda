-- From tokens to statements, document 01 ("Statements") and 02, L1 and L5. Comments in quotes are their words.
use Rattle.std.specs.Prelude.{ℕ, zero, suc, Bool, true, false, List, [], ◌∷◌, eqb, length}
use Rattle.base.specs.Choice.{pick}
use Rattle.word.specs.declared.Relation.{Relation}
use Rattle.word.specs.declared.Relation.TheVariants.{Equal, Unequal, Less, AtMost, Greater, AtLeast}
use Rattle.sheet.specs.declared.Operator.{Operator}
use Rattle.sheet.specs.declared.Operator.TheVariants.{Plus, Minus, Times, Over, Power, Left, Right, And, Or, Unlike}
use Rattle.sheet.specs.declared.Joining.{Joining}
use Rattle.sheet.specs.declared.Joining.TheVariants.{And as AndRun, Or as OrRun}
use Rattle.sheet.specs.Sheet.{Expression, word, constant, negated, inverted, binary, Simple, set, send, goto}
use Rattle.sheet.specs.Sheet.{Condition, compares}
use Rattle.sheet.specs.Merge.{join_of}
use Rattle.source.specs.declared.Token.{Token}
use Rattle.source.specs.declared.Token.TheVariants.{Name, Number, Quoted, Binary, Compare, Mark}
use Rattle.source.specs.Tokens.{mark_begin, mark_end, mark_integer, mark_if, mark_then, mark_else, mark_arrow, mark_open}
use Rattle.source.specs.Tokens.{mark_start, mark_finish, mark_and, mark_or, mark_close, mark_comma, mark_colon, mark_invert}

-- ---- reading at the front of tokens

-- what was read and the tokens behind it, or that nothing of the form stands there
pub data Read (A : Type 0) : Type 0 where
  read : A → List Token → Read A
  none : Read A

-- one thing, then what follows
unfoldable pub next : {A B : Type 0} → Read A → (A → List Token → Read B) → Read B
next (read a rest) f = f a rest
next none f = none

-- whether a mark stands at the front
abbrev pub is_mark : ℕ → Token → Bool
is_mark m (Name w) = false
is_mark m (Number n) = false
is_mark m (Quoted n) = false
is_mark m (Binary o) = false
is_mark m (Compare r) = false
is_mark m (Mark k) = eqb k m

unfoldable pub opens : ℕ → List Token → Bool
opens m [] = false
opens m (t ∷ ts) = is_mark m t

unfoldable pub behind_first : List Token → List Token
behind_first [] = []
behind_first (t ∷ ts) = ts

-- a mark, then what follows
abbrev pub past : {A : Type 0} → ℕ → List Token → (List Token → Read A) → Read A
past m ts f = pick (opens m ts) (f (behind_first ts)) none

-- ---- expressions

-- "Levels, highest first: `\`; `** << >>`; `* / &`; `+ - ! !!`."
abbrev pub level : Operator → ℕ
level Power = 3
level Left = 3
level Right = 3
level Times = 2
level Over = 2
level And = 2
level Plus = 1
level Minus = 1
level Or = 1
level Unlike = 1

-- an expression without its brackets is an operand and links of an operator and the operand behind it
pub data Link : Type 0 where
  link : Operator → Expression → Link

pub data Chain : Type 0 where
  chain : Expression → List Link → Chain

abbrev pub before : Expression → Operator → Chain → Chain
before e o (chain r ls) = chain e (link o r ∷ ls)

-- "Equal levels go left to right.": the chain in which the operators of one level have taken their operands
unfoldable pub joined : ℕ → Expression → List Link → Chain
joined n e [] = chain e []
joined n e (link o r ∷ ls) = pick (eqb (level o) n) (joined n (binary o e r) ls) (before e o (joined n r ls))

abbrev pub joined_chain : ℕ → Chain → Chain
joined_chain n (chain e ls) = joined n e ls

-- "An expression may begin with one `+`, `-` or `\`"
pub data Lead : Type 0 where
  bare : Lead
  minus : Lead
  invert : Lead

-- `\` has the highest level: the first operand alone
abbrev pub highest : Lead → Expression → Expression
highest bare e = e
highest minus e = e
highest invert e = inverted e

-- "A leading minus has the lowest level, that of binary `-`"
abbrev pub lowest : Lead → Chain → Chain
lowest bare c = c
lowest minus (chain e ls) = chain (negated e) ls
lowest invert c = c

abbrev pub first_operand : Chain → Expression
first_operand (chain e ls) = e

-- the expression that a chain is, the highest level first
abbrev pub tree : Lead → Expression → List Link → Expression
tree l e ls = first_operand (joined_chain 1 (lowest l (joined_chain 2 (joined 3 (highest l e) ls))))

-- what an expression begins with; "a leading plus left out"
pub data Start : Type 0 where
  start : Lead → List Token → Start

abbrev pub operator_start : Operator → List Token → List Token → Start
operator_start Plus all rest = start bare rest
operator_start Minus all rest = start minus rest
operator_start Times all rest = start bare all
operator_start Over all rest = start bare all
operator_start Power all rest = start bare all
operator_start Left all rest = start bare all
operator_start Right all rest = start bare all
operator_start And all rest = start bare all
operator_start Or all rest = start bare all
operator_start Unlike all rest = start bare all

unfoldable pub start_of : List Token → Start
start_of [] = start bare []
start_of (Name w ∷ ts) = start bare (Name w ∷ ts)
start_of (Number n ∷ ts) = start bare (Number n ∷ ts)
start_of (Quoted n ∷ ts) = start bare (Quoted n ∷ ts)
start_of (Binary o ∷ ts) = operator_start o (Binary o ∷ ts) ts
start_of (Compare r ∷ ts) = start bare (Compare r ∷ ts)
start_of (Mark m ∷ ts) = pick (eqb m mark_invert) (start invert ts) (start bare (Mark m ∷ ts))

-- an operand: a name, a constant, or an expression in brackets, which `inner` reads
unfoldable pub operand_by : (List Token → Read Expression) → List Token → Read Expression
operand_by inner [] = none
operand_by inner (Name w ∷ ts) = read (word w) ts
operand_by inner (Number n ∷ ts) = read (constant n) ts
operand_by inner (Quoted n ∷ ts) = read (constant n) ts
operand_by inner (Binary o ∷ ts) = none
operand_by inner (Compare r ∷ ts) = none
operand_by inner (Mark m ∷ ts) =
    pick (eqb m mark_open) (next (inner ts) (λ e rest. past mark_close rest (λ l. read e l))) none

-- the links behind an operand, at most k
unfoldable pub links_by : (List Token → Read Expression) → ℕ → List Token → Read (List Link)
links_by inner zero ts = none
links_by inner (suc k) [] = read [] []
links_by inner (suc k) (Name w ∷ ts) = read [] (Name w ∷ ts)
links_by inner (suc k) (Number n ∷ ts) = read [] (Number n ∷ ts)
links_by inner (suc k) (Quoted n ∷ ts) = read [] (Quoted n ∷ ts)
links_by inner (suc k) (Binary o ∷ ts) =
    next (operand_by inner ts) (λ e rest. next (links_by inner k rest) (λ ls l. read (link o e ∷ ls) l))
links_by inner (suc k) (Compare r ∷ ts) = read [] (Compare r ∷ ts)
links_by inner (suc k) (Mark m ∷ ts) = read [] (Mark m ∷ ts)

abbrev pub chain_by : (List Token → Read Expression) → ℕ → Start → Read Expression
chain_by inner k (start l ts) =
    next (operand_by inner ts) (λ e rest. next (links_by inner k rest) (λ ls others. read (tree l e ls) others))

-- an expression of at most k tokens
unfoldable pub expression_in : ℕ → List Token → Read Expression
expression_in zero ts = none
expression_in (suc k) ts = chain_by (expression_in k) (suc k) (start_of ts)

abbrev pub expression : List Token → Read Expression
expression ts = expression_in (length ts) ts

-- ---- instructions. "An instruction is `name = expr`, `SEND(expr)`, `->label`, or `%IF expr rel expr %THEN u` with an
-- optional `%ELSE u`, where u is one of the first three", or begins with "`%IF .. %THEN %START`".

-- SEND is looked up as word 1, which no variable has
abbrev pub send_word : ℕ
send_word = 1

abbrev pub is_equal : Relation → Bool
is_equal Equal = true
is_equal Unequal = false
is_equal Less = false
is_equal AtMost = false
is_equal Greater = false
is_equal AtLeast = false

-- behind a name
unfoldable pub named : ℕ → List Token → Read Simple
named w [] = none
named w (Name n ∷ ts) = none
named w (Number n ∷ ts) = none
named w (Quoted n ∷ ts) = none
named w (Binary o ∷ ts) = none
named w (Compare r ∷ ts) = pick (is_equal r) (next (expression ts) (λ e rest. read (set w e) rest)) none
named w (Mark m ∷ ts) =
    pick
    (pick (eqb m mark_open) (eqb w send_word) false)
    (next (expression ts) (λ e rest. past mark_close rest (λ l. read (send e) l)))
    none

-- behind `->`
unfoldable pub jump : List Token → Read Simple
jump [] = none
jump (Name w ∷ ts) = none
jump (Number l ∷ ts) = read (goto l) ts
jump (Quoted n ∷ ts) = none
jump (Binary o ∷ ts) = none
jump (Compare r ∷ ts) = none
jump (Mark m ∷ ts) = none

unfoldable pub simple_at : List Token → Read Simple
simple_at [] = none
simple_at (Name w ∷ ts) = named w ts
simple_at (Number n ∷ ts) = none
simple_at (Quoted n ∷ ts) = none
simple_at (Binary o ∷ ts) = none
simple_at (Compare r ∷ ts) = none
simple_at (Mark m ∷ ts) = pick (eqb m mark_arrow) (jump ts) none

-- "rel is `= # < <= > >=`"
unfoldable pub relation_at : List Token → Read Relation
relation_at [] = none
relation_at (Name w ∷ ts) = none
relation_at (Number n ∷ ts) = none
relation_at (Quoted n ∷ ts) = none
relation_at (Binary o ∷ ts) = none
relation_at (Compare r ∷ ts) = read r ts
relation_at (Mark m ∷ ts) = none

-- "expr rel expr"
abbrev pub comparison_at : List Token → Read Condition
comparison_at ts =
    next
    (expression ts)
    (λ a behind. next (relation_at behind) (λ r others. next (expression others) (λ b rest. read (compares r a b) rest)))

-- ---- conditions: "`%AND`, `%OR` and bracketed conditions"

-- whether a relation stands before the end of a bracket, of which this is inside; d brackets are open in it. At the end of the
-- bracket there is none
abbrev pub outwards : ℕ → (ℕ → Bool) → Bool
outwards zero test = false
outwards (suc d) test = test d

unfoldable pub holds_relation : ℕ → List Token → Bool
holds_relation d [] = false
holds_relation d (Name w ∷ ts) = holds_relation d ts
holds_relation d (Number n ∷ ts) = holds_relation d ts
holds_relation d (Quoted n ∷ ts) = holds_relation d ts
holds_relation d (Binary o ∷ ts) = holds_relation d ts
holds_relation d (Compare r ∷ ts) = true
holds_relation d (Mark m ∷ ts) =
    pick
    (eqb m mark_open)
    (holds_relation (suc d) ts)
    (pick (eqb m mark_close) (outwards d (λ e. holds_relation e ts)) (holds_relation d ts))

-- no expression holds a relation, and every condition does: so a bracket at the front is a condition's where it holds one
unfoldable pub opens_condition : List Token → Bool
opens_condition ts = pick (opens mark_open ts) (holds_relation 0 (behind_first ts)) false

-- a member: a comparison, or a condition in brackets, which `inner` reads
unfoldable pub member_by : (List Token → Read Condition) → List Token → Read Condition
member_by inner ts =
    pick
    (opens_condition ts)
    (next (inner (behind_first ts)) (λ c rest. past mark_close rest (λ l. read c l)))
    (comparison_at ts)

abbrev pub mark_of : Joining → ℕ
mark_of AndRun = mark_and
mark_of OrRun = mark_or

-- the members behind those of c that the word w joins to them, at most k
unfoldable pub run_by : (List Token → Read Condition) → Joining → ℕ → Condition → List Token → Read Condition
run_by inner w zero c ts = none
run_by inner w (suc k) c ts =
    pick
    (opens (mark_of w) ts)
    (next (member_by inner (behind_first ts)) (λ b rest. run_by inner w k (join_of w c b) rest))
    (read c ts)

-- behind the first member: the first word joins all. "Mixing the two without brackets is refusal 7": another word is left over
abbrev pub joined_by : (List Token → Read Condition) → ℕ → Condition → List Token → Read Condition
joined_by inner k c ts = pick (opens mark_and ts) (run_by inner AndRun k c ts) (run_by inner OrRun k c ts)

-- a condition of at most k tokens
unfoldable pub condition_in : ℕ → List Token → Read Condition
condition_in zero ts = none
condition_in (suc k) ts = next (member_by (condition_in k) ts) (λ c rest. joined_by (condition_in k) (suc k) c rest)

abbrev pub condition_at : List Token → Read Condition
condition_at ts = condition_in (length ts) ts

-- ---- instructions

-- what a statement that is an instruction says: u alone; `%IF c %THEN u`; the same with `%ELSE u`; or `%IF c %THEN %START`
pub data Instruction : Type 0 where
  simple : Simple → Instruction
  if_then : Condition → Simple → Instruction
  if_else : Condition → Simple → Simple → Instruction
  if_start : Condition → Instruction

-- behind the first u of an IF
abbrev pub chosen : Condition → Simple → List Token → Read Instruction
chosen c u ts =
    pick
    (opens mark_else ts)
    (next (simple_at (behind_first ts)) (λ w rest. read (if_else c u w) rest))
    (read (if_then c u) ts)

-- behind %THEN
abbrev pub consequent : Condition → List Token → Read Instruction
consequent c ts =
    pick
    (opens mark_start ts)
    (read (if_start c) (behind_first ts))
    (next (simple_at ts) (λ u rest. chosen c u rest))

-- behind %IF
abbrev pub conditional : List Token → Read Instruction
conditional ts = next (condition_at ts) (λ c rest. past mark_then rest (λ l. consequent c l))

abbrev pub instruction_at : List Token → Read Instruction
instruction_at ts =
    pick (opens mark_if ts) (conditional (behind_first ts)) (next (simple_at ts) (λ u rest. read (simple u) rest))

-- ---- statements

-- what a statement is; labels and jumps are those of the source. `finish_else` is `%FINISH %ELSE %START`
pub data Form : Type 0 where
  beginning : Form
  declaration : Form
  ending : Form
  labels : List ℕ → Form
  instruction : List ℕ → Instruction → Form
  finish : Form
  finish_else : Form
  no_form : Form

-- "Any number of `label:` may stand before an instruction or alone": the labels, and the tokens behind them
pub data Labelled : Type 0 where
  labelled : List ℕ → List Token → Labelled

abbrev pub further : ℕ → Labelled → Labelled
further l (labelled ls ts) = labelled (l ∷ ls) ts

unfoldable pub labels_at : List Token → Labelled
labels_at [] = labelled [] []
labels_at (Name w ∷ ts) = labelled [] (Name w ∷ ts)
labels_at (Number l ∷ []) = labelled [] (Number l ∷ [])
labels_at (Number l ∷ t ∷ ts) = pick (is_mark mark_colon t) (further l (labels_at ts)) (labelled [] (Number l ∷ t ∷ ts))
labels_at (Quoted n ∷ ts) = labelled [] (Quoted n ∷ ts)
labels_at (Binary o ∷ ts) = labelled [] (Binary o ∷ ts)
labels_at (Compare r ∷ ts) = labelled [] (Compare r ∷ ts)
labels_at (Mark m ∷ ts) = labelled [] (Mark m ∷ ts)

-- the statement is nothing more
abbrev pub entire : List ℕ → Read Instruction → Form
entire ls none = no_form
entire ls (read i []) = instruction ls i
entire ls (read i (t ∷ ts)) = no_form

unfoldable pub labelled_form : Labelled → Form
labelled_form (labelled ls []) = labels ls
labelled_form (labelled ls (t ∷ ts)) = entire ls (instruction_at (t ∷ ts))

abbrev pub is_name : Token → Bool
is_name (Name w) = true
is_name (Number n) = false
is_name (Quoted n) = false
is_name (Binary o) = false
is_name (Compare r) = false
is_name (Mark m) = false

-- a list of names parted by commas
unfoldable pub is_name_list : List Token → Bool
is_name_list [] = false
is_name_list (t ∷ []) = is_name t
is_name_list (t ∷ u ∷ ts) = pick (is_name t) (pick (is_mark mark_comma u) (is_name_list ts) false) false

-- nothing stands behind it
abbrev pub only : Form → List Token → Form
only f [] = f
only f (t ∷ ts) = no_form

-- behind %FINISH
unfoldable pub finishing : List Token → Form
finishing ts =
    pick
    (opens mark_else ts)
    (pick (opens mark_start (behind_first ts)) (only finish_else (behind_first (behind_first ts))) no_form)
    (only finish ts)

unfoldable pub form : List Token → Form
form ts =
    pick
    (opens mark_begin ts)
    (only beginning (behind_first ts))
    (pick
    (opens mark_end ts)
    (only ending (behind_first ts))
    (pick
    (opens mark_integer ts)
    (pick (is_name_list (behind_first ts)) declaration no_form)
    (pick (opens mark_finish ts) (finishing (behind_first ts)) (labelled_form (labels_at ts)))))
