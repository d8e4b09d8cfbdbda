-- The fields of a sheet in memory, where each is one number. No text has these numbers.
use Rattle.std.specs.Prelude.{ℕ, zero, suc, ◌+◌, ◌*◌, ◌/◌, ◌%◌, List, [], ◌∷◌, ◌++◌, map, get_or, drop}
use Rattle.word.specs.declared.Relation.{Relation}
use Rattle.word.specs.declared.Relation.TheVariants.{Equal, Unequal, Less, AtMost, Greater, AtLeast}
use Rattle.order.specs.Limits.{most_orders}
use Rattle.sheet.specs.declared.Operator.{Operator}
use Rattle.sheet.specs.declared.Operator.TheVariants.{Plus, Minus, Times, Over, Power, Left, Right, And, Or, Unlike}
use Rattle.sheet.specs.declared.Joining.{Joining}
use Rattle.sheet.specs.declared.Joining.TheVariants.{And as Both, Or as Either}
use Rattle.sheet.specs.declared.Field.{Field}
use Rattle.sheet.specs.declared.Field.TheVariants.{Else, Start, Finish, If, Send, Neg, Not, Binary, Compare, Word, Constant, Set, Goto, Run}

abbrev pub operator_number : Operator → ℕ
operator_number Plus = 0
operator_number Minus = 1
operator_number Times = 2
operator_number Over = 3
operator_number Power = 4
operator_number Left = 5
operator_number Right = 6
operator_number And = 7
operator_number Or = 8
operator_number Unlike = 9

abbrev pub relation_number : Relation → ℕ
relation_number Equal = 0
relation_number Unequal = 1
relation_number Less = 2
relation_number AtMost = 3
relation_number Greater = 4
relation_number AtLeast = 5

abbrev pub joining_number : Joining → ℕ
joining_number Both = 0
joining_number Either = 1

abbrev pub kind : Field → ℕ
kind Else = 0
kind Start = 1
kind Finish = 2
kind If = 3
kind Send = 4
kind Neg = 5
kind Not = 6
kind (Binary o) = 7 + operator_number o
kind (Compare r) = 17 + relation_number r
kind (Word w) = 23
kind (Constant n) = 24
kind (Set w) = 25
kind (Goto s) = 26
kind (Run w n) = 27 + joining_number w

abbrev pub carried : Field → ℕ
carried Else = 0
carried Start = 0
carried Finish = 0
carried If = 0
carried Send = 0
carried Neg = 0
carried Not = 0
carried (Binary o) = 0
carried (Compare r) = 0
carried (Word w) = w
carried (Constant n) = n
carried (Set w) = w
carried (Goto s) = s
carried (Run w n) = n

-- the fields that have these numbers
abbrev pub operators : List Operator
operators = Plus ∷ Minus ∷ Times ∷ Over ∷ Power ∷ Left ∷ Right ∷ And ∷ Or ∷ Unlike ∷ []

abbrev pub relations : List Relation
relations = Equal ∷ Unequal ∷ Less ∷ AtMost ∷ Greater ∷ AtLeast ∷ []

-- those that carry nothing, and those that carry a number
abbrev pub bare_fields : List Field
bare_fields = Else ∷ Start ∷ Finish ∷ If ∷ Send ∷ Neg ∷ Not ∷ []

abbrev pub numbered_fields : List (ℕ → Field)
numbered_fields = Word ∷ Constant ∷ Set ∷ Goto ∷ Run Both ∷ Run Either ∷ []

unfoldable pub shapes : List (ℕ → Field)
shapes =
    map (λ f v. f) bare_fields ++ map (λ o v. Binary o) operators ++ map (λ r v. Compare r) relations ++ numbered_fields

unfoldable pub field_of : ℕ → ℕ → Field
field_of k v = get_or shapes k (λ v. Else) v

-- a field as one number: that of its kind, times 2^32, and what it carries
abbrev pub field_word : Field → ℕ
field_word f = kind f * 4294967296 + carried f

abbrev pub field_in : ℕ → Field
field_in w = field_of (w / 4294967296) (w % 4294967296)

-- the fields that an array holds from a place on
abbrev pub fields_at : ℕ → List ℕ → List Field
fields_at at ws = map field_in (drop at ws)

-- the n fields from place k on that an array holds; ELSE where it has ended
unfoldable pub fields_from : ℕ → ℕ → List ℕ → List Field
fields_from k zero ws = []
fields_from k (suc n) ws = field_in (get_or ws k 0) ∷ fields_from (suc k) n ws

-- the most fields that are looked at: no order of a translation stands for more than two, so a sheet within the limits has
-- fewer
abbrev pub most_fields : ℕ
most_fields = 2 * most_orders
