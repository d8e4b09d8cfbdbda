-- The text of a sheet, document 01 ("Sheet text, fields and lines as above"). Texts are lists of bytes: 9 is the tab, 10 the
-- newline. Comments in quotes are the words of document 01 and of 02, L1 and L5.
use Rattle.std.specs.Prelude.{ℕ, suc, List, [], ◌∷◌, ◌++◌}
use Prim.Native.String.{String}
use Rattle.base.specs.Choice.{pick}
use Rattle.base.specs.Text.{bytes}
use Rattle.word.specs.declared.Relation.{Relation}
use Rattle.word.specs.declared.Relation.TheVariants.{Equal, Unequal, Less, AtMost, Greater, AtLeast}
use Rattle.text.specs.Pieces.{decimal}
use Rattle.sheet.specs.declared.Operator.{Operator}
use Rattle.sheet.specs.declared.Operator.TheVariants.{Plus, Minus, Times, Over, Power, Left, Right, And, Or, Unlike}
use Rattle.sheet.specs.declared.Joining.{Joining}
use Rattle.sheet.specs.declared.Joining.TheVariants.{And as Both, Or as Either}
use Rattle.sheet.specs.declared.Field.{Field}
use Rattle.sheet.specs.declared.Field.TheVariants.{Else, Start, Finish, If, Send, Neg, Not, Binary, Compare, Word, Constant, Set, Goto, Run}
use Rattle.sheet.specs.Sheet.{Expression, word, constant, negated, inverted, binary, Simple, set, send, goto}
use Rattle.sheet.specs.Sheet.{Condition, compares, joins, Part, end, plain, when, either, count, Sheet, sheet}
use Rattle.sheet.specs.Condition.{same_word}

-- ---- the fields of its lines. "Expressions are in prefix order, a field a node"

unfoldable pub expression_fields : Expression → List Field
expression_fields (word w) = Word w ∷ []
expression_fields (constant n) = Constant n ∷ []
expression_fields (negated e) = Neg ∷ expression_fields e
expression_fields (inverted e) = Not ∷ expression_fields e
expression_fields (binary o l r) = Binary o ∷ expression_fields l ++ expression_fields r

-- "`SET` word expr, `SEND` expr, `GOTO` s"
abbrev pub simple_fields : Simple → List Field
simple_fields (set w e) = Set w ∷ expression_fields e
simple_fields (send e) = Send ∷ expression_fields e
simple_fields (goto s) = Goto s ∷ []

-- ---- "comparisons as rel expr expr", and "a run as the word, the number of its members and these": what is behind IF

-- the members of c as a run of the word w; one, where it is no such run
unfoldable pub member_count : Joining → Condition → ℕ
member_count w (compares r a b) = 1
member_count w (joins u a b) = pick (same_word w u) (suc (member_count w b)) 1

-- where a condition stands: it is the whole or a member; or it is the rest of a run of a word, behind the run's first member
pub data Place : Type 0 where
  member : Place
  rest_of : Joining → Place

-- a run's word and number stand before its first member
abbrev pub heading : Place → Joining → ℕ → List Field
heading member w n = Run w n ∷ []
heading (rest_of u) w n = pick (same_word u w) [] (Run w n ∷ [])

unfoldable pub condition_line : Place → Condition → List Field
condition_line p (compares r a b) = Compare r ∷ (expression_fields a ++ expression_fields b)
condition_line p (joins w a b) =
    heading p w (member_count w (joins w a b)) ++ (condition_line member a ++ condition_line (rest_of w) b)

-- ---- the text

-- `+ - * / ** << >> & ! !!`
abbrev pub operator_text : Operator → String
operator_text Plus = "+"
operator_text Minus = "-"
operator_text Times = "*"
operator_text Over = "/"
operator_text Power = "**"
operator_text Left = "<<"
operator_text Right = ">>"
operator_text And = "&"
operator_text Or = "!"
operator_text Unlike = "!!"

-- "rel is `= # < <= > >=`"
abbrev pub relation_text : Relation → String
relation_text Equal = "="
relation_text Unequal = "#"
relation_text Less = "<"
relation_text AtMost = "<="
relation_text Greater = ">"
relation_text AtLeast = ">="

abbrev pub joining_text : Joining → String
joining_text Both = "AND"
joining_text Either = "OR"

-- SET, GOTO, AND and OR stand here with the field behind them
abbrev pub field_text : Field → List ℕ
field_text Else = bytes "ELSE"
field_text Start = bytes "START"
field_text Finish = bytes "FINISH"
field_text If = bytes "IF"
field_text Send = bytes "SEND"
field_text Neg = bytes "NEG"
field_text Not = bytes "NOT"
field_text (Binary o) = bytes (operator_text o)
field_text (Compare r) = bytes (relation_text r)
field_text (Word w) = bytes "W" ++ decimal w
field_text (Constant n) = bytes "K" ++ decimal n
field_text (Set w) = bytes "SET\t" ++ decimal w
field_text (Goto s) = bytes "GOTO\t" ++ decimal s
field_text (Run w n) = bytes (joining_text w) ++ 9 ∷ decimal n

-- "fields parted by tabs, each line ended by newline": what is behind a line's first field
unfoldable pub line_rest : List Field → List ℕ
line_rest [] = 10 ∷ []
line_rest (f ∷ fs) = 9 ∷ field_text f ++ line_rest fs

unfoldable pub line : List Field → List ℕ
line [] = 10 ∷ []
line (f ∷ fs) = field_text f ++ line_rest fs

-- "then one line each". "In a sheet an IF line ends with its expressions; a line `START`, the first part, where there is a second a
-- line `ELSE` and that part, and a line `FINISH` follow"
unfoldable pub lines : Part → List ℕ
lines end = []
lines (plain u l) = line (simple_fields u) ++ lines l
lines (when c x l) = line (If ∷ condition_line member c) ++ (line (Start ∷ []) ++ (lines x ++ (line (Finish ∷ []) ++ lines l)))
lines (either c x y l) =
    line (If ∷ condition_line member c)
    ++ (line (Start ∷ []) ++ (lines x ++ (line (Else ∷ []) ++ (lines y ++ (line (Finish ∷ []) ++ lines l)))))

-- "`SHEET`, V, number of instructions"
abbrev pub sheet_text : Sheet → List ℕ
sheet_text (sheet v x) = bytes "SHEET\t" ++ decimal v ++ 9 ∷ decimal (count x) ++ 10 ∷ lines x
