-- How long the texts of a sheet within the limits are at most.
use Prim.Native.Nat.{ℕ, zero, suc, ◌+◌, ◌*◌, ◌/◌, ◌%◌, ◌≤◌}
use mathlib.Core.Path.{◌≡◌}
use mathlib.Core.List.{List, [], ◌∷◌, ◌++◌}
use native.Mathlib.Omega.{arith}
use lib.Dec.{ltb}
use lib.ListN.{length, length-append}
use Rattle.base.specs.Choice.{pick}
use Rattle.base.specs.Text.{bytes}
use Rattle.base.proofs.Cases.{either_part}
use Rattle.word.specs.declared.Relation.{Relation}
use Rattle.word.specs.declared.Relation.TheVariants.{Equal, Unequal, Less, AtMost, Greater, AtLeast}
use Rattle.text.specs.Pieces.{digits_of, decimal}
use Rattle.order.specs.declared.Operation.{Operation}
use Rattle.order.specs.declared.Operation.TheVariants.{Load, Add, Sub, Mlt, Div, Exp, Shl, Shr, And, Or, Xor, Cmp}
use Rattle.order.specs.declared.Order.{Order}
use Rattle.order.specs.declared.Order.TheVariants.{Word, Number, Store, Neg, Not, Jump, Skip, Branch, Cond, Send, Stop}
use Rattle.order.specs.Order.{operation_name, branch_name, name, kind, operand}
use Rattle.order.specs.Object.{record_text, records_text, header_text, text}
use Rattle.sheet.specs.declared.Operator.{Operator}
use Rattle.sheet.specs.declared.Operator.TheVariants.{Plus, Minus, Times, Over, Power, Left, Right, And as Both, Or as Either, Unlike}
use Rattle.sheet.specs.declared.Joining.{Joining}
use Rattle.sheet.specs.declared.Joining.TheVariants.{And as AndRun, Or as OrRun}
use Rattle.sheet.specs.declared.Field.{Field}
use Rattle.sheet.specs.declared.Field.TheVariants.{Else, Start, Finish, If, Send as FieldSend, Neg as FieldNeg, Not as FieldNot, Binary, Compare, Word as FieldWord, Constant, Set, Goto, Run}
use Rattle.sheet.specs.Sheet.{Simple, set, send, goto, Condition, compares, joins, Part, end, plain, when, either, count, Sheet, sheet, variables}
use Rattle.sheet.specs.Within.{Within}
use Rattle.sheet.specs.Fields.{simple_fields, member_count, Place, member, rest_of, heading, condition_line}
use Rattle.sheet.specs.Fields.{operator_text, relation_text, field_text, line_rest, line, lines, sheet_text}
use Rattle.sheet.specs.Memory.{condition_fields, part_fields}
use Rattle.sheet.specs.Translation.{translation, sheet_temporaries, object_text}
use Rattle.sheet.proofs.Lengths.{translation_length, part_few}
use Rattle.skimp.specs.Promises.{most_object_bytes, most_sheet_bytes}

-- ---- numbers

digits_few : (k n : ℕ) → length (digits_of k n) ≤ k
unfolding digits_of
digits_few zero n = omega arith
digits_few (suc k) n =
    let more = digits_few k (n / 10) in
    either_part (λ l. length l ≤ suc k) (ltb n 10) ((n + 48) ∷ []) (digits_of k (n / 10) ++ ((n % 10 + 48) ∷ []))
    (λ y. omega arith)
    (λ no. omega (arith, more, length-append (digits_of k (n / 10)) ((n % 10 + 48) ∷ [])))

decimal_few : (n : ℕ) → length (decimal n) ≤ 10
decimal_few n = digits_few 10 n

-- two texts, one behind the other
both_few : {A : Type 0} (l m : List A) (a b : ℕ) → length l ≤ a → length m ≤ b → length (l ++ m) ≤ a + b
both_few l m a b h g = rw (length-append l m) (omega (arith, h, g))

-- ---- the object

operation_few : (f : Operation) → length (bytes (operation_name f)) ≤ 4
unfolding bytes
operation_few Load = omega arith
operation_few Add = omega arith
operation_few Sub = omega arith
operation_few Mlt = omega arith
operation_few Div = omega arith
operation_few Exp = omega arith
operation_few Shl = omega arith
operation_few Shr = omega arith
operation_few And = omega arith
operation_few Or = omega arith
operation_few Xor = omega arith
operation_few Cmp = omega arith

branch_few : (r : Relation) → length (bytes (branch_name r)) ≤ 4
unfolding bytes
branch_few Equal = omega arith
branch_few Unequal = omega arith
branch_few Less = omega arith
branch_few AtMost = omega arith
branch_few Greater = omega arith
branch_few AtLeast = omega arith

name_few : (o : Order) → length (bytes (name o)) ≤ 4
unfolding bytes
name_few (Word f w) = operation_few f
name_few (Number f n) = operation_few f
name_few (Store w) = omega arith
name_few Neg = omega arith
name_few Not = omega arith
name_few (Jump a) = omega arith
name_few (Skip a) = omega arith
name_few (Branch r a) = branch_few r
name_few (Cond n) = omega arith
name_few Send = omega arith
name_few Stop = omega arith

kind_few : (o : Order) → length (bytes (kind o)) ≤ 1
unfolding bytes
kind_few (Word f w) = omega arith
kind_few (Number f n) = omega arith
kind_few (Store w) = omega arith
kind_few Neg = omega arith
kind_few Not = omega arith
kind_few (Jump a) = omega arith
kind_few (Skip a) = omega arith
kind_few (Branch r a) = omega arith
kind_few (Cond n) = omega arith
kind_few Send = omega arith
kind_few Stop = omega arith

record_few : (o : Order) → length (record_text o) ≤ 18
record_few o =
    let e : length (record_text o) ≡ length (bytes (name o)) + suc (length (bytes (kind o))) + 1 + length (decimal (operand o)) + 1 = simp length-append in
    omega (arith, e, name_few o, kind_few o, decimal_few (operand o))

records_few : (os : List Order) → length (records_text os) ≤ 18 * length os
unfolding records_text
records_few [] = omega arith
records_few (o ∷ os) =
    let all = both_few (record_text o) (records_text os) 18 (18 * length os) (record_few o) (records_few os) in
    omega (arith, all)

header_few : (v t n : ℕ) → length (header_text v t n) ≤ 37
unfolding bytes
header_few v t n =
    let e : length (header_text v t n) ≡ 4 + length (decimal v) + suc (length (decimal t)) + suc (length (decimal n)) + 1 = simp length-append in
    omega (arith, e, decimal_few v, decimal_few t, decimal_few n)

text_few : (v t : ℕ) (os : List Order) → length (text v t os) ≤ 37 + 18 * length os
unfolding text
text_few v t os = both_few (header_text v t (length os)) (records_text os) 37 (18 * length os) (header_few v t (length os)) (records_few os)

pub object_few : (s : Sheet) → Within s → length (object_text s) ≤ most_object_bytes
object_few s w = let all = text_few (variables s) (sheet_temporaries s) (translation s) in omega (arith, all, w.few_orders)

-- ---- the sheet

operator_few : (o : Operator) → length (bytes (operator_text o)) ≤ 15
unfolding bytes
operator_few Plus = omega arith
operator_few Minus = omega arith
operator_few Times = omega arith
operator_few Over = omega arith
operator_few Power = omega arith
operator_few Left = omega arith
operator_few Right = omega arith
operator_few Both = omega arith
operator_few Either = omega arith
operator_few Unlike = omega arith

relation_few : (r : Relation) → length (bytes (relation_text r)) ≤ 15
unfolding bytes
relation_few Equal = omega arith
relation_few Unequal = omega arith
relation_few Less = omega arith
relation_few AtMost = omega arith
relation_few Greater = omega arith
relation_few AtLeast = omega arith

run_few : (w : Joining) (n : ℕ) → length (field_text (Run w n)) ≤ 15
unfolding bytes
run_few AndRun n = both_few (bytes "AND\t") (decimal n) 5 10 (omega arith) (decimal_few n)
run_few OrRun n = both_few (bytes "OR\t") (decimal n) 5 10 (omega arith) (decimal_few n)

field_few : (f : Field) → length (field_text f) ≤ 15
unfolding bytes
field_few Else = omega arith
field_few Start = omega arith
field_few Finish = omega arith
field_few If = omega arith
field_few FieldSend = omega arith
field_few FieldNeg = omega arith
field_few FieldNot = omega arith
field_few (Binary o) = operator_few o
field_few (Compare r) = relation_few r
field_few (FieldWord w) = both_few (bytes "W") (decimal w) 5 10 (omega arith) (decimal_few w)
field_few (Constant n) = both_few (bytes "K") (decimal n) 5 10 (omega arith) (decimal_few n)
field_few (Set w) = both_few (bytes "SET\t") (decimal w) 5 10 (omega arith) (decimal_few w)
field_few (Goto s) = both_few (bytes "GOTO\t") (decimal s) 5 10 (omega arith) (decimal_few s)
field_few (Run w n) = run_few w n

rest_few : (fs : List Field) → length (line_rest fs) ≤ 16 * length fs + 1
unfolding line_rest
rest_few [] = omega arith
rest_few (f ∷ fs) =
    let all = both_few (field_text f) (line_rest fs) 15 (16 * length fs + 1) (field_few f) (rest_few fs) in
    omega (arith, all)

line_few : (f : Field) (fs : List Field) → length (line (f ∷ fs)) ≤ 16 * length (f ∷ fs)
unfolding line
line_few f fs =
    let all = both_few (field_text f) (line_rest fs) 15 (16 * length fs + 1) (field_few f) (rest_few fs) in
    omega (arith, all)

simple_few : (u : Simple) → length (line (simple_fields u)) ≤ 16 * length (simple_fields u)
simple_few (set w e) = line_few _ _
simple_few (send e) = line_few _ _
simple_few (goto s) = line_few _ _

-- a condition's line has no more fields than its list in memory, where each word has one
heading_few : (p : Place) (w : Joining) (n : ℕ) → length (heading p w n) ≤ 1
unfolding pick
heading_few member w n = omega arith
heading_few (rest_of AndRun) AndRun n = omega arith
heading_few (rest_of AndRun) OrRun n = omega arith
heading_few (rest_of OrRun) AndRun n = omega arith
heading_few (rest_of OrRun) OrRun n = omega arith

condition_few : (p : Place) (c : Condition) → length (condition_line p c) ≤ length (condition_fields c)
unfolding condition_line condition_fields
condition_few p (compares r a b) = omega arith
condition_few p (joins w a b) =
    let n = member_count w (joins w a b) in
    omega (
      arith,
      length-append (heading p w n) (condition_line member a ++ condition_line (rest_of w) b),
      length-append (condition_line member a) (condition_line (rest_of w) b),
      length-append (condition_fields a) (condition_fields b),
      heading_few p w n,
      condition_few member a,
      condition_few (rest_of w) b,
    )

lines_few : (x : Part) → length (lines x) ≤ 16 * length (part_fields x)
unfolding lines part_fields
lines_few end = omega arith
lines_few (plain u l) =
    omega (arith, simple_few u, lines_few l, length-append (line (simple_fields u)) (lines l), length-append (simple_fields u) (part_fields l))
lines_few (when c x l) =
    let question = line_few If (condition_line member c) in
    let shorter = condition_few member c in
    let begin = line_few Start [] in
    let finish = line_few Finish [] in
    let a = length-append (line (If ∷ condition_line member c)) (line (Start ∷ []) ++ (lines x ++ (line (Finish ∷ []) ++ lines l))) in
    let b = length-append (line (Start ∷ [])) (lines x ++ (line (Finish ∷ []) ++ lines l)) in
    let d = length-append (lines x) (line (Finish ∷ []) ++ lines l) in
    let e = length-append (line (Finish ∷ [])) (lines l) in
    let f = length-append (condition_fields c) (Start ∷ (part_fields x ++ (Finish ∷ part_fields l))) in
    let g = length-append (part_fields x) (Finish ∷ part_fields l) in
    omega (arith, question, shorter, begin, finish, a, b, d, e, f, g, lines_few x, lines_few l)
lines_few (either c x y l) =
    let question = line_few If (condition_line member c) in
    let shorter = condition_few member c in
    let begin = line_few Start [] in
    let turn = line_few Else [] in
    let finish = line_few Finish [] in
    let a = length-append (line (If ∷ condition_line member c)) (line (Start ∷ []) ++ (lines x ++ (line (Else ∷ []) ++ (lines y ++ (line (Finish ∷ []) ++ lines l))))) in
    let b = length-append (line (Start ∷ [])) (lines x ++ (line (Else ∷ []) ++ (lines y ++ (line (Finish ∷ []) ++ lines l)))) in
    let d = length-append (lines x) (line (Else ∷ []) ++ (lines y ++ (line (Finish ∷ []) ++ lines l))) in
    let e = length-append (line (Else ∷ [])) (lines y ++ (line (Finish ∷ []) ++ lines l)) in
    let h = length-append (lines y) (line (Finish ∷ []) ++ lines l) in
    let i = length-append (line (Finish ∷ [])) (lines l) in
    let f = length-append (condition_fields c) (Start ∷ (part_fields x ++ (Else ∷ (part_fields y ++ (Finish ∷ part_fields l))))) in
    let g = length-append (part_fields x) (Else ∷ (part_fields y ++ (Finish ∷ part_fields l))) in
    let j = length-append (part_fields y) (Finish ∷ part_fields l) in
    omega (arith, question, shorter, begin, turn, finish, a, b, d, e, h, i, f, g, j, lines_few x, lines_few y, lines_few l)

pub sheet_few : (s : Sheet) → Within s → length (sheet_text s) ≤ most_sheet_bytes
unfolding bytes
sheet_few (sheet v x) w =
    let e : length (sheet_text (sheet v x)) ≡ 6 + length (decimal v) + suc (length (decimal (count x))) + suc (length (lines x)) = simp length-append in
    omega (arith, e, decimal_few v, decimal_few (count x), lines_few x, part_few v x, translation_length v x, w.few_orders)
