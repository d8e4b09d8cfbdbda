-- The text that the writer makes field by field is the text of the sheet: a newline stands before the first field of every line
-- and before no other.
use Prim.Native.Nat.{ℕ}
use mathlib.Core.Path.{◌≡◌, refl, sym, ap, ◌∙◌}
use mathlib.Core.Bool.{true, false}
use mathlib.Core.List.{List, [], ◌∷◌, ◌++◌, append_assoc, append-nil}
use Rattle.base.specs.Choice.{pick}
use Rattle.base.proofs.Cases.{either_part}
use Rattle.sheet.specs.declared.Field.{Field}
use Rattle.sheet.specs.declared.Field.TheVariants.{Else, Start, Finish, If, Send, Set, Goto, Run}
use Rattle.sheet.specs.declared.Joining.{Joining}
use Rattle.sheet.specs.Sheet.{Expression, word, constant, negated, inverted, binary, Simple, set, send, goto}
use Rattle.sheet.specs.Sheet.{Condition, compares, joins, Part, end, plain, when, either, count, Sheet, sheet, variables, instructions}
use Rattle.sheet.specs.Condition.{same_word}
use Rattle.sheet.specs.Fields.{expression_fields, simple_fields, member_count, Place, member, rest_of, heading, condition_line}
use Rattle.sheet.specs.Fields.{field_text, line_rest, line, lines, sheet_text}
use Rattle.sheet.specs.Within.{Within}
use Rattle.sheet.proofs.Each.{Each, each_append}
use Rattle.sheet_field.specs.Memory.{fields_at}
use Rattle.sheet_text.specs.Answers.{InMemory}
use Rattle.sheet_text.specs.TextOfFields.{begins, fields_text, header_text, text_of_fields}
use Rattle.sheet_line.proofs.Runs.{line_fields, fields_lined}

-- the fields xs behind tabs, and a text behind them
unfoldable tabbed : List Field → List ℕ → List ℕ
tabbed [] l = l
tabbed (f ∷ fs) l = 9 ∷ field_text f ++ tabbed fs l

-- behind a line's first field: its other fields behind tabs, then the newline
line_rest_law : (fs : List Field) (l : List ℕ) → line_rest fs ++ l ≡ tabbed fs (10 ∷ l)
unfolding line_rest tabbed
line_rest_law [] l = refl
line_rest_law (f ∷ fs) l =
    ap (λ r. 9 ∷ r) (append_assoc (field_text f) (line_rest fs) l ∙ ap (λ r. field_text f ++ r) (line_rest_law fs l))

-- the fields of expressions and conditions begin no line
abbrev Inner : Field → Type 0
Inner f = begins f ≡ false

expression_inner : (e : Expression) → Each Inner (expression_fields e)
unfolding expression_fields
expression_inner (word w) = (refl, tt)
expression_inner (constant n) = (refl, tt)
expression_inner (negated e) = (refl, expression_inner e)
expression_inner (inverted e) = (refl, expression_inner e)
expression_inner (binary o x y) =
    (refl, each_append Inner (expression_fields x) (expression_fields y) (expression_inner x) (expression_inner y))

heading_inner : (p : Place) (w : Joining) (n : ℕ) → Each Inner (heading p w n)
heading_inner member w n = (refl, tt)
heading_inner (rest_of u) w n = either_part (Each Inner) (same_word u w) [] (Run w n ∷ []) (λ e. tt) (λ e. (refl, tt))

condition_inner : (p : Place) (c : Condition) → Each Inner (condition_line p c)
unfolding condition_line
condition_inner p (compares r x y) =
    (refl, each_append Inner (expression_fields x) (expression_fields y) (expression_inner x) (expression_inner y))
condition_inner p (joins w x y) =
    each_append Inner (heading p w (member_count w (joins w x y))) (condition_line member x ++ condition_line (rest_of w) y)
    (heading_inner p w (member_count w (joins w x y)))
    (each_append Inner (condition_line member x) (condition_line (rest_of w) y) (condition_inner member x) (condition_inner (rest_of w) y))

-- so each stands behind a tab
inner_flat : (xs fs : List Field) → Each Inner xs → fields_text (xs ++ fs) ≡ tabbed xs (fields_text fs)
unfolding fields_text tabbed pick
inner_flat [] fs h = refl
inner_flat (x ∷ xs) fs h = rw h.0 (ap (λ r. 9 ∷ field_text x ++ r) (inner_flat xs fs h.1))

-- a line, where another or the end comes behind it
line_flat : (f : Field) → begins f ≡ true → (gs fs : List Field) (t : List ℕ)
    → Each Inner gs
    → fields_text fs ≡ 10 ∷ t
    → fields_text (f ∷ (gs ++ fs)) ≡ 10 ∷ (line (f ∷ gs) ++ t)
unfolding fields_text line pick
line_flat f begun gs fs t inner next =
    rw begun
    (ap (λ r. 10 ∷ field_text f ++ r) (inner_flat gs fs inner ∙ ap (tabbed gs) next ∙ sym (line_rest_law gs t))
    ∙ ap (λ r. 10 ∷ r) (sym (append_assoc (field_text f) (line_rest gs) t)))

simple_flat : (u : Simple) (fs : List Field) (t : List ℕ) → fields_text fs ≡ 10 ∷ t
    → fields_text (simple_fields u ++ fs) ≡ 10 ∷ (line (simple_fields u) ++ t)
simple_flat (set w e) fs t next = line_flat (Set w) refl (expression_fields e) fs t (expression_inner e) next
simple_flat (send e) fs t next = line_flat Send refl (expression_fields e) fs t (expression_inner e) next
simple_flat (goto s) fs t next = line_flat (Goto s) refl [] fs t tt next

-- ---- instructions

-- the fields of an IF, and others behind them
pub when_fields : (c : Condition) (x l : Part) (fs : List Field)
    → line_fields (when c x l) ++ fs ≡ If ∷ (condition_line member c ++ (Start ∷ (line_fields x ++ (Finish ∷ (line_fields l ++ fs)))))
unfolding line_fields
when_fields c x l fs = simp append_assoc

pub either_fields : (c : Condition) (x y l : Part) (fs : List Field)
    → line_fields (either c x y l) ++ fs
    ≡ If ∷ (condition_line member c ++ (Start ∷ (line_fields x ++ (Else ∷ (line_fields y ++ (Finish ∷ (line_fields l ++ fs)))))))
unfolding line_fields
either_fields c x y l fs = simp append_assoc

-- its lines, and a text behind them
when_lines : (c : Condition) (x l : Part) (t : List ℕ)
    → lines (when c x l) ++ t
    ≡ line (If ∷ condition_line member c) ++ (line (Start ∷ []) ++ (lines x ++ (line (Finish ∷ []) ++ (lines l ++ t))))
unfolding lines
when_lines c x l t = simp append_assoc

either_lines : (c : Condition) (x y l : Part) (t : List ℕ)
    → lines (either c x y l) ++ t
    ≡ line (If ∷ condition_line member c)
    ++ (line (Start ∷ []) ++ (lines x ++ (line (Else ∷ []) ++ (lines y ++ (line (Finish ∷ []) ++ (lines l ++ t))))))
unfolding lines
either_lines c x y l t = simp append_assoc

part_flat : (x : Part) (fs : List Field) (t : List ℕ) → fields_text fs ≡ 10 ∷ t → fields_text (line_fields x ++ fs) ≡ 10 ∷ (lines x ++ t)
unfolding line_fields lines
part_flat end fs t next = next
part_flat (plain u l) fs t next =
    ap fields_text (append_assoc (simple_fields u) (line_fields l) fs)
    ∙ simple_flat u (line_fields l ++ fs) (lines l ++ t) (part_flat l fs t next)
    ∙ ap (λ r. 10 ∷ r) (sym (append_assoc (line (simple_fields u)) (lines l) t))
part_flat (when c x l) fs t next =
    let after = line_flat Finish refl [] (line_fields l ++ fs) (lines l ++ t) tt (part_flat l fs t next) in
    let first = part_flat x (Finish ∷ (line_fields l ++ fs)) _ after in
    let start = line_flat Start refl [] _ _ tt first in
    ap fields_text (when_fields c x l fs)
    ∙ line_flat If refl (condition_line member c) _ _ (condition_inner member c) start
    ∙ ap (λ r. 10 ∷ r) (sym (when_lines c x l t))
part_flat (either c x y l) fs t next =
    let after = line_flat Finish refl [] (line_fields l ++ fs) (lines l ++ t) tt (part_flat l fs t next) in
    let second = part_flat y (Finish ∷ (line_fields l ++ fs)) _ after in
    let between = line_flat Else refl [] _ _ tt second in
    let first = part_flat x (Else ∷ (line_fields y ++ (Finish ∷ (line_fields l ++ fs)))) _ between in
    let start = line_flat Start refl [] _ _ tt first in
    ap fields_text (either_fields c x y l fs)
    ∙ line_flat If refl (condition_line member c) _ _ (condition_inner member c) start
    ∙ ap (λ r. 10 ∷ r) (sym (either_lines c x y l t))

lines_flat : (x : Part) → fields_text (line_fields x) ≡ 10 ∷ lines x
unfolding fields_text
lines_flat x =
    ap fields_text (sym (append-nil (line_fields x))) ∙ part_flat x [] [] refl ∙ ap (λ r. 10 ∷ r) (append-nil (lines x))

-- the text of a sheet is made of the fields of its lines
pub flat_sheet : (s : Sheet) → header_text (variables s) (count (instructions s)) ++ fields_text (line_fields (instructions s)) ≡ sheet_text s
flat_sheet (sheet v x) = ap (λ t. header_text v (count x) ++ t) (lines_flat x)

-- the text of the fields of a sheet in memory is the sheet's text
pub flat_memory : (s : Sheet) (ws : List ℕ) (v is : ℕ) → Within s → InMemory s ws v is → text_of_fields v is (fields_at 0 ws) ≡ sheet_text s
flat_memory (sheet u x) ws v is within m =
    rw (m.fields, ← m.its_variables, ← m.its_instructions, fields_lined u (count x) x within.formed) (flat_sheet (sheet u x))
