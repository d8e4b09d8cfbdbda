-- Joined conditions by computation: the sheets of two conditions of the report's Chapter 8 as text, the object of one, and what it
-- means. What is believed of them is seen here as it is written.
use mathlib.Core.Path.{◌≡◌, refl}
use mathlib.Core.List.{[], ◌∷◌}
use Prim.Native.Nat.{ℕ}
use Rattle.base.specs.Choice.{pick}
use Rattle.base.specs.Text.{bytes}
use Rattle.word.specs.declared.Relation.TheVariants.{Equal}
use Rattle.word.specs.Word.{signed}
use Rattle.text.specs.Pieces.{digits_of}
use Rattle.order.specs.Object.{text, records_text}
use Rattle.sheet.specs.declared.Joining.TheVariants.{And, Or}
use Rattle.sheet.specs.Sheet.{word, constant, send, Condition, compares, joins, end, plain, either, count, Sheet, sheet}
use Rattle.sheet.specs.Orders.{code, temporaries}
use Rattle.sheet.specs.Worth.{worth, sending}
use Rattle.sheet.specs.Condition.{comparisons, trying, try_code, tried, asking, asking_code, condition_temporaries}
use Rattle.sheet.specs.Translation.{object_text, size, starts, part_code, temporaries_of}
use Rattle.sheet.specs.Fields.{sheet_text, expression_fields, member_count, condition_line, line_rest, line, lines}
use Rattle.sheet.specs.Meaning.{after, further, move_at, moves}

-- A = n
abbrev is : ℕ → Condition
is n = compares Equal (word 2) (constant n)

-- `%IF c %THEN SEND(8) %ELSE SEND(9)`
abbrev asked : Condition → Sheet
asked c = sheet 1 (either c (plain (send (constant 8)) end) (plain (send (constant 9)) end) end)

-- `A=1 %AND (A=2 %OR A=3)`, and `A=1 %OR A=2 %OR A=3`
abbrev nested : Sheet
nested = asked (joins And (is 1) (joins Or (is 2) (is 3)))

abbrev three : Sheet
three = asked (joins Or (is 1) (joins Or (is 2) (is 3)))

pub nested_text :
    sheet_text nested
    ≡ bytes "SHEET\t1\t3\nIF\tAND\t2\t=\tW2\tK1\tOR\t2\t=\tW2\tK2\t=\tW2\tK3\nSTART\nSEND\tK8\nELSE\nSEND\tK9\nFINISH\n"
unfolding bytes digits_of pick lines line line_rest expression_fields member_count condition_line count
nested_text = refl

pub three_text :
    sheet_text three ≡ bytes "SHEET\t1\t3\nIF\tOR\t3\t=\tW2\tK1\t=\tW2\tK2\t=\tW2\tK3\nSTART\nSEND\tK8\nELSE\nSEND\tK9\nFINISH\n"
unfolding bytes digits_of pick lines line line_rest expression_fields member_count condition_line count
three_text = refl

pub nested_object :
    object_text nested
    ≡ bytes "BOX\t1\t0\t16\nCOND\tK\t3\nLOAD\tD\t2\nCMP\tK\t1\nBNE\tA\t13\nLOAD\tD\t2\nCMP\tK\t2\nBE\tA\t10\nLOAD\tD\t2\nCMP\tK\t3\nBNE\tA\t13\nLOAD\tK\t8\nSEND\t-\t0\nSKIP\tA\t15\nLOAD\tK\t9\nSEND\t-\t0\nSTOP\t-\t0\n"
unfolding bytes text digits_of pick temporaries_of temporaries condition_temporaries part_code asking_code asking try_code trying comparisons size starts code records_text
nested_object = refl

-- A is 0, so the first comparison settles it: COND and three orders, two of SEND, and STOP
pub nested_meaning :
    after 3 1 nested
    ≡ record { next = 4; store = record { words = 0 ∷ 0 ∷ 0 ∷ []; sent = 9 ∷ [] }; count = 7; ending = 20 }
unfolding after further pick move_at moves count tried worth sending signed
nested_meaning = refl
