-- Document 01's worked program as a sheet: its text, its translation, what it means and how its run follows that, and the
-- sheet read back, all by computation.
use mathlib.Core.Path.{◌≡◌, refl}
use mathlib.Core.Bool.{true}
use mathlib.Core.List.{[], ◌∷◌}
use lib.ListN.{replicate}
use Rattle.base.specs.Choice.{pick}
use Rattle.base.specs.Text.{bytes}
use Rattle.word.specs.declared.Relation.TheVariants.{Greater}
use Rattle.word.specs.Word.{wrap, signed, word as pattern, difference, quotient, comparison}
use Rattle.text.specs.Pieces.{digits_of}
use Rattle.order.specs.Object.{text, records_text}
use Rattle.machine.specs.Machine.{machine, ran, send as sends, run}
use Rattle.machine.proofs.Worked.{worked}
use Rattle.sheet.specs.declared.Operator.TheVariants.{Minus, Over}
use Rattle.sheet.specs.Sheet.{word, constant, binary, set, send, goto, compares, plain, either, end, count, Sheet, sheet, retarget_part}
use Rattle.sheet.specs.Orders.{code, temporaries}
use Rattle.sheet.specs.Worth.{worth, sending}
use Rattle.sheet.specs.Condition.{comparisons, trying, try_code, tried, asking, asking_code, condition_temporaries}
use Rattle.sheet.specs.Translation.{translation, sheet_temporaries, size, starts, part_code, temporaries_of}
use Rattle.sheet.specs.Beginnings.{beginnings}
use Rattle.sheet.specs.Within.{depth}
use Rattle.sheet.specs.Fields.{sheet_text, expression_fields, condition_line, line_rest, line, lines}
use Rattle.sheet.specs.Meaning.{after, further, move_at, moves}
use Rattle.sheet.specs.Following.{start_run}
use Rattle.sheet.specs.Guess.{forward, guess, place}
use Rattle.sheet.specs.ReadBack.{untranslate, given, is_expressed, all_expressed, is_merged, is_part_formed, same_orders}

unfoldable pub worked_sheet : Sheet
worked_sheet =
    sheet
    2
    (plain
    (set 2 (constant 3))
    (plain
    (set 3 (binary Minus (word 2) (binary Over (binary Minus (constant 2) (constant 5)) (constant 2))))
    (either
    (compares Greater (word 3) (constant 4))
    (plain (send (word 3)) end)
    (plain (goto 6) end)
    (plain (send (word 2)) end))))

pub worked_text :
    sheet_text worked_sheet
    ≡ bytes "SHEET\t2\t6\nSET\t2\tK3\nSET\t3\t-\tW2\t/\t-\tK2\tK5\tK2\nIF\t>\tW3\tK4\nSTART\nSEND\tW3\nELSE\nGOTO\t6\nFINISH\nSEND\tW2\n"
unfolding bytes worked_sheet digits_of pick lines line line_rest expression_fields condition_line count
worked_text = refl

pub worked_object_law : text 2 (sheet_temporaries worked_sheet) (translation worked_sheet) ≡ worked
unfolding bytes text digits_of pick worked_sheet temporaries_of temporaries condition_temporaries part_code asking_code asking try_code trying size starts code records_text
worked_object_law = refl

-- the first orders of its six instructions
pub worked_beginnings : beginnings 2 true 0 0 (translation worked_sheet) ≡ 0 ∷ 2 ∷ 11 ∷ 14 ∷ 17 ∷ 18 ∷ []
unfolding beginnings pick worked_sheet part_code asking_code asking try_code trying size starts code
worked_beginnings = refl

-- it sends 5, then 3, in 20 steps
pub worked_meaning :
    after 6 2 worked_sheet
    ≡ record { next = 7; store = record { words = 0 ∷ 0 ∷ 3 ∷ 5 ∷ []; sent = 5 ∷ 3 ∷ [] }; count = 20; ending = 20 }
unfolding after worked_sheet further pick move_at moves count tried worth quotient signed difference wrap pattern sending
worked_meaning = refl

pub worked_run :
    start_run worked_sheet (replicate 8 0) 20
    ≡ ran
    20
    (machine
    (record { acc = 3; next = 20; sent = 2; ending = 20 })
    (0 ∷ 0 ∷ 3 ∷ 5 ∷ 3 ∷ 4294967294 ∷ [])
    (0 ∷ 0 ∷ 0 ∷ 5 ∷ 0 ∷ 0 ∷ 0 ∷ 3 ∷ []))
unfolding run pick worked_sheet part_code asking_code asking try_code trying size starts code quotient signed comparison temporaries_of condition_temporaries temporaries difference wrap pattern sends
worked_run = refl

pub worked_back : untranslate 2 2 (translation worked_sheet) ≡ given worked_sheet
unfolding worked_sheet part_code asking_code asking try_code trying size starts code pick forward guess place retarget_part is_expressed all_expressed is_merged comparisons is_part_formed same_orders depth count temporaries_of condition_temporaries temporaries
worked_back = refl
