-- Sources with groups and what 02, L1, answers to each, as one table under one statement, read by the definitions. Comments in
-- quotes are its words.
use Prim.Native.Nat.{ℕ, zero, suc, ◌+◌}
use mathlib.Core.Path.{◌≡◌, refl}
use mathlib.Core.List.{List, [], ◌∷◌, ◌++◌, map}
use Rattle.base.specs.Text.{bytes}
use Rattle.base.specs.Choice.{pick}
use Rattle.base.specs.Front.{on_front}
use Rattle.word.specs.declared.Relation.TheVariants.{Equal, Less}
use Rattle.text.specs.Pieces.{fixed}
use Rattle.sheet.specs.declared.Operator.TheVariants.{Plus}
use Rattle.sheet.specs.Sheet.{word, constant, binary, set, send, goto, Condition, compares, Part, end, plain, when, either, count, sheet, retarget_part}
use Rattle.sheet.specs.Orders.{code, temporaries}
use Rattle.sheet.specs.Condition.{comparisons, trying, asking, condition_temporaries}
use Rattle.sheet.specs.Translation.{size}
use Rattle.sheet.specs.Within.{most_levels}
use Rattle.source.specs.Cells.{outside, turn, source_end, on_turn, statements_from}
use Rattle.source.specs.Tokens.{first_of, run, past_run, decimal_value, text_at, packed, lexeme, on_one, lexemes_in}
use Rattle.source.specs.Grammar.{next, opens, behind_first, joined, start_of, operand_by, links_by, expression_in, named, jump, simple_at, relation_at, opens_condition, member_by, run_by, condition_in, labels_at, labelled_form, is_name_list, finishing, form}
use Rattle.source.specs.Program.{append, count_outside, orders_outside, same_name, word_from, all_known, known_condition, names_in, can_declare, is_set, can_set, moved, jumps_in, all}
use Rattle.source.specs.Program.{first_unset, number_of, closed, statement}
use Rattle.source.specs.Source.{accepted, refusal, answer, on_outcome, program, not_allowed}
use Rattle.source.proofs.Examples.{Example, example}

-- 1=1, and what sends a number
abbrev yes : Condition
yes = compares Equal (constant 1) (constant 1)

abbrev sends : ℕ → Part
sends n = plain (send (constant n)) end

-- ---- sheets

-- "Labels and jumps inside groups are allowed."
abbrev pub nested : Example
nested =
    example
    "%BEGIN\n%INTEGER A\n1: %IF A < 3 %THEN %START\nA = A + 1\n%IF A = 2 %THEN %START\nSEND(A)\n2: ->1\n%FINISH\n->2\n%FINISH\n%ENDOFPROGRAM"
    (accepted
    (sheet
    1
    (when
    (compares Less (word 2) (constant 3))
    (plain
    (set 2 (binary Plus (word 2) (constant 1)))
    (when
    (compares Equal (word 2) (constant 2))
    (plain (send (word 2)) (plain (goto 1) end))
    (plain (goto 5) end)))
    end)))

abbrev pub with_else : Example
with_else =
    example
    "%BEGIN\n%IF 1=1 %THEN %START\nSEND(1)\n%FINISH %ELSE %START\n%IF 1=1 %THEN SEND(2) %ELSE SEND(3)\n%FINISH\n%ENDOFPROGRAM"
    (accepted (sheet 0 (either yes (sends 1) (either yes (sends 2) (sends 3) end) end)))

-- "a lone u as a group of one"
abbrev pub lone_instruction : Example
lone_instruction = example "%BEGIN\n%IF 1=1 %THEN SEND(1)\n%ENDOFPROGRAM" (accepted (sheet 0 (when yes (sends 1) end)))

abbrev pub group_of_one : Example
group_of_one = example "%BEGIN\n%IF 1=1 %THEN %START\nSEND(1)\n%FINISH\n%ENDOFPROGRAM" (accepted (sheet 0 (when yes (sends 1) end)))

-- "A jump to the place after a group's last instruction means .. the instruction after the whole IF", so the fourth and not the
-- third, which is the second part's
abbrev pub behind_first_part : Example
behind_first_part =
    example
    "%BEGIN\n%IF 1=1 %THEN %START\n->1\n1:\n%FINISH %ELSE %START\nSEND(3)\n%FINISH\nSEND(4)\n%ENDOFPROGRAM"
    (accepted (sheet 0 (either yes (plain (goto 4) end) (sends 3) (sends 4))))

-- "and so on outwards": the label stands at the end of both groups, so it is the instruction behind the outer IF
abbrev pub outwards : Example
outwards =
    example
    "%BEGIN\n%IF 1=1 %THEN %START\n%IF 1=1 %THEN %START\n->1\n1:\n%FINISH\n%FINISH %ELSE %START\nSEND(4)\n%FINISH\nSEND(5)\n%ENDOFPROGRAM"
    (accepted (sheet 0 (either yes (when yes (plain (goto 5) end) end) (sends 4) (sends 5))))

-- "or the end"
abbrev pub outwards_to_the_end : Example
outwards_to_the_end =
    example
    "%BEGIN\n%IF 1=1 %THEN %START\n%IF 1=1 %THEN %START\n->1\n%FINISH %ELSE %START\nSEND(4)\n1:\n%FINISH\n%FINISH\n%ENDOFPROGRAM"
    (accepted (sheet 0 (when yes (either yes (plain (goto 5) end) (sends 4) end) end)))

-- ---- 7

-- "Any other mixture is 7."
abbrev pub start_behind_else : Example
start_behind_else = example "%BEGIN\n%IF 1=1 %THEN SEND(1) %ELSE %START\nSEND(2)\n%FINISH\n%ENDOFPROGRAM" (refusal 7 2)

abbrev pub else_behind_finish : Example
else_behind_finish = example "%BEGIN\n%IF 1=1 %THEN %START\nSEND(1)\n%FINISH %ELSE SEND(2)\n%ENDOFPROGRAM" (refusal 7 4)

abbrev pub start_alone : Example
start_alone = example "%BEGIN\n%START\nSEND(1)\n%FINISH\n%ENDOFPROGRAM" (refusal 7 2)

abbrev pub else_apart : Example
else_apart = example "%BEGIN\n%IF 1=1 %THEN %START\nSEND(1)\n%FINISH\n%ELSE %START\nSEND(2)\n%FINISH\n%ENDOFPROGRAM" (refusal 7 5)

abbrev pub text_behind_start : Example
text_behind_start = example "%BEGIN\n%IF 1=1 %THEN %START SEND(1)\n%FINISH\n%ENDOFPROGRAM" (refusal 7 2)

abbrev pub labelled_finish : Example
labelled_finish = example "%BEGIN\n%IF 1=1 %THEN %START\nSEND(1)\n1: %FINISH\n%ENDOFPROGRAM" (refusal 7 4)

abbrev pub third_part : Example
third_part =
    example
    "%BEGIN\n%IF 1=1 %THEN %START\nSEND(1)\n%FINISH %ELSE %START\nSEND(2)\n%FINISH %ELSE %START\nSEND(3)\n%FINISH\n%ENDOFPROGRAM"
    (refusal 7 6)

-- "A group with no instruction, labels or none, is refusal 7."
abbrev pub empty_group : Example
empty_group = example "%BEGIN\n%IF 1=1 %THEN %START\n%FINISH\n%ENDOFPROGRAM" (refusal 7 3)

abbrev pub labels_do_not_fill : Example
labels_do_not_fill = example "%BEGIN\n%IF 1=1 %THEN %START\n1:\n%FINISH\n%ENDOFPROGRAM" (refusal 7 4)

abbrev pub empty_first_part : Example
empty_first_part = example "%BEGIN\n%IF 1=1 %THEN %START\n1:\n%FINISH %ELSE %START\nSEND(2)\n%FINISH\n%ENDOFPROGRAM" (refusal 7 4)

abbrev pub empty_second_part : Example
empty_second_part = example "%BEGIN\n%IF 1=1 %THEN %START\nSEND(1)\n%FINISH %ELSE %START\n2:\n%FINISH\n%ENDOFPROGRAM" (refusal 7 6)

-- ---- 13

-- "a `%FINISH` without one", "after 7"
abbrev pub finish_without_group : Example
finish_without_group = example "%BEGIN\n%FINISH\n%ENDOFPROGRAM" (refusal 13 2)

abbrev pub else_without_group : Example
else_without_group = example "%BEGIN\nSEND(1)\n%FINISH %ELSE %START\n%ENDOFPROGRAM" (refusal 13 3)

abbrev pub finish_before_begin : Example
finish_before_begin = example "%FINISH\n%BEGIN\n%ENDOFPROGRAM" (refusal 7 1)

-- "open: place of the first such `%START`, found before 9": label 1 is never set
abbrev pub open_groups : Example
open_groups =
    example
    "%BEGIN\n%IF 1=1 %THEN %START\nSEND(1)\n%FINISH\n%IF 1=1 %THEN %START\n->1\n%IF 1=1 %THEN %START\nSEND(2)\n%ENDOFPROGRAM"
    (refusal 13 5)

abbrev pub open_second_part : Example
open_second_part =
    example
    "%BEGIN\n%IF 1=1 %THEN %START\nSEND(1)\n%FINISH %ELSE %START\n%IF 1=1 %THEN %START\nSEND(2)\n%ENDOFPROGRAM"
    (refusal 13 4)

-- ---- levels: "nested up to 16 deep"; "A lone u counts as a level; deeper is 11"

unfoldable pub repeated : ℕ → List ℕ → List ℕ
repeated zero s = []
repeated (suc n) s = s ++ repeated n s

-- n groups, one in another, round a statement
abbrev around : ℕ → List ℕ → List ℕ
around n s =
    bytes "%BEGIN\n" ++ repeated n (bytes "%IF 1=1 %THEN %START\n") ++ s ++ repeated n (bytes "%FINISH\n") ++ bytes "%ENDOFPROGRAM"

unfoldable pub levels : ℕ → Part → Part
levels zero x = x
levels (suc n) x = when yes (levels n x) end

abbrev pub most_levels_deep : Example
most_levels_deep = record { source = around most_levels (bytes "SEND(1)\n"); is = accepted (sheet 0 (levels most_levels (sends 1))) }

abbrev pub one_level_deeper : Example
one_level_deeper = record { source = around (most_levels + 1) (bytes "SEND(1)\n"); is = refusal 11 (most_levels + 2) }

abbrev pub lone_instruction_too_deep : Example
lone_instruction_too_deep = record { source = around most_levels (bytes "%IF 1=1 %THEN SEND(1)\n"); is = refusal 11 (most_levels + 2) }

abbrev pub examples : List Example
examples =
    nested
    ∷ with_else
    ∷ lone_instruction
    ∷ group_of_one
    ∷ behind_first_part
    ∷ outwards
    ∷ outwards_to_the_end
    ∷ start_behind_else
    ∷ else_behind_finish
    ∷ start_alone
    ∷ else_apart
    ∷ text_behind_start
    ∷ labelled_finish
    ∷ third_part
    ∷ empty_group
    ∷ labels_do_not_fill
    ∷ empty_first_part
    ∷ empty_second_part
    ∷ finish_without_group
    ∷ else_without_group
    ∷ finish_before_begin
    ∷ open_groups
    ∷ open_second_part
    ∷ most_levels_deep
    ∷ one_level_deeper
    ∷ lone_instruction_too_deep
    ∷ []

pub all_answered : map (λ e. answer e.source) examples ≡ map (λ e. e.is) examples
unfolding bytes pick repeated levels fixed on_front count retarget_part code comparisons trying asking size temporaries condition_temporaries outside turn source_end on_turn statements_from first_of run past_run decimal_value text_at packed lexeme on_one lexemes_in next opens behind_first joined start_of operand_by links_by expression_in named jump simple_at relation_at opens_condition member_by run_by condition_in labels_at labelled_form is_name_list finishing form append count_outside orders_outside same_name word_from all_known known_condition names_in can_declare is_set can_set moved jumps_in all first_unset number_of closed statement on_outcome program not_allowed
all_answered = refl
