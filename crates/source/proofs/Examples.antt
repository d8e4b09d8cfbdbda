-- Sources and what document 01 answers to each, as one table under one statement, read by the definitions.
use Prim.Native.Nat.{ℕ}
use Prim.Native.String.{String}
use mathlib.Core.Path.{◌≡◌, refl}
use mathlib.Core.List.{List, [], ◌∷◌, map}
use Rattle.base.specs.Text.{bytes}
use Rattle.base.specs.Choice.{pick}
use Rattle.base.specs.Front.{on_front}
use Rattle.text.specs.Pieces.{fixed}
use Rattle.sheet.specs.Sheet.{sheet, plain, end, send, constant, count, retarget_part}
use Rattle.sheet.specs.Orders.{code, temporaries}
use Rattle.sheet.specs.Condition.{comparisons, trying, asking, condition_temporaries}
use Rattle.sheet.specs.Translation.{size}
use Rattle.sheet.specs.Fields.{expression_fields}
use Rattle.sheet.proofs.Worked.{worked_sheet}
use Rattle.source.specs.Cells.{outside, turn, source_end, on_turn, statements_from}
use Rattle.source.specs.Tokens.{first_of, run, past_run, decimal_value, text_at, packed, lexeme, on_one, lexemes_in}
use Rattle.source.specs.Grammar.{next, opens, behind_first, joined, start_of, operand_by, links_by, expression_in, named, jump, simple_at, relation_at, opens_condition, member_by, run_by, condition_in, labels_at, labelled_form, is_name_list, form}
use Rattle.source.specs.Program.{append, count_outside, orders_outside, same_name, word_from, all_known, known_condition, names_in, can_declare, is_set, can_set, moved, jumps_in, all}
use Rattle.source.specs.Program.{first_unset, number_of, closed, statement}
use Rattle.source.specs.Source.{Answer, accepted, refusal, answer, on_outcome, program, not_allowed}

pub record Example : Type 0 where
  pub source : List ℕ
  pub is : Answer

abbrev pub example : String → Answer → Example
example s a = record { source = bytes s; is = a }

-- "One program whole"
abbrev pub worked : Example
worked =
    example
    "%BEGIN\n%INTEGER A, B\nA = 3 ; B = A - (2 - 5) / 2\n%IF B > 4 %THEN SEND(B) %ELSE ->1\n1: SEND(A)\n%ENDOFPROGRAM\n"
    (accepted worked_sheet)

-- "Empty source: 10, place 0."
abbrev pub empty_source : Example
empty_source = example "" (refusal 10 0)

-- "2147483648 gives 6."
abbrev pub constant_too_great : Example
constant_too_great = example "%BEGIN\n%INTEGER A\n A = 2147483648\n%ENDOFPROGRAM" (refusal 6 3)

-- "name unknown"; "a statement of nothing is skipped" and a comment too, and neither is counted
abbrev pub unknown_name : Example
unknown_name = example "%BEGIN;;! hello ; %INTEGER A\n A = B\n->1\n%ENDOFPROGRAM" (refusal 8 3)

-- "never set: first such jump"; "Spaces outside quotes vanish", in keywords and names too
abbrev pub label_never_set : Example
label_never_set = example "%BEGIN;;! hello ; %INT %EGER a a\n->1; aA = 2\n->1\n%ENDOFPROGRAM" (refusal 9 3)

-- "A label never set is found at `%ENDOFPROGRAM`", so an unknown name in a later statement than the jump comes first
abbrev pub unknown_name_behind_unset_jump : Example
unknown_name_behind_unset_jump = example "%BEGIN\nSEND(1)\n->1\nSEND(A)\n%ENDOFPROGRAM" (refusal 8 4)

-- "`10: ! note` gives 7."
abbrev pub note_behind_label : Example
note_behind_label = example "%BEGIN;10: ! note\n%ENDOFPROGRAM" (refusal 7 2)

-- "`'A' 'B'` is `'A''B'`, 4269890."; a newline behind a keyword letter C "is dropped with that C"
abbrev pub quotes_apart : Example
quotes_apart =
    example
    "%BEGIN;send('A' 'B')\n%ENDOFPRO%C\n%GRAM"
    (accepted (sheet 0 (plain (send (constant 4269890)) end)))

abbrev pub examples : List Example
examples =
    worked
    ∷ empty_source
    ∷ constant_too_great
    ∷ unknown_name
    ∷ label_never_set
    ∷ unknown_name_behind_unset_jump
    ∷ note_behind_label
    ∷ quotes_apart
    ∷ []

pub all_answered : map (λ e. answer e.source) examples ≡ map (λ e. e.is) examples
unfolding bytes pick worked_sheet fixed on_front count retarget_part code comparisons trying asking size temporaries condition_temporaries expression_fields outside turn source_end on_turn statements_from first_of run past_run decimal_value text_at packed lexeme on_one lexemes_in next opens behind_first joined start_of operand_by links_by expression_in named jump simple_at relation_at opens_condition member_by run_by condition_in labels_at labelled_form is_name_list form append count_outside orders_outside same_name word_from all_known known_condition names_in can_declare is_set can_set moved jumps_in all first_unset number_of closed statement on_outcome program not_allowed
all_answered = refl
