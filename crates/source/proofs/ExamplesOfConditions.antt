-- Sources with joined conditions, document 02, L5, and what comes of them, by computation. Comments in quotes are its words.
use Prim.Native.Nat.{ℕ}
use Prim.Native.String.{String}
use mathlib.Core.Path.{◌≡◌, refl}
use mathlib.Core.List.{List, [], ◌∷◌, ◌++◌, map}
use Rattle.base.specs.Text.{bytes}
use Rattle.base.specs.Choice.{pick}
use Rattle.base.specs.Front.{on_front}
use Rattle.word.specs.declared.Relation.TheVariants.{Equal}
use Rattle.text.specs.Pieces.{fixed}
use Rattle.sheet.specs.declared.Operator.TheVariants.{Plus}
use Rattle.sheet.specs.declared.Joining.TheVariants.{And, Or}
use Rattle.sheet.specs.Sheet.{word, constant, binary, send, Condition, compares, joins, end, plain, when, count, sheet, retarget_part}
use Rattle.sheet.specs.Orders.{code, temporaries}
use Rattle.sheet.specs.Condition.{comparisons, trying, asking, condition_temporaries}
use Rattle.sheet.specs.Merge.{join_of}
use Rattle.sheet.specs.Translation.{size}
use Rattle.source.specs.Cells.{outside, turn, source_end, on_turn, statements_from}
use Rattle.source.specs.Tokens.{first_of, run, past_run, decimal_value, text_at, packed, lexeme, on_one, lexemes_in}
use Rattle.source.specs.Grammar.{next, opens, behind_first, joined, start_of, operand_by, links_by, expression_in, named, jump, simple_at, relation_at}
use Rattle.source.specs.Grammar.{holds_relation, opens_condition, member_by, run_by, condition_in, labels_at, labelled_form, is_name_list, form}
use Rattle.source.specs.Program.{append, count_outside, orders_outside, same_name, word_from, all_known, known_condition, names_in, can_declare, is_set, can_set, moved, jumps_in, all}
use Rattle.source.specs.Program.{first_unset, number_of, closed, statement}
use Rattle.source.specs.Source.{Answer, accepted, refusal, answer, on_outcome, program, not_allowed}

-- a source that asks a condition of A
abbrev asking_so : String → List ℕ
asking_so c = bytes "%BEGIN\n%INTEGER A\n%IF " ++ bytes c ++ bytes " %THEN SEND(A)\n%ENDOFPROGRAM\n"

-- A = n
abbrev is : ℕ → Condition
is n = compares Equal (word 2) (constant n)

pub record Asked : Type 0 where
  pub condition : String
  pub answer_so : Answer

abbrev asks : String → Condition → Asked
asks s c = record { condition = s; answer_so = accepted (sheet 1 (when c (plain (send (word 2)) end) end)) }

abbrev refuses : String → ℕ → Asked
refuses s n = record { condition = s; answer_so = refusal n 3 }

-- the conditions of Chapter 8, and runs of one word merged, "also" where brackets part them; brackets round one comparison, or one
-- bracket, leave no trace, and a bracket at the front of a comparison may be an expression's
abbrev pub asked : List Asked
asked =
    asks "A=1 %AND (A=2 %OR A=3)" (joins And (is 1) (joins Or (is 2) (is 3)))
    ∷ asks "A=1 %OR A=2 %OR A=3" (joins Or (is 1) (joins Or (is 2) (is 3)))
    ∷ asks "((A=1 %AND A=2) %OR A=3) %AND A=4" (joins And (joins Or (joins And (is 1) (is 2)) (is 3)) (is 4))
    ∷ asks "(A=1 %AND (A=2)) %AND (A=3 %AND A=4)" (joins And (is 1) (joins And (is 2) (joins And (is 3) (is 4))))
    ∷ asks "((A=1))" (is 1)
    ∷ asks "((A)=1)" (is 1)
    ∷ asks "(A+1)=1 %OR (A)=2" (joins Or (compares Equal (binary Plus (word 2) (constant 1)) (constant 1)) (is 2))
    ∷ []

-- "Mixing the two without brackets is refusal 7"; members, brackets and relations out of place
abbrev pub formless : List Asked
formless =
    refuses "A=1 %AND A=2 %OR A=3" 7
    ∷ refuses "A=1 %OR (A=2 %AND A=3) %AND A=4" 7
    ∷ refuses "(A=1)=1" 7
    ∷ refuses "A=(1=1)" 7
    ∷ refuses "-(A=1)" 7
    ∷ refuses "((A=1)+2)=3" 7
    ∷ refuses "A=1 %AND" 7
    ∷ refuses "%OR A=1" 7
    ∷ refuses "(A=1 %AND A=2" 7
    ∷ refuses "()" 7
    ∷ refuses "(A)" 7
    ∷ []

-- "over 16 is 11", behind 8
abbrev pub too_many : List Asked
too_many =
    refuses "A=1 %OR A=1 %OR A=1 %OR A=1 %OR A=1 %OR A=1 %OR A=1 %OR A=1 %OR A=1 %OR A=1 %OR A=1 %OR A=1 %OR A=1 %OR A=1 %OR A=1 %OR A=1 %OR A=1" 11
    ∷ refuses "A=1 %OR A=1 %OR A=1 %OR A=1 %OR A=1 %OR A=1 %OR A=1 %OR A=1 %OR A=1 %OR A=1 %OR A=1 %OR A=1 %OR A=1 %OR A=1 %OR A=1 %OR A=1 %OR B=1" 8
    ∷ []

abbrev Answered : List Asked → Type 0
Answered l = map (λ a. answer (asking_so a.condition)) l ≡ map (λ a. a.answer_so) l

pub all_asked : Answered asked
unfolding bytes pick fixed on_front count retarget_part code comparisons trying asking join_of size temporaries condition_temporaries outside turn source_end on_turn statements_from first_of run past_run decimal_value text_at packed lexeme on_one lexemes_in next opens behind_first joined start_of operand_by links_by expression_in named jump simple_at relation_at holds_relation opens_condition member_by run_by condition_in labels_at labelled_form is_name_list form append count_outside orders_outside same_name word_from all_known known_condition names_in can_declare is_set can_set moved jumps_in all first_unset number_of closed statement on_outcome program not_allowed
all_asked = refl

pub all_formless : Answered formless
unfolding bytes pick fixed on_front count retarget_part code comparisons trying asking join_of size temporaries condition_temporaries outside turn source_end on_turn statements_from first_of run past_run decimal_value text_at packed lexeme on_one lexemes_in next opens behind_first joined start_of operand_by links_by expression_in named jump simple_at relation_at holds_relation opens_condition member_by run_by condition_in labels_at labelled_form is_name_list form append count_outside orders_outside same_name word_from all_known known_condition names_in can_declare is_set can_set moved jumps_in all first_unset number_of closed statement on_outcome program not_allowed
all_formless = refl

pub too_many_law : Answered too_many
unfolding bytes pick fixed on_front count retarget_part code comparisons trying asking join_of size temporaries condition_temporaries outside turn source_end on_turn statements_from first_of run past_run decimal_value text_at packed lexeme on_one lexemes_in next opens behind_first joined start_of operand_by links_by expression_in named jump simple_at relation_at holds_relation opens_condition member_by run_by condition_in labels_at labelled_form is_name_list form append count_outside orders_outside same_name word_from all_known known_condition names_in can_declare is_set can_set moved jumps_in all first_unset number_of closed statement on_outcome program not_allowed
too_many_law = refl
