-- The tokens of a statement with all brackets.
use Rattle.std.specs.Prelude.{ℕ, List, [], ◌∷◌, ◌++◌}
use Rattle.word.specs.declared.Relation.TheVariants.{Equal}
use Rattle.sheet.specs.declared.Operator.TheVariants.{Minus}
use Rattle.sheet.specs.Sheet.{Expression, word, constant, negated, inverted, binary, Simple, set, send, goto}
use Rattle.sheet.specs.Sheet.{Condition, compares, joins}
use Rattle.source.specs.declared.Token.{Token}
use Rattle.source.specs.declared.Token.TheVariants.{Name, Number, Quoted, Binary, Compare, Mark}
use Rattle.source.specs.Tokens.{mark_if, mark_then, mark_else, mark_start, mark_arrow, mark_open, mark_close, mark_colon, mark_invert}
use Rattle.source.specs.Grammar.{send_word, mark_of, Instruction, simple, if_then, if_else, if_start}

unfoldable pub printed : Expression → List Token
printed (word w) = Name w ∷ []
printed (constant n) = Number n ∷ []
printed (negated e) = Mark mark_open ∷ Binary Minus ∷ (printed e ++ (Mark mark_close ∷ []))
printed (inverted e) = Mark mark_open ∷ Mark mark_invert ∷ (printed e ++ (Mark mark_close ∷ []))
printed (binary o l r) = Mark mark_open ∷ (printed l ++ (Binary o ∷ (printed r ++ (Mark mark_close ∷ []))))

abbrev pub printed_simple : Simple → List Token
printed_simple (set w e) = Name w ∷ Compare Equal ∷ printed e
printed_simple (send e) = Name send_word ∷ Mark mark_open ∷ (printed e ++ (Mark mark_close ∷ []))
printed_simple (goto l) = Mark mark_arrow ∷ Number l ∷ []

-- a condition that is a member: a run is in brackets
unfoldable pub printed_member : Condition → List Token
printed_member (compares r a b) = printed a ++ (Compare r ∷ printed b)
printed_member (joins w a b) =
    Mark mark_open ∷ ((printed_member a ++ (Mark (mark_of w) ∷ printed_member b)) ++ (Mark mark_close ∷ []))

abbrev pub printed_condition : Condition → List Token
printed_condition (compares r a b) = printed_member (compares r a b)
printed_condition (joins w a b) = printed_member a ++ (Mark (mark_of w) ∷ printed_member b)

abbrev pub printed_instruction : Instruction → List Token
printed_instruction (simple u) = printed_simple u
printed_instruction (if_then c u) = Mark mark_if ∷ (printed_condition c ++ (Mark mark_then ∷ printed_simple u))
printed_instruction (if_else c u w) =
    Mark mark_if ∷ (printed_condition c ++ (Mark mark_then ∷ (printed_simple u ++ (Mark mark_else ∷ printed_simple w))))
printed_instruction (if_start c) = Mark mark_if ∷ (printed_condition c ++ (Mark mark_then ∷ Mark mark_start ∷ []))

unfoldable pub printed_labels : List ℕ → List Token
printed_labels [] = []
printed_labels (l ∷ ls) = Number l ∷ Mark mark_colon ∷ printed_labels ls

-- no operator goes on with what stands before these tokens
abbrev pub Ends : List Token → Type 0
Ends [] = Unit {0}
Ends (Name w ∷ ts) = Unit {0}
Ends (Number n ∷ ts) = Unit {0}
Ends (Quoted n ∷ ts) = Unit {0}
Ends (Binary o ∷ ts) = ⊥
Ends (Compare r ∷ ts) = Unit {0}
Ends (Mark m ∷ ts) = Unit {0}
