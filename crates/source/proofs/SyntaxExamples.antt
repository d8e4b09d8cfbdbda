-- What the syntax has and has not, by computation: statements of no form, and what the levels make of expressions.
use mathlib.Core.Path.{◌≡◌, refl, subst}
use mathlib.Core.List.{List, [], ◌∷◌, ◌++◌}
use Rattle.base.specs.Choice.{pick}
use Rattle.word.specs.declared.Relation.TheVariants.{Equal, Unequal}
use Rattle.sheet.specs.declared.Operator.TheVariants.{Plus, Minus, Times, Over, Power}
use Rattle.sheet.specs.Sheet.{Expression, word, constant, negated, inverted, binary, set}
use Rattle.source.proofs.Each.{Each}
use Rattle.source.specs.declared.Token.{Token}
use Rattle.source.specs.declared.Token.TheVariants.{Name, Number, Binary, Compare, Mark}
use Rattle.source.specs.Tokens.{mark_if, mark_then, mark_else, mark_start, mark_finish, mark_open, mark_close, mark_colon, mark_invert, mark_arrow}
use Rattle.source.specs.Grammar.{simple, Form, instruction, next, opens, behind_first, joined, start_of, operand_by, links_by, expression_in}
use Rattle.source.specs.Grammar.{named, jump, simple_at, relation_at, holds_relation, opens_condition, member_by, run_by, condition_in, labels_at, labelled_form, finishing, form}
use Rattle.source.specs.Syntax.{Stated}
use Rattle.source.proofs.Syntax.{IsForm, form_stated, none_stated}

-- A and B are the words 2 and 3
abbrev assigned : List Token → List Token
assigned ts = Name 2 ∷ Compare Equal ∷ ts

abbrev a : Token
a = Name 2

abbrev b : Token
b = Name 3

-- ---- no form

abbrev goto_one : List Token
goto_one = Mark mark_arrow ∷ Number 1 ∷ []

-- a sign behind an operator, `A = A*-B`; two signs, `A = -\B`; a name before brackets that is not SEND, `A(1)`; a jump to a
-- name, `->A`; another relation than `=`, `A#B`; and mixtures of groups: `%IF A=B %THEN ->1 %ELSE %START`, `%IF A=B %THEN %START ->1`,
-- `%START`, `1:%FINISH`, `%FINISH %ELSE ->1`
abbrev formless : List (List Token)
formless =
    assigned (a ∷ Binary Times ∷ Binary Minus ∷ b ∷ [])
    ∷ assigned (Binary Minus ∷ Mark mark_invert ∷ b ∷ [])
    ∷ (a ∷ Mark mark_open ∷ Number 1 ∷ Mark mark_close ∷ [])
    ∷ (Mark mark_arrow ∷ a ∷ [])
    ∷ (a ∷ Compare Unequal ∷ b ∷ [])
    ∷ (Mark mark_if ∷ a ∷ Compare Equal ∷ b ∷ Mark mark_then ∷ (goto_one ++ Mark mark_else ∷ Mark mark_start ∷ []))
    ∷ (Mark mark_if ∷ a ∷ Compare Equal ∷ b ∷ Mark mark_then ∷ Mark mark_start ∷ goto_one)
    ∷ (Mark mark_start ∷ [])
    ∷ (Number 1 ∷ Mark mark_colon ∷ Mark mark_finish ∷ [])
    ∷ (Mark mark_finish ∷ Mark mark_else ∷ goto_one)
    ∷ []

pub no_form_law : Each (λ ts. (f : Form) → Stated ts f → ⊥) formless
unfolding pick next opens behind_first joined start_of operand_by links_by expression_in named jump simple_at relation_at holds_relation opens_condition member_by run_by condition_in labels_at labelled_form finishing form
no_form_law = (
  none_stated _ refl,
  (
    none_stated _ refl,
    (
      none_stated _ refl,
      (
        none_stated _ refl,
        (
          none_stated _ refl,
          (
            none_stated _ refl,
            (
              none_stated _ refl,
              (
                none_stated _ refl,
                (
                  none_stated _ refl,
                  (none_stated _ refl, tt),
                ),
              ),
            ),
          ),
        ),
      ),
    ),
  ),
)

-- ---- expressions

pub record Reading : Type 0 where
  pub tokens : List Token
  pub is : Expression

abbrev reading : List Token → Expression → Reading
reading ts e = record { tokens = ts; is = e }

-- `-2**2`, `-A+B`, `\A**B`, `A-B-A`, `A+B*A`, `-A/B`
abbrev readings : List Reading
readings =
    reading (Binary Minus ∷ Number 2 ∷ Binary Power ∷ Number 2 ∷ []) (negated (binary Power (constant 2) (constant 2)))
    ∷ reading (Binary Minus ∷ a ∷ Binary Plus ∷ b ∷ []) (binary Plus (negated (word 2)) (word 3))
    ∷ reading (Mark mark_invert ∷ a ∷ Binary Power ∷ b ∷ []) (binary Power (inverted (word 2)) (word 3))
    ∷ reading (a ∷ Binary Minus ∷ b ∷ Binary Minus ∷ a ∷ []) (binary Minus (binary Minus (word 2) (word 3)) (word 2))
    ∷ reading (a ∷ Binary Plus ∷ b ∷ Binary Times ∷ a ∷ []) (binary Plus (word 2) (binary Times (word 3) (word 2)))
    ∷ reading (Binary Minus ∷ a ∷ Binary Over ∷ b ∷ []) (negated (binary Over (word 2) (word 3)))
    ∷ []

abbrev IsStated : Reading → Type 0
IsStated r = Stated (assigned r.tokens) (instruction [] (simple (set 2 r.is)))

found : (r : Reading) → form (assigned r.tokens) ≡ instruction [] (simple (set 2 r.is)) → IsStated r
found r e = form_stated _ _ e (λ z. subst IsForm z tt)

pub all_stated : Each IsStated readings
unfolding pick next opens behind_first joined start_of operand_by links_by expression_in named simple_at labels_at labelled_form form
all_stated = (found _ refl, (found _ refl, (found _ refl, (found _ refl, (found _ refl, (found _ refl, tt))))))
