-- Every expression is read back from its tokens with all brackets: each has a source, and no two have the same.
use mathlib.Core.Path.{◌≡◌, sym, ap, ◌∙◌}
use mathlib.Core.List.{List, [], ◌∷◌, ◌++◌, append_assoc}
use Rattle.sheet.specs.declared.Operator.{Operator}
use Rattle.sheet.specs.Sheet.{Expression, word, constant, negated, inverted, binary}
use Rattle.source.specs.declared.Token.{Token}
use Rattle.source.specs.declared.Token.TheVariants.{Binary, Mark}
use Rattle.source.specs.Tokens.{mark_close}
use Rattle.source.specs.Grammar.{read, expression}
use Rattle.source.specs.Syntax.{first, Operand, named, decimal, bracketed, Level, operand, inverse, higher, minus, Expressed}
use Rattle.source.specs.Syntax.{expression as level_one}
use Rattle.source.specs.Printed.{printed, Ends}
use Rattle.source.proofs.Joining.{by_level}
use Rattle.source.proofs.SyntaxChains.{operation_at}
use Rattle.source.proofs.ExpressionsRead.{expression_found}

-- two operands, whatever the level of the operator between them
two_operands : {ts us : List Token} {l r : Expression} (o : Operator) → Operand ts l → Operand us r
    → Level first 1 (ts ++ Binary o ∷ us) (binary o l r)
two_operands o x y =
    by_level o
    (λ k. operation_at o k (higher (higher (higher (operand x)))) (higher (higher (operand y))))
    (λ k. higher (operation_at o k (higher (higher (operand x))) (higher (operand y))))
    (λ k. higher (higher (operation_at o k (higher (operand x)) (operand y))))

printed_operand : (e : Expression) → Operand (printed e) e
unfolding printed
printed_operand (word w) = named w
printed_operand (constant n) = decimal n
printed_operand (negated e) = bracketed (level_one (minus (higher (higher (operand (printed_operand e))))))
printed_operand (inverted e) = bracketed (level_one (higher (higher (higher (inverse (printed_operand e))))))
printed_operand (binary o l r) =
    rw (← append_assoc (printed l) (Binary o ∷ printed r) (Mark mark_close ∷ []))
    (bracketed (level_one (two_operands o (printed_operand l) (printed_operand r))))

pub printed_expressed : (e : Expression) → Expressed (printed e) e
printed_expressed e = level_one (higher (higher (higher (operand (printed_operand e)))))

-- ---- the statements

-- an expression with all its brackets is read back
pub read_again : (e : Expression) (rest : List Token) → Ends rest → expression (printed e ++ rest) ≡ read e rest
read_again e rest f = expression_found (printed_expressed e) rest f

-- no two expressions have the same tokens
pub printed_once : (e f : Expression) → printed e ≡ printed f → e ≡ f
printed_once e f same =
    expression_of_law (sym (read_again e [] tt) ∙ ap (λ ts. expression (ts ++ [])) same ∙ read_again f [] tt)
  where
    expression_of_law : read e [] ≡ read f [] → e ≡ f
    expression_of_law h = cc
