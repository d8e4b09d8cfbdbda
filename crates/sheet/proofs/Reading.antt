-- Expressions read forwards: the orders of an expression are read as that expression, those of a comparison as its two.
use Prim.Native.Nat.{ℕ, suc, ◌+◌, ◌<◌}
use mathlib.Core.Path.{◌≡◌, refl, ap, ◌∙◌}
use mathlib.Core.List.{List, [], ◌∷◌, ◌++◌, append_assoc}
use native.Mathlib.Omega.{arith}
use borrow.Author.Tests.{le-leb, lt-leb}
use Rattle.base.specs.Choice.{pick}
use Rattle.order.specs.declared.Operation.{Operation}
use Rattle.order.specs.declared.Operation.TheVariants.{Cmp}
use Rattle.order.specs.declared.Order.{Order}
use Rattle.order.specs.declared.Order.TheVariants.{Store, Neg, Not}
use Rattle.sheet.specs.declared.Operator.{Operator}
use Rattle.sheet.specs.declared.Operator.TheVariants.{Plus, Minus, Times, Over, Power, Left, Right, And, Or, Unlike}
use Rattle.sheet.specs.Sheet.{Expression, word, constant, negated, inverted, binary, worked_out, operand}
use Rattle.sheet.specs.Orders.{operation, temporary, joined, code, comparison_code}
use Rattle.sheet.specs.Formed.{Expressed}
use Rattle.sheet.specs.Guess.{by_operation, Read, one, two, forward}

operator_told :
    {A : Type 0} (o : Operator) (load : A) (f : Operator → A) (cmp : A)
    → by_operation (operation o) load f cmp ≡ f o
operator_told Plus load f cmp = refl
operator_told Minus load f cmp = refl
operator_told Times load f cmp = refl
operator_told Over load f cmp = refl
operator_told Power load f cmp = refl
operator_told Left load f cmp = refl
operator_told Right load f cmp = refl
operator_told And load f cmp = refl
operator_told Or load f cmp = refl
operator_told Unlike load f cmp = refl

module _ (v : ℕ) where
  -- behind the orders os reading goes on with the expression e
  abbrev Gives : List Order → Expression → Type 0
  Gives os e = (es : List Expression) (e₀ : Expression) (l : List Order) → forward v es e₀ (os ++ l) ≡ forward v es e l

  -- two operands and the order f on them: behind it reading goes on as `on` says
  module _ (f : Operation) (on : Expression → Expression → List Expression → List Order → Read) where
    abbrev Brings : Type 0
    Brings =
        (x : Read) (es : List Expression) (a b : Expression) (l : List Order)
        → by_operation f x (λ o. forward v es (binary o a b) l) (two a b l) ≡ on a b es l

    both_kept :
        (d : ℕ) (a b : Expression) (left right : List Order)
        → Brings
        → Gives left a
        → Gives right b
        → (es : List Expression) (e₀ : Expression) (l : List Order)
        → forward v es e₀ (joined f v d worked_out left right ++ l) ≡ on a b es l
    unfolding forward pick
    both_kept d a b left right by ga gb es e₀ l =
        ap (forward v es e₀)
        (append_assoc (left ++ Store (temporary v d) ∷ right) _ l ∙ append_assoc left (Store (temporary v d) ∷ right) _)
        ∙ ga es e₀ _
        ∙ rw (le-leb (v + 2) (temporary v d) (omega arith))
        (gb (a ∷ es) a _
        ∙ rw (
          le-leb (v + 2) (temporary v (suc d)) (omega arith),
          le-leb (v + 2) (temporary v d) (omega arith),
        )
        (by _ es a b l))

    both_read :
        (d : ℕ) (a b : Expression) (left right : List Order)
        → Brings
        → Gives left a
        → Gives right b
        → Expressed v b
        → (es : List Expression) (e₀ : Expression) (l : List Order)
        → forward v es e₀ (joined f v d (operand b) left right ++ l) ≡ on a b es l
    unfolding forward pick Expressed
    both_read d a (word w) left right by ga gb x es e₀ l =
        ap (forward v es e₀) (append_assoc left _ l)
        ∙ ga es e₀ _
        ∙ rw (lt-leb (v + 2) w x.1) (by _ es a (word w) l)
    both_read d a (constant n) left right by ga gb x es e₀ l =
        ap (forward v es e₀) (append_assoc left _ l) ∙ ga es e₀ _ ∙ by _ es a (constant n) l
    both_read d a (negated b) left right by ga gb x es e₀ l = both_kept d a (negated b) left right by ga gb es e₀ l
    both_read d a (inverted b) left right by ga gb x es e₀ l = both_kept d a (inverted b) left right by ga gb es e₀ l
    both_read d a (binary o b c) left right by ga gb x es e₀ l =
        both_kept d a (binary o b c) left right by ga gb es e₀ l

  pub expression_again : (d : ℕ) (e : Expression) → Expressed v e → Gives (code v d e) e
  unfolding forward pick code Expressed
  expression_again d (word w) x es e₀ l = rw (lt-leb (v + 2) w x.1)
  expression_again d (constant n) x es e₀ l = refl
  expression_again d (negated e) x es e₀ l =
      ap (forward v es e₀) (append_assoc (code v d e) (Neg ∷ []) l) ∙ expression_again d e x es e₀ _
  expression_again d (inverted e) x es e₀ l =
      ap (forward v es e₀) (append_assoc (code v d e) (Not ∷ []) l) ∙ expression_again d e x es e₀ _
  expression_again d (binary o a b) x es e₀ l =
      both_read (operation o) (λ a b es l. forward v es (binary o a b) l) d a b (code v d a) (code v (suc d) b)
      (λ y es a b l. operator_told o _ _ _)
      (expression_again d a x.0) (expression_again (suc d) b x.1) x.1 es e₀ l

  pub comparison_again :
      (a b : Expression)
      → Expressed v a
      → Expressed v b
      → (es : List Expression) (e₀ : Expression) (l : List Order)
      → forward v es e₀ (comparison_code v a b ++ l) ≡ two a b l
  comparison_again a b x y es e₀ l =
      both_read Cmp (λ a b es l. two a b l) 0 a b (code v 0 a) (code v 1 b)
      (λ y es a b l. refl)
      (expression_again 0 a x) (expression_again 1 b y) y es e₀ l

  -- STR of a variable ends the expression
  pub stops_before :
      (es : List Expression) (e : Expression) (w : ℕ) (l : List Order)
      → w < v + 2
      → forward v es e (Store w ∷ l) ≡ one e (Store w ∷ l)
  unfolding forward pick
  stops_before es e w l h = rw (lt-leb (v + 2) w h)
