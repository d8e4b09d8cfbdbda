-- The orders of expressions and comparisons: which there are, with t temporaries at most.
use Prim.Native.Nat.{ℕ, suc, ◌+◌, ◌≤◌, ◌<◌}
use mathlib.Core.List.{List, ◌∷◌, ◌++◌}
use native.Mathlib.Omega.{arith}
use lib.ListN.{length, length-append}
use Rattle.text.specs.Pieces.{greatest_number}
use Rattle.order.specs.declared.Operation.{Operation}
use Rattle.order.specs.declared.Operation.TheVariants.{Cmp}
use Rattle.order.specs.declared.Order.{Order}
use Rattle.order.specs.declared.Order.TheVariants.{Word, Number, Store, Neg, Not, Jump, Skip, Branch, Cond, Send, Stop}
use Rattle.sheet.specs.Sheet.{Expression, word, constant, negated, inverted, binary, worked_out, operand}
use Rattle.sheet.specs.Orders.{operation, temporary, joined, code, comparison_code}
use Rattle.sheet.specs.Orders.{joined_temporaries, temporaries, comparison_temporaries}
use Rattle.sheet.specs.Formed.{Expressed}
use Rattle.sheet.proofs.Each.{Each, each_append, each_map}

-- an order of an expression, whose words are variables and the first t temporaries
abbrev pub OfExpression : ℕ → ℕ → Order → Type 0
OfExpression v t (Word f w) = (2 ≤ w) × (w < v + 2 + t)
OfExpression v t (Number f n) = n ≤ greatest_number
OfExpression v t (Store w) = (v + 2 ≤ w) × (w < v + 2 + t)
OfExpression v t Neg = Unit {0}
OfExpression v t Not = Unit {0}
OfExpression v t (Jump a) = ⊥
OfExpression v t (Skip a) = ⊥
OfExpression v t (Branch r a) = ⊥
OfExpression v t (Cond n) = ⊥
OfExpression v t Send = ⊥
OfExpression v t Stop = ⊥

more_temporaries : (v t u : ℕ) → t ≤ u → (o : Order) → OfExpression v t o → OfExpression v u o
more_temporaries v t u h (Word f w) p = (p.0, omega arith)
more_temporaries v t u h (Number f n) p = p
more_temporaries v t u h (Store w) p = (p.0, omega arith)
more_temporaries v t u h Neg p = p
more_temporaries v t u h Not p = p
more_temporaries v t u h (Jump a) p = p
more_temporaries v t u h (Skip a) p = p
more_temporaries v t u h (Branch r a) p = p
more_temporaries v t u h (Cond n) p = p
more_temporaries v t u h Send p = p
more_temporaries v t u h Stop p = p

each_more : (v t u : ℕ) → t ≤ u → (l : List Order) → Each (OfExpression v t) l → Each (OfExpression v u) l
each_more v t u h = each_map (OfExpression v t) (OfExpression v u) (more_temporaries v t u h)

kept :
    (f : Operation) (v d : ℕ) (left right : List Order) (a b : ℕ)
    → Each (OfExpression v (d + a)) left
    → Each (OfExpression v (suc d + b)) right
    → Each (OfExpression v (d + joined_temporaries worked_out a b)) (joined f v d worked_out left right)
kept f v d left right a b hl hr =
    each_append P (left ++ Store (temporary v d) ∷ right) _
    (each_append P left _ (each_more v (d + a) t (omega arith) left hl)
    ((omega arith, omega arith), each_more v (suc d + b) t (omega arith) right hr))
    ((omega arith, omega arith), ((omega arith, omega arith), ((omega arith, omega arith), tt)))
  where
    t : ℕ
    t = d + joined_temporaries worked_out a b

    P : Order → Type 0
    P = OfExpression v t

joined_orders :
    (f : Operation) (v d : ℕ) (r : Expression) (left right : List Order) (a b : ℕ)
    → Expressed v r
    → Each (OfExpression v (d + a)) left
    → Each (OfExpression v (suc d + b)) right
    → Each (OfExpression v (d + joined_temporaries (operand r) a b)) (joined f v d (operand r) left right)
unfolding Expressed
joined_orders f v d (word w) left right a b x hl hr =
    each_append (OfExpression v (d + a)) left _ hl ((x.0, omega arith), tt)
joined_orders f v d (constant n) left right a b x hl hr =
    each_append (OfExpression v (d + a)) left _ hl (x, tt)
joined_orders f v d (negated e) left right a b x hl hr = kept f v d left right a b hl hr
joined_orders f v d (inverted e) left right a b x hl hr = kept f v d left right a b hl hr
joined_orders f v d (binary o l r) left right a b x hl hr = kept f v d left right a b hl hr

code_orders : (v d : ℕ) (e : Expression) → Expressed v e → Each (OfExpression v (d + temporaries e)) (code v d e)
unfolding Expressed code temporaries
code_orders v d (word w) x = ((x.0, omega arith), tt)
code_orders v d (constant n) x = (x, tt)
code_orders v d (negated e) x =
    each_append (OfExpression v (d + temporaries e)) (code v d e) _ (code_orders v d e x) (tt, tt)
code_orders v d (inverted e) x =
    each_append (OfExpression v (d + temporaries e)) (code v d e) _ (code_orders v d e x) (tt, tt)
code_orders v d (binary o l r) x =
    joined_orders (operation o) v d r (code v d l) (code v (suc d) r) (temporaries l) (temporaries r) x.1
    (code_orders v d l x.0)
    (code_orders v (suc d) r x.1)

-- those of a statement, which begins with no temporary in use
pub statement_orders : (v : ℕ) (e : Expression) → Expressed v e → Each (OfExpression v (temporaries e)) (code v 0 e)
statement_orders v e x = each_more v (0 + temporaries e) (temporaries e) (omega arith) (code v 0 e) (code_orders v 0 e x)

pub comparison_orders :
    (v : ℕ) (a b : Expression)
    → Expressed v a
    → Expressed v b
    → Each (OfExpression v (comparison_temporaries a b)) (comparison_code v a b)
comparison_orders v a b x y =
    each_more v (0 + comparison_temporaries a b) (comparison_temporaries a b) (omega arith) (comparison_code v a b)
    (joined_orders Cmp v 0 b (code v 0 a) (code v 1 b) (temporaries a) (temporaries b) y
    (code_orders v 0 a x) (code_orders v 1 b y))

-- ---- there is one at least

joined_some :
    (f : Operation) (v d : ℕ) (r : Expression) (left right : List Order)
    → 1 ≤ length (joined f v d (operand r) left right)
joined_some f v d (word w) left right = simp length-append (omega arith)
joined_some f v d (constant n) left right = simp length-append (omega arith)
joined_some f v d (negated e) left right = simp length-append (omega arith)
joined_some f v d (inverted e) left right = simp length-append (omega arith)
joined_some f v d (binary o a b) left right = simp length-append (omega arith)

pub code_some : (v d : ℕ) (e : Expression) → 1 ≤ length (code v d e)
unfolding code
code_some v d (word w) = omega arith
code_some v d (constant n) = omega arith
code_some v d (negated e) = simp length-append (omega arith)
code_some v d (inverted e) = simp length-append (omega arith)
code_some v d (binary o l r) = joined_some (operation o) v d r (code v d l) (code v (suc d) r)

pub comparison_some : (v : ℕ) (a b : Expression) → 1 ≤ length (comparison_code v a b)
comparison_some v a b = joined_some Cmp v 0 b (code v 0 a) (code v 1 b)
