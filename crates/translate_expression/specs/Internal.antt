-- What the private functions do.
use Rattle.std.specs.Prelude.{ℕ, suc, ◌+◌, ◌≤◌, ◌<◌, ◌≡◌, Bool, true, false, Option, None, Some, List, [], ◌∷◌, ◌++◌, map, length}
use Rattle.std.proofs.lemmas.List.Edits.{sets}
use Rattle.order.specs.declared.Operation.{Operation}
use Rattle.order.specs.declared.Operation.TheVariants.{Load, Cmp}
use Rattle.order.specs.declared.Order.{Order}
use Rattle.order.specs.declared.Order.TheVariants.{Word, Number, Store, Neg, Not}
use Rattle.sheet.specs.declared.Field.{Field}
use Rattle.sheet.specs.declared.Field.TheVariants.{Else, Start, Finish, If, Send as Sent, Neg as Negated, Not as Inverted}
use Rattle.sheet.specs.declared.Field.TheVariants.{Binary as Between, Compare, Word as InWord, Constant as Itself, Set, Goto as Gone, Run as Joined}
use Rattle.sheet.specs.Sheet.{Expression, operand}
use Rattle.sheet.specs.Fields.{expression_fields}
use Rattle.sheet.specs.Orders.{operation, temporary, code, joined}
use Rattle.sheet_field.specs.Memory.{fields_at}
use Rattle.order.specs.Memory.{order_word}
use Rattle.translate_expression.specs.declared.Operand.{Operand}
use Rattle.translate_expression.specs.declared.Operand.TheVariants.{Word as OnWord, Constant as OnConstant}
use Rattle.translate_expression.specs.declared.Node.{Node}
use Rattle.translate_expression.specs.declared.Node.TheVariants.{Plain, Unary, Binary}
use Rattle.translate_expression.specs.declared.Step.{Step}
use Rattle.translate_expression.specs.declared.Step.TheVariants.{Put, Right as RightStep}
use Rattle.translate_expression.specs.declared.Spot.{Spot}

-- ---- nodes

abbrev pub behind : List Field → List Field
behind [] = []
behind (x ∷ l) = l

abbrev pub node_of : Field → Option Node
node_of Else = None
node_of Start = None
node_of Finish = None
node_of If = None
node_of Sent = None
node_of Negated = Some (Unary Neg)
node_of Inverted = Some (Unary Not)
node_of (Between o) = Some (Binary (operation o))
node_of (Compare r) = None
node_of (InWord w) = Some (Plain (OnWord w))
node_of (Itself n) = Some (Plain (OnConstant n))
node_of (Set w) = None
node_of (Gone s) = None
node_of (Joined w n) = None

abbrev pub first_node : List Field → Option Node
first_node [] = None
first_node (x ∷ l) = node_of x

abbrev pub is_operator : Option Node → Bool
is_operator (Some (Plain x)) = false
is_operator (Some (Unary o)) = true
is_operator (Some (Binary f)) = true
is_operator None = false

-- a plain right operand; none where it is worked out
abbrev pub right_of : Option Node → Option Operand
right_of (Some (Plain x)) = Some x
right_of (Some (Unary o)) = None
right_of (Some (Binary f)) = None
right_of None = None

abbrev pub order_on : Operation → Operand → Order
order_on f (OnWord w) = Word f w
order_on f (OnConstant n) = Number f n

abbrev pub right_step : Operation → ℕ → Option Operand → Step
right_step f at (Some x) = Put (order_on f x) (at + 1)
right_step f at None = RightStep f

abbrev pub step_of : Option Node → ℕ → Option Operand → Option Step
step_of (Some (Plain x)) at q = None
step_of (Some (Unary o)) at q = Some (Put o at)
step_of (Some (Binary f)) at q = Some (right_step f at q)
step_of None at q = None

-- ---- orders put

-- the orders os, put from place i on where there is room; else the array is full
pub record Puts (os : List Order) (i : ℕ) (out : List ℕ) (r : ℕ) (after : List ℕ) : Type 0 where
  pub place : i + length os ≤ length out → r ≡ i + length os
  pub orders : i + length os ≤ length out → after ≡ sets out i (map order_word os)
  pub full : i ≤ length out → length out ≤ i + length os → r ≡ length out
  pub kept : length after ≡ length out

-- the fields l are left, and the orders os are put
pub record Done (fs : List ℕ) (l : List Field) (os : List Order) (i : ℕ) (out : List ℕ) (r : Spot) (after : List ℕ) : Type 0 where
  pub rest : fields_at r.at fs ≡ l
  pub put : Puts os i out r.i after

-- whatever expression stands at a place, its orders are put; `word` is that of the first temporary that is not in use
pub record Putting (fs : List ℕ) (at word i : ℕ) (out : List ℕ) (r : Spot) (after : List ℕ) : Type 0 where
  pub on : at ≤ r.at
  pub whole :
      (v d : ℕ) (e : Expression) (l : List Field)
      → word ≡ temporary v d
      → fields_at at fs ≡ expression_fields e ++ l
      → word + length (expression_fields e) ≤ 4294967295
      → Done fs l (code v d e) i out r after

abbrev pub closing : Operation → ℕ → ℕ → List Order
closing f a b = Store b ∷ Word Load a ∷ Word f b ∷ []

-- the same for a right operand that is worked out, with the orders around it
pub record Righting (fs : List ℕ) (at : ℕ) (f : Operation) (word i : ℕ) (out : List ℕ) (r : Spot) (after : List ℕ) : Type 0 where
  pub on : at ≤ r.at
  pub whole :
      (v d : ℕ) (e : Expression) (l : List Field)
      → word ≡ temporary v d
      → fields_at at fs ≡ expression_fields e ++ l
      → word + 1 + length (expression_fields e) ≤ 4294967295
      → Done fs l ((Store word ∷ code v (suc d) e) ++ closing f word (word + 1)) i out r after

-- the run of operators from a place on
pub record Run (fs : List ℕ) (at r : ℕ) : Type 0 where
  pub on : at ≤ r
  pub inside : at < r → r ≤ length fs
  pub operators : (k : ℕ) → at ≤ k → k < r → is_operator (first_node (fields_at k fs)) ≡ true
  pub stop : is_operator (first_node (fields_at r fs)) ≡ false

abbrev pub Leaf : List ℕ → ℕ → ℕ → List ℕ → Spot → List ℕ → Type 0
Leaf fs at i out r after =
    (word : ℕ) → is_operator (first_node (fields_at at fs)) ≡ false → Putting fs at word i out r after

-- one operator outwards: what held from behind the operator holds from it
pub record Operating (fs : List ℕ) (j word : ℕ) (s : Spot) (m : List ℕ) (r : Spot) (after : List ℕ) : Type 0 where
  pub on : s.at ≤ r.at
  pub outwards :
      is_operator (first_node (fields_at j fs)) ≡ true
      → (i : ℕ) (out : List ℕ)
      → Putting fs (j + 1) word i out s m
      → Putting fs j word i out r after

abbrev pub Next : ℕ → ℕ → Type 0
Next w r = w < 4294967295 → r ≡ w + 1

-- the operators from place j outwards: a loop from j₀ down
pub record Outwards (fs : List ℕ) (at word : ℕ) (m₀ : List ℕ) (j₀ : ℕ) (s₀ : Spot) (m : List ℕ) (j : ℕ) (s : Spot) : Type 0 where
  pub low : at ≤ j
  pub high : j ≤ j₀
  pub far : s₀.at ≤ s.at
  pub outwards : (i : ℕ) (out : List ℕ) → Putting fs j₀ word i out s₀ m₀ → Putting fs j word i out s m

-- the orders of a step, behind s
pub record Stepping (fs : List ℕ) (step : Step) (word : ℕ) (s : Spot) (m : List ℕ) (r : Spot) (after : List ℕ) : Type 0 where
  pub put : (o : Order) (a : ℕ) → step ≡ Put o a → (r.at ≡ a) × Puts (o ∷ []) s.i m r.i after
  pub right : (f : Operation) → step ≡ RightStep f → Righting fs s.at f word s.i m r after

-- whatever two expressions stand at a place, the orders of their comparison are put
pub record Comparing (fs : List ℕ) (at word i : ℕ) (out : List ℕ) (r : Spot) (after : List ℕ) : Type 0 where
  pub on : at ≤ r.at
  pub whole :
      (v d : ℕ) (a b : Expression) (l : List Field)
      → word ≡ temporary v d
      → fields_at at fs ≡ expression_fields a ++ (expression_fields b ++ l)
      → word + 1 + length (expression_fields a) + length (expression_fields b) ≤ 4294967295
      → Done fs l (joined Cmp v d (operand b) (code v d a) (code v (suc d) b)) i out r after
