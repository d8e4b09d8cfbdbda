-- What the private functions do.
use Rattle.std.specs.Prelude.{ℕ, ◌+◌, ◌*◌, ◌-◌, ◌≤◌, ◌<◌, max, ◌≡◌, true, false, List, [], ◌∷◌, ◌++◌, length}
use Rattle.word.specs.declared.Relation.{Relation}
use Rattle.order.specs.declared.Operation.{Operation}
use Rattle.order.specs.declared.Order.{Order}
use Rattle.sheet.specs.declared.Field.{Field}
use Rattle.sheet.specs.declared.Field.TheVariants.{Else, Start, Finish}
use Rattle.sheet.specs.Sheet.{Expression, Simple, Condition, compares}
use Rattle.sheet.specs.Fields.{expression_fields, simple_fields}
use Rattle.sheet.specs.Memory.{condition_fields}
use Rattle.sheet.specs.Orders.{code, simple_size, temporaries, simple_temporaries}
use Rattle.sheet.specs.Condition.{comparisons, trying, asking, condition_temporaries}
use Rattle.sheet_field.specs.Memory.{fields_at}
use Rattle.translate_expression.specs.declared.Step.{Step}
use Rattle.translate_expression.specs.declared.Step.TheVariants.{Put, Right}
use Rattle.translate_expression.specs.Internal.{first_node, is_operator}
use Rattle.translate_size.specs.declared.Counted.{Counted}
use Rattle.translate_size.specs.declared.Asked.{Asked}
use Rattle.translate_size.specs.declared.Size.{Size}
use Rattle.translate_size.specs.Answers.{capped, Sizes}

pub record Past (n at r : ℕ) : Type 0 where
  pub on : at ≤ r
  pub inside : at < n → r ≡ at + 1
  pub outside : n ≤ at → r ≡ at

-- the fields l are left, and so many orders and temporaries were counted
pub record Counts (fs : List ℕ) (l : List Field) (os ts : ℕ) (r : Counted) : Type 0 where
  pub rest : fields_at r.at fs ≡ l
  pub its_orders : r.orders ≡ capped os
  pub its_temporaries : r.temporaries ≡ capped ts

-- whatever expression stands at a place, with d temporaries in use
pub record Measuring (fs : List ℕ) (at : ℕ) (r : Counted) : Type 0 where
  pub on : at ≤ r.at
  pub whole :
      (v d : ℕ) (e : Expression) (l : List Field)
      → fields_at at fs ≡ expression_fields e ++ l
      → Counts fs l (length (code v d e)) (temporaries e) r

abbrev pub Leaf : List ℕ → ℕ → Counted → Type 0
Leaf fs at r = is_operator (first_node (fields_at at fs)) ≡ false → Measuring fs at r

-- a right operand that is worked out, behind a left one of so many orders and temporaries
pub record Righting (fs : List ℕ) (s r : Counted) : Type 0 where
  pub on : s.at ≤ r.at
  pub whole :
      (v d os ts : ℕ) (e : Expression) (l : List Field)
      → s.orders ≡ capped os
      → s.temporaries ≡ capped ts
      → fields_at s.at fs ≡ expression_fields e ++ l
      → Counts fs l (os + length (code v d e) + 4) (max ts (max 2 (1 + temporaries e))) r

-- one order more, and the fields go on at a place
pub record OneMore (s : Counted) (a : ℕ) (r : Counted) : Type 0 where
  pub place : r.at ≡ a
  pub one_order : r.orders ≡ capped (s.orders + 1)
  pub same_temporaries : r.temporaries ≡ s.temporaries

pub record Stepping (fs : List ℕ) (step : Step) (s r : Counted) : Type 0 where
  pub put : (o : Order) (a : ℕ) → step ≡ Put o a → OneMore s a r
  pub right : (f : Operation) → step ≡ Right f → Righting fs s r

-- one operator outwards: what held from behind the operator holds from it
pub record Operating (fs : List ℕ) (j : ℕ) (s r : Counted) : Type 0 where
  pub on : s.at ≤ r.at
  pub outwards : is_operator (first_node (fields_at j fs)) ≡ true → Measuring fs (j + 1) s → Measuring fs j r

-- the operators from place j outwards: a loop from j₀ down
pub record Outwards (fs : List ℕ) (at j₀ : ℕ) (s₀ : Counted) (j : ℕ) (s : Counted) : Type 0 where
  pub low : at ≤ j
  pub high : j ≤ j₀
  pub far : s₀.at ≤ s.at
  pub outwards : Measuring fs j₀ s₀ → Measuring fs j s

-- ---- what an IF asks

-- whatever comparison's fields stand at a place
pub record Comparing (fs : List ℕ) (at : ℕ) (r : Counted) : Type 0 where
  pub on : at ≤ r.at
  pub whole :
      (v : ℕ) (t : Relation) (a b : Expression) (l : List Field)
      → fields_at at fs ≡ condition_fields (compares t a b) ++ l
      → Counts fs l (trying v (compares t a b)) (condition_temporaries (compares t a b)) r

-- of conditions one behind the other: their fields, the sum of a number of each, and the most
unfoldable pub all_fields : List Condition → List Field
all_fields [] = []
all_fields (c ∷ cs) = condition_fields c ++ all_fields cs

unfoldable pub total : (Condition → ℕ) → List Condition → ℕ
total f [] = 0
total f (c ∷ cs) = f c + total f cs

unfoldable pub most : (Condition → ℕ) → List Condition → ℕ
most f [] = 0
most f (c ∷ cs) = max (f c) (most f cs)

-- the condition c, counted but for those of its conditions that are yet to come, of each of which one comparison is counted
pub record Open (fs : List ℕ) (v : ℕ) (c : Condition) (l : List Field) (s : Asked) : Type 0 where
  pub to_come : List Condition
  pub os : ℕ
  pub ts : ℕ
  pub ns : ℕ
  pub many : length to_come ≡ s.left
  pub rest : fields_at s.at fs ≡ all_fields to_come ++ l
  pub its_orders : s.orders ≡ capped os
  pub its_temporaries : s.temporaries ≡ capped ts
  pub its_comparisons : s.comparisons ≡ capped ns
  pub all_orders : os + total (trying v) to_come ≡ trying v c
  pub all_temporaries : max ts (most condition_temporaries to_come) ≡ condition_temporaries c
  pub all_comparisons : ns + total comparisons to_come ≡ comparisons c + length to_come

-- one field more: no more conditions are to come than fields were passed, and what is left to do falls
pub record Onward (fs : List ℕ) (s r : Asked) : Type 0 where
  pub on : s.at ≤ r.at
  pub few : r.left ≤ r.at + 1
  pub falls : 2 * (length fs - r.at) + r.left < 2 * (length fs - s.at) + s.left
  pub still : (v : ℕ) (c : Condition) (l : List Field) → Open fs v c l s → Open fs v c l r

-- the fields l are left, and so many orders, temporaries and comparisons were counted
pub record Asks (fs : List ℕ) (l : List Field) (os ts ns : ℕ) (r : Asked) : Type 0 where
  pub rest : fields_at r.at fs ≡ l
  pub its_orders : r.orders ≡ capped os
  pub its_temporaries : r.temporaries ≡ capped ts
  pub its_comparisons : r.comparisons ≡ capped ns

-- whatever condition's fields stand at a place: its comparisons, and all of it
pub record Trying (fs : List ℕ) (at : ℕ) (r : Asked) : Type 0 where
  pub on : at ≤ r.at
  pub whole :
      (v : ℕ) (c : Condition) (l : List Field)
      → fields_at at fs ≡ condition_fields c ++ l
      → Asks fs l (trying v c) (condition_temporaries c) (comparisons c) r

pub record Asking (fs : List ℕ) (at : ℕ) (r : Asked) : Type 0 where
  pub on : at ≤ r.at
  pub whole :
      (v : ℕ) (c : Condition) (l : List Field)
      → fields_at at fs ≡ condition_fields c ++ l
      → Asks fs l (asking v c) (condition_temporaries c) (comparisons c) r

-- ---- instructions

-- whatever instruction stands at a place that is no IF
abbrev pub Simply : List ℕ → ℕ → Counted → Type 0
Simply fs at r =
    (v : ℕ) (u : Simple) (l : List Field)
    → fields_at at fs ≡ simple_fields u ++ l
    → Counts fs l (simple_size v u) (simple_temporaries u) r

-- behind IF
pub record Ifs (fs : List ℕ) (r : Size) : Type 0 where
  pub few : r.instructions ≤ 3
  pub one :
      (v : ℕ) (c : Condition) (u : Simple)
      → fields_at 1 fs ≡ condition_fields c ++ (Start ∷ (simple_fields u ++ (Finish ∷ [])))
      → Sizes (asking v c + simple_size v u) (max (condition_temporaries c) (simple_temporaries u)) 2 (comparisons c) r
  pub two :
      (v : ℕ) (c : Condition) (u w : Simple)
      → fields_at 1 fs ≡ condition_fields c ++ (Start ∷ (simple_fields u ++ (Else ∷ (simple_fields w ++ (Finish ∷ [])))))
      → Sizes
      (asking v c + simple_size v u + 1 + simple_size v w)
      (max (condition_temporaries c) (max (simple_temporaries u) (simple_temporaries w)))
      3
      (comparisons c)
      r
  pub none :
      (v : ℕ) (c : Condition)
      → fields_at 1 fs ≡ condition_fields c ++ (Start ∷ [])
      → Sizes (asking v c) (condition_temporaries c) 1 (comparisons c) r
