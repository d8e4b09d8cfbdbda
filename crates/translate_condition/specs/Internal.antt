-- What the functions do.
use Rattle.std.specs.Prelude.{ℕ, ◌+◌, ◌≤◌, ◌<◌, ◌≡◌, true, false, Option, None, Some, List, [], ◌∷◌, ◌++◌, ltb, length}
use Rattle.base.specs.Choice.{pick}
use Rattle.word.specs.declared.Relation.{Relation}
use Rattle.order.specs.declared.Order.{Order}
use Rattle.order.specs.declared.Order.TheVariants.{Branch, Cond}
use Rattle.sheet.specs.declared.Joining.{Joining}
use Rattle.sheet.specs.declared.Joining.TheVariants.{And, Or}
use Rattle.sheet.specs.declared.Field.{Field}
use Rattle.sheet.specs.declared.Field.TheVariants.{Else, Start, Finish, If, Send, Neg, Not, Binary, Compare, Word, Constant, Set, Goto, Run}
use Rattle.sheet.specs.Sheet.{Expression, Condition}
use Rattle.sheet.specs.Fields.{expression_fields}
use Rattle.sheet.specs.Memory.{condition_fields}
use Rattle.sheet.specs.Orders.{temporary, comparison_code}
use Rattle.sheet.specs.Condition.{comparisons, try_code, asking, asking_code}
use Rattle.sheet_field.specs.Memory.{fields_at}
use Rattle.translate_expression.specs.declared.Spot.{Spot}
use Rattle.translate_expression.specs.Internal.{Puts, Done}
use Rattle.translate_size.specs.Answers.{capped}
use Rattle.translate_condition.specs.declared.Head.{Head}
use Rattle.translate_condition.specs.declared.Head.TheVariants.{Compare as Compares, Run as Joins}
use Rattle.translate_condition.specs.declared.Exits.{Exits}

-- ---- fields

abbrev pub head_of : Field → Option Head
head_of Else = None
head_of Start = None
head_of Finish = None
head_of If = None
head_of Send = None
head_of Neg = None
head_of Not = None
head_of (Binary o) = None
head_of (Compare r) = Some (Compares r)
head_of (Word w) = None
head_of (Constant n) = None
head_of (Set w) = None
head_of (Goto s) = None
head_of (Run w n) = Some (Joins w)

abbrev pub first_head : List Field → Option Head
first_head [] = None
first_head (f ∷ l) = head_of f

-- ---- orders

-- the exits of a run's first member, where the rest begins with order `next`
abbrev pub first_exits : Joining → ℕ → Exits → Exits
first_exits And next x = record { falls = true; yes = next; no = x.no }
first_exits Or next x = record { falls = false; yes = x.yes; no = next }

-- COND before two comparisons or more
abbrev pub cond_of : ℕ → List Order
cond_of count = pick (ltb 1 count) (Cond count ∷ []) []

-- no sum of places passes a word
pub record Small (fs : List ℕ) (word : ℕ) (out : List ℕ) : Type 0 where
  pub fields : word + 1 + length fs ≤ 4294967295
  pub orders : length out < 4294967295

-- whatever two expressions stand at a place, the orders of their comparison and the branch are put
pub record Comparing (fs : List ℕ) (at word i : ℕ) (s : Relation) (to : ℕ) (out : List ℕ) (r : Spot) (after : List ℕ) : Type 0 where
  pub on : at ≤ r.at
  pub whole :
      (v : ℕ) (a b : Expression) (l : List Field)
      → word ≡ temporary v 0
      → fields_at at fs ≡ expression_fields a ++ (expression_fields b ++ l)
      → Small fs word out
      → Done fs l (comparison_code v a b ++ Branch s to ∷ []) i out r after

-- whatever condition stands at a place, the orders that try it are put
pub record Trying (fs : List ℕ) (at word i : ℕ) (x : Exits) (out : List ℕ) (r : Spot) (after : List ℕ) : Type 0 where
  pub on : at ≤ r.at
  pub whole :
      (v : ℕ) (c : Condition) (l : List Field)
      → word ≡ temporary v 0
      → fields_at at fs ≡ condition_fields c ++ l
      → Small fs word out
      → Done fs l (try_code v i x.falls x.yes x.no c) i out r after

-- the same with COND, where a yes leads behind these orders
abbrev pub Asking : List ℕ → ℕ → ℕ → ℕ → ℕ → ℕ → ℕ → List ℕ → ℕ → List ℕ → Type 0
Asking fs at word i count yes_at no_at out r after =
    (v : ℕ) (c : Condition) (l : List Field)
    → word ≡ temporary v 0
    → fields_at at fs ≡ condition_fields c ++ l
    → Small fs word out
    → count ≡ capped (comparisons c)
    → (i + asking v c ≤ length out → yes_at ≡ i + asking v c)
    → Puts (asking_code v i c no_at) i out r after
