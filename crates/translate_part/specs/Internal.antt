-- What the functions do. While a part is put its jumps have the numbers of instructions for addresses.
use Rattle.std.specs.Prelude.{ℕ, ◌+◌, ◌≤◌, ◌<◌, ◌≡◌, Bool, true, false, Option, None, Some, List, [], ◌∷◌, ◌++◌, length}
use Rattle.order.specs.declared.Order.{Order}
use Rattle.order.specs.declared.Order.TheVariants.{Store, Skip, Send as SendOrder}
use Rattle.sheet.specs.declared.Field.{Field}
use Rattle.sheet.specs.declared.Field.TheVariants.{Else, Start, Finish, If, Send, Neg, Not, Binary, Compare, Word, Constant, Set, Goto, Run}
use Rattle.sheet.specs.Sheet.{Expression, Condition, Part, end, when, either}
use Rattle.sheet.specs.Fields.{expression_fields}
use Rattle.sheet.specs.Memory.{condition_fields, part_fields}
use Rattle.sheet.specs.Orders.{temporary, code}
use Rattle.sheet.specs.Translation.{size, part_code}
use Rattle.sheet_field.specs.Memory.{fields_at}
use Rattle.translate_expression.specs.declared.Spot.{Spot}
use Rattle.translate_expression.specs.Internal.{Done}
use Rattle.translate_condition.specs.Internal.{Small}
use Rattle.translate_part.specs.declared.Opening.{Opening}
use Rattle.translate_part.specs.declared.Opening.TheVariants.{Last, Goto as Jumps, If as Asks}
use Rattle.translate_part.specs.declared.Closed.{Closed}

-- ---- fields

abbrev pub opening_of : Field → Option Opening
opening_of Else = None
opening_of Start = None
opening_of Finish = None
opening_of If = Some Asks
opening_of Send = Some (Last SendOrder)
opening_of Neg = None
opening_of Not = None
opening_of (Binary o) = None
opening_of (Compare r) = None
opening_of (Word w) = None
opening_of (Constant n) = None
opening_of (Set w) = Some (Last (Store w))
opening_of (Goto s) = Some (Jumps s)
opening_of (Run w n) = None

abbrev pub first_opening : List Field → Option Opening
first_opening [] = None
first_opening (f ∷ l) = opening_of f

abbrev pub else_field : Field → Bool
else_field Else = true
else_field Start = false
else_field Finish = false
else_field If = false
else_field Send = false
else_field Neg = false
else_field Not = false
else_field (Binary o) = false
else_field (Compare r) = false
else_field (Word w) = false
else_field (Constant n) = false
else_field (Set w) = false
else_field (Goto s) = false
else_field (Run w n) = false

abbrev pub is_else : List Field → Bool
is_else [] = false
is_else (f ∷ l) = else_field f

-- ---- orders

-- the code of instructions whose jumps are not led yet
abbrev pub unled : ℕ → ℕ → Part → List Order
unled v p x = part_code v (λ s. s) p x

-- the place n orders further on, or the end
pub record Further (long i n r : ℕ) : Type 0 where
  pub room : i + n ≤ long → r ≡ i + n
  pub over : i ≤ long → long ≤ i + n → r ≡ long

-- whatever expression stands at a place, its orders and o are put
pub record Ending (fs : List ℕ) (at : ℕ) (o : Order) (word i : ℕ) (out : List ℕ) (r : Spot) (after : List ℕ) : Type 0 where
  pub on : at ≤ r.at
  pub whole :
      (v : ℕ) (e : Expression) (l : List Field)
      → word ≡ temporary v 0
      → fields_at at fs ≡ expression_fields e ++ l
      → Small fs word out
      → Done fs l (code v 0 e ++ o ∷ []) i out r after

-- whatever instructions stand at a place, with no instruction behind them, their orders are put
pub record Parting (fs : List ℕ) (at word i : ℕ) (out : List ℕ) (r : Spot) (after : List ℕ) : Type 0 where
  pub on : at ≤ r.at
  pub whole :
      (v : ℕ) (x : Part) (l : List Field)
      → word ≡ temporary v 0
      → fields_at at fs ≡ part_fields x ++ l
      → first_opening l ≡ None
      → Small fs word out
      → Done fs l (unled v i x) i out r after

-- behind an IF's first part, which ends at x: FINISH; or ELSE and a second part. A no leads behind the orders of the first part, or
-- behind the SKIP
pub record Closing (fs : List ℕ) (word : ℕ) (x : Spot) (out : List ℕ) (r : Closed) (after : List ℕ) : Type 0 where
  pub on : x.at ≤ r.at
  pub one :
      (l : List Field)
      → fields_at x.at fs ≡ Finish ∷ l
      → Small fs word out
      → Done fs l [] x.i out (record { at = r.at; i = r.i }) after
      × (x.i ≤ length out → r.no ≡ x.i)
  pub two :
      (v : ℕ) (y : Part) (l : List Field)
      → word ≡ temporary v 0
      → fields_at x.at fs ≡ Else ∷ (part_fields y ++ (Finish ∷ l))
      → Small fs word out
      → Done fs l (Skip (x.i + 1 + size v y) ∷ unled v (x.i + 1) y) x.i out (record { at = r.at; i = r.i }) after
      × (x.i + 1 ≤ length out → r.no ≡ x.i + 1)

-- what an IF asks, and its part or its parts
pub record Choosing (fs : List ℕ) (at word i : ℕ) (out : List ℕ) (r : Spot) (after : List ℕ) : Type 0 where
  pub on : at ≤ r.at
  pub one :
      (v : ℕ) (c : Condition) (x : Part) (l : List Field)
      → word ≡ temporary v 0
      → fields_at at fs ≡ condition_fields c ++ (Start ∷ (part_fields x ++ (Finish ∷ l)))
      → Small fs word out
      → Done fs l (unled v i (when c x end)) i out r after
  pub two :
      (v : ℕ) (c : Condition) (x y : Part) (l : List Field)
      → word ≡ temporary v 0
      → fields_at at fs ≡ condition_fields c ++ (Start ∷ (part_fields x ++ (Else ∷ (part_fields y ++ (Finish ∷ l)))))
      → Small fs word out
      → Done fs l (unled v i (either c x y end)) i out r after

-- one instruction: what is right from behind it is right from it
pub record Onward (fs : List ℕ) (word : ℕ) (s : Spot) (out : List ℕ) (r : Spot) (after : List ℕ) : Type 0 where
  pub on : s.at < r.at
  pub inside : s.at < length fs
  pub onward : (t : Spot) (last : List ℕ) → Parting fs r.at word r.i after t last → Parting fs s.at word s.i out t last

pub record Ended (fs : List ℕ) (s : Spot) (out after : List ℕ) : Type 0 where
  pub stop : first_opening (fields_at s.at fs) ≡ None
  pub same : after ≡ out

pub record Turning (fs : List ℕ) (word : ℕ) (s : Spot) (out : List ℕ) (n : Option Spot) (after : List ℕ) : Type 0 where
  pub more : (r : Spot) → n ≡ Some r → Onward fs word s out r after
  pub done : n ≡ None → Ended fs s out after
