-- What the functions do: `first_member`, `goes_on` and `tree` of sheet's specs/Guess.antt, told from orders.
use Rattle.std.specs.Prelude.{ℕ, suc, ◌+◌, ◌-◌, ◌≤◌, ◌<◌, ◌≡◌, Bool, List, [], ◌∷◌, ◌++◌, Option, Some, None, leb, eqb, length}
use Rattle.base.specs.Choice.{pick}
use Rattle.word.specs.declared.Relation.{Relation}
use Rattle.order.specs.declared.Order.{Order}
use Rattle.order.specs.declared.Order.TheVariants.{Word, Number, Store, Neg, Not, Jump, Skip, Branch, Cond, Send, Stop}
use Rattle.sheet.specs.Sheet.{Expression, Condition, compares, joins}
use Rattle.sheet.specs.Memory.{condition_fields}
use Rattle.sheet.specs.Orders.{comparison_code}
use Rattle.sheet.specs.Formed.{Expressed}
use Rattle.sheet.specs.Condition.{Merged, AllExpressed, trying, leaving}
use Rattle.sheet.specs.Guess.{furthest, on_at, alike, goes_on}
use Rattle.untranslate_expression.specs.Internal.{orders_at, first_order, Writes, Safe}

-- ---- branches

-- what a branch asks for, and where it leads
abbrev pub lead_of : Order → Option (Relation × ℕ)
lead_of (Word f w) = None
lead_of (Number f n) = None
lead_of (Store w) = None
lead_of Neg = None
lead_of Not = None
lead_of (Jump a) = None
lead_of (Skip a) = None
lead_of (Branch r a) = Some (r, a)
lead_of (Cond n) = None
lead_of Send = None
lead_of Stop = None

abbrev pub lead_at : ℕ → List ℕ → Option (Relation × ℕ)
lead_at at os = lead_of (first_order (orders_at at os))

-- how many of n branches are left behind an order
abbrev pub left_by : ℕ → Option (Relation × ℕ) → ℕ
left_by n (Some lead) = n - 1
left_by n None = n

-- the order behind n branches, among orders from order k on
unfoldable pub branches_end : ℕ → ℕ → List Order → ℕ
branches_end n k [] = k
branches_end n k (o ∷ l) = pick (eqb n 0) k (branches_end (left_by n (lead_of o)) (suc k) l)

pub record PastBranches (os : List ℕ) (at n r : ℕ) : Type 0 where
  pub on : at ≤ r
  pub inside : at ≤ length os → r ≤ length os
  pub is : r ≡ branches_end n at (orders_at at os)

-- ---- the first member of a run

-- what becomes of the first member behind order k, where the orders end before order e and a branch led to order m at the furthest
abbrev pub step_by : ℕ → ℕ → ℕ → Option (Relation × ℕ) → Option ℕ
step_by e m k (Some lead) = pick (leb (furthest e m lead.1) (k + 1)) None (Some (furthest e m lead.1))
step_by e m k None = Some m

abbrev pub on_step : Option ℕ → ℕ → (ℕ → ℕ) → ℕ
on_step (Some m) k more = more m
on_step None k more = k

-- the order behind the first member, among orders from order k on
unfoldable pub member_end : ℕ → ℕ → ℕ → List Order → ℕ
member_end e m k [] = k
member_end e m k (o ∷ l) = on_step (step_by e m k (lead_of o)) (k + 1) (λ far. member_end e far (k + 1) l)

pub record FirstMember (os : List ℕ) (p q : ℕ) : Type 0 where
  pub on : p ≤ q
  pub over : p < length os → p < q
  pub inside : p ≤ length os → q ≤ length os
  pub is : q ≡ member_end (length os) 0 p (orders_at p os)

-- the answer at which the rest of a run is tried, by where its first member leads
abbrev pub goes_on_by : Bool → ℕ → Option (Relation × ℕ) → Bool
goes_on_by falls e (Some lead) = goes_on falls e lead.1
goes_on_by falls e None = falls

-- ---- the orders of a condition, and its fields

-- `try_code` of sheet, where the answer that falls through goes on behind the orders and the other leads to order d. The answer of a first
-- member that is the run's leads where that of the run does: to order d, or to the end of the run
unfoldable pub far_code : ℕ → ℕ → Bool → ℕ → Condition → List Order
far_code v p falls d (compares r x y) = comparison_code v x y ++ (Branch (leaving falls r) d ∷ [])
far_code v p falls d (joins w a b) =
    far_code v p (on_at w) (pick (alike (on_at w) falls) d (p + trying v a + trying v b)) a
    ++ far_code v (p + trying v a) falls d b

-- whatever comparison stands at a place, its fields are written
pub record Compared (os : List ℕ) (p : ℕ) (falls : Bool) (first : ℕ) (fs : List ℕ) (n r : ℕ) (after : List ℕ) : Type 0 where
  pub safe : Safe n fs r after
  pub whole :
      (v d : ℕ) (s : Relation) (x y : Expression)
      → first ≡ v + 2
      → first + length os ≤ 4294967295
      → Expressed v x
      → Expressed v y
      → orders_at p os ≡ comparison_code v x y ++ (Branch (leaving falls s) d ∷ [])
      → n + length (condition_fields (compares s x y)) ≤ length fs
      → Writes (condition_fields (compares s x y)) n fs r after

-- whatever condition the orders from a place on try, to the end of those lent
pub record Trying (os : List ℕ) (p : ℕ) (falls : Bool) (first : ℕ) (fs : List ℕ) (n r : ℕ) (after : List ℕ) : Type 0 where
  pub safe : Safe n fs r after
  pub whole :
      (v d : ℕ) (c : Condition)
      → first ≡ v + 2
      → first + length os ≤ 4294967295
      → AllExpressed v c
      → Merged c
      → orders_at p os ≡ far_code v p falls d c
      → length os < d
      → n + length (condition_fields c) ≤ length fs
      → Writes (condition_fields c) n fs r after
