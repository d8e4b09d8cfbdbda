-- What the functions do.
use Rattle.std.specs.Prelude.{ℕ, suc, ◌+◌, ◌-◌, ◌≤◌, ◌<◌, ◌≡◌, Bool, true, false, List, [], ◌∷◌, ◌++◌, Option, Some, None, ltb, leb, eqb, length, get_or}
use Rattle.std.proofs.lemmas.List.Edits.{sets}
use Rattle.base.specs.Choice.{pick}
use Rattle.word.specs.declared.Relation.{Relation}
use Rattle.order.specs.declared.Order.{Order}
use Rattle.order.specs.declared.Order.TheVariants.{Word, Number, Store, Neg, Not, Jump, Skip, Branch, Cond, Send, Stop}
use Rattle.sheet.specs.declared.Joining.{Joining}
use Rattle.sheet.specs.declared.Field.{Field}
use Rattle.sheet.specs.declared.Field.TheVariants.{Else, Start, Finish, If, Send as SendField, Compare, Set}
use Rattle.sheet.specs.Sheet.{Expression, Simple, Condition, compares, joins, Part}
use Rattle.sheet.specs.Fields.{expression_fields, simple_fields}
use Rattle.sheet.specs.Memory.{condition_fields, part_fields}
use Rattle.sheet.specs.Orders.{code, simple_code, comparison_code, opposite}
use Rattle.sheet.specs.Formed.{Expressed, Leads, SimpleFormed}
use Rattle.sheet.specs.Condition.{comparisons, asking, asking_code, ConditionFormed}
use Rattle.sheet.specs.Translation.{size, part_code}
use Rattle.sheet.specs.Within.{PartFormed, depth}
use Rattle.sheet_field.specs.Memory.{field_word}
use Rattle.untranslate_expression.specs.declared.Spot.{Spot}
use Rattle.untranslate_expression.specs.Internal.{orders_at, first_order, link_of, Writes, Safe, Wrote}
use Rattle.untranslate_part.specs.declared.Role.{Role}
use Rattle.untranslate_part.specs.declared.Role.TheVariants.{Inside, Last, Goto, Branch as Branches, Cond as Conds, Skip as Skips, Stop as Stops}
use Rattle.untranslate_part.specs.declared.Begun.{Begun}
use Rattle.untranslate_part.specs.declared.Begun.TheVariants.{Whole, Asked}
use Rattle.untranslate_part.specs.declared.Parts.{Parts}
use Rattle.untranslate_part.specs.declared.Parts.TheVariants.{One, Two}

-- ---- orders; `first` is the word of the first temporary

abbrev pub role_of : ℕ → Order → Role
role_of first (Word f w) = Inside
role_of first (Number f n) = Inside
role_of first (Store w) = pick (ltb w first) (Last (Set w)) Inside
role_of first Neg = Inside
role_of first Not = Inside
role_of first (Jump a) = Goto a
role_of first (Skip a) = Skips a
role_of first (Branch r a) = Branches r a
role_of first (Cond n) = Conds n
role_of first Send = Last SendField
role_of first Stop = Stops

abbrev pub role_at : ℕ → ℕ → List ℕ → Role
role_at first at os = role_of first (first_order (orders_at at os))

-- ---- the numbers of instructions: `inner`, `is_last`, `of_instruction` and `beginnings` of sheet, told from roles

abbrev pub inner_by : ℕ → Role → ℕ
inner_by k Inside = k
inner_by k (Last f) = k
inner_by k (Goto a) = k
inner_by k (Branches r a) = k - 1
inner_by k (Conds n) = n - 1
inner_by k (Skips a) = k
inner_by k Stops = k

abbrev pub ends_by : ℕ → Role → Bool
ends_by k Inside = false
ends_by k (Last f) = true
ends_by k (Goto a) = true
ends_by k (Branches r a) = eqb k 0
ends_by k (Conds n) = false
ends_by k (Skips a) = true
ends_by k Stops = false

abbrev pub begins_by : Role → Bool
begins_by Inside = true
begins_by (Last f) = true
begins_by (Goto a) = true
begins_by (Branches r a) = true
begins_by (Conds n) = true
begins_by (Skips a) = false
begins_by Stops = false

-- the number of the next instruction behind an order, where n is that before it; `here` says whether an instruction begins with the
-- order, if that is an instruction's
abbrev pub number_behind : Bool → Role → ℕ → ℕ
number_behind here q n = pick here (pick (begins_by q) (suc n) n) n

-- for each order the number of the instruction that begins with it, or of the next that begins; k branches are to come that do not end
-- their IF
unfoldable pub numbers : ℕ → Bool → ℕ → ℕ → List Order → List ℕ
numbers first here k n [] = []
numbers first here k n (o ∷ l) =
    n
    ∷ numbers first (ends_by k (role_of first o)) (inner_by k (role_of first o)) (number_behind here (role_of first o) n) l

-- ---- an expression or one comparison, and the order behind it

pub record IfPut (s : Relation) (n : ℕ) (fs after : List ℕ) : Type 0 where
  pub kept : length after ≡ length fs
  pub fields : n + 1 < length fs → after ≡ sets fs n (field_word If ∷ field_word (Compare (opposite s)) ∷ [])

-- places behind s
pub record Further (s : Spot) (fs : List ℕ) (r : Spot) (after : List ℕ) : Type 0 where
  pub on : s.at < r.at
  pub safe : Safe s.n fs r.n after

-- the answer holds the places behind the fields es, which were written, and the orders l are left
pub record Gives (answer : Spot → Begun) (b : Option Begun) (os : List ℕ) (es : List Field) (l : List Order) (n : ℕ) (fs after : List ℕ)
    : Type 0 where
  pub spot : Spot
  pub is : b ≡ Some (answer spot)
  pub wrote : Wrote os es l n fs spot after

-- whatever expression or comparison stands at a place, with the order behind it
pub record Chained (os : List ℕ) (first : ℕ) (s : Spot) (fs : List ℕ) (b : Option Begun) (after : List ℕ) : Type 0 where
  pub kept : length after ≡ length fs
  pub whole : (r : Spot) → b ≡ Some (Whole r) → Further s fs r after
  pub asked : (r : Spot) (a : ℕ) → b ≡ Some (Asked r a) → Further s fs r after
  pub lasts :
      (v : ℕ) (e : Expression) (o : Order) (f : Field) (l : List Order)
      → first ≡ v + 2
      → first + length os ≤ 4294967295
      → Expressed v e
      → role_of first o ≡ Last f
      → link_of first first (o ∷ l) ≡ None
      → orders_at s.at os ≡ code v 0 e ++ (o ∷ l)
      → s.n + length (f ∷ expression_fields e) ≤ length fs
      → Gives (λ r. Whole r) b os (f ∷ expression_fields e) l s.n fs after
  pub asks :
      (v : ℕ) (r : Relation) (x y : Expression) (d : ℕ) (l : List Order)
      → first ≡ v + 2
      → first + length os ≤ 4294967295
      → Expressed v x
      → Expressed v y
      → orders_at s.at os ≡ comparison_code v x y ++ (Branch (opposite r) d ∷ l)
      → s.n + length (If ∷ condition_fields (compares r x y)) ≤ length fs
      → Gives (λ r. Asked r d) b os (If ∷ condition_fields (compares r x y)) l s.n fs after

-- ---- COND and a joined condition

-- whatever joined condition stands at a place, where COND has the number `many`
pub record Joined (os : List ℕ) (first : ℕ) (s : Spot) (many : ℕ) (fs : List ℕ) (b : Option Begun) (after : List ℕ) : Type 0 where
  pub kept : length after ≡ length fs
  pub never : (r : Spot) → b ≡ Some (Whole r) → ⊥
  pub asked : (r : Spot) (a : ℕ) → b ≡ Some (Asked r a) → Further s fs r after
  pub asks :
      (v : ℕ) (w : Joining) (x y : Condition) (d : ℕ) (l : List Order)
      → first ≡ v + 2
      → first + length os ≤ 4294967295
      → ConditionFormed v (joins w x y)
      → many ≡ comparisons (joins w x y)
      → orders_at s.at os ≡ asking_code v s.at (joins w x y) d ++ l
      → s.at + asking v (joins w x y) < d
      → s.n + length (If ∷ condition_fields (joins w x y)) ≤ length fs
      → Gives (λ r. Asked r d) b os (If ∷ condition_fields (joins w x y)) l s.n fs after

-- ---- an instruction by its first order

-- what is known of a sheet: `to` gives the address that GOTO s leads to, and the table the number of that address
pub record Known (os table : List ℕ) (first v m : ℕ) (to : ℕ → ℕ) : Type 0 where
  pub start : first ≡ v + 2
  pub few : first + length os ≤ 4294967295
  pub leads : (s : ℕ) → Leads m s → get_or table (to s) 0 ≡ s

-- whatever instruction stands at a place; of an IF what it asks
pub record Beginning (os table : List ℕ) (first : ℕ) (s : Spot) (fs : List ℕ) (b : Option Begun) (after : List ℕ) : Type 0 where
  pub kept : length after ≡ length fs
  pub whole : (r : Spot) → b ≡ Some (Whole r) → Further s fs r after
  pub asked : (r : Spot) (a : ℕ) → b ≡ Some (Asked r a) → Further s fs r after
  pub simple :
      (v m : ℕ) (to : ℕ → ℕ) (u : Simple) (l : List Order)
      → Known os table first v m to
      → SimpleFormed v m u
      → orders_at s.at os ≡ simple_code v to u ++ l
      → s.n + length (simple_fields u) ≤ length fs
      → Gives (λ r. Whole r) b os (simple_fields u) l s.n fs after
  pub asks :
      (v m : ℕ) (to : ℕ → ℕ) (c : Condition) (d : ℕ) (l : List Order)
      → Known os table first v m to
      → ConditionFormed v c
      → orders_at s.at os ≡ asking_code v s.at c d ++ l
      → s.at + asking v c < d
      → s.n + length (If ∷ condition_fields c) ≤ length fs
      → Gives (λ r. Asked r d) b os (If ∷ condition_fields c) l s.n fs after

-- ---- instructions one behind the other

-- the order before `to` is a SKIP exactly where there is a second part
abbrev pub parts_by : ℕ → ℕ → Role → Option Parts
parts_by to end Inside = Some (One to)
parts_by to end (Last f) = Some (One to)
parts_by to end (Goto a) = Some (One to)
parts_by to end (Branches r a) = Some (One to)
parts_by to end (Conds n) = Some (One to)
parts_by to end (Skips z) = pick (ltb to z) (pick (leb z end) (Some (Two (to - 1) to z)) None) None
parts_by to end Stops = Some (One to)

abbrev pub parts_of : ℕ → ℕ → ℕ → Role → Option Parts
parts_of at to end q = pick (ltb at to) (pick (leb to end) (parts_by to end q) None) None

-- the orders of x stand from order `at` to before order q, with others behind them
pub record Stands (os table : List ℕ) (first at q deep v m : ℕ) (to : ℕ → ℕ) (x : Part) (rest : List Order) : Type 0 where
  pub known : Known os table first v m to
  pub formed : PartFormed v m x
  pub shallow : depth x ≤ deep
  pub codes : orders_at at os ≡ part_code v to at x ++ rest
  pub ends : at + size v x ≡ q
  pub more : 1 ≤ length rest

-- whatever instructions stand there, their fields are written
abbrev pub Wholly : List ℕ → List ℕ → ℕ → ℕ → ℕ → ℕ → List ℕ → ℕ → ℕ → List ℕ → Type 0
Wholly os table at q first deep fs n r after =
    (v m : ℕ) (to : ℕ → ℕ) (x : Part) (rest : List Order)
    → Stands os table first at q deep v m to x rest
    → n + length (part_fields x) ≤ length fs
    → Writes (part_fields x) n fs r after

pub record Parting (os table : List ℕ) (at q first deep : ℕ) (fs : List ℕ) (n r : ℕ) (after : List ℕ) : Type 0 where
  pub safe : Safe n fs r after
  pub whole : Wholly os table at q first deep fs n r after

pub record Grouping (os table : List ℕ) (at q first deep : ℕ) (mark : Field) (fs : List ℕ) (n r : ℕ) (after : List ℕ) : Type 0 where
  pub safe : Safe n fs r after
  pub whole :
      (v m : ℕ) (to : ℕ → ℕ) (x : Part) (rest : List Order)
      → Stands os table first at q deep v m to x rest
      → n + length (mark ∷ part_fields x) ≤ length fs
      → Writes (mark ∷ part_fields x) n fs r after

-- the answer holds the places behind the fields es and before order q
pub record Leaves (t : Option Spot) (q : ℕ) (es : List Field) (n : ℕ) (fs after : List ℕ) : Type 0 where
  pub spot : Spot
  pub is : t ≡ Some spot
  pub there : spot.at ≡ q
  pub writes : Writes es n fs spot.n after

-- the parts of an IF, behind its branch to order a
pub record Choosing (os table : List ℕ) (b : Spot) (a q first deep : ℕ) (fs : List ℕ) (t : Option Spot) (after : List ℕ) : Type 0 where
  pub kept : length after ≡ length fs
  pub more : (r : Spot) → t ≡ Some r → Further b fs r after
  pub one :
      (v m : ℕ) (to : ℕ → ℕ) (x : Part) (rest : List Order)
      → Stands os table first b.at a (deep - 1) v m to x rest
      → 1 ≤ deep
      → parts_by a q (role_at first (a - 1) os) ≡ Some (One a)
      → b.at < a
      → a ≤ q
      → b.n + length (Start ∷ (part_fields x ++ (Finish ∷ []))) ≤ length fs
      → Leaves t a (Start ∷ (part_fields x ++ (Finish ∷ []))) b.n fs after
  pub two :
      (v m : ℕ) (to : ℕ → ℕ) (x y : Part) (z : ℕ) (rest more : List Order)
      → Stands os table first b.at (a - 1) (deep - 1) v m to x rest
      → Stands os table first a z (deep - 1) v m to y more
      → 1 ≤ deep
      → role_at first (a - 1) os ≡ Skips z
      → b.at < a
      → a < z
      → z ≤ q
      → b.n + length (Start ∷ (part_fields x ++ (Else ∷ (part_fields y ++ (Finish ∷ []))))) ≤ length fs
      → Leaves t z (Start ∷ (part_fields x ++ (Else ∷ (part_fields y ++ (Finish ∷ []))))) b.n fs after

-- one instruction: what is right from behind it is right from it
pub record Onward (os table : List ℕ) (q first deep : ℕ) (s : Spot) (fs : List ℕ) (r : Spot) (after : List ℕ) : Type 0 where
  pub further : Further s fs r after
  pub onward :
      s.at < q
      → (n : ℕ) (last : List ℕ)
      → Wholly os table r.at q first deep after r.n n last
      → Wholly os table s.at q first deep fs s.n n last

-- none: nothing stands there
pub record Ended (os table : List ℕ) (q first deep : ℕ) (s : Spot) (fs after : List ℕ) : Type 0 where
  pub kept : length after ≡ length fs
  pub never :
      s.at < q
      → (v m : ℕ) (to : ℕ → ℕ) (x : Part) (rest : List Order)
      → Stands os table first s.at q deep v m to x rest
      → s.n + length (part_fields x) ≤ length fs
      → ⊥

pub record Turning (os table : List ℕ) (q first deep : ℕ) (s : Spot) (fs : List ℕ) (t : Option Spot) (after : List ℕ) : Type 0 where
  pub more : (r : Spot) → t ≡ Some r → Onward os table q first deep s fs r after
  pub done : t ≡ None → Ended os table q first deep s fs after
