-- What the functions do. An expression's orders are those of its leftmost operand, its leaf, and of the links from there outwards.
use Rattle.std.specs.Prelude.{ℕ, suc, ◌+◌, ◌-◌, ◌≤◌, ◌<◌, ◌≡◌, Bool, true, false, List, [], ◌∷◌, ◌++◌, map, Option, Some, None, ltb, eqb, length, drop}
use Rattle.std.proofs.lemmas.List.Edits.{sets}
use Rattle.base.specs.Choice.{pick}
use Rattle.order.specs.declared.Operation.{Operation}
use Rattle.order.specs.declared.Operation.TheVariants.{Cmp}
use Rattle.order.specs.declared.Order.{Order}
use Rattle.order.specs.declared.Order.TheVariants.{Word, Number, Store, Neg, Not, Jump, Skip, Branch, Cond, Send, Stop}
use Rattle.order.specs.Memory.{orders_in}
use Rattle.sheet.specs.declared.Operator.{Operator}
use Rattle.sheet.specs.declared.Field.{Field}
use Rattle.sheet.specs.declared.Field.TheVariants.{Else, Neg as NegField, Not as NotField, Binary, Word as WordField, Constant}
use Rattle.sheet.specs.Sheet.{Expression, operand}
use Rattle.sheet.specs.Fields.{expression_fields}
use Rattle.sheet.specs.Orders.{operation, temporary, joined, code}
use Rattle.sheet.specs.Formed.{Expressed}
use Rattle.sheet.specs.Guess.{by_operation}
use Rattle.sheet_field.specs.Memory.{field_word}
use Rattle.untranslate_expression.specs.declared.Use.{Use}
use Rattle.untranslate_expression.specs.declared.Use.TheVariants.{Loads, Joins, Compares}
use Rattle.untranslate_expression.specs.declared.Link.{Link}
use Rattle.untranslate_expression.specs.declared.Link.TheVariants.{Unary, Plain, Kept}
use Rattle.untranslate_expression.specs.declared.Spot.{Spot}

-- ---- orders

-- those that an array holds from a place on
abbrev pub orders_at : ℕ → List ℕ → List Order
orders_at at ws = orders_in (drop at ws)

abbrev pub first_order : List Order → Order
first_order [] = Stop
first_order (o ∷ l) = o

abbrev pub behind : List Order → List Order
behind [] = []
behind (o ∷ l) = l

abbrev pub use_of : Operation → Use
use_of f = by_operation f Loads (λ o. Joins o) Compares

abbrev pub leaf_of : Order → Field
leaf_of (Word f w) = WordField w
leaf_of (Number f n) = Constant n
leaf_of (Store w) = Else
leaf_of Neg = Else
leaf_of Not = Else
leaf_of (Jump a) = Else
leaf_of (Skip a) = Else
leaf_of (Branch r a) = Else
leaf_of (Cond n) = Else
leaf_of Send = Else
leaf_of Stop = Else

-- the order is on a variable or a constant; `first` is the word of the first temporary
abbrev pub loads_leaf : ℕ → Order → Bool
loads_leaf first (Word f w) = ltb w first
loads_leaf first (Number f n) = true
loads_leaf first (Store w) = false
loads_leaf first Neg = false
loads_leaf first Not = false
loads_leaf first (Jump a) = false
loads_leaf first (Skip a) = false
loads_leaf first (Branch r a) = false
loads_leaf first (Cond n) = false
loads_leaf first Send = false
loads_leaf first Stop = false

-- the order is LOAD of word t
abbrev pub loads : ℕ → Order → Bool
loads t (Word f w) = by_operation f (eqb w t) (λ o. false) false
loads t (Number f n) = false
loads t (Store w) = false
loads t Neg = false
loads t Not = false
loads t (Jump a) = false
loads t (Skip a) = false
loads t (Branch r a) = false
loads t (Cond n) = false
loads t Send = false
loads t Stop = false

-- what is behind the first LOAD of word t
unfoldable pub past_load : ℕ → List Order → List Order
past_load t [] = []
past_load t (o ∷ l) = pick (loads t o) l (past_load t l)

-- ---- links

-- an operation on a plain operand
abbrev pub joined_by : Field → Use → Option Link
joined_by x Loads = None
joined_by x (Joins o) = Some (Plain (Binary o) x)
joined_by x Compares = Some (Plain Else x)

abbrev pub operator_by : Use → Field
operator_by Loads = Else
operator_by (Joins o) = Binary o
operator_by Compares = Else

abbrev pub operator_of : Order → Field
operator_of (Word f w) = operator_by (use_of f)
operator_of (Number f n) = Else
operator_of (Store w) = Else
operator_of Neg = Else
operator_of Not = Else
operator_of (Jump a) = Else
operator_of (Skip a) = Else
operator_of (Branch r a) = Else
operator_of (Cond n) = Else
operator_of Send = Else
operator_of Stop = Else

-- the order o, with q behind it, as a link; t is the word of the first temporary that is not in use
abbrev pub link_by : ℕ → ℕ → Order → Order → Option Link
link_by first t (Word f w) q = joined_by (WordField w) (use_of f)
link_by first t (Number f n) q = joined_by (Constant n) (use_of f)
link_by first t (Store w) q = pick (eqb w t) (pick (loads_leaf first q) (Some Kept) None) None
link_by first t Neg q = Some (Unary NegField)
link_by first t Not q = Some (Unary NotField)
link_by first t (Jump a) q = None
link_by first t (Skip a) q = None
link_by first t (Branch r a) q = None
link_by first t (Cond n) q = None
link_by first t Send q = None
link_by first t Stop q = None

abbrev pub link_of : ℕ → ℕ → List Order → Option Link
link_of first t l = link_by first t (first_order l) (first_order (behind l))

-- an order that is a link by itself, whatever is behind it
abbrev pub joins_one : Use → Bool
joins_one Loads = false
joins_one (Joins o) = true
joins_one Compares = true

abbrev pub is_single : Order → Bool
is_single (Word f w) = joins_one (use_of f)
is_single (Number f n) = joins_one (use_of f)
is_single (Store w) = false
is_single Neg = true
is_single Not = true
is_single (Jump a) = false
is_single (Skip a) = false
is_single (Branch r a) = false
is_single (Cond n) = false
is_single Send = false
is_single Stop = false

-- what is behind a link that the orders l begin with
abbrev pub past_link : ℕ → Option Link → List Order → List Order
past_link t (Some (Unary f)) l = behind l
past_link t (Some (Plain f x)) l = behind l
past_link t (Some Kept) l = behind (past_load t (behind l))
past_link t None l = l

-- what a link adds to an expression
pub data Linkage : Type 0 where
  negating inverting : Linkage
  joining : Operator → Expression → Linkage
  comparing : Expression → Linkage

-- the fields of what the link makes of the fields x; a comparison has ELSE in the place of its relation
abbrev pub extend : List Field → Linkage → List Field
extend x negating = NegField ∷ x
extend x inverting = NotField ∷ x
extend x (joining o r) = Binary o ∷ (x ++ expression_fields r)
extend x (comparing r) = Else ∷ (x ++ expression_fields r)

unfoldable pub extend_all : List Field → List Linkage → List Field
extend_all x [] = x
extend_all x (k ∷ ks) = extend_all (extend x k) ks

abbrev pub link_code : ℕ → ℕ → Linkage → List Order
link_code v d negating = Neg ∷ []
link_code v d inverting = Not ∷ []
link_code v d (joining o r) = joined (operation o) v d (operand r) [] (code v (suc d) r)
link_code v d (comparing r) = joined Cmp v d (operand r) [] (code v (suc d) r)

unfoldable pub links_code : ℕ → ℕ → List Linkage → List Order
links_code v d [] = []
links_code v d (k ∷ ks) = link_code v d k ++ links_code v d ks

-- the fields of a link besides its operator
abbrev pub link_length : Linkage → ℕ
link_length negating = 0
link_length inverting = 0
link_length (joining o r) = length (expression_fields r)
link_length (comparing r) = length (expression_fields r)

unfoldable pub links_length : List Linkage → ℕ
links_length [] = 0
links_length (k ∷ ks) = 1 + link_length k + links_length ks

abbrev pub LinkGood : ℕ → Linkage → Type 0
LinkGood v negating = Unit {0}
LinkGood v inverting = Unit {0}
LinkGood v (joining o r) = Expressed v r
LinkGood v (comparing r) = Expressed v r

unfoldable pub LinksGood : ℕ → List Linkage → Type 0
LinksGood v [] = Unit {0}
LinksGood v (k ∷ ks) = LinkGood v k × LinksGood v ks

-- the orders c and the fields e are those of a leaf and its links: an expression's, or a comparison's
pub record Chain (v d : ℕ) (c : List Order) (e : List Field) : Type 0 where
  pub leaf : Order
  pub links : List Linkage
  pub codes : c ≡ leaf ∷ links_code v d links
  pub fields : extend_all (leaf_of leaf ∷ []) links ≡ e
  pub good : LinksGood v links

-- ---- places among orders

pub record Past (os : List ℕ) (at r : ℕ) : Type 0 where
  pub on : at ≤ r
  pub over : at < length os → at < r
  pub inside : at ≤ length os → r ≤ length os
  pub rest : orders_at r os ≡ behind (orders_at at os)

pub record PastWord (os : List ℕ) (at word r : ℕ) : Type 0 where
  pub on : at ≤ r
  pub inside : at ≤ length os → r ≤ length os
  pub rest : orders_at r os ≡ past_load word (orders_at at os)

pub record PastLink (os : List ℕ) (at first t r : ℕ) : Type 0 where
  pub none : r ≤ at → link_of first t (orders_at at os) ≡ None
  pub some : at < r → link_of first t (orders_at at os) ≡ None → ⊥
  pub inside : at < r → r ≤ length os
  pub rest : orders_at r os ≡ past_link t (link_of first t (orders_at at os)) (orders_at at os)

-- whatever links stand at a place, with no link behind them, they are counted
pub record Counts (os : List ℕ) (at first t r : ℕ) : Type 0 where
  pub whole :
      (v d : ℕ) (ks : List Linkage) (l : List Order)
      → first ≡ v + 2
      → t ≡ temporary v d
      → LinksGood v ks
      → link_of first t l ≡ None
      → orders_at at os ≡ links_code v d ks ++ l
      → r ≡ length ks

-- the links left at place j, where n were counted
pub record Left (os : List ℕ) (j n v d : ℕ) (l : List Order) (m : ℕ) : Type 0 where
  pub ks : List Linkage
  pub good : LinksGood v ks
  pub rest : orders_at j os ≡ links_code v d ks ++ l
  pub counted : n + length ks ≡ m

pub record Counting (os : List ℕ) (at first t j n : ℕ) : Type 0 where
  pub few : at + n ≤ j
  pub inside : 0 < n → j ≤ length os
  pub left :
      (v d : ℕ) (ks : List Linkage) (l : List Order)
      → first ≡ v + 2
      → t ≡ temporary v d
      → LinksGood v ks
      → link_of first t l ≡ None
      → orders_at at os ≡ links_code v d ks ++ l
      → Left os j n v d l (length ks)

-- ---- fields put

-- the fields es stand at n, and r is the place behind them
pub record Writes (es : List Field) (n : ℕ) (fs : List ℕ) (r : ℕ) (after : List ℕ) : Type 0 where
  pub place : r ≡ n + length es
  pub fields : after ≡ sets fs n (map field_word es)

-- nothing is put outside the array
pub record Safe (n : ℕ) (fs : List ℕ) (r : ℕ) (after : List ℕ) : Type 0 where
  pub kept : length after ≡ length fs
  pub inside : n ≤ length fs → r ≤ length fs

pub record Put (f : Field) (n : ℕ) (fs : List ℕ) (r : ℕ) (after : List ℕ) : Type 0 where
  pub safe : Safe n fs r after
  pub writes : n < length fs → Writes (f ∷ []) n fs r after

pub record LeafPlace (room p k r : ℕ) : Type 0 where
  pub on : p ≤ r
  pub inside : p ≤ room → r ≤ room
  pub place : p + k < room → r ≡ p + k

pub record Leaf (os : List ℕ) (at : ℕ) (fs : List ℕ) (q : ℕ) (r : Spot) (after : List ℕ) : Type 0 where
  pub past : Past os at r.at
  pub put : Put (leaf_of (first_order (orders_at at os))) q fs r.n after

-- the fields e at p, and the orders l left
pub record Wrote (os : List ℕ) (e : List Field) (l : List Order) (p : ℕ) (fs : List ℕ) (r : Spot) (after : List ℕ) : Type 0 where
  pub rest : orders_at r.at os ≡ l
  pub writes : Writes e p fs r.n after

-- ---- expressions

-- whatever chain's orders stand at a place, with no link behind them, its fields are written; t is the word of the first temporary
-- that is not in use
pub record Reading (os : List ℕ) (at first t : ℕ) (fs : List ℕ) (p : ℕ) (r : Spot) (after : List ℕ) : Type 0 where
  pub on : at ≤ r.at
  pub safe : Safe p fs r.n after
  pub whole :
      (v d : ℕ) (c : List Order) (e : List Field) (l : List Order)
      → first ≡ v + 2
      → t ≡ temporary v d
      → Chain v d c e
      → orders_at at os ≡ c ++ l
      → link_of first t l ≡ None
      → t + (length os - at) ≤ 4294967295
      → p + length e ≤ length fs
      → Wrote os e l p fs r after

-- on the way: of the fields e, which go to place p of `base`, x stand at q, and the links ks are left
pub record At (os : List ℕ) (t p : ℕ) (base : List ℕ) (v d : ℕ) (e : List Field) (l : List Order) (q : ℕ) (s : Spot) (fs : List ℕ)
    : Type 0 where
  pub x : List Field
  pub ks : List Linkage
  pub whole : extend_all x ks ≡ e
  pub good : LinksGood v ks
  pub rest : orders_at s.at os ≡ links_code v d ks ++ l
  pub few : t + (length os - s.at) ≤ 4294967295
  pub room : p + length x + links_length ks ≤ length base
  pub counted : q ≡ p + length ks
  pub place : s.n ≡ q + length x
  pub written : fs ≡ sets base q (map field_word x)

-- one link outwards, whose operator goes to q
pub record Linking (os : List ℕ) (first t q : ℕ) (s : Spot) (fs : List ℕ) (r : Spot) (after : List ℕ) : Type 0 where
  pub on : s.at ≤ r.at
  pub safe : Safe s.n fs r.n after
  pub onwards :
      (p : ℕ) (base : List ℕ) (v d : ℕ) (e : List Field) (l : List Order)
      → first ≡ v + 2
      → t ≡ temporary v d
      → p ≤ q
      → At os t p base v d e l (q + 1) s fs
      → At os t p base v d e l q r after

-- the links from place q₀ outwards
pub record Onwards (os : List ℕ) (first t p q₀ : ℕ) (s₀ : Spot) (fs₀ : List ℕ) (q : ℕ) (s : Spot) (fs : List ℕ) : Type 0 where
  pub low : p ≤ q
  pub far : s₀.at ≤ s.at
  pub safe : Safe s₀.n fs₀ s.n fs
  pub onwards :
      (base : List ℕ) (v d : ℕ) (e : List Field) (l : List Order)
      → first ≡ v + 2
      → t ≡ temporary v d
      → At os t p base v d e l q₀ s₀ fs₀
      → At os t p base v d e l q s fs
