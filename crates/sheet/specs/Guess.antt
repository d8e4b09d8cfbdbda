-- A guess at the instructions that orders are the translation of: it is right on translations (proofs/Guessing.antt) and may be
-- anything elsewhere. ReadBack.antt checks it.
use Rattle.std.specs.Prelude.{ℕ, zero, suc, ◌+◌, ◌-◌, max, Bool, true, false, List, [], ◌∷◌, ltb, leb, eqb, length, get_or, drop}
use Rattle.base.specs.Choice.{pick}
use Rattle.word.specs.declared.Relation.{Relation}
use Rattle.word.specs.declared.Relation.TheVariants.{Equal}
use Rattle.order.specs.declared.Operation.{Operation}
use Rattle.order.specs.declared.Operation.TheVariants.{Load, Add, Sub, Mlt, Div, Exp, Shl, Shr, And, Or, Xor, Cmp}
use Rattle.order.specs.declared.Order.{Order}
use Rattle.order.specs.declared.Order.TheVariants.{Word, Number, Store, Neg, Not, Jump, Skip, Branch, Cond, Send, Stop}
use Rattle.order.specs.Order.{operand as order_operand}
use Rattle.sheet.specs.declared.Operator.{Operator}
use Rattle.sheet.specs.declared.Operator.TheVariants.{Plus, Minus, Times, Over, Power, Left, Right, And as Both, Or as Either, Unlike}
use Rattle.sheet.specs.declared.Joining.{Joining}
use Rattle.sheet.specs.declared.Joining.TheVariants.{And as AndRun, Or as OrRun}
use Rattle.sheet.specs.Sheet.{Expression, word, constant, negated, inverted, binary, set, send, goto}
use Rattle.sheet.specs.Sheet.{Condition, compares, joins, Part, end, plain, when, either, retarget_part}
use Rattle.sheet.specs.Orders.{opposite}
use Rattle.sheet.specs.Condition.{leaving, most_comparisons}
use Rattle.sheet.specs.Translation.{starts}
use Rattle.sheet.specs.Within.{most_levels}

-- ---- expressions, forwards

-- LOAD, an operator's order, or CMP
abbrev pub by_operation : {A : Type 0} → Operation → A → (Operator → A) → A → A
by_operation Load load f cmp = load
by_operation Add load f cmp = f Plus
by_operation Sub load f cmp = f Minus
by_operation Mlt load f cmp = f Times
by_operation Div load f cmp = f Over
by_operation Exp load f cmp = f Power
by_operation Shl load f cmp = f Left
by_operation Shr load f cmp = f Right
by_operation And load f cmp = f Both
by_operation Or load f cmp = f Either
by_operation Xor load f cmp = f Unlike
by_operation Cmp load f cmp = cmp

-- an expression, or the two of a comparison, and the orders behind it
pub data Read : Type 0 where
  one : Expression → List Order → Read
  two : Expression → Expression → List Order → Read

-- the expressions that wait, the last first
abbrev pub top : List Expression → Expression
top [] = word 0
top (e ∷ es) = e

abbrev pub below : List Expression → List Expression
below [] = []
below (e ∷ es) = es

-- e is what the accumulator holds, es are the expressions stored
unfoldable pub forward : ℕ → List Expression → Expression → List Order → Read
forward v es e [] = one e []
forward v es e (Word f w ∷ l) =
    pick
    (leb (v + 2) w)
    (by_operation
    f
    (forward v es e l)
    (λ o. forward v (below (below es)) (binary o (top (below es)) (top es)) l)
    (two (top (below es)) (top es) l))
    (by_operation f (forward v es (word w) l) (λ o. forward v es (binary o e (word w)) l) (two e (word w) l))
forward v es e (Number f n ∷ l) =
    by_operation f (forward v es (constant n) l) (λ o. forward v es (binary o e (constant n)) l) (two e (constant n) l)
forward v es e (Store w ∷ l) = pick (leb (v + 2) w) (forward v (e ∷ es) e l) (one e (Store w ∷ l))
forward v es e (Neg ∷ l) = forward v es (negated e) l
forward v es e (Not ∷ l) = forward v es (inverted e) l
forward v es e (Jump a ∷ l) = one e (Jump a ∷ l)
forward v es e (Skip a ∷ l) = one e (Skip a ∷ l)
forward v es e (Branch r a ∷ l) = one e (Branch r a ∷ l)
forward v es e (Cond n ∷ l) = one e (Cond n ∷ l)
forward v es e (Send ∷ l) = one e (Send ∷ l)
forward v es e (Stop ∷ l) = one e (Stop ∷ l)

-- ---- conditions: the tests of COND, and the tree that they are of

-- a comparison and its branch: the relation that the branch asks for, the two expressions, the order that it leads to, and the
-- order behind it
pub data Test : Type 0 where
  test : Relation → Expression → Expression → ℕ → ℕ → Test

-- where the last of them leads, and the order behind it
unfoldable pub last_to : List Test → ℕ
last_to [] = 0
last_to (test r x y a n ∷ []) = a
last_to (test r x y a n ∷ u ∷ ts) = last_to (u ∷ ts)

unfoldable pub last_on : List Test → ℕ
last_on [] = 0
last_on (test r x y a n ∷ []) = n
last_on (test r x y a n ∷ u ∷ ts) = last_on (u ∷ ts)

-- the first member of a run and the rest of it
pub data Cut : Type 0 where
  cut : List Test → List Test → Cut

abbrev pub longer : Test → Cut → Cut
longer t (cut xs ys) = cut (t ∷ xs) ys

-- the furthest that a branch leads short of order e, where one to order m is known
abbrev pub furthest : ℕ → ℕ → ℕ → ℕ
furthest e m a = pick (ltb a e) (max m a) m

-- The tests end before order e. The first member ends with the first test that no branch up to there leads beyond, other than out
-- of them all; m is the furthest that one led
unfoldable pub first_member : ℕ → ℕ → List Test → Cut
first_member e m [] = cut [] []
first_member e m (test r x y a n ∷ ts) =
    pick (leb (furthest e m a) n) (cut (test r x y a n ∷ []) ts) (longer (test r x y a n) (first_member e (furthest e m a) ts))

abbrev pub other : Bool → Bool
other true = false
other false = true

-- the word that goes on at this answer
abbrev pub word_of : Bool → Joining
word_of true = AndRun
word_of false = OrRun

-- the answer at which a word goes on
abbrev pub on_at : Joining → Bool
on_at AndRun = true
on_at OrRun = false

-- whether two answers are the same
abbrev pub alike : Bool → Bool → Bool
alike true b = b
alike false b = other b

-- the answer at which the second of two is tried, by where the first leads: that answer falls through the first, and the other is the
-- answer of both. Where this falls through both, the first leads to their end
abbrev pub goes_on : Bool → ℕ → ℕ → Bool
goes_on falls e a = pick (eqb a e) (other falls) falls

abbrev pub one_test : Bool → List Test → Condition
one_test falls [] = compares Equal (word 0) (word 0)
one_test falls (test r x y a n ∷ ts) = compares (leaving falls r) x y

abbrev pub on_cut : (Bool → List Test → Condition) → Bool → ℕ → Cut → Condition
on_cut tree falls e (cut xs []) = one_test falls xs
on_cut tree falls e (cut xs (u ∷ ys)) =
    joins (word_of (goes_on falls e (last_to xs))) (tree (goes_on falls e (last_to xs)) xs) (tree falls (u ∷ ys))

-- the condition of some tests, at most that many, by the answer that falls through them
unfoldable pub tree : ℕ → Bool → List Test → Condition
tree zero falls ts = one_test falls ts
tree (suc most) falls ts = on_cut (tree most) falls (last_on ts) (first_member (last_on ts) 0 ts)

-- tests and the orders behind them
pub data Tests : Type 0 where
  tests : List Test → List Order → Tests

abbrev pub one_more : Test → Tests → Tests
one_more t (tests ts l) = tests (t ∷ ts) l

-- ---- instructions: GOTO has an address here. No list is cut out: `l` is what is left of the orders os, so its first order is
-- order length os - length l; a part ends before order q

-- an instruction without a condition, which ends with the order o
abbrev pub one_end : (List Order → Part) → Expression → Order → List Order → Part
one_end guess e (Word f w) l = end
one_end guess e (Number f n) l = end
one_end guess e (Store w) l = plain (set w e) (guess l)
one_end guess e Neg l = end
one_end guess e Not l = end
one_end guess e (Jump a) l = plain (goto a) (guess l)
one_end guess e (Skip a) l = end
one_end guess e (Branch r a) l = end
one_end guess e (Cond n) l = end
one_end guess e Send l = plain (send e) (guess l)
one_end guess e Stop l = end

-- the order before a branch's target is a SKIP exactly where there is a second part
abbrev pub is_skip : Order → Bool
is_skip (Word f w) = false
is_skip (Number f n) = false
is_skip (Store w) = false
is_skip Neg = false
is_skip Not = false
is_skip (Jump a) = false
is_skip (Skip a) = true
is_skip (Branch r a) = false
is_skip (Cond n) = false
is_skip Send = false
is_skip Stop = false

abbrev pub is_cond : Order → Bool
is_cond (Word f w) = false
is_cond (Number f n) = false
is_cond (Store w) = false
is_cond Neg = false
is_cond Not = false
is_cond (Jump a) = false
is_cond (Skip a) = false
is_cond (Branch r a) = false
is_cond (Cond n) = true
is_cond Send = false
is_cond Stop = false

-- p < a ≤ q
abbrev pub between : ℕ → ℕ → ℕ → Bool
between p a q = pick (ltb p a) (leb a q) false

module _ (os : List Order) where
  -- where l begins
  abbrev pub place_of : List Order → ℕ
  place_of l = length os - length l

  -- a test, which ends with the order o, and those behind it
  abbrev pub test_end : (List Order → Tests) → Expression → Expression → Order → List Order → Tests
  test_end more x y (Word f w) l = tests [] l
  test_end more x y (Number f n) l = tests [] l
  test_end more x y (Store w) l = tests [] l
  test_end more x y Neg l = tests [] l
  test_end more x y Not l = tests [] l
  test_end more x y (Jump s) l = tests [] l
  test_end more x y (Skip s) l = tests [] l
  test_end more x y (Branch r a) l = one_more (test r x y a (place_of l)) (more l)
  test_end more x y (Cond n) l = tests [] l
  test_end more x y Send l = tests [] l
  test_end more x y Stop l = tests [] l

  abbrev pub test_read : (List Order → Tests) → Read → Tests
  test_read more (one e l) = tests [] l
  test_read more (two x y []) = tests [] []
  test_read more (two x y (o ∷ l)) = test_end more x y o l

  -- that many tests
  unfoldable pub tests_from : ℕ → ℕ → List Order → Tests
  tests_from zero v l = tests [] l
  tests_from (suc n) v l = test_read (tests_from n v) (forward v [] (word 0) l)

  -- an IF whose branch leads to order a; its first part begins with l, and the range ends before order q. Without the two tests
  -- orders of no sheet could be read over and over
  abbrev pub choice : (ℕ → List Order → Part) → (List Order → Part) → ℕ → Condition → ℕ → List Order → Part
  choice inner guess q c a l =
      pick
      (between (place_of l) a q)
      (pick
      (is_skip (get_or os (a - 1) Stop))
      (pick
      (between a (order_operand (get_or os (a - 1) Stop)) q)
      (either
      c
      (inner (a - 1) l)
      (inner (order_operand (get_or os (a - 1) Stop)) (drop a os))
      (guess (drop (order_operand (get_or os (a - 1) Stop)) os)))
      end)
      (when c (inner a l) (guess (drop a os))))
      end

  abbrev pub two_end : (ℕ → List Order → Part) → (List Order → Part) → ℕ → Expression → Expression → Order → List Order → Part
  two_end inner guess q x y (Word f w) l = end
  two_end inner guess q x y (Number f n) l = end
  two_end inner guess q x y (Store w) l = end
  two_end inner guess q x y Neg l = end
  two_end inner guess q x y Not l = end
  two_end inner guess q x y (Jump s) l = end
  two_end inner guess q x y (Skip s) l = end
  two_end inner guess q x y (Branch r a) l = choice inner guess q (compares (opposite r) x y) a l
  two_end inner guess q x y (Cond n) l = end
  two_end inner guess q x y Send l = end
  two_end inner guess q x y Stop l = end

  abbrev pub on_read : (ℕ → List Order → Part) → (List Order → Part) → ℕ → Read → Part
  on_read inner guess q (one e []) = end
  on_read inner guess q (one e (o ∷ l)) = one_end guess e o l
  on_read inner guess q (two x y []) = end
  on_read inner guess q (two x y (o ∷ l)) = two_end inner guess q x y o l

  abbrev pub on_tests : (ℕ → List Order → Part) → (List Order → Part) → ℕ → ℕ → Tests → Part
  on_tests inner guess q n (tests ts l) = choice inner guess q (tree n true ts) (last_to ts) l

  -- COND n, and the orders behind it
  abbrev pub on_cond : (ℕ → List Order → Part) → (List Order → Part) → ℕ → ℕ → ℕ → List Order → Part
  on_cond inner guess v q n l = pick (leb n most_comparisons) (on_tests inner guess q n (tests_from n v l)) end

  -- an instruction, by its first order
  abbrev pub on_orders : (ℕ → List Order → Part) → (List Order → Part) → ℕ → ℕ → List Order → Part
  on_orders inner guess v q l =
      pick
      (is_cond (get_or l 0 Stop))
      (on_cond inner guess v q (order_operand (get_or l 0 Stop)) (drop 1 l))
      (on_read inner guess q (forward v [] (word 0) l))

  -- at most `most` instructions and `deep` levels of IFs
  unfoldable pub guess : ℕ → ℕ → ℕ → ℕ → List Order → Part
  guess zero deep v q l = end
  guess (suc most) zero v q l =
      pick (leb q (place_of l)) end (on_orders (λ q l. end) (guess most zero v q) v q l)
  guess (suc most) (suc deep) v q l =
      pick (leb q (place_of l)) end (on_orders (guess most deep v) (guess most (suc deep) v q) v q l)

-- ---- numbers

-- the place of a among as, or behind the last
unfoldable pub place : ℕ → List ℕ → ℕ
place a [] = 0
place a (b ∷ l) = pick (eqb a b) 0 (suc (place a l))

abbrev pub number_of : ℕ → Part → ℕ → ℕ
number_of v x a = suc (place a (starts v 0 x))

abbrev pub numbered : ℕ → Part → Part
numbered v x = retarget_part (number_of v x) x

-- the orders but STOP, which is the last
abbrev pub guessed : ℕ → List Order → Part
guessed v os = numbered v (guess os (length os) most_levels v (length os - 1) os)
