-- The orders of an expression carried out come to what the expression is worth, with the same count and the same fault.
use Prim.Native.Nat.{ℕ, suc, ◌+◌, ◌<◌, ◌≤◌}
use mathlib.Core.Path.{◌≡◌, refl, sym, ap, ◌∙◌}
use mathlib.Core.List.{List, [], ◌∷◌, ◌++◌}
use native.Mathlib.Omega.{arith}
use native.Mathlib.Nat.{zero-add, suc-add, add_assoc}
use lib.ListN.{length, get_or, set, length-set, length-append, get_or-append}
use lib.Seq.{get_or-append-add, get_or-set_same, get_or-set_other}
use Rattle.word.specs.Word.{Outcome, value, fault, negation, not_bits}
use Rattle.order.specs.declared.Operation.{Operation}
use Rattle.order.specs.declared.Operation.TheVariants.{Load}
use Rattle.order.specs.declared.Order.{Order}
use Rattle.order.specs.declared.Order.TheVariants.{Word, Number, Store, Neg, Not, Stop}
use Rattle.machine.specs.Machine.{Machine, done, failed, operate, to_acc, effect, next_effect}
use Rattle.sheet.specs.declared.Operator.{Operator}
use Rattle.sheet.specs.declared.Operator.TheVariants.{Plus, Minus, Times, Over, Power, Left, Right, And, Or, Unlike}
use Rattle.sheet.specs.Sheet.{Expression, word, constant, negated, inverted, binary, Operand, in_word, itself, worked_out, operand}
use Rattle.sheet.specs.Orders.{operation, temporary, joined, code, joined_temporaries, temporaries}
use Rattle.sheet.specs.Formed.{Expressed}
use Rattle.sheet.specs.Worth.{Counted, gives, faults, behind, and_then, by_order, apply, both, worth}
use Rattle.sheet.proofs.Values.{Each}
use Rattle.sheet.proofs.Reach.{behind_last, here, Reaches, at_once, and_on, Stands, stands_first, stands_left, stands_right, stands_last, stands_rest, carried_out, not_carried_out}

-- ---- what is counted and what is run

module _ (os : List Order) where
  -- from the machine m the orders come to what x says: to a machine that is as `Land` asks, or to a fault at a machine that is
  -- as `Lost` asks
  pub data Comes {A : Type 0} (Land : A → Machine → Type 0) (Lost : Machine → Type 0) (m : Machine) : Counted A → Type 0 where
    lands : (a : A) (k : ℕ) (n : Machine) → Reaches os k m n → Land a n → Comes Land Lost m (gives a k)
    fails : (q k : ℕ) (n : Machine) → Reaches os k m n → next_effect os n ≡ failed q → Lost n → Comes Land Lost m (faults q k)

  module _ {A : Type 0} {Land : A → Machine → Type 0} {Lost : Machine → Type 0} where
    pub comes_behind : (k : ℕ) (m n : Machine) (x : Counted A) → Reaches os k m n → Comes Land Lost n x → Comes Land Lost m (behind k x)
    comes_behind k m n x f (lands a j l g land) = lands a (k + j) l (and_on os k j m n l f g) land
    comes_behind k m n x f (fails q j l g e lost) = fails q (k + j) l (and_on os k j m n l f g) e lost

    pub comes_then :
        {B : Type 0} {Land₁ : B → Machine → Type 0} (m : Machine) (x : Counted B) (f : B → Counted A)
        → Comes Land₁ Lost m x
        → ((b : B) (n : Machine) → Land₁ b n → Comes Land Lost n (f b))
        → Comes Land Lost m (and_then x f)
    comes_then m x f (lands b k n g land) on = comes_behind k m n (f b) g (on b n land)
    comes_then m x f (fails q k n g e lost) on = fails q k n g e lost

  -- what is given is as P says, too
  pub comes_each :
      {A : Type 0} {Land : A → Machine → Type 0} {Lost : Machine → Type 0} (P : A → Type 0) (m : Machine) (x : Counted A)
      → Comes Land Lost m x
      → Each P x
      → Comes (λ a n. Land a n × P a) Lost m x
  comes_each P m x (lands a k n g land) p = lands a k n g (land, p)
  comes_each P m x (fails q k n g e lost) p = fails q k n g e lost

-- ---- the frame: the variables, then the temporaries

-- the first d temporaries stay
abbrev pub Keeps : ℕ → List ℕ → List ℕ → Type 0
Keeps d ts us = (i : ℕ) → i < d → get_or us i 0 ≡ get_or ts i 0

keeps_stored : (d k a : ℕ) (ts : List ℕ) → d ≤ k → Keeps d ts (set ts k a)
keeps_stored d k a ts h i g = get_or-set_other ts k i a 0 (omega (arith, g, h))

set_behind : (xs ys : List ℕ) (i a : ℕ) → set (xs ++ ys) (length xs + i) a ≡ xs ++ set ys i a
set_behind [] ys i a = ap (λ k. set ys k a) (zero-add i)
set_behind (x ∷ xs) ys i a =
    ap (λ k. set (x ∷ (xs ++ ys)) k a) (suc-add (length xs) i) ∙ ap (λ r. x ∷ r) (set_behind xs ys i a)

-- a program, V, the numbers sent, T, the variables and the output
module _ (os : List Order) (v c t : ℕ) (vs out : List ℕ) (enough : length vs ≡ v + 2) where
  -- the accumulator holds a, order p is next, and the first d of the temporaries ts stand
  pub data Landed (p d : ℕ) (ts : List ℕ) (a : ℕ) : Machine → Type 0 where
    landed : (us : List ℕ) → length us ≡ t → Keeps d ts us → Landed p d ts a (here a p c (vs ++ us) out)

  -- the variables stand, whatever the temporaries are
  pub data Lost : Machine → Type 0 where
    lost : (a p : ℕ) (us : List ℕ) → length us ≡ t → Lost (here a p c (vs ++ us) out)

  abbrev pub Works : ℕ → ℕ → List ℕ → Machine → Counted ℕ → Type 0
  Works p d ts m x = Comes os (Landed p d ts) Lost m x

  -- ---- one order

  variable_in : (ts : List ℕ) (w : ℕ) → w < v + 2 → get_or (vs ++ ts) w 0 ≡ get_or vs w 0
  variable_in ts w h = get_or-append vs ts 0 w (rw enough h)

  temporary_in : (ts : List ℕ) (d : ℕ) → get_or (vs ++ ts) (temporary v d) 0 ≡ get_or ts d 0
  temporary_in ts d = rw (← enough) (get_or-append-add vs ts d 0)

  stored : (ts : List ℕ) (d a : ℕ) → set (vs ++ ts) (temporary v d) a ≡ vs ++ set ts d a
  stored ts d a = rw (← enough) (set_behind vs ts d a)

  module _ (a p : ℕ) (us : List ℕ) (long : length us ≡ t) where
    -- an order that works on the accumulator
    operates :
        (d : ℕ) (ts : List ℕ) (o : Order) (r : Outcome)
        → Keeps d ts us
        → get_or os p Stop ≡ o
        → effect o (here a p c (vs ++ us) out) ≡ to_acc r (here a p c (vs ++ us) out)
        → Works (p + 1) d ts (here a p c (vs ++ us) out) (by_order r)
    operates d ts o (value b) keeps e f =
        lands b 1 _ (carried_out os a p c (vs ++ us) out o _ e f) (landed us long keeps)
    operates d ts o (fault n) keeps e f =
        fails n 0 _ (at_once os _) (not_carried_out os a p c (vs ++ us) out o n e f) (lost a p us long)

    on_variable :
        (d : ℕ) (ts : List ℕ) (f : Operation) (w : ℕ)
        → Keeps d ts us
        → get_or os p Stop ≡ Word f w
        → w < v + 2
        → Works (p + 1) d ts (here a p c (vs ++ us) out) (by_order (operate f a (get_or vs w 0)))
    on_variable d ts f w keeps e h =
        operates d ts (Word f w) (operate f a (get_or vs w 0)) keeps e (ap (λ x. to_acc (operate f a x) (here a p c (vs ++ us) out)) (variable_in us w h))

    on_number :
        (d : ℕ) (ts : List ℕ) (f : Operation) (n : ℕ)
        → Keeps d ts us
        → get_or os p Stop ≡ Number f n
        → Works (p + 1) d ts (here a p c (vs ++ us) out) (by_order (operate f a n))
    on_number d ts f n keeps e = operates d ts (Number f n) (operate f a n) keeps e refl

    on_temporary :
        (d k : ℕ) (ts : List ℕ) (f : Operation)
        → Keeps d ts us
        → get_or os p Stop ≡ Word f (temporary v k)
        → Works (p + 1) d ts (here a p c (vs ++ us) out) (by_order (operate f a (get_or us k 0)))
    on_temporary d k ts f keeps e =
        operates
        d
        ts
        (Word f (temporary v k))
        (operate f a (get_or us k 0))
        keeps
        e
        (ap (λ x. to_acc (operate f a x) (here a p c (vs ++ us) out)) (temporary_in us k))

    into_temporary :
        (k : ℕ)
        → get_or os p Stop ≡ Store (temporary v k)
        → Reaches os 1 (here a p c (vs ++ us) out) (here a (p + 1) c (vs ++ set us k a) out)
    into_temporary k e =
        carried_out os a p c (vs ++ us) out (Store (temporary v k)) _ e (ap (λ ws. done (here a (p + 1) c ws out)) (stored us k a))

    from_temporary :
        (k : ℕ)
        → get_or os p Stop ≡ Word Load (temporary v k)
        → Reaches os 1 (here a p c (vs ++ us) out) (here (get_or us k 0) (p + 1) c (vs ++ us) out)
    from_temporary k e =
        carried_out
        os
        a
        p
        c
        (vs ++ us)
        out
        (Word Load (temporary v k))
        _
        e
        (ap (λ x. done (here x (p + 1) c (vs ++ us) out)) (temporary_in us k))

  -- ---- two operands

  -- a plain operand is a variable, or a number
  abbrev pub Plain : Operand → Type 0
  Plain (in_word w) = w < v + 2
  Plain (itself n) = Unit {0}
  Plain worked_out = Unit {0}

  -- what is worked out with d temporaries in use
  abbrev pub Worked : ℕ → ℕ → List Order → Counted ℕ → Type 0
  Worked d most l x =
      (a p : ℕ) (ts : List ℕ)
      → length ts ≡ t
      → d + most ≤ t
      → Stands os p l
      → Works (p + length l) d ts (here a p c (vs ++ ts) out) x

  -- both operands are kept in temporaries, and the order on the second is next
  closes :
      (f : Operation) (d p a b : ℕ) (ts us xs : List ℕ)
      → length xs ≡ t
      → suc d < t
      → Keeps d ts us
      → length us ≡ t
      → Keeps (suc d) (set us d a) xs
      → Stands os p (Store (temporary v (suc d)) ∷ Word Load (temporary v d) ∷ Word f (temporary v (suc d)) ∷ [])
      → Works (p + 3) d ts (here b p c (vs ++ xs) out) (behind 2 (by_order (operate f a b)))
  closes f d p a b ts us xs long room keeps long_us kept s =
      let first : get_or xs d 0 ≡ a = kept d (omega arith) ∙ get_or-set_same us d a 0 (omega (arith, long_us, room)) in
      let one : get_or (set xs (suc d) b) d 0 ≡ a = get_or-set_other xs (suc d) d b 0 (omega arith) ∙ first in
      let two : get_or (set xs (suc d) b) (suc d) 0 ≡ b = get_or-set_same xs (suc d) b 0 (omega (arith, long, room)) in
      let still : length (set xs (suc d) b) ≡ t = length-set xs (suc d) b ∙ long in
      let s₁ = stands_rest os p (Store (temporary v (suc d))) (Word Load (temporary v d) ∷ Word f (temporary v (suc d)) ∷ []) s in
      let s₂ = stands_rest os (p + 1) (Word Load (temporary v d)) (Word f (temporary v (suc d)) ∷ []) s₁ in
      let kept_all : Keeps d ts (set xs (suc d) b) =
      λ i h. keeps_stored d (suc d) b xs (omega arith) i h
      ∙ kept i (omega (arith, h))
      ∙ keeps_stored d d a us (omega arith) i h
      ∙ keeps i h
      in
      let there : p + 1 + 1 + 1 ≡ p + 3 = omega arith in
      comes_behind
      os
      2
      _
      _
      (by_order (operate f a b))
      (and_on
      os
      1
      1
      _
      _
      _
      (into_temporary b p xs long (suc d) (stands_first os p _ _ s))
      (rw one at (from_temporary b (p + 1) (set xs (suc d) b) still d (stands_first os (p + 1) _ _ s₁))))
      (rw there at
      (rw two at
      (on_temporary a (p + 1 + 1) (set xs (suc d) b) still d (suc d) ts f kept_all (stands_first os (p + 1 + 1) _ _ s₂))))

  -- behind what is worked out, one order more, which does g with it
  goes_on_law :
      (d most : ℕ) (g : ℕ → Counted ℕ) (q : Order) (l : List Order) (x : Counted ℕ)
      → ((b p : ℕ) (us ts : List ℕ)
      → length us ≡ t
      → Keeps d ts us
      → get_or os p Stop ≡ q
      → Works (p + 1) d ts (here b p c (vs ++ us) out) (g b))
      → Worked d most l x
      → Worked d most (l ++ q ∷ []) (and_then x g)
  goes_on_law d most g q l x one_order work a p ts long room s =
      comes_then os (here a p c (vs ++ ts) out) x g (work a p ts long room (stands_left os p l (q ∷ []) s)) on_it
    where
      on_it : (b : ℕ) (n : Machine) → Landed (p + length l) d ts b n → Works (p + length (l ++ q ∷ [])) d ts n (g b)
      on_it b n (landed us still keeps) =
          rw (behind_last p l q) (one_order b (p + length l) us ts still keeps (stands_last os p l q s))

  -- behind the left operand, the right one, kept as the left is, and the order on both
  joins_kept :
      (o : Operation) (f : ℕ → ℕ → Counted ℕ) (d tl tr : ℕ) (l r : List Order) (left right : Counted ℕ)
      → ((a b : ℕ) → f a b ≡ by_order (operate o a b))
      → Worked d tl l left
      → Worked (suc d) tr r right
      → Worked d (joined_temporaries worked_out tl tr) (joined o v d worked_out l r) (both f vs worked_out left right)
  joins_kept o f d tl tr l r left right same work_left work_right a p ts long room s =
      comes_then
      os
      (here a p c (vs ++ ts) out)
      left
      (λ b. and_then (behind 1 right) (λ e. behind 2 (f b e)))
      (work_left a p ts long (omega (arith, room)) (stands_left os p l (Store (temporary v d) ∷ r) before))
      on_left
    where
      closing : List Order
      closing = Store (temporary v (suc d)) ∷ Word Load (temporary v d) ∷ Word o (temporary v (suc d)) ∷ []

      before : Stands os p (l ++ Store (temporary v d) ∷ r)
      before = stands_left os p (l ++ Store (temporary v d) ∷ r) _ s

      middle : Stands os (p + length l) (Store (temporary v d) ∷ r)
      middle = stands_right os p l (Store (temporary v d) ∷ r) before

      close_at : p + length (l ++ Store (temporary v d) ∷ r) ≡ p + length l + 1 + length r
      close_at = ap (λ k. p + k) (length-append l (Store (temporary v d) ∷ r)) ∙ omega arith

      end_at : p + length (joined o v d worked_out l r) ≡ p + length l + 1 + length r + 3
      end_at = ap (λ k. p + k) (length-append (l ++ Store (temporary v d) ∷ r) _) ∙ sym (add_assoc p _ 3) ∙ ap (λ k. k + 3) close_at

      on_right :
          (b : ℕ) (us : List ℕ) (e : ℕ) (n : Machine)
          → length us ≡ t
          → Keeps d ts us
          → Landed (p + length l + 1 + length r) (suc d) (set us d b) e n
          → Works (p + length (joined o v d worked_out l r)) d ts n (behind 2 (f b e))
      on_right b us e n still keeps (landed xs long_xs kept) =
          rw (same b e, end_at)
          (closes o d (p + length l + 1 + length r) b e ts us xs long_xs (omega (arith, room)) keeps still kept (rw close_at at (stands_right os p (l ++ Store (temporary v d) ∷ r) _ s)))

      on_left :
          (b : ℕ) (n : Machine)
          → Landed (p + length l) d ts b n
          → Works (p + length (joined o v d worked_out l r)) d ts n (and_then (behind 1 right) (λ e. behind 2 (f b e)))
      on_left b n (landed us still keeps) =
          comes_then
          os
          _
          (behind 1 right)
          (λ e. behind 2 (f b e))
          (comes_behind
          os
          1
          _
          _
          right
          (into_temporary b (p + length l) us still d (stands_first os _ _ _ middle))
          (work_right b (p + length l + 1) (set us d b) (length-set us d b ∙ still) (omega (arith, room)) (stands_rest os _ _ r middle)))
          (λ e m go. on_right b us e m still keeps go)

  -- the order on a plain right operand, or the two operands brought together. f is what the order does, counted
  pub joins :
      (o : Operation) (f : ℕ → ℕ → Counted ℕ) (d tl tr : ℕ) (x : Operand) (l r : List Order) (left right : Counted ℕ)
      → ((a b : ℕ) → f a b ≡ by_order (operate o a b))
      → Plain x
      → Worked d tl l left
      → Worked (suc d) tr r right
      → Worked d (joined_temporaries x tl tr) (joined o v d x l r) (both f vs x left right)
  joins o f d tl tr (in_word w) l r left right same plain work_left work_right =
      goes_on_law d tl (λ b. f b (get_or vs w 0)) (Word o w) l left (λ b p us ts long keeps e. rw (same b (get_or vs w 0)) (on_variable b p us long d ts o w keeps e plain)) work_left
  joins o f d tl tr (itself k) l r left right same plain work_left work_right =
      goes_on_law d tl (λ b. f b k) (Number o k) l left (λ b p us ts long keeps e. rw (same b k) (on_number b p us long d ts o k keeps e)) work_left
  joins o f d tl tr worked_out l r left right same plain work_left work_right =
      joins_kept o f d tl tr l r left right same work_left work_right

  -- ---- expressions

  pub plain_operand : (e : Expression) → Expressed v e → Plain (operand e)
  unfolding Expressed
  plain_operand (word w) x = x.1
  plain_operand (constant n) x = tt
  plain_operand (negated e) x = tt
  plain_operand (inverted e) x = tt
  plain_operand (binary o l r) x = tt

  applies : (o : Operator) (a b : ℕ) → by_order (apply o a b) ≡ by_order (operate (operation o) a b)
  applies Plus a b = refl
  applies Minus a b = refl
  applies Times a b = refl
  applies Over a b = refl
  applies Power a b = refl
  applies Left a b = refl
  applies Right a b = refl
  applies And a b = refl
  applies Or a b = refl
  applies Unlike a b = refl

  -- NEG or NOT behind its operand
  turns :
      (o : Order) (f : ℕ → ℕ) (d most : ℕ) (l : List Order) (x : Counted ℕ)
      → ((a p : ℕ) (ws : List ℕ) → effect o (here a p c ws out) ≡ done (here (f a) (p + 1) c ws out))
      → Worked d most l x
      → Worked d most (l ++ o ∷ []) (and_then x (λ a. gives (f a) 1))
  turns o f d most l x does work =
      goes_on_law
      d
      most
      (λ a. gives (f a) 1)
      o
      l
      x
      (λ b p us ts long keeps e. lands (f b) 1 _ (carried_out os b p c (vs ++ us) out o _ e (does b p (vs ++ us))) (landed us long keeps))
      work

  pub works : (e : Expression) (d : ℕ) → Expressed v e → Worked d (temporaries e) (code v d e) (worth vs e)
  unfolding Expressed temporaries code worth
  works (word w) d x =
      λ a p ts long room s. on_variable a p ts long d ts Load w (λ i h. refl) (stands_first os p _ _ s) x.1
  works (constant n) d x = λ a p ts long room s. on_number a p ts long d ts Load n (λ i h. refl) (stands_first os p _ _ s)
  works (negated e) d x = turns Neg negation d (temporaries e) (code v d e) (worth vs e) (λ a p ws. refl) (works e d x)
  works (inverted e) d x = turns Not not_bits d (temporaries e) (code v d e) (worth vs e) (λ a p ws. refl) (works e d x)
  works (binary o l r) d x =
      joins
      (operation o)
      (λ a b. by_order (apply o a b))
      d
      (temporaries l)
      (temporaries r)
      (operand r)
      (code v d l)
      (code v (suc d) r)
      (worth vs l)
      (worth vs r)
      (applies o)
      (plain_operand r x.1)
      (works l d x.0)
      (works r (suc d) x.1)
