-- What the effect of an order can be: the cases that every theorem on runs goes by.
use Prim.Native.Nat.{ℕ, ◌*◌, ◌/◌, ◌<◌, ◌≤◌}
use mathlib.Core.Path.{◌≡◌, refl}
use mathlib.Core.Bool.{Bool, true, false}
use mathlib.Core.List.{List}
use native.Mathlib.Omega.{arith}
use borrow.Author.Tests.{ltb-true}
use lib.Dec.{ltb}
use lib.ListN.{length, get_or, set, length-set}
use lib.Seq.{sets, length-sets}
use Rattle.base.specs.Choice.{pick}
use Rattle.word.specs.Word.{Outcome, value, fault, related_to_zero, sum, difference, product, negation}
use Rattle.word.specs.Word.{and_bits, or_bits, xor_bits, not_bits, comparison, quotient, power, shift_left, shift_right}
use Rattle.word.specs.declared.Relation.{Relation}
use Rattle.word.proofs.Closed.{sum_closed, difference_closed, product_closed, negation_closed, not_closed, and_closed, or_closed, xor_closed}
use Rattle.word.proofs.Closed.{comparison_closed, quotient_closed, power_closed, shift_left_closed, shift_right_closed}
use Rattle.order.specs.declared.Operation.{Operation}
use Rattle.order.specs.declared.Operation.TheVariants.{Load, Add, Sub, Mlt, Div, Exp, Shl, Shr, And, Or, Xor, Cmp}
use Rattle.order.specs.declared.Order.{Order}
use Rattle.order.specs.declared.Order.TheVariants.{Word, Number, Store, Neg, Not, Jump, Skip, Branch, Cond, Send, Stop}
use Rattle.order.specs.Order.{operand}
use Rattle.order.specs.Object.{is_stop}
use Rattle.machine.specs.declared.Registers.{Registers}
use Rattle.machine.specs.Machine.{machine, Effect, done, failed, advance, go_to, sent_one, end_with, operate, to_acc, word_bytes, send, effect}
use Rattle.machine.specs.Frame.{Words}

-- ---- the numbers of the faults

one_fault : (t : Bool) (n v k : ℕ) → pick t (fault n) (value v) ≡ fault k → k ≡ n
unfolding pick
one_fault true n v k e = cc
one_fault false n v k e = let z : ◌≡◌ {A = ℕ} 0 1 = cc in absurd (omega arith)

one_fault_else : (t : Bool) (n v k : ℕ) → pick t (value v) (fault n) ≡ fault k → k ≡ n
unfolding pick
one_fault_else true n v k e = let z : ◌≡◌ {A = ℕ} 0 1 = cc in absurd (omega arith)
one_fault_else false n v k e = cc

-- ---- what an operation gives of two words: a word, or a fault from 1 to 4

pub data Given (a x : ℕ) : Outcome → Type 0 where
  gives : (w : ℕ) → (a < 4294967296 → x < 4294967296 → w < 4294967296) → Given a x (value w)
  faults : (n : ℕ) → 1 ≤ n → n ≤ 4 → Given a x (fault n)

given :
    (a x : ℕ) (o : Outcome)
    → ((w : ℕ) → o ≡ value w → a < 4294967296 → w < 4294967296)
    → ((n : ℕ) → o ≡ fault n → (1 ≤ n) × (n ≤ 4))
    → Given a x o
given a x (value w) small few = gives w (λ h _. small w refl h)
given a x (fault n) small few = faults n (few n refl).0 (few n refl).1

pub operation_gives : (f : Operation) (a x : ℕ) → Given a x (operate f a x)
unfolding quotient power shift_left shift_right
operation_gives Load a x = gives x (λ _ h. h)
operation_gives Add a x = gives (sum a x) (λ _ _. sum_closed a x)
operation_gives Sub a x = gives (difference a x) (λ _ _. difference_closed a x)
operation_gives Mlt a x = gives (product a x) (λ _ _. product_closed a x)
operation_gives Div a x =
    given a x (quotient a x) (λ w e _. quotient_closed a x w e) (λ n e. let i = one_fault _ 1 _ n e in (omega arith, omega arith))
operation_gives Exp a x =
    given a x (power a x) (λ w e _. power_closed a x w e) (λ n e. let i = one_fault _ 2 _ n e in (omega arith, omega arith))
operation_gives Shl a x =
    given a x (shift_left a x) (λ w e _. shift_left_closed a x w e) (λ n e. let i = one_fault_else _ 3 _ n e in (omega arith, omega arith))
operation_gives Shr a x =
    given a x (shift_right a x) (λ w e h. shift_right_closed a x w h e) (λ n e. let i = one_fault_else _ 3 _ n e in (omega arith, omega arith))
operation_gives And a x = gives (and_bits a x) (λ _ _. and_closed a x)
operation_gives Or a x = gives (or_bits a x) (λ _ _. or_closed a x)
operation_gives Xor a x = gives (xor_bits a x) (λ _ _. xor_closed a x)
operation_gives Cmp a x = gives (comparison a x) (λ _ _. comparison_closed a x)

-- ---- the cases

pub data Case (r : Registers) (ws out : List ℕ) : Order → Effect → Type 0 where
  -- the accumulator becomes a word, if it and the words are words: operations, NEG and NOT; also COND and a branch that is not
  -- taken, which leave it as it is
  computes :
      (o : Order) (a : ℕ)
      → is_stop o ≡ false
      → (r.acc < 4294967296 → Words ws → operand o < 4294967296 → a < 4294967296)
      → Case r ws out o (done (machine (advance a r) ws out))
  stores : (w : ℕ) → Case r ws out (Store w) (done (machine (advance r.acc r) (set ws w r.acc) out))
  jumps : (a : ℕ) → Case r ws out (Jump a) (done (machine (go_to a r) ws out))
  skips : (a : ℕ) → Case r ws out (Skip a) (done (machine (go_to a r) ws out))
  branches : (s : Relation) (a : ℕ) → Case r ws out (Branch s a) (done (machine (go_to a r) ws out))
  sends :
      r.sent < length out / 4
      → Case r ws out Send (done (machine (sent_one r) ws (sets out (4 * r.sent) (word_bytes r.acc))))
  stops : Case r ws out Stop (done (machine (end_with 20 r) ws out))
  faults : (o : Order) (n : ℕ) → 1 ≤ n → n ≤ 4 → Case r ws out o (failed n)

module _ (r : Registers) (ws out : List ℕ) where
  -- an operation's order: o is that order, x what it takes
  operated :
      {p : Outcome} (o : Order) (x : ℕ)
      → is_stop o ≡ false
      → (Words ws → operand o < 4294967296 → x < 4294967296)
      → Given r.acc x p
      → Case r ws out o (to_acc p (machine r ws out))
  operated o x s small (gives w c) = computes o w s (λ a ws n. c a (small ws n))
  operated o x s small (faults n low high) = faults o n low high

  branched : (t : Bool) (s : Relation) (a : ℕ) → Case r ws out (Branch s a) (done (machine (pick t (go_to a r) (advance r.acc r)) ws out))
  unfolding pick
  branched true s a = branches s a
  branched false s a = computes (Branch s a) r.acc refl (λ h _ _. h)

  sent_or_full :
      (t : Bool)
      → (t ≡ true → r.sent < length out / 4)
      → Case r ws out Send (pick t (done (machine (sent_one r) ws (sets out (4 * r.sent) (word_bytes r.acc)))) (failed 4))
  unfolding pick
  sent_or_full true room = sends (room refl)
  sent_or_full false room = faults Send 4 (omega arith) (omega arith)

  pub case : (o : Order) → Case r ws out o (effect o (machine r ws out))
  unfolding send
  case (Word f w) = operated (Word f w) (get_or ws w 0) refl (λ small _. small w) (operation_gives f r.acc (get_or ws w 0))
  case (Number f n) = operated (Number f n) n refl (λ _ small. small) (operation_gives f r.acc n)
  case (Store w) = stores w
  case Neg = computes Neg (negation r.acc) refl (λ _ _ _. negation_closed r.acc)
  case Not = computes Not (not_bits r.acc) refl (λ _ _ _. not_closed r.acc)
  case (Jump a) = jumps a
  case (Skip a) = skips a
  case (Branch s a) = branched (related_to_zero s r.acc) s a
  case (Cond n) = computes (Cond n) r.acc refl (λ h _ _. h)
  case Send = sent_or_full (ltb r.sent (length out / 4)) (λ e. ltb-true r.sent (length out / 4) e)
  case Stop = stops

-- ---- what becomes of the ending and of the lengths

pub data Fate (r : Registers) (ws out : List ℕ) : Effect → Type 0 where
  goes :
      (s : Registers) (vs left : List ℕ)
      → s.ending ≡ r.ending
      → length vs ≡ length ws
      → length left ≡ length out
      → Fate r ws out (done (machine s vs left))
  ends : Fate r ws out (done (machine (end_with 20 r) ws out))
  fails : (n : ℕ) → 1 ≤ n → n ≤ 4 → Fate r ws out (failed n)

pub fate : {r : Registers} {ws out : List ℕ} {o : Order} {e : Effect} → Case r ws out o e → Fate r ws out e
fate {r} {ws} {out} (computes o a s c) = goes _ ws out refl refl refl
fate {r} {ws} {out} (stores w) = goes _ _ out refl (length-set ws w r.acc) refl
fate {r} {ws} {out} (jumps a) = goes _ ws out refl refl refl
fate {r} {ws} {out} (skips a) = goes _ ws out refl refl refl
fate {r} {ws} {out} (branches s a) = goes _ ws out refl refl refl
fate {r} {ws} {out} (sends room) = goes _ ws _ refl refl (length-sets out (4 * r.sent) (word_bytes r.acc))
fate stops = ends
fate (faults o n low high) = fails n low high
