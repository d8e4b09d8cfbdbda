-- What an order changes of the words, and what a run keeps.
use Prim.Native.Nat.{ℕ, ◌/◌, ◌<◌, ◌≤◌}
use mathlib.Core.Path.{◌≡◌, refl}
use mathlib.Core.Bool.{Bool, true, false}
use mathlib.Core.List.{List}
use native.Mathlib.Omega.{arith}
use lib.Dec.{ltb}
use lib.ListN.{length, get_or}
use Rattle.base.specs.Choice.{pick}
use Rattle.word.specs.Word.{Outcome, value, fault}
use Rattle.order.specs.declared.Order.{Order}
use Rattle.order.specs.declared.Order.TheVariants.{Word, Number, Store, Neg, Not, Jump, Skip, Branch, Cond, Send, Stop}
use Rattle.order.specs.Good.{Good}
use Rattle.machine.specs.declared.Registers.{Registers}
use Rattle.machine.specs.Machine.{Machine, machine, done, failed, ran, operate, to_acc, send, effect, run}
use Rattle.machine.specs.Frame.{Ending, Bytes, Words, Operands, written}
use Rattle.machine.proofs.Kept.{Keeps, kept}
use Rattle.machine.proofs.Invariants.{Lengths, Links, Inside, WithinRoom, GoodEnding, AllWords, AllBytes}
use Rattle.machine.proofs.Invariants.{keeps_lengths, keeps_room, keeps_ending, keeps_words, keeps_bytes, keeps_links, keeps_inside}

-- ---- one order

never : {P : Type 0} (n : ℕ) (m : Machine) → failed n ≡ done m → P
never n m e = let z : ◌≡◌ {A = ℕ} 0 1 = cc in absurd (omega arith)

module _ (r : Registers) (ws out : List ℕ) (s : Registers) (vs left : List ℕ) where
  operation_keeps : (o : Outcome) → to_acc o (machine r ws out) ≡ done (machine s vs left) → vs ≡ ws
  operation_keeps (value a) e = cc
  operation_keeps (fault n) e = never n (machine s vs left) e

  sending_keeps :
      (t : Bool) (q : Registers) (l : List ℕ)
      → pick t (done (machine q ws l)) (failed 4) ≡ done (machine s vs left)
      → vs ≡ ws
  unfolding pick
  sending_keeps true q l e = cc
  sending_keeps false q l e = never 4 (machine s vs left) e

  -- carrying out one order writes at most one word
  pub one_word : (o : Order) → effect o (machine r ws out) ≡ done (machine s vs left) → vs ≡ written o r.acc ws
  unfolding send
  one_word (Word f w) e = operation_keeps (operate f r.acc (get_or ws w 0)) e
  one_word (Number f n) e = operation_keeps (operate f r.acc n) e
  one_word (Store w) e = cc
  one_word Neg e = cc
  one_word Not e = cc
  one_word (Jump a) e = cc
  one_word (Skip a) e = cc
  one_word (Branch q a) e = cc
  one_word (Cond n) e = cc
  one_word Send e = sending_keeps (ltb r.sent (length out / 4)) _ _ e
  one_word Stop e = cc

-- ---- a run

-- a run from one machine to another
module _
    (os : List Order) (b : ℕ) (r : Registers) (ws out : List ℕ) (k : ℕ) (s : Registers) (vs left : List ℕ)
    (e : run os b (machine r ws out) ≡ ran k (machine s vs left))
  where
    stays : (P : Machine → Type 0) → Keeps os P → P (machine r ws out) → P (machine s vs left)
    stays P keeps p = kept os P keeps b (machine r ws out) k (machine s vs left) e p

    pub lengths_stay : (length vs ≡ length ws) × (length left ≡ length out)
    lengths_stay = stays (Lengths (length ws) (length out)) (keeps_lengths os (length ws) (length out)) (refl, refl)

    pub sent_within_room : r.sent ≤ length out / 4 → s.sent ≤ length left / 4
    sent_within_room p = stays WithinRoom (keeps_room os) p

    pub ending_known : Ending r.ending → Ending s.ending
    ending_known p = stays GoodEnding (keeps_ending os) p

    pub words_stay : Operands os → r.acc < 4294967296 → Words ws → (s.acc < 4294967296) × Words vs
    words_stay small a w = stays AllWords (keeps_words os small) (a, w)

    pub bytes_stay : Operands os → r.acc < 4294967296 → Words ws → Bytes out → Bytes left
    bytes_stay small a w p = (stays AllBytes (keeps_bytes os small) ((a, w), p)).1

    -- a good object's run
    module _ (v t : ℕ) (good : Good v t os) where
      -- the link words never change
      pub link_words : (get_or vs 0 0 ≡ get_or ws 0 0) × (get_or vs 1 0 ≡ get_or ws 1 0)
      link_words = stays (Links (get_or ws 0 0) (get_or ws 1 0)) (keeps_links v t os good (get_or ws 0 0) (get_or ws 1 0)) (refl, refl)

      pub next_inside : r.next < length os → s.next < length os
      next_inside p = stays (Inside os) (keeps_inside v t os good) p
