-- The effect of orders and a run of them with a budget, document 01 ("Orders", "A run reports ..").
-- Comments in quotes are document 01's words.
use Rattle.std.specs.Prelude.{ℕ, zero, suc, ◌+◌, ◌*◌, ◌/◌, ◌%◌, List, [], ◌∷◌, ltb, eqb, length, get_or, set}
use Rattle.std.proofs.lemmas.List.Edits.{sets}
use Rattle.base.specs.Choice.{pick}
use Rattle.word.specs.Word.{Outcome, value, fault, sum, difference, product, negation, quotient, power, shift_left, shift_right}
use Rattle.word.specs.Word.{and_bits, or_bits, xor_bits, not_bits, comparison, related_to_zero}
use Rattle.order.specs.declared.Operation.{Operation}
use Rattle.order.specs.declared.Operation.TheVariants.{Load, Add, Sub, Mlt, Div, Exp, Shl, Shr, And, Or, Xor, Cmp}
use Rattle.order.specs.declared.Order.{Order}
use Rattle.order.specs.declared.Order.TheVariants.{Word, Number, Store, Neg, Not, Jump, Skip, Branch, Cond, Send, Stop}
use Rattle.machine.specs.declared.Registers.{Registers}

-- "A state is the words, the accumulator, the next order, the count sent and the ending, if any": the registers and the
-- words; here with the output, the bytes that the numbers are sent to
pub data Machine : Type 0 where
  machine : Registers → List ℕ → List ℕ → Machine

-- ---- what becomes of the registers

-- the accumulator becomes a, and the next order is the one behind
abbrev pub advance : ℕ → Registers → Registers
advance a r = record { acc = a; next = r.next + 1; sent = r.sent; ending = r.ending }

-- "go to order"
abbrev pub go_to : ℕ → Registers → Registers
go_to a r = record { acc = r.acc; next = a; sent = r.sent; ending = r.ending }

-- a number more is sent, and the next order is the one behind
abbrev pub sent_one : Registers → Registers
sent_one r = record { acc = r.acc; next = r.next + 1; sent = r.sent + 1; ending = r.ending }

-- the ending becomes e, and nothing else changes
abbrev pub end_with : ℕ → Registers → Registers
end_with e r = record { acc = r.acc; next = r.next; sent = r.sent; ending = e }

-- ---- one order's effect

-- an order is carried out, or it faults
pub data Effect : Type 0 where
  done : Machine → Effect
  failed : ℕ → Effect

-- "ACC from word or number; ACC combined with it"; CMP: "ACC becomes -1, 0 or 1"
abbrev pub operate : Operation → ℕ → ℕ → Outcome
operate Load a x = value x
operate Add a x = value (sum a x)
operate Sub a x = value (difference a x)
operate Mlt a x = value (product a x)
operate Div a x = quotient a x
operate Exp a x = power a x
operate Shl a x = shift_left a x
operate Shr a x = shift_right a x
operate And a x = value (and_bits a x)
operate Or a x = value (or_bits a x)
operate Xor a x = value (xor_bits a x)
operate Cmp a x = value (comparison a x)

-- what an operation gives goes to the accumulator
abbrev pub to_acc : Outcome → Machine → Effect
to_acc (value a) (machine r ws out) = done (machine (advance a r) ws out)
to_acc (fault n) m = failed n

-- the bytes of a word, "highest first"
abbrev pub word_bytes : ℕ → List ℕ
word_bytes a = (a / 16777216) ∷ (a / 65536 % 256) ∷ (a / 256 % 256) ∷ (a % 256) ∷ []

-- "sent word c, from 0, is bytes 4c to 4c+3 ..; other output bytes stay"; fault "4 SEND with the output full", "the room (a
-- quarter of the output bytes, rounded down)"
unfoldable pub send : Machine → Effect
send (machine r ws out) =
    pick
    (ltb r.sent (length out / 4))
    (done (machine (sent_one r) ws (sets out (4 * r.sent) (word_bytes r.acc))))
    (failed 4)

-- "STOP leaves the next order at itself." SKIP is "a new order .. with the effect of JMP" (02, L1). COND "does nothing" (02, L5): it
-- is a step to the order behind.
abbrev pub effect : Order → Machine → Effect
effect (Word f w) (machine r ws out) = to_acc (operate f r.acc (get_or ws w 0)) (machine r ws out)
effect (Number f n) (machine r ws out) = to_acc (operate f r.acc n) (machine r ws out)
effect (Store w) (machine r ws out) = done (machine (advance r.acc r) (set ws w r.acc) out)
effect Neg (machine r ws out) = done (machine (advance (negation r.acc) r) ws out)
effect Not (machine r ws out) = done (machine (advance (not_bits r.acc) r) ws out)
effect (Jump a) (machine r ws out) = done (machine (go_to a r) ws out)
effect (Skip a) (machine r ws out) = done (machine (go_to a r) ws out)
effect (Branch s a) (machine r ws out) =
    done (machine (pick (related_to_zero s r.acc) (go_to a r) (advance r.acc r)) ws out)
effect (Cond n) (machine r ws out) = done (machine (advance r.acc r) ws out)
effect Send m = send m
effect Stop (machine r ws out) = done (machine (end_with 20 r) ws out)

-- ---- a run

-- the steps of a run, and what it leaves
pub data Run : Type 0 where
  ran : ℕ → Machine → Run

-- "One order carried out is one step"
abbrev pub one_more : Run → Run
one_more (ran k m) = ran (suc k) m

abbrev pub ending : Machine → ℕ
ending (machine r ws out) = r.ending

-- the effect of the next order
abbrev pub next_effect : List Order → Machine → Effect
next_effect os (machine r ws out) = effect (get_or os r.next Stop) (machine r ws out)

-- "a faulting order is not counted and changes nothing but the ending"
abbrev pub faulted : ℕ → Machine → Run
faulted n (machine r ws out) = ran 0 (machine (end_with n r) ws out)

abbrev pub on_effect : Effect → (ℕ → Run) → (Machine → Run) → Run
on_effect (failed n) f d = f n
on_effect (done m) f d = d m

-- "An ended state takes no step", and "A fault is met even with no budget left"
unfoldable pub run : List Order → ℕ → Machine → Run
run os zero m = pick (eqb (ending m) 0) (on_effect (next_effect os m) (λ n. faulted n m) (λ after. ran 0 m)) (ran 0 m)
run os (suc budget) m =
    pick
    (eqb (ending m) 0)
    (on_effect (next_effect os m) (λ n. faulted n m) (λ after. one_more (run os budget after)))
    (ran 0 m)
