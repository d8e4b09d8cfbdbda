-- What the functions that the crate keeps to itself are shown to do.
use Rattle.std.specs.Prelude.{ℕ, slice_index, slice_set}
use Rattle.base.specs.Choice.{pick}
use Rattle.word.specs.Word.{Outcome, value, fault, negation, not_bits, related_to_zero}
use Rattle.order.specs.declared.Order.{Order}
use Rattle.order.specs.declared.Order.TheVariants.{Word, Number, Store, Neg, Not, Jump, Skip, Branch, Cond, Send, Stop}
use Rattle.machine.specs.Machine.{Machine, machine, end_with, go_to, operate}
use Rattle.machine_effect.specs.Internal.{moved, settled, sent_to}

abbrev pub fault_in : Outcome → ℕ
fault_in (value a) = 0
fault_in (fault n) = n

-- an order carried out, with the place of the order behind it given
abbrev pub carried : Order → ℕ → Machine → Machine
carried (Word f w) behind (machine r ws out) = machine (settled (operate f r.acc (slice_index ws w)) behind r) ws out
carried (Number f n) behind (machine r ws out) = machine (settled (operate f r.acc n) behind r) ws out
carried (Store w) behind (machine r ws out) = machine (moved r.acc behind r) (slice_set ws w r.acc) out
carried Neg behind (machine r ws out) = machine (moved (negation r.acc) behind r) ws out
carried Not behind (machine r ws out) = machine (moved (not_bits r.acc) behind r) ws out
carried (Jump a) behind (machine r ws out) = machine (go_to a r) ws out
carried (Skip a) behind (machine r ws out) = machine (go_to a r) ws out
carried (Branch s a) behind (machine r ws out) =
    machine (pick (related_to_zero s r.acc) (go_to a r) (moved r.acc behind r)) ws out
carried (Cond n) behind (machine r ws out) = machine (moved r.acc behind r) ws out
carried Send behind m = sent_to behind m
carried Stop behind (machine r ws out) = machine (end_with 20 r) ws out
