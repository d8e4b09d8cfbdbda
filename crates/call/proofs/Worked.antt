-- "Words start at 0": a state of zero bytes is the start. Document 01's worked object called from it: it sends 5, then 3,
-- in 20 steps.
use Prim.Native.Nat.{ℕ, zero, suc, ◌+◌}
use mathlib.Core.Path.{◌≡◌, refl}
use mathlib.Core.List.{[], ◌∷◌}
use lib.ListN.{replicate}
use Rattle.base.specs.Choice.{pick}
use Rattle.base.specs.Text.{bytes}
use Rattle.base.specs.Front.{on_front}
use Rattle.base.proofs.Lists.{get_d_repeated}
use Rattle.word.specs.Word.{wrap, signed, word, difference, quotient, comparison}
use Rattle.text.specs.Pieces.{fixed, digits, numeral}
use Rattle.order.specs.Order.{table}
use Rattle.order.specs.Object.{within_limits, header_at, record_among, record_at, lines_at}
use Rattle.order.specs.Object.{first_stop, first_operand, stop_last, exactly, reading}
use Rattle.machine.specs.Machine.{send, run}
use Rattle.machine.proofs.Worked.{worked}
use Rattle.skimp_state.specs.State.{number_at, number_bytes, registers_of, words_at, register_bytes, words_bytes, state_bytes}
use Rattle.call.specs.Reply.{reply}
use Rattle.call.specs.Run.{call, is_ending, registers_fit, state_fits, object_call, run_call}

number_zero : (k i n : ℕ) → number_at k i (replicate n 0) ≡ 0
unfolding number_at
number_zero zero i n = refl
number_zero (suc k) i n = rw (number_zero k i n, get_d_repeated {A = ℕ} n (i + k) 0) refl

pub start_registers : (n : ℕ) → registers_of (replicate n 0) ≡ record { acc = 0; next = 0; sent = 0; ending = 0 }
start_registers n = rw (number_zero 4 0 n, number_zero 4 4 n, number_zero 8 8 n, number_zero 4 16 n) refl

pub start_words : (words i n : ℕ) → words_at words i (replicate n 0) ≡ replicate words 0
unfolding words_at
start_words zero i n = refl
start_words (suc words) i n = rw (number_zero 4 i n, start_words words (i + 4) n) refl

pub worked_call :
    run_call worked (replicate 44 0) (replicate 9 255) 1000
    ≡ call
    (reply 20 20)
    (0 ∷ 0 ∷ 0 ∷ 3 ∷ 0 ∷ 0 ∷ 0 ∷ 20 ∷ 0 ∷ 0 ∷ 0 ∷ 0 ∷ 0 ∷ 0 ∷ 0 ∷ 2 ∷ 0 ∷ 0 ∷ 0 ∷ 20
    ∷ 0 ∷ 0 ∷ 0 ∷ 0 ∷ 0 ∷ 0 ∷ 0 ∷ 0 ∷ 0 ∷ 0 ∷ 0 ∷ 3 ∷ 0 ∷ 0 ∷ 0 ∷ 5 ∷ 0 ∷ 0 ∷ 0 ∷ 3 ∷ 255 ∷ 255 ∷ 255 ∷ 254 ∷ [])
    (0 ∷ 0 ∷ 0 ∷ 5 ∷ 0 ∷ 0 ∷ 0 ∷ 3 ∷ 255 ∷ [])
unfolding bytes pick table on_front fixed digits numeral within_limits header_at record_among record_at lines_at first_stop first_operand stop_last exactly reading wrap signed word difference quotient comparison send run number_at number_bytes words_at register_bytes words_bytes state_bytes is_ending registers_fit state_fits object_call run_call
worked_call = refl
