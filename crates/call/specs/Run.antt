-- What a call of run replies and leaves, document 01 ("Run checks 21 to 25, never 31, then 26"). Comments in quotes are
-- document 01's words.
use Rattle.std.specs.Prelude.{ℕ, ◌+◌, ◌*◌, ◌/◌, ◌%◌, Bool, true, false, List, ltb, leb, eqb, length}
use Rattle.base.specs.Choice.{pick}
use Rattle.order.specs.declared.Order.{Order}
use Rattle.order.specs.Object.{Reading, object, refused, reading}
use Rattle.machine.specs.declared.Registers.{Registers}
use Rattle.machine.specs.Machine.{machine, Run, ran, run}
use Rattle.skimp_state.specs.State.{registers_of, words_at, state_bytes}
use Rattle.call.specs.Reply.{reply}

-- a call: its reply, and the bytes of the state and of the output after it
pub data Call : Type 0 where
  call : ℕ → List ℕ → List ℕ → Call

-- "Refused calls write nothing."
abbrev pub refused_call : ℕ → ℕ → List ℕ → List ℕ → Call
refused_call number place state output = call (reply number place) state output

-- "an ending that is not none, stopped or one of the faults" does not fit
unfoldable pub is_ending : ℕ → Bool
is_ending e = pick (ltb e 5) true (eqb e 20)

-- the ending, the steps, the last state and the output of a run
abbrev pub ran_call : Run → Call
ran_call (ran steps (machine r ws output)) = call (reply r.ending steps) (state_bytes r ws) output

-- 26 "state does not fit the object": "next order N or more, more sent than the room .., or an ending that is not none,
-- stopped or one of the faults"
unfoldable pub registers_fit : ℕ → ℕ → Registers → Bool
registers_fit n room r = pick (ltb r.next n) (pick (leb r.sent room) (is_ending r.ending) false) false

-- "words not V+T+2 in number"; "the room (a quarter of the output bytes, rounded down)". `words` is V+T+2
unfoldable pub state_fits : ℕ → ℕ → List ℕ → List ℕ → Bool
state_fits words n state output =
    pick (eqb (length state) (20 + 4 * words)) (registers_fit n (length output / 4) (registers_of state)) false

-- the call on an object with `words` words and the orders os
unfoldable pub object_call : ℕ → ℕ → List Order → List ℕ → List ℕ → ℕ → Call
object_call words n os state output budget =
    pick
    (state_fits words n state output)
    (ran_call (run os budget (machine (registers_of state) (words_at words 20 state) output)))
    (refused_call 26 0 state output)

abbrev pub read_call : Reading → List ℕ → List ℕ → ℕ → Call
read_call (object v t os) state output budget = object_call (v + t + 2) (length os) os state output budget
read_call (refused n place) state output budget = refused_call n place state output

-- "Run checks 21 to 25, never 31, then 26"
unfoldable pub run_call : List ℕ → List ℕ → List ℕ → ℕ → Call
run_call text state output budget = read_call (reading text) state output budget

-- ---- two calls, one after the other

-- the reply of both: that of the second, with "steps summed"; a refusal has no steps
unfoldable pub reply_of_both : ℕ → ℕ → ℕ
reply_of_both first second = pick (ltb (first / 4294967296) 21) (second + first % 4294967296) second
