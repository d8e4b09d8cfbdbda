-- What a call that writes a text replies and leaves. Comments in quotes are document 01's words.
use Rattle.std.specs.Prelude.{ℕ, ◌+◌, ◌*◌, ◌/◌, ◌%◌, List, ◌++◌, leb, length, drop}
use Rattle.base.specs.Choice.{pick}

-- a number of "What the box replies", or how a run has ended, and its value: the length of a text, a place or the steps. C
-- gets both as one number
abbrev pub reply : ℕ → ℕ → ℕ
reply number value = number * 4294967296 + value

-- the two, as C takes them apart
abbrev pub number_in : ℕ → ℕ
number_in r = r / 4294967296

abbrev pub value_in : ℕ → ℕ
value_in r = r % 4294967296

-- a call that writes a text: its reply, and the bytes of the buffer after it
pub data Writing : Type 0 where
  wrote : ℕ → List ℕ → Writing

-- "Refused calls write nothing."
abbrev pub refused_writing : ℕ → ℕ → List ℕ → Writing
refused_writing number place buffer = wrote (reply number place) buffer

-- "An accepted text fills the front of its buffer; the bytes behind stay." Where it is too long for the buffer, `short` is the
-- number of the reply
unfoldable pub text_writing : ℕ → List ℕ → List ℕ → Writing
text_writing short text buffer =
    pick
    (leb (length text) (length buffer))
    (wrote (reply 0 (length text)) (text ++ drop (length text) buffer))
    (refused_writing short 0 buffer)
