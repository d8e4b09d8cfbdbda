-- What becomes of a text that is written into a buffer. Comments in quotes are document 01's words.
use Rattle.std.specs.Prelude.{ℕ, List, ltb, length}
use Rattle.std.proofs.lemmas.List.Edits.{sets}
use Rattle.base.specs.Choice.{pick}

-- document 01's number of a reply, and with 0 the length of the text, else the place
pub data Reply : Type 0 where
  reply : ℕ → ℕ → Reply

-- the reply for a text and a buffer; `short` is the number of "buffer too short", whose place is 0
abbrev pub reply_or : ℕ → List ℕ → List ℕ → Reply
reply_or short s buffer = pick (ltb (length buffer) (length s)) (reply short 0) (reply 0 (length s))

-- the buffer afterwards. "Refused calls write nothing. An accepted text fills the front of its buffer; the bytes behind stay."
abbrev pub filled_with : List ℕ → List ℕ → List ℕ
filled_with s buffer = pick (ltb (length buffer) (length s)) buffer (sets buffer 0 s)
