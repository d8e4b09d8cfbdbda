-- The reply to what the reader of objects answers.
use Rattle.std.specs.Prelude.{ℕ}
use Rattle.object_reader.specs.Answers.{Verdict, good, refusal}
use Rattle.call.specs.Reply.{reply}

-- the number and place of a refusal; an object that is good has none
abbrev pub verdict_reply : Verdict → ℕ
verdict_reply (good v t n) = reply 0 0
verdict_reply (refusal n place) = reply n place
