-- What each case of the reader's answer stands for.
use Rattle.std.specs.Prelude.{ℕ, length, Result, Ok, Err}
use Rattle.order.specs.Object.{Reading, object, refused}
use Rattle.object_reader.specs.declared.Frame.{Frame}
use Rattle.object_reader.specs.declared.Refusal.{Refusal}
use Rattle.object_reader.specs.declared.Refusal.TheVariants.{Header, Line, Word, Address, Stop}

-- an object's V, T and N, or document 01's number of the refusal and its place
pub data Verdict : Type 0 where
  good : ℕ → ℕ → ℕ → Verdict
  refusal : ℕ → ℕ → Verdict

abbrev pub refusal_of : Refusal → Verdict
refusal_of Header = refusal 21 0
refusal_of (Line k) = refusal 22 k
refusal_of (Word k) = refusal 23 k
refusal_of (Address k) = refusal 24 k
refusal_of (Stop k) = refusal 25 k

abbrev pub verdict : Result Frame Refusal → Verdict
verdict (Ok frame) = good frame.variables frame.temporaries frame.orders
verdict (Err reason) = refusal_of reason

abbrev pub verdict_of : Reading → Verdict
verdict_of (object v t os) = good v t (length os)
verdict_of (refused n place) = refusal n place
