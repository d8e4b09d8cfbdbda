-- The reply to an object that the reader refuses.
use Prim.Native.Nat.{ℕ}
use mathlib.Core.Path.{◌≡◌, refl}
use native.Mathlib.Omega.{arith}
use Rattle.order.specs.Object.{Reading, object, refused}
use Rattle.object_reader.specs.declared.Refusal.{Refusal}
use Rattle.object_reader.specs.declared.Refusal.TheVariants.{Header, Line, Word, Address, Stop}
use Rattle.object_reader.specs.Answers.{refusal, refusal_of, verdict_of}
use Rattle.call.specs.Reply.{reply}
use Rattle.call.specs.Answers.{verdict_reply}

-- the reading that is refused with a reply
pub record Refused (x : Reading) (r : ℕ) : Type 0 where
  pub number : ℕ
  pub place : ℕ
  pub same : x ≡ refused number place
  pub replied : r ≡ reply number place

refused_so : (x : Reading) (n p : ℕ) → refusal n p ≡ verdict_of x → Refused x (reply n p)
refused_so (object v t os) n p e = let z : ◌≡◌ {A = ℕ} 0 1 = cc in absurd (omega arith)
refused_so (refused m q) n p e = record { number = n; place = p; same = cc; replied = refl }

pub told_refused : (r : Refusal) (x : Reading) → refusal_of r ≡ verdict_of x → Refused x (verdict_reply (refusal_of r))
told_refused Header x e = refused_so x 21 0 e
told_refused (Line p) x e = refused_so x 22 p e
told_refused (Word p) x e = refused_so x 23 p e
told_refused (Address p) x e = refused_so x 24 p e
told_refused (Stop p) x e = refused_so x 25 p e
