-- A text that is written into a buffer, as the writers say it and as the calls do.
use Prim.Native.Nat.{ℕ, ◌<◌, ◌≤◌}
use mathlib.Core.Path.{◌≡◌, refl, sym, ap, ◌∙◌}
use mathlib.Core.List.{List, ◌++◌}
use native.Mathlib.Omega.{arith}
use native.Mathlib.Nat.{zero-add}
use borrow.Author.Tests.{lt-ltb, le-ltb, le-leb, lt-leb}
use lib.ListN.{length, drop}
use lib.Seq.{sets, sets-eq}
use Rattle.base.specs.Choice.{pick}
use Rattle.base.proofs.Cases.{by_less}
use Rattle.text.specs.Buffer.{Reply, reply as reply_with, reply_or, filled_with}
use Rattle.call.specs.Reply.{reply, wrote, text_writing}

abbrev pub reply_number : Reply → ℕ
reply_number (reply_with number value) = reply number value

pub front_set : (text buffer : List ℕ) → length text ≤ length buffer → sets buffer 0 text ≡ text ++ drop (length text) buffer
front_set text buffer h = sets-eq text buffer 0 (omega (arith, h)) ∙ ap (λ k. text ++ drop k buffer) (zero-add (length text))

module _ (short : ℕ) (text buffer : List ℕ) where
  pub text_fits : length text ≤ length buffer → text_writing short text buffer ≡ wrote (reply 0 (length text)) (text ++ drop (length text) buffer)
  unfolding text_writing pick
  text_fits h = rw (le-leb (length text) (length buffer) h) refl

  pub text_short : length buffer < length text → text_writing short text buffer ≡ wrote (reply short 0) buffer
  unfolding text_writing pick
  text_short h = rw (lt-leb (length text) (length buffer) h) refl

  pub text_written : wrote (reply_number (reply_or short text buffer)) (filled_with text buffer) ≡ text_writing short text buffer
  unfolding pick
  text_written =
      by_less (length buffer) (length text)
      (λ h. rw (lt-ltb (length buffer) (length text) h) (sym (text_short h)))
      (λ h. rw (le-ltb (length buffer) (length text) h, front_set text buffer h) (sym (text_fits h)))

  -- what a writer has told and left
  pub told_written : (r : ℕ) (x : Reply) (after : List ℕ) → r ≡ reply_number x → x ≡ reply_or short text buffer → after ≡ filled_with text buffer → wrote r after ≡ text_writing short text buffer
  told_written r x after e f g = rw (e, f, g) text_written
