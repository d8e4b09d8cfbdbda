-- A call that writes a text: what can be told from its reply.
use Prim.Native.Nat.{ℕ, ◌≤◌, ◌<◌}
use mathlib.Core.Path.{◌≡◌, refl, sym, ap, ◌∙◌}
use mathlib.Core.List.{List, ◌++◌}
use native.Mathlib.Omega.{arith}
use lib.ListN.{length, take, drop}
use lib.Seq.{take_at}
use Rattle.base.proofs.Cases.{by_less}
use Rattle.call.specs.Reply.{reply, number_in, value_in, Writing, wrote, text_writing}
use Rattle.call.proofs.Texts.{text_fits, text_short}

abbrev pub reply_of : Writing → ℕ
reply_of (wrote r left) = r

abbrev pub left_by : Writing → List ℕ
left_by (wrote r left) = left

-- a refusal is no acceptance
pub refused_number : (n place r : ℕ) → place < 4294967296 → reply n place ≡ r → number_in r ≡ n
refused_number n place r h e = omega (arith, h, e)

pub refused_value : (n place r : ℕ) → place < 4294967296 → reply n place ≡ r → value_in r ≡ place
refused_value n place r h e = omega (arith, h, e)

-- what an accepted text leaves
pub record Whole (text buffer : List ℕ) (r : ℕ) (left : List ℕ) : Type 0 where
  pub fits : length text ≤ length buffer
  pub length_given : value_in r ≡ length text
  pub bytes : left ≡ text ++ drop (length text) buffer

-- what a text that is too long leaves
pub record Short (short : ℕ) (text buffer : List ℕ) (r : ℕ) (left : List ℕ) : Type 0 where
  pub longer : length buffer < length text
  pub number : number_in r ≡ short
  pub value : value_in r ≡ 0
  pub kept : left ≡ buffer

pub data Told (short : ℕ) (text buffer : List ℕ) (r : ℕ) (left : List ℕ) : Type 0 where
  whole : number_in r ≡ 0 → Whole text buffer r left → Told short text buffer r left
  too_short : Short short text buffer r left → Told short text buffer r left

module _ (short : ℕ) (text buffer : List ℕ) (few : length text < 4294967296) (r : ℕ) (left : List ℕ) (e : text_writing short text buffer ≡ wrote r left) where
  pub text_told : Told short text buffer r left
  text_told =
      by_less (length buffer) (length text)
      (λ h. let same = sym (text_short short text buffer h) ∙ e in
      too_short (record { longer = h; number = refused_number short 0 r (omega arith) (ap reply_of same); value = refused_value short 0 r (omega arith) (ap reply_of same); kept = sym (ap left_by same) }))
      (λ h. let same = sym (text_fits short text buffer h) ∙ e in
      whole (refused_number 0 (length text) r few (ap reply_of same)) (record { fits = h; length_given = refused_value 0 (length text) r few (ap reply_of same); bytes = sym (ap left_by same) }))

-- the text that was written is the front of the buffer
pub front_of : {text buffer : List ℕ} {r : ℕ} {left : List ℕ} → Whole text buffer r left → take (value_in r) left ≡ text
front_of {text} {buffer} {r} {left} w =
    ap (λ k. take k left) w.length_given ∙ ap (take (length text)) w.bytes ∙ take_at text (drop (length text) buffer) (length text) refl
