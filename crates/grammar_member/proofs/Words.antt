-- The words that join members, as numbers in memory and as they stand among the tokens.
use Prim.Native.Nat.{ℕ, suc, ◌+◌, ◌<◌, ◌≤◌}
use mathlib.Core.Path.{◌≡◌, refl, ap}
use mathlib.Core.Bool.{Bool, true, false}
use mathlib.Core.List.{List, [], ◌∷◌}
use native.Mathlib.Omega.{arith}
use lib.Dec.{eqb}
use borrow.Author.Tests.{eqb-true}
use Rattle.std.specs.Prelude.{Option, Some, None}
use Rattle.base.specs.Choice.{pick}
use Rattle.base.proofs.Cases.{by_less, either_part}
use Rattle.sheet.specs.declared.Joining.{Joining}
use Rattle.sheet.specs.declared.Joining.TheVariants.{And, Or}
use Rattle.sheet.specs.Sheet.{Condition, compares, joins}
use Rattle.sheet.specs.Merge.{join_of}
use Rattle.source.specs.declared.Token.{Token}
use Rattle.source.specs.declared.Token.TheVariants.{Name, Number, Quoted, Binary, Compare, Mark}
use Rattle.source.specs.Tokens.{mark_and, mark_or}
use Rattle.source.specs.Grammar.{Read, read, next, opens, behind_first, member_by, run_by}
use Rattle.grammar_look.specs.declared.Tokens.{Tokens}
use Rattle.grammar_look.specs.Internal.{ahead}
use Rattle.grammar_look.proofs.Places.{ahead_none}
use Rattle.grammar_member.specs.declared.Reading.{Reading}
use Rattle.grammar_member.specs.Internal.{code, joining_of, agreed_word, word_behind, go_on, top_of, last_of, last_place, top_by, last_by}
use Rattle.grammar_member.proofs.Runs.{join_top}

-- ---- numbers

-- a word stands before the end
pub word_inside : (toks : Tokens) (at : ℕ) (j : Option Joining) (w : Joining) → word_behind j (ahead toks at) ≡ Some w → at < toks.count
unfolding word_behind opens pick
word_inside toks at j w e =
    by_less at toks.count (λ h. h)
    (λ h. let none : word_behind j (ahead toks at) ≡ None = rw (ahead_none toks at h) refl in
    let z : ◌≡◌ {A = ℕ} 0 1 = cc in
    absurd (omega arith))

pub code_few : (b : Option Joining) → code b ≤ 2
code_few None = omega arith
code_few (Some And) = omega arith
code_few (Some Or) = omega arith

pub joining_again : (b : Option Joining) → joining_of (code b) ≡ b
unfolding pick
joining_again None = refl
joining_again (Some And) = refl
joining_again (Some Or) = refl

-- ---- among the tokens

and_not_or : (ts : List Token) → opens mark_and ts ≡ true → opens mark_or ts ≡ false
unfolding opens
and_not_or [] e = refl
and_not_or (Name w ∷ ts) e = refl
and_not_or (Number m ∷ ts) e = refl
and_not_or (Quoted m ∷ ts) e = refl
and_not_or (Binary o ∷ ts) e = refl
and_not_or (Compare r ∷ ts) e = refl
and_not_or (Mark m ∷ ts) e = ap (λ k. eqb k mark_or) (eqb-true m mark_and e)

module _ (inner : List Token → Read Condition) (k : ℕ) (c : Condition) (ts : List Token) where
  abbrev More : Joining → Read Condition
  More v = next (member_by inner (behind_first ts)) (λ m rest. run_by inner v k (join_of v c m) rest)

  -- another member is to come
  pub go_more : (b : Option Joining) (v : Joining) → word_behind b ts ≡ Some v → go_on inner b (suc k) c ts ≡ More v
  unfolding word_behind run_by pick
  go_more b v h = go b v (opens mark_and ts) (opens mark_or ts) refl refl h
    where
      go : (b : Option Joining) (v : Joining) (s t : Bool) → opens mark_and ts ≡ s → opens mark_or ts ≡ t
          → pick s (agreed_word b And) (pick t (agreed_word b Or) None) ≡ Some v → go_on inner b (suc k) c ts ≡ More v
      go None And true t e f g = rw e refl
      go None And false true e f g = let z : ◌≡◌ {A = ℕ} 0 1 = cc in absurd (omega arith)
      go None And false false e f g = let z : ◌≡◌ {A = ℕ} 0 1 = cc in absurd (omega arith)
      go None Or true t e f g = let z : ◌≡◌ {A = ℕ} 0 1 = cc in absurd (omega arith)
      go None Or false true e f g = rw (e, f) refl
      go None Or false false e f g = let z : ◌≡◌ {A = ℕ} 0 1 = cc in absurd (omega arith)
      go (Some And) And true t e f g = rw e refl
      go (Some And) And false true e f g = let z : ◌≡◌ {A = ℕ} 0 1 = cc in absurd (omega arith)
      go (Some And) And false false e f g = let z : ◌≡◌ {A = ℕ} 0 1 = cc in absurd (omega arith)
      go (Some And) Or true t e f g = let z : ◌≡◌ {A = ℕ} 0 1 = cc in absurd (omega arith)
      go (Some And) Or false true e f g = let z : ◌≡◌ {A = ℕ} 0 1 = cc in absurd (omega arith)
      go (Some And) Or false false e f g = let z : ◌≡◌ {A = ℕ} 0 1 = cc in absurd (omega arith)
      go (Some Or) And true t e f g = let z : ◌≡◌ {A = ℕ} 0 1 = cc in absurd (omega arith)
      go (Some Or) And false true e f g = let z : ◌≡◌ {A = ℕ} 0 1 = cc in absurd (omega arith)
      go (Some Or) And false false e f g = let z : ◌≡◌ {A = ℕ} 0 1 = cc in absurd (omega arith)
      go (Some Or) Or true t e f g = let z : ◌≡◌ {A = ℕ} 0 1 = cc in absurd (omega arith)
      go (Some Or) Or false true e f g = rw f refl
      go (Some Or) Or false false e f g = let z : ◌≡◌ {A = ℕ} 0 1 = cc in absurd (omega arith)

  -- no word goes on
  pub go_stop : (b : Option Joining) → word_behind b ts ≡ None → go_on inner b (suc k) c ts ≡ read c ts
  unfolding word_behind run_by pick
  go_stop b h = go b (opens mark_and ts) (opens mark_or ts) refl refl h
    where
      go : (b : Option Joining) (s t : Bool) → opens mark_and ts ≡ s → opens mark_or ts ≡ t
          → pick s (agreed_word b And) (pick t (agreed_word b Or) None) ≡ None → go_on inner b (suc k) c ts ≡ read c ts
      go None true t e f g = let z : ◌≡◌ {A = ℕ} 0 1 = cc in absurd (omega arith)
      go None false true e f g = let z : ◌≡◌ {A = ℕ} 0 1 = cc in absurd (omega arith)
      go None false false e f g = rw (e, f) refl
      go (Some And) true t e f g = let z : ◌≡◌ {A = ℕ} 0 1 = cc in absurd (omega arith)
      go (Some And) false t e f g = rw e refl
      go (Some Or) true t e f g = rw (and_not_or ts e) refl
      go (Some Or) false true e f g = let z : ◌≡◌ {A = ℕ} 0 1 = cc in absurd (omega arith)
      go (Some Or) false false e f g = rw f refl

-- ---- a condition as a member of another

pub last_by_within : (w : Option Joining) (s : Reading) → s.start ≤ s.out → s.last ≤ s.out → last_by w s ≤ s.out
last_by_within None s h g = g
last_by_within (Some w) s h g = either_part (λ k. k ≤ s.out) _ _ _ (λ e. g) (λ e. h)

module _ (s : Reading) (p : ℕ) (first : s.start ≡ p) where
  pub top_by_law : (b : Option Joining) (c : Condition) → s.top ≡ top_of c → top_by b s ≡ join_top b c
  top_by_law None c e = e
  top_by_law (Some w) c e = refl

  pub last_by_law : (b : Option Joining) (c : Condition) → s.top ≡ top_of c → s.last ≡ p + last_of c → last_by b s ≡ p + last_place b c
  unfolding pick
  last_by_law None c e l = l
  last_by_law (Some w) (compares r x y) e l = rw e (omega (arith, first))
  last_by_law (Some And) (joins And x y) e l = rw e l
  last_by_law (Some And) (joins Or x y) e l = rw e (omega (arith, first))
  last_by_law (Some Or) (joins And x y) e l = rw e (omega (arith, first))
  last_by_law (Some Or) (joins Or x y) e l = rw e l
