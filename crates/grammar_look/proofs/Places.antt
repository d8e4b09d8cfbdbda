-- The tokens from a place on, and what is found there.
use Prim.Native.Nat.{ℕ, suc, ◌+◌, ◌-◌, ◌<◌, ◌≤◌}
use mathlib.Core.Path.{◌≡◌, refl, ap₂}
use mathlib.Core.Bool.{true, false}
use mathlib.Core.List.{List, [], ◌∷◌}
use native.Mathlib.Omega.{arith}
use native.Mathlib.Numerals.{add-one}
use lib.ListN.{length}
use Rattle.std.specs.Prelude.{None, Some}
use Rattle.base.specs.Choice.{pick}
use Rattle.source.specs.declared.Token.{Token}
use Rattle.source.specs.Tokens.{mark_colon}
use Rattle.source.specs.Grammar.{opens, behind_first}
use Rattle.source.specs.Memory.{tokens_from}
use Rattle.source.proofs.Stored.{tokens_length, tokens_more, tokens_over}
use Rattle.grammar_look.specs.declared.Tokens.{Tokens}
use Rattle.grammar_look.specs.Internal.{token_at, ahead, first, opening_of, first_opening, first_number, first_label}

module _ (toks : Tokens) (at : ℕ) where
  pub ahead_length : length (ahead toks at) ≡ toks.count - at
  ahead_length = tokens_length at (toks.count - at) toks.kinds.now toks.values.now

  pub ahead_more : at < toks.count → ahead toks at ≡ token_at toks at ∷ ahead toks (at + 1)
  ahead_more h = tokens_more toks.kinds.now toks.values.now at toks.count h

  pub ahead_none : toks.count ≤ at → ahead toks at ≡ []
  ahead_none h = tokens_over toks.kinds.now toks.values.now at toks.count h

  pub ahead_behind : at < toks.count → ahead toks (at + 1) ≡ behind_first (ahead toks at)
  unfolding behind_first
  ahead_behind h = rw (ahead_more h) refl

  -- two tokens
  pub ahead_two : at < toks.count → (toks.count - at ≡ 1 → ⊥) → ahead toks at ≡ token_at toks at ∷ token_at toks (at + 1) ∷ ahead toks (at + 2)
  unfolding tokens_from
  ahead_two h g =
      let two_more : at + 1 < toks.count = omega (arith, g) in
      let more : toks.count - at ≡ suc (suc (toks.count - (at + 2))) = omega arith in
      let two : at + 2 ≡ suc (suc at) = omega arith in
      rw (more, add-one at, two) refl

  -- one token
  pub ahead_one : at < toks.count → toks.count - at ≡ 1 → ahead toks at ≡ token_at toks at ∷ []
  unfolding tokens_from
  ahead_one h one = rw one refl

-- what two tokens open
pub opening_two : (l : List Token) (t u : Token) → first l ≡ Some t → first (behind_first l) ≡ Some u → first_opening l ≡ opening_of t u
unfolding behind_first
opening_two [] t u e f = let z : ◌≡◌ {A = ℕ} 0 1 = cc in absurd (omega arith)
opening_two (a ∷ []) t u e f = let z : ◌≡◌ {A = ℕ} 0 1 = cc in absurd (omega arith)
opening_two (a ∷ b ∷ ts) t u e f =
    let one : a ≡ t = cc in
    let two : b ≡ u = cc in
    ap₂ opening_of one two

-- one token, or none, opens nothing
pub opening_none : (l : List Token) → first (behind_first l) ≡ None → first_opening l ≡ None
unfolding behind_first
opening_none [] f = refl
opening_none (a ∷ []) f = refl
opening_none (a ∷ b ∷ ts) f = let z : ◌≡◌ {A = ℕ} 0 1 = cc in absurd (omega arith)

-- a label is a number, and a colon behind it
pub number_then : (l : List Token) → first_number l ≡ true → first_label l ≡ opens mark_colon (behind_first l)
unfolding behind_first opens pick
number_then [] e = let z : ◌≡◌ {A = ℕ} 0 1 = cc in absurd (omega arith)
number_then (t ∷ []) e = refl
number_then (t ∷ u ∷ ts) e = rw e refl

pub no_number : (l : List Token) → first_number l ≡ false → first_label l ≡ false
unfolding pick
no_number [] e = refl
no_number (t ∷ []) e = refl
no_number (t ∷ u ∷ ts) e = rw e refl
