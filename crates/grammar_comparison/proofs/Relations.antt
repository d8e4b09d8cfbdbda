-- Which brackets are a condition's, token by token.
use Prim.Native.Nat.{ℕ, zero, suc, ◌+◌, ◌-◌, ◌<◌, ◌≤◌}
use mathlib.Core.Path.{◌≡◌, refl, sym, ap, ◌∙◌}
use mathlib.Core.Bool.{Bool, true, false, false≢true}
use mathlib.Core.List.{List, [], ◌∷◌}
use native.Mathlib.Omega.{arith}
use native.Mathlib.Numerals.{add-one}
use Rattle.std.specs.Prelude.{Option, Some, None, SomeIff, is_some}
use Rattle.base.specs.Choice.{pick}
use Rattle.base.proofs.Cases.{pick_yes, pick_no, by_less}
use Rattle.source.specs.declared.Token.{Token}
use Rattle.source.specs.declared.Token.TheVariants.{Name, Number, Quoted, Binary, Compare, Mark}
use Rattle.source.specs.Tokens.{mark_open, mark_close}
use Rattle.source.specs.Grammar.{is_mark, opens, behind_first, outwards, holds_relation, opens_condition}
use Rattle.grammar_look.specs.declared.Tokens.{Tokens}
use Rattle.grammar_look.specs.Internal.{token_at, ahead, first_relation}
use Rattle.grammar_comparison.specs.Internal.{holds_from}
use Rattle.grammar_look.proofs.Places.{ahead_none, ahead_one, ahead_behind}

relation_seen : (d : ℕ) (ts : List Token) → is_some (first_relation ts) ≡ true → true ≡ holds_relation d ts
unfolding holds_relation
relation_seen d [] e = let z : ◌≡◌ {A = ℕ} 0 1 = cc in absurd (omega arith)
relation_seen d (Name w ∷ ts) e = let z : ◌≡◌ {A = ℕ} 0 1 = cc in absurd (omega arith)
relation_seen d (Number m ∷ ts) e = let z : ◌≡◌ {A = ℕ} 0 1 = cc in absurd (omega arith)
relation_seen d (Quoted m ∷ ts) e = let z : ◌≡◌ {A = ℕ} 0 1 = cc in absurd (omega arith)
relation_seen d (Binary o ∷ ts) e = let z : ◌≡◌ {A = ℕ} 0 1 = cc in absurd (omega arith)
relation_seen d (Compare s ∷ ts) e = refl
relation_seen d (Mark m ∷ ts) e = let z : ◌≡◌ {A = ℕ} 0 1 = cc in absurd (omega arith)

open_seen : (d : ℕ) (ts : List Token) → opens mark_open ts ≡ true → holds_relation (d + 1) (behind_first ts) ≡ holds_relation d ts
unfolding holds_relation opens behind_first
open_seen d [] e = let z : ◌≡◌ {A = ℕ} 0 1 = cc in absurd (omega arith)
open_seen d (Name w ∷ ts) e = let z : ◌≡◌ {A = ℕ} 0 1 = cc in absurd (omega arith)
open_seen d (Number m ∷ ts) e = let z : ◌≡◌ {A = ℕ} 0 1 = cc in absurd (omega arith)
open_seen d (Quoted m ∷ ts) e = let z : ◌≡◌ {A = ℕ} 0 1 = cc in absurd (omega arith)
open_seen d (Binary o ∷ ts) e = let z : ◌≡◌ {A = ℕ} 0 1 = cc in absurd (omega arith)
open_seen d (Compare s ∷ ts) e = let z : ◌≡◌ {A = ℕ} 0 1 = cc in absurd (omega arith)
open_seen d (Mark m ∷ ts) e = pick_yes _ _ _ _ e (ap (λ k. holds_relation k ts) (add-one d))

-- a closing bracket that is not taken for an opening one
close_seen : (d : ℕ) (ts : List Token) → opens mark_open ts ≡ false → opens mark_close ts ≡ true
    → outwards d (λ e. holds_relation e (behind_first ts)) ≡ holds_relation d ts
unfolding holds_relation opens behind_first
close_seen d [] f e = let z : ◌≡◌ {A = ℕ} 0 1 = cc in absurd (omega arith)
close_seen d (Name w ∷ ts) f e = let z : ◌≡◌ {A = ℕ} 0 1 = cc in absurd (omega arith)
close_seen d (Number m ∷ ts) f e = let z : ◌≡◌ {A = ℕ} 0 1 = cc in absurd (omega arith)
close_seen d (Quoted m ∷ ts) f e = let z : ◌≡◌ {A = ℕ} 0 1 = cc in absurd (omega arith)
close_seen d (Binary o ∷ ts) f e = let z : ◌≡◌ {A = ℕ} 0 1 = cc in absurd (omega arith)
close_seen d (Compare s ∷ ts) f e = let z : ◌≡◌ {A = ℕ} 0 1 = cc in absurd (omega arith)
close_seen d (Mark m ∷ ts) f e = pick_no _ _ _ _ f (pick_yes _ _ _ _ e refl)

other_seen : (d : ℕ) (ts : List Token) → first_relation ts ≡ None → opens mark_open ts ≡ false → opens mark_close ts ≡ false
    → holds_relation d (behind_first ts) ≡ holds_relation d ts
unfolding holds_relation opens behind_first
other_seen d [] e f g = refl
other_seen d (Name w ∷ ts) e f g = refl
other_seen d (Number m ∷ ts) e f g = refl
other_seen d (Quoted m ∷ ts) e f g = refl
other_seen d (Binary o ∷ ts) e f g = refl
other_seen d (Compare s ∷ ts) e f g = let z : ◌≡◌ {A = ℕ} 0 1 = cc in absurd (omega arith)
other_seen d (Mark m ∷ ts) e f g = pick_no _ _ _ _ f (pick_no _ _ _ _ g refl)

inner_end : (d : ℕ) (test : ℕ → Bool) → d ≡ 0 → false ≡ outwards d test
inner_end zero test e = refl
inner_end (suc d) test e = absurd (omega (arith, e))

outer : (d : ℕ) (test : ℕ → Bool) → (d ≡ 0 → ⊥) → test (d - 1) ≡ outwards d test
outer zero test e = absurd (e refl)
outer (suc d) test e = let less : suc d - 1 ≡ d = omega arith in ap test less

module _ (toks : Tokens) (at d : ℕ) where
  pub sees_relation : is_some (first_relation (ahead toks at)) ≡ true → true ≡ holds_relation d (ahead toks at)
  sees_relation e = relation_seen d (ahead toks at) e

  pub sees_open : at < toks.count → opens mark_open (ahead toks at) ≡ true
      → holds_relation (d + 1) (ahead toks (at + 1)) ≡ holds_relation d (ahead toks at)
  sees_open h e = ap (holds_relation (d + 1)) (ahead_behind toks at h) ∙ open_seen d (ahead toks at) e

  pub sees_end : opens mark_open (ahead toks at) ≡ false → opens mark_close (ahead toks at) ≡ true → d ≡ 0
      → false ≡ holds_relation d (ahead toks at)
  sees_end f e z = inner_end d (λ k. holds_relation k (behind_first (ahead toks at))) z ∙ close_seen d (ahead toks at) f e

  pub sees_close : at < toks.count → opens mark_open (ahead toks at) ≡ false → opens mark_close (ahead toks at) ≡ true → (d ≡ 0 → ⊥)
      → holds_relation (d - 1) (ahead toks (at + 1)) ≡ holds_relation d (ahead toks at)
  sees_close h f e z =
      ap (holds_relation (d - 1)) (ahead_behind toks at h)
      ∙ outer d (λ k. holds_relation k (behind_first (ahead toks at))) z
      ∙ close_seen d (ahead toks at) f e

  -- a closing bracket, of the innermost that is open or of the one round them
  pub sees_closing : (o : Option ℕ) → at < toks.count → opens mark_open (ahead toks at) ≡ false → opens mark_close (ahead toks at) ≡ true
      → SomeIff o (1 ≤ d) (d - 1) → holds_from o (ahead toks (at + 1)) ≡ holds_relation d (ahead toks at)
  sees_closing None h f e p = sees_end f e (omega (arith, p))
  sees_closing (Some x) h f e p =
      ap (λ k. holds_relation k (ahead toks (at + 1))) p.1 ∙ sees_close h f e (λ z. absurd (omega (arith, p.0, z)))

  pub sees_other : at < toks.count → first_relation (ahead toks at) ≡ None → opens mark_open (ahead toks at) ≡ false
      → opens mark_close (ahead toks at) ≡ false → holds_relation d (ahead toks (at + 1)) ≡ holds_relation d (ahead toks at)
  sees_other h e f g = ap (holds_relation d) (ahead_behind toks at h) ∙ other_seen d (ahead toks at) e f g

  pub sees_nothing : toks.count ≤ at → false ≡ holds_relation d (ahead toks at)
  unfolding holds_relation
  sees_nothing h = rw (ahead_none toks at h) refl

lone_token : (t : Token) → opens_condition (t ∷ []) ≡ false
unfolding opens_condition opens behind_first pick holds_relation
lone_token t = go (is_mark mark_open t)
  where
    go : (b : Bool) → pick b false false ≡ false
    go true = refl
    go false = refl

no_token : opens_condition [] ≡ false
unfolding opens_condition opens pick
no_token = refl

module _ (toks : Tokens) (at : ℕ) where
  pub bracket_opens : (b : Bool) → at < toks.count → opens mark_open (ahead toks at) ≡ true → b ≡ holds_relation 0 (ahead toks (at + 1))
      → b ≡ opens_condition (ahead toks at)
  unfolding opens_condition
  bracket_opens b h e f = pick_yes _ _ _ _ e (f ∙ ap (holds_relation 0) (ahead_behind toks at h))

  pub no_bracket : opens mark_open (ahead toks at) ≡ false → false ≡ opens_condition (ahead toks at)
  unfolding opens_condition
  no_bracket e = pick_no _ _ _ _ e refl

  -- two tokens at least stand where a condition's bracket opens
  pub opens_inside : opens_condition (ahead toks at) ≡ true → at + 1 < toks.count
  opens_inside e =
      by_less (at + 1) toks.count (λ l. l)
      (λ g. by_less at toks.count
      (λ l. let one : toks.count - at ≡ 1 = omega (arith, g, l) in
      absurd (false≢true (sym (lone_token (token_at toks at)) ∙ ap opens_condition (sym (ahead_one toks at l one)) ∙ e)))
      (λ l. absurd (false≢true (sym no_token ∙ ap opens_condition (sym (ahead_none toks at l)) ∙ e))))
