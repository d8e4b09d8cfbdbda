-- Keywords: one that stands at a place is found, and one that does not is passed over.
use Prim.Native.Nat.{ℕ, ◌+◌, ◌-◌, ◌<◌}
use Prim.Native.String.{String}
use mathlib.Core.Path.{◌≡◌, refl, sym, ap, ◌∙◌}
use mathlib.Core.List.{List, [], ◌∷◌}
use Rattle.std.proofs.Common.{Result, Ok, Err}
use native.Mathlib.Omega.{arith}
use lib.ListN.{length, drop, length-drop, length-append}
use Rattle.base.specs.Text.{bytes}
use Rattle.base.specs.Front.{found, missing, on_front}
use Rattle.text.specs.Pieces.{fixed}
use Rattle.text.proofs.Fronts.{front_fixed}
use Rattle.source.specs.declared.Refusal.{Refusal}
use Rattle.source.specs.declared.Refusal.TheVariants.{Keyword}
use Rattle.source.specs.declared.Token.{Token}
use Rattle.source.specs.Memory.{token_kind}
use Rattle.source.specs.Tokens.{Sign, sign, keywords, first_of, keyword_at}
use Rattle.tokens_fixed.specs.declared.One.{One as Answer}
use Rattle.tokens_fixed.specs.declared.One.TheVariants.{Token as TokenAt}
use Rattle.tokens_fixed.specs.Answers.{Is}
use Rattle.tokens_fixed.specs.Internal.{keyword_of}

-- a fixed string takes its length
pub place_behind : (string s : List ℕ) (at q : ℕ) → 0 < length string → found [] (drop q s) ≡ fixed string (drop at s) → at < q
place_behind string s at q some e =
    let lengths : length s - at ≡ length string + (length s - q) =
    sym (length-drop at s)
    ∙ ap length (front_fixed string (drop at s) (drop q s) [] (sym e))
    ∙ length-append string (drop q s)
    ∙ ap (λ n. length string + n) (length-drop q s) in
    omega arith

module _ (cells : List ℕ) (at : ℕ) where
  pub by_hit : (s : String) (t : Token) (signs : List Sign) (q : ℕ) → 0 < length (bytes s) → 0 < token_kind t
      → found [] (drop q cells) ≡ fixed (bytes s) (drop at cells) → Is cells at (Ok (TokenAt t q)) (keyword_of (sign s t ∷ signs) (drop at cells))
  unfolding keyword_of first_of on_front
  by_hit s t signs q some kind e = record { same = rw (sym e) refl; sound = (place_behind (bytes s) cells at q some e, kind) }

  pub by_miss : (s : String) (t : Token) (signs : List Sign) (r : Result Answer Refusal) → missing ≡ fixed (bytes s) (drop at cells)
      → Is cells at r (keyword_of signs (drop at cells)) → Is cells at r (keyword_of (sign s t ∷ signs) (drop at cells))
  unfolding keyword_of first_of on_front
  by_miss s t signs r e i = rw (sym e) i

  pub by_none : Is cells at (Err Keyword) (keyword_of [] (drop at cells))
  unfolding keyword_of first_of on_front
  by_none = record { same = refl; sound = tt }

  pub whole : (r : Result Answer Refusal) → Is cells at r (keyword_of keywords (drop at cells)) → Is cells at r (keyword_at (drop at cells))
  unfolding keyword_of
  whole r i = i
