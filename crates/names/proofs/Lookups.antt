-- Names looked up: what one token carries, and the turns of the loop over all.
use Prim.Native.Nat.{ℕ, ◌+◌, ◌/◌, ◌%◌, ◌<◌, ◌≤◌}
use mathlib.Core.Bool.{Bool, true, false}
use mathlib.Core.Path.{◌≡◌, refl, sym, ap, ap₂, ◌∙◌}
use mathlib.Core.List.{List, [], ◌∷◌, ◌++◌, map}
use native.Mathlib.Omega.{arith}
use borrow.Author.Tests.{eq-eqb, ne_eqb}
use lib.ListN.{length, get_or, take, drop, set}
use lib.Seq.{get_or-set_same, get_or-set_other}
use Rattle.base.specs.Choice.{pick}
use Rattle.base.specs.Places.{each}
use Rattle.base.specs.Text.{bytes}
use Rattle.base.proofs.Places.{each_append, each_same, each_map}
use Rattle.source.specs.Limits.{most_cells}
use Rattle.source.specs.declared.Token.{Token}
use Rattle.source.specs.Tokens.{Lexeme}
use Rattle.source.specs.Program.{same_name, word_from, word_of, looked_up}
use Rattle.source.specs.Memory.{token_shapes, token_of, tokens_from, lexeme_of, lexemes_from}
use Rattle.source.proofs.Stored.{tokens_each, lexemes_each}
use Rattle.std.specs.declared.cmp.Ordering.{Ordering}
use Rattle.std.specs.declared.cmp.Ordering.TheVariants.{Less, Equal, Greater}
use Rattle.std.specs.Ordering.{is_eq}
use Rattle.name_index.specs.Order.{side_of}
use Rattle.name_index.proofs.Order.{side_same, side_self, same_name_self, other_name}

-- ---- SEND

pub told_apart : (a b : List ℕ) (s : Ordering) → s ≡ side_of b a → is_eq s ≡ same_name a b
told_apart a b Less e = sym (other_name a b (λ same. let z = ap (side_of b) same ∙ side_self b in cc))
told_apart a b Equal e = rw (side_same b a (sym e)) (sym (same_name_self a))
told_apart a b Greater e = sym (other_name a b (λ same. let z = ap (side_of b) same ∙ side_self b in cc))

module _ (ms : List (List ℕ)) (n : List ℕ) (b : Bool) (e : b ≡ same_name (bytes "SEND") n) where
  pub send_word_law : b ≡ true → 1 ≡ word_of ms n
  unfolding pick
  send_word_law z = rw (sym e ∙ z) refl

  pub other_word : (w : ℕ) → b ≡ false → w ≡ word_from 2 ms n → w ≡ word_of ms n
  unfolding pick
  other_word w z same = rw (sym e ∙ z) same

-- ---- one token

pub seen_token : (ms : List (List ℕ)) (cells : List ℕ) (k v : ℕ) → (k ≡ 0 → ⊥) → token_of k v ≡ looked_up ms (lexeme_of cells k v)
unfolding lexeme_of pick
seen_token ms cells k v n = rw (ne_eqb k 0 n) refl

pub seen_name : (ms : List (List ℕ)) (cells : List ℕ) (k v : ℕ) → k ≡ 0
    → token_of k (word_of ms (take (v % most_cells) (drop (v / most_cells) cells))) ≡ looked_up ms (lexeme_of cells k v)
unfolding lexeme_of pick token_of token_shapes
seen_name ms cells k v e = rw (eq-eqb k 0 e, e) refl

-- ---- all tokens

abbrev pub token_in : List ℕ → List ℕ → ℕ → Token
token_in ks vs i = token_of (get_or ks i 0) (get_or vs i 0)

abbrev pub lexeme_in : List ℕ → List ℕ → List ℕ → ℕ → Lexeme
lexeme_in cells ks vs i = lexeme_of cells (get_or ks i 0) (get_or vs i 0)

-- one token more
pub look_more : (ks ws : List ℕ) (g : ℕ → Token) (i w : ℕ) → i < length ws → token_of (get_or ks i 0) w ≡ g i
    → each (token_in ks ws) 0 i ≡ each g 0 i → each (token_in ks (set ws i w)) 0 (i + 1) ≡ each g 0 (i + 1)
look_more ks ws g i w h e before =
    each_append (token_in ks (set ws i w)) i
    ∙ ap₂
    (λ l t. l ++ t ∷ [])
    (each_same _ _ 0 i (λ j from less. ap (token_of (get_or ks j 0)) (get_or-set_other ws i j w 0 (omega (arith, less)))) ∙ before)
    (ap (token_of (get_or ks i 0)) (get_or-set_same ws i w 0 h) ∙ e)
    ∙ sym (each_append g i)

pub look_over : (ms : List (List ℕ)) (cells ks vs ws : List ℕ) (n i : ℕ) → i ≤ n → n ≤ i
    → each (token_in ks ws) 0 i ≡ each (λ j. looked_up ms (lexeme_in cells ks vs j)) 0 i
    → tokens_from 0 n ks ws ≡ map (looked_up ms) (lexemes_from 0 n cells ks vs)
look_over ms cells ks vs ws n i h g e =
    let same : i ≡ n = omega (arith, h, g) in
    tokens_each 0 n ks ws
    ∙ (rw same at e)
    ∙ sym (each_map (looked_up ms) (lexeme_in cells ks vs) 0 n)
    ∙ ap (map (looked_up ms)) (sym (lexemes_each 0 n cells ks vs))
