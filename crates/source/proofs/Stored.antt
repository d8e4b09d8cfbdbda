-- Tokens in memory are what stands at each place.
use Prim.Native.Nat.{ℕ, zero, suc, ◌+◌, ◌-◌, ◌<◌, ◌≤◌}
use mathlib.Core.Path.{◌≡◌, refl, ap, ◌∙◌}
use mathlib.Core.List.{List, [], ◌∷◌}
use lib.ListN.{length, get_or}
use Rattle.base.specs.Places.{each}
use Rattle.base.proofs.Places.{each_length, from_more, from_over}
use Rattle.source.specs.Memory.{token_of, tokens_from, lexeme_of, lexemes_from}

pub tokens_each : (k n : ℕ) (ks vs : List ℕ) → tokens_from k n ks vs ≡ each (λ i. token_of (get_or ks i 0) (get_or vs i 0)) k n
unfolding each tokens_from
tokens_each k zero ks vs = refl
tokens_each k (suc n) ks vs = ap (λ l. token_of (get_or ks k 0) (get_or vs k 0) ∷ l) (tokens_each (suc k) n ks vs)

pub tokens_length : (k n : ℕ) (ks vs : List ℕ) → length (tokens_from k n ks vs) ≡ n
tokens_length k n ks vs = ap length (tokens_each k n ks vs) ∙ each_length _ k n

-- those that are left at place k of n
module _ (ks vs : List ℕ) where
  pub tokens_more : (k n : ℕ) → k < n
      → tokens_from k (n - k) ks vs ≡ token_of (get_or ks k 0) (get_or vs k 0) ∷ tokens_from (k + 1) (n - (k + 1)) ks vs
  tokens_more =
      from_more (λ i. token_of (get_or ks i 0) (get_or vs i 0)) (λ k n. tokens_from k n ks vs) (λ k n. tokens_each k n ks vs)

  pub tokens_over : (k n : ℕ) → n ≤ k → tokens_from k (n - k) ks vs ≡ []
  tokens_over =
      from_over (λ i. token_of (get_or ks i 0) (get_or vs i 0)) (λ k n. tokens_from k n ks vs) (λ k n. tokens_each k n ks vs)

pub lexemes_each : (k n : ℕ) (cells ks vs : List ℕ)
    → lexemes_from k n cells ks vs ≡ each (λ i. lexeme_of cells (get_or ks i 0) (get_or vs i 0)) k n
unfolding each lexemes_from
lexemes_each k zero cells ks vs = refl
lexemes_each k (suc n) cells ks vs =
    ap (λ l. lexeme_of cells (get_or ks k 0) (get_or vs k 0) ∷ l) (lexemes_each (suc k) n cells ks vs)
