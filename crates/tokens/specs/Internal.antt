-- What the private functions compute, and what their answers stand for.
use Rattle.std.specs.Prelude.{ℕ, ◌+◌, ◌-◌, ◌*◌, ◌≤◌, ◌≡◌, List, length, Result, Ok, Err, IfOk}
use Rattle.source.specs.declared.Refusal.{Refusal}
use Rattle.source.specs.Limits.{most_cells}
use Rattle.source.specs.Memory.{token_kind, token_carried, lexemes_from}
use Rattle.source.specs.Refusals.{refusal_number}
use Rattle.source.specs.Tokens.{Lexed, lexed, refused, lexemes}
use Rattle.tokens_fixed.specs.declared.One.{One as Answer}
use Rattle.tokens_fixed.specs.declared.One.TheVariants.{Token as TokenAt, Name}
use Rattle.tokens.specs.declared.Stored.{Stored}

-- what is stored of a token, or of a name that stands from the place `at` on
abbrev pub stored_of : ℕ → Answer → Stored
stored_of at (TokenAt t q) = record { kind = token_kind t; value = token_carried t; behind = q }
stored_of at (Name q) = record { kind = 0; value = at * most_cells + (q - at); behind = q }

-- the tokens that two arrays hold of these cells, or the refusal with 5 or 6
abbrev pub scanned : List ℕ → List ℕ → List ℕ → Result ℕ Refusal → Lexed
scanned cells ks vs (Ok n) = lexed (lexemes_from 0 n cells ks vs)
scanned cells ks vs (Err k) = refused (refusal_number k)

-- each token has a cell
pub record Scanned (cells ks vs : List ℕ) (r : Result ℕ Refusal) : Type 0 where
  pub same : scanned cells ks vs r ≡ lexemes cells
  pub few : IfOk r (λ n. n ≤ length cells)
