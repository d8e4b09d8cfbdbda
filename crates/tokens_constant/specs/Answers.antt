-- What the answers stand for.
use Rattle.std.specs.Prelude.{ℕ, ◌<◌, ◌≤◌, ◌≡◌, List, ltb, Result, IfOk}
use Rattle.base.specs.Choice.{pick}
use Rattle.source.specs.declared.Refusal.{Refusal}
use Rattle.source.specs.declared.Token.TheVariants.{Number}
use Rattle.source.specs.Limits.{greatest_constant}
use Rattle.source.specs.Memory.{token_kind}
use Rattle.source.specs.Tokens.{One, one, wrong, token, run, past_run, is_digit, decimal_value}
use Rattle.tokens_fixed.specs.declared.One.{One as Answer}
use Rattle.tokens_fixed.specs.declared.One.TheVariants.{Token as TokenAt, Name}
use Rattle.tokens_fixed.specs.Answers.{one_in}

-- a constant is a token that ends at the place `at` or behind it
abbrev pub TokenFrom : ℕ → Answer → Type 0
TokenFrom at (TokenAt t q) = (at ≤ q) × (0 < token_kind t)
TokenFrom at (Name q) = ⊥

pub record Constant (cells : List ℕ) (at : ℕ) (r : Result Answer Refusal) (o : One) : Type 0 where
  pub same : one_in cells at r ≡ o
  pub sound : IfOk r (TokenFrom at)

-- a decimal constant, behind digits that make v
unfoldable pub decimal_from : ℕ → List ℕ → One
decimal_from v cells =
    pick
    (ltb greatest_constant (decimal_value v (run is_digit cells)))
    (wrong 6)
    (one (token (Number (decimal_value v (run is_digit cells)))) (past_run is_digit cells))
