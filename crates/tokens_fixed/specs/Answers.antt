-- What stands at a place of a statement's cells, and what the answers stand for.
use Rattle.std.specs.Prelude.{ℕ, ◌-◌, ◌<◌, ◌≤◌, ◌≡◌, List, length, take, drop, Result, Ok, Err, IfOk}
use Rattle.source.specs.declared.Refusal.{Refusal}
use Rattle.source.specs.Memory.{token_kind}
use Rattle.source.specs.Refusals.{refusal_number}
use Rattle.source.specs.Tokens.{One, one, wrong, name, token}
use Rattle.tokens_fixed.specs.declared.One.{One as Answer}
use Rattle.tokens_fixed.specs.declared.One.TheVariants.{Token as TokenAt, Name}

-- a place is the cells behind it; a name stands from the place `at` on
abbrev pub one_in : List ℕ → ℕ → Result Answer Refusal → One
one_in cells at (Ok (TokenAt t q)) = one (token t) (drop q cells)
one_in cells at (Ok (Name q)) = one (name (take (q - at) (drop at cells))) (drop q cells)
one_in cells at (Err k) = wrong (refusal_number k)

-- a token takes a cell and is no name; a name ends by the place `size`
abbrev pub Sound : ℕ → ℕ → Answer → Type 0
Sound at size (TokenAt t q) = (at < q) × (0 < token_kind t)
Sound at size (Name q) = (at < q) × (q ≤ size)

pub record Is (cells : List ℕ) (at : ℕ) (r : Result Answer Refusal) (o : One) : Type 0 where
  pub same : one_in cells at r ≡ o
  pub sound : IfOk r (Sound at (length cells))
