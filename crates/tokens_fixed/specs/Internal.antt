-- What the private functions compute.
use Rattle.std.specs.Prelude.{ℕ, List, ◌∷◌, Option, Some, None}
use Rattle.base.specs.Front.{found, missing, on_front}
use Rattle.text.specs.Pieces.{Front}
use Rattle.source.specs.declared.Token.{Token}
use Rattle.source.specs.declared.Token.TheVariants.{Mark}
use Rattle.source.specs.Tokens.{Sign, singles, first_of, One, one, wrong, token}

-- the keyword at the front, if it is one of these
unfoldable pub keyword_of : List Sign → List ℕ → One
keyword_of signs l = on_front (first_of signs l) (λ t rest. one (token t) rest) (wrong 5)

-- the token of the characters in front of l, if they are one
abbrev pub taken : List ℕ → Option Token → Front Token
taken l (Some t) = found t l
taken l None = missing

-- what comes of a character that no pair begins
abbrev pub singly : ℕ → List ℕ → One
singly c l = on_front (first_of singles (c ∷ l)) (λ t rest. one (token t) rest) (one (token (Mark c)) l)
