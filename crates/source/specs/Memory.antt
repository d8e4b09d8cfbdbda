-- Statements and tokens in memory. No text has these numbers.
use Rattle.std.specs.Prelude.{ℕ, zero, suc, ◌+◌, ◌/◌, ◌%◌, List, [], ◌∷◌, ◌++◌, map, eqb, length, get_or, take, drop}
use Rattle.base.specs.Choice.{pick}
use Rattle.order.specs.Limits.{most_variables}
use Rattle.sheet_field.specs.Memory.{operator_number, relation_number, operators, relations}
use Rattle.source.specs.declared.Statement.{Statement}
use Rattle.source.specs.declared.Token.{Token}
use Rattle.source.specs.declared.Token.TheVariants.{Name, Number, Quoted, Binary, Compare, Mark}
use Rattle.source.specs.Limits.{most_cells, most_labels}
use Rattle.source.specs.Tokens.{Lexeme, name, token}

-- the cells that a statement holds
abbrev pub held : Statement → List ℕ
held s = take s.length s.cells

-- ---- a token is its kind and what it carries

abbrev pub token_kind : Token → ℕ
token_kind (Name w) = 0
token_kind (Number n) = 1
token_kind (Quoted n) = 2
token_kind (Mark m) = 3
token_kind (Binary o) = 4 + operator_number o
token_kind (Compare r) = 14 + relation_number r

abbrev pub token_carried : Token → ℕ
token_carried (Name w) = w
token_carried (Number n) = n
token_carried (Quoted n) = n
token_carried (Mark m) = m
token_carried (Binary o) = 0
token_carried (Compare r) = 0

-- the tokens that have these kinds; those that carry a number first
abbrev pub numbered_tokens : List (ℕ → Token)
numbered_tokens = Name ∷ Number ∷ Quoted ∷ Mark ∷ []

unfoldable pub token_shapes : List (ℕ → Token)
token_shapes = numbered_tokens ++ map (λ o v. Binary o) operators ++ map (λ r v. Compare r) relations

unfoldable pub token_of : ℕ → ℕ → Token
token_of k v = get_or token_shapes k Mark v

-- the n tokens from place k on that two arrays hold
unfoldable pub tokens_from : ℕ → ℕ → List ℕ → List ℕ → List Token
tokens_from k zero ks vs = []
tokens_from k (suc n) ks vs = token_of (get_or ks k 0) (get_or vs k 0) ∷ tokens_from (suc k) n ks vs

-- ---- the same where a name carries the place of its first cell, times most_cells, and its length

unfoldable pub lexeme_of : List ℕ → ℕ → ℕ → Lexeme
lexeme_of cells k v = pick (eqb k 0) (name (take (v % most_cells) (drop (v / most_cells) cells))) (token (token_of k v))

unfoldable pub lexemes_from : ℕ → ℕ → List ℕ → List ℕ → List ℕ → List Lexeme
lexemes_from k zero cells ks vs = []
lexemes_from k (suc n) cells ks vs =
    lexeme_of cells (get_or ks k 0) (get_or vs k 0) ∷ lexemes_from (suc k) n cells ks vs

-- ---- the tables of names and of labels

-- the most names, or labels, of one statement: each has a cell and one behind it
abbrev pub most_listed : ℕ
most_listed = most_cells / 2

-- the rows: one statement can pass the names, and the labels, that are allowed by so many
abbrev pub name_rows : ℕ
name_rows = most_variables + most_listed

abbrev pub label_rows : ℕ
label_rows = most_labels + most_listed

-- how many letters names have together
unfoldable pub letters_in : List (List ℕ) → ℕ
letters_in [] = 0
letters_in (n ∷ ns) = length n + letters_in ns
