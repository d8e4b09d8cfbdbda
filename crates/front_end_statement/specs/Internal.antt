-- What the private functions do.
use Rattle.std.specs.Prelude.{ℕ, ◌≤◌, ◌≡◌, List, length, Result, Ok, Err}
use Rattle.source.specs.Tokens.{Lexeme, lexed}
use Rattle.source.specs.Grammar.{declaration, Form as StatementForm}
use Rattle.source.specs.Memory.{most_listed, tokens_from, lexemes_from, letters_in}
use Rattle.source.specs.Program.{names_in, in_order, on_lexed}
use Rattle.grammar.specs.declared.Form.{Form}
use Rattle.grammar.specs.Answers.{told, fields_of}
use Rattle.front_end_forms.specs.declared.Progress.{Progress}
use Rattle.front_end_forms.specs.declared.Step.{Step}
use Rattle.front_end_forms.specs.declared.Step.TheVariants.{Further, Given}
use Rattle.front_end_forms.specs.declared.Failure.{Failure}
use Rattle.front_end_forms.specs.declared.Failure.TheVariants.{Refused, Unfit}
use Rattle.tokens.specs.declared.Failure.{Failure as NotLexed}
use Rattle.tokens.specs.declared.Failure.TheVariants.{Refused as Wrong, Unfit as NotFit}
use Rattle.front_end_forms.specs.Memory.{NameTable}
use Rattle.front_end_statement.specs.Answers.{Follows}

-- what an answer that only goes on comes to
abbrev pub further_of : Result Progress Failure → Result Step Failure
further_of (Ok p) = Ok (Further p)
further_of (Err e) = Err e

-- what the end of a program comes to
abbrev pub given_of : Result (Unit {0}) Failure → Result Step Failure
given_of (Ok u) = Ok Given
given_of (Err e) = Err e

-- why statement k has no tokens
abbrev pub placed_of : ℕ → NotLexed → Failure
placed_of k (Wrong e) = Refused e k
placed_of k NotFit = Unfit

-- a statement of n tokens with the form f, which are xs as they were spelled
abbrev pub Dispatches : Form → Progress → ℕ → ℕ → List ℕ → List ℕ → List Lexeme → List ℕ → NameTable → List ℕ → List ℕ → List ℕ → Result Step Failure → NameTable → List ℕ → List ℕ → List ℕ → Type 0
Dispatches f p k n tokens words xs own before_ns before_ls before_gs before_fs r ns ls gs fs =
    (g : StatementForm)
    → told (tokens_from 0 n tokens words) (Ok f) own ≡ fields_of g
    → (g ≡ declaration → length (names_in xs) ≤ most_listed)
    → Follows p k (letters_in (names_in xs)) before_ns before_ls before_gs before_fs r ns ls gs fs
    (λ q. in_order q q.stage k xs g)

abbrev pub OnTokens : Progress → ℕ → ℕ → List ℕ → List ℕ → List ℕ → NameTable → List ℕ → List ℕ → List ℕ → Result Step Failure → NameTable → List ℕ → List ℕ → List ℕ → Type 0
OnTokens p k n cells tokens spelled before_ns before_ls before_gs before_fs r ns ls gs fs =
    Follows p k (letters_in (names_in (lexemes_from 0 n cells tokens spelled))) before_ns before_ls before_gs before_fs r ns ls gs fs (λ q. on_lexed q k (lexed (lexemes_from 0 n cells tokens spelled)))
