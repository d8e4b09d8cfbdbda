-- What the private functions do.
use Rattle.std.specs.Prelude.{ℕ, ◌-◌, ◌≡◌, List, get_or}
use Rattle.base.specs.Places.{each}
use Rattle.source.specs.Tokens.{Lexeme}
use Rattle.source.specs.Memory.{token_of, lexeme_of, lexemes_from}
use Rattle.source.specs.Program.{word_of, looked_up, names_in}
use Rattle.name_index.specs.Memory.{NamesHeld}
use Rattle.names.specs.Answers.{declared_of}

-- the word of any name
abbrev pub FindsAny : List ℕ → ℕ → List ℕ → List ℕ → ℕ → Type 0
FindsAny name v letters index w =
    (ns : List (List ℕ)) (filled : ℕ) → NamesHeld ns v filled letters index → w ≡ word_of ns name

-- what a token carries once its name is looked up
abbrev pub Sees : Lexeme → ℕ → ℕ → List ℕ → List ℕ → ℕ → Type 0
Sees x kind v letters index w =
    (ns : List (List ℕ)) (filled : ℕ) → NamesHeld ns v filled letters index → token_of kind w ≡ looked_up ns x

-- the tokens before place i, with their names looked up
abbrev pub LookedUp : ℕ → List ℕ → List ℕ → List ℕ → ℕ → List ℕ → List ℕ → List ℕ → Type 0
LookedUp i cells kinds values v letters index words =
    (ns : List (List ℕ)) (filled : ℕ)
    → NamesHeld ns v filled letters index
    → each (λ j. token_of (get_or kinds j 0) (get_or words j 0)) 0 i
    ≡ each (λ j. looked_up ns (lexeme_of cells (get_or kinds j 0) (get_or values j 0))) 0 i

-- some names are declared behind ms, and ns are left, of all
pub record NamesSoFar (ms all : List (List ℕ)) (ns : List (List ℕ)) (v filled : ℕ) (letters index : List ℕ) : Type 0 where
  pub names_too : List (List ℕ)
  pub held : NamesHeld names_too v filled letters index
  pub same : declared_of names_too ns ≡ declared_of ms all

-- the names among the tokens before place i are declared, of n tokens
abbrev pub DeclaresOn : ℕ → ℕ → List ℕ → List ℕ → List ℕ → ℕ → ℕ → List ℕ → List ℕ → ℕ → ℕ → List ℕ → List ℕ → Type 0
DeclaresOn i n cells kinds values v filled before_letters before_index count many letters index =
    (ms : List (List ℕ))
    → NamesHeld ms v filled before_letters before_index
    → NamesSoFar ms (names_in (lexemes_from 0 n cells kinds values)) (names_in (each (λ j. lexeme_of cells (get_or kinds j 0) (get_or values j 0)) i (n - i))) count many letters index
