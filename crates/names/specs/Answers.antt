-- What looking up and declaring do, stated of all names that the arrays hold. Comments in quotes are document 01's words.
use Rattle.std.specs.Prelude.{ℕ, ◌≡◌, List, [], ◌∷◌, ◌++◌, map, eqb, Result, Ok, Err}
use Rattle.base.specs.Choice.{pick}
use Rattle.source.specs.Memory.{tokens_from, lexemes_from}
use Rattle.source.specs.Program.{word_of, looked_up}
use Rattle.name_index.specs.Memory.{NamesHeld}
use Rattle.name_index.specs.Answers.{has_room}
use Rattle.name_index.specs.declared.Names.{Names as Counts}
use Rattle.names.specs.declared.Failure.{Failure}
use Rattle.names.specs.declared.Failure.TheVariants.{Refused, Unfit}

-- ---- looking up

-- the first n tokens, with their names looked up
abbrev pub LooksUp : ℕ → List ℕ → List ℕ → List ℕ → ℕ → List ℕ → List ℕ → List ℕ → Type 0
LooksUp n cells kinds values v letters index words =
    (ns : List (List ℕ)) (filled : ℕ)
    → NamesHeld ns v filled letters index
    → tokens_from 0 n kinds words ≡ map (looked_up ns) (lexemes_from 0 n cells kinds values)

-- ---- declaring

-- the names after a declaration; document 01's number of the refusal; or that there is no room for them
pub data Names : Type 0 where
  names : List (List ℕ) → Names
  refusal : ℕ → Names
  unfit : Names

-- the names ns declared behind ms, one after the other. 8 "name unknown, declared twice, or SEND misused"
unfoldable pub declared_of : List (List ℕ) → List (List ℕ) → Names
declared_of ms [] = names ms
declared_of ms (n ∷ ns) =
    pick (eqb (word_of ms n) 0) (pick (has_room ms n) (declared_of (ms ++ n ∷ []) ns) unfit) (refusal 8)

-- an answer, and what it stands for
pub data Tells (letters index : List ℕ) : Result Counts Failure → Names → Type 0 where
  declares : (ms : List (List ℕ)) (n : Counts) → NamesHeld ms n.count n.letters letters index → Tells letters index (Ok n) (names ms)
  refuses : Tells letters index (Err Refused) (refusal 8)
  no_room : Tells letters index (Err Unfit) unfit

abbrev pub Declares : List (List ℕ) → ℕ → ℕ → List ℕ → List ℕ → Result Counts Failure → List ℕ → List ℕ → Type 0
Declares ns v filled before_letters before_index r letters index =
    (ms : List (List ℕ)) → NamesHeld ms v filled before_letters before_index → Tells letters index r (declared_of ms ns)
