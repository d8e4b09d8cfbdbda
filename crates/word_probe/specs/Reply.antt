-- How the tests are answered.
use Rattle.std.specs.Prelude.{ℕ, ◌*◌, Bool, true, false, [], ◌∷◌, get_or}
use Rattle.word.specs.Word.{Outcome, value, fault}
use Rattle.word.specs.declared.Relation.{Relation}
use Rattle.word.specs.declared.Relation.TheVariants.{Equal, Unequal, Less, AtMost, Greater, AtLeast}

-- number * 2^32 + value: number 0 with a value, or a fault's number with value 0
abbrev pub reply : Outcome → ℕ
reply (value w) = w
reply (fault n) = n * 4294967296

abbrev pub truth : Bool → ℕ
truth true = 1
truth false = 0

-- the relations by number, in document 01's order: = # < <= > and, from 5 on, >=
abbrev pub relation_of : ℕ → Relation
relation_of n = get_or (Equal ∷ Unequal ∷ Less ∷ AtMost ∷ Greater ∷ []) n AtLeast
