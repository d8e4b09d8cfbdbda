-- The vocabulary of proofs/Spelling, which shows what of its spelling plays no part in how a source is read. Numbers of bytes:
-- 10 newline, 59 ;. Comments in quotes are document 01's words.
use Rattle.std.specs.Prelude.{ℕ, ◌≤◌, ◌≡◌, List, [], ◌∷◌, length}
use Rattle.source.specs.declared.Mode.{Mode}
use Rattle.source.specs.declared.Mode.TheVariants.{Plain, Keyword}
use Rattle.source.specs.Limits.{most_bytes}
use Rattle.source.specs.Cells.{Turn, goes_on, ends, over, turn, statements_from}
use Rattle.source.specs.Source.{not_allowed, all_allowed}

-- outside quotes and comments: behind `%` and letters, or not
pub data Outside : Mode → Type 0 where
  plain : Outside Plain
  keyword : Outside Keyword

-- ---- comments. "`!` where no cell of the statement is held yet starts a comment, which swallows all through the next `;` or
-- newline."

-- the text of a comment has neither
abbrev pub InComment : ℕ → Type 0
InComment b = (b ≡ 10 → ⊥) × (b ≡ 59 → ⊥)

abbrev pub CommentText : List ℕ → Type 0
CommentText [] = Unit {0}
CommentText (b ∷ text) = InComment b × CommentText text

-- what ends it
pub data EndsComment : ℕ → Type 0 where
  by_line : EndsComment 10
  by_semicolon : EndsComment 59

-- ---- anywhere in a source

-- where the reading stands behind some bytes; broken off where there are too many cells
pub data Place : Type 0 where
  holding : Mode → List ℕ → Place
  broken : Place

abbrev pub onward : Turn → (Mode → List ℕ → Place) → Place
onward (goes_on m cells) rest = rest m cells
onward (ends cells) rest = rest Plain []
onward over rest = broken

abbrev pub place_from : Mode → List ℕ → List ℕ → Place
place_from m cells [] = holding m cells
place_from m cells (b ∷ bs) = onward (turn m b cells) (λ n held. place_from n held bs)

-- two rests of a source that are read alike there
abbrev pub Alike : Place → List ℕ → List ℕ → Type 0
Alike (holding m cells) a b = statements_from m cells a ≡ statements_from m cells b
Alike broken a b = Unit {0}

-- ---- sources that are neither too long nor have a byte that is not allowed

-- "Source is 0 to 16,384 bytes; allowed bytes are 10 and 32 to 126."
pub record Admitted (source : List ℕ) : Type 0 where
  pub few : length source ≤ most_bytes
  pub allowed : not_allowed 0 source ≡ all_allowed
