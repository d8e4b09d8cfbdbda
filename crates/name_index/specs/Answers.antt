-- What a lookup and an addition do. Comments in quotes are the words of document 02, L2.
use Rattle.std.specs.Prelude.{ℕ, suc, ◌+◌, ◌-◌, ◌*◌, ◌/◌, ◌^◌, ◌≤◌, ◌<◌, Bool, true, false, ◌≡◌, List, [], ◌∷◌, ◌++◌, ltb, leb, length, get_or, Result, Ok, Err}
use Rattle.base.specs.Choice.{pick}
use Rattle.source.specs.Limits.{most_bytes, most_cells}
use Rattle.source.specs.Memory.{name_rows, letters_in}
use Rattle.source.specs.Program.{word_from}
use Rattle.std.specs.declared.cmp.Ordering.{Ordering}
use Rattle.std.specs.declared.cmp.Ordering.TheVariants.{Less, Equal, Greater}
use Rattle.name_index.specs.declared.Names.{Names}
use Rattle.name_index.specs.declared.Unfit.{Unfit}
use Rattle.name_index.specs.Order.{side_of}
use Rattle.name_index.specs.Memory.{number_in, name_at, NamesHeld}

-- ---- a lookup

-- one comparison: where the sought name stands against the one at place i of the index
abbrev pub side_at : List ℕ → List ℕ → List ℕ → ℕ → Ordering
side_at name letters index i = side_of name (name_at letters index i)

-- the word of the name at place i; the first declared has word 2
abbrev pub word_at : List ℕ → ℕ → ℕ
word_at index i = number_in (get_or index i 0) + 2

-- a search by halves among `left` places from `from` on: the word found, or 0, where it stands or would stand, and how many
-- comparisons were made
pub data Searches (side : ℕ → Ordering) (word : ℕ → ℕ) : ℕ → ℕ → ℕ → ℕ → ℕ → Type 0 where
  nowhere : (from : ℕ) → Searches side word from 0 0 from 0
  here : (from left : ℕ) → 0 < left → side (from + left / 2) ≡ Equal
      → Searches side word from left (word (from + left / 2)) (from + left / 2) 1
  first_half : (from left : ℕ) {w place n : ℕ} → 0 < left → side (from + left / 2) ≡ Less
      → Searches side word from (left / 2) w place n → Searches side word from left w place (suc n)
  second_half : (from left : ℕ) {w place n : ℕ} → 0 < left → side (from + left / 2) ≡ Greater
      → Searches side word (from + (left / 2 + 1)) (left - (left / 2 + 1)) w place n → Searches side word from left w place (suc n)

-- the word found is that of the first of the names that is the same, 0 where none is
abbrev pub FindsWord : List ℕ → ℕ → List ℕ → List ℕ → ℕ → Type 0
FindsWord name v letters index w =
    (ns : List (List ℕ)) (filled : ℕ) → NamesHeld ns v filled letters index → w ≡ word_from 2 ns name

-- the bound of the comparisons among v names: d of them are enough for fewer than 2^d
abbrev pub FewComparisons : ℕ → ℕ → Type 0
FewComparisons v n = (d : ℕ) → v < 2 ^ d → n ≤ d

-- "at most 7 comparisons among up to 64 names, one more for each doubling"
abbrev pub AsAsked : ℕ → ℕ → Type 0
AsAsked v n = (doublings : ℕ) → v ≤ 64 * 2 ^ doublings → n ≤ 7 + doublings

-- ---- an addition

-- a name that is not in the index would stand at a place: behind those before it, before the others
pub record Fits (name letters index : List ℕ) (v place : ℕ) : Type 0 where
  pub inside : place ≤ v
  pub behind : (i : ℕ) → i < place → side_at name letters index i ≡ Greater
  pub before : (i : ℕ) → place ≤ i → i < v → side_at name letters index i ≡ Less

-- whether there is room for a name behind others
abbrev pub has_room : List (List ℕ) → List ℕ → Bool
has_room ns name = pick (ltb (length ns) name_rows) (leb (letters_in ns + length name) most_bytes) false

abbrev pub AddedTo : List (List ℕ) → List ℕ → Result Names Unfit → List ℕ → List ℕ → Type 0
AddedTo ns name (Ok n) letters index = (has_room ns name ≡ true) × NamesHeld (ns ++ name ∷ []) n.count n.letters letters index
AddedTo ns name (Err e) letters index = has_room ns name ≡ false

abbrev pub Adds : ℕ → ℕ → ℕ → List ℕ → List ℕ → List ℕ → Result Names Unfit → List ℕ → List ℕ → Type 0
Adds v filled place name before_letters before_index r letters index =
    (ns : List (List ℕ))
    → NamesHeld ns v filled before_letters before_index
    → Fits name before_letters before_index v place
    → length name < most_cells
    → AddedTo ns name r letters index
