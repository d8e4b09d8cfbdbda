-- What the answers of the functions stand for, and what a function that writes does to a place in a buffer.
use Rattle.std.specs.Prelude.{ℕ, ◌+◌, ◌≤◌, ◌≡◌, List, [], ◌∷◌, Option, Some, None, ltb, length, drop, set}
use Rattle.base.specs.Choice.{pick}
use Rattle.base.specs.Front.{found, missing}
use Rattle.text.specs.Pieces.{Front, decimal}

-- ---- reading

-- a place in the text s is the text behind it
abbrev pub behind : List ℕ → Option ℕ → Front (List ℕ)
behind s (Some i) = found [] (drop i s)
behind s None = missing

abbrev pub number_found : List ℕ → Option (ℕ × ℕ) → Front ℕ
number_found s (Some (v, i)) = found v (drop i s)
number_found s None = missing

-- which place that is, also where no text is left behind it: i
abbrev pub PlaceIs : ℕ → Option ℕ → Type 0
PlaceIs i (Some j) = j ≡ i
PlaceIs i None = Unit {0}

-- that of a number read at a place: behind its digits and the byte that closes its field
abbrev pub NumberPlace : ℕ → Option (ℕ × ℕ) → Type 0
NumberPlace at (Some (v, i)) = i ≡ at + length (decimal v) + 1
NumberPlace at None = Unit {0}

-- the place is not behind the end of a text of n bytes
abbrev pub NumberWithin : ℕ → Option (ℕ × ℕ) → Type 0
NumberWithin n (Some (v, i)) = i ≤ n
NumberWithin n None = Unit {0}

-- ---- writing

-- a place in a buffer, and the buffer
pub data Placed : Type 0 where
  placed : ℕ → List ℕ → Placed

-- a byte put at the place, and the place behind it; nothing where the buffer has ended
abbrev pub put_byte : ℕ → Placed → Placed
put_byte b (placed i l) = pick (ltb i (length l)) (placed (i + 1) (set l i b)) (placed i l)

-- bytes, one after the other
unfoldable pub put_all : List ℕ → Placed → Placed
put_all [] p = p
put_all (b ∷ bs) p = put_all bs (put_byte b p)
