-- Pieces of text: numbers in decimal, and what stands at the front of a text. Texts are lists of bytes: 48 to 57 are the
-- digits. Comments in quotes are document 01's words.
use Rattle.std.specs.Prelude.{ℕ, zero, suc, ◌+◌, ◌-◌, ◌*◌, ◌/◌, ◌%◌, List, [], ◌∷◌, ◌++◌, ltb, eqb}
use Rattle.base.specs.Choice.{pick}
use Rattle.base.specs.Front.{FrontOf, found, missing}

-- ---- a number

-- the last digits of n, at most k of them
unfoldable pub digits_of : ℕ → ℕ → List ℕ
digits_of zero n = []
digits_of (suc k) n = pick (ltb n 10) ((n + 48) ∷ []) (digits_of k (n / 10) ++ ((n % 10 + 48) ∷ []))

-- "Numbers are decimal": ten digits hold every number below 2 to the 32
abbrev pub decimal : ℕ → List ℕ
decimal n = digits_of 10 n

-- "0 to 2147483647"
abbrev pub greatest_number : ℕ
greatest_number = 2147483647

-- ---- reading at the front of a text

-- what stands at the front of a text, and the text behind it; or nothing of the form looked for
abbrev pub Front : Type 0 → Type 0
Front A = FrontOf ℕ A

-- a fixed string
unfoldable pub fixed : List ℕ → List ℕ → Front (List ℕ)
fixed [] l = found [] l
fixed (c ∷ cs) [] = missing
fixed (c ∷ cs) (b ∷ l) = pick (eqb b c) (fixed cs l) missing

-- the digits of a number behind those that make v, and the byte that closes its field.
-- "0 to 2147483647, no needless zero": so no digit follows a leading 0
unfoldable pub digits : ℕ → ℕ → List ℕ → Front ℕ
digits close v [] = missing
digits close v (b ∷ l) =
    pick
    (eqb b close)
    (found v l)
    (pick
    (ltb b 48)
    missing
    (pick
    (ltb 57 b)
    missing
    (pick (eqb v 0) missing (pick (ltb greatest_number (v * 10 + (b - 48))) missing (digits close (v * 10 + (b - 48)) l)))))

-- a number and the byte that closes its field
unfoldable pub numeral : ℕ → List ℕ → Front ℕ
numeral close [] = missing
numeral close (b ∷ l) = pick (ltb b 48) missing (pick (ltb 57 b) missing (digits close (b - 48) l))
