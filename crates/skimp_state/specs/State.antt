-- The bytes of a state, as include/skimp.h has them: the accumulator in bytes 0 to 3, the next order in 4 to 7, the count of
-- numbers sent in 8 to 15, the ending in 16 to 19; from byte 20 on the words 0, 1, 2 .., four bytes each. In each of them the
-- highest byte is first.
use Rattle.std.specs.Prelude.{ℕ, zero, suc, ◌+◌, ◌*◌, ◌/◌, ◌%◌, List, [], ◌∷◌, ◌++◌, get_or}
use Rattle.machine.specs.declared.Registers.{Registers}

-- the number in the k bytes from place i on, highest first
unfoldable pub number_at : ℕ → ℕ → List ℕ → ℕ
number_at zero i s = 0
number_at (suc k) i s = number_at k i s * 256 + get_or s (i + k) 0

-- a number in k bytes, highest first
unfoldable pub number_bytes : ℕ → ℕ → List ℕ
number_bytes zero n = []
number_bytes (suc k) n = number_bytes k (n / 256) ++ (n % 256) ∷ []

-- ---- from bytes

abbrev pub registers_of : List ℕ → Registers
registers_of s = record { acc = number_at 4 0 s; next = number_at 4 4 s; sent = number_at 8 8 s; ending = number_at 4 16 s }

-- n words from place i on
unfoldable pub words_at : ℕ → ℕ → List ℕ → List ℕ
words_at zero i s = []
words_at (suc n) i s = number_at 4 i s ∷ words_at n (i + 4) s

-- ---- to bytes

unfoldable pub register_bytes : Registers → List ℕ
register_bytes r = number_bytes 4 r.acc ++ number_bytes 4 r.next ++ number_bytes 8 r.sent ++ number_bytes 4 r.ending

unfoldable pub words_bytes : List ℕ → List ℕ
words_bytes [] = []
words_bytes (w ∷ ws) = number_bytes 4 w ++ words_bytes ws

unfoldable pub state_bytes : Registers → List ℕ → List ℕ
state_bytes r ws = register_bytes r ++ words_bytes ws
