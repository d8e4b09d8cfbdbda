-- Document 01's starred readings ("Readings either side of a line") as one table, with the -7/2 of 02, L3: each expression,
-- sent by a program of one instruction, and the number that it is.
use Rattle.std.specs.Prelude.{ℕ, List, [], ◌∷◌, ◌++◌, ℤ, pos, negsuc}
use Prim.Native.String.{String}
use Rattle.base.specs.Text.{bytes}
use Rattle.word.specs.Word.{word}
use Rattle.sheet.specs.Meaning.{after}
use Rattle.source.specs.Source.{Answer, accepted, refusal}

pub record Reading : Type 0 where
  pub expression : String
  pub is : ℤ

abbrev pub reading : String → ℤ → Reading
reading s z = record { expression = s; is = z }

-- (-(n + 1) is written `negsuc n`, and one `\` is written `\\`)
abbrev pub readings : List Reading
readings =
    reading "-7/2" (negsuc 3)
    ∷ reading "2147483647+1" (negsuc 2147483647)
    ∷ reading "-(\\2147483647)" (negsuc 2147483647)
    ∷ reading "0**0" (pos 1)
    ∷ reading "2**31" (negsuc 2147483647)
    ∷ reading "2**32" (pos 0)
    ∷ reading "(\\0)>>31" (pos 1)
    ∷ reading "1/3*3" (pos 0)
    ∷ reading "6!!3" (pos 5)
    ∷ reading "-2**2" (negsuc 3)
    ∷ reading "'FRED'" (pos 1179796804)
    ∷ reading "''''" (pos 39)
    ∷ []

-- a source of one instruction
abbrev pub source_of : String → List ℕ
source_of e = bytes "%BEGIN\nSEND(" ++ bytes e ++ bytes ")\n%ENDOFPROGRAM\n"

-- what comes of a source: the numbers sent and the ending of its program after one instruction and the end, with room for
-- one number
pub data Result : Type 0 where
  sent : List ℕ → ℕ → Result
  not_accepted : Result

abbrev pub result : Answer → Result
result (accepted s) = sent (after 2 1 s).store.sent (after 2 1 s).ending
result (refusal n k) = not_accepted

-- 20 is "stopped"
abbrev pub expected : ℤ → Result
expected z = sent (word z ∷ []) 20
