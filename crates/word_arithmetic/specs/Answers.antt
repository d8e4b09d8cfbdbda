-- What the functions' results stand for.
use Rattle.std.specs.Prelude.{ℕ, Result, Ok, Err}
use Rattle.word_arithmetic.specs.declared.Fault.{Fault}
use Rattle.word_arithmetic.specs.declared.Fault.TheVariants.{ZeroDivisor, NegativeExponent, ShiftCount}
use Rattle.word.specs.Word.{Outcome, value, fault}

-- document 01's number of each fault
abbrev pub number : Fault → ℕ
number ZeroDivisor = 1
number NegativeExponent = 2
number ShiftCount = 3

abbrev pub outcome : Result ℕ Fault → Outcome
outcome (Ok w) = value w
outcome (Err f) = fault (number f)
