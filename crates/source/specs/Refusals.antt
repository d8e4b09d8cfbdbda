-- The refusals of a source as document 01's numbers.
use Rattle.std.specs.Prelude.{ℕ}
use Rattle.source.specs.declared.Refusal.{Refusal}
use Rattle.source.specs.declared.Refusal.TheVariants.{Length, Byte, Quotes, Cells, Keyword, Constant, Form, Name, Label, Unended, Limit, Group}

abbrev pub refusal_number : Refusal → ℕ
refusal_number Length = 1
refusal_number Byte = 2
refusal_number Quotes = 3
refusal_number Cells = 4
refusal_number Keyword = 5
refusal_number Constant = 6
refusal_number Form = 7
refusal_number Name = 8
refusal_number Label = 9
refusal_number Unended = 10
refusal_number Limit = 11
refusal_number Group = 13
