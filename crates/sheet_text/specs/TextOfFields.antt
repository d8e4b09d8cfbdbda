-- The text of fields in memory, whether or not they are a sheet's: V, the number of instructions, and each field of the lines behind
-- its separator. proofs/Flat.antt shows that the text of a sheet's fields is the sheet's text. Comments in quotes are the words of
-- document 01 and of 02, L1.
use Rattle.std.specs.Prelude.{ℕ, Bool, true, false, List, [], ◌∷◌, ◌++◌}
use Rattle.base.specs.Choice.{pick}
use Rattle.base.specs.Text.{bytes}
use Rattle.text.specs.Pieces.{decimal}
use Rattle.sheet.specs.declared.Field.{Field}
use Rattle.sheet.specs.declared.Field.TheVariants.{Else, Start, Finish, If, Send, Neg, Not, Binary, Compare, Word, Constant, Set, Goto, Run}
use Rattle.sheet.specs.Fields.{field_text}
use Rattle.sheet_line.specs.Runs.{lined}

-- a field that begins a line: "one line each" of the instructions, "a line `START`", "a line `ELSE`" and "a line `FINISH`"
abbrev pub begins : Field → Bool
begins Else = true
begins Start = true
begins Finish = true
begins If = true
begins Send = true
begins Neg = false
begins Not = false
begins (Binary o) = false
begins (Compare r) = false
begins (Word w) = false
begins (Constant n) = false
begins (Set w) = true
begins (Goto s) = true
begins (Run w n) = false

-- what stands before a field: the newline that ends the line before, or a tab
abbrev pub separator : Field → ℕ
separator f = pick (begins f) 10 9

-- the fields behind their separators, and the last newline
unfoldable pub fields_text : List Field → List ℕ
fields_text [] = 10 ∷ []
fields_text (f ∷ fs) = separator f ∷ field_text f ++ fields_text fs

-- the header without its newline
abbrev pub header_text : ℕ → ℕ → List ℕ
header_text v is = bytes "SHEET\t" ++ decimal v ++ 9 ∷ decimal is

-- the text of fields in memory
abbrev pub text_of_fields : ℕ → ℕ → List Field → List ℕ
text_of_fields v is fs = header_text v is ++ fields_text (lined [] fs)
