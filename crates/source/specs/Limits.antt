-- The limits of a source, document 01. Those of variables, temporaries and orders are the object's.
use Rattle.std.specs.Prelude.{ℕ}
use Rattle.text.specs.Pieces.{greatest_number}

-- "Source is 0 to 16,384 bytes"
abbrev pub most_bytes : ℕ
most_bytes = 16384

-- "A statement may hold 256 cells at any moment"
abbrev pub most_cells : ℕ
most_cells = 256

-- "A decimal constant is 0 to 2147483647."
abbrev pub greatest_constant : ℕ
greatest_constant = greatest_number

-- "Labels are decimal, 1 to 9999."
abbrev pub greatest_label : ℕ
greatest_label = 9999

-- "64 set labels"
abbrev pub most_labels : ℕ
most_labels = 64
