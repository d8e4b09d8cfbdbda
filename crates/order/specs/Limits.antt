-- The limits that an object keeps, each named once: document 01, "over 64 variables, .. 32 temporaries, 1,024 orders with STOP", and
-- document 02, L4: "Raise the orders to 2,048 and the variables to 128."
use Rattle.std.specs.Prelude.{ℕ, ◌+◌}

abbrev pub most_variables : ℕ
most_variables = 128

abbrev pub most_temporaries : ℕ
most_temporaries = 32

abbrev pub most_orders : ℕ
most_orders = 2048

-- the words of the longest frame: with the two link words
abbrev pub most_words : ℕ
most_words = most_variables + most_temporaries + 2
