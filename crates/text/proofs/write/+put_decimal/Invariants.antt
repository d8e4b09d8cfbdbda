use Rattle.text.proofs.write.+put_decimal.Given as goal

-- The measure is the number: its tenth has the digits before the last.
abbrev pub decreases-put_decimal : goal.decreases-put_decimal
decreases-put_decimal l = l.n
