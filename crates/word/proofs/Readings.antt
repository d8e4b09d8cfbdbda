-- The tables of starred readings and of quotients, by computation.
use mathlib.Core.Path.{refl}
use Rattle.base.specs.Choice.{pick}
use Rattle.word.specs.Word.{wrap, signed, word, sum, product, negation, bitwise, xor_bits, not_bits, quotient, power, shift_right}
use Rattle.word.specs.Readings.{after, reading, readings, AllRead, division, divisions, AllDivided}

pub all_read : AllRead
unfolding readings reading after pick wrap signed word sum product negation bitwise xor_bits not_bits quotient power shift_right
all_read = refl

pub all_divided : AllDivided
unfolding divisions division pick wrap signed word quotient
all_divided = refl
