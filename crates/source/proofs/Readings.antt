-- Document 01's starred readings, the table of specs/Readings under one statement: read and done by the definitions.
use mathlib.Core.Path.{◌≡◌, refl}
use mathlib.Core.List.{map}
use Rattle.base.specs.Choice.{pick}
use Rattle.base.specs.Text.{bytes}
use Rattle.base.specs.Front.{on_front}
use Rattle.word.specs.Word.{word, wrap, signed, sum, product, negation, quotient, power, shift_right, bitwise, xor_bits, not_bits}
use Rattle.text.specs.Pieces.{fixed}
use Rattle.sheet.specs.Fields.{expression_fields}
use Rattle.sheet.specs.Sheet.{count, retarget_part}
use Rattle.sheet.specs.Orders.{code, temporaries}
use Rattle.sheet.specs.Translation.{size}
use Rattle.sheet.specs.Worth.{worth, sending}
use Rattle.sheet.specs.Meaning.{after, further, move_at, moves}
use Rattle.source.specs.Cells.{outside, turn, source_end, on_turn, statements_from}
use Rattle.source.specs.Tokens.{first_of, run, past_run, decimal_value, text_at, packed, lexeme, on_one, lexemes_in}
use Rattle.source.specs.Grammar.{next, opens, behind_first, joined, start_of, operand_by, links_by, expression_in, named, simple_at, labels_at, labelled_form, form}
use Rattle.source.specs.Program.{append, count_outside, orders_outside, same_name, all_known, can_set, moved, jumps_in, all, first_unset, closed, statement}
use Rattle.source.specs.Source.{answer, on_outcome, program, not_allowed}
use Rattle.source.specs.Readings.{readings, source_of, result, expected}

-- each sends the word that document 01 says, and stops
pub all_read : map (λ r. result (answer (source_of r.expression))) readings ≡ map (λ r. expected r.is) readings
unfolding bytes pick fixed on_front count retarget_part code size temporaries expression_fields outside turn source_end on_turn statements_from first_of run past_run decimal_value text_at packed lexeme on_one lexemes_in next opens behind_first joined start_of operand_by links_by expression_in named simple_at labels_at labelled_form form append count_outside orders_outside same_name all_known can_set moved jumps_in all first_unset closed statement on_outcome program not_allowed after further move_at moves worth sending word wrap signed sum product negation quotient power shift_right bitwise xor_bits not_bits
all_read = refl
