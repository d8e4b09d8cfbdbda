use mathlib.Core.Path.{sym, ◌∙◌}
use Rattle.translate.proofs.Tables.{note_first, note_other, note_none}
use Rattle.translate.proofs.note.Goals as goal
use Rattle.translate.proofs.note.Goals.{else-here-via-then-here+else-of_instruction, else-here-via-else-here}

pub returns-then-of_instruction : goal.returns-then-of_instruction
returns-then-of_instruction c = note_first _ c.args.o c.args.i _ c.args.firsts.now _ c.if-here.true (sym c.of_instruction.ensures ∙ c.if-of_instruction.true) c.put.ensures

pub returns : goal.returns
returns c =
    elim c.else-here.branch [
      | else-here-via-then-here+else-of_instruction w ↦ note_other _ c.args.o c.args.i _ c.args.firsts.now w.if-here.true (sym w.of_instruction.ensures ∙ w.if-of_instruction.false)
      | else-here-via-else-here w ↦ note_none _ c.args.o c.args.i _ c.args.firsts.now w.if-here.false
    ]
