use mathlib.Core.Path.{ap, ap₂, ◌∙◌}
use Rattle.text.specs.Pieces.{decimal}
use Rattle.text.specs.Internal.{put_byte, put_all}
use Rattle.order_record.proofs.Writing.{put_parts}
use Rattle.order_record.proofs.put_record.Goals as goal

pub returns : goal.returns
returns c =
    let o = c.args.o in
    c.put_byte.ensures
    ∙ ap (put_byte 10)
    (c.put_decimal-j.ensures
    ∙ ap₂ (λ x p. put_all (decimal x) p) c.operand_of.ensures (rw (← c.number_of.ensures, ← c.heading.ensures.row) c.put_fixed-i.ensures))
    ∙ put_parts o _
