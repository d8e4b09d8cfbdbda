use mathlib.Core.Path.{ap, ◌∙◌}
use Rattle.base.specs.Text.{bytes}
use Rattle.text.specs.Internal.{put_byte, put_all}
use Rattle.object_writer.proofs.Writing.{put_fields}
use Rattle.object_writer.proofs.put_header.Goals as goal

pub returns : goal.returns
unfolding bytes
returns c =
    c.put_byte.ensures
    ∙ ap (put_byte 10)
    (c.put_decimal-f.ensures
    ∙ ap (put_all _)
    (c.put_byte-e.ensures
    ∙ ap (put_byte 9)
    (c.put_decimal-d.ensures
    ∙ ap (put_all _)
    (c.put_byte-c.ensures
    ∙ ap (put_byte 9) (c.put_decimal-b.ensures ∙ ap (put_all _) c.put_fixed-a.ensures)))))
    ∙ put_fields _ _ _ _
