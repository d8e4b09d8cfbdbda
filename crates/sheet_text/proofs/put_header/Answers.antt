use mathlib.Core.Path.{ap, ◌∙◌}
use Rattle.base.specs.Text.{bytes}
use Rattle.text.specs.Internal.{put_byte, put_all}
use Rattle.sheet_text.proofs.Writing.{put_header_parts}
use Rattle.sheet_text.proofs.put_header.Goals as goal

pub returns : goal.returns
unfolding bytes
returns c =
    c.put_decimal.ensures
    ∙ ap (put_all _) (c.put_byte-j.ensures ∙ ap (put_byte 9) c.put_numbered-i.ensures)
    ∙ put_header_parts _ _ _
