use mathlib.Core.Path.{sym, ap, ◌∙◌}
use Rattle.text.specs.Internal.{put_all}
use Rattle.text.proofs.Writing.{put_all_append}
use Rattle.sheet_text.proofs.put_numbered.Goals as goal

pub returns : goal.returns
returns c =
    c.put_decimal.ensures
    ∙ ap (put_all _) c.put_fixed-i.ensures
    ∙ sym (put_all_append _ _ _)
