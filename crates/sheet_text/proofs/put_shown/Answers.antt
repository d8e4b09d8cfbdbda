use mathlib.Core.Path.{refl}
use Rattle.text.specs.Internal.{put_all}
use Rattle.sheet_text.proofs.Writing.{put_shown_parts}
use Rattle.sheet_text.proofs.put_shown.Goals as goal

pub returns-in_default : goal.returns-in_default
unfolding put_all
returns-in_default c = rw c.in_default.is refl

pub returns : goal.returns
returns c =
    put_shown_parts _ _ _ _ _ _ _ c.in-Some.is c.field_in.ensures
    c.separator_of.ensures c.put_byte-i.ensures c.put_field.ensures
