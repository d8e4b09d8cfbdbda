use mathlib.Core.Path.{ap, ◌∙◌}
use Rattle.text.specs.Internal.{put_byte}
use Rattle.text.proofs.Writing.{put_one, put_last}
use Rattle.text.proofs.write.+put_decimal.Goals as goal

pub returns-then-n-lt10 : goal.returns-then-n-lt10
returns-then-n-lt10 t c = c.put_byte.ensures ∙ put_one _ _ c.if-n-lt10.true

pub returns : goal.returns
returns t c =
    c.put_byte-2.ensures
    ∙ ap (put_byte _) c.put_decimal-i.ensures
    ∙ put_last _ _ c.if-n-lt10.false c.ranges.n.fits
