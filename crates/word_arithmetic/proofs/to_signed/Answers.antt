use Rattle.word.proofs.Patterns.{signed_to_z}
use Rattle.word.proofs.SignedType.{mirrored, held}
use Rattle.word_arithmetic.proofs.to_signed.Goals as goal

pub returns-then-a-lt2147483648 : goal.returns-then-a-lt2147483648
returns-then-a-lt2147483648 c = signed_to_z c.args.a

pub returns-else-a-lt2147483648 : goal.returns-else-a-lt2147483648
returns-else-a-lt2147483648 c = let a = c.args.a in held a _ c.ranges.a.fits (mirrored a c.if-a-lt2147483648.false)
