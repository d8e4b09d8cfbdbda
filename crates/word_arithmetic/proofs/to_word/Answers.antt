use Rattle.std.proofs.Common.{◌≡◌, false, ℤ, pos, negsuc, ◌-ℤ◌, to_z-of_z, w32, SFits, to_z, of_z}
use lib.Signed.{le_z}
use Rattle.word.proofs.SignedType.{at_least_zero, below_zero, Complement}
use Rattle.word_arithmetic.proofs.to_word.Goals as goal

-- the machine reads the parameter back as itself
complement : (x : ℤ) → SFits w32 x → le_z (pos 0) (to_z w32 (of_z w32 x)) ≡ false → Complement x (negsuc 0 -ℤ to_z w32 (of_z w32 x))
complement x h t = rw (to_z-of_z h) (below_zero x h (rw (to_z-of_z h) at t))

pub returns-then-x-ge0 : goal.returns-then-x-ge0
returns-then-x-ge0 c = rw (to_z-of_z c.ranges.x) (at_least_zero c.args.x c.ranges.x (rw (to_z-of_z c.ranges.x) at c.if-x-ge0.true)).1

pub returns-else-x-ge0 : goal.returns-else-x-ge0
returns-else-x-ge0 c = let k = complement c.args.x c.ranges.x c.if-x-ge0.false in rw (to_z-of_z k.fits) k.right
