use mathlib.Core.Path.{refl}
use lib.ListN.{take}
use Rattle.translate.proofs.ByNumber.{jump_led, other_led}
use Rattle.translate.proofs.led.Goals as goal

pub returns-then-w-eq-JUMP : goal.returns-then-w-eq-JUMP
returns-then-w-eq-JUMP c = jump_led (take c.args.n c.args.firsts.now) c.args.last c.args.w _ _ c.if-w-eq-JUMP.true _ (rw (c.order_word.ensures, c.first_of.ensures) refl)

pub returns-else-w-eq-JUMP : goal.returns-else-w-eq-JUMP
returns-else-w-eq-JUMP c = other_led (take c.args.n c.args.firsts.now) c.args.last c.args.w _ _ c.if-w-eq-JUMP.false
