use Prim.Native.Nat.{◌-◌}
use lib.ListN.{length}
use Rattle.untranslate_condition.proofs.+read_condition.Given as goal

abbrev pub decreases-read_condition : goal.decreases-read_condition
decreases-read_condition l = length l.orders.now - l.p
