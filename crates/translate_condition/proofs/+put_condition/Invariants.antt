use Prim.Native.Nat.{◌-◌}
use lib.ListN.{length}
use Rattle.translate_condition.proofs.+put_condition.Given as goal

abbrev pub decreases-put_condition : goal.decreases-put_condition
decreases-put_condition l = length l.fields.now - l.at
