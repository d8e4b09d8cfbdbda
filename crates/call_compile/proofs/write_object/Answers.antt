use mathlib.Core.Path.{refl}
use Rattle.call_compile.proofs.Written.{whole_written}
use Rattle.call_compile.proofs.write_object.Goals as goal

pub returns-in-Some : goal.returns-in-Some
returns-in-Some c = λ s w v f few. whole_written _ _ _ refl _ _ c.translate.ensures s w v f few _ _ _ _ c.in-Some.is (rw c.front.ensures at c.write_orders.ensures)
