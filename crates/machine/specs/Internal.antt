-- What the functions that carry out orders are shown to do.
use Rattle.std.specs.Prelude.{ℕ}
use Rattle.machine.specs.Machine.{Machine, machine, Effect, done, failed, end_with}

-- the machine after an order: "a faulting order .. changes nothing but the ending"
abbrev pub stepped : Effect → Machine → Machine
stepped (done after) m = after
stepped (failed n) (machine r ws out) = machine (end_with n r) ws out

-- the fault that an order meets, 0 where it is carried out
abbrev pub fault_of : Effect → ℕ
fault_of (failed n) = n
fault_of (done after) = 0
