use mathlib.Core.Path.{sym}
use native.Mathlib.Omega.{arith}
use Rattle.object_writer.proofs.Writing.{header_length}
use Rattle.object_writer.proofs.header_length.Goals as goal

pub returns : goal.returns
returns c =
    let v = c.decimal_length.ensures in
    let t = c.decimal_length-2.ensures in
    let n = c.decimal_length-3.ensures in
    record { exact = rw (v.exact, t.exact, n.exact) (sym (header_length _ _ _)); few = omega (arith, v.few, t.few, n.few) }
