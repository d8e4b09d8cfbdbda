use Prim.Native.Nat.{◌≤◌, ◌<◌, ◌/◌}
use native.Mathlib.Omega.{arith}
use Rattle.base.specs.Choice.{pick}
use Rattle.sheet_line.proofs.Scans.{node_told}
use Rattle.sheet_line.proofs.node_in.Goals as goal

pub returns-in-17-to-22 : goal.returns-in-17-to-22
unfolding pick
returns-in-17-to-22 c =
    let least : 17 ≤ c.args.w / 4294967296 = omega arith in
    let most : c.args.w / 4294967296 < 23 = omega arith in
    rw (node_told _ _) (grind arith)
