use mathlib.Core.Path.{◌≡◌}
use Rattle.object_reader.proofs.Scanning.{Filling}
use Rattle.object_reader.proofs.read_lines.Given as goal

abbrev pub invariant-loop-place : goal.invariant-loop-place
invariant-loop-place l = (l.scan.count ≡ l.place) × Filling l.words l.n l.s l.at l.initial.orders l.orders l.scan
