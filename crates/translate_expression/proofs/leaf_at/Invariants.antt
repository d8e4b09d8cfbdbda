use Prim.Native.Nat.{ℕ, ◌≤◌, ◌<◌}
use mathlib.Core.Path.{◌≡◌}
use mathlib.Core.Bool.{true}
use Rattle.sheet_field.specs.Memory.{fields_at}
use Rattle.translate_expression.specs.Internal.{first_node, is_operator}
use Rattle.translate_expression.proofs.leaf_at.Given as goal

abbrev pub invariant-loop-j : goal.invariant-loop-j
invariant-loop-j l = (k : ℕ) → l.at ≤ k → k < l.j → is_operator (first_node (fields_at k l.fields)) ≡ true
