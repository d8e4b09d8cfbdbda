-- Where letters lie.
use Prim.Native.Nat.{ℕ, ◌≤◌}
use mathlib.Core.Path.{◌≡◌}
use mathlib.Core.Bool.{true}
use borrow.Author.Tests.{leb-true}
use Rattle.base.proofs.Cases.{both_yes}
use Rattle.source.specs.Cells.{is_capital, is_small}

pub small_from : (b : ℕ) → is_small b ≡ true → 97 ≤ b
small_from b e = leb-true 97 b (both_yes _ _ e).0

pub capital_to : (b : ℕ) → is_capital b ≡ true → b ≤ 90
capital_to b e = leb-true b 90 (both_yes _ _ e).1
