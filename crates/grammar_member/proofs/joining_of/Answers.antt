use mathlib.Core.Path.{◌≡◌}
use native.Mathlib.Omega.{arith}
use Rattle.base.proofs.Cases.{cases}
use Rattle.grammar_member.proofs.joining_of.Goals as goal

pub returns-in-0 : goal.returns-in-0
returns-in-0 c = rw c.in-0.is (search cases depth 16)

pub returns-in-1 : goal.returns-in-1
returns-in-1 c = rw c.in-1.is (search cases depth 16)

pub returns-in_default : goal.returns-in_default
returns-in_default c =
    let not_none : c.args.q ≡ 0 → ⊥ = omega arith in
    let not_and : c.args.q ≡ 1 → ⊥ = omega arith in
    search (cases, not_none, not_and) depth 16
