use mathlib.Core.Path.{◌≡◌}
use native.Mathlib.Omega.{arith}
use Rattle.base.proofs.Cases.{cases}
use Rattle.grammar_output.proofs.place_for.Goals as goal

pub returns-in-1 : goal.returns-in-1
returns-in-1 c = rw (← c.level_of.ensures, c.in-1.is) (search cases depth 16)

pub returns-in-2 : goal.returns-in-2
returns-in-2 c = rw (← c.level_of.ensures, c.in-2.is) (search cases depth 16)

pub returns-in_default : goal.returns-in_default
returns-in_default c =
    let not_one : c.level_of.result ≡ 1 → ⊥ = omega arith in
    let not_two : c.level_of.result ≡ 2 → ⊥ = omega arith in
    rw (← c.level_of.ensures) (search (cases, not_one, not_two) depth 16)
