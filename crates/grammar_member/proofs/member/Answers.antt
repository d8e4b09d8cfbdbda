use native.Mathlib.Omega.{arith}
use Rattle.grammar_member.proofs.Levels.{compared_found, compared_missing}
use Rattle.grammar_member.proofs.member.Goals as goal

pub returns-in_err-compared-clause-read : goal.returns-in_err-compared-clause-read
returns-in_err-compared-clause-read c =
    let b = c.brackets-t.ensures in
    λ base all r. rw c.from_residual.ensures
    (compared_missing _ _ _ _ _ _ b.unopened c.in_err-compared.ensures.read (b.to_come _ base all r))

pub returns-clause-read : goal.returns-clause-read
returns-clause-read c =
    let b = c.brackets-t.ensures in
    let m = c.in_ok-compared.ensures.moved in
    λ base all r. compared_found _ _ _ _ _ _ _ _ _ b.unopened (omega (arith, m)) c.in_ok-compared.ensures.read (b.to_come _ base all r)
