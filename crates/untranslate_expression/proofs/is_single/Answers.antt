use Prim.Native.Nat.{◌/◌}
use mathlib.Core.Path.{refl}
use native.Mathlib.Omega.{arith}
use borrow.Author.Tests.{lt-ltb, le-ltb, lt-leb, eq-eqb, ne_eqb}
use Rattle.base.specs.Choice.{pick}
use Rattle.base.proofs.Cases.{by_less}
use Rattle.untranslate_expression.proofs.Places.{single_told}
use Rattle.untranslate_expression.proofs.is_single.Goals as goal

pub returns-in_default-2 : goal.returns-in_default-2
unfolding pick
returns-in_default-2 c =
    let k = c.args.x / 4294967296 in
    rw (single_told _ _)
    (by_less k 4
    (λ h. rw (lt-ltb k 4 h, lt-leb 2 k (omega arith)) refl)
    (λ h. rw (le-ltb k 4 h, lt-ltb k 13 (omega arith)) refl))

pub returns-in_default-3 : goal.returns-in_default-3
unfolding pick
returns-in_default-3 c =
    let k = c.args.x / 4294967296 in
    rw (single_told _ _, le-ltb k 4 (omega arith), le-ltb k 13 (omega arith), eq-eqb k 24 (omega arith)) refl

pub returns-in_default-4 : goal.returns-in_default-4
unfolding pick
returns-in_default-4 c =
    let k = c.args.x / 4294967296 in
    rw (single_told _ _, le-ltb k 4 (omega arith), le-ltb k 13 (omega arith), ne_eqb k 24 (λ e. omega arith), le-ltb k 36 (omega arith)) refl

pub returns-in-2-2 : goal.returns-in-2-2
unfolding pick
returns-in-2-2 c =
    let k = c.args.x / 4294967296 in
    rw (single_told _ _, le-ltb k 4 (omega arith), le-ltb k 13 (omega arith), ne_eqb k 24 (λ e. omega arith), lt-ltb k 36 (omega arith)) refl

pub returns-in-2-3 : goal.returns-in-2-3
unfolding pick
returns-in-2-3 c =
    let k = c.args.x / 4294967296 in
    rw (single_told _ _, le-ltb k 4 (omega arith), le-ltb k 13 (omega arith), ne_eqb k 24 (λ e. omega arith), lt-ltb k 36 (omega arith)) refl

pub returns-in_default : goal.returns-in_default
unfolding pick
returns-in_default c =
    let k = c.args.x / 4294967296 in
    rw (single_told _ _, lt-ltb k 4 (omega arith), lt-leb 2 k (omega arith)) refl
