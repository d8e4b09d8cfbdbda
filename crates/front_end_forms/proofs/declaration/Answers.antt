use native.Mathlib.Omega.{arith}
use mathlib.Core.Path.{◌≡◌, ap, ◌∙◌}
use borrow.Author.Rules.{rules}
use Rattle.std.proofs.Common.{Err}
use Rattle.front_end_forms.specs.declared.Stage.TheVariants.{Declarations}
use Rattle.front_end_forms.proofs.Steps.{declared_elsewhere, comes_twice, declared_fits, comes_many, comes_declared}
use Rattle.front_end_forms.proofs.declaration.Goals as goal

pub returns-then-ne : goal.returns-then-ne
returns-then-ne c = let n : c.args.p.stage ≡ Declarations → ⊥ = search rules in λ q ls gs fs h few room. declared_elsewhere h c.args.k _ n _

pub returns-then-names-gt-MOST_VARIABLES : goal.returns-then-names-gt-MOST_VARIABLES
returns-then-names-gt-MOST_VARIABLES c = let e : c.args.p.stage ≡ Declarations = search rules in
    λ q ls gs fs h few room. comes_many h c.args.k _ e few room _ _ c.declare.ensures _ c.in-Ok.is (let v = c.if-names-gt-MOST_VARIABLES.true in omega (arith, v))

pub returns-else-names-gt-MOST_VARIABLES : goal.returns-else-names-gt-MOST_VARIABLES
returns-else-names-gt-MOST_VARIABLES c = let e : c.args.p.stage ≡ Declarations = search rules in
    λ q ls gs fs h few room. comes_declared h c.args.k _ e few room _ _ c.declare.ensures _ c.in-Ok.is (let v = c.if-names-gt-MOST_VARIABLES.false in omega (arith, v))

pub returns-in-Err-Refused : goal.returns-in-Err-Refused
returns-in-Err-Refused c = let e : c.args.p.stage ≡ Declarations = search rules in
    λ q ls gs fs h few room. comes_twice h c.args.k _ e few room _ _ c.declare.ensures (c.in-Err-Refused.is ∙ ap Err c.in-Err-Refused.field-0-is)

pub returns-in-Err-Unfit : goal.returns-in-Err-Unfit
returns-in-Err-Unfit c = let e : c.args.p.stage ≡ Declarations = search rules in
    λ q ls gs fs h few room. declared_fits h c.args.k _ e few room _ _ c.declare.ensures (c.in-Err-Unfit.is ∙ ap Err c.in-Err-Unfit.field-0-is)
