use mathlib.Core.Path.{◌≡◌}
use borrow.Author.Rules.{rules}
use Rattle.front_end_forms.specs.declared.Stage.TheVariants.{Nothing}
use Rattle.front_end_forms.proofs.Steps.{begun_late, begun}
use Rattle.front_end_forms.proofs.begin.Goals as goal

pub returns-then-ne : goal.returns-then-ne
returns-then-ne c = let n : c.args.p.stage ≡ Nothing → ⊥ = search rules in λ q ns ls gs fs xs h. begun_late h c.args.k xs n

pub returns : goal.returns
returns c = let e : c.args.p.stage ≡ Nothing = search rules in λ q ns ls gs fs xs h. begun h c.args.k xs e
