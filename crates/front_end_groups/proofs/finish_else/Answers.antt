use mathlib.Core.Path.{◌≡◌}
use borrow.Author.Rules.{rules}
use Rattle.front_end_forms.specs.declared.Stage.TheVariants.{Nothing}
use Rattle.front_end_forms.proofs.Stages.{else_behind, early, late}
use Rattle.front_end_groups.proofs.Closing.{else_stray, else_vain, else_again, else_first}
use Rattle.front_end_groups.proofs.finish_else.Goals as goal

pub returns-then-eq : goal.returns-then-eq
returns-then-eq c = let e : c.args.p.stage ≡ Nothing = search rules in λ q ns xs h. early (else_behind q c.args.k xs) h e

pub returns-then-p-eq0 : goal.returns-then-p-eq0
returns-then-p-eq0 c = let n : c.args.p.stage ≡ Nothing → ⊥ = search rules in
    λ q ns xs h. late (else_behind q c.args.k xs) h n (else_stray h c.args.k c.if-p-eq0.true)

pub returns-then-is_second : goal.returns-then-is_second
returns-then-is_second c = let n : c.args.p.stage ≡ Nothing → ⊥ = search rules in
    λ q ns xs h. late (else_behind q c.args.k xs) h n (else_again h c.requires c.args.k c.if-p-eq0.false _ c.is_second.ensures c.if-is_second.true)

pub returns-then-began_at-p : goal.returns-then-began_at-p
returns-then-began_at-p c = let n : c.args.p.stage ≡ Nothing → ⊥ = search rules in
    λ q ns xs h. late (else_behind q c.args.k xs) h n (else_vain h c.requires c.args.k c.if-p-eq0.false _ c.began_at.ensures c.if-began_at-p.true)

pub returns : goal.returns
returns c = let n : c.args.p.stage ≡ Nothing → ⊥ = search rules in
    λ q ns xs h. late (else_behind q c.args.k xs) h n (else_first h c.requires c.args.k c.if-p-eq0.false _ c.is_second.ensures c.if-is_second.false _ c.began_at.ensures c.if-began_at-p.false (λ j x w rest is. c.second_part.ensures q ns j x w rest h is))
