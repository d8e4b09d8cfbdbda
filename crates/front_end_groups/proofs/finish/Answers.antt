use mathlib.Core.Path.{◌≡◌}
use borrow.Author.Rules.{rules}
use Rattle.front_end_forms.specs.declared.Stage.TheVariants.{Nothing}
use Rattle.front_end_forms.proofs.Stages.{finish_behind, early, late}
use Rattle.front_end_groups.proofs.Closing.{finish_stray, finish_vain, finish_fits, comes_finished}
use Rattle.front_end_groups.proofs.finish.Goals as goal

pub returns-then-eq : goal.returns-then-eq
returns-then-eq c = let e : c.args.p.stage ≡ Nothing = search rules in λ q ns xs h. early (finish_behind q c.args.k xs) h e

pub returns-then-p-eq0 : goal.returns-then-p-eq0
returns-then-p-eq0 c = let n : c.args.p.stage ≡ Nothing → ⊥ = search rules in
    λ q ns xs h. late (finish_behind q c.args.k xs) h n (finish_stray h c.args.k c.if-p-eq0.true)

pub returns-then-began_at-p : goal.returns-then-began_at-p
returns-then-began_at-p c = let n : c.args.p.stage ≡ Nothing → ⊥ = search rules in
    λ q ns xs h. late (finish_behind q c.args.k xs) h n (finish_vain h c.requires c.args.k c.if-p-eq0.false _ c.began_at.ensures c.if-began_at-p.true)

pub returns-in_err-n : goal.returns-in_err-n
returns-in_err-n c = λ q ns xs h. finish_fits h c.requires c.args.k c.if-p-eq0.false _ c.began_at.ensures c.if-began_at-p.false _ _ c.push.ensures.told c.push.ensures.kept c.in_err-n.was

pub returns : goal.returns
returns c = let n : c.args.p.stage ≡ Nothing → ⊥ = search rules in
    λ q ns xs h. late (finish_behind q c.args.k xs) h n (comes_finished h c.requires c.args.k c.if-p-eq0.false _ c.began_at.ensures c.if-began_at-p.false _ _ c.push.ensures.told c.push.ensures.kept _ c.in_ok-n.was _ c.take_up.ensures)
