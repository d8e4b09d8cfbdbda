use mathlib.Core.Path.{◌≡◌, ap, ◌∙◌}
use borrow.Author.Rules.{rules}
use Rattle.std.proofs.Common.{Err}
use Rattle.front_end_forms.specs.declared.Stage.TheVariants.{Nothing}
use Rattle.front_end_forms.proofs.Stages.{end_behind, early, late}
use Rattle.front_end_groups.proofs.Concluding.{left_open, comes_given, comes_unset, led_fits}
use Rattle.front_end_groups.proofs.conclude.Goals as goal

pub returns-then-eq : goal.returns-then-eq
returns-then-eq c = let e : c.args.p.stage ≡ Nothing = search rules in λ q ns xs h. early (end_behind q c.args.k xs) h e

pub returns-then-p-ne0 : goal.returns-then-p-ne0
returns-then-p-ne0 c = let n : c.args.p.stage ≡ Nothing → ⊥ = search rules in
    λ q ns xs h. late (end_behind q c.args.k xs) h n (left_open h c.if-p-ne0.true _ c.statement_at.ensures)

pub returns-in-Ok : goal.returns-in-Ok
returns-in-Ok c = let n : c.args.p.stage ≡ Nothing → ⊥ = search rules in
    λ q ns xs h. late (end_behind q c.args.k xs) h n (comes_given h c.requires c.if-p-ne0.false _ _ c.lead_jumps.ensures.told c.in-Ok.is)

pub returns-in-Err-Unset : goal.returns-in-Err-Unset
returns-in-Err-Unset c = let n : c.args.p.stage ≡ Nothing → ⊥ = search rules in
    λ q ns xs h. late (end_behind q c.args.k xs) h n (comes_unset h c.requires c.if-p-ne0.false _ _ c.lead_jumps.ensures.told _ (c.in-Err-Unset.is ∙ ap Err c.in-Err-Unset.field-0-is))

pub returns-in-Err-Unfit : goal.returns-in-Err-Unfit
returns-in-Err-Unfit c = λ q ns xs h. led_fits h c.requires c.if-p-ne0.false _ _ c.lead_jumps.ensures.told (c.in-Err-Unfit.is ∙ ap Err c.in-Err-Unfit.field-0-is)
