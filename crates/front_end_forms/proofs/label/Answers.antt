use mathlib.Core.Path.{◌≡◌, ap, ◌∙◌}
use borrow.Author.Rules.{rules}
use Rattle.std.proofs.Common.{Err}
use Rattle.front_end_forms.specs.declared.Stage.TheVariants.{Nothing}
use Rattle.front_end_forms.proofs.Stages.{labels_behind, early, late}
use Rattle.front_end_forms.proofs.Labelling.{comes_unset, labels_fit, comes_over, comes_labelled}
use Rattle.front_end_forms.proofs.label.Goals as goal

pub returns-then-eq-clause-set : goal.returns-then-eq-clause-set
returns-then-eq-clause-set c = let e : c.args.p.stage ≡ Nothing = search rules in λ q ns gs fs xs h few. early (labels_behind q c.args.k xs _) h e

pub returns-then-set-gt-MOST_LABELS-clause-set : goal.returns-then-set-gt-MOST_LABELS-clause-set
returns-then-set-gt-MOST_LABELS-clause-set c = let n : c.args.p.stage ≡ Nothing → ⊥ = search rules in
    λ q ns gs fs xs h few. late (labels_behind q c.args.k xs _) h n (comes_over h c.requires c.args.k _ few _ _ c.set_labels.ensures _ c.in-Ok.is c.if-set-gt-MOST_LABELS.true)

pub returns-else-set-gt-MOST_LABELS-clause-set : goal.returns-else-set-gt-MOST_LABELS-clause-set
returns-else-set-gt-MOST_LABELS-clause-set c = let n : c.args.p.stage ≡ Nothing → ⊥ = search rules in
    λ q ns gs fs xs h few. late (labels_behind q c.args.k xs _) h n (comes_labelled h c.requires c.args.k _ few _ _ c.set_labels.ensures _ c.in-Ok.is c.if-set-gt-MOST_LABELS.false)

pub returns-in-Err-Refused-clause-set : goal.returns-in-Err-Refused-clause-set
returns-in-Err-Refused-clause-set c = let n : c.args.p.stage ≡ Nothing → ⊥ = search rules in
    λ q ns gs fs xs h few. late (labels_behind q c.args.k xs _) h n (comes_unset h c.requires c.args.k _ few _ _ c.set_labels.ensures (c.in-Err-Refused.is ∙ ap Err c.in-Err-Refused.field-0-is))

pub returns-in-Err-Unfit-clause-set : goal.returns-in-Err-Unfit-clause-set
returns-in-Err-Unfit-clause-set c =
    λ q ns gs fs xs h few. labels_fit h c.requires c.args.k _ few _ _ c.set_labels.ensures (c.in-Err-Unfit.is ∙ ap Err c.in-Err-Unfit.field-0-is)
