use Prim.Native.Nat.{◌+◌}
use mathlib.Core.Path.{sym, ap, ◌∙◌}
use lib.ListN.{length}
use Rattle.base.proofs.Places.{each_length}
use Rattle.labels.specs.Memory.{label_here}
use Rattle.labels.specs.Answers.{fit}
use Rattle.labels.proofs.Setting.{set_fit, set_unfit}
use Rattle.labels.proofs.set_labels.Goals as goal

pub returns-then-is_fit : goal.returns-then-is_fit
returns-then-is_fit c =
    let many = sym (each_length (label_here c.args.tokens.now.kinds.now c.args.tokens.now.values.now) 0 c.args.many) in
    set_fit _ _ _ _ _ (c.is_fit.ensures ∙ ap (λ m. fit (length c.args.labels.now) (c.args.count + m) c.args.next) many) c.if-is_fit.true _ _ c.set_all.ensures

pub returns : goal.returns
returns c =
    let many = sym (each_length (label_here c.args.tokens.now.kinds.now c.args.tokens.now.values.now) 0 c.args.many) in
    set_unfit _ _ _ _ _ (c.is_fit.ensures ∙ ap (λ m. fit (length c.args.labels.now) (c.args.count + m) c.args.next) many) c.if-is_fit.false
