use mathlib.Core.Path.{refl, sym, ◌∙◌}
use lib.ListN.{replicate}
use Rattle.base.proofs.Cases.{cases}
use Rattle.order.specs.Limits.{most_words}
use Rattle.call.specs.Run.{object_call}
use Rattle.call_run.proofs.Calls.{part_fits, fitting_call}
use Rattle.call_run.proofs.run_orders.Goals as goal

pub run_with-requires : goal.run_with-requires
run_with-requires c = let both = (part_fits _ _ _ _ (replicate most_words 0) refl c.requires (sym c.state_fits.ensures ∙ c.if-state_fits.true)) in record { few = both.0; fitting = both.1 }

pub returns-then-state_fits : goal.returns-then-state_fits
returns-then-state_fits c =
    c.run_with.ensures
    ∙ fitting_call _ _ _ _ _ _ _ c.requires (sym c.state_fits.ensures ∙ c.if-state_fits.true)

pub returns : goal.returns
unfolding object_call
returns c = rw c.reply.ensures (search (cases, sym c.state_fits.ensures ∙ c.if-state_fits.false) depth 16)
