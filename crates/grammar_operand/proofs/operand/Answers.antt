use mathlib.Core.Path.{sym, ap, ◌∙◌}
use native.Mathlib.Omega.{arith}
use lib.ListN.{length-set}
use Rattle.std.specs.Prelude.{Some}
use Rattle.grammar_output.specs.Internal.{places_word}
use Rattle.grammar_operand.proofs.Nesting.{small_places, operand_plain, operand_open, operand_none}
use Rattle.grammar_operand.proofs.operand.Goals as goal

pub returns-in_err-f-clause-read : goal.returns-in_err-f-clause-read
returns-in_err-f-clause-read c =
    λ all r. rw c.from_residual.ensures
    (operand_none _ _ _ _ _ (sym c.operand_at.ensures.found ∙ c.in_err-f.was) (c.loop-f.invariant.to_come all r))

pub returns-in-Plain-clause-read : goal.returns-in-Plain-clause-read
returns-in-Plain-clause-read c =
    λ all r. operand_plain _ _ _ _ _ _ _ c.in_ok-f.ensures.inside
    (sym c.operand_at.ensures.found ∙ c.in_ok-f.was ∙ ap Some c.in-Plain.is) c.put.ensures (c.loop-f.invariant.to_come all r)

pub loop-f-preserved : goal.loop-f-preserved
loop-f-preserved c =
    let i = c.loop-f.invariant in
    let h = c.in_ok-f.ensures.inside in
    let o = c.open-o.ensures in
    rw (c.begun-t.ensures, c.word_of.ensures)
    (record {
      on = omega (arith, i.on, o.on);
      inside = o.inside;
      wider = omega (arith, i.wider, o.wider);
      few = omega (arith, i.few, o.few);
      within = record { low_within = o.wider; middle_within = o.upper_within; high_within = o.upper_within };
      long = c.open-o.auto.fields ∙ i.long;
      deep = length-set c.loop-f.stack c.loop-f.t.depth (places_word c.loop-f.t.places) ∙ i.deep;
      to_come = λ all r. operand_open _ _ _ _ _ _ _ h (sym c.operand_at.ensures.found ∙ c.in_ok-f.was ∙ ap Some c.in-Open.is)
          (omega (arith, i.few, i.deep, c.requires.few, c.requires.short, c.requires.deep, h))
          (small_places _ _ (omega (arith, i.few, c.requires.few, c.requires.short, h)) i.within) o (i.to_come all r);
    })
