use native.Mathlib.Omega.{arith}
use Rattle.grammar_operand.proofs.Links.{place_within, after_within}
use Rattle.grammar_operand.proofs.Nesting.{link_turn}
use Rattle.grammar_operand.proofs.linked.Goals as goal

pub insert-requires : goal.insert-requires
insert-requires c = (
  omega (arith, c.requires.0.few, c.requires.0.room, c.requires.1),
  rw c.place_for.ensures (place_within _ _ c.args.o c.requires.0.within),
)

pub operand-requires : goal.operand-requires
operand-requires c =
    record {
      short = c.requires.0.short;
      inside = omega (arith, c.requires.1);
      few = omega (arith, c.requires.0.few);
      room = omega (arith, c.requires.0.room, c.insert.auto.fields);
      deep = c.requires.0.deep;
      within = rw c.places_after.ensures (after_within _ _ _ c.args.o c.requires.0.within (omega arith));
    }

pub returns-clause-read : goal.returns-clause-read
returns-clause-read c =
    λ all e r. c.operand.ensures.read all
    (rw c.places_after.ensures
    (link_turn _ _ _ _ _ _ _ c.requires.1 e (rw c.place_for.ensures at c.insert.ensures)
    (after_within _ _ _ c.args.o c.requires.0.within (omega arith)) r))
