use mathlib.Core.Path.{refl, sym, ◌∙◌}
use native.Mathlib.Omega.{arith}
use Rattle.sheet_field.specs.Memory.{fields_from}
use Rattle.grammar_look.specs.Internal.{ahead}
use Rattle.grammar_expression.specs.Internal.{expression_pass}
use Rattle.grammar_operand.proofs.Nesting.{starts_at, link_end}
use Rattle.grammar_expression.proofs.Whole.{following_on, first_fewer}
use Rattle.grammar_expression.proofs.expression.Goals as goal

pub returns-in_err-s-clause-read : goal.returns-in_err-s-clause-read
returns-in_err-s-clause-read c =
    rw c.from_residual.ensures
    (c.in_err-s.ensures.read _ (starts_at _ _ _ _ _ _ _ _ c.begun.ensures c.requires.inside c.open-o.ensures))

pub loop-o-init : goal.loop-o-init
loop-o-init c =
    let m = c.in_ok-s.ensures.moved in
    record {
      on = omega arith;
      inside = m.1;
      wider = omega arith;
      few = omega arith;
      fewer = first_fewer _ _ _ _ _ _ _ c.in_ok-s.s c.begun.ensures c.requires.fewer c.open-o.ensures m;
      long = refl;
      deep = c.operand.auto.stack;
      some = expression_pass (fields_from 0 c.args.out c.args.fields.now) (ahead c.args.tokens.now c.args.at);
      reached = c.in_ok-s.ensures.read _ (starts_at _ _ _ _ _ _ _ _ c.begun.ensures c.requires.inside c.open-o.ensures);
      to_come = λ all r. r;
    }

pub returns-in_err-s-in-Some-clause-read : goal.returns-in_err-s-in-Some-clause-read
returns-in_err-s-in-Some-clause-read c =
    rw c.from_residual-in_err-s-in-Some.ensures
    (c.in_err-s-in-Some.ensures.read _ (sym c.link_at.ensures.found ∙ c.in-Some.is)
    (c.loop-o.invariant.to_come _
    (c.in_ok-s.ensures.read _ (starts_at _ _ _ _ _ _ _ _ c.begun.ensures c.requires.inside c.open-o.ensures))))

pub loop-o-preserved-in_ok-s-in-Some : goal.loop-o-preserved-in_ok-s-in-Some
loop-o-preserved-in_ok-s-in-Some c =
    following_on _ _ _ _ _ _ _ _ _ _ c.loop-o.invariant c.in_ok-s-in-Some.ensures.moved c.linked.auto.fields c.linked.auto.stack
    (λ all r. c.in_ok-s-in-Some.ensures.read all (sym c.link_at.ensures.found ∙ c.in-Some.is) r)

pub returns-in-None-clause-read : goal.returns-in-None-clause-read
returns-in-None-clause-read c =
    let i = c.loop-o.invariant in
    link_end _ _ _ _ _ i.inside (sym c.link_at.ensures.found ∙ c.in-None.is) (omega arith)
    (i.to_come _ (c.in_ok-s.ensures.read _ (starts_at _ _ _ _ _ _ _ _ c.begun.ensures c.requires.inside c.open-o.ensures)))

pub returns-in_err-s-in-None-2-clause-read : goal.returns-in_err-s-in-None-2-clause-read
returns-in_err-s-in-None-2-clause-read c =
    rw c.from_residual-in_err-s-in-None-2.ensures
    (c.in_err-s-in-None-2.ensures.read _ _ (sym c.link_at.ensures.found ∙ c.in-None-2.is)
    (c.loop-o.invariant.to_come _
    (c.in_ok-s.ensures.read _ (starts_at _ _ _ _ _ _ _ _ c.begun.ensures c.requires.inside c.open-o.ensures))))

pub loop-o-preserved : goal.loop-o-preserved
loop-o-preserved c =
    following_on _ _ _ _ _ _ _ _ _ _ c.loop-o.invariant c.in_ok-s-in-None-2.ensures.moved refl refl
    (λ all r. c.in_ok-s-in-None-2.ensures.read _ all (sym c.link_at.ensures.found ∙ c.in-None-2.is) r)
