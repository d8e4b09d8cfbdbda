use mathlib.Core.Path.{refl, sym, ◌∙◌}
use native.Mathlib.Omega.{arith}
use Rattle.source.specs.Grammar.{condition_at}
use Rattle.sheet_field.specs.Memory.{fields_from}
use Rattle.grammar_look.specs.Internal.{ahead}
use Rattle.grammar_member.proofs.Words.{word_inside}
use Rattle.grammar_member.proofs.Levels.{word_end}
use Rattle.grammar_condition.proofs.Whole.{following_on, following_inside, first_fewer, starts_at, none_written}
use Rattle.grammar_condition.proofs.condition.Goals as goal

pub returns-in_err-s-clause-read : goal.returns-in_err-s-clause-read
returns-in_err-s-clause-read c =
    rw c.from_residual.ensures
    (none_written _ _ (c.in_err-s.ensures.read _ _ (starts_at _ _ _ _ _ _ c.begun.ensures c.requires.inside)))

pub loop-w-init : goal.loop-w-init
loop-w-init c =
    let m = c.in_ok-s.ensures.moved in
    record {
      on = omega arith;
      inside = m.1;
      wider = omega arith;
      few = omega arith;
      fewer = first_fewer _ _ _ _ c.in_ok-s.s c.begun.ensures c.requires.fewer m;
      long = refl;
      deep = c.member.auto.stack;
      base = fields_from 0 c.args.out c.args.fields.now;
      some = condition_at (ahead c.args.tokens.now c.args.at);
      reached = c.in_ok-s.ensures.read _ _ (starts_at _ _ _ _ _ _ c.begun.ensures c.requires.inside);
      to_come = λ b all r. r;
    }

pub returns-in-None-clause-read : goal.returns-in-None-clause-read
returns-in-None-clause-read c =
    let i = c.loop-w.invariant in
    word_end _ _ _ _ _ _ i.inside (sym c.word_behind.ensures ∙ c.in-None.is) (omega arith)
    (i.to_come _ _ (c.in_ok-s.ensures.read _ _ (starts_at _ _ _ _ _ _ c.begun.ensures c.requires.inside)))

pub returns-in_err-s-in-None-2-clause-read : goal.returns-in_err-s-in-None-2-clause-read
returns-in_err-s-in-None-2-clause-read c =
    rw c.from_residual-in_err-s-in-None-2.ensures
    (none_written _ _
    (c.in_err-s-in-None-2.ensures.read _ _ _ (sym c.word_behind.ensures ∙ c.in-None-2.is)
    (c.loop-w.invariant.to_come _ _ (c.in_ok-s.ensures.read _ _ (starts_at _ _ _ _ _ _ c.begun.ensures c.requires.inside)))))

pub loop-w-preserved : goal.loop-w-preserved
loop-w-preserved c =
    following_on _ _ _ _ _ _ _ _ _ _ c.loop-w.invariant c.in_ok-s-in-None-2.ensures.moved refl refl
    (λ b all r. c.in_ok-s-in-None-2.ensures.read _ b all (sym c.word_behind.ensures ∙ c.in-None-2.is) r)

pub joined-requires : goal.joined-requires
joined-requires c = (
  following_inside _ _ _ _ _ _ _ c.loop-w.invariant c.requires.short (omega (arith, c.member.auto.fields, c.requires.room)),
  word_inside c.args.tokens.now _ _ _ (sym c.word_behind.ensures ∙ c.in-Some.is),
)

pub returns-in_err-s-in-Some-clause-read : goal.returns-in_err-s-in-Some-clause-read
returns-in_err-s-in-Some-clause-read c =
    rw c.from_residual-in_err-s-in-Some.ensures
    (none_written _ _
    (c.in_err-s-in-Some.ensures.read _ _ (sym c.word_behind.ensures ∙ c.in-Some.is)
    (c.loop-w.invariant.to_come _ _ (c.in_ok-s.ensures.read _ _ (starts_at _ _ _ _ _ _ c.begun.ensures c.requires.inside)))))

pub loop-w-preserved-in_ok-s-in-Some : goal.loop-w-preserved-in_ok-s-in-Some
loop-w-preserved-in_ok-s-in-Some c =
    following_on _ _ _ _ _ _ _ _ _ _ c.loop-w.invariant c.in_ok-s-in-Some.ensures.moved c.joined.auto.fields c.joined.auto.stack
    (λ b all r. c.in_ok-s-in-Some.ensures.read b all (sym c.word_behind.ensures ∙ c.in-Some.is) r)
