use mathlib.Core.Path.{refl, sym, ap, ◌∙◌}
use mathlib.Core.List.{append-nil}
use native.Mathlib.Omega.{arith}
use Rattle.std.specs.Prelude.{Some}
use Rattle.source.specs.Grammar.{bare, minus, invert}
use Rattle.grammar_lead.proofs.Starts.{plus_start, minus_start, invert_start, bare_start}
use Rattle.grammar_lead.proofs.open.Goals as goal

pub returns-in-Some-Plus : goal.returns-in-Some-Plus
returns-in-Some-Plus c =
    let e = c.in-Some-Plus.is ∙ ap Some c.in-Some-Plus.field-0-is in
    let h = c.in-Some-Plus.ensures.inside in
    record {
      lead = bare;
      tokens = plus_start c.args.tokens.now _ (sym c.lead_at.ensures.found ∙ e) h;
      fields = sym (append-nil _);
      upper = refl;
      upper_within = omega arith;
      on = omega arith;
      inside = omega (arith, h);
      wider = omega arith;
      few = omega arith;
    }

pub returns-in-Some-Minus : goal.returns-in-Some-Minus
returns-in-Some-Minus c =
    let e = c.in-Some-Minus.is ∙ ap Some c.in-Some-Minus.field-0-is in
    let h = c.in-Some-Minus.ensures.inside in
    let s = c.signed.ensures in
    record {
      lead = minus;
      tokens = rw s.token_behind (minus_start c.args.tokens.now _ (sym c.lead_at.ensures.found ∙ e) h);
      fields = s.fields;
      upper = s.upper_given;
      upper_within = omega (arith, s);
      on = omega (arith, s);
      inside = omega (arith, h, s);
      wider = omega (arith, s);
      few = omega (arith, s);
    }

pub returns-in-Some-Invert : goal.returns-in-Some-Invert
returns-in-Some-Invert c =
    let e = c.in-Some-Invert.is ∙ ap Some c.in-Some-Invert.field-0-is in
    let h = c.in-Some-Invert.ensures.inside in
    let s = c.signed-in-Some-Invert.ensures in
    record {
      lead = invert;
      tokens = rw s.token_behind (invert_start c.args.tokens.now _ (sym c.lead_at.ensures.found ∙ e) h);
      fields = s.fields;
      upper = s.upper_given;
      upper_within = omega (arith, s);
      on = omega (arith, s);
      inside = omega (arith, h, s);
      wider = omega (arith, s);
      few = omega (arith, s);
    }

pub returns-in-None : goal.returns-in-None
returns-in-None c =
    let e = c.in-None.is in
    record {
      lead = bare;
      tokens = bare_start c.args.tokens.now _ (sym c.lead_at.ensures.found ∙ e);
      fields = sym (append-nil _);
      upper = refl;
      upper_within = omega arith;
      on = omega arith;
      inside = c.requires.inside;
      wider = omega arith;
      few = omega arith;
    }
