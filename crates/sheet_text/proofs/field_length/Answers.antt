use mathlib.Core.Path.{ap, ◌∙◌}
use native.Mathlib.Omega.{arith}
use lib.ListN.{length}
use Rattle.sheet_field.specs.Memory.{field_in}
use Rattle.sheet_text.proofs.Fronts.{row_length, count_bare, count_numbered, short_front}
use Rattle.sheet_text.proofs.field_length.Goals as goal

pub returns-then-k-lt23 : goal.returns-then-k-lt23
returns-then-k-lt23 c =
    let f = field_in c.args.w in
    let e = c.kind_in-k.ensures.told in
    let n = ap length c.front-length.ensures ∙ row_length _ c.kind_in-k.ensures.few in
    record {
      exact = n ∙ count_bare f _ e c.if-k-lt23.true;
      few = omega (arith, n, short_front f _ e);
    }

pub returns : goal.returns
returns c =
    let f = field_in c.args.w in
    let e = c.kind_in-k.ensures.told in
    let n = ap length c.front-length.ensures ∙ row_length _ c.kind_in-k.ensures.few in
    let d = c.decimal_length.ensures in
    let whole = count_numbered f _ e c.if-k-lt23.false in
    record {
      exact = rw (n, d.exact, c.value_in.ensures) whole;
      few = omega (arith, n, short_front f _ e, d.few);
    }
