use Rattle.std.proofs.Common.{sym, ap, ◌∙◌, ap₂, ne_eqb}
use Rattle.base.specs.Choice.{pick}
use Rattle.base.proofs.Cases.{cases}
use Rattle.word.specs.Word.{rounded, quotient, value, word}
use Rattle.word.proofs.SignedType.{held}
use Rattle.word.proofs.Quotient.{word_by_minus_one, signed_not_zero, signed_not_minus_one}
use Rattle.word_arithmetic.proofs.Rounding.{rounded_stored}
use Rattle.word_arithmetic.proofs.div.Goals as goal

pub returns-then-b-eq0 : goal.returns-then-b-eq0
unfolding quotient
returns-then-b-eq0 c = search cases depth 16

pub returns-then-b-eq4294967295 : goal.returns-then-b-eq4294967295
unfolding quotient pick
returns-then-b-eq4294967295 c =
    rw c.if-b-eq4294967295.true (ap value (c.neg.ensures ∙ sym (word_by_minus_one c.args.a c.ranges.a.fits)))

pub nearest-requires : goal.nearest-requires
nearest-requires c =
    let b = c.args.b in
    let h = c.ranges.b.fits in
    let e = held b _ h c.to_signed-2.ensures in
    (λ z. signed_not_zero b h c.if-b-eq0.false (sym e ∙ z), λ m. signed_not_minus_one b h c.if-b-eq4294967295.false (sym e ∙ m))

pub returns : goal.returns
unfolding quotient pick
returns c =
    let a = c.args.a in
    let b = c.args.b in
    let h = c.ranges.a.fits in
    let k = c.ranges.b.fits in
    let not-zero = c.if-b-eq0.false in
    let e = c.nearest.ensures ∙ ap₂ rounded (held a _ h c.to_signed.ensures) (held b _ k c.to_signed-2.ensures) in
    rw (ne_eqb b 0 not-zero) (ap value (c.to_word.ensures ∙ ap word (rounded_stored a b _ h k not-zero c.if-b-eq4294967295.false e)))
