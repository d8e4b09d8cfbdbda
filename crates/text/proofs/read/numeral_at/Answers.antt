use Rattle.text.proofs.Turns.{numeral_short, numeral_here, no_digit}
use Rattle.text.proofs.Places.{with_place}
use Rattle.text.proofs.read.numeral_at.Goals as goal

pub returns-in_err-b-clause-read : goal.returns-in_err-b-clause-read
returns-in_err-b-clause-read c = rw c.from_residual.ensures (numeral_short _ _ _ c.in_err-b.ensures.lookup.3)

pub returns-then-not-is_ascii_digit-clause-read : goal.returns-then-not-is_ascii_digit-clause-read
returns-then-not-is_ascii_digit-clause-read c =
    let here = c.in_ok-b.ensures.lookup.3 in
    rw (numeral_here _ _ _ _ here.0 (here.1 0)) (no_digit _ _ c.if-not-is_ascii_digit.ensures.cases)

pub returns : goal.returns
returns c =
    let here = c.in_ok-b.ensures.lookup.3 in
    let both = with_place _ _ _ c.digits_at.result _ here.0 (here.1 0) c.if-not-is_ascii_digit.ensures.cases c.digits_at.ensures.read c.digits_at.ensures.within in
    record { read = both.0; place = both.1 }
