use native.Mathlib.Omega.{arith}
use Rattle.skimp_state.proofs.Bytes.{number_four}
use Rattle.skimp_state.proofs.load_word.Goals as goal

pub returns : goal.returns
returns c =
    let four = number_four c.args.s.now c.args.i in
    omega (arith, four, c.from_be_bytes.ensures, c.at.ensures, c.at-2.ensures, c.at-3.ensures, c.at-4.ensures)
