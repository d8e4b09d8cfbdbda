use Prim.Native.Nat.{◌+◌}
use native.Mathlib.Omega.{arith}
use Rattle.sheet_field.specs.Memory.{fields_at}
use Rattle.sheet_line.specs.Answers.{before}
use Rattle.sheet_text.proofs.Writing.{lines_at, some_text, count_start, count_turn, count_over}
use Rattle.sheet_text.proofs.text_length.Goals as goal

pub returns-in_err-left : goal.returns-in_err-left
unfolding before
returns-in_err-left c =
    let s = count_start c.args.v c.args.instructions (fields_at 0 c.args.fields.now) in
    rw c.from_residual.ensures (omega (arith, s, some_text (lines_at 0 c.args.fields.now), c.decimal_length.ensures.exact, c.decimal_length-2.ensures.exact, c.in_err-left.ensures))

pub loop-i-init : goal.loop-i-init
unfolding before
loop-i-init c =
    let s = count_start c.args.v c.args.instructions (fields_at 0 c.args.fields.now) in
    let left = c.in_ok-left.ensures in
    (omega (arith, s, c.decimal_length.ensures.exact, c.decimal_length-2.ensures.exact, left.0, left.1), omega arith)

pub returns-in_err-left-2 : goal.returns-in_err-left-2
returns-in_err-left-2 c =
    let fields = c.args.fields.now in
    let t = count_turn fields c.loop-i.i c.shown_at.result c.loop-i-test.true c.shown_at.ensures in
    rw c.from_residual-in_err-left-2.ensures (omega (arith, t, c.loop-i.invariant.0, c.shown_length.ensures, some_text (lines_at (c.loop-i.i + 1) fields), c.in_err-left-2.ensures))

pub loop-i-preserved : goal.loop-i-preserved
loop-i-preserved c =
    let fields = c.args.fields.now in
    let t = count_turn fields c.loop-i.i c.shown_at.result c.loop-i-test.true c.shown_at.ensures in
    let left = c.in_ok-left-2.ensures in
    (omega (arith, t, c.loop-i.invariant.0, c.shown_length.ensures, left.0, left.1), omega (arith, c.loop-i.invariant.1))

pub returns : goal.returns
returns c =
    let o = count_over c.args.fields.now _ c.loop-i-test.false in
    (omega (arith, o, c.loop-i.invariant.0, c.loop-i.invariant.1), omega (arith, o, c.loop-i.invariant.0, c.loop-i.invariant.1))
