use native.Mathlib.Omega.{arith}
use Rattle.object_writer.proofs.Writing.{count_start, count_turn, count_over}
use Rattle.object_writer.proofs.text_length.Goals as goal

pub loop-w-init : goal.loop-w-init
loop-w-init c = (count_start c.args.orders.now _ _ _ c.header_length-total.ensures.exact, c.header_length-total.ensures.few)

pub loop-w-preserved : goal.loop-w-preserved
loop-w-preserved c =
    let turn = count_turn c.args.orders.now _ _ c.order_in.ensures c.loop-w-test.true in (
      omega (arith, c.loop-w.invariant.0, c.record_length-total.ensures.exact, turn),
      omega (arith, c.loop-w.invariant.1, c.record_length-total.ensures.few),
    )

pub returns : goal.returns
returns c = omega (arith, c.loop-w.invariant.0, count_over c.args.orders.now _ c.loop-w-test.false)
