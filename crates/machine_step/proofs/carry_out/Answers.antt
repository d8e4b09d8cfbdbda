use Rattle.std.proofs.Common.{sym, rules, arith}
use Rattle.order.specs.Memory.{order_of, shapes}
use Rattle.order.proofs.Numbers.{no_order}
use Rattle.machine_step.proofs.carry_out.Goals as goal

pub returns-in-0 : goal.returns-in-0
unfolding order_of shapes
returns-in-0 c = rw (c.in-0.is, c.end_with.ensures)

pub returns-in-1 : goal.returns-in-1
unfolding order_of shapes
returns-in-1 c = rw c.in-1.is (c.send.ensures _)

pub returns-in-2 : goal.returns-in-2
unfolding order_of shapes
returns-in-2 c = rw (c.in-2.is, c.advance.ensures, c.neg.ensures)

pub returns-in-3 : goal.returns-in-3
unfolding order_of shapes
returns-in-3 c = rw (c.in-3.is, c.advance-in-3.ensures, c.bit_not.ensures)

pub returns-in-4 : goal.returns-in-4
unfolding order_of shapes
returns-in-4 c = rw (c.in-4.is, c.go_to.ensures)

pub returns-in-5 : goal.returns-in-5
unfolding order_of shapes
returns-in-5 c = rw (c.in-5.is, c.branch-v.ensures)

pub returns-in-6 : goal.returns-in-6
unfolding order_of shapes
returns-in-6 c = rw (c.in-6.is, c.branch-v-in-6.ensures)

pub returns-in-7 : goal.returns-in-7
unfolding order_of shapes
returns-in-7 c = rw (c.in-7.is, c.branch-v-in-7.ensures)

pub returns-in-8 : goal.returns-in-8
unfolding order_of shapes
returns-in-8 c = rw (c.in-8.is, c.branch-v-in-8.ensures)

pub returns-in-9 : goal.returns-in-9
unfolding order_of shapes
returns-in-9 c = rw (c.in-9.is, c.branch-v-in-9.ensures)

pub returns-in-10 : goal.returns-in-10
unfolding order_of shapes
returns-in-10 c = rw (c.in-10.is, c.branch-v-in-10.ensures)

pub returns-in-11 : goal.returns-in-11
unfolding order_of shapes
returns-in-11 c = rw (c.in-11.is, c.advance-in-11.ensures, c.store.ensures)

pub returns-in-12 : goal.returns-in-12
unfolding order_of shapes
returns-in-12 c = rw (c.in-12.is, c.on_word.ensures)

pub returns-in-13 : goal.returns-in-13
unfolding order_of shapes
returns-in-13 c = rw (c.in-13.is, c.on_word-in-13.ensures)

pub returns-in-14 : goal.returns-in-14
unfolding order_of shapes
returns-in-14 c = rw (c.in-14.is, c.on_word-in-14.ensures)

pub returns-in-15 : goal.returns-in-15
unfolding order_of shapes
returns-in-15 c = rw (c.in-15.is, c.on_word-in-15.ensures)

pub returns-in-16 : goal.returns-in-16
unfolding order_of shapes
returns-in-16 c = rw (c.in-16.is, c.on_word-in-16.ensures)

pub returns-in-17 : goal.returns-in-17
unfolding order_of shapes
returns-in-17 c = rw (c.in-17.is, c.on_word-in-17.ensures)

pub returns-in-18 : goal.returns-in-18
unfolding order_of shapes
returns-in-18 c = rw (c.in-18.is, c.on_word-in-18.ensures)

pub returns-in-19 : goal.returns-in-19
unfolding order_of shapes
returns-in-19 c = rw (c.in-19.is, c.on_word-in-19.ensures)

pub returns-in-20 : goal.returns-in-20
unfolding order_of shapes
returns-in-20 c = rw (c.in-20.is, c.on_word-in-20.ensures)

pub returns-in-21 : goal.returns-in-21
unfolding order_of shapes
returns-in-21 c = rw (c.in-21.is, c.on_word-in-21.ensures)

pub returns-in-22 : goal.returns-in-22
unfolding order_of shapes
returns-in-22 c = rw (c.in-22.is, c.on_word-in-22.ensures)

pub returns-in-23 : goal.returns-in-23
unfolding order_of shapes
returns-in-23 c = rw (c.in-23.is, c.on_word-in-23.ensures)

pub returns-in-24 : goal.returns-in-24
unfolding order_of shapes
returns-in-24 c = rw (c.in-24.is, c.on_number.ensures)

pub returns-in-25 : goal.returns-in-25
unfolding order_of shapes
returns-in-25 c = rw (c.in-25.is, c.on_number-in-25.ensures)

pub returns-in-26 : goal.returns-in-26
unfolding order_of shapes
returns-in-26 c = rw (c.in-26.is, c.on_number-in-26.ensures)

pub returns-in-27 : goal.returns-in-27
unfolding order_of shapes
returns-in-27 c = rw (c.in-27.is, c.on_number-in-27.ensures)

pub returns-in-28 : goal.returns-in-28
unfolding order_of shapes
returns-in-28 c = rw (c.in-28.is, c.on_number-in-28.ensures)

pub returns-in-29 : goal.returns-in-29
unfolding order_of shapes
returns-in-29 c = rw (c.in-29.is, c.on_number-in-29.ensures)

pub returns-in-30 : goal.returns-in-30
unfolding order_of shapes
returns-in-30 c = rw (c.in-30.is, c.on_number-in-30.ensures)

pub returns-in-31 : goal.returns-in-31
unfolding order_of shapes
returns-in-31 c = rw (c.in-31.is, c.on_number-in-31.ensures)

pub returns-in-32 : goal.returns-in-32
unfolding order_of shapes
returns-in-32 c = rw (c.in-32.is, c.on_number-in-32.ensures)

pub returns-in-33 : goal.returns-in-33
unfolding order_of shapes
returns-in-33 c = rw (c.in-33.is, c.on_number-in-33.ensures)

pub returns-in-34 : goal.returns-in-34
unfolding order_of shapes
returns-in-34 c = rw (c.in-34.is, c.on_number-in-34.ensures)

pub returns-in-35 : goal.returns-in-35
unfolding order_of shapes
returns-in-35 c = rw (c.in-35.is, c.on_number-in-35.ensures)

pub returns-in-36 : goal.returns-in-36
unfolding order_of shapes
returns-in-36 c = rw c.in-36.is (search rules)

pub returns-in-37 : goal.returns-in-37
unfolding order_of shapes
returns-in-37 c = rw c.in-37.is (search rules)

pub returns-in_default : goal.returns-in_default
unfolding order_of shapes
returns-in_default c = rw (sym (no_order c.args.number c.args.v (omega arith)), c.end_with-in_default.ensures)
