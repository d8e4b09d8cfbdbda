use Rattle.std.proofs.Common.{refl, ◌∙◌}
use Rattle.order.specs.Memory.{order_of, shapes}
use Rattle.machine.specs.Machine.{send}
use Rattle.machine_step.proofs.Orders.{fault_met, none_met, fault_answered, fault_full}
use Rattle.machine_step.proofs.fault_ahead.Goals as goal

pub returns-in-1 : goal.returns-in-1
unfolding order_of shapes send
returns-in-1 c =
    let a = c.args in
    fault_met a.orders.now a.r a.words.now a.output.now _ _ c.at-w.ensures
    (rw c.in-1.is
    (c.full.ensures ∙ fault_full _ _))

pub returns-in-16 : goal.returns-in-16
unfolding order_of shapes
returns-in-16 c =
    let a = c.args in
    fault_met a.orders.now a.r a.words.now a.output.now _ _ c.at-w.ensures
    (rw c.in-16.is
    (fault_answered _ _ _ _ c.fault_of.ensures (rw c.at.ensures at c.div.ensures)))

pub returns-in-17 : goal.returns-in-17
unfolding order_of shapes
returns-in-17 c =
    let a = c.args in
    fault_met a.orders.now a.r a.words.now a.output.now _ _ c.at-w.ensures
    (rw c.in-17.is
    (fault_answered _ _ _ _ c.fault_of-in-17.ensures (rw c.at-in-17.ensures at c.pow.ensures)))

pub returns-in-18 : goal.returns-in-18
unfolding order_of shapes
returns-in-18 c =
    let a = c.args in
    fault_met a.orders.now a.r a.words.now a.output.now _ _ c.at-w.ensures
    (rw c.in-18.is
    (fault_answered _ _ _ _ c.fault_of-in-18.ensures (rw c.at-in-18.ensures at c.shl.ensures)))

pub returns-in-19 : goal.returns-in-19
unfolding order_of shapes
returns-in-19 c =
    let a = c.args in
    fault_met a.orders.now a.r a.words.now a.output.now _ _ c.at-w.ensures
    (rw c.in-19.is
    (fault_answered _ _ _ _ c.fault_of-in-19.ensures (rw c.at-in-19.ensures at c.shr.ensures)))

pub returns-in-28 : goal.returns-in-28
unfolding order_of shapes
returns-in-28 c =
    let a = c.args in
    fault_met a.orders.now a.r a.words.now a.output.now _ _ c.at-w.ensures
    (rw c.in-28.is
    (fault_answered _ _ _ _ c.fault_of-in-28.ensures c.div-in-28.ensures))

pub returns-in-29 : goal.returns-in-29
unfolding order_of shapes
returns-in-29 c =
    let a = c.args in
    fault_met a.orders.now a.r a.words.now a.output.now _ _ c.at-w.ensures
    (rw c.in-29.is
    (fault_answered _ _ _ _ c.fault_of-in-29.ensures c.pow-in-29.ensures))

pub returns-in-30 : goal.returns-in-30
unfolding order_of shapes
returns-in-30 c =
    let a = c.args in
    fault_met a.orders.now a.r a.words.now a.output.now _ _ c.at-w.ensures
    (rw c.in-30.is
    (fault_answered _ _ _ _ c.fault_of-in-30.ensures c.shl-in-30.ensures))

pub returns-in-31 : goal.returns-in-31
unfolding order_of shapes
returns-in-31 c =
    let a = c.args in
    fault_met a.orders.now a.r a.words.now a.output.now _ _ c.at-w.ensures
    (rw c.in-31.is
    (fault_answered _ _ _ _ c.fault_of-in-31.ensures c.shr-in-31.ensures))

pub returns-in_default : goal.returns-in_default
unfolding shapes
returns-in_default c =
    let a = c.args in
    none_met a.orders.now a.r a.words.now a.output.now _ _ c.at-w.ensures (search) refl
