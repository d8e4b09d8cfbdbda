use Rattle.std.proofs.Common.{◌+◌, ◌-◌, ◌*◌, ◌∙◌, arith}
use Rattle.base.proofs.Cases.{cases}
use Rattle.machine_effect.specs.Internal.{sent_to}
use Rattle.machine_effect.proofs.Sending.{four_bytes}
use Rattle.machine_effect.proofs.send.Goals as goal

pub returns-then-sent-output : goal.returns-then-sent-output
unfolding sent_to
returns-then-sent-output c =
    let start = 4 * c.args.r.sent in
    let written = c.copy_from_slice.ensures.after ∙ c.to_be_bytes.ensures in
    λ ws.
    rw
    (four_bytes c.args.output.now start (start + 4 - start) c.args.r.acc _ written (omega (arith, c.well_formed.1.1.0)) (omega arith) (omega arith))
    (search cases depth 16)

pub returns : goal.returns
unfolding sent_to
returns c = λ ws. search cases depth 16
