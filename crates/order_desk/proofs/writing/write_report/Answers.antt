use Rattle.std.proofs.Common.{ap, Err}
use Rattle.order_desk.proofs.Written.{application_by, bytes_are, no_fault}
use Rattle.order_desk.proofs.writing.write_report.Goals as goal

pub unreachable-requires : goal.unreachable-requires
unreachable-requires c =
    let f = c.in-Err-Fault.field-0-0 in
    no_fault c.args.plan.now c.args.report.now c.in_ok-message.message f c.requires.plan c.requires.range c.in_ok-message.ensures
    (c.in-Err-Fault.ensures.fault f (ap (λ e. Err e) c.in-Err-Fault.field-0-is))

pub returns-in-Ok-clause-application : goal.returns-in-Ok-clause-application
returns-in-Ok-clause-application c =
    application_by c.args.plan.now c.args.report.now _ c.requires.plan
    (bytes_are c.args.plan.now c.args.report.now c.in_ok-message.message c.in_ok-payload.payload _ c.in-Ok.ensures.ok c.in_ok-payload.ensures c.in_ok-message.ensures)
