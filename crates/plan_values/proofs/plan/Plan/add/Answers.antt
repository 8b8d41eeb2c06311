use Rattle.std.proofs.Common.{subst}
use Rattle.fixp_msgs.specs.Payload.{IsApplication}
use Rattle.plan_values.proofs.Adding.{all_added}
use Rattle.plan_values.proofs.plan.Plan.add.Goals as goal

pub invariant_of-self : goal.invariant_of-self
invariant_of-self c = record {
  applications = all_added c.push.result c.args.self.now.payloads c.push.new.self c.args.payload c.push.ensures.ok c.push.ensures.err
      (subst IsApplication c.as_slice.ensures (c.is_application.ensures.exact.0 c.if-not-is_application.false)) c.args.self.now.applications;
}
