use Rattle.std.proofs.Common.{ap, ◌∙◌}
use Rattle.std.specs.Prelude.{drop, take}
use Rattle.std.proofs.lemmas.Bool.{false≢true}
use Rattle.std.proofs.lemmas.List.Elements.{recursion_from_All}
use Rattle.fixp_msgs.specs.Payload.{IsApplication}
use Rattle.plan_values.proofs.Adding.{no_other}
use Rattle.plan_values.proofs.plan.Plan.piece.Goals as goal

pub unreachable-requires : goal.unreachable-requires
unreachable-requires c =
    no_other c.args.done c.args.count c.args.self.now.payloads c.split_at-2.result.0.now
    (c.split_at-2.ensures.front ∙ ap (take c.args.count) (c.split_at.ensures.back ∙ ap (drop c.args.done) c.as_slice.ensures))
    c.args.self.now.applications (λ all. cc (c.if-not-are_applications.true, c.are_applications.ensures.exact.1 all))

pub returns-clause-applications : goal.returns-clause-applications
returns-clause-applications c = recursion_from_All IsApplication c.split_at-2.result.0.now (c.are_applications.ensures.exact.0 c.if-not-are_applications.false)
