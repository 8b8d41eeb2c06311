use Rattle.std.proofs.Common.{sym, ◌∙◌}
use Rattle.fixp_shake.specs.Phases.{is_established}
use Rattle.fixp_replies.specs.Facts.{around_of}
use Rattle.fixp_replies.specs.Outcomes.{not_in_phase}
use Rattle.fixp_replies.specs.Flowing.{application_rows}
use Rattle.fixp_replies.proofs.Conditions.{within_holds}
use Rattle.fixp_replies.proofs.flowing.on_application.Goals as goal

pub returns-then-is_established-clause-reply : goal.returns-then-is_established-clause-reply
returns-then-is_established-clause-reply c payload =
    let x = around_of c.args.around.now in
    let f = c.args.facts.now in
    c.take_application.ensures.reply
    ∙ within_holds (is_established f.connection.phase) (not_in_phase x f 0) (application_rows x f)
    (sym c.is_established.ensures ∙ c.if-is_established.true)
