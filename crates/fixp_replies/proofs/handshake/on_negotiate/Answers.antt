use Rattle.std.proofs.Common.{sym, ◌∙◌}
use Rattle.fixp_replies.specs.Facts.{around_of}
use Rattle.fixp_replies.specs.Outcomes.{not_in_phase}
use Rattle.fixp_replies.specs.Handshake.{awaits_client, negotiate_rows}
use Rattle.fixp_replies.proofs.Conditions.{within_holds}
use Rattle.fixp_replies.proofs.handshake.on_negotiate.Goals as goal

pub returns-then-awaits_client-clause-reply : goal.returns-then-awaits_client-clause-reply
returns-then-awaits_client-clause-reply c =
    let x = around_of c.args.around.now in
    let f = c.args.facts.now in
    let m = c.args.m.now in
    c.judge_negotiate.ensures.reply
    ∙ within_holds (awaits_client x f) (not_in_phase x f 1) (negotiate_rows x f m.session_id m.timestamp m.client_flow m.credentials.now)
    (sym c.awaits_client.ensures ∙ c.if-awaits_client.true)
