use Rattle.std.proofs.Common.{sym, ◌∙◌}
use Rattle.fixp_replies.specs.Facts.{around_of}
use Rattle.fixp_replies.specs.Outcomes.{not_in_phase}
use Rattle.fixp_replies.specs.Handshake.{awaits_client, serves_client, establish_rows, established_again_rows}
use Rattle.fixp_replies.proofs.Conditions.{first_of_two, second_of_two}
use Rattle.fixp_replies.proofs.handshake.on_establish.Goals as goal

pub returns-then-awaits_client-clause-reply : goal.returns-then-awaits_client-clause-reply
returns-then-awaits_client-clause-reply c =
    let x = around_of c.args.around.now in
    let f = c.args.facts.now in
    let m = c.args.m.now in
    c.judge_establish.ensures.reply
    ∙ first_of_two (awaits_client x f) (serves_client x f) (not_in_phase x f 4)
    (establish_rows x f m.session_id m.timestamp m.keepalive m.next_seq m.expected_next m.credentials.now) (established_again_rows x f m.session_id m.timestamp)
    (sym c.awaits_client.ensures ∙ c.if-awaits_client.true)

pub returns-then-serves_client-clause-reply : goal.returns-then-serves_client-clause-reply
returns-then-serves_client-clause-reply c =
    let x = around_of c.args.around.now in
    let f = c.args.facts.now in
    let m = c.args.m.now in
    c.reject_again.ensures.reply
    ∙ second_of_two (awaits_client x f) (serves_client x f) (not_in_phase x f 4)
    (establish_rows x f m.session_id m.timestamp m.keepalive m.next_seq m.expected_next m.credentials.now) (established_again_rows x f m.session_id m.timestamp)
    (sym c.awaits_client.ensures ∙ c.if-awaits_client.false) (sym c.serves_client.ensures ∙ c.if-serves_client.true)
