use Rattle.std.proofs.Common.{sym, ap, ◌∙◌}
use Rattle.fixp_shake.specs.Phases.{is_establishing}
use Rattle.fixp_replies.specs.Facts.{around_of}
use Rattle.fixp_replies.specs.Replies.{misplaced}
use Rattle.fixp_replies.specs.Handshake.{establishment_ack_rows}
use Rattle.fixp_replies.proofs.Conditions.{guarded}
use Rattle.fixp_replies.proofs.handshake.on_establishment_ack.Goals as goal

pub returns-in-Some-clause-reply : goal.returns-in-Some-clause-reply
returns-in-Some-clause-reply c =
    let x = around_of c.args.around.now in
    let f = c.args.facts.now in
    let m = c.args.m.now in
    c.breaks.ensures.reply ∙ guarded x f 5 m.session_id (is_establishing f.connection.phase) c.in-Some.violation (establishment_ack_rows x f m.keepalive m.next_seq m.expected_next)
    (ap (λ b. misplaced x f 5 m.session_id b) (sym c.is_establishing-awaited.ensures) ∙ (sym c.out_of_place.ensures ∙ c.in-Some.is))
