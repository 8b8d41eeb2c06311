use Rattle.std.proofs.Common.{sym, ap, ◌∙◌}
use Rattle.fixp_shake.specs.Phases.{is_established}
use Rattle.fixp_replies.specs.Facts.{around_of}
use Rattle.fixp_replies.specs.Replies.{misplaced}
use Rattle.fixp_replies.specs.Flowing.{finished_sending_rows}
use Rattle.fixp_replies.proofs.Conditions.{guarded}
use Rattle.fixp_replies.proofs.flowing.on_finished_sending.Goals as goal

pub returns-in-Some-clause-reply : goal.returns-in-Some-clause-reply
returns-in-Some-clause-reply c =
    let x = around_of c.args.around.now in
    let f = c.args.facts.now in
    let m = c.args.m.now in
    c.breaks.ensures.reply ∙ guarded x f 14 m.session_id (is_established f.connection.phase) c.in-Some.violation (finished_sending_rows x f m.last_seq)
    (ap (λ b. misplaced x f 14 m.session_id b) (sym c.is_established-awaited.ensures) ∙ (sym c.out_of_place.ensures ∙ c.in-Some.is))
