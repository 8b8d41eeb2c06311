-- Each arm hands on what the reader of its template found.
use Rattle.std.proofs.Common.{true, false, refl, sym, ◌∙◌}
use Rattle.fixp_msgs.specs.Header.{version_in}
use Rattle.fixp_msgs.specs.Table.{established_block}
use Rattle.fixp_msgs.proofs.Rows.{answers-ok_or, establish-shape, ack-shape}
use Rattle.fixp_msgs.proofs.reading.by_template.Goals as goal

pub returns-in-1 : goal.returns-in-1
returns-in-1 c = rw c.ok_or.ensures.value (answers-ok_or c.args.message.now 1 25 true c.negotiate.result (sym c.u16_at.ensures ∙ c.in-1.is) c.requires.session refl refl c.negotiate.ensures)

pub returns-in-2 : goal.returns-in-2
returns-in-2 c = rw c.ok_or-in-2.ensures.value (answers-ok_or c.args.message.now 2 25 true c.negotiation_response.result (sym c.u16_at.ensures ∙ c.in-2.is) c.requires.session refl refl c.negotiation_response.ensures)

pub returns-in-3 : goal.returns-in-3
returns-in-3 c = rw c.ok_or-in-3.ensures.value (answers-ok_or c.args.message.now 3 25 true c.negotiation_reject.result (sym c.u16_at.ensures ∙ c.in-3.is) c.requires.session refl refl c.negotiation_reject.ensures)

pub returns-in-4 : goal.returns-in-4
returns-in-4 c =
    rw c.ok_or-in-4.ensures.value (answers-ok_or c.args.message.now 4 (established_block (version_in c.args.message.now)) true c.establish.result (sym c.u16_at.ensures ∙ c.in-4.is) c.requires.session
    refl (establish-shape (version_in c.args.message.now)) c.establish.ensures)

pub returns-in-5 : goal.returns-in-5
returns-in-5 c =
    rw c.ok_or-in-5.ensures.value (answers-ok_or c.args.message.now 5 (established_block (version_in c.args.message.now)) false c.establishment_ack.result (sym c.u16_at.ensures ∙ c.in-5.is) c.requires.session
    refl (ack-shape (version_in c.args.message.now)) c.establishment_ack.ensures)

pub returns-in-6 : goal.returns-in-6
returns-in-6 c = rw c.ok_or-in-6.ensures.value (answers-ok_or c.args.message.now 6 25 true c.establishment_reject.result (sym c.u16_at.ensures ∙ c.in-6.is) c.requires.session refl refl c.establishment_reject.ensures)

pub returns-in-7 : goal.returns-in-7
returns-in-7 c = rw c.ok_or-in-7.ensures.value (answers-ok_or c.args.message.now 7 8 false c.sequence.result (sym c.u16_at.ensures ∙ c.in-7.is) c.requires.session refl refl c.sequence.ensures)

pub returns-in-8 : goal.returns-in-8
returns-in-8 c = rw c.ok_or-in-8.ensures.value (answers-ok_or c.args.message.now 8 0 false c.unsequenced_heartbeat.result (sym c.u16_at.ensures ∙ c.in-8.is) c.requires.session refl refl c.unsequenced_heartbeat.ensures)

pub returns-in-9 : goal.returns-in-9
returns-in-9 c = rw c.ok_or-in-9.ensures.value (answers-ok_or c.args.message.now 9 36 false c.retransmit_request.result (sym c.u16_at.ensures ∙ c.in-9.is) c.requires.session refl refl c.retransmit_request.ensures)

pub returns-in-10 : goal.returns-in-10
returns-in-10 c = rw c.ok_or-in-10.ensures.value (answers-ok_or c.args.message.now 10 36 false c.retransmission.result (sym c.u16_at.ensures ∙ c.in-10.is) c.requires.session refl refl c.retransmission.ensures)

pub returns-in-11 : goal.returns-in-11
returns-in-11 c = rw c.ok_or-in-11.ensures.value (answers-ok_or c.args.message.now 11 25 true c.retransmit_reject.result (sym c.u16_at.ensures ∙ c.in-11.is) c.requires.session refl refl c.retransmit_reject.ensures)

pub returns-in-12 : goal.returns-in-12
returns-in-12 c = rw c.ok_or-in-12.ensures.value (answers-ok_or c.args.message.now 12 12 false c.applied.result (sym c.u16_at.ensures ∙ c.in-12.is) c.requires.session refl refl c.applied.ensures)

pub returns-in-13 : goal.returns-in-13
returns-in-13 c = rw c.ok_or-in-13.ensures.value (answers-ok_or c.args.message.now 13 12 false c.not_applied.result (sym c.u16_at.ensures ∙ c.in-13.is) c.requires.session refl refl c.not_applied.ensures)

pub returns-in-14 : goal.returns-in-14
returns-in-14 c = rw c.ok_or-in-14.ensures.value (answers-ok_or c.args.message.now 14 24 false c.finished_sending.result (sym c.u16_at.ensures ∙ c.in-14.is) c.requires.session refl refl c.finished_sending.ensures)

pub returns-in-15 : goal.returns-in-15
returns-in-15 c = rw c.ok_or-in-15.ensures.value (answers-ok_or c.args.message.now 15 16 false c.finished_receiving.result (sym c.u16_at.ensures ∙ c.in-15.is) c.requires.session refl refl c.finished_receiving.ensures)

pub returns-in-16 : goal.returns-in-16
returns-in-16 c = rw c.ok_or-in-16.ensures.value (answers-ok_or c.args.message.now 16 17 true c.terminate.result (sym c.u16_at.ensures ∙ c.in-16.is) c.requires.session refl refl c.terminate.ensures)
