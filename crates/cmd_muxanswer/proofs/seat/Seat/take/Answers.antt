use Rattle.std.proofs.Common.{not, sym, ap, subst, ◌∙◌}
use Rattle.std.specs.Prelude.{is_some}
use Rattle.sofh_frame.specs.Framing.{Frame}
use Rattle.fixp_machine.specs.Machine.{State}
use Rattle.cmd_answer.specs.Progress.{AnswersOne}
use Rattle.cmd_muxanswer.proofs.Seating.{behind_frame}
use Rattle.cmd_muxanswer.proofs.seat.Seat.take.Goals as goal

pub returns-then-is_none : goal.returns-then-is_none
returns-then-is_none c =
    let f : Frame = record { order = c.args.order; message = c.args.message.now } in
    let end : State = c.answer_frame.new.end in
    record {
      room = _;
      one = subst (λ (s : State). AnswersOne s end c.args.line.now.items c.answer_frame.new.lines.items f c.args.self.now.at) c.in_ok-reserve.ensures.ok c.in_ok-answer_frame.ensures.answered;
      at = c.saturating_add-self.ensures ∙ behind_frame f c.args.self.now.at end.ending (sym (ap is_some c.ending.ensures) ∙ c.is_none.ensures ∙ ap not c.if-is_none.true);
    }
