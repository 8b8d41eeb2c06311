use Rattle.std.proofs.Common.{ℕ, ◌+◌, ◌-◌, ◌^◌, min, refl, sym, ap, ◌∙◌}
use Rattle.sofh_frame.specs.Framing.{Frame, BeginsWith}
use Rattle.sofh_frame.proofs.SplitLemmas.{length-spelled}
use Rattle.cmd_answer.proofs.Steps.{stands-frame}
use Rattle.cmd_answer.proofs.acceptor.Acceptor.take_frame.Goals as goal
use Rattle.cmd_answer.proofs.acceptor.Acceptor.take_frame.Goals.{In-Frame}

-- the frame that was found
found : In-Frame → Frame
found c = record { order = c.in-Frame.order; message = c.in-Frame.message.now }

begins : (c : In-Frame) → BeginsWith c.args.self.now.framer.held (found c) c.in-Frame.size
unfolding found
begins c = c.in-Frame.ensures.found

pub returns-in-Some-clause-stands : goal.returns-in-Some-clause-stands
unfolding found
returns-in-Some-clause-stands c = λ cfg read wire out stands.
    stands-frame cfg read wire out c.args.self.now c.answer_frame.new.end c.drop_front.new.self c.answer_frame.new.lines c.args.self.now.place
    (found (goal.at.returns-in-Some-clause-stands c).In-Frame) c.in-Frame.size c.in_ok-answer_frame-in-Frame.ensures.answered (begins (goal.at.returns-in-Some-clause-stands c).In-Frame) c.drop_front.ensures.held
    c.requires.open.going (rw (← c.in-Some.ensures) refl) stands

pub returns-in-None-clause-stands : goal.returns-in-None-clause-stands
unfolding found
returns-in-None-clause-stands c = λ cfg read wire out stands.
    let size = (begins (goal.at.returns-in-None-clause-stands c).In-Frame).counts ∙ sym (length-spelled (found (goal.at.returns-in-None-clause-stands c).In-Frame)) in
    stands-frame cfg read wire out c.args.self.now c.answer_frame.new.end c.drop_front.new.self c.answer_frame.new.lines c.saturating_add-self.result
    (found (goal.at.returns-in-None-clause-stands c).In-Frame) c.in-Frame.size c.in_ok-answer_frame-in-Frame.ensures.answered (begins (goal.at.returns-in-None-clause-stands c).In-Frame) c.drop_front.ensures.held
    c.requires.open.going (rw (← c.in-None.ensures) (c.saturating_add-self.ensures ∙ ap (λ (n : ℕ). min (c.args.self.now.place + n) (2 ^ 64 - 1)) size)) stands
