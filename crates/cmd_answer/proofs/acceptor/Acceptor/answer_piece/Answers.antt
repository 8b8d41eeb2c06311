use Rattle.std.proofs.Common.{refl}
use Rattle.cmd_answer.proofs.Rounds.{broke-off}
use Rattle.cmd_answer.proofs.acceptor.Acceptor.answer_piece.Goals as goal

pub returns-in-Broken-clause-answered : goal.returns-in-Broken-clause-answered
returns-in-Broken-clause-answered c = λ cfg read wire out stands.
    let left = rw c.in-Broken.is at c.in_ok-step.ensures.left in
    broke-off cfg read wire out c.take_frames.new.self
    (record { end = c.on_bad_frame.new.self; framer = c.take_frames.new.self.framer; lines = c.take_frames.new.self.lines; place = c.take_frames.new.self.place })
    (c.in_ok-step.ensures.stands cfg read wire out stands) left.1 left.0.going c.on_bad_frame.ensures.reply refl refl refl
