use Rattle.std.proofs.Common.{refl, sym}
use Rattle.sofh_frame.specs.Framing.{Frame, BeginsWith}
use Rattle.cmd_muxanswer.proofs.Rounds.{stands_more, stands_stopped, stands_bad_length, stands_bad_encoding}
use Rattle.cmd_muxanswer.proofs.conversation.Conversation.take_frame.Goals as goal
use Rattle.cmd_muxanswer.proofs.conversation.Conversation.take_frame.Goals.{In-Frame}

-- the frame that was found
found : In-Frame → Frame
found c = record { order = c.in-Frame.order; message = c.in-Frame.message.now }

begins : (c : In-Frame) → BeginsWith c.args.self.now.framer.held (found c) c.in-Frame.size
unfolding found
begins c = c.in-Frame.ensures.found

pub returns-in-Some-clause-leaves : goal.returns-in-Some-clause-leaves
unfolding found
returns-in-Some-clause-leaves c = λ sessions read wire out x.
    let routed = c.in_ok-why-in-Frame.ensures.routed sessions x.frames wire out x.holds in
    stands_stopped sessions read wire out c.args.self.now _ (found (goal.at.returns-in-Some-clause-leaves c).In-Frame) c.in-Frame.size c.in-Some.why x
    (sym c.in-Frame.ensures.exact) refl refl (rw c.in-Some.is at routed)

pub returns-in-None-clause-leaves : goal.returns-in-None-clause-leaves
unfolding found
returns-in-None-clause-leaves c = λ sessions read wire out x.
    let routed = c.in_ok-why-in-Frame.ensures.routed sessions x.frames wire out x.holds in
    stands_more sessions read wire out c.args.self.now _ (found (goal.at.returns-in-None-clause-leaves c).In-Frame) c.in-Frame.size x
    (begins (goal.at.returns-in-None-clause-leaves c).In-Frame) (rw c.in-None.is at routed) c.drop_front.ensures.held c.saturating_add-self.ensures

pub returns-in-BadLength-clause-leaves : goal.returns-in-BadLength-clause-leaves
returns-in-BadLength-clause-leaves c = λ sessions read wire out x. stands_bad_length sessions read wire out c.args.self.now _ x (sym c.in-BadLength.ensures.exact)

pub returns-in-BadEncoding-clause-leaves : goal.returns-in-BadEncoding-clause-leaves
returns-in-BadEncoding-clause-leaves c = λ sessions read wire out x. stands_bad_encoding sessions read wire out c.args.self.now _ x (sym c.in-BadEncoding.ensures.exact)
