-- The frame at the front goes behind those of the split.
use Rattle.sofh_frame.proofs.ReadLemmas.{IsRead-push}
use Rattle.sofh_frame.proofs.pieces.take_frame.Goals as goal

pub returns-in_ok-push-in-Frame-clause-read : goal.returns-in_ok-push-in-Frame-clause-read
returns-in_ok-push-in-Frame-clause-read c = λ bytes read.
    IsRead-push bytes c.args.split.now c.push.new.self c.args.framer.now.held c.drop_front.new.self.held _ c.in-Frame.size c.in_ok-push-in-Frame.ensures.frames c.in_ok-push-in-Frame.ensures.at c.drop_front.ensures.held c.in-Frame.ensures.found read
