use Rattle.std.proofs.Common.{refl}
use Rattle.conn_turns.specs.News.{items_of}
use Rattle.conn_steps.specs.Ends.{intake}
use Rattle.conn_steps.proofs.Following.{took, was_refused}
use Rattle.conn_loop.specs.Conn.{line_of, gathered_by}
use Rattle.conn_loop.proofs.conn.Conn.take_frame.Goals as goal

pub returns-in-Err-clause-refused : goal.returns-in-Err-clause-refused
returns-in-Err-clause-refused g c =
    was_refused c.args.now c.in-Frame.size (line_of c.args.self.now) _ (record { order = c.in-Frame.order; message = c.in-Frame.message.now })
    (intake c.args.inbox.now (items_of c.args.news.now) (gathered_by c.args.self.now)) (intake c.answer_frame.new.inbox (items_of c.answer_frame.new.news) _) c.in-Err.fault
    c.requires.may c.in-Frame.ensures.found c.in-Err.ensures.refused

pub returns-clause-took : goal.returns-clause-took
returns-clause-took g c = λ _.
    took c.args.now c.in-Frame.size (line_of c.args.self.now) _ (record { order = c.in-Frame.order; message = c.in-Frame.message.now })
    (intake c.args.inbox.now (items_of c.args.news.now) (gathered_by c.args.self.now)) (intake c.answer_frame.new.inbox (items_of c.answer_frame.new.news) _)
    c.requires.may c.in-Frame.ensures.found c.in_default-answer_frame.ensures.answered c.drop_front.ensures.held refl refl refl refl refl

pub returns-clause-in_turn : goal.returns-clause-in_turn
returns-clause-in_turn g c = λ frames bytes before _. c.in_default-answer_frame.ensures.in_turn frames bytes before
