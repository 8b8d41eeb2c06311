use Rattle.conn_turns.specs.News.{items_of}
use Rattle.conn_steps.specs.Ends.{intake, gathering_end, taking_end}
use Rattle.conn_steps.proofs.Cutting.{cut_waiting}
use Rattle.conn_steps.proofs.Following.{all_stable}
use Rattle.conn_loop.specs.Conn.{line_of, gathered_by}
use Rattle.conn_loop.proofs.Gathering.{agrees_stable}
use Rattle.conn_loop.proofs.conn.Conn.take_frames.Goals as goal

pub returns-in-Err-make_stable-clause-cut : goal.returns-in-Err-make_stable-clause-cut
returns-in-Err-make_stable-clause-cut g c =
    let r = c.in-Err-make_stable.ensures.refused in
    cut_waiting c.args.now c.in-Ok.taken (taking_end (line_of c.args.self.now) c.args.inbox.now (items_of c.args.news.now))
    (gathering_end (line_of c.gather_frames.new.self) (intake c.gather_frames.new.inbox (items_of c.gather_frames.new.news) (gathered_by c.gather_frames.new.self))) _
    c.make_stable.new.inbox (items_of c.make_stable.new.news) r.cause c.in-Err-make_stable.fault c.in-Ok.ensures.last.1 c.in-Ok.ensures.gathered r.caused r.some

pub returns-clause-took : goal.returns-clause-took
returns-clause-took g c =
    all_stable c.args.now c.in-Ok.taken (taking_end (line_of c.args.self.now) c.args.inbox.now (items_of c.args.news.now))
    (gathering_end (line_of c.gather_frames.new.self) (intake c.gather_frames.new.inbox (items_of c.gather_frames.new.news) (gathered_by c.gather_frames.new.self)))
    c.make_stable.new.inbox (items_of c.make_stable.new.news) c.in-Ok.ensures.gathered c.in_default.ensures.ok

pub returns-clause-agrees : goal.returns-clause-agrees
returns-clause-agrees g c =
    agrees_stable c.gather_frames.new.self.end c.gather_frames.new.inbox c.make_stable.new.inbox (items_of c.gather_frames.new.news) (items_of c.make_stable.new.news) (gathered_by c.gather_frames.new.self)
    c.in-Ok.ensures.agrees c.make_stable.ensures.kind c.in_default.ensures.ok
