use Rattle.conn_feed.specs.declared.end.FeedEnd.TheVariants as ends
use Rattle.conn_feed.proofs.Feeders.{ends_after, stopped_at}
use Rattle.conn_feed.proofs.feeder.Feeder.let_in.Goals as goal

pub returns-else-before-clause-over : goal.returns-else-before-clause-over
returns-else-before-clause-over g c =
    let m = c.flush.new.self in
    ends_after g.K.Sink.taken c.args.self.now m m ends.Stopped c.in_ok-flush.ensures.goes (stopped_at g.K.Sink.taken m)
