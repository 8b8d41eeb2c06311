use Rattle.std.proofs.Common.{ap}
use Rattle.conn_feed.specs.Course.{point_of}
use Rattle.conn_fed.proofs.feeding.feed_all.Goals as goal

pub returns-clause-fed : goal.returns-clause-fed
returns-clause-fed g c = record {
  fed = point_of g.A.Sink.taken c.tell_and_feed-end.new.feeder;
  from = c.tell_and_feed-end.ensures.fed;
  marked = c.mark-refused.ensures.marked;
  taken = ap g.A.Sink.taken c.mark-refused.ensures.accepted;
}
