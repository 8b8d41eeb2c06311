use Rattle.std.proofs.Common.{◌≡◌, ◌≤◌, [], length}
use Rattle.conn_feed.specs.Course.{IsSound, StandsSo, ReadsOn, point_of}
use Rattle.conn_feed.proofs.feeder.Feeder.feed_from.Given as goal

abbrev pub invariant-loop : goal.invariant-loop
invariant-loop g l = record {
  sound : IsSound l.fn.gate l.self;
  long : length l.self.senders.items ≡ length l.fn.self.senders.items;
  waiting : l.reader.waiting ≡ [];
  reads : ReadsOn (g.S.Source.left l.fn.input) (g.S.Source.left l.input) [] l.reader (StandsSo g.K.Sink.taken (point_of g.K.Sink.taken l.fn.self) l.self);
  counted : g.K.Sink.faults l.fn.self.accepted ≤ g.K.Sink.faults l.self.accepted;
  input_counted : g.S.Source.faults l.fn.input ≤ g.S.Source.faults l.input;
}
