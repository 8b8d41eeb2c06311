use Rattle.std.proofs.Common.{◌≡◌, ◌≤◌, ℕ, List, length}
use Rattle.conn_feed.specs.Course.{IsSound, StandsSo, Reads}
use Rattle.conn_feed.proofs.feeder.Feeder.take_read.Given as goal

abbrev pub invariant-loop-found : goal.invariant-loop-found
invariant-loop-found g l = record {
  sound : IsSound l.fn.gate l.self;
  long : length l.self.senders.items ≡ length l.fn.self.senders.items;
  goes : (start : _) (read : List ℕ) → Reads read l.fn.reader (StandsSo g.K.Sink.taken start l.fn.self) → Reads read l.reader (StandsSo g.K.Sink.taken start l.self);
  counted : g.K.Sink.faults l.fn.self.accepted ≤ g.K.Sink.faults l.self.accepted;
}

abbrev pub decreases-loop-found : goal.decreases-loop-found
decreases-loop-found g l = length l.reader.waiting
