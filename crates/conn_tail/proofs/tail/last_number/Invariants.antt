use Rattle.std.proofs.Common.{◌≡◌, ◌≤◌}
use Rattle.std.specs.Option.{ForSome}
use Rattle.conn_tail.specs.Places.{Passed, StandsAt}
use Rattle.conn_tail.proofs.tail.last_number.Given as goal

abbrev pub invariant-loop-end : goal.invariant-loop-end
invariant-loop-end g l = record {
  within : l.end ≤ l.whole;
  passed : ForSome (g.A.Sink.taken l.out) (λ content. Passed content l.end l.whole);
  stands : ForSome (g.A.Sink.taken l.out) (λ content. StandsAt content l.piece l.part.at l.part.size);
  most : l.part.size ≤ 65536;
  content : g.A.Sink.taken l.out ≡ g.A.Sink.taken l.fn.out;
  counted : g.A.Sink.faults l.fn.out ≤ g.A.Sink.faults l.out;
}

abbrev pub decreases-loop-end : goal.decreases-loop-end
decreases-loop-end g l = l.end
