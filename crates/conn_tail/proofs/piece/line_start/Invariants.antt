use Rattle.std.proofs.Common.{◌≡◌, ℕ, ◌<◌, ◌≤◌, get_or}
use Rattle.std.specs.Option.{ForSome}
use Rattle.conn_tail.specs.Places.{StandsAt}
use Rattle.conn_tail.proofs.piece.line_start.Given as goal

abbrev pub invariant-loop-start : goal.invariant-loop-start
invariant-loop-start g l = record {
  within : l.start ≤ l.end;
  feedless : ForSome (g.A.Sink.taken l.out) (λ content. (k : ℕ) → l.start ≤ k → k < l.end → get_or content k 0 ≡ 10 → ⊥);
  stands : ForSome (g.A.Sink.taken l.out) (λ content. StandsAt content l.piece l.part.at l.part.size);
  most : l.part.size ≤ 65536;
  content : g.A.Sink.taken l.out ≡ g.A.Sink.taken l.fn.out;
  counted : g.A.Sink.faults l.fn.out ≤ g.A.Sink.faults l.out;
}

abbrev pub decreases-loop-start : goal.decreases-loop-start
decreases-loop-start g l = l.start
