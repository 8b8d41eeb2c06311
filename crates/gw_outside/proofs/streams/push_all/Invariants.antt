use Rattle.std.proofs.Common.{◌≡◌, length}
use Rattle.gw_outside.proofs.Pushing.{Pushed}
use Rattle.gw_outside.proofs.streams.push_all.Given as goal

abbrev pub invariant-loop-rest : goal.invariant-loop-rest
invariant-loop-rest g l = record {
  pushed : Pushed (g.K.Sink.taken l.fn.sink) (g.K.Sink.taken l.sink) l.bytes l.rest;
  counted : g.K.Sink.faults l.sink ≡ g.K.Sink.faults l.fn.sink;
}

abbrev pub decreases-loop-rest : goal.decreases-loop-rest
decreases-loop-rest g l = length l.rest
