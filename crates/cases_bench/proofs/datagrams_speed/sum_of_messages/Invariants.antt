use Rattle.std.specs.Prelude.{IsSome, length}
use Rattle.cases_bench.proofs.datagrams_speed.sum_of_messages.Given as goal

abbrev pub invariant-loop-payload : goal.invariant-loop-payload
invariant-loop-payload l = IsSome l.receiver.counting

abbrev pub decreases-loop-payload : goal.decreases-loop-payload
decreases-loop-payload l = length l.datagram.payloads
