use Rattle.std.specs.List.{AllByRecursion}
use Rattle.fixp_msgs.specs.Payload.{IsApplication}
use Rattle.cases_bench.proofs.datagrams_speed.messages.Given as goal

abbrev pub invariant-loop-k : goal.invariant-loop-k
invariant-loop-k l = AllByRecursion IsApplication l.payloads.items
