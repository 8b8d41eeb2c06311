use Rattle.std.specs.Prelude.{IsSome}
use Rattle.cases_codec.proofs.datagrams.receiving.add_messages.Given as goal

abbrev pub invariant-loop : goal.invariant-loop
invariant-loop l = IsSome l.receiver.counting
