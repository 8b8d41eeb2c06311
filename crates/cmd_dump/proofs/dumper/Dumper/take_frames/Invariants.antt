use Rattle.std.proofs.Common.{length}
use Rattle.cmd_dump.specs.Progress.{Keeps}
use Rattle.cmd_dump.proofs.dumper.Dumper.take_frames.Given as goal

abbrev pub invariant-loop : goal.invariant-loop
invariant-loop l = Keeps l.plan l.fn.self l.self

abbrev pub decreases-loop : goal.decreases-loop
decreases-loop l = length l.self.framer.held
