use Rattle.std.proofs.Common.{length}
use Rattle.cmd_codec.specs.Decoding.{Keeps}
use Rattle.cmd_codec.proofs.decoder.Decoder.take_frames.Given as goal

abbrev pub invariant-loop : goal.invariant-loop
invariant-loop l = Keeps l.shown l.plan l.fn.self l.self

abbrev pub decreases-loop : goal.decreases-loop
decreases-loop l = length l.self.framer.held
