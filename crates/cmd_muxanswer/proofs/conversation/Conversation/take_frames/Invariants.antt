use Rattle.std.proofs.Common.{ℕ, List, length}
use Rattle.cmd_config.specs.declared.settings.Settings.{Settings}
use Rattle.cmd_muxanswer.specs.Progress.{IsOpen, Stands}
use Rattle.cmd_muxanswer.proofs.conversation.Conversation.take_frames.Given as goal

abbrev pub invariant-loop-self : goal.invariant-loop-self
invariant-loop-self l = record {
  ready : IsOpen l.self.router;
  stands : (sessions : List Settings) (read wire out : List ℕ) → Stands sessions read wire out l.fn.self → Stands sessions read wire out l.self;
}

abbrev pub decreases-loop-self : goal.decreases-loop-self
decreases-loop-self l = length l.self.framer.held
