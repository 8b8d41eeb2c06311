use Rattle.std.proofs.Common.{ℕ, List, length}
use Rattle.fixp_shake.specs.declared.config.EndConfig.{EndConfig}
use Rattle.cmd_answer.specs.Progress.{IsOpen, Stands}
use Rattle.cmd_answer.proofs.acceptor.Acceptor.take_frames.Given as goal

abbrev pub invariant-loop-self : goal.invariant-loop-self
invariant-loop-self l = record {
  ready : IsOpen l.self;
  stands : (cfg : EndConfig) (read wire out : List ℕ) → Stands cfg read wire out l.fn.self → Stands cfg read wire out l.self;
}

abbrev pub decreases-loop-self : goal.decreases-loop-self
decreases-loop-self l = length l.self.framer.held
