use Rattle.std.proofs.Common.{ℕ, ◌+◌, ◌≤◌, List, length}
use Rattle.fixp_shake.specs.declared.config.EndConfig.{EndConfig}
use Rattle.cmd_answer.specs.Progress.{replies_limit, IsOpen, Stands}
use Rattle.cmd_answer.proofs.acceptor.Acceptor.take_batch.Given as goal

abbrev pub invariant-loop : goal.invariant-loop
invariant-loop l = record {
  ready : IsOpen l.self;
  room : 16 ≤ l.self.end.room + l.counter;
  output : length l.self.end.unsent ≤ 900000 + replies_limit l.counter;
  held : length l.self.framer.held + l.counter ≤ length l.fn.self.framer.held;
  stands : (cfg : EndConfig) (read wire out : List ℕ) → Stands cfg read wire out l.fn.self → Stands cfg read wire out l.self;
}
