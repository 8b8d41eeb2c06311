use Rattle.std.proofs.Common.{◌≡◌, ℕ, None, length}
use Rattle.std.specs.List.{AllByRecursion}
use Rattle.fixp_msgs.specs.Payload.{IsApplication}
use Rattle.conn_steps.specs.Gathered.{payloads_in}
use Rattle.conn_steps.specs.Agreeing.{IsInTurn, KeepsOwn, unheld}
use Rattle.conn_steps.proofs.Holding.{Draining}
use Rattle.conn_steps.proofs.frames.gather_held.Given as goal

abbrev pub invariant-loop-message : goal.invariant-loop-message
invariant-loop-message l = record {
  draining : Draining l.initial.end l.end (payloads_in l.initial.gathered) (payloads_in l.gathered);
  done : l.end.pending ≡ None;
  in_turn : (now frames bytes : ℕ) → IsInTurn (unheld l.initial.end) now frames bytes → IsInTurn (unheld l.end) now frames bytes;
  applications : AllByRecursion IsApplication (payloads_in l.initial.gathered) → AllByRecursion IsApplication (payloads_in l.gathered);
  own : KeepsOwn l.initial.end l.end;
}

abbrev pub decreases-loop-message : goal.decreases-loop-message
decreases-loop-message l = length l.end.held
