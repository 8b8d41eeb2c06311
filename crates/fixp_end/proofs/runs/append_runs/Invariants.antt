use Rattle.std.proofs.Common.{◌≡◌, ◌+◌, ◌*◌, ◌≤◌, ◌++◌, length, take}
use Rattle.flow_idem.specs.Runs.{runs_of}
use Rattle.fixp_replies.specs.Events.{applied_runs}
use Rattle.fixp_machine.specs.Machine.{bytes_of}
use Rattle.fixp_end.proofs.runs.append_runs.Given as goal

abbrev pub invariant-loop-place : goal.invariant-loop-place
invariant-loop-place l = record {
  bytes : l.output ≡ l.fn.output ++ bytes_of (applied_runs (take l.place (runs_of l.fn.applied.untold)));
  short : length l.output ≤ length l.fn.output + 64 * l.place;
  within : l.place ≤ length (runs_of l.fn.applied.untold);
}
