use Rattle.std.proofs.Common.{◌≡◌, ◌++◌, take}
use Rattle.fixp_machine.specs.Machine.{payload_frames}
use Rattle.fixp_end.specs.Sending.{payloads_of}
use Rattle.fixp_end.proofs.sending.append_entries.Given as goal

abbrev pub invariant-loop-entry : goal.invariant-loop-entry
invariant-loop-entry l = record {
  bytes : l.output ≡ l.fn.output ++ payload_frames (payloads_of (take l.entry-index l.fn.entries));
}
