use Rattle.std.proofs.Common.{◌≡◌, ℕ, ◌<◌, length, slice_index_or}
use Rattle.gate_staff.specs.declared.sender.Sender.{Sender}
use Rattle.gw_rehearse.proofs.senders.add_done.Given as goal

abbrev pub invariant-loop-place : goal.invariant-loop-place
invariant-loop-place l = record {
  long : length l.senders ≡ length l.fn.senders;
  each : (i : ℕ) (d : Sender _ _) → i < length l.fn.senders → (slice_index_or l.senders i d).pass ≡ (slice_index_or l.fn.senders i d).pass;
}
