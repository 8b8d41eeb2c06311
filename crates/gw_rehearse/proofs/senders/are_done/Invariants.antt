use Rattle.std.proofs.Common.{◌≡◌, ℕ, ◌<◌, slice_index_or}
use Rattle.gate_staff.specs.declared.sender.Sender.{Sender}
use Rattle.gw_rehearse.proofs.senders.are_done.Given as goal

abbrev pub invariant-loop-place : goal.invariant-loop-place
invariant-loop-place l = record {
  each : (i : ℕ) (d : Sender _ _) → i < l.place → slice_index_or l.messages i 0 ≡ (slice_index_or l.senders i d).done;
}
