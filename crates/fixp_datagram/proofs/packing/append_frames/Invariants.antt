use Rattle.std.proofs.Common.{◌≡◌, ◌≤◌, length, min}
use Rattle.fixp_datagram.specs.Datagrams.{most_bytes}
use Rattle.fixp_datagram.proofs.Appended.{IsPut}
use Rattle.fixp_datagram.proofs.packing.append_frames.Given as goal

abbrev pub invariant-loop-payload : goal.invariant-loop-payload
invariant-loop-payload l = record {
  counted : l.taken ≡ l.payload-index;
  put : IsPut l.left l.fn.out l.out l.head l.at l.taken;
  fits : l.at ≤ l.room;
  room : l.room ≡ min (length l.fn.out) most_bytes;
}
