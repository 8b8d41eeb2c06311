use Rattle.std.proofs.Common.{◌≡◌, length, map}
use Rattle.session_model.specs.Journal.{counts_from}
use Rattle.fixp_datagram.specs.Packing.{cut_at, cut_count}
use Rattle.cmd_datagram.specs.Delivered.{ArePacked}
use Rattle.cmd_datagram.proofs.packing.datagrams.Given as goal

-- those before this one are packed
abbrev pub invariant-loop-place : goal.invariant-loop-place
invariant-loop-place l = record {
  packed : ArePacked l.datagrams (map (cut_at l.per l.payloads) (counts_from 1 l.place));
  end : l.place-end ≡ cut_count l.per (length l.payloads);
}
