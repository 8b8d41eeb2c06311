use Rattle.std.proofs.Common.{◌≡◌}
use Rattle.cmd_datagram.specs.Delivered.{payloads_of}
use Rattle.cmd_datagram.proofs.packing.payloads.Given as goal

abbrev pub invariant-loop-place : goal.invariant-loop-place
invariant-loop-place l = l.payloads ≡ payloads_of l.place
