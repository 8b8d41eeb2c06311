use Rattle.std.proofs.Common.{◌≤◌, length}
use Rattle.gw_growing_files.proofs.front.read_some.Given as goal

abbrev pub invariant-loop : goal.invariant-loop
invariant-loop l = l.count ≤ length l.into
