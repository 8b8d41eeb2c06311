use Rattle.std.proofs.Common.{◌≡◌, ◌++◌, take, drop}
use Rattle.gw_fakes.specs.Disks.{spoiled}
use Rattle.gw_fakes.proofs.disk.spoil.Given as goal

abbrev pub invariant-loop-place : goal.invariant-loop-place
invariant-loop-place l = l.content ≡ take l.place (spoiled l.fn.content l.pending) ++ drop l.place l.fn.content
