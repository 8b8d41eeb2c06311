use Rattle.std.proofs.Common.{◌≡◌, []}
use Rattle.cases_devices.proofs.devices.lines.add_all.Given as goal

abbrev pub invariant-loop-pull : goal.invariant-loop-pull
invariant-loop-pull g l = l.reader.waiting ≡ []
