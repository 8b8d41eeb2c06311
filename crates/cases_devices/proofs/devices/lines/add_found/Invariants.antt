use Rattle.std.proofs.Common.{length}
use Rattle.cases_devices.proofs.devices.lines.add_found.Given as goal

abbrev pub decreases-loop-found : goal.decreases-loop-found
decreases-loop-found l = length l.reader.waiting
