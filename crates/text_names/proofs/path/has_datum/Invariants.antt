use Rattle.std.proofs.Common.{◌≡◌, drop}
use Rattle.text_names.specs.Paths.{has_datum}
use Rattle.text_names.proofs.path.has_datum.Given as goal

abbrev pub invariant-loop-datum : goal.invariant-loop-datum
invariant-loop-datum l = has_datum (drop l.datum-index l.vars) l.name ≡ has_datum l.vars l.name
