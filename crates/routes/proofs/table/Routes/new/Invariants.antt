-- The identifiers before the place are kept, each once.
use Rattle.std.proofs.Common.{◌≡◌, take}
use Rattle.routes.specs.Identifiers.{EachOnce}
use Rattle.routes.specs.Sorted.{IsSorted}
use Rattle.routes.proofs.table.Routes.new.Given as goal

abbrev pub invariant-loop-place : goal.invariant-loop-place
invariant-loop-place l = (l.kept.items ≡ take l.place l.ids) × IsSorted l.kept.items l.routes.items × EachOnce l.kept.items
