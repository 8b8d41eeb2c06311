use Rattle.std.proofs.Common.{◌≡◌, map, take}
use Rattle.toml.specs.View.{view}
use Rattle.schema_print.proofs.table.list_of.Given as goal

-- those behind the element are written
abbrev pub invariant-loop-value : goal.invariant-loop-value
invariant-loop-value g l = map view l.list.items ≡ map g.T.Written.spelling (take l.value-index l.values)
