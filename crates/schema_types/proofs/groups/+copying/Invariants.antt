use Rattle.std.proofs.Common.{◌≡◌, take}
use Rattle.schema_types.proofs.groups.+copying.Given as goal

abbrev pub invariant-GroupDefs::copy-loop-group : goal.invariant-GroupDefs::copy-loop-group
invariant-GroupDefs::copy-loop-group l = l.inner.items ≡ take l.group-index l.group-items
