-- The groups of an entry weigh less than the list that their group stands in.
use Rattle.std.specs.Prelude.{◌≤◌, max, List, [], ◌∷◌}
use Rattle.std.proofs.Common.{arith}
use denote.Param.Weighed.{most}
use Rattle.schema_types.specs.declared.groups.GroupDef.{GroupDef}
use Rattle.schema_types.specs.declared.groups.GroupDefs.TheDeep.{deep-GroupDef}
use Rattle.schema_types.specs.Groups.{weight_of}
use Rattle.schema_types.specs.Views.{groups_of}

group_falls : (gs : List GroupDef) → most deep-GroupDef gs ≤ weight_of (groups_of gs)
group_falls [] = omega arith
group_falls (g ∷ gs) = omega (arith, group_falls gs)

pub groups_fall : (gs : List GroupDef) → max (most deep-GroupDef gs) 0 ≤ weight_of (groups_of gs)
groups_fall gs = omega (arith, group_falls gs)
