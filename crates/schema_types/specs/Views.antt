-- A list of groups, as the list that holds the groups of the entries.
use Rattle.std.specs.Prelude.{List, [], ◌∷◌}
use Rattle.schema_types.specs.declared.groups.GroupDef.{GroupDef}
use Rattle.schema_types.specs.Groups.{GroupHead, GroupTree, no_groups, group}

abbrev pub head_of : GroupDef → GroupHead
head_of g = record {
  name = g.name;
  id = g.id;
  block_prim = g.block_prim;
  count_prim = g.count_prim;
  since = g.since;
  block_length = g.block_length;
  fields = g.fields;
  vars = g.vars;
}

abbrev pub groups_of : List GroupDef → GroupTree
groups_of [] = no_groups
groups_of (g ∷ gs) = group (head_of g) g.groups (groups_of gs)
