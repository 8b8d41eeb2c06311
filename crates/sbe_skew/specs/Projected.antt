-- An older version of a schema: the messages, fields, groups and data that came with it or before it (SBE 1.0, "Schema extension
-- mechanism"). Stated block lengths are dropped: an older version may have stated others.
use Rattle.std.specs.Prelude.{ℕ, if◌then◌else◌, None, List, [], ◌∷◌, map, filter}
use Rattle.schema_types.specs.declared.schema.Schema.{Schema}
use Rattle.schema_types.specs.declared.messages.FieldDef.{FieldDef}
use Rattle.schema_types.specs.declared.messages.DataDef.{DataDef}
use Rattle.schema_types.specs.declared.messages.MessageDef.{MessageDef}
use Rattle.schema_types.specs.declared.groups.GroupDef.{GroupDef}
use Rattle.schema_types.specs.Groups.{GroupHead, GroupTree, no_groups, group}
use Rattle.sbe_grammar.specs.Values.{is_in}

abbrev pub projected_fields : ℕ → List FieldDef → List FieldDef
projected_fields version fields = filter (λ f. is_in version f.since) fields

abbrev pub projected_data : ℕ → List DataDef → List DataDef
projected_data version vars = filter (λ d. is_in version d.since) vars

abbrev pub projected_head : ℕ → GroupHead → GroupHead
projected_head version g = record {
  name = g.name;
  id = g.id;
  block_prim = g.block_prim;
  count_prim = g.count_prim;
  since = g.since;
  block_length = None;
  fields = projected_fields version g.fields;
  vars = projected_data version g.vars;
}

abbrev pub projected_groups : ℕ → GroupTree → GroupTree
projected_groups version no_groups = no_groups
projected_groups version (group g inner rest) =
    if is_in version g.since then group (projected_head version g) (projected_groups version inner) (projected_groups version rest)
    else projected_groups version rest

abbrev pub projected_message : ℕ → MessageDef → MessageDef
projected_message version m = record {
  name = m.name;
  id = m.id;
  since = m.since;
  block_length = None;
  fields = projected_fields version m.fields;
  groups = projected_groups version m.groups;
  vars = projected_data version m.vars;
}

abbrev pub projected_messages : ℕ → List MessageDef → List MessageDef
projected_messages version ms = map (projected_message version) (filter (λ m. is_in version m.since) ms)

abbrev pub projected : ℕ → Schema → Schema
projected version s = record {
  id = s.id;
  version = version;
  order = s.order;
  types = s.types;
  messages = projected_messages version s.messages;
}

-- ---- one group, and the tree of groups as a list

abbrev pub projected_group : ℕ → GroupDef → GroupDef
projected_group version g = record {
  name = g.name;
  id = g.id;
  block_prim = g.block_prim;
  count_prim = g.count_prim;
  since = g.since;
  block_length = None;
  fields = projected_fields version g.fields;
  groups = projected_groups version g.groups;
  vars = projected_data version g.vars;
}

abbrev pub list_of_defs : GroupTree → List GroupDef
list_of_defs no_groups = []
list_of_defs (group g inner rest) =
    record {
      name = g.name;
      id = g.id;
      block_prim = g.block_prim;
      count_prim = g.count_prim;
      since = g.since;
      block_length = g.block_length;
      fields = g.fields;
      groups = inner;
      vars = g.vars;
    } ∷ list_of_defs rest
