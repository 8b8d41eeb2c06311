-- The messages of a schema as TOML tables: the keys of each in the order in which they are visited (this project's profile).
use Rattle.std.specs.Prelude.{◌≡◌, false, Result, ℕ, ◌+◌, ℤ, pos, if◌then◌else◌, Option, Some, None, List, [], ◌∷◌, Ok, Err, codes}
use Rattle.toml.specs.Data.{Data, array, table, Items, no_items, item, Members, no_members, member, same_key}
use Rattle.sbe_value.specs.declared.path.Step.TheVariants.{Key, At}
use Rattle.sbe_prim.specs.declared.Primitive.{Primitive}
use Rattle.sbe_prim.specs.declared.Primitive.TheVariants.{UInt16}
use Rattle.schema_types.specs.declared.types.Presence.TheVariants.{Required}
use Rattle.schema_types.specs.declared.messages.FieldDef.{FieldDef}
use Rattle.schema_types.specs.declared.messages.DataDef.{DataDef}
use Rattle.schema_types.specs.declared.messages.MessageDef.{MessageDef}
use Rattle.schema_types.specs.declared.groups.GroupDef.{GroupDef}
use Rattle.schema_types.specs.Views.{head_of}
use Rattle.schema_types.specs.Groups.{GroupHead, GroupTree, no_groups, group}
use Rattle.toml_walk.specs.declared.fault.TomlFault.{TomlFault}
use Rattle.toml_walk.specs.declared.fault.TomlFault.TheVariants.{WrongKind}
use Rattle.toml_walk.specs.Reading.{Read, ◌>>=◌, under, is_memory}
use Rattle.toml_walk.specs.Keys.{required, get_or_default, optional, list_of, table_of, deny_unknown_keys}
use Rattle.toml_walk.specs.Values.{name_of, number_of, natural_of}
use Rattle.schema_toml.specs.declared.messages.Parent.{Parent}
use Rattle.schema_toml.specs.declared.groups.Start.{Start}
use Rattle.schema_toml.specs.declared.groups.Inside.{Inside}
use Rattle.schema_toml.specs.Words.{primitive_of, presence_of, constant_of}

-- the greatest id
abbrev pub id_of : Data → Read ℕ
id_of = natural_of 0 65534

-- {since?}: the version with which a message or a group came, by default that of what holds it
abbrev pub own_of : ℤ → Data → Read Parent
own_of since keys = get_or_default (codes "since") since number_of keys >>= λ own. Ok (record { since = own })

-- {name, id, type, presence?, value?, offset?, since?}, in what came with the version `since`
abbrev pub field_keys : ℤ → Data → Read FieldDef
field_keys since keys =
    required (codes "name") name_of keys >>= λ name.
    required (codes "id") id_of keys >>= λ id.
    required (codes "type") name_of keys >>= λ type_name.
    get_or_default (codes "presence") Required presence_of keys >>= λ presence.
    optional (codes "value") constant_of keys >>= λ value.
    optional (codes "offset") number_of keys >>= λ offset.
    get_or_default (codes "since") since number_of keys >>= λ own_since.
    deny_unknown_keys (codes "name" ∷ codes "id" ∷ codes "type" ∷ codes "presence" ∷ codes "value" ∷ codes "offset" ∷ codes "since" ∷ []) keys >>= λ _.
    Ok (record { name = name; id = id; type_name = type_name; presence = presence; value = value; offset = offset; since = own_since })

abbrev pub field_of : ℤ → Data → Read FieldDef
field_of since = table_of (field_keys since)

-- {name, id, length?, since?}
abbrev pub data_keys : ℤ → Data → Read DataDef
data_keys since keys =
    required (codes "name") name_of keys >>= λ name.
    required (codes "id") id_of keys >>= λ id.
    get_or_default (codes "length") UInt16 primitive_of keys >>= λ length.
    get_or_default (codes "since") since number_of keys >>= λ own_since.
    deny_unknown_keys (codes "name" ∷ codes "id" ∷ codes "length" ∷ codes "since" ∷ []) keys >>= λ _.
    Ok (record { name = name; id = id; length = length; since = own_since })

abbrev pub datum_of : ℤ → Data → Read DataDef
datum_of since = table_of (data_keys since)

-- {name, id, block_prim?, count_prim?, since?, block_length?} of a group
abbrev pub start_of : ℤ → Data → Read Start
start_of since keys =
    required (codes "name") name_of keys >>= λ name.
    required (codes "id") id_of keys >>= λ id.
    get_or_default (codes "block_prim") UInt16 primitive_of keys >>= λ block_prim.
    get_or_default (codes "count_prim") UInt16 primitive_of keys >>= λ count_prim.
    own_of since keys >>= λ own.
    optional (codes "block_length") number_of keys >>= λ block_length.
    Ok (record { name = name; id = id; block_prim = block_prim; count_prim = count_prim; own = own; block_length = block_length })

-- a group without the groups of its entries, and those groups
abbrev pub GroupRead : Type 0
GroupRead = GroupHead × GroupTree

-- {fields?, groups?, data?} of a group of this version behind its start, of which `inner` reads the groups
abbrev pub inside_of : Read GroupTree → ℤ → Data → Read Inside
inside_of inner since keys =
    get_or_default (codes "fields") [] (list_of (field_of since)) keys >>= λ fields.
    inner >>= λ groups.
    get_or_default (codes "data") [] (list_of (datum_of since)) keys >>= λ vars.
    deny_unknown_keys (codes "name" ∷ codes "id" ∷ codes "block_prim" ∷ codes "count_prim" ∷ codes "since" ∷ codes "block_length" ∷ codes "fields"
    ∷ codes "groups" ∷ codes "data" ∷ []) keys >>= λ _.
    Ok (record { fields = fields; groups = groups; vars = vars })

abbrev pub head_with : Start → Inside → GroupHead
head_with start inside = record {
  name = start.name;
  id = start.id;
  block_prim = start.block_prim;
  count_prim = start.count_prim;
  since = start.own.since;
  block_length = start.block_length;
  fields = inside.fields;
  vars = inside.vars;
}

abbrev pub group_keys : (ℤ → Read GroupTree) → ℤ → Data → Read GroupRead
group_keys inner since keys =
    start_of since keys >>= λ start.
    inside_of (inner start.own.since) start.own.since keys >>= λ inside.
    Ok (head_with start inside, inside.groups)

-- the groups of a block, as the value at their key and as a list of tables; each group's own groups lie in it
abbrev mutual
  pub group_of : ℤ → Data → Read GroupRead
  group_of since (table keys) = group_keys (λ own_since. groups_in own_since keys) since (table keys)
  group_of since _ = Err (WrongKind [])

  pub groups_in : ℤ → Members → Read GroupTree
  groups_in since no_members = Ok no_groups
  groups_in since (member key d keys) = if same_key (codes "groups") key then under (Key (codes "groups")) (groups_of since d) else groups_in since keys

  pub groups_of : ℤ → Data → Read GroupTree
  groups_of since (array ds) = groups_from since 0 ds
  groups_of since _ = Err (WrongKind [])

  pub groups_from : ℤ → ℕ → Items → Read GroupTree
  groups_from since at no_items = Ok no_groups
  groups_from since at (item d ds) =
      under (At at) (group_of since d) >>= λ g. groups_from since (at + 1) ds >>= λ rest. Ok (group g.0 g.1 rest)

-- a group by its keys alone: its own groups lie at the key `groups`
unfoldable pub group_by_keys : ℤ → Data → Read GroupRead
group_by_keys since d = table_of (λ keys. group_keys (λ own_since. get_or_default (codes "groups") no_groups (groups_of own_since) keys) since keys) d

-- a group is the expected one, unless memory ran out
abbrev pub ReadsGroup : Result GroupDef TomlFault → Read GroupRead → Type 0
ReadsGroup (Ok g) expected = expected ≡ Ok (head_of g, g.groups)
ReadsGroup (Err fault) expected = is_memory fault ≡ false → expected ≡ Err fault

-- {name, id, since?, block_length?, fields?, groups?, data?}
abbrev pub message_keys : Data → Read MessageDef
message_keys keys =
    required (codes "name") name_of keys >>= λ name.
    required (codes "id") id_of keys >>= λ id.
    own_of (pos 0) keys >>= λ own.
    optional (codes "block_length") number_of keys >>= λ block_length.
    get_or_default (codes "fields") [] (list_of (field_of own.since)) keys >>= λ fields.
    get_or_default (codes "groups") no_groups (groups_of own.since) keys >>= λ groups.
    get_or_default (codes "data") [] (list_of (datum_of own.since)) keys >>= λ vars.
    deny_unknown_keys (codes "name" ∷ codes "id" ∷ codes "since" ∷ codes "block_length" ∷ codes "fields" ∷ codes "groups" ∷ codes "data" ∷ []) keys >>= λ _.
    Ok (record { name = name; id = id; since = own.since; block_length = block_length; fields = fields; groups = groups; vars = vars })

abbrev pub message_of : Data → Read MessageDef
message_of = table_of message_keys
