-- The plan of a schema: what stands where in its messages (SBE 1.0, "Field offsets", "Composite data types", "Block length").
use Rattle.std.specs.Prelude.{◌≡◌, ◌⊎◌, ℕ, ◌+◌, ◌==◌, ℤ, if◌then◌else◌, Option, Some, None, List, [], ◌∷◌, ◌++◌, slice_get}
use Rattle.sbe_prim.specs.declared.Primitive.{Primitive}
use Rattle.schema_types.specs.declared.schema.Schema.{Schema}
use Rattle.schema_types.specs.declared.types.TypeDef.{TypeDef}
use Rattle.schema_types.specs.declared.types.TypeKind.{TypeKind}
use Rattle.schema_types.specs.declared.types.TypeKind.TheVariants as kinds
use Rattle.schema_types.specs.declared.types.MemberDef.{MemberDef}
use Rattle.schema_types.specs.declared.types.Presence.{Presence}
use Rattle.schema_types.specs.declared.types.Presence.TheVariants.{Required, Optional, Constant}
use Rattle.schema_types.specs.declared.messages.FieldDef.{FieldDef}
use Rattle.schema_types.specs.declared.messages.DataDef.{DataDef}
use Rattle.schema_types.specs.declared.messages.MessageDef.{MessageDef}
use Rattle.schema_types.specs.Groups.{GroupHead, GroupTree, no_groups, group}
use Rattle.sbe_schema.specs.Names.{same_name}
use Rattle.sbe_prim.specs.Names.{primitive_named}
use Rattle.sbe_schema.specs.Offsets.{plus, offset_of, member_end, field_end, type_size, block_length_of}
use Rattle.sbe_layout.specs.declared.items.ItemKind.{ItemKind}
use Rattle.sbe_layout.specs.declared.items.ItemKind.TheVariants.{Number, Enum, Set}
use Rattle.sbe_layout.specs.declared.items.ItemPlan.{ItemPlan}
use Rattle.sbe_layout.specs.declared.items.Mark.{Mark}
use Rattle.sbe_layout.specs.declared.items.DataPlan.{DataPlan}
use Rattle.sbe_layout.specs.declared.blocks.BlockPlan.{BlockPlan}
use Rattle.sbe_layout.specs.declared.plan.MessagePlan.{MessagePlan}
use Rattle.sbe_layout.specs.declared.plan.Plan.{Plan}
use Rattle.sbe_layout.specs.declared.listings.Listing.{Listing}
use Rattle.sbe_layout.specs.declared.listings.Listing.TheVariants.{Nothing, Values, Bits}
use Rattle.sbe_layout.specs.declared.resolve.Resolved.{Resolved}
use Rattle.sbe_layout.specs.declared.resolve.Resolved.TheVariants.{Simple, Members}
use Rattle.sbe_layout.specs.Trees.{PlanHead, PlanTree, no_plans, plan}

-- ---- what a name stands for: a type of items, or the members of the composite at a place among the types

abbrev pub resolved_kind : ℕ → TypeKind → Resolved
resolved_kind at (kinds.Number prim length null low high) = Simple (Number prim length null low high)
resolved_kind at (kinds.Enum prim values) = Simple (Enum prim at)
resolved_kind at (kinds.Set prim bits) = Simple (Set prim at)
resolved_kind at (kinds.Composite members) = Members at

-- by the first type of the name, the types being counted from `at`
abbrev pub resolved_among : ℕ → List TypeDef → List ℕ → Option Resolved
resolved_among at [] name = None
resolved_among at (t ∷ ts) name = if same_name t.name name then Some (resolved_kind at t.kind) else resolved_among (at + 1) ts name

abbrev pub resolved_by : Option Primitive → Option Resolved → Option Resolved
resolved_by (Some p) found = Some (Simple (Number p 1 None None None))
resolved_by None found = found

abbrev pub resolved : List TypeDef → List ℕ → Option Resolved
resolved types name = resolved_by (primitive_named name) (resolved_among 0 types name)

abbrev pub members_of : Option TypeDef → List MemberDef
members_of None = []
members_of (Some t) = members_of_kind t.kind
  where
    members_of_kind : TypeKind → List MemberDef
    members_of_kind (kinds.Composite members) = members
    members_of_kind (kinds.Number prim length null low high) = []
    members_of_kind (kinds.Enum prim values) = []
    members_of_kind (kinds.Set prim bits) = []

-- ---- what the types list: the values of an enum, and the named bits of a set

abbrev pub listing_of : TypeKind → Listing
listing_of (kinds.Number prim length null low high) = Nothing
listing_of (kinds.Enum prim values) = Values values
listing_of (kinds.Set prim bits) = Bits bits
listing_of (kinds.Composite members) = Nothing

abbrev pub listings_of : List TypeDef → List Listing
listings_of [] = []
listings_of (t ∷ ts) = listing_of t.kind ∷ listings_of ts

-- ---- items

abbrev pub item : List ℕ → ℕ → ℕ → ℤ → Presence → ItemKind → ItemPlan
item name offset size since presence kind = record {
  name = name;
  offset = offset;
  size = size;
  since = since;
  presence = presence;
  kind = kind;
}

-- a constant is no item
abbrev pub unless_constant : Presence → List ItemPlan → List ItemPlan
unless_constant Required items = items
unless_constant Optional items = items
unless_constant Constant items = []

-- the item of a member at a place, of a field of that name and since; 46 is the dot
abbrev pub items_of_member : List TypeDef → List ℕ → ℤ → ℕ → MemberDef → Option Resolved → List ItemPlan
items_of_member types name since place m (Some (Simple kind)) =
    unless_constant m.presence (item (name ++ 46 ∷ m.name) place (type_size types m.type_name) since m.presence kind ∷ [])
items_of_member types name since place m (Some (Members at)) = []
items_of_member types name since place m None = []

-- the items of the members of a field that begins at `start`, the member before ending at `end`
abbrev pub items_of_members : List TypeDef → List ℕ → ℤ → ℕ → ℕ → List MemberDef → List ItemPlan
items_of_members types name since start end [] = []
items_of_members types name since start end (m ∷ ms) =
    items_of_member types name since (plus start (offset_of end m.offset)) m (resolved types m.type_name)
    ++ items_of_members types name since start (member_end types end m) ms

-- a field's items, the field before ending at `end`: one, or those of its members
abbrev pub items_by : List TypeDef → ℕ → FieldDef → Option Resolved → List ItemPlan
items_by types end f (Some (Simple kind)) =
    item f.name (offset_of end f.offset) (type_size types f.type_name) f.since f.presence kind ∷ []
items_by types end f (Some (Members at)) =
    items_of_members types f.name f.since (offset_of end f.offset) 0 (members_of (slice_get types at))
items_by types end f None = []

abbrev pub items_of_field : List TypeDef → ℕ → FieldDef → List ItemPlan
items_of_field types end f = unless_constant f.presence (items_by types end f (resolved types f.type_name))

abbrev pub items_of_fields : List TypeDef → ℕ → List FieldDef → List ItemPlan
items_of_fields types end [] = []
items_of_fields types end (f ∷ fs) = items_of_field types end f ++ items_of_fields types (field_end types end f) fs

-- where each field ends, constants too
abbrev pub marks_of : List TypeDef → ℕ → List FieldDef → List Mark
marks_of types end [] = []
marks_of types end (f ∷ fs) = record { since = f.since; end = field_end types end f } ∷ marks_of types (field_end types end f) fs

abbrev pub data_plan : DataDef → DataPlan
data_plan d = record { name = d.name; since = d.since; length = d.length }

abbrev pub data_of : List DataDef → List DataPlan
data_of [] = []
data_of (d ∷ ds) = data_plan d ∷ data_of ds

-- ---- groups, messages, and the whole

-- a group without the groups of its entries
abbrev pub group_head : List TypeDef → GroupHead → PlanHead
group_head types g = record {
  name = g.name;
  since = g.since;
  block_prim = g.block_prim;
  count_prim = g.count_prim;
  block_length = block_length_of types g.block_length g.fields;
  items = items_of_fields types 0 g.fields;
  marks = marks_of types 0 g.fields;
  vars = data_of g.vars;
}

abbrev pub groups_plan : List TypeDef → GroupTree → PlanTree
groups_plan types no_groups = no_plans
groups_plan types (group g inner rest) = plan (group_head types g) (groups_plan types inner) (groups_plan types rest)

abbrev pub block_plan : List TypeDef → Option ℤ → List FieldDef → GroupTree → List DataDef → BlockPlan
block_plan types stated fields groups vars = record {
  block_length = block_length_of types stated fields;
  items = items_of_fields types 0 fields;
  marks = marks_of types 0 fields;
  groups = groups_plan types groups;
  vars = data_of vars;
}

abbrev pub message_plan : List TypeDef → MessageDef → MessagePlan
message_plan types m = record {
  name = m.name;
  template = m.id;
  since = m.since;
  root = block_plan types m.block_length m.fields m.groups m.vars;
}

abbrev pub message_plans : List TypeDef → List MessageDef → List MessagePlan
message_plans types [] = []
message_plans types (m ∷ ms) = message_plan types m ∷ message_plans types ms

abbrev pub plan_of : Schema → Plan
plan_of schema = record {
  id = schema.id;
  version = schema.version;
  order = schema.order;
  listings = listings_of schema.types;
  messages = message_plans schema.types schema.messages;
}

-- the first message of a template
abbrev pub message_of : ℕ → List MessagePlan → Option MessagePlan
message_of template [] = None
message_of template (m ∷ ms) = if m.template == template then Some m else message_of template ms

-- some message has the template
abbrev pub HasTemplate : ℕ → List MessagePlan → Type 0
HasTemplate template [] = ⊥
HasTemplate template (m ∷ ms) = (m.template ≡ template) ⊎ HasTemplate template ms
