-- When one schema is a later version of another: what it has of the other's version is what the other has (SBE 1.0, "Schema
-- extension mechanism"). Stated block lengths and the names of types do not count.
use Rattle.std.specs.Prelude.{◌≡◌, ⊤, ℕ, ◌+◌, ◌≤◌, nat_eq, nat_le, Bool, true, false, ◌&&◌, if◌then◌else◌, IsTrue, Option, Some, None, unwrap_or, List, [], ◌∷◌}
use Rattle.std.specs.Ordering.{int_eq}
use Rattle.std.specs.Option.{option_eq, option_map}
use Rattle.std.specs.Cmp.Lexicographic.{pointwise}
use denote.Enum.Bare.{sameb}
use Rattle.sbe_prim.specs.contracts.Primitive as primitive
use Rattle.sbe_prim.specs.contracts.Order as order
use Rattle.sbe_value.specs.declared.path.Step.{Step}
use Rattle.sbe_value.specs.declared.path.Step.TheVariants.{Key, At}
use Rattle.schema_types.specs.declared.schema.Schema.{Schema}
use Rattle.schema_types.specs.declared.types.TypeDef.{TypeDef}
use Rattle.schema_types.specs.declared.messages.FieldDef.{FieldDef}
use Rattle.schema_types.specs.declared.messages.DataDef.{DataDef}
use Rattle.schema_types.specs.declared.messages.MessageDef.{MessageDef}
use Rattle.schema_types.specs.Groups.{GroupHead, GroupTree, no_groups, group}
use Rattle.schema_types.specs.contracts.types.Presence as presence
use Rattle.schema_types.specs.contracts.types.ConstantPartialEq.TheImpl as constant
use Rattle.schema_types.specs.contracts.messages.DataDefPartialEq.TheImpl as datum
use Rattle.sbe_schema.specs.declared.fault.TableArray.{TableArray}
use Rattle.sbe_schema.specs.declared.fault.TableArray.TheVariants.{Messages, Fields, Groups, Data}
use Rattle.sbe_schema.specs.Names.{same_name}
use Rattle.sbe_schema.specs.Places.{key_of}
use Rattle.sbe_skew.specs.declared.fault.SkewFault.{SkewFault}
use Rattle.sbe_skew.specs.declared.fault.SkewFault.TheVariants.{Differs, Memory}
use Rattle.sbe_skew.specs.SameTypes.{same_type}
use Rattle.sbe_skew.specs.Projected.{projected}

-- ---- the same element: what stands in it aside, and its types by what they stand for

abbrev pub same_field : List TypeDef → List TypeDef → FieldDef → FieldDef → Bool
same_field types others f g =
    (((((same_name f.name g.name && nat_eq f.id g.id) && sameb presence.the_type f.presence g.presence) && option_eq constant.eq-value.it f.value g.value)
    && option_eq int_eq f.offset g.offset) && int_eq f.since g.since)
    && same_type types others f.type_name g.type_name

abbrev pub same_datum : DataDef → DataDef → Bool
same_datum d e = datum.eq-value.it d e

abbrev pub same_head : GroupHead → GroupHead → Bool
same_head g h =
    (((same_name g.name h.name && nat_eq g.id h.id) && sameb primitive.the_type g.block_prim h.block_prim)
    && sameb primitive.the_type g.count_prim h.count_prim) && int_eq g.since h.since

abbrev pub same_template : MessageDef → MessageDef → Bool
same_template m n = (same_name m.name n.name && nat_eq m.id n.id) && int_eq m.since n.since

-- ---- the same elements, in the same places

abbrev pub same_groups : List TypeDef → List TypeDef → GroupTree → GroupTree → Bool
same_groups types others no_groups no_groups = true
same_groups types others no_groups (group h deeper after) = false
same_groups types others (group g inner rest) no_groups = false
same_groups types others (group g inner rest) (group h deeper after) =
    (same_head g h && (pointwise (same_field types others) g.fields h.fields && (same_groups types others inner deeper && pointwise same_datum g.vars h.vars)))
    && same_groups types others rest after

abbrev pub same_message : List TypeDef → List TypeDef → MessageDef → MessageDef → Bool
same_message types others m n =
    same_template m n && (pointwise (same_field types others) m.fields n.fields
    && (same_groups types others m.groups n.groups && pointwise same_datum m.vars n.vars))

abbrev pub same_elements : Schema → Schema → Bool
same_elements a b = pointwise (same_message a.types b.types) a.messages b.messages

-- the two are versions of one schema, the older is no later, and it has the elements that the newer has of its version
pub record Extends (newer older : Schema) : Type 0 where
  pub id : newer.id ≡ older.id
  pub order : newer.order ≡ older.order
  pub version : older.version ≤ newer.version
  pub elements : IsTrue (same_elements older (projected older.version newer))

-- ---- the first element, in the order of one schema, that the other has not in its place

abbrev pub under : TableArray → ℕ → List Step → List Step
under part at path = Key (key_of part) ∷ At at ∷ path

abbrev pub or_else : Option (List Step) → Option (List Step) → Option (List Step)
or_else (Some path) other = Some path
or_else None other = other

abbrev pub other_fields : List TypeDef → List TypeDef → ℕ → List FieldDef → List FieldDef → Option (List Step)
other_fields types others at [] gs = None
other_fields types others at (f ∷ fs) [] = Some (under Fields at [])
other_fields types others at (f ∷ fs) (g ∷ gs) =
    if same_field types others f g then other_fields types others (at + 1) fs gs else Some (under Fields at [])

abbrev pub other_data : ℕ → List DataDef → List DataDef → Option (List Step)
other_data at [] es = None
other_data at (d ∷ ds) [] = Some (under Data at [])
other_data at (d ∷ ds) (e ∷ es) = if same_datum d e then other_data (at + 1) ds es else Some (under Data at [])

abbrev pub other_groups : List TypeDef → List TypeDef → ℕ → GroupTree → GroupTree → Option (List Step)
other_groups types others at no_groups hs = None
other_groups types others at (group g inner rest) no_groups = Some (under Groups at [])
other_groups types others at (group g inner rest) (group h deeper after) =
    if same_head g h then or_else (option_map (under Groups at)
    (or_else (other_fields types others 0 g.fields h.fields) (or_else (other_groups types others 0 inner deeper) (other_data 0 g.vars h.vars))))
    (other_groups types others (at + 1) rest after) else Some (under Groups at [])

-- of a block: its fields, its groups, its data
abbrev pub other_parts : List TypeDef → List TypeDef → MessageDef → MessageDef → Option (List Step)
other_parts types others m n =
    or_else (other_fields types others 0 m.fields n.fields) (or_else (other_groups types others 0 m.groups n.groups) (other_data 0 m.vars n.vars))

abbrev pub other_messages : List TypeDef → List TypeDef → ℕ → List MessageDef → List MessageDef → Option (List Step)
other_messages types others at [] ns = None
other_messages types others at (m ∷ ms) [] = Some (under Messages at [])
other_messages types others at (m ∷ ms) (n ∷ ns) =
    if same_template m n then or_else (option_map (under Messages at) (other_parts types others m n)) (other_messages types others (at + 1) ms ns)
    else Some (under Messages at [])

abbrev pub first_other : Schema → Schema → Option (List Step)
first_other a b = other_messages a.types b.types 0 a.messages b.messages

-- ---- the first difference

-- in the order of one schema, or else in that of the other
abbrev pub first_difference : Schema → Schema → Option (List Step)
first_difference a b = or_else (first_other a b) (first_other b a)

-- where the older is no later, that of the older and the newer's projection; else that of the two themselves, and the whole if there is none
abbrev pub difference_by : Bool → Schema → Schema → Option (List Step)
difference_by true newer older = first_difference older (projected older.version newer)
difference_by false newer older = Some (unwrap_or (first_difference older newer) [])

-- the whole where id or byte order differ
abbrev pub difference_of : Schema → Schema → Option (List Step)
difference_of newer older =
    if nat_eq newer.id older.id && sameb order.the_type newer.order older.order then difference_by (nat_le older.version newer.version) newer older else Some []

-- what a refusal says: want of memory, or that the one does not extend the other, and where they differ first
abbrev pub Explains : Schema → Schema → SkewFault → Type 0
Explains newer older Memory = ⊤
Explains newer older (Differs path) = (¬ Extends newer older) × (difference_of newer older ≡ Some path)
