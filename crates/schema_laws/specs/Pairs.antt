-- Tables of a schema that have to differ, in pairs.
use Rattle.std.specs.Prelude.{◌≡◌, ℕ, ℤ, pos, ◌*◌, ◌≤◌, false, ◌⊎◌, ◌↔◌, true, is_some, Option, Some, None, List, [], ◌∷◌, ◌++◌}
use Rattle.std.specs.List.{Contains}
use Rattle.sbe_prim.specs.declared.Primitive.{Primitive}
use Rattle.sbe_prim.specs.Primitives.{size_of, least_of, greatest_of, lies_within}
use Rattle.schema_types.specs.declared.types.ValueDef.{ValueDef}
use Rattle.schema_types.specs.declared.types.BitDef.{BitDef}
use Rattle.sbe_schema.specs.declared.fault.PathStep.{PathStep}
use Rattle.sbe_schema.specs.declared.fault.TableArray.{TableArray}
use Rattle.sbe_schema.specs.declared.fault.TableArray.TheVariants.{Types, Values, Bits, Members, Messages, Fields, Groups, Data}
use Rattle.schema_types.specs.declared.schema.Schema.{Schema}
use Rattle.sbe_prim.specs.Names.{primitive_named}
use Rattle.sbe_schema.specs.Places.{Table, Place, whole, type_table, value_table, bit_table, member_table, message_table, field_table, group_table, data_table}
use Rattle.sbe_schema.specs.Walk.{walk}
use Rattle.sbe_schema.specs.Identity.{is_duplicate_name, is_duplicate_id}
use Rattle.sbe_schema.specs.Kinds.{is_bad_enum, is_bad_set}

-- the name of what stands at a place
abbrev pub name_of : Table → Option (List ℕ)
name_of whole = None
name_of (type_table t) = Some t.name
name_of (value_table prim v) = Some v.name
name_of (bit_table prim b) = Some b.name
name_of (member_table end m) = Some m.name
name_of (message_table m) = Some m.name
name_of (field_table least_since end f) = Some f.name
name_of (group_table parent least_since g) = Some g.name
name_of (data_table parent least_since d) = Some d.name

-- the lists whose names have to differ: fields, groups and data of one block count as one list
abbrev pub list_of : TableArray → TableArray
list_of Types = Types
list_of Values = Values
list_of Bits = Bits
list_of Members = Members
list_of Messages = Messages
list_of Fields = Fields
list_of Groups = Fields
list_of Data = Fields

-- two places are in the same list or block: all steps but the last are equal, and the last ones lead into one list
abbrev pub AreSiblings : List PathStep → List PathStep → Type 0
AreSiblings p q = (base : List PathStep) × (i : PathStep) × (j : PathStep) × (p ≡ base ++ i ∷ []) × (q ≡ base ++ j ∷ []) × (list_of i.array ≡ list_of j.array)

-- the two have a name, and it is the same
abbrev pub HaveOneName : Table → Table → Type 0
HaveOneName s t = (name : List ℕ) × (name_of s ≡ Some name) × (name_of t ≡ Some name)

-- a type with the name of a primitive
abbrev pub IsNamedAsPrimitive : Table → Type 0
IsNamedAsPrimitive whole = ⊥
IsNamedAsPrimitive (type_table t) = is_some (primitive_named t.name) ≡ true
IsNamedAsPrimitive (value_table prim v) = ⊥
IsNamedAsPrimitive (bit_table prim b) = ⊥
IsNamedAsPrimitive (member_table end m) = ⊥
IsNamedAsPrimitive (message_table m) = ⊥
IsNamedAsPrimitive (field_table least_since end f) = ⊥
IsNamedAsPrimitive (group_table parent least_since g) = ⊥
IsNamedAsPrimitive (data_table parent least_since d) = ⊥

-- A name is a duplicate exactly where a place before it, in the same list or block, has the same name, or it is a type's and a primitive's
abbrev pub DuplicateNamesAreFound : Type 0
DuplicateNamesAreFound = (schema : Schema) (before : List Place) (p : Place) (after : List Place) → walk schema ≡ before ++ p ∷ after
    → (is_duplicate_name p.names p.table ≡ true)
    ↔ (IsNamedAsPrimitive p.table ⊎ ((q : Place) × Contains before q × AreSiblings q.path_steps p.path_steps × HaveOneName q.table p.table))

-- ---- ids

-- the id of what stands at a place
abbrev pub id_of : Table → Option ℕ
id_of whole = None
id_of (type_table t) = None
id_of (value_table prim v) = None
id_of (bit_table prim b) = None
id_of (member_table end m) = None
id_of (message_table m) = Some m.id
id_of (field_table least_since end f) = Some f.id
id_of (group_table parent least_since g) = Some g.id
id_of (data_table parent least_since d) = Some d.id

-- two places of messages
abbrev pub AreMessages : List PathStep → List PathStep → Type 0
AreMessages p q = (i : PathStep) × (j : PathStep) × (p ≡ i ∷ []) × (q ≡ j ∷ []) × (i.array ≡ Messages) × (j.array ≡ Messages)

-- two places within one message, at any depth
abbrev pub AreWithinOneMessage : List PathStep → List PathStep → Type 0
AreWithinOneMessage p q =
    (m : PathStep) × (i : PathStep) × (j : PathStep) × (r : List PathStep) × (t : List PathStep) × (p ≡ m ∷ i ∷ r) × (q ≡ m ∷ j ∷ t) × (m.array ≡ Messages)

-- the two have an id, and it is the same
abbrev pub HaveOneId : Table → Table → Type 0
HaveOneId s t = (id : ℕ) × (id_of s ≡ Some id) × (id_of t ≡ Some id)

-- An id is a duplicate exactly where a place before it has the same id, and both are messages or both are elements of one message
abbrev pub DuplicateIdsAreFound : Type 0
DuplicateIdsAreFound = (schema : Schema) (before : List Place) (p : Place) (after : List Place) → walk schema ≡ before ++ p ∷ after
    → (is_duplicate_id p.numbers p.table ≡ true)
    ↔ ((q : Place) × Contains before q × (AreMessages q.path_steps p.path_steps ⊎ AreWithinOneMessage q.path_steps p.path_steps) × HaveOneId q.table p.table)

-- ---- values and bits

-- the number of a value or bit
abbrev pub number_of : Table → Option ℤ
number_of whole = None
number_of (type_table t) = None
number_of (value_table prim v) = Some v.value
number_of (bit_table prim b) = Some (pos b.bit)
number_of (member_table end m) = None
number_of (message_table m) = None
number_of (field_table least_since end f) = None
number_of (group_table parent least_since g) = None
number_of (data_table parent least_since d) = None

-- the two have a number, and it is the same
abbrev pub HaveOneNumber : Table → Table → Type 0
HaveOneNumber s t = (number : ℤ) × (number_of s ≡ Some number) × (number_of t ≡ Some number)

-- a value or bit before the place, in the same enum or set, has the same number
abbrev pub IsNumberedBefore : List Place → Place → Type 0
IsNumberedBefore before p = (q : Place) × Contains before q × AreSiblings q.path_steps p.path_steps × HaveOneNumber q.table p.table

-- A value breaks the rule of enums exactly where a value before it in the same enum has the same number, or its number is no value of the primitive
abbrev pub BadValuesAreFound : Type 0
BadValuesAreFound = (schema : Schema) (before : List Place) (p : Place) (after : List Place) → walk schema ≡ before ++ p ∷ after
    → (prim : Primitive) (v : ValueDef) → p.table ≡ value_table prim v
    → (is_bad_enum p.numbers p.table ≡ true) ↔ (IsNumberedBefore before p ⊎ (lies_within (least_of prim) (greatest_of prim) v.value ≡ false))

-- A bit breaks the rule of sets exactly where a bit before it in the same set has the same number, or its number is past the width of the primitive
abbrev pub BadBitsAreFound : Type 0
BadBitsAreFound = (schema : Schema) (before : List Place) (p : Place) (after : List Place) → walk schema ≡ before ++ p ∷ after
    → (prim : Primitive) (b : BitDef) → p.table ≡ bit_table prim b
    → (is_bad_set p.numbers p.table ≡ true) ↔ (IsNumberedBefore before p ⊎ (8 * size_of prim ≤ b.bit))
