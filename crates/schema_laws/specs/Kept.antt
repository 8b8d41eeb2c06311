-- The tables of a checked schema differ, each from every other that it has to differ from.
use Rattle.std.specs.Prelude.{◌≡◌, ◌⊎◌, IsTrue, List, ◌∷◌, ◌++◌}
use Rattle.schema_types.specs.declared.schema.Schema.{Schema}
use Rattle.sbe_schema.specs.Places.{Place}
use Rattle.sbe_schema.specs.Walk.{walk}
use Rattle.sbe_schema.specs.Checked.{is_checked}
use Rattle.schema_laws.specs.Pairs.{AreSiblings, HaveOneName, IsNamedAsPrimitive, AreMessages, AreWithinOneMessage, HaveOneId, HaveOneNumber}

-- no two places of a list are in this relation, in their order
abbrev pub NoTwo : (Place → Place → Type 0) → List Place → Type 0
NoTwo Alike places = (before : List Place) (q : Place) (between : List Place) (p : Place) (after : List Place) → places ≡ before ++ q
    ∷ (between ++ p ∷ after) → Alike q p → ⊥

-- one name in one list or block
abbrev pub ShareName : Place → Place → Type 0
ShareName q p = AreSiblings q.path_steps p.path_steps × HaveOneName q.table p.table

-- one id among the messages, or within one message
abbrev pub ShareId : Place → Place → Type 0
ShareId q p = (AreMessages q.path_steps p.path_steps ⊎ AreWithinOneMessage q.path_steps p.path_steps) × HaveOneId q.table p.table

-- one number in one enum or set
abbrev pub ShareNumber : Place → Place → Type 0
ShareNumber q p = AreSiblings q.path_steps p.path_steps × HaveOneNumber q.table p.table

-- In a checked schema no two tables of one list or block have one name
abbrev pub CheckedNamesDiffer : Type 0
CheckedNamesDiffer = (schema : Schema) → IsTrue (is_checked schema) → NoTwo ShareName (walk schema)

-- and no type has the name of a primitive
abbrev pub CheckedTypesAreNoPrimitives : Type 0
CheckedTypesAreNoPrimitives = (schema : Schema) → IsTrue (is_checked schema)
    → (before : List Place) (p : Place) (after : List Place) → walk schema ≡ before ++ p ∷ after → IsNamedAsPrimitive p.table → ⊥

-- In a checked schema no two messages have one id, nor have two elements of one message
abbrev pub CheckedIdsDiffer : Type 0
CheckedIdsDiffer = (schema : Schema) → IsTrue (is_checked schema) → NoTwo ShareId (walk schema)

-- In a checked schema no two values of one enum, and no two bits of one set, have one number
abbrev pub CheckedNumbersDiffer : Type 0
CheckedNumbersDiffer = (schema : Schema) → IsTrue (is_checked schema) → NoTwo ShareNumber (walk schema)
