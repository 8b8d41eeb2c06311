-- What the name of a type stands for (SBE 1.0, "Types"): a primitive, or the first type of that name.
use Rattle.std.specs.Prelude.{ℕ, if◌then◌else◌, Option, Some, None, unwrap_or, List, [], ◌∷◌}
use Rattle.std.specs.Option.{option_map}
use Rattle.sbe_prim.specs.declared.Primitive.{Primitive}
use Rattle.sbe_schema.specs.declared.meaning.Meaning as meaning
use Rattle.sbe_schema.specs.declared.meaning.Meaning.TheVariants as means
use Rattle.schema_types.specs.declared.types.TypeDef.{TypeDef}
use Rattle.schema_types.specs.declared.types.TypeKind.{TypeKind}
use Rattle.schema_types.specs.declared.types.TypeKind.TheVariants.{Number, Enum, Set, Composite}
use Rattle.sbe_schema.specs.Names.{same_name}
use Rattle.sbe_prim.specs.Names.{primitive_named}

abbrev pub type_named : List ℕ → List TypeDef → Option TypeKind
type_named name [] = None
type_named name (t ∷ ts) = if same_name t.name name then Some t.kind else type_named name ts

abbrev pub meaning_of_kind : TypeKind → meaning.Meaning
meaning_of_kind (Number prim length null low high) = means.Number prim length
meaning_of_kind (Enum prim values) = means.Code prim
meaning_of_kind (Set prim bits) = means.Code prim
meaning_of_kind (Composite members) = means.Composite

abbrev pub meaning_by : Option Primitive → Option TypeKind → meaning.Meaning
meaning_by (Some p) kind = means.Number p 1
meaning_by None kind = unwrap_or (option_map meaning_of_kind kind) means.Unknown

abbrev pub meaning_of : List TypeDef → List ℕ → meaning.Meaning
meaning_of types name = meaning_by (primitive_named name) (type_named name types)
