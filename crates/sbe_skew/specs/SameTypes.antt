-- When the names of types in two schemas stand for the same: their kinds are compared, and not their names (SBE 1.0, "Types").
use Rattle.std.specs.Prelude.{ℕ, Bool, ◌&&◌, Option, Some, None, List}
use Rattle.std.specs.Ordering.{int_eq}
use Rattle.std.specs.Option.{option_eq}
use Rattle.std.specs.Cmp.Lexicographic.{pointwise}
use denote.Enum.Bare.{sameb}
use Rattle.sbe_prim.specs.declared.Primitive.{Primitive}
use Rattle.sbe_prim.specs.Names.{primitive_named}
use Rattle.schema_types.specs.declared.types.TypeDef.{TypeDef}
use Rattle.schema_types.specs.declared.types.MemberDef.{MemberDef}
use Rattle.schema_types.specs.declared.types.TypeKind.{TypeKind}
use Rattle.schema_types.specs.declared.types.TypeKind.TheVariants.{Number, Composite}
use Rattle.schema_types.specs.contracts.types.Presence as presence
use Rattle.schema_types.specs.contracts.types.ConstantPartialEq.TheImpl as constant
use Rattle.schema_types.specs.contracts.types.TypeKindPartialEq.TheImpl as kind
use Rattle.sbe_schema.specs.Names.{same_name}
use Rattle.sbe_schema.specs.Meanings.{type_named}

-- a primitive is the number of one element that states nothing else
abbrev pub plain : Primitive → TypeKind
plain p = Number p 1 None None None

abbrev pub kind_by : Option Primitive → Option TypeKind → Option TypeKind
kind_by (Some p) found = Some (plain p)
kind_by None found = found

-- the kind that a name stands for: a primitive's, or that of the first type of the name
abbrev pub kind_named : List TypeDef → List ℕ → Option TypeKind
kind_named types name = kind_by (primitive_named name) (type_named name types)

abbrev pub same_kind : Option TypeKind → Option TypeKind → Bool
same_kind a b = option_eq kind.eq-value.it a b

-- two members agree in all but the names of their types, which stand for the same kind
abbrev pub same_member : List TypeDef → List TypeDef → MemberDef → MemberDef → Bool
same_member types others m n =
    (((same_name m.name n.name && option_eq int_eq m.offset n.offset) && sameb presence.the_type m.presence n.presence)
    && option_eq constant.eq-value.it m.value n.value)
    && same_kind (kind_named types m.type_name) (kind_named others n.type_name)

-- composites agree member by member, and all else literally
abbrev pub same_kinds : List TypeDef → List TypeDef → Option TypeKind → Option TypeKind → Bool
same_kinds types others (Some (Composite ms)) (Some (Composite ns)) = pointwise (same_member types others) ms ns
same_kinds types others a b = same_kind a b

-- the two names stand for the same
abbrev pub same_type : List TypeDef → List TypeDef → List ℕ → List ℕ → Bool
same_type types others a b = same_kinds types others (kind_named types a) (kind_named others b)
