-- What the maps from a type's name say of the types of a schema.
use Rattle.std.specs.Prelude.{◌≡◌, ℕ, Option, Some, None, unwrap_or, List}
use Rattle.std.specs.Option.{option_map}
use Rattle.std.specs.Ordering.{nat_cmp}
use Rattle.std.specs.Cmp.Lexicographic.{slice_cmp}
use Rattle.std.specs.BTreeMap.{BTreeMap, get}
use Rattle.sbe_schema.specs.declared.meaning.Meaning as meaning
use Rattle.sbe_schema.specs.declared.meaning.Meaning.TheVariants as means
use Rattle.sbe_schema.specs.declared.index.Index.{Index}
use Rattle.schema_types.specs.declared.types.TypeDef.{TypeDef}
use Rattle.schema_types.specs.declared.types.TypeKind.{TypeKind}
use Rattle.sbe_prim.specs.declared.Primitive.{Primitive}
use Rattle.sbe_prim.specs.Names.{primitive_named}
use Rattle.sbe_schema.specs.Meanings.{type_named, meaning_of_kind}
use Rattle.sbe_schema.specs.Offsets.{size_of_kind}

-- the map has, at each name, what is so of the first type of that name
pub record Holds {A : Type 0} (map : BTreeMap (List ℕ) A) (f : TypeKind → A) (types : List TypeDef) : Type 0 where
  pub at : (name : List ℕ) → get (slice_cmp nat_cmp) map name ≡ option_map f (type_named name types)

-- what a name stands for by such a map
abbrev pub meaning_or : Option Primitive → Option meaning.Meaning → meaning.Meaning
meaning_or (Some p) found = means.Number p 1
meaning_or None found = unwrap_or found means.Unknown

abbrev pub meaning_in : BTreeMap (List ℕ) meaning.Meaning → List ℕ → meaning.Meaning
meaning_in map name = meaning_or (primitive_named name) (get (slice_cmp nat_cmp) map name)

-- each name has what the first type of that name means, and its size
pub record Indexes (index : Index) : Type 0 where
  pub meanings : Holds index.meanings meaning_of_kind index.schema.now.types
  pub sizes : Holds index.sizes (size_of_kind index.schema.now.types) index.schema.now.types
