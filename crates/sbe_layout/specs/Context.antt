-- What the layout knows of the types of a schema.
use Rattle.std.specs.Prelude.{◌≡◌, ℕ, Option, List}
use Rattle.std.specs.Ordering.{nat_cmp}
use Rattle.std.specs.Cmp.Lexicographic.{slice_cmp}
use Rattle.std.specs.BTreeMap.{BTreeMap, get}
use Rattle.schema_types.specs.declared.types.TypeDef.{TypeDef}
use Rattle.sbe_prim.specs.Names.{primitive_named}
use Rattle.sbe_schema.specs.Indexed.{Indexes}
use Rattle.sbe_layout.specs.declared.resolve.Resolved.{Resolved}
use Rattle.sbe_layout.specs.declared.resolve.Types.{Types}
use Rattle.sbe_layout.specs.Plans.{resolved_among, resolved_by}
use Rattle.sbe_layout.specs.Parts.{parts_of_types}

-- the map has, at each name, what the first type of that name stands for, the types being counted from `at`
pub record Resolves (map : BTreeMap (List ℕ) Resolved) (at : ℕ) (types : List TypeDef) : Type 0 where
  pub found : (name : List ℕ) → get (slice_cmp nat_cmp) map name ≡ resolved_among at types name

-- what a name stands for by such a map
abbrev pub resolved_in : BTreeMap (List ℕ) Resolved → List ℕ → Option Resolved
resolved_in map name = resolved_by (primitive_named name) (get (slice_cmp nat_cmp) map name)

-- the names are resolved, and the parts are those of each type, in order
pub record Knows (t : Types) : Type 0 where
  pub indexed : Indexes t.index
  pub resolves : Resolves t.names 0 t.index.schema.now.types
  pub parts : t.parts.items ≡ parts_of_types t.index.schema.now.types t.index.schema.now.types
