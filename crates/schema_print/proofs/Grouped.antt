-- Groups that are written one by one.
use Rattle.std.proofs.Common.{◌≡◌, ℕ, ◌+◌, ◌<◌, List, [], ◌∷◌, ◌++◌, length, drop, get_or, map, ap, append_assoc, refl}
use Rattle.std.proofs.lemmas.List.{drop_more}
use Rattle.toml.specs.Data.{array}
use Rattle.toml.specs.View.{view, items_of}
use Rattle.toml.specs.declared.value.Value.{Value}
use Rattle.schema_types.specs.declared.groups.GroupDef.{GroupDef}
use Rattle.schema_types.specs.Views.{head_of, groups_of}
use Rattle.schema_print.specs.Written.{group_data, groups_list}

map_view_push : (vs : List Value) (v : Value) → map view (vs ++ v ∷ []) ≡ map view vs ++ view v ∷ []
map_view_push [] v = refl
map_view_push (x ∷ vs) v = ap (λ ds. view x ∷ ds) (map_view_push vs v)

-- one group more is written
pub one_more : (vs : List Value) (v : Value) (gs : List GroupDef) (i : ℕ) (g : GroupDef) → i < length gs → g ≡ get_or gs i g
    → view v ≡ group_data (head_of g) (array (items_of (groups_list g.groups)))
    → map view vs ++ groups_list (groups_of (drop i gs)) ≡ groups_list (groups_of gs)
    → map view (vs ++ v ∷ []) ++ groups_list (groups_of (drop (i + 1) gs)) ≡ groups_list (groups_of gs)
one_more vs v gs i g below is seen before =
    let split = rw (drop_more gs i g below, ← is) at before in
    rw (map_view_push vs v, append_assoc, seen) split
