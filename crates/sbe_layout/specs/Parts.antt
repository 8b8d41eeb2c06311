-- The parts of a composite: what its members give to each field of that type (SBE 1.0, "Composite data types").
use Rattle.std.specs.Prelude.{ℕ, ℤ, Option, Some, None, List, [], ◌∷◌, ◌++◌}
use Rattle.schema_types.specs.declared.types.TypeDef.{TypeDef}
use Rattle.schema_types.specs.declared.types.MemberDef.{MemberDef}
use Rattle.schema_types.specs.declared.types.Presence.{Presence}
use Rattle.schema_types.specs.declared.types.Presence.TheVariants.{Required, Optional, Constant}
use Rattle.sbe_schema.specs.Offsets.{plus, offset_of, member_end, type_size}
use Rattle.sbe_layout.specs.declared.items.ItemPlan.{ItemPlan}
use Rattle.sbe_layout.specs.declared.parts.Part.{Part}
use Rattle.sbe_layout.specs.declared.resolve.Resolved.{Resolved}
use Rattle.sbe_layout.specs.declared.resolve.Resolved.TheVariants.{Simple, Members}
use Rattle.sbe_layout.specs.Plans.{resolved, members_of, item}

-- a constant is no part
abbrev pub part_unless_constant : Presence → Part → List Part
part_unless_constant Required p = p ∷ []
part_unless_constant Optional p = p ∷ []
part_unless_constant Constant p = []

-- the part of a member, the member before ending at `end`
abbrev pub part_of : List TypeDef → ℕ → MemberDef → Option Resolved → List Part
part_of types end m (Some (Simple kind)) =
    part_unless_constant m.presence (record {
      name = m.name;
      place = offset_of end m.offset;
      size = type_size types m.type_name;
      presence = m.presence;
      kind = kind;
    })
part_of types end m (Some (Members at)) = []
part_of types end m None = []

-- the parts of members, the member before ending at `end`
abbrev pub parts_of : List TypeDef → ℕ → List MemberDef → List Part
parts_of types end [] = []
parts_of types end (m ∷ ms) = part_of types end m (resolved types m.type_name) ++ parts_of types (member_end types end m) ms

-- the parts of each type of a list
abbrev pub parts_of_types : List TypeDef → List TypeDef → List (List Part)
parts_of_types types [] = []
parts_of_types types (t ∷ ts) = parts_of types 0 (members_of (Some t)) ∷ parts_of_types types ts

-- the item of a part, of a field of that name and since that begins at `start`; 46 is the dot
abbrev pub item_of_part : List ℕ → ℤ → ℕ → Part → ItemPlan
item_of_part name since start p = item (name ++ 46 ∷ p.name) (plus start p.place) p.size since p.presence p.kind

abbrev pub items_of_parts : List ℕ → ℤ → ℕ → List Part → List ItemPlan
items_of_parts name since start [] = []
items_of_parts name since start (p ∷ ps) = item_of_part name since start p ∷ items_of_parts name since start ps
