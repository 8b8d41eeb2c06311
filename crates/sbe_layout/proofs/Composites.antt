-- The items of the members of a field are those of the parts of its composite.
use Rattle.std.proofs.Common.{◌≡◌, ℕ, zero, suc, ◌<◌, ◌≤◌, ℤ, ◌∙◌, ap, subst, refl, Option, Some, None, List, [], ◌∷◌, ◌++◌, length, get_or, slice_get, arith}
use Rattle.schema_types.specs.declared.types.TypeDef.{TypeDef}
use Rattle.schema_types.specs.declared.types.MemberDef.{MemberDef}
use Rattle.schema_types.specs.declared.types.Presence.{Presence}
use Rattle.schema_types.specs.declared.types.Presence.TheVariants.{Required, Optional, Constant}
use Rattle.sbe_schema.specs.Offsets.{plus, offset_of, member_end}
use Rattle.sbe_layout.specs.declared.parts.Part.{Part}
use Rattle.sbe_layout.specs.declared.resolve.Resolved.{Resolved}
use Rattle.sbe_layout.specs.declared.resolve.Resolved.TheVariants.{Simple, Members}
use Rattle.sbe_layout.specs.Plans.{resolved, members_of, unless_constant, items_of_member, items_of_members}
use Rattle.sbe_layout.specs.Parts.{part_unless_constant, part_of, parts_of, parts_of_types, item_of_part, items_of_parts}

-- the part of a presence gives the item of that presence
part_item : (name : List ℕ) (since : ℤ) (start : ℕ) (presence : Presence) (p : Part) (rest : List Part) → items_of_parts name since start (part_unless_constant presence p ++ rest) ≡ unless_constant presence (item_of_part name since start p ∷ []) ++ items_of_parts name since start rest
part_item name since start Required p rest = refl
part_item name since start Optional p rest = refl
part_item name since start Constant p rest = refl

-- the part of a member gives the member's items
member_items : (types : List TypeDef) (name : List ℕ) (since : ℤ) (start end : ℕ) (m : MemberDef) (r : Option Resolved) (rest : List Part) → items_of_parts name since start (part_of types end m r ++ rest) ≡ items_of_member types name since (plus start (offset_of end m.offset)) m r ++ items_of_parts name since start rest
member_items types name since start end m (Some (Simple kind)) rest = part_item name since start m.presence _ rest
member_items types name since start end m (Some (Members at)) rest = refl
member_items types name since start end m None rest = refl

pub items_by_parts : (types : List TypeDef) (name : List ℕ) (since : ℤ) (start end : ℕ) (ms : List MemberDef) → items_of_parts name since start (parts_of types end ms) ≡ items_of_members types name since start end ms
items_by_parts types name since start end [] = refl
items_by_parts types name since start end (m ∷ ms) =
    member_items types name since start end m (resolved types m.type_name) (parts_of types (member_end types end m) ms)
    ∙ ap (λ items. items_of_member types name since (plus start (offset_of end m.offset)) m (resolved types m.type_name) ++ items) (items_by_parts types name since start (member_end types end m) ms)

none_behind : (types ts : List TypeDef) (at : ℕ) → length (parts_of_types types ts) ≤ at → [] ≡ parts_of types 0 (members_of (slice_get ts at))
none_behind types [] at behind = refl
none_behind types (t ∷ ts) zero behind = absurd (omega arith)
none_behind types (t ∷ ts) (suc at) behind = none_behind types ts at (omega arith)

some_in_place : (types ts : List TypeDef) (at : ℕ) (parts : List Part) → at < length (parts_of_types types ts) → parts ≡ get_or (parts_of_types types ts) at parts → parts ≡ parts_of types 0 (members_of (slice_get ts at))
some_in_place types [] at parts within is = absurd (omega arith)
some_in_place types (t ∷ ts) zero parts within is = is
some_in_place types (t ∷ ts) (suc at) parts within is = some_in_place types ts at parts (omega arith) is

-- behind the last list of parts there is no composite
pub parts_behind : (types : List TypeDef) (lists : List (List Part)) (at : ℕ) → lists ≡ parts_of_types types types → length lists ≤ at → [] ≡ parts_of types 0 (members_of (slice_get types at))
parts_behind types lists at whole behind = none_behind types types at (subst (λ ls. length ls ≤ at) whole behind)

-- the parts at a place are those of the type there
pub parts_in_place : (types : List TypeDef) (lists : List (List Part)) (at : ℕ) (parts : List Part) → lists ≡ parts_of_types types types → at < length lists → parts ≡ get_or lists at parts → parts ≡ parts_of types 0 (members_of (slice_get types at))
parts_in_place types lists at parts whole within is =
    some_in_place types types at parts (subst (λ ls. at < length ls) whole within) (subst (λ ls. parts ≡ get_or ls at parts) whole is)
