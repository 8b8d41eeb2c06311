-- What a name of a checked schema stands for: an item that can be read and written, or members that follow one another.
use Rattle.std.proofs.Common.{◌≡◌, ℕ, zero, suc, ◌+◌, ◌*◌, ◌<◌, refl, sym, ap, ◌∙◌, subst, Bool, true, false, not, ◌&&◌, ◌||◌, nat_lt, if◌then◌else◌, Option, Some, None, unwrap_or, List, [], ◌∷◌, slice_get, arith}
use Rattle.std.specs.Prelude.{⊤}
use Rattle.std.specs.Option.{option_map}
use Rattle.std.specs.List.{AllByRecursion}
use Rattle.std.proofs.lemmas.Bool.{or_parts, or_right, not-false, true≢false, ltb-true}
use Rattle.sbe_prim.specs.declared.Primitive.{Primitive}
use Rattle.sbe_prim.specs.Primitives.{size_of, is_integer, least_of, greatest_of, lies_within, holds}
use Rattle.sbe_prim.specs.Names.{primitive_named}
use Rattle.schema_types.specs.declared.types.TypeDef.{TypeDef}
use Rattle.schema_types.specs.declared.types.TypeKind.{TypeKind}
use Rattle.schema_types.specs.declared.types.TypeKind.TheVariants.{Number, Enum, Set, Composite}
use Rattle.schema_types.specs.declared.types.ValueDef.{ValueDef}
use Rattle.schema_types.specs.declared.types.BitDef.{BitDef}
use Rattle.sbe_schema.specs.declared.meaning.Meaning.TheVariants.{Unknown}
use Rattle.sbe_schema.specs.Names.{same_name}
use Rattle.sbe_schema.specs.Meanings.{type_named, meaning_of_kind, meaning_by, meaning_of}
use Rattle.sbe_schema.specs.Offsets.{simple_size, members_end, size_of_kind, size_by, type_size}
use Rattle.sbe_schema.specs.Kinds.{is_char, is_uint8, is_uint16, is_uint32, is_uint64, is_empty}
use Rattle.sbe_schema.specs.Limits.{is_unheld}
use Rattle.sbe_layout.specs.declared.resolve.Resolved.{Resolved}
use Rattle.sbe_layout.specs.declared.resolve.Resolved.TheVariants.{Simple, Members}
use Rattle.sbe_layout.specs.Plans.{resolved_kind, resolved_among, resolved_by, resolved, members_of, listing_of, listings_of}
use Rattle.sbe_layout.specs.Legal.{size_of_item, is_legal_kind, ListsValues, ListsBits, IsListed}
use Rattle.sbe_layout.proofs.Kept.{MembersFit, ValuesFit, BitsFit, KindFits, TypesFit}

-- a name stands for an item of this size, or for members that end there; `simple` is its size as a member
abbrev pub Fits : List TypeDef → ℕ → ℕ → Option Resolved → Type 0
Fits types size simple None = ⊤
Fits types size simple (Some (Simple kind)) =
    (size ≡ size_of_item kind) × ((simple ≡ size) × ((is_legal_kind kind ≡ true) × IsListed (listings_of types) kind))
Fits types size simple (Some (Members at)) =
    (size ≡ members_end types 0 (members_of (slice_get types at))) × MembersFit types 0 (members_of (slice_get types at))

-- a test fails where the test of its opposite, in parts, does
whole_legal : (a b c : Bool) → (a && not b) ≡ false → c ≡ false → ((not a || b) && not c) ≡ true
whole_legal true true false e f = refl
whole_legal true false c e f = absurd (true≢false e)
whole_legal false b false e f = refl
whole_legal false b true e f = absurd (true≢false f)
whole_legal true true true e f = absurd (true≢false f)

-- what a type lists stands at its place
listing_at : (ts : List TypeDef) (at : ℕ) → slice_get (listings_of ts) at ≡ option_map (λ t. listing_of t.kind) (slice_get ts at)
listing_at [] at = refl
listing_at (t ∷ ts) zero = refl
listing_at (t ∷ ts) (suc at) = listing_at ts at

each_held : (prim : Primitive) (vs : List ValueDef) → ValuesFit prim vs → AllByRecursion (λ v. holds prim v.value ≡ true) vs
each_held prim [] h = tt
each_held prim (v ∷ vs) h =
    (or_right (not (is_integer prim)) (lies_within (least_of prim) (greatest_of prim) v.value) h.0, each_held prim vs h.1)

each_below : (prim : Primitive) (bs : List BitDef) → BitsFit prim bs → AllByRecursion (λ b. b.bit < 8 * size_of prim) bs
each_below prim [] h = tt
each_below prim (b ∷ bs) h = (ltb-true b.bit (8 * size_of prim) h.0, each_below prim bs h.1)

-- the type of a name at a place
kind_fits : (types : List TypeDef) (at : ℕ) (name : List ℕ) (kind : TypeKind) → slice_get types at ≡ Some (record { name = name; kind = kind }) → KindFits types kind → Fits types (size_of_kind types kind) (simple_size (meaning_of_kind kind)) (Some (resolved_kind at kind))
kind_fits types at name (Number prim length null low high) found k =
    let h = or_parts (nat_lt 1 length && not (is_char prim || is_uint8 prim)) (is_unheld prim null || (is_unheld prim low || is_unheld prim high)) k.limit in
    (refl, (refl, (whole_legal (nat_lt 1 length) (is_char prim || is_uint8 prim) (is_unheld prim null || (is_unheld prim low || is_unheld prim high)) h.0 h.1, tt)))
kind_fits types at name (Enum prim values) found k =
    let h = or_parts (not (is_char prim || (is_uint8 prim || is_uint16 prim))) (is_empty values) k.enum in
    let listed = listing_at types at ∙ ap (option_map (λ t. listing_of t.kind)) found in
    (refl, (refl, (not-false (is_char prim || (is_uint8 prim || is_uint16 prim)) h.0, subst (ListsValues prim) (sym listed) (ap not h.1, each_held prim values k.listed))))
kind_fits types at name (Set prim bits) found k =
    let listed = listing_at types at ∙ ap (option_map (λ t. listing_of t.kind)) found in
    (refl, (refl, (not-false ((is_uint8 prim || is_uint16 prim) || (is_uint32 prim || is_uint64 prim)) k.set, subst (ListsBits prim) (sym listed) (each_below prim bits k.listed))))
kind_fits types at name (Composite members) found k =
    let P : Option TypeDef → Type 0 = λ t. (members_end types 0 members ≡ members_end types 0 (members_of t)) × MembersFit types 0 (members_of t) in
    subst P (sym found) (refl, k.members)

fits_among : (types : List TypeDef) (at : ℕ) (ts : List TypeDef) (name : List ℕ) → ((k : ℕ) → slice_get types (at + k) ≡ slice_get ts k) → TypesFit types ts
    → Fits types (unwrap_or (option_map (size_of_kind types) (type_named name ts)) 0) (simple_size (unwrap_or (option_map meaning_of_kind (type_named name ts)) Unknown)) (resolved_among at ts name)
fits_among types at [] name places k = tt
fits_among types at (t ∷ ts) name places k =
    let here : slice_get types at ≡ Some t = ap (slice_get types) (omega arith) ∙ places 0 in
    elim (same_name t.name name) as (λ b. Fits types (unwrap_or (option_map (size_of_kind types) (if b then Some t.kind else type_named name ts)) 0) (simple_size (unwrap_or (option_map meaning_of_kind (if b then Some t.kind else type_named name ts)) Unknown)) (if b then Some (resolved_kind at t.kind) else resolved_among (at + 1) ts name)) [
      | true ↦ kind_fits types at t.name t.kind here k.0
      | false ↦ fits_among types (at + 1) ts name (λ j. ap (slice_get types) (omega arith) ∙ places (suc j)) k.1
    ]

once : (n : ℕ) → n ≡ n * 1
once n = omega arith

fits_by : (types : List TypeDef) (name : List ℕ) (o : Option Primitive) → TypesFit types types
    → Fits types (size_by types o (type_named name types)) (simple_size (meaning_by o (type_named name types))) (resolved_by o (resolved_among 0 types name))
fits_by types name (Some p) k = (once (size_of p), (sym (once (size_of p)), (refl, tt)))
fits_by types name None k = fits_among types 0 types name (λ j. ap (slice_get types) (omega arith)) k

pub fits : (types : List TypeDef) (name : List ℕ) → TypesFit types types → Fits types (type_size types name) (simple_size (meaning_of types name)) (resolved types name)
fits types name k = fits_by types name (primitive_named name) k
