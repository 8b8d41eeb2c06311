-- Names that stand for the same type in two schemas have one size, and resolve to the same but for places.
use Rattle.std.proofs.Common.{◌≡◌, ℕ, suc, ◌+◌, ◌*◌, ◌∙◌, Bool, true, false, ◌&&◌, if◌then◌else◌, refl, sym, ap, Option, Some, None, option_map, List, [], ◌∷◌, slice_get, arith}
use Rattle.std.specs.Prelude.{unwrap_or}
use Rattle.std.specs.Ordering.{int_eq}
use Rattle.std.specs.Option.{option_eq}
use Rattle.std.specs.Cmp.Lexicographic.{pointwise}
use Rattle.std.proofs.lemmas.Bool.{false≢true}
use denote.Enum.Bare.{sameb}
use Rattle.lists.specs.Exact.{exact_option, exact_bare}
use Rattle.sbe_prim.specs.declared.Primitive.{Primitive}
use Rattle.sbe_prim.specs.Primitives.{size_of}
use Rattle.sbe_prim.specs.Names.{primitive_named}
use Rattle.schema_types.specs.Equal.{number_exact, kind_exact}
use Rattle.schema_types.specs.contracts.types.Presence as presence
use Rattle.schema_types.specs.contracts.types.ConstantPartialEq.TheImpl as constant
use Rattle.schema_types.specs.declared.types.TypeDef.{TypeDef}
use Rattle.schema_types.specs.declared.types.TypeKind.{TypeKind}
use Rattle.schema_types.specs.declared.types.TypeKind.TheVariants as kinds
use Rattle.schema_types.specs.declared.types.MemberDef.{MemberDef}
use Rattle.sbe_schema.specs.declared.meaning.Meaning.TheVariants as means
use Rattle.sbe_schema.specs.Names.{same_name}
use Rattle.sbe_schema.specs.Meanings.{type_named, meaning_of_kind, meaning_by, meaning_of}
use Rattle.sbe_schema.specs.Offsets.{plus, simple_size, taken, offset_of, member_end, members_end, size_of_kind, size_by, type_size}
use Rattle.sbe_schema.specs.Faults.{members_in}
use Rattle.sbe_layout.specs.declared.items.ItemKind.TheVariants.{Number, Enum, Set}
use Rattle.sbe_layout.specs.declared.resolve.Resolved.{Resolved}
use Rattle.sbe_layout.specs.declared.resolve.Resolved.TheVariants.{Simple, Members}
use Rattle.sbe_layout.specs.Plans.{resolved_kind, resolved_among, resolved_by, resolved, members_of}
use Rattle.sbe_skew.specs.SameTypes.{kind_by, kind_named, same_kind, same_member, same_kinds}

pub and_parts : (a b : Bool) → (a && b) ≡ true → (a ≡ true) × (b ≡ true)
and_parts true b t = (refl, t)
and_parts false b t = absurd (false≢true t)

-- ---- sizes

abbrev pub size_in : List TypeDef → Option TypeKind → ℕ
size_in types k = unwrap_or (option_map (size_of_kind types) k) 0

size_named : (types : List TypeDef) (p : Option Primitive) (k : Option TypeKind) → size_by types p k ≡ size_in types (kind_by p k)
size_named types (Some p) k = let e : size_of p ≡ size_of p * 1 = omega arith in e
size_named types None k = refl

pub size_is : (types : List TypeDef) (name : List ℕ) → type_size types name ≡ size_in types (kind_named types name)
size_is types name = size_named types (primitive_named name) (type_named name types)

meaning_named : (p : Option Primitive) (k : Option TypeKind) → meaning_by p k ≡ unwrap_or (option_map meaning_of_kind (kind_by p k)) means.Unknown
meaning_named (Some p) k = refl
meaning_named None k = refl

pub record SameMember (types others : List TypeDef) (m n : MemberDef) : Type 0 where
  pub offset : m.offset ≡ n.offset
  pub presence : m.presence ≡ n.presence
  pub kind : kind_named types m.type_name ≡ kind_named others n.type_name

pub member_parts : (types others : List TypeDef) (m n : MemberDef) → same_member types others m n ≡ true → SameMember types others m n
member_parts types others m n t =
    let a = and_parts (((same_name m.name n.name && option_eq int_eq m.offset n.offset) && sameb presence.the_type m.presence n.presence) && option_eq constant.eq-value.it m.value n.value) (same_kind (kind_named types m.type_name) (kind_named others n.type_name)) t in
    let b = and_parts ((same_name m.name n.name && option_eq int_eq m.offset n.offset) && sameb presence.the_type m.presence n.presence) (option_eq constant.eq-value.it m.value n.value) a.0 in
    let c = and_parts (same_name m.name n.name && option_eq int_eq m.offset n.offset) (sameb presence.the_type m.presence n.presence) b.0 in
    let d = and_parts (same_name m.name n.name) (option_eq int_eq m.offset n.offset) c.0 in
    record {
      offset = (number_exact m.offset n.offset).0 d.1;
      presence = (exact_bare presence.the_type tt m.presence n.presence).0 c.1;
      kind = (exact_option kind_exact (kind_named types m.type_name) (kind_named others n.type_name)).0 a.1;
    }

pub member_ends : (types others : List TypeDef) (end : ℕ) (m n : MemberDef) → SameMember types others m n → member_end types end m ≡ member_end others end n
member_ends types others end m n s =
    let meaning : meaning_of types m.type_name ≡ meaning_of others n.type_name =
    meaning_named (primitive_named m.type_name) (type_named m.type_name types)
    ∙ ap (λ k. unwrap_or (option_map meaning_of_kind k) means.Unknown) s.kind
    ∙ sym (meaning_named (primitive_named n.type_name) (type_named n.type_name others)) in
    λ i. plus (offset_of end (s.offset i)) (taken (s.presence i) (simple_size (meaning i)))

members_ends : (types others : List TypeDef) (end : ℕ) (ms ns : List MemberDef) → pointwise (same_member types others) ms ns ≡ true → members_end types end ms ≡ members_end others end ns
members_ends types others end [] [] t = refl
members_ends types others end [] (n ∷ ns) t = absurd (false≢true t)
members_ends types others end (m ∷ ms) [] t = absurd (false≢true t)
members_ends types others end (m ∷ ms) (n ∷ ns) t =
    let p = and_parts (same_member types others m n) (pointwise (same_member types others) ms ns) t in
    ap (λ e. members_end types e ms) (member_ends types others end m n (member_parts types others m n p.0)) ∙ members_ends types others (member_end others end n) ms ns p.1

sizes_alike : (types others : List TypeDef) (a b : Option TypeKind) → same_kinds types others a b ≡ true → size_in types a ≡ size_in others b
sizes_alike types others None b t = ap (size_in others) ((exact_option kind_exact None b).0 t)
sizes_alike types others (Some (kinds.Number p l x y z)) b t = ap (size_in others) ((exact_option kind_exact (Some (kinds.Number p l x y z)) b).0 t)
sizes_alike types others (Some (kinds.Enum p vs)) b t = ap (size_in others) ((exact_option kind_exact (Some (kinds.Enum p vs)) b).0 t)
sizes_alike types others (Some (kinds.Set p bs)) b t = ap (size_in others) ((exact_option kind_exact (Some (kinds.Set p bs)) b).0 t)
sizes_alike types others (Some (kinds.Composite ms)) None t = absurd (false≢true t)
sizes_alike types others (Some (kinds.Composite ms)) (Some (kinds.Number p l x y z)) t = absurd (false≢true t)
sizes_alike types others (Some (kinds.Composite ms)) (Some (kinds.Enum p vs)) t = absurd (false≢true t)
sizes_alike types others (Some (kinds.Composite ms)) (Some (kinds.Set p bs)) t = absurd (false≢true t)
sizes_alike types others (Some (kinds.Composite ms)) (Some (kinds.Composite ns)) t = members_ends types others 0 ms ns t

pub sizes_same : (types others : List TypeDef) (a b : List ℕ) → same_kinds types others (kind_named types a) (kind_named others b) ≡ true → type_size types a ≡ type_size others b
sizes_same types others a b t =
    size_is types a ∙ sizes_alike types others (kind_named types a) (kind_named others b) t ∙ sym (size_is others b)

-- ---- what a name resolves to, by its kind

abbrev pub Means : List TypeDef → Option TypeKind → Option Resolved → Type 0
Means types None r = r ≡ None
Means types (Some (kinds.Number p l x y z)) r = r ≡ Some (Simple (Number p l x y z))
Means types (Some (kinds.Enum p vs)) r = (at : ℕ) × (r ≡ Some (Simple (Enum p at)))
Means types (Some (kinds.Set p bs)) r = (at : ℕ) × (r ≡ Some (Simple (Set p at)))
Means types (Some (kinds.Composite ms)) r = (at : ℕ) × ((r ≡ Some (Members at)) × (members_of (slice_get types at) ≡ ms))

members_are : (name : List ℕ) (kind : TypeKind) → members_of (Some (record { name = name; kind = kind })) ≡ members_in kind
members_are name (kinds.Number p l x y z) = refl
members_are name (kinds.Enum p vs) = refl
members_are name (kinds.Set p bs) = refl
members_are name (kinds.Composite ms) = refl

means_kind : (types : List TypeDef) (at : ℕ) (kind : TypeKind) → members_of (slice_get types at) ≡ members_in kind → Means types (Some kind) (Some (resolved_kind at kind))
means_kind types at (kinds.Number p l x y z) e = refl
means_kind types at (kinds.Enum p vs) e = (at, refl)
means_kind types at (kinds.Set p bs) e = (at, refl)
means_kind types at (kinds.Composite ms) e = (at, (refl, e))

means_among : (types : List TypeDef) (at : ℕ) (ts : List TypeDef) (name : List ℕ) → ((j : ℕ) → slice_get types (at + j) ≡ slice_get ts j) → Means types (type_named name ts) (resolved_among at ts name)
means_among types at [] name h = refl
means_among types at (t ∷ ts) name h =
    let here : at + 0 ≡ at = omega arith in
    let first : slice_get types at ≡ Some t = ap (slice_get types) (sym here) ∙ h 0 in
    let next : (j : ℕ) → slice_get types (at + 1 + j) ≡ slice_get ts j = λ j. (let e : at + 1 + j ≡ at + suc j = omega arith in ap (slice_get types) e ∙ h (suc j)) in
    elim (same_name t.name name) as (λ b. Means types (if b then Some t.kind else type_named name ts) (if b then Some (resolved_kind at t.kind) else resolved_among (at + 1) ts name)) [
      | true ↦ means_kind types at t.kind (ap members_of first ∙ members_are t.name t.kind)
      | false ↦ means_among types (at + 1) ts name next
    ]

means_by : (types : List TypeDef) (p : Option Primitive) (k : Option TypeKind) (r : Option Resolved) → Means types k r → Means types (kind_by p k) (resolved_by p r)
means_by types (Some p) k r h = refl
means_by types None k r h = h

pub means_named : (types : List TypeDef) (name : List ℕ) → Means types (kind_named types name) (resolved types name)
means_named types name =
    means_by types (primitive_named name) (type_named name types) (resolved_among 0 types name) (means_among types 0 types name (λ j. (let e : 0 + j ≡ j = omega arith in ap (slice_get types) e)))
