-- What the tables of a checked schema keep, list by list.
use Rattle.std.proofs.Common.{◌≡◌, ℕ, ◌+◌, ◌*◌, ℤ, pos, refl, ap, ◌∙◌, true, false, not, ◌&&◌, ◌||◌, nat_lt, List, [], ◌∷◌, ◌++◌}
use Rattle.std.specs.Prelude.{⊤, Bool, IsTrue, int_lt}
use Rattle.std.proofs.lemmas.Bool.{and_parts, or_parts, not-true, not-false}
use Rattle.std.specs.List.{AllByRecursion, list_any}
use Rattle.schema_types.specs.declared.schema.Schema.{Schema}
use Rattle.schema_types.specs.declared.types.TypeDef.{TypeDef}
use Rattle.schema_types.specs.declared.types.TypeKind.{TypeKind}
use Rattle.schema_types.specs.declared.types.TypeKind.TheVariants.{Number, Enum, Set, Composite}
use Rattle.schema_types.specs.declared.types.MemberDef.{MemberDef}
use Rattle.schema_types.specs.declared.types.ValueDef.{ValueDef}
use Rattle.schema_types.specs.declared.types.BitDef.{BitDef}
use Rattle.sbe_prim.specs.declared.Primitive.{Primitive}
use Rattle.sbe_prim.specs.Primitives.{size_of, least_of, greatest_of, lies_within}
use Rattle.schema_types.specs.declared.messages.FieldDef.{FieldDef}
use Rattle.schema_types.specs.declared.messages.DataDef.{DataDef}
use Rattle.sbe_schema.specs.declared.fault.SchemaKind.{SchemaKind}
use Rattle.sbe_schema.specs.declared.fault.PathStep.{PathStep}
use Rattle.sbe_schema.specs.declared.parent.Parent.{Parent}
use Rattle.sbe_schema.specs.Names.{Names, Numbers}
use Rattle.sbe_schema.specs.Places.{Place, type_table, value_table, bit_table, member_table, field_table, data_table}
use Rattle.sbe_schema.specs.Offsets.{member_end, field_end}
use Rattle.sbe_schema.specs.Layout.{is_below}
use Rattle.sbe_schema.specs.Kinds.{is_dimension, is_uint32, is_bad_enum_kind, is_bad_set_kind}
use Rattle.sbe_schema.specs.Versions.{is_out_of_turn, is_not_with_group}
use Rattle.sbe_schema.specs.Limits.{is_large_kind}
use Rattle.std.specs.Int.{int_max}
use Rattle.std.specs.FinSet as set
use Rattle.sbe_schema.specs.declared.fault.TableArray.TheVariants.{Types, Values, Bits, Members, Fields, Data}
use Rattle.sbe_schema.specs.Walk.{path_step, place, walk_values, walk_bits, walk_members, walk_kind, walk_type, walk_types, walk_fields, walk_data}
use Rattle.sbe_schema.specs.Walk.{walk}
use Rattle.sbe_schema.specs.Faults.{has_fault}
use Rattle.sbe_schema.specs.Checked.{occurs, rules_in_order, has_none_of, is_checked}
use Rattle.sbe_schema.proofs.Found.{walk_finds}

-- a place keeps some rules, and all of some places keep all
abbrev pub keeps : Schema → List SchemaKind → Place → Bool
keeps s [] p = true
keeps s (kind ∷ kinds) p = not (occurs s kind p) && keeps s kinds p

abbrev pub all_keep : Schema → List Place → Bool
all_keep s [] = true
all_keep s (p ∷ ps) = keeps s rules_in_order p && all_keep s ps

-- no place breaks any of some rules
abbrev BreakNone : Schema → List SchemaKind → List Place → Type 0
BreakNone s kinds ps = AllByRecursion (λ kind. list_any (occurs s kind) ps ≡ false) kinds

no_fault : (s : Schema) (kinds : List SchemaKind) → has_none_of s kinds ≡ true → BreakNone s kinds (walk s)
no_fault s [] e = tt
no_fault s (k ∷ ks) e =
    let h = and_parts (not (has_fault s k)) (has_none_of s ks) e in
    (walk_finds s k ∙ not-true (has_fault s k) h.0, no_fault s ks h.1)

first_keeps : (s : Schema) (kinds : List SchemaKind) (p : Place) (ps : List Place) → BreakNone s kinds (p ∷ ps) → (keeps s kinds p ≡ true) × BreakNone s kinds ps
first_keeps s [] p ps h = (refl, tt)
first_keeps s (k ∷ ks) p ps h =
    let both = or_parts (occurs s k p) (list_any (occurs s k) ps) h.0 in
    let more = first_keeps s ks p ps h.1 in
    (ap (λ b. not b && keeps s ks p) both.0 ∙ more.0, (both.1, more.1))

each_keeps : (s : Schema) (ps : List Place) → BreakNone s rules_in_order ps → all_keep s ps ≡ true
each_keeps s [] h = refl
each_keeps s (p ∷ ps) h =
    let first = first_keeps s rules_in_order p ps h in
    ap (λ b. b && all_keep s ps) first.0 ∙ each_keeps s ps first.1

-- the tables of a checked schema keep all rules
pub checked_keep : (s : Schema) → IsTrue (is_checked s) → all_keep s (walk s) ≡ true
unfolding is_checked
checked_keep s checked = each_keeps s (walk s) (no_fault s rules_in_order checked)

-- a table breaks none of some rules
abbrev pub KeepsAll : Schema → List SchemaKind → Place → Type 0
KeepsAll s kinds p = AllByRecursion (λ kind. occurs s kind p ≡ false) kinds

keeps_each : (s : Schema) (kinds : List SchemaKind) (p : Place) → keeps s kinds p ≡ true → KeepsAll s kinds p
keeps_each s [] p e = tt
keeps_each s (k ∷ ks) p e =
    let h = and_parts (not (occurs s k p)) (keeps s ks p) e in
    (not-true (occurs s k p) h.0, keeps_each s ks p h.1)

-- the first of some tables, and the others
pub kept_first : (s : Schema) (p : Place) (ps : List Place) → all_keep s (p ∷ ps) ≡ true → KeepsAll s rules_in_order p × (all_keep s ps ≡ true)
kept_first s p ps e =
    let h = and_parts (keeps s rules_in_order p) (all_keep s ps) e in
    (keeps_each s rules_in_order p h.0, h.1)

pub kept_parts : (s : Schema) (xs ys : List Place) → all_keep s (xs ++ ys) ≡ true → (all_keep s xs ≡ true) × (all_keep s ys ≡ true)
kept_parts s [] ys e = (refl, e)
kept_parts s (p ∷ xs) ys e =
    let h = and_parts (keeps s rules_in_order p) (all_keep s (xs ++ ys)) e in
    let r = kept_parts s xs ys h.1 in
    (ap (λ b. b && all_keep s xs) h.0 ∙ r.0, r.1)

-- ---- fields and data

-- no field begins below the end of the field before it, nor ends past 16,384
abbrev pub FieldsFit : List TypeDef → ℕ → List FieldDef → Type 0
FieldsFit types end [] = ⊤
FieldsFit types end (f ∷ fs) =
    (is_below f.offset end ≡ false) × ((nat_lt 16384 (field_end types end f) ≡ false) × FieldsFit types (field_end types end f) fs)

pub fields_fit : (s : Schema) (base : List PathStep) (names : Names) (ids : Numbers) (least_since : ℤ) (end at : ℕ) (fs : List FieldDef) → all_keep s (walk_fields s.types base names ids least_since end at fs) ≡ true → FieldsFit s.types end fs
fields_fit s base names ids least_since end at [] e = tt
fields_fit s base names ids least_since end at (f ∷ fs) e =
    let next = walk_fields s.types base (set.insert names f.name) (set.insert ids (pos f.id)) (int_max least_since f.since) (field_end s.types end f) (at + 1) fs in
    let h = kept_first s (place base Fields at names ids (field_table least_since end f)) next e in
    let here = or_parts (is_below f.offset end) (nat_lt 16384 (field_end s.types end f)) h.0.1.1.1.0 in
    (here.0, (here.1, fields_fit s base (set.insert names f.name) (set.insert ids (pos f.id)) (int_max least_since f.since) (field_end s.types end f) (at + 1) fs h.1))

-- no field came after the version
abbrev pub FieldsCame : ℕ → List FieldDef → Type 0
FieldsCame version fs = AllByRecursion (λ f. int_lt (pos version) f.since ≡ false) fs

pub fields_came : (s : Schema) (base : List PathStep) (names : Names) (ids : Numbers) (least_since : ℤ) (end at : ℕ) (fs : List FieldDef) → all_keep s (walk_fields s.types base names ids least_since end at fs) ≡ true → FieldsCame s.version fs
fields_came s base names ids least_since end at [] e = tt
fields_came s base names ids least_since end at (f ∷ fs) e =
    let next = walk_fields s.types base (set.insert names f.name) (set.insert ids (pos f.id)) (int_max least_since f.since) (field_end s.types end f) (at + 1) fs in
    let h = kept_first s (place base Fields at names ids (field_table least_since end f)) next e in
    ((or_parts (int_lt (pos s.version) f.since) (int_lt f.since least_since) h.0.1.1.1.1.1.1.1.1.1.0).0, fields_came s base (set.insert names f.name) (set.insert ids (pos f.id)) (int_max least_since f.since) (field_end s.types end f) (at + 1) fs h.1)

abbrev pub DataFit : ℕ → List DataDef → Type 0
DataFit version ds =
    AllByRecursion (λ d. (int_lt (pos version) d.since ≡ false) × (not (is_dimension d.length || is_uint32 d.length) ≡ false)) ds

pub data_fit : (s : Schema) (base : List PathStep) (parent : Parent) (names : Names) (ids : Numbers) (least_since : ℤ) (at : ℕ) (ds : List DataDef) → all_keep s (walk_data base parent names ids least_since at ds) ≡ true → DataFit s.version ds
data_fit s base parent names ids least_since at [] e = tt
data_fit s base parent names ids least_since at (d ∷ ds) e =
    let next = walk_data base parent (set.insert names d.name) (set.insert ids (pos d.id)) (int_max least_since d.since) (at + 1) ds in
    let h = kept_first s (place base Data at names ids (data_table parent least_since d)) next e in
    let came = or_parts (is_out_of_turn s.version least_since d.since) (is_not_with_group parent d.since) h.0.1.1.1.1.1.1.1.1.1.0 in
    (((or_parts (int_lt (pos s.version) d.since) (int_lt d.since least_since) came.0).0, h.0.1.1.1.1.1.1.1.1.0), data_fit s base parent (set.insert names d.name) (set.insert ids (pos d.id)) (int_max least_since d.since) (at + 1) ds h.1)

-- ---- types

-- no member begins below the end of the member before it
abbrev pub MembersFit : List TypeDef → ℕ → List MemberDef → Type 0
MembersFit types end [] = ⊤
MembersFit types end (m ∷ ms) = (is_below m.offset end ≡ false) × MembersFit types (member_end types end m) ms

members_fit : (s : Schema) (base : List PathStep) (names : Names) (end at : ℕ) (ms : List MemberDef) → all_keep s (walk_members s.types base names end at ms) ≡ true → MembersFit s.types end ms
members_fit s base names end at [] e = tt
members_fit s base names end at (m ∷ ms) e =
    let next = walk_members s.types base (set.insert names m.name) (member_end s.types end m) (at + 1) ms in
    let h = kept_first s (place base Members at names set.empty (member_table end m)) next e in
    (h.0.1.1.1.0, members_fit s base (set.insert names m.name) (member_end s.types end m) (at + 1) ms h.1)

-- each value lies between the ends of what the primitive's bytes hold
abbrev pub ValuesFit : Primitive → List ValueDef → Type 0
ValuesFit prim vs = AllByRecursion (λ v. lies_within (least_of prim) (greatest_of prim) v.value ≡ true) vs

values_fit : (s : Schema) (base : List PathStep) (prim : Primitive) (names : Names) (numbers : Numbers) (at : ℕ) (vs : List ValueDef) → all_keep s (walk_values base prim names numbers at vs) ≡ true → ValuesFit prim vs
values_fit s base prim names numbers at [] e = tt
values_fit s base prim names numbers at (v ∷ vs) e =
    let next = walk_values base prim (set.insert names v.name) (set.insert numbers v.value) (at + 1) vs in
    let h = kept_first s (place base Values at names numbers (value_table prim v)) next e in
    let held = lies_within (least_of prim) (greatest_of prim) v.value in
    (not-false held (or_parts (set.contains numbers v.value) (not held) h.0.1.1.1.1.1.0).1, values_fit s base prim (set.insert names v.name) (set.insert numbers v.value) (at + 1) vs h.1)

-- each bit lies below the primitive's width
abbrev pub BitsFit : Primitive → List BitDef → Type 0
BitsFit prim bs = AllByRecursion (λ b. nat_lt b.bit (8 * size_of prim) ≡ true) bs

bits_fit : (s : Schema) (base : List PathStep) (prim : Primitive) (names : Names) (numbers : Numbers) (at : ℕ) (bs : List BitDef) → all_keep s (walk_bits base prim names numbers at bs) ≡ true → BitsFit prim bs
bits_fit s base prim names numbers at [] e = tt
bits_fit s base prim names numbers at (b ∷ bs) e =
    let next = walk_bits base prim (set.insert names b.name) (set.insert numbers (pos b.bit)) (at + 1) bs in
    let h = kept_first s (place base Bits at names numbers (bit_table prim b)) next e in
    let low = nat_lt b.bit (8 * size_of prim) in
    (not-false low (or_parts (set.contains numbers (pos b.bit)) (not low) h.0.1.1.1.1.1.1.0).1, bits_fit s base prim (set.insert names b.name) (set.insert numbers (pos b.bit)) (at + 1) bs h.1)

abbrev pub ListFits : TypeKind → Type 0
ListFits (Enum prim values) = ValuesFit prim values
ListFits (Set prim bits) = BitsFit prim bits
ListFits (Number prim length null low high) = ⊤
ListFits (Composite members) = ⊤

list_fits : (s : Schema) (base : List PathStep) (kind : TypeKind) → all_keep s (walk_kind s.types base kind) ≡ true → ListFits kind
list_fits s base (Enum prim values) e = values_fit s base prim set.empty set.empty 0 values e
list_fits s base (Set prim bits) e = bits_fit s base prim set.empty set.empty 0 bits e
list_fits s base (Number prim length null low high) e = tt
list_fits s base (Composite members) e = tt

abbrev pub MembersOfFit : List TypeDef → TypeKind → Type 0
MembersOfFit types (Composite members) = MembersFit types 0 members
MembersOfFit types (Number prim length null low high) = ⊤
MembersOfFit types (Enum prim values) = ⊤
MembersOfFit types (Set prim bits) = ⊤

pub record KindFits (types : List TypeDef) (kind : TypeKind) : Type 0 where
  pub enum : is_bad_enum_kind kind ≡ false
  pub set : is_bad_set_kind kind ≡ false
  pub limit : is_large_kind kind ≡ false
  pub listed : ListFits kind
  pub members : MembersOfFit types kind

members_of_fit : (s : Schema) (base : List PathStep) (kind : TypeKind) → all_keep s (walk_kind s.types base kind) ≡ true → MembersOfFit s.types kind
members_of_fit s base (Composite members) e = members_fit s base set.empty 0 0 members e
members_of_fit s base (Number prim length null low high) e = tt
members_of_fit s base (Enum prim values) e = tt
members_of_fit s base (Set prim bits) e = tt

type_fits : (s : Schema) (names : Names) (at : ℕ) (t : TypeDef) → all_keep s (walk_type s.types names at t) ≡ true → KindFits s.types t.kind
type_fits s names at t e =
    let inner = path_step Types at ∷ [] in
    let h = kept_first s (place [] Types at names set.empty (type_table t)) (walk_kind s.types inner t.kind) e in
    record {
      enum = h.0.1.1.1.1.1.0;
      set = h.0.1.1.1.1.1.1.0;
      limit = h.0.1.1.1.1.1.1.1.1.1.1.0;
      listed = list_fits s inner t.kind h.1;
      members = members_of_fit s inner t.kind h.1;
    }

abbrev pub TypesFit : List TypeDef → List TypeDef → Type 0
TypesFit types ts = AllByRecursion (λ t. KindFits types t.kind) ts

pub types_fit : (s : Schema) (names : Names) (at : ℕ) (ts : List TypeDef) → all_keep s (walk_types s.types names at ts) ≡ true → TypesFit s.types ts
types_fit s names at [] e = tt
types_fit s names at (t ∷ ts) e =
    let h = kept_parts s (walk_type s.types names at t) (walk_types s.types (set.insert names t.name) (at + 1) ts) e in
    (type_fits s names at t h.0, types_fit s (set.insert names t.name) (at + 1) ts h.1)
