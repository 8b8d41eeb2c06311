-- Items stand one behind another within their field and their block, and no sum is cut off.
use Rattle.std.proofs.Common.{◌≡◌, inl, inr, not, ℕ, ◌+◌, ◌-◌, ◌^◌, ◌≤◌, ℤ, pos, negsuc, refl, ap, ◌∙◌, subst, false, Option, Some, None, List, [], ◌∷◌, ◌++◌, slice_get, arith}
use Rattle.std.specs.List.{AllByRecursion}
use Rattle.std.proofs.lemmas.Bool.{ltb-false, true≢false}
use Rattle.schema_types.specs.declared.types.TypeDef.{TypeDef}
use Rattle.schema_types.specs.declared.types.MemberDef.{MemberDef}
use Rattle.schema_types.specs.declared.types.Presence.{Presence}
use Rattle.schema_types.specs.declared.types.Presence.TheVariants.{Required, Optional, Constant}
use Rattle.schema_types.specs.declared.messages.FieldDef.{FieldDef}
use Rattle.sbe_schema.specs.Meanings.{meaning_of}
use Rattle.sbe_schema.specs.Offsets.{plus, simple_size, taken, offset_of, member_end, members_end, type_size, field_end, fields_end}
use Rattle.sbe_schema.specs.Layout.{is_below}
use Rattle.sbe_schema.specs.Limits.{is_above}
use Rattle.sbe_layout.specs.declared.items.ItemPlan.{ItemPlan}
use Rattle.sbe_layout.specs.declared.items.Mark.{Mark}
use Rattle.sbe_layout.specs.declared.listings.Listing.{Listing}
use Rattle.sbe_layout.specs.declared.resolve.Resolved.{Resolved}
use Rattle.sbe_layout.specs.declared.resolve.Resolved.TheVariants.{Simple, Members}
use Rattle.sbe_layout.specs.Plans.{resolved, members_of, unless_constant, items_of_member, items_of_members, items_by, items_of_field, items_of_fields, marks_of, listings_of}
use Rattle.sbe_layout.specs.Legal.{SomeFieldEnds, CameBy, StandInOrder, IsLegalItem, EndsWithin}
use Rattle.sbe_layout.proofs.Kept.{FieldsFit, FieldsCame, MembersFit, TypesFit}
use Rattle.sbe_layout.proofs.Fits.{Fits, fits}

-- the greatest number of a sum
abbrev top : ℕ
top = 2 ^ 128 - 1

-- ---- sums

plus_top : (a b : ℕ) → plus a b ≤ top
plus_top a b = omega arith

plus_grows : (end a b : ℕ) → end ≤ top → end ≤ a → end ≤ plus a b
plus_grows end a b low over = omega arith

plus_whole : (a b : ℕ) → plus a b ≤ 16384 → a + b ≡ plus a b
plus_whole a b small = omega arith

plus_first : (a b : ℕ) → plus a b ≤ 16384 → a ≤ plus a b
plus_first a b small = omega arith

-- what does not begin below an end begins at it or behind it
pub begins_behind : (stated : Option ℤ) (end : ℕ) → is_below stated end ≡ false → end ≤ offset_of end stated
begins_behind None end e = omega arith
begins_behind (Some (pos n)) end e = ltb-false n end e
begins_behind (Some (negsuc n)) end e = absurd (true≢false e)

pub is_at_most : (stated : Option ℤ) (limit end : ℕ) → is_above stated limit ≡ false → end ≤ limit → offset_of end stated ≤ limit
is_at_most None limit end e low = low
is_at_most (Some (pos n)) limit end e low = ltb-false limit n e
is_at_most (Some (negsuc n)) limit end e low = omega arith

all_append : {X : Type 0} (P : X → Type 0) (xs ys : List X) → AllByRecursion P xs → AllByRecursion P ys → AllByRecursion P (xs ++ ys)
all_append P [] ys a b = b
all_append P (x ∷ xs) ys a b = (a.0, all_append P xs ys a.1 b)

-- what is no constant takes its bytes
by_presence : (P : ItemPlan → Type 0) (presence : Presence) (size : ℕ) (items : List ItemPlan) → (taken presence size ≡ size → AllByRecursion P items) → AllByRecursion P (unless_constant presence items)
by_presence P Required size items h = h refl
by_presence P Optional size items h = h refl
by_presence P Constant size items h = tt

-- a field that ends behind a place ends behind each place before it
earlier : (since : ℤ) (early late : ℕ) (marks : List Mark) → early ≤ late → SomeFieldEnds since late marks → SomeFieldEnds since early marks
earlier since early late [] low h = absurd h
earlier since early late (m ∷ ms) low (inl here) = inl (here.0, omega (arith, low, here.1))
earlier since early late (m ∷ ms) low (inr later) = inr (earlier since early late ms low later)

-- a field more takes nothing from an item
one_more : (version : ℕ) (listings : List Listing) (block : ℕ) (m : Mark) (ms : List Mark) (items : List ItemPlan) → AllByRecursion (IsLegalItem version listings block ms) items → AllByRecursion (IsLegalItem version listings block (m ∷ ms)) items
one_more version listings block m ms [] a = tt
one_more version listings block m ms (i ∷ is) a = (
  record {
    came = a.0.came;
    within = a.0.within;
    in_field = inr a.0.in_field;
    sized = a.0.sized;
    kind = a.0.kind;
    listed = a.0.listed;
  },
  one_more version listings block m ms is a.1,
)

-- the field that items lie in: it came with their version, and ends within the block
record Holds (version block limit : ℕ) (since : ℤ) (marks : List Mark) : Type 0 where
  came : CameBy version since
  small : limit ≤ 16384
  below : limit ≤ block
  field : SomeFieldEnds since limit marks

-- ---- members

members_grow : (types : List TypeDef) (end : ℕ) (ms : List MemberDef) → end ≤ top → MembersFit types end ms → end ≤ members_end types end ms
members_grow types end [] low h = omega arith
members_grow types end (m ∷ ms) low h =
    let size = taken m.presence (simple_size (meaning_of types m.type_name)) in
    let here : end ≤ member_end types end m = plus_grows end (offset_of end m.offset) size low (begins_behind m.offset end h.0) in
    let rest : member_end types end m ≤ members_end types (member_end types end m) ms = members_grow types (member_end types end m) ms (plus_top (offset_of end m.offset) size) h.1 in
    omega arith

member_items : (version : ℕ) (types : List TypeDef) (block : ℕ) (marks : List Mark) (limit : ℕ) (name : List ℕ) (since : ℤ) (start end : ℕ) (m : MemberDef) (r : Option Resolved) → Fits types (type_size types m.type_name) (simple_size (meaning_of types m.type_name)) r → start + member_end types end m ≤ limit → Holds version block limit since marks
    → AllByRecursion (IsLegalItem version (listings_of types) block marks) (items_of_member types name since (plus start (offset_of end m.offset)) m r)
member_items version types block marks limit name since start end m None k within holds = tt
member_items version types block marks limit name since start end m (Some (Members at)) k within holds = tt
member_items version types block marks limit name since start end m (Some (Simple kind)) k within holds =
    by_presence (IsLegalItem version (listings_of types) block marks) m.presence (simple_size (meaning_of types m.type_name)) _ (λ whole.
    let off = offset_of end m.offset in
    let size = type_size types m.type_name in
    let ends : member_end types end m ≡ plus off size = ap (plus off) (whole ∙ k.1.0) in
    let small = holds.small in
    let sum : off + size ≡ plus off size = plus_whole off size (omega (arith, ends)) in
    let last : plus start off + size ≤ limit = omega (arith, ends, sum) in
    (record { came = holds.came; within = omega (arith, last, holds.below); in_field = earlier since (plus start off + size) limit marks last holds.field; sized = k.0; kind = k.1.1.0; listed = k.1.1.1 }, tt))

members_items : (version : ℕ) (types : List TypeDef) (block : ℕ) (marks : List Mark) (limit : ℕ) (name : List ℕ) (since : ℤ) (start end : ℕ) (ms : List MemberDef) → TypesFit types types → end ≤ top → MembersFit types end ms → start + members_end types end ms ≤ limit → Holds version block limit since marks
    → AllByRecursion (IsLegalItem version (listings_of types) block marks) (items_of_members types name since start end ms)
members_items version types block marks limit name since start end [] k low h within holds = tt
members_items version types block marks limit name since start end (m ∷ ms) k low h within holds =
    let size = taken m.presence (simple_size (meaning_of types m.type_name)) in
    let next : member_end types end m ≤ top = plus_top (offset_of end m.offset) size in
    let grows : member_end types end m ≤ members_end types (member_end types end m) ms = members_grow types (member_end types end m) ms next h.1 in
    all_append (IsLegalItem version (listings_of types) block marks) (items_of_member types name since (plus start (offset_of end m.offset)) m (resolved types m.type_name)) _ (member_items version types block marks limit name since start end m (resolved types m.type_name) (fits types m.type_name k) (omega arith) holds) (members_items version types block marks limit name since start (member_end types end m) ms k next h.1 within holds)

-- ---- fields

field_items : (version : ℕ) (types : List TypeDef) (block : ℕ) (marks : List Mark) (end : ℕ) (f : FieldDef) (r : Option Resolved) → TypesFit types types → Fits types (type_size types f.type_name) (simple_size (meaning_of types f.type_name)) r → taken f.presence (type_size types f.type_name) ≡ type_size types f.type_name → Holds version block (field_end types end f) f.since marks
    → AllByRecursion (IsLegalItem version (listings_of types) block marks) (items_by types end f r)
field_items version types block marks end f None k fit whole holds = tt
field_items version types block marks end f (Some (Simple kind)) k fit whole holds =
    let off = offset_of end f.offset in
    let size = type_size types f.type_name in
    let ends : field_end types end f ≡ plus off size = ap (plus off) whole in
    let small = holds.small in
    let sum : off + size ≡ plus off size = plus_whole off size (omega (arith, ends)) in
    let last : off + size ≤ field_end types end f = omega (arith, ends, sum) in
    (record { came = holds.came; within = omega (arith, last, holds.below); in_field = earlier f.since (off + size) (field_end types end f) marks last holds.field; sized = fit.0; kind = fit.1.1.0; listed = fit.1.1.1 }, tt)
field_items version types block marks end f (Some (Members at)) k fit whole holds =
    let off = offset_of end f.offset in
    let size = type_size types f.type_name in
    let ends : field_end types end f ≡ plus off size = ap (plus off) whole in
    let small = holds.small in
    let sum : off + size ≡ plus off size = plus_whole off size (omega (arith, ends)) in
    let last : size ≡ members_end types 0 (members_of (slice_get types at)) = fit.0 in
    members_items version types block marks (field_end types end f) f.name f.since off 0 (members_of (slice_get types at)) k (omega arith) fit.1 (omega (arith, ends, sum, last)) holds

fields_grow : (types : List TypeDef) (end : ℕ) (fs : List FieldDef) → end ≤ 16384 → FieldsFit types end fs → (end ≤ fields_end types end fs) × (fields_end types end fs ≤ 16384)
fields_grow types end [] low h = (omega arith, low)
fields_grow types end (f ∷ fs) low h =
    let size = taken f.presence (type_size types f.type_name) in
    let small : field_end types end f ≤ 16384 = ltb-false 16384 (field_end types end f) h.1.0 in
    let here : end ≤ field_end types end f = plus_grows end (offset_of end f.offset) size (omega arith) (begins_behind f.offset end h.0) in
    let rest = fields_grow types (field_end types end f) fs small h.1.1 in
    (omega (arith, rest.0), rest.1)

pub fields_small : (types : List TypeDef) (fs : List FieldDef) → FieldsFit types 0 fs → fields_end types 0 fs ≤ 16384
fields_small types fs h = (fields_grow types 0 fs (omega arith) h).1

pub fields_items : (version : ℕ) (types : List TypeDef) (block end : ℕ) (fs : List FieldDef) → TypesFit types types → end ≤ 16384 → FieldsFit types end fs → FieldsCame version fs → fields_end types end fs ≤ block
    → AllByRecursion (IsLegalItem version (listings_of types) block (marks_of types end fs)) (items_of_fields types end fs)
fields_items version types block end [] k low h c within = tt
fields_items version types block end (f ∷ fs) k low h c within =
    let last = field_end types end f in
    let next : last ≤ 16384 = ltb-false 16384 last h.1.0 in
    let grows = fields_grow types last fs next h.1.1 in
    let own : Mark = record { since = f.since; end = last } in
    let others = marks_of types last fs in
    let holds : Holds version block last f.since (own ∷ others) = record { came = ap not c.0; small = next; below = omega (arith, grows.0); field = inl (refl, omega arith) } in
    all_append (IsLegalItem version (listings_of types) block (own ∷ others)) (items_of_field types end f) (items_of_fields types last fs)
    (by_presence (IsLegalItem version (listings_of types) block (own ∷ others)) f.presence (type_size types f.type_name) _ (λ whole. field_items version types block (own ∷ others) end f (resolved types f.type_name) k (fits types f.type_name k) whole holds))
    (one_more version (listings_of types) block own others (items_of_fields types last fs) (fields_items version types block last fs k next h.1.1 c.1 within))

pub fields_marks : (types : List TypeDef) (block end : ℕ) (fs : List FieldDef) → end ≤ 16384 → FieldsFit types end fs → fields_end types end fs ≤ block
    → AllByRecursion (EndsWithin block) (marks_of types end fs)
fields_marks types block end [] low h within = tt
fields_marks types block end (f ∷ fs) low h within =
    let next : field_end types end f ≤ 16384 = ltb-false 16384 (field_end types end f) h.1.0 in
    let grows = fields_grow types (field_end types end f) fs next h.1.1 in
    (omega (arith, grows.0), fields_marks types block (field_end types end f) fs next h.1.1 within)

-- ---- the order of items

-- items that begin at the place `low` or behind it, one behind another, and end at the place `high` or before it
abbrev Between : ℕ → ℕ → List ItemPlan → Type 0
Between low high [] = low ≤ high
Between low high (i ∷ is) = (low ≤ i.offset) × Between (i.offset + i.size) high is

between_order : (low high : ℕ) (items : List ItemPlan) → Between low high items → StandInOrder low items
between_order low high [] b = tt
between_order low high (i ∷ is) b = (b.0, between_order (i.offset + i.size) high is b.1)

between_later : (low mid high : ℕ) (items : List ItemPlan) → low ≤ mid → Between mid high items → Between low high items
between_later low mid high [] up b = omega (arith, up, b)
between_later low mid high (i ∷ is) up b = (omega (arith, up, b.0), b.1)

between_append : (low mid high : ℕ) (xs ys : List ItemPlan) → Between low mid xs → Between mid high ys → Between low high (xs ++ ys)
between_append low mid high [] ys a b = between_later low mid high ys a b
between_append low mid high (i ∷ is) ys a b = (a.0, between_append (i.offset + i.size) mid high is ys a.1 b)

-- what is no constant takes its bytes, and a constant is no item
between_by_presence : (low high : ℕ) (presence : Presence) (size : ℕ) (items : List ItemPlan) → low ≤ high → (taken presence size ≡ size → Between low high items) → Between low high (unless_constant presence items)
between_by_presence low high Required size items up h = h refl
between_by_presence low high Optional size items up h = h refl
between_by_presence low high Constant size items up h = up

member_between : (types : List TypeDef) (name : List ℕ) (since : ℤ) (start end : ℕ) (m : MemberDef) (r : Option Resolved) → Fits types (type_size types m.type_name) (simple_size (meaning_of types m.type_name)) r → end ≤ member_end types end m → end ≤ offset_of end m.offset → start + member_end types end m ≤ 16384
    → Between (start + end) (start + member_end types end m) (items_of_member types name since (plus start (offset_of end m.offset)) m r)
member_between types name since start end m None k grows begins small = omega (arith, grows)
member_between types name since start end m (Some (Members at)) k grows begins small = omega (arith, grows)
member_between types name since start end m (Some (Simple kind)) k grows begins small =
    between_by_presence (start + end) (start + member_end types end m) m.presence (simple_size (meaning_of types m.type_name)) _ (omega (arith, grows)) (λ whole.
    let off = offset_of end m.offset in
    let size = type_size types m.type_name in
    let ends : member_end types end m ≡ plus off size = ap (plus off) (whole ∙ k.1.0) in
    let sum : off + size ≡ plus off size = plus_whole off size (omega (arith, ends, small)) in
    (omega (arith, begins, ends, sum, small), omega (arith, begins, ends, sum, small)))

members_between : (types : List TypeDef) (name : List ℕ) (since : ℤ) (start end : ℕ) (ms : List MemberDef) → TypesFit types types → end ≤ top → MembersFit types end ms → start + members_end types end ms ≤ 16384
    → Between (start + end) (start + members_end types end ms) (items_of_members types name since start end ms)
members_between types name since start end [] k low h small = omega arith
members_between types name since start end (m ∷ ms) k low h small =
    let size = taken m.presence (simple_size (meaning_of types m.type_name)) in
    let last = member_end types end m in
    let next : last ≤ top = plus_top (offset_of end m.offset) size in
    let begins = begins_behind m.offset end h.0 in
    let here : end ≤ last = plus_grows end (offset_of end m.offset) size low begins in
    let grows : last ≤ members_end types last ms = members_grow types last ms next h.1 in
    between_append (start + end) (start + last) (start + members_end types last ms) (items_of_member types name since (plus start (offset_of end m.offset)) m (resolved types m.type_name)) (items_of_members types name since start last ms)
    (member_between types name since start end m (resolved types m.type_name) (fits types m.type_name k) here begins (omega (arith, grows, small)))
    (members_between types name since start last ms k next h.1 small)

field_between : (types : List TypeDef) (end : ℕ) (f : FieldDef) (r : Option Resolved) → TypesFit types types → Fits types (type_size types f.type_name) (simple_size (meaning_of types f.type_name)) r → taken f.presence (type_size types f.type_name) ≡ type_size types f.type_name → end ≤ offset_of end f.offset → field_end types end f ≤ 16384
    → Between end (field_end types end f) (items_by types end f r)
field_between types end f None k fit whole begins small =
    let grows = plus_first (offset_of end f.offset) (taken f.presence (type_size types f.type_name)) small in
    omega (arith, begins, grows)
field_between types end f (Some (Simple kind)) k fit whole begins small =
    let off = offset_of end f.offset in
    let size = type_size types f.type_name in
    let ends : field_end types end f ≡ plus off size = ap (plus off) whole in
    let sum : off + size ≡ plus off size = plus_whole off size (omega (arith, ends, small)) in
    (begins, omega (arith, ends, sum))
field_between types end f (Some (Members at)) k fit whole begins small =
    let off = offset_of end f.offset in
    let size = type_size types f.type_name in
    let members = members_of (slice_get types at) in
    let items = items_of_members types f.name f.since off 0 members in
    let ends : field_end types end f ≡ plus off size = ap (plus off) whole in
    let sum : off + size ≡ plus off size = plus_whole off size (omega (arith, ends, small)) in
    let last : size ≡ members_end types 0 members = fit.0 in
    let all : off + members_end types 0 members ≡ field_end types end f = omega (arith, ends, sum, last) in
    let inside : Between (off + 0) (off + members_end types 0 members) items = members_between types f.name f.since off 0 members k (omega arith) fit.1 (omega (arith, all, small)) in
    between_later end (off + 0) (field_end types end f) items (omega (arith, begins)) (subst (λ (high : ℕ). Between (off + 0) high items) all inside)

fields_between : (types : List TypeDef) (end : ℕ) (fs : List FieldDef) → TypesFit types types → end ≤ 16384 → FieldsFit types end fs → Between end (fields_end types end fs) (items_of_fields types end fs)
fields_between types end [] k low h = omega arith
fields_between types end (f ∷ fs) k low h =
    let last = field_end types end f in
    let next : last ≤ 16384 = ltb-false 16384 last h.1.0 in
    let begins = begins_behind f.offset end h.0 in
    let grows : end ≤ last = plus_grows end (offset_of end f.offset) (taken f.presence (type_size types f.type_name)) (omega arith) begins in
    between_append end last (fields_end types last fs) (items_of_field types end f) (items_of_fields types last fs)
    (between_by_presence end last f.presence (type_size types f.type_name) _ grows (λ whole. field_between types end f (resolved types f.type_name) k (fits types f.type_name k) whole begins next))
    (fields_between types last fs k next h.1.1)

pub fields_in_order : (types : List TypeDef) (fs : List FieldDef) → TypesFit types types → FieldsFit types 0 fs → StandInOrder 0 (items_of_fields types 0 fs)
fields_in_order types fs k h =
    between_order 0 (fields_end types 0 fs) (items_of_fields types 0 fs) (fields_between types 0 fs k (omega arith) h)
