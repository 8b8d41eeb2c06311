-- What a block spells by a schema, it spells by an older version of that schema, but for its later items: they are the last.
use Rattle.std.proofs.Common.{◌≡◌, ◌⊎◌, inl, inr, ℕ, ◌∙◌, ℤ, Bool, true, false, cond, if◌then◌else◌, filter, refl, sym, ap, subst, Option, Some, None, List, [], ◌∷◌, ◌++◌, slice_get}
use Rattle.std.specs.Prelude.{⊤}
use Rattle.std.specs.List.{AllByRecursion}
use Rattle.std.proofs.lemmas.List.Elements.{filter-append}
use Rattle.schema_types.specs.declared.types.TypeDef.{TypeDef}
use Rattle.schema_types.specs.declared.types.MemberDef.{MemberDef}
use Rattle.schema_types.specs.declared.types.Presence.{Presence}
use Rattle.schema_types.specs.declared.types.Presence.TheVariants.{Required, Optional, Constant}
use Rattle.schema_types.specs.declared.messages.FieldDef.{FieldDef}
use Rattle.sbe_prim.specs.declared.Order.{Order}
use Rattle.sbe_value.specs.declared.item.Item.{Item}
use Rattle.sbe_schema.specs.Offsets.{plus, offset_of, member_end, field_end}
use Rattle.sbe_layout.specs.declared.items.ItemPlan.{ItemPlan}
use Rattle.sbe_layout.specs.declared.resolve.Resolved.{Resolved}
use Rattle.sbe_layout.specs.declared.resolve.Resolved.TheVariants.{Simple, Members}
use Rattle.sbe_layout.specs.Plans.{resolved, members_of, unless_constant, items_of_member, items_of_members, items_by, items_of_field, items_of_fields, marks_of}
use Rattle.sbe_grammar.specs.Values.{is_in, item_in, items_in}
use Rattle.sbe_grammar.specs.Spelling.{AllWithin, IsBlock}
use Rattle.sbe_skew.specs.Restricted.{kept_items}
use Rattle.sbe_skew.specs.Projected.{projected_fields}

-- ---- lists whose elements that are kept come first

module _ {A : Type 0} (keep : A → Bool) where
  abbrev pub AllIn : List A → Type 0
  AllIn xs = AllByRecursion (λ x. keep x ≡ true) xs

  abbrev pub AllOut : List A → Type 0
  AllOut xs = AllByRecursion (λ x. keep x ≡ false) xs

  abbrev pub Ends : List A → Type 0
  Ends [] = ⊤
  Ends (x ∷ xs) = ((keep x ≡ true) × Ends xs) ⊎ ((keep x ≡ false) × AllOut xs)

  pub filter_in : (xs : List A) → AllIn xs → filter keep xs ≡ xs
  filter_in [] a = refl
  filter_in (x ∷ xs) a = (λ i. cond (a.0 i) (x ∷ filter keep xs) (filter keep xs)) ∙ ap (λ ys. x ∷ ys) (filter_in xs a.1)

  pub filter_out : (xs : List A) → AllOut xs → filter keep xs ≡ []
  filter_out [] o = refl
  filter_out (x ∷ xs) o = (λ i. cond (o.0 i) (x ∷ filter keep xs) (filter keep xs)) ∙ filter_out xs o.1

all_append : {X : Type 0} (P : X → Type 0) (xs ys : List X) → AllByRecursion P xs → AllByRecursion P ys → AllByRecursion P (xs ++ ys)
all_append P [] ys a b = b
all_append P (x ∷ xs) ys a b = (a.0, all_append P xs ys a.1 b)

-- ---- the items of a field came with it

abbrev Since : ℤ → List ItemPlan → Type 0
Since since ps = AllByRecursion (λ (p : ItemPlan). p.since ≡ since) ps

unless_since : (since : ℤ) (presence : Presence) (ps : List ItemPlan) → Since since ps → Since since (unless_constant presence ps)
unless_since since Required ps a = a
unless_since since Optional ps a = a
unless_since since Constant ps a = tt

member_since : (types : List TypeDef) (name : List ℕ) (since : ℤ) (place : ℕ) (m : MemberDef) (r : Option Resolved) → Since since (items_of_member types name since place m r)
member_since types name since place m (Some (Simple kind)) = unless_since since m.presence _ (refl, tt)
member_since types name since place m (Some (Members at)) = tt
member_since types name since place m None = tt

members_since : (types : List TypeDef) (name : List ℕ) (since : ℤ) (start end : ℕ) (ms : List MemberDef) → Since since (items_of_members types name since start end ms)
members_since types name since start end [] = tt
members_since types name since start end (m ∷ ms) =
    all_append (λ (p : ItemPlan). p.since ≡ since) _ _ (member_since types name since (plus start (offset_of end m.offset)) m (resolved types m.type_name)) (members_since types name since start (member_end types end m) ms)

by_since : (types : List TypeDef) (end : ℕ) (f : FieldDef) (r : Option Resolved) → Since f.since (items_by types end f r)
by_since types end f (Some (Simple kind)) = (refl, tt)
by_since types end f (Some (Members at)) = members_since types f.name f.since (offset_of end f.offset) 0 (members_of (slice_get types at))
by_since types end f None = tt

field_since : (types : List TypeDef) (end : ℕ) (f : FieldDef) → Since f.since (items_of_field types end f)
field_since types end f = unless_since f.since f.presence _ (by_since types end f (resolved types f.type_name))

abbrev pub keep_item : ℕ → ItemPlan → Bool
keep_item w p = is_in w p.since

abbrev pub keep_field : ℕ → FieldDef → Bool
keep_field w f = is_in w f.since

since_in : (w : ℕ) (since : ℤ) (ps : List ItemPlan) → Since since ps → is_in w since ≡ true → AllIn (keep_item w) ps
since_in w since [] a e = tt
since_in w since (p ∷ ps) a e = (ap (is_in w) a.0 ∙ e, since_in w since ps a.1 e)

since_out : (w : ℕ) (since : ℤ) (ps : List ItemPlan) → Since since ps → is_in w since ≡ false → AllOut (keep_item w) ps
since_out w since [] a e = tt
since_out w since (p ∷ ps) a e = (ap (is_in w) a.0 ∙ e, since_out w since ps a.1 e)

-- ---- the items and the marks of the older version

items_out : (w : ℕ) (types : List TypeDef) (end : ℕ) (fs : List FieldDef) → AllOut (keep_field w) fs → AllOut (keep_item w) (items_of_fields types end fs)
items_out w types end [] o = tt
items_out w types end (f ∷ fs) o =
    all_append (λ (p : ItemPlan). keep_item w p ≡ false) _ _ (since_out w f.since _ (field_since types end f) o.0) (items_out w types (field_end types end f) fs o.1)

items_kept : (w : ℕ) (types : List TypeDef) (end : ℕ) (fs : List FieldDef) → Ends (keep_field w) fs → filter (keep_item w) (items_of_fields types end fs) ≡ items_of_fields types end (projected_fields w fs)
items_kept w types end [] h = refl
items_kept w types end (f ∷ fs) (inl e) =
    filter-append (keep_item w) (items_of_field types end f) (items_of_fields types (field_end types end f) fs)
    ∙ (λ i. filter_in (keep_item w) (items_of_field types end f) (since_in w f.since _ (field_since types end f) e.0) i ++ items_kept w types (field_end types end f) fs e.1 i)
    ∙ (λ i. items_of_fields types end (cond (sym e.0 i) (f ∷ projected_fields w fs) (projected_fields w fs)))
items_kept w types end (f ∷ fs) (inr e) =
    filter_out (keep_item w) (items_of_fields types end (f ∷ fs)) (items_out w types end (f ∷ fs) e)
    ∙ ap (items_of_fields types end) (sym (filter_out (keep_field w) (f ∷ fs) e))

marks_kept : (w version size : ℕ) (types : List TypeDef) (end : ℕ) (fs : List FieldDef) → Ends (keep_field w) fs → AllWithin version size (marks_of types end fs) → AllWithin version size (marks_of types end (projected_fields w fs))
marks_kept w version size types end [] h a = tt
marks_kept w version size types end (f ∷ fs) (inl e) a =
    subst (λ b. AllWithin version size (marks_of types end (cond b (f ∷ projected_fields w fs) (projected_fields w fs)))) (sym e.0) (a.0, marks_kept w version size types (field_end types end f) fs e.1 a.1)
marks_kept w version size types end (f ∷ fs) (inr e) a =
    subst (λ xs. AllWithin version size (marks_of types end xs)) (sym (filter_out (keep_field w) (f ∷ fs) e)) tt

values_kept : (w : ℕ) (order : Order) (version : ℕ) (bytes : List ℕ) (ps : List ItemPlan) → kept_items w ps (items_in order version bytes ps) ≡ items_in order version bytes (filter (keep_item w) ps)
values_kept w order version bytes [] = refl
values_kept w order version bytes (p ∷ ps) =
    elim (is_in w p.since) as (λ b. (if b then item_in order version bytes p ∷ kept_items w ps (items_in order version bytes ps) else kept_items w ps (items_in order version bytes ps)) ≡ items_in order version bytes (cond b (p ∷ filter (keep_item w) ps) (filter (keep_item w) ps))) [
      | true ↦ ap (λ is. item_in order version bytes p ∷ is) (values_kept w order version bytes ps)
      | false ↦ values_kept w order version bytes ps
    ]

pub block_kept : (w : ℕ) (types : List TypeDef) (order : Order) (version size : ℕ) (fs : List FieldDef) (items : List Item) (bytes : List ℕ) → Ends (keep_field w) fs → IsBlock order version size (marks_of types 0 fs) (items_of_fields types 0 fs) items bytes
    → IsBlock order version size (marks_of types 0 (projected_fields w fs)) (items_of_fields types 0 (projected_fields w fs)) (kept_items w (items_of_fields types 0 fs) items) bytes
block_kept w types order version size fs items bytes e b = record {
  whole = b.whole;
  fields_within = marks_kept w version size types 0 fs e b.fields_within;
  values =
      ap (kept_items w (items_of_fields types 0 fs)) b.values
      ∙ values_kept w order version bytes (items_of_fields types 0 fs)
      ∙ ap (items_in order version bytes) (items_kept w types 0 fs e);
}
