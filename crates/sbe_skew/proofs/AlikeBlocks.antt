-- Fields that are the same in two schemas have the same values and ends.
use Rattle.std.proofs.Common.{◌≡◌, ℕ, ◌∙◌, ℤ, true, ◌&&◌, refl, sym, ap, subst, Option, Some, None, List, [], ◌∷◌, ◌++◌}
use Rattle.std.specs.Prelude.{nat_eq}
use Rattle.std.specs.Ordering.{int_eq}
use Rattle.std.specs.Option.{option_eq}
use Rattle.std.specs.Cmp.Lexicographic.{pointwise}
use Rattle.std.proofs.lemmas.Bool.{false≢true}
use Rattle.std.proofs.lemmas.Bool.Decides.{Decides-int_eq}
use denote.Enum.Bare.{sameb}
use Rattle.lists.specs.Exact.{exact_option, exact_bare}
use Rattle.schema_types.specs.Equal.{number_exact, kind_exact}
use Rattle.schema_types.specs.contracts.types.Presence as presence
use Rattle.schema_types.specs.contracts.types.ConstantPartialEq.TheImpl as constant
use Rattle.schema_types.specs.declared.types.TypeDef.{TypeDef}
use Rattle.schema_types.specs.declared.types.TypeKind.{TypeKind}
use Rattle.schema_types.specs.declared.types.TypeKind.TheVariants as kinds
use Rattle.schema_types.specs.declared.types.MemberDef.{MemberDef}
use Rattle.schema_types.specs.declared.types.Presence.{Presence}
use Rattle.schema_types.specs.declared.types.Presence.TheVariants.{Required, Optional, Constant}
use Rattle.schema_types.specs.declared.messages.FieldDef.{FieldDef}
use Rattle.sbe_prim.specs.declared.Order.{Order}
use Rattle.sbe_value.specs.declared.item.Item.{Item}
use Rattle.sbe_schema.specs.Names.{same_name}
use Rattle.sbe_schema.specs.Offsets.{plus, taken, offset_of, member_end, field_end, type_size}
use Rattle.sbe_layout.specs.declared.items.ItemKind.{ItemKind}
use Rattle.sbe_layout.specs.declared.items.ItemKind.TheVariants.{Number, Enum, Set}
use Rattle.sbe_layout.specs.declared.items.ItemPlan.{ItemPlan}
use Rattle.sbe_layout.specs.declared.resolve.Resolved.{Resolved}
use Rattle.sbe_layout.specs.declared.resolve.Resolved.TheVariants.{Simple}
use Rattle.sbe_layout.specs.Plans.{resolved, item, unless_constant, items_of_member, items_of_members, items_by, items_of_field, items_of_fields, marks_of}
use Rattle.sbe_grammar.specs.Values.{item_in, items_in}
use Rattle.sbe_grammar.specs.Spelling.{AllWithin, IsBlock}
use Rattle.sbe_skew.specs.SameTypes.{kind_named, same_member, same_kinds, same_type}
use Rattle.sbe_skew.specs.Extends.{same_field}
use Rattle.sbe_skew.proofs.AlikeTypes.{and_parts, size_is, size_in, sizes_same, SameMember, member_parts, member_ends, Means, means_named}

module _ (order : Order) (version : ℕ) (bytes : List ℕ) where
  abbrev Values : List ItemPlan → List Item
  Values ps = items_in order version bytes ps

  values_append : (xs ys : List ItemPlan) → Values (xs ++ ys) ≡ Values xs ++ Values ys
  values_append [] ys = refl
  values_append (x ∷ xs) ys = ap (λ vs. item_in order version bytes x ∷ vs) (values_append xs ys)

  unless_alike : (p : Presence) (xs ys : List ItemPlan) → Values xs ≡ Values ys → Values (unless_constant p xs) ≡ Values (unless_constant p ys)
  unless_alike Required xs ys e = e
  unless_alike Optional xs ys e = e
  unless_alike Constant xs ys e = refl

  unless_both : (p q : Presence) (xs ys : List ItemPlan) → p ≡ q → Values xs ≡ Values ys → Values (unless_constant p xs) ≡ Values (unless_constant q ys)
  unless_both p q xs ys e v = unless_alike p xs ys v ∙ (λ i. Values (unless_constant (e i) ys))

  -- an item by where it stands, its size, its version and its presence
  one : (name : List ℕ) (a b : ℕ) (place : a ≡ b) (c d : ℕ) (size : c ≡ d) (s t : ℤ) (since : s ≡ t) (p q : Presence) (presence : p ≡ q) (kind : ItemKind) → Values (item name a c s p kind ∷ []) ≡ Values (item name b d t q kind ∷ [])
  one name a b place c d size s t since p q presence kind =
      λ i. item_in order version bytes (item name (place i) (size i) (since i) (presence i) kind) ∷ []

  member_by : (types others : List TypeDef) (name other : List ℕ) (s t : ℤ) (since : s ≡ t) (a b : ℕ) (place : a ≡ b) (m n : MemberDef) (presence : m.presence ≡ n.presence) (k : Option TypeKind) (r q : Option Resolved) → Means types k r → Means others k q → type_size types m.type_name ≡ size_in types k → type_size others n.type_name ≡ size_in others k
      → Values (items_of_member types name s a m r) ≡ Values (items_of_member others other t b n q)
  member_by types others name other s t since a b place m n presence None r q h k u v =
      (λ i. Values (items_of_member types name s a m (h i))) ∙ sym (λ i. Values (items_of_member others other t b n (k i)))
  member_by types others name other s t since a b place m n presence (Some (kinds.Number p l x y z)) r q h k u v =
      (λ i. Values (items_of_member types name s a m (h i)))
      ∙ unless_both m.presence n.presence _ _ presence (one (name ++ 46 ∷ m.name) a b place (type_size types m.type_name) (type_size others n.type_name) (u ∙ sym v) s t since m.presence n.presence presence (Number p l x y z))
      ∙ sym (λ i. Values (items_of_member others other t b n (k i)))
  member_by types others name other s t since a b place m n presence (Some (kinds.Enum p vs)) r q h k u v =
      (λ i. Values (items_of_member types name s a m (h.1 i)))
      ∙ unless_both m.presence n.presence _ _ presence (one (name ++ 46 ∷ m.name) a b place (type_size types m.type_name) (type_size others n.type_name) (u ∙ sym v) s t since m.presence n.presence presence (Enum p h.0))
      ∙ sym (λ i. Values (items_of_member others other t b n (k.1 i)))
  member_by types others name other s t since a b place m n presence (Some (kinds.Set p bs)) r q h k u v =
      (λ i. Values (items_of_member types name s a m (h.1 i)))
      ∙ unless_both m.presence n.presence _ _ presence (one (name ++ 46 ∷ m.name) a b place (type_size types m.type_name) (type_size others n.type_name) (u ∙ sym v) s t since m.presence n.presence presence (Set p h.0))
      ∙ sym (λ i. Values (items_of_member others other t b n (k.1 i)))
  member_by types others name other s t since a b place m n presence (Some (kinds.Composite ms)) r q h k u v =
      (λ i. Values (items_of_member types name s a m (h.1.0 i))) ∙ sym (λ i. Values (items_of_member others other t b n (k.1.0 i)))

  member_alike : (types others : List TypeDef) (name other : List ℕ) (s t : ℤ) (since : s ≡ t) (a b : ℕ) (place : a ≡ b) (m n : MemberDef) → SameMember types others m n → Values (items_of_member types name s a m (resolved types m.type_name)) ≡ Values (items_of_member others other t b n (resolved others n.type_name))
  member_alike types others name other s t since a b place m n e =
      member_by types others name other s t since a b place m n e.presence (kind_named types m.type_name) (resolved types m.type_name) (resolved others n.type_name) (means_named types m.type_name) (subst (λ k. Means others k (resolved others n.type_name)) (sym e.kind) (means_named others n.type_name)) (size_is types m.type_name) (size_is others n.type_name ∙ ap (size_in others) (sym e.kind))

  members_alike : (types others : List TypeDef) (name other : List ℕ) (s t : ℤ) (since : s ≡ t) (start end : ℕ) (ms ns : List MemberDef) → pointwise (same_member types others) ms ns ≡ true → Values (items_of_members types name s start end ms) ≡ Values (items_of_members others other t start end ns)
  members_alike types others name other s t since start end [] [] h = refl
  members_alike types others name other s t since start end [] (n ∷ ns) h = absurd (false≢true h)
  members_alike types others name other s t since start end (m ∷ ms) [] h = absurd (false≢true h)
  members_alike types others name other s t since start end (m ∷ ms) (n ∷ ns) h =
      let p = and_parts (same_member types others m n) (pointwise (same_member types others) ms ns) h in
      let e = member_parts types others m n p.0 in
      values_append (items_of_member types name s (plus start (offset_of end m.offset)) m (resolved types m.type_name)) (items_of_members types name s start (member_end types end m) ms)
      ∙ (λ i. member_alike types others name other s t since (plus start (offset_of end m.offset)) (plus start (offset_of end n.offset)) (λ j. plus start (offset_of end (e.offset j))) m n e i ++ members_alike types others name other s t since start (member_end types end m) ms ns p.1 i)
      ∙ (λ i. Values (items_of_member others other t (plus start (offset_of end n.offset)) n (resolved others n.type_name)) ++ Values (items_of_members others other t start (member_ends types others end m n e i) ns))
      ∙ sym (values_append (items_of_member others other t (plus start (offset_of end n.offset)) n (resolved others n.type_name)) (items_of_members others other t start (member_end others end n) ns))

-- ---- fields

record SameField (types others : List TypeDef) (f g : FieldDef) : Type 0 where
  presence : f.presence ≡ g.presence
  offset : f.offset ≡ g.offset
  since : f.since ≡ g.since
  kinds : same_kinds types others (kind_named types f.type_name) (kind_named others g.type_name) ≡ true

field_parts : (types others : List TypeDef) (f g : FieldDef) → same_field types others f g ≡ true → SameField types others f g
field_parts types others f g t =
    let a = and_parts (((((same_name f.name g.name && nat_eq f.id g.id) && sameb presence.the_type f.presence g.presence) && option_eq constant.eq-value.it f.value g.value) && option_eq int_eq f.offset g.offset) && int_eq f.since g.since) (same_type types others f.type_name g.type_name) t in
    let b = and_parts ((((same_name f.name g.name && nat_eq f.id g.id) && sameb presence.the_type f.presence g.presence) && option_eq constant.eq-value.it f.value g.value) && option_eq int_eq f.offset g.offset) (int_eq f.since g.since) a.0 in
    let c = and_parts (((same_name f.name g.name && nat_eq f.id g.id) && sameb presence.the_type f.presence g.presence) && option_eq constant.eq-value.it f.value g.value) (option_eq int_eq f.offset g.offset) b.0 in
    let d = and_parts ((same_name f.name g.name && nat_eq f.id g.id) && sameb presence.the_type f.presence g.presence) (option_eq constant.eq-value.it f.value g.value) c.0 in
    let e = and_parts (same_name f.name g.name && nat_eq f.id g.id) (sameb presence.the_type f.presence g.presence) d.0 in
    record {
      presence = (exact_bare presence.the_type tt f.presence g.presence).0 e.1;
      offset = (number_exact f.offset g.offset).0 c.1;
      since = (Decides-int_eq f.since g.since).0 b.1;
      kinds = a.1;
    }

field_ends : (types others : List TypeDef) (end : ℕ) (f g : FieldDef) → SameField types others f g → field_end types end f ≡ field_end others end g
field_ends types others end f g e =
    λ i. plus (offset_of end (e.offset i)) (taken (e.presence i) (sizes_same types others f.type_name g.type_name e.kinds i))

marks_alike : (types others : List TypeDef) (end : ℕ) (fs gs : List FieldDef) → pointwise (same_field types others) fs gs ≡ true → marks_of types end fs ≡ marks_of others end gs
marks_alike types others end [] [] t = refl
marks_alike types others end [] (g ∷ gs) t = absurd (false≢true t)
marks_alike types others end (f ∷ fs) [] t = absurd (false≢true t)
marks_alike types others end (f ∷ fs) (g ∷ gs) t =
    let p = and_parts (same_field types others f g) (pointwise (same_field types others) fs gs) t in
    let e = field_parts types others f g p.0 in
    let ends = field_ends types others end f g e in
    (λ i. record { since = e.since i; end = ends i } ∷ marks_alike types others (field_end types end f) fs gs p.1 i)
    ∙ (λ i. record { since = g.since; end = field_end others end g } ∷ marks_of others (ends i) gs)

module _ (order : Order) (version : ℕ) (bytes : List ℕ) where
  abbrev Read : List ItemPlan → List Item
  Read ps = items_in order version bytes ps

  field_by : (types others : List TypeDef) (end : ℕ) (f g : FieldDef) (a b : Option TypeKind) (r q : Option Resolved) → SameField types others f g → same_kinds types others a b ≡ true → Means types a r → Means others b q → Read (items_by types end f r) ≡ Read (items_by others end g q)
  field_by types others end f g None b r q e t h k =
      let k' : q ≡ None = subst (λ b. Means others b q) (sym ((exact_option kind_exact None b).0 t)) k in
      (λ i. Read (items_by types end f (h i))) ∙ sym (λ i. Read (items_by others end g (k' i)))
  field_by types others end f g (Some (kinds.Number p l x y z)) b r q e t h k =
      let k' : q ≡ Some (Simple (Number p l x y z)) = subst (λ b. Means others b q) (sym ((exact_option kind_exact (Some (kinds.Number p l x y z)) b).0 t)) k in
      (λ i. Read (items_by types end f (h i)))
      ∙ one order version bytes f.name (offset_of end f.offset) (offset_of end g.offset) (λ i. offset_of end (e.offset i)) (type_size types f.type_name) (type_size others g.type_name) (sizes_same types others f.type_name g.type_name e.kinds) f.since g.since e.since f.presence g.presence e.presence (Number p l x y z)
      ∙ sym (λ i. Read (items_by others end g (k' i)))
  field_by types others end f g (Some (kinds.Enum p vs)) b r q e t h k =
      let k' : (at : ℕ) × (q ≡ Some (Simple (Enum p at))) = subst (λ b. Means others b q) (sym ((exact_option kind_exact (Some (kinds.Enum p vs)) b).0 t)) k in
      (λ i. Read (items_by types end f (h.1 i)))
      ∙ one order version bytes f.name (offset_of end f.offset) (offset_of end g.offset) (λ i. offset_of end (e.offset i)) (type_size types f.type_name) (type_size others g.type_name) (sizes_same types others f.type_name g.type_name e.kinds) f.since g.since e.since f.presence g.presence e.presence (Enum p h.0)
      ∙ sym (λ i. Read (items_by others end g (k'.1 i)))
  field_by types others end f g (Some (kinds.Set p bs)) b r q e t h k =
      let k' : (at : ℕ) × (q ≡ Some (Simple (Set p at))) = subst (λ b. Means others b q) (sym ((exact_option kind_exact (Some (kinds.Set p bs)) b).0 t)) k in
      (λ i. Read (items_by types end f (h.1 i)))
      ∙ one order version bytes f.name (offset_of end f.offset) (offset_of end g.offset) (λ i. offset_of end (e.offset i)) (type_size types f.type_name) (type_size others g.type_name) (sizes_same types others f.type_name g.type_name e.kinds) f.since g.since e.since f.presence g.presence e.presence (Set p h.0)
      ∙ sym (λ i. Read (items_by others end g (k'.1 i)))
  field_by types others end f g (Some (kinds.Composite ms)) None r q e t h k = absurd (false≢true t)
  field_by types others end f g (Some (kinds.Composite ms)) (Some (kinds.Number p l x y z)) r q e t h k = absurd (false≢true t)
  field_by types others end f g (Some (kinds.Composite ms)) (Some (kinds.Enum p vs)) r q e t h k = absurd (false≢true t)
  field_by types others end f g (Some (kinds.Composite ms)) (Some (kinds.Set p bs)) r q e t h k = absurd (false≢true t)
  field_by types others end f g (Some (kinds.Composite ms)) (Some (kinds.Composite ns)) r q e t h k =
      (λ i. Read (items_by types end f (h.1.0 i)))
      ∙ (λ i. Read (items_of_members types f.name f.since (offset_of end f.offset) 0 (h.1.1 i)))
      ∙ members_alike order version bytes types others f.name g.name f.since g.since e.since (offset_of end f.offset) 0 ms ns t
      ∙ (λ i. Read (items_of_members others g.name g.since (offset_of end (e.offset i)) 0 (sym k.1.1 i)))
      ∙ sym (λ i. Read (items_by others end g (k.1.0 i)))

  fields_alike : (types others : List TypeDef) (end : ℕ) (fs gs : List FieldDef) → pointwise (same_field types others) fs gs ≡ true → Read (items_of_fields types end fs) ≡ Read (items_of_fields others end gs)
  fields_alike types others end [] [] t = refl
  fields_alike types others end [] (g ∷ gs) t = absurd (false≢true t)
  fields_alike types others end (f ∷ fs) [] t = absurd (false≢true t)
  fields_alike types others end (f ∷ fs) (g ∷ gs) t =
      let p = and_parts (same_field types others f g) (pointwise (same_field types others) fs gs) t in
      let e = field_parts types others f g p.0 in
      let here : Read (items_of_field types end f) ≡ Read (items_of_field others end g) =
      unless_both order version bytes f.presence g.presence (items_by types end f (resolved types f.type_name)) (items_by others end g (resolved others g.type_name)) e.presence (field_by types others end f g (kind_named types f.type_name) (kind_named others g.type_name) (resolved types f.type_name) (resolved others g.type_name) e e.kinds (means_named types f.type_name) (means_named others g.type_name)) in
      values_append order version bytes (items_of_field types end f) (items_of_fields types (field_end types end f) fs)
      ∙ (λ i. here i ++ fields_alike types others (field_end types end f) fs gs p.1 i)
      ∙ (λ i. Read (items_of_field others end g) ++ Read (items_of_fields others (field_ends types others end f g e i) gs))
      ∙ sym (values_append order version bytes (items_of_field others end g) (items_of_fields others (field_end others end g) gs))

pub block_alike : (types others : List TypeDef) (order : Order) (version size : ℕ) (fs gs : List FieldDef) (items : List Item) (bytes : List ℕ) → pointwise (same_field types others) fs gs ≡ true → IsBlock order version size (marks_of types 0 fs) (items_of_fields types 0 fs) items bytes → IsBlock order version size (marks_of others 0 gs) (items_of_fields others 0 gs) items bytes
block_alike types others order version size fs gs items bytes t b = record {
  whole = b.whole;
  fields_within = subst (AllWithin version size) (marks_alike types others 0 fs gs t) b.fields_within;
  values = b.values ∙ fields_alike order version bytes types others 0 fs gs t;
}
