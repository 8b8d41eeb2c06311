-- Two elements are the same whichever is looked at first.
use Rattle.std.proofs.Common.{◌≡◌, Bool, ◌&&◌, List, [], ◌∷◌, Option, Some, None, refl}
use Rattle.std.specs.Cmp.Lexicographic.{pointwise}
use Rattle.std.proofs.lemmas.Bool.Decides.{Decides-eqb, Decides-int_eq}
use Rattle.lists.specs.Exact.{Exact, exact_option, exact_bare, partial_equivalence}
use Rattle.sbe_prim.specs.contracts.Primitive as primitive
use Rattle.schema_types.specs.contracts.types.Presence as presence
use Rattle.schema_types.specs.Equal.{bytes_exact, number_exact, constant_exact, kind_exact, data_exact}
use Rattle.schema_types.specs.declared.types.TypeDef.{TypeDef}
use Rattle.schema_types.specs.declared.types.TypeKind.{TypeKind}
use Rattle.schema_types.specs.declared.types.TypeKind.TheVariants.{Number, Enum, Set, Composite}
use Rattle.schema_types.specs.declared.types.MemberDef.{MemberDef}
use Rattle.schema_types.specs.declared.messages.FieldDef.{FieldDef}
use Rattle.schema_types.specs.declared.messages.DataDef.{DataDef}
use Rattle.schema_types.specs.declared.messages.MessageDef.{MessageDef}
use Rattle.schema_types.specs.Groups.{GroupHead, GroupTree, no_groups, group}
use Rattle.sbe_skew.specs.SameTypes.{same_kind, kind_named, same_member, same_kinds}
use Rattle.sbe_skew.specs.Extends.{same_field, same_datum, same_head, same_template, same_groups, same_message}

flip : {A : Type 0} {same : A → A → Bool} → Exact same → (x y : A) → same x y ≡ same y x
flip {A} {same} e x y = (partial_equivalence same e).symm x y

list_flip : {A : Type 0} (R S : A → A → Bool) → ((x y : A) → R x y ≡ S y x) → (xs ys : List A) → pointwise R xs ys ≡ pointwise S ys xs
list_flip R S e [] [] = refl
list_flip R S e [] (y ∷ ys) = refl
list_flip R S e (x ∷ xs) [] = refl
list_flip R S e (x ∷ xs) (y ∷ ys) = λ i. e x y i && list_flip R S e xs ys i

kind_flip : (a b : Option TypeKind) → same_kind a b ≡ same_kind b a
kind_flip a b = flip (exact_option kind_exact) a b

member_flip : (types others : List TypeDef) (m n : MemberDef) → same_member types others m n ≡ same_member others types n m
member_flip types others m n =
    λ i. (((flip bytes_exact m.name n.name i && flip number_exact m.offset n.offset i) && flip (exact_bare presence.the_type tt) m.presence n.presence i) && flip (exact_option constant_exact) m.value n.value i) && kind_flip (kind_named types m.type_name) (kind_named others n.type_name) i

kinds_flip : (types others : List TypeDef) (a b : Option TypeKind) → same_kinds types others a b ≡ same_kinds others types b a
kinds_flip types others (Some (Composite ms)) (Some (Composite ns)) = list_flip (same_member types others) (same_member others types) (member_flip types others) ms ns
kinds_flip types others None (Some (Composite ns)) = kind_flip None (Some (Composite ns))
kinds_flip types others (Some (Number p l n a b)) (Some (Composite ns)) = kind_flip (Some (Number p l n a b)) (Some (Composite ns))
kinds_flip types others (Some (Enum p vs)) (Some (Composite ns)) = kind_flip (Some (Enum p vs)) (Some (Composite ns))
kinds_flip types others (Some (Set p bs)) (Some (Composite ns)) = kind_flip (Some (Set p bs)) (Some (Composite ns))
kinds_flip types others a b = kind_flip a b

field_flip : (types others : List TypeDef) (f g : FieldDef) → same_field types others f g ≡ same_field others types g f
field_flip types others f g =
    λ i. (((((flip bytes_exact f.name g.name i && flip Decides-eqb f.id g.id i) && flip (exact_bare presence.the_type tt) f.presence g.presence i) && flip (exact_option constant_exact) f.value g.value i) && flip number_exact f.offset g.offset i) && flip Decides-int_eq f.since g.since i) && kinds_flip types others (kind_named types f.type_name) (kind_named others g.type_name) i

pub fields_flip : (types others : List TypeDef) (fs gs : List FieldDef) → pointwise (same_field types others) fs gs ≡ pointwise (same_field others types) gs fs
fields_flip types others fs gs = list_flip (same_field types others) (same_field others types) (field_flip types others) fs gs

pub data_flip : (ds es : List DataDef) → pointwise same_datum ds es ≡ pointwise same_datum es ds
data_flip ds es = list_flip same_datum same_datum (flip data_exact) ds es

head_flip : (g h : GroupHead) → same_head g h ≡ same_head h g
head_flip g h =
    λ i. (((flip bytes_exact g.name h.name i && flip Decides-eqb g.id h.id i) && flip (exact_bare primitive.the_type tt) g.block_prim h.block_prim i) && flip (exact_bare primitive.the_type tt) g.count_prim h.count_prim i) && flip Decides-int_eq g.since h.since i

template_flip : (m n : MessageDef) → same_template m n ≡ same_template n m
template_flip m n = λ i. (flip bytes_exact m.name n.name i && flip Decides-eqb m.id n.id i) && flip Decides-int_eq m.since n.since i

groups_flip : (types others : List TypeDef) (t u : GroupTree) → same_groups types others t u ≡ same_groups others types u t
groups_flip types others no_groups no_groups = refl
groups_flip types others no_groups (group h deeper after) = refl
groups_flip types others (group g inner rest) no_groups = refl
groups_flip types others (group g inner rest) (group h deeper after) =
    λ i. (head_flip g h i && (fields_flip types others g.fields h.fields i && (groups_flip types others inner deeper i && data_flip g.vars h.vars i))) && groups_flip types others rest after i

message_flip : (types others : List TypeDef) (m n : MessageDef) → same_message types others m n ≡ same_message others types n m
message_flip types others m n =
    λ i. template_flip m n i && (fields_flip types others m.fields n.fields i && (groups_flip types others m.groups n.groups i && data_flip m.vars n.vars i))

pub messages_flip : (types others : List TypeDef) (ms ns : List MessageDef) → pointwise (same_message types others) ms ns ≡ pointwise (same_message others types) ns ms
messages_flip types others ms ns = list_flip (same_message types others) (same_message others types) (message_flip types others) ms ns
