-- Types: what is written of a type that was read is read as it.
use Rattle.std.proofs.Common.{◌≡◌, ℕ, List, [], ◌∷◌, Ok, codes, refl, subst}
use Rattle.schema_types.specs.declared.types.TypeDef.{TypeDef}
use Rattle.schema_types.specs.declared.types.TypeKind.{TypeKind}
use Rattle.schema_types.specs.declared.types.TypeKind.TheVariants.{Number, Enum, Set, Composite}
use Rattle.schema_types.specs.declared.types.ValueDef.{ValueDef}
use Rattle.schema_types.specs.declared.types.BitDef.{BitDef}
use Rattle.schema_types.specs.declared.types.MemberDef.{MemberDef}
use Rattle.schema_types.specs.declared.types.Presence.TheVariants.{Required}
use Rattle.toml.specs.Data.{Data, string, table, Members}
use Rattle.toml_walk.specs.Keys.{list_of}
use Rattle.toml_walk.specs.Values.{name_of, number_of, natural_of}
use Rattle.schema_toml.specs.declared.types.Kind.{Kind}
use Rattle.schema_toml.specs.declared.types.Kind.TheVariants as kinds
use Rattle.schema_toml.specs.Words.{primitive_of, presence_of, constant_of}
use Rattle.schema_toml.specs.Types.{value_keys, value_of, bit_keys, bit_of, member_keys, member_of, number_kind, enum_kind, set_kind, composite_kind, kind_word_of, kind_keys, type_keys, type_of}
use Rattle.schema_print.specs.Written.{text_data, value_pairs, bit_pairs, member_pairs, type_pairs, value_data, bit_data, member_data, type_data, list_data, number_data, natural_data, presence_data, primitive_data, constant_data}
use Rattle.schema_print.proofs.Sound.{SoundMembers}
use Rattle.schema_print.proofs.Steps.{Back, bind_inv, ok_value, table_inv, required_inv, get_or_default_inv, optional_inv, deny_unknown_keys_inv, required_is, get_or_default_is, optional_is, deny_unknown_keys_is, list_back}
use Rattle.schema_print.proofs.WordsBack.{name_back, number_back, natural_back, presence_back, primitive_back, constant_back}

pub value_back : Back value_of value_data
value_back d x sound went =
    table_inv value_keys d x sound went (λ ms sound went.
    required_inv (codes "name") name_of text_data ms sound _ x name_back went (λ name name_again went.
    required_inv (codes "value") number_of number_data ms sound _ x number_back went (λ value value_again went.
    let made : ValueDef = record { name = name; value = value } in
    let ps = value_pairs made in
    subst (λ (y : ValueDef). value_of (value_data y) ≡ Ok y) (ok_value made x (deny_unknown_keys_inv (codes "name" ∷ codes "value" ∷ []) ms _ x went))
    (rw (required_is (codes "name") name_of (text_data name) ps name refl name_again, required_is (codes "value") number_of (number_data value) ps value refl value_again, deny_unknown_keys_is (codes "name" ∷ codes "value" ∷ []) ps refl) refl))))

pub bit_back : Back bit_of bit_data
bit_back d x sound went =
    table_inv bit_keys d x sound went (λ ms sound went.
    required_inv (codes "name") name_of text_data ms sound _ x name_back went (λ name name_again went.
    required_inv (codes "bit") (natural_of 0 63) natural_data ms sound _ x (natural_back 0 63) went (λ bit bit_again went.
    let made : BitDef = record { name = name; bit = bit } in
    let ps = bit_pairs made in
    subst (λ (y : BitDef). bit_of (bit_data y) ≡ Ok y) (ok_value made x (deny_unknown_keys_inv (codes "name" ∷ codes "bit" ∷ []) ms _ x went))
    (rw (required_is (codes "name") name_of (text_data name) ps name refl name_again, required_is (codes "bit") (natural_of 0 63) (natural_data bit) ps bit refl bit_again, deny_unknown_keys_is (codes "name" ∷ codes "bit" ∷ []) ps refl) refl))))

pub member_back : Back member_of member_data
member_back d x sound went =
    table_inv member_keys d x sound went (λ ms sound went.
    required_inv (codes "name") name_of text_data ms sound _ x name_back went (λ name name_again went.
    required_inv (codes "type") name_of text_data ms sound _ x name_back went (λ type_name type_name_again went.
    optional_inv (codes "offset") number_of number_data ms sound _ x number_back went (λ offset offset_again went.
    get_or_default_inv (codes "presence") Required presence_of presence_data ms sound _ x presence_back refl went (λ presence presence_again went.
    optional_inv (codes "value") constant_of constant_data ms sound _ x constant_back went (λ value value_again went.
    let made : MemberDef = record { name = name; type_name = type_name; offset = offset; presence = presence; value = value } in
    let ps = member_pairs made in
    subst (λ (y : MemberDef). member_of (member_data y) ≡ Ok y) (ok_value made x (deny_unknown_keys_inv (codes "name" ∷ codes "type" ∷ codes "offset" ∷ codes "presence" ∷ codes "value" ∷ []) ms _ x went))
    (rw (required_is (codes "name") name_of (text_data name) ps name refl name_again, required_is (codes "type") name_of (text_data type_name) ps type_name refl type_name_again, optional_is (codes "offset") number_of number_data ps offset refl offset_again, get_or_default_is (codes "presence") Required presence_of (presence_data presence) ps presence refl presence_again, optional_is (codes "value") constant_of constant_data ps value refl value_again, deny_unknown_keys_is (codes "name" ∷ codes "type" ∷ codes "offset" ∷ codes "presence" ∷ codes "value" ∷ []) ps refl) refl)))))))

-- ---- kinds

abbrev Again : List ℕ → TypeKind → Type 0
Again name k = type_of (type_data (record { name = name; kind = k })) ≡ Ok (record { name = name; kind = k })

number_type_back : (name : List ℕ) (ms : Members) (k : TypeKind) → SoundMembers ms → name_of (text_data name) ≡ Ok name → number_kind (table ms) ≡ Ok k → Again name k
number_type_back name ms k sound name_again went =
    required_inv (codes "prim") primitive_of primitive_data ms sound _ k primitive_back went (λ prim prim_again went.
    get_or_default_inv (codes "length") 1 (natural_of 1 16384) natural_data ms sound _ k (natural_back 1 16384) refl went (λ length length_again went.
    optional_inv (codes "null") number_of number_data ms sound _ k number_back went (λ null null_again went.
    optional_inv (codes "min") number_of number_data ms sound _ k number_back went (λ low low_again went.
    optional_inv (codes "max") number_of number_data ms sound _ k number_back went (λ high high_again went.
    let made : TypeKind = Number prim length null low high in
    let ps = type_pairs (record { name = name; kind = made }) in
    subst (Again name) (ok_value made k (deny_unknown_keys_inv (codes "name" ∷ codes "kind" ∷ codes "prim" ∷ codes "length" ∷ codes "null" ∷ codes "min" ∷ codes "max" ∷ []) ms _ k went))
    (rw (required_is (codes "name") name_of (text_data name) ps name refl name_again, required_is (codes "kind") kind_word_of (string (codes "number")) ps kinds.Number refl refl, required_is (codes "prim") primitive_of (primitive_data prim) ps prim refl prim_again, get_or_default_is (codes "length") 1 (natural_of 1 16384) (natural_data length) ps length refl length_again, optional_is (codes "null") number_of number_data ps null refl null_again, optional_is (codes "min") number_of number_data ps low refl low_again, optional_is (codes "max") number_of number_data ps high refl high_again, deny_unknown_keys_is (codes "name" ∷ codes "kind" ∷ codes "prim" ∷ codes "length" ∷ codes "null" ∷ codes "min" ∷ codes "max" ∷ []) ps refl) refl))))))

enum_type_back : (name : List ℕ) (ms : Members) (k : TypeKind) → SoundMembers ms → name_of (text_data name) ≡ Ok name → enum_kind (table ms) ≡ Ok k → Again name k
enum_type_back name ms k sound name_again went =
    required_inv (codes "prim") primitive_of primitive_data ms sound _ k primitive_back went (λ prim prim_again went.
    required_inv (codes "values") (list_of value_of) (list_data value_data) ms sound _ k (list_back value_of value_data value_back) went (λ values values_again went.
    let made : TypeKind = Enum prim values in
    let ps = type_pairs (record { name = name; kind = made }) in
    subst (Again name) (ok_value made k (deny_unknown_keys_inv (codes "name" ∷ codes "kind" ∷ codes "prim" ∷ codes "values" ∷ []) ms _ k went))
    (rw (required_is (codes "name") name_of (text_data name) ps name refl name_again, required_is (codes "kind") kind_word_of (string (codes "enum")) ps kinds.Enum refl refl, required_is (codes "prim") primitive_of (primitive_data prim) ps prim refl prim_again, required_is (codes "values") (list_of value_of) ((list_data value_data) values) ps values refl values_again, deny_unknown_keys_is (codes "name" ∷ codes "kind" ∷ codes "prim" ∷ codes "values" ∷ []) ps refl) refl)))

set_type_back : (name : List ℕ) (ms : Members) (k : TypeKind) → SoundMembers ms → name_of (text_data name) ≡ Ok name → set_kind (table ms) ≡ Ok k → Again name k
set_type_back name ms k sound name_again went =
    required_inv (codes "prim") primitive_of primitive_data ms sound _ k primitive_back went (λ prim prim_again went.
    required_inv (codes "bits") (list_of bit_of) (list_data bit_data) ms sound _ k (list_back bit_of bit_data bit_back) went (λ bits bits_again went.
    let made : TypeKind = Set prim bits in
    let ps = type_pairs (record { name = name; kind = made }) in
    subst (Again name) (ok_value made k (deny_unknown_keys_inv (codes "name" ∷ codes "kind" ∷ codes "prim" ∷ codes "bits" ∷ []) ms _ k went))
    (rw (required_is (codes "name") name_of (text_data name) ps name refl name_again, required_is (codes "kind") kind_word_of (string (codes "set")) ps kinds.Set refl refl, required_is (codes "prim") primitive_of (primitive_data prim) ps prim refl prim_again, required_is (codes "bits") (list_of bit_of) ((list_data bit_data) bits) ps bits refl bits_again, deny_unknown_keys_is (codes "name" ∷ codes "kind" ∷ codes "prim" ∷ codes "bits" ∷ []) ps refl) refl)))

composite_type_back : (name : List ℕ) (ms : Members) (k : TypeKind) → SoundMembers ms → name_of (text_data name) ≡ Ok name → composite_kind (table ms) ≡ Ok k → Again name k
composite_type_back name ms k sound name_again went =
    required_inv (codes "members") (list_of member_of) (list_data member_data) ms sound _ k (list_back member_of member_data member_back) went (λ members members_again went.
    let made : TypeKind = Composite members in
    let ps = type_pairs (record { name = name; kind = made }) in
    subst (Again name) (ok_value made k (deny_unknown_keys_inv (codes "name" ∷ codes "kind" ∷ codes "members" ∷ []) ms _ k went))
    (rw (required_is (codes "name") name_of (text_data name) ps name refl name_again, required_is (codes "kind") kind_word_of (string (codes "composite")) ps kinds.Composite refl refl, required_is (codes "members") (list_of member_of) ((list_data member_data) members) ps members refl members_again, deny_unknown_keys_is (codes "name" ∷ codes "kind" ∷ codes "members" ∷ []) ps refl) refl))

kind_by : (name : List ℕ) (ms : Members) (kind : Kind) (k : TypeKind) → SoundMembers ms → name_of (text_data name) ≡ Ok name → kind_keys kind (table ms) ≡ Ok k → Again name k
kind_by name ms kinds.Number k sound name_again went = number_type_back name ms k sound name_again went
kind_by name ms kinds.Enum k sound name_again went = enum_type_back name ms k sound name_again went
kind_by name ms kinds.Set k sound name_again went = set_type_back name ms k sound name_again went
kind_by name ms kinds.Composite k sound name_again went = composite_type_back name ms k sound name_again went

kind_data : Kind → Data
kind_data kinds.Number = string (codes "number")
kind_data kinds.Enum = string (codes "enum")
kind_data kinds.Set = string (codes "set")
kind_data kinds.Composite = string (codes "composite")

kind_back : Back kind_word_of kind_data
unfolding kind_data
kind_back d kinds.Number _ went = refl
kind_back d kinds.Enum _ went = refl
kind_back d kinds.Set _ went = refl
kind_back d kinds.Composite _ went = refl

pub type_back : Back type_of type_data
type_back d x sound went =
    table_inv type_keys d x sound went (λ ms sound went.
    required_inv (codes "name") name_of text_data ms sound _ x name_back went (λ name name_again went.
    required_inv (codes "kind") kind_word_of kind_data ms sound _ x kind_back went (λ kind kind_again went.
    bind_inv (kind_keys kind (table ms)) _ x went (λ made gives went.
    subst (λ (y : TypeDef). type_of (type_data y) ≡ Ok y) (ok_value (record { name = name; kind = made }) x went) (kind_by name ms kind made sound name_again gives)))))
