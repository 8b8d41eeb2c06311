-- Schemas: what is written of a schema that a text spells is read as it.
use Rattle.std.proofs.Common.{◌≡◌, ℕ, true, cond, List, [], ◌∷◌, Option, Some, None, Ok, codes, refl, subst}
use Rattle.sbe_prim.specs.declared.Order.TheVariants.{Little}
use Rattle.schema_types.specs.declared.schema.Schema.{Schema}
use Rattle.std.specs.Str.{is_utf8}
use Rattle.toml.specs.Data.{table, Members}
use Rattle.toml.specs.Parse.{parse_document}
use Rattle.toml_walk.specs.Documents.{table_or_fault}
use Rattle.toml_walk.specs.Keys.{list_of}
use Rattle.toml_walk.specs.Reading.{◌>>=◌}
use Rattle.toml_walk.specs.Values.{natural_of}
use Rattle.schema_toml.specs.Words.{order_of}
use Rattle.schema_toml.specs.Types.{type_of}
use Rattle.schema_toml.specs.Messages.{id_of, message_of}
use Rattle.schema_toml.specs.Text.{schema_of, schema_of_text}
use Rattle.schema_print.specs.Written.{list_data, natural_data, order_data, type_data, message_data, schema_pairs, schema_members}
use Rattle.schema_print.proofs.Parsed.{document_sound}
use Rattle.schema_print.proofs.Sound.{SoundMembers}
use Rattle.schema_print.proofs.Strings.{cond_inv}
use Rattle.schema_print.proofs.Steps.{ok_value, required_inv, get_or_default_inv, deny_unknown_keys_inv, required_is, get_or_default_is, deny_unknown_keys_is, list_back}
use Rattle.schema_print.proofs.WordsBack.{natural_back, order_back}
use Rattle.schema_print.proofs.TypesBack.{type_back}
use Rattle.schema_print.proofs.MessagesBack.{message_back}

pub schema_back : (ms : Members) (x : Schema) → SoundMembers ms → schema_of (table ms) ≡ Ok x → schema_of (table (schema_members x)) ≡ Ok x
schema_back ms x sound went =
    required_inv (codes "id") id_of natural_data ms sound _ x (natural_back 0 65534) went (λ id id_again went.
    required_inv (codes "version") (natural_of 0 65534) natural_data ms sound _ x (natural_back 0 65534) went (λ version version_again went.
    get_or_default_inv (codes "order") Little order_of order_data ms sound _ x order_back refl went (λ order order_again went.
    get_or_default_inv (codes "type") [] (list_of type_of) (list_data type_data) ms sound _ x (list_back type_of type_data type_back) refl went (λ types types_again went.
    required_inv (codes "message") (list_of message_of) (list_data message_data) ms sound _ x (list_back message_of message_data message_back) went (λ messages messages_again went.
    let made : Schema = record { id = id; version = version; order = order; types = types; messages = messages } in
    let ps = schema_pairs made in
    subst (λ (y : Schema). schema_of (table (schema_members y)) ≡ Ok y) (ok_value made x (deny_unknown_keys_inv (codes "id" ∷ codes "version" ∷ codes "order" ∷ codes "type" ∷ codes "message" ∷ []) ms _ x went))
    (rw (required_is (codes "id") id_of (natural_data id) ps id refl id_again, required_is (codes "version") (natural_of 0 65534) (natural_data version) ps version refl version_again, get_or_default_is (codes "order") Little order_of (order_data order) ps order refl order_again, get_or_default_is (codes "type") [] (list_of type_of) ((list_data type_data) types) ps types refl types_again, required_is (codes "message") (list_of message_of) ((list_data message_data) messages) ps messages refl messages_again, deny_unknown_keys_is (codes "id" ∷ codes "version" ∷ codes "order" ∷ codes "type" ∷ codes "message" ∷ []) ps refl) refl))))))

by_document : (text : List ℕ) (o : Option Members) (x : Schema) → cond (is_utf8 text) (parse_document text) None ≡ o → (table_or_fault o >>= schema_of) ≡ Ok x → schema_of (table (schema_members x)) ≡ Ok x
by_document text None x is gives = absurd cc
by_document text (Some ms) x is gives =
    cond_inv (is_utf8 text) (parse_document text) None ms is
    (λ valid parsed. schema_back ms x (document_sound text ms valid parsed) gives)
    (λ _ none. absurd cc)

-- a text that reads as what is written of a schema spells the schema, if any text does
pub text_back : (text lines : List ℕ) (ms : Members) (x : Schema) → schema_of_text text ≡ Ok x → is_utf8 lines ≡ true → parse_document lines ≡ Some ms → ms ≡ schema_members x
    → schema_of_text lines ≡ Ok x
text_back text lines ms x gives valid parsed same = rw (valid, parsed, same) (by_document text (cond (is_utf8 text) (parse_document text) None) x refl gives)
