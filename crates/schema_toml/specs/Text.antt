-- The schema that a text spells, or the first fault of the text (this project's profile).
use Rattle.std.specs.Prelude.{ℕ, List, [], ◌∷◌, Ok, codes}
use Rattle.toml.specs.Data.{Data}
use Rattle.sbe_prim.specs.declared.Order.TheVariants.{Little}
use Rattle.schema_types.specs.declared.schema.Schema.{Schema}
use Rattle.toml_walk.specs.Reading.{Read, ◌>>=◌}
use Rattle.toml_walk.specs.Documents.{document_of}
use Rattle.toml_walk.specs.Keys.{required, get_or_default, list_of, deny_unknown_keys}
use Rattle.toml_walk.specs.Values.{natural_of}
use Rattle.schema_toml.specs.Words.{order_of}
use Rattle.schema_toml.specs.Types.{type_of}
use Rattle.schema_toml.specs.Messages.{id_of, message_of}

-- {id, version, order?, type?, message}
abbrev pub schema_of : Data → Read Schema
schema_of keys =
    required (codes "id") id_of keys >>= λ id.
    required (codes "version") (natural_of 0 65534) keys >>= λ version.
    get_or_default (codes "order") Little order_of keys >>= λ order.
    get_or_default (codes "type") [] (list_of type_of) keys >>= λ types.
    required (codes "message") (list_of message_of) keys >>= λ messages.
    deny_unknown_keys (codes "id" ∷ codes "version" ∷ codes "order" ∷ codes "type" ∷ codes "message" ∷ []) keys >>= λ _.
    Ok (record { id = id; version = version; order = order; types = types; messages = messages })

abbrev pub schema_of_text : List ℕ → Read Schema
schema_of_text text = document_of text >>= schema_of
