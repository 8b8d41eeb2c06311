-- The session messages of FIXP 1.1 as a schema of SBE 1.0 (this project's profile): what each message's fields are, for any version of the schema.
-- Version 1 adds one field to Establish and EstablishmentAck, the number that their writer expects.
use Rattle.std.specs.Prelude.{ℕ, ◌-◌, ◌^◌, ℤ, pos, Bool, nat_le, if◌then◌else◌, Option, Some, None, List, [], ◌∷◌, ◌++◌, codes}
use Rattle.sbe_prim.specs.declared.Order.TheVariants.{Little}
use Rattle.sbe_prim.specs.declared.Primitive.{Primitive}
use Rattle.sbe_prim.specs.declared.Primitive.TheVariants.{UInt8, UInt16, UInt32, UInt64}
use Rattle.schema_types.specs.declared.schema.Schema.{Schema}
use Rattle.schema_types.specs.declared.types.TypeDef.{TypeDef}
use Rattle.schema_types.specs.declared.types.TypeKind.TheVariants.{Number}
use Rattle.schema_types.specs.declared.types.Presence.{Presence}
use Rattle.schema_types.specs.declared.types.Presence.TheVariants.{Required, Optional}
use Rattle.schema_types.specs.declared.messages.MessageDef.{MessageDef}
use Rattle.schema_types.specs.declared.messages.FieldDef.{FieldDef}
use Rattle.schema_types.specs.declared.messages.DataDef.{DataDef}
use Rattle.schema_types.specs.Groups.{no_groups}

-- ---- types: numbers of which each may be written, the bytes of a session id, and a number that may be missing

abbrev pub number_type : List ℕ → Primitive → ℕ → Option ℤ → Option ℤ → TypeDef
number_type name prim length null most = record { name = name; kind = Number prim length null None most }

abbrev pub session_types : List TypeDef
session_types =
    number_type (codes "u8") UInt8 1 None (Some (pos (2 ^ 8 - 1)))
    ∷ number_type (codes "u32") UInt32 1 None (Some (pos (2 ^ 32 - 1)))
    ∷ number_type (codes "u64") UInt64 1 None (Some (pos (2 ^ 64 - 1)))
    ∷ number_type (codes "id") UInt8 16 None None
    ∷ number_type (codes "opt") UInt64 1 (Some (pos (2 ^ 64 - 1))) (Some (pos (2 ^ 64 - 2)))
    ∷ []

-- ---- fields and data, with their ids

abbrev pub field : ℕ → List ℕ → List ℕ → Presence → FieldDef
field id name type presence = record {
  name = name;
  id = id;
  type_name = type;
  presence = presence;
  value = None;
  offset = None;
  since = pos 0;
}

abbrev pub session_id : FieldDef
session_id = field 1 (codes "session") (codes "id") Required

abbrev pub u8_field : ℕ → List ℕ → FieldDef
u8_field id name = field id name (codes "u8") Required

abbrev pub u32_field : ℕ → List ℕ → FieldDef
u32_field id name = field id name (codes "u32") Required

abbrev pub u64_field : ℕ → List ℕ → FieldDef
u64_field id name = field id name (codes "u64") Required

abbrev pub opt_field : ℕ → List ℕ → FieldDef
opt_field id name = field id name (codes "opt") Optional

-- the number that the writer of a handshake's message expects, which version 1 adds
abbrev pub expected_field : FieldDef
expected_field = record {
  name = codes "expected_next";
  id = 6;
  type_name = codes "opt";
  presence = Optional;
  value = None;
  offset = None;
  since = pos 1;
}

abbrev pub expected_fields : Bool → List FieldDef
expected_fields newer = if newer then expected_field ∷ [] else []

abbrev pub data_field : ℕ → List ℕ → List DataDef
data_field id name = record { name = name; id = id; length = UInt16; since = pos 0 } ∷ []

abbrev pub message : ℕ → List ℕ → List FieldDef → List DataDef → MessageDef
message id name fields vars = record {
  name = name;
  id = id;
  since = pos 0;
  block_length = None;
  fields = fields;
  groups = no_groups;
  vars = vars;
}

-- an answer that repeats a request's timestamp and gives a code
abbrev pub coded : ℕ → List ℕ → MessageDef
coded id name = message id name (session_id ∷ u64_field 2 (codes "request_timestamp") ∷ u8_field 3 (codes "code") ∷ []) (data_field 4 (codes "reason"))

-- a number of messages from a number on
abbrev pub counted : ℕ → List ℕ → MessageDef
counted id name = message id name (u64_field 1 (codes "from_seq") ∷ u32_field 2 (codes "count") ∷ []) []

-- ---- the sixteen messages

abbrev pub negotiation_messages : Bool → List MessageDef
negotiation_messages newer =
    message 1 (codes "Negotiate") (session_id ∷ u64_field 2 (codes "timestamp") ∷ u8_field 3 (codes "client_flow") ∷ []) (data_field 4 (codes "credentials"))
    ∷ message 2 (codes "NegotiationResponse") (session_id ∷ u64_field 2 (codes "request_timestamp") ∷ u8_field 3 (codes "server_flow") ∷ [])
    (data_field 4 (codes "credentials"))
    ∷ coded 3 (codes "NegotiationReject")
    ∷ message 4 (codes "Establish") (session_id ∷ u64_field 2 (codes "timestamp") ∷ u32_field 3 (codes "keepalive") ∷ opt_field 4 (codes "next_seq")
    ∷ expected_fields newer)
    (data_field 5 (codes "credentials"))
    ∷ message 5 (codes "EstablishmentAck") (session_id ∷ u64_field 2 (codes "request_timestamp") ∷ u32_field 3 (codes "keepalive")
    ∷ opt_field 4 (codes "next_seq") ∷ expected_fields newer) []
    ∷ coded 6 (codes "EstablishmentReject")
    ∷ []

abbrev pub transfer_messages : List MessageDef
transfer_messages =
    message 7 (codes "Sequence") (u64_field 1 (codes "next_seq") ∷ []) []
    ∷ message 8 (codes "UnsequencedHeartbeat") [] []
    ∷ message 9 (codes "RetransmitRequest") (session_id ∷ u64_field 2 (codes "timestamp") ∷ u64_field 3 (codes "from_seq") ∷ u32_field 4 (codes "count")
    ∷ []) []
    ∷ message 10 (codes "Retransmission") (session_id ∷ u64_field 2 (codes "next_seq") ∷ u64_field 3 (codes "request_timestamp")
    ∷ u32_field 4 (codes "count") ∷ []) []
    ∷ coded 11 (codes "RetransmitReject")
    ∷ counted 12 (codes "Applied")
    ∷ counted 13 (codes "NotApplied")
    ∷ []

abbrev pub closing_messages : List MessageDef
closing_messages =
    message 14 (codes "FinishedSending") (session_id ∷ opt_field 2 (codes "last_seq") ∷ []) []
    ∷ message 15 (codes "FinishedReceiving") (session_id ∷ []) []
    ∷ message 16 (codes "Terminate") (session_id ∷ u8_field 2 (codes "code") ∷ []) (data_field 3 (codes "reason"))
    ∷ []

-- with the elements of version 1, or those of version 0 alone
abbrev pub schema_with : Bool → ℕ → Schema
schema_with newer version = record {
  id = 61457;
  version = version;
  order = Little;
  types = session_types;
  messages = negotiation_messages newer ++ (transfer_messages ++ closing_messages);
}

abbrev pub session_schema : ℕ → Schema
session_schema version = schema_with (nat_le 1 version) version
