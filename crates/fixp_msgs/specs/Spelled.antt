-- The message that bytes spell, as a function of the bytes.
use Rattle.std.specs.Prelude.{ℕ, ◌+◌, ◌==◌, ◌&&◌, Bool, true, nat_eq, nat_le, if◌then◌else◌, List, length, take, drop, Option, Some, None}
use Rattle.std.specs.Int.{w8, w16, w32, w64, from_le_bytes}
use Rattle.fixp_msgs.specs.Header.{block_length_in, template_in, schema_in, version_in, session_schema}
use Rattle.fixp_msgs.specs.Message.{Message}
use Rattle.fixp_msgs.specs.Table.{row_of, block_size, is_template}
use Rattle.fixp_msgs.specs.Grammar.{unless_null, expected_at}

-- the fields from a place of the block on
abbrev pub u8_at : ℕ → List ℕ → ℕ
u8_at place block = from_le_bytes w8 (drop place block)

abbrev pub u32_at : ℕ → List ℕ → ℕ
u32_at place block = from_le_bytes w32 (drop place block)

abbrev pub u64_at : ℕ → List ℕ → ℕ
u64_at place block = from_le_bytes w64 (drop place block)

abbrev pub optional_at : ℕ → List ℕ → Option ℕ
optional_at place block = unless_null (u64_at place block)

-- the datum behind the block
abbrev pub datum_at : List ℕ → List ℕ
datum_at behind = take (from_le_bytes w16 behind) (drop 2 behind)

-- the message of a template at a version, from its block and what stands behind it
abbrev pub message_at : ℕ → ℕ → List ℕ → List ℕ → Message
message_at version id block behind =
    if nat_eq id 1 then Message.negotiate (take 16 block) (u64_at 16 block) (u8_at 24 block) (datum_at behind)
    else if nat_eq id 2 then Message.negotiation_response (take 16 block) (u64_at 16 block) (u8_at 24 block) (datum_at behind)
    else if nat_eq id 3 then Message.negotiation_reject (take 16 block) (u64_at 16 block) (u8_at 24 block) (datum_at behind)
    else if nat_eq id 4 then Message.establish (take 16 block) (u64_at 16 block) (u32_at 24 block) (optional_at 28 block)
    (expected_at version (u64_at 36 block)) (datum_at behind)
    else if nat_eq id 5 then Message.establishment_ack (take 16 block) (u64_at 16 block) (u32_at 24 block) (optional_at 28 block)
    (expected_at version (u64_at 36 block))
    else if nat_eq id 6 then Message.establishment_reject (take 16 block) (u64_at 16 block) (u8_at 24 block) (datum_at behind)
    else if nat_eq id 7 then Message.sequence (u64_at 0 block)
    else if nat_eq id 8 then Message.unsequenced_heartbeat
    else if nat_eq id 9 then Message.retransmit_request (take 16 block) (u64_at 16 block) (u64_at 24 block) (u32_at 32 block)
    else if nat_eq id 10 then Message.retransmission (take 16 block) (u64_at 16 block) (u64_at 24 block) (u32_at 32 block)
    else if nat_eq id 11 then Message.retransmit_reject (take 16 block) (u64_at 16 block) (u8_at 24 block) (datum_at behind)
    else if nat_eq id 12 then Message.applied (u64_at 0 block) (u32_at 8 block)
    else if nat_eq id 13 then Message.not_applied (u64_at 0 block) (u32_at 8 block)
    else if nat_eq id 14 then Message.finished_sending (take 16 block) (optional_at 16 block)
    else if nat_eq id 15 then Message.finished_receiving (take 16 block)
    else Message.terminate (take 16 block) (u8_at 16 block) (datum_at behind)

-- the datum that a message is to have stands whole behind its block
abbrev pub has_datum : Option (List ℕ) → List ℕ → Bool
has_datum None behind = true
has_datum (Some _) behind = nat_le (2 + from_le_bytes w16 behind) (length behind)

-- the message of the template, where it is one of the table and its block and its datum stand whole in the bytes
unfoldable pub message_in : List ℕ → Option Message
message_in bytes =
    let size = block_length_in bytes in
    let block = take size (drop 8 bytes) in
    let behind = drop size (drop 8 bytes) in
    let m = message_at (version_in bytes) (template_in bytes) block behind in
    if is_template (template_in bytes) && ((schema_in bytes == session_schema)
    && (nat_le (block_size (row_of m)) size && (nat_le (8 + size) (length bytes) && has_datum (row_of m).datum behind)))
    then Some m
    else None
