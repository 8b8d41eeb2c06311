-- How many bytes a written frame has.
use Rattle.std.proofs.Common.{◌≡◌, ℕ, ◌+◌, ◌≤◌, List, ◌++◌, Option, Some, None, IfSome, length, lit≤, arith, length-append}
use Rattle.std.specs.Int.{w16, to_le_bytes}
use Rattle.std.specs.List.{flat_map}
use Rattle.fixp_msgs.specs.Message.{Message}
use Rattle.fixp_msgs.specs.Table.{row_of, block_size}
use Rattle.fixp_msgs.specs.Canonical.{field_bytes, with_datum, header_bytes, frame_bytes, IsLegal}
use Rattle.fixp_msgs.proofs.Rows.{bounds}
use Rattle.fixp_msgs.proofs.Written.{length-fields}

-- the bytes of a datum with its length, or none
abbrev pub datum_size : Option (List ℕ) → ℕ
datum_size None = 0
datum_size (Some datum) = 2 + length datum

length-with_datum : (bytes : List ℕ) (datum : Option (List ℕ)) → length (with_datum bytes datum) ≡ length bytes + datum_size datum
length-with_datum bytes None = omega arith
length-with_datum bytes (Some datum) = omega (arith, length-append (bytes ++ to_le_bytes w16 (length datum)) datum, length-append bytes (to_le_bytes w16 (length datum)))

-- the framing header has 6 bytes, the message header 8, and then come the block and the datum
pub length-frame_bytes : (m : Message) → IsLegal m → length (frame_bytes m) ≡ 14 + block_size (row_of m) + datum_size (row_of m).datum
length-frame_bytes m legal =
    let block : List ℕ = flat_map field_bytes (row_of m).fields in
    omega (arith, length-with_datum (header_bytes (row_of m) ++ block) (row_of m).datum, length-fields (row_of m).fields legal.fields)

datum_most : (datum : Option (List ℕ)) → IfSome datum (λ t. length t ≤ 2048) → datum_size datum ≤ 2050
datum_most None _ = lit≤ tt
datum_most (Some datum) short = omega arith

-- every frame has its two headers, and a legal one has at most 2,108 bytes
pub frame_bytes_least : (m : Message) → 14 ≤ length (frame_bytes m)
frame_bytes_least m =
    let block : List ℕ = flat_map field_bytes (row_of m).fields in
    omega (arith, length-with_datum (header_bytes (row_of m) ++ block) (row_of m).datum)

pub frame_bytes_most : (m : Message) → IsLegal m → length (frame_bytes m) ≤ 2108
frame_bytes_most m legal = omega (arith, length-frame_bytes m legal, (bounds m).block, datum_most (row_of m).datum legal.datum)
