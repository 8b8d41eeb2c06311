-- The one way in which a session message is written: the lowest version that has its elements, no padding, nothing behind
-- the last element (SBE 1.0), in a frame of its own (Simple Open Framing Header 1.0).
use Rattle.std.specs.Prelude.{◌≡◌, ◌≢◌, ℕ, ◌+◌, ◌<◌, ◌≤◌, ◌^◌, List, [], ◌++◌, Option, Some, None, IfSome, unwrap_or, length}
use Rattle.std.specs.Int.{w8, w16, w32, w64, to_le_bytes, to_be_bytes}
use Rattle.std.specs.List.{flat_map, AllByRecursion}
use Rattle.fixp_msgs.specs.declared.messages.Expected.TheVariants.{Absent, Null, Number}
use Rattle.fixp_msgs.specs.Header.{session_schema}
use Rattle.fixp_msgs.specs.Message.{Message}
use Rattle.fixp_msgs.specs.Table.{Field, Row, row_of, block_size, version_of, null}

abbrev pub field_bytes : Field → List ℕ
field_bytes (Field.identifier id) = id
field_bytes (Field.u8 n) = to_le_bytes w8 n
field_bytes (Field.u32 n) = to_le_bytes w32 n
field_bytes (Field.u64 n) = to_le_bytes w64 n
field_bytes (Field.optional n) = to_le_bytes w64 (unwrap_or n null)
field_bytes (Field.expected Absent) = []
field_bytes (Field.expected Null) = to_le_bytes w64 null
field_bytes (Field.expected (Number n)) = to_le_bytes w64 n

-- behind these bytes stands the datum, if there is one: its length in two bytes, and its bytes
abbrev pub with_datum : List ℕ → Option (List ℕ) → List ℕ
with_datum bytes None = bytes
with_datum bytes (Some datum) = bytes ++ to_le_bytes w16 (length datum) ++ datum

-- the header: the block's length, the template id, the schema id and the version
abbrev pub header_bytes : Row → List ℕ
header_bytes r = to_le_bytes w16 (block_size r) ++ to_le_bytes w16 r.template ++ to_le_bytes w16 session_schema ++ to_le_bytes w16 (version_of r)

abbrev pub row_bytes : Row → List ℕ
row_bytes r = with_datum (header_bytes r ++ flat_map field_bytes r.fields) r.datum

-- the framing header (Simple Open Framing Header 1.0): the length of the whole frame, itself counted,
-- and the encoding type of little-endian SBE 1.0
abbrev pub framing_bytes : ℕ → List ℕ
framing_bytes size = to_be_bytes w32 size ++ to_be_bytes w16 0xEB50

abbrev pub row_frame : Row → List ℕ
row_frame r = framing_bytes (6 + length (row_bytes r)) ++ row_bytes r

abbrev pub message_bytes : Message → List ℕ
message_bytes m = row_bytes (row_of m)

abbrev pub frame_bytes : Message → List ℕ
frame_bytes m = row_frame (row_of m)

-- a datum has at most 2,048 bytes (this project's profile), and a number that is there is not the null value
abbrev pub IsWritableField : Field → Type 0
IsWritableField (Field.optional n) = n ≢ Some null
IsWritableField (Field.expected (Number n)) = n ≢ null
IsWritableField _ = Unit {0}

pub record IsWritableRow (r : Row) : Type 0 where
  pub numbers : AllByRecursion IsWritableField r.fields
  pub datum : IfSome r.datum (λ datum. length datum ≤ 2048)

abbrev pub IsWritable : Message → Type 0
IsWritable m = IsWritableRow (row_of m)

-- a writable message whose identifier has 16 bytes and whose numbers fit their widths
abbrev pub FitsField : Field → Type 0
FitsField (Field.identifier id) = length id ≡ 16
FitsField (Field.u8 n) = n < 2 ^ 8
FitsField (Field.u32 n) = n < 2 ^ 32
FitsField (Field.u64 n) = n < 2 ^ 64
FitsField (Field.optional n) = IfSome n (λ k. k < null)
FitsField (Field.expected Absent) = Unit {0}
FitsField (Field.expected Null) = Unit {0}
FitsField (Field.expected (Number n)) = n < null

pub record IsLegalRow (r : Row) : Type 0 where
  pub fields : AllByRecursion FitsField r.fields
  pub datum : IfSome r.datum (λ datum. length datum ≤ 2048)

abbrev pub IsLegal : Message → Type 0
IsLegal m = IsLegalRow (row_of m)
