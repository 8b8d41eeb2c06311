-- Which bytes spell which session message (SBE 1.0: "Message structure", "Field encoding",
-- "Variable-length data"). The bytes begin with the header; every number is little-endian.
use Rattle.std.specs.Prelude.{◌≡◌, ℕ, ◌+◌, ◌≤◌, ◌==◌, List, [], ◌∷◌, Option, Some, None, length, take, drop, sum_by, if◌then◌else◌}
use Rattle.std.specs.Int.{w8, w16, w32, w64, from_le_bytes}
use Rattle.fixp_msgs.specs.declared.messages.Expected.{Expected}
use Rattle.fixp_msgs.specs.declared.messages.Expected.TheVariants.{Absent, Null, Number}
use Rattle.fixp_msgs.specs.Header.{block_length_in, template_in, schema_in, version_in, session_schema}
use Rattle.fixp_msgs.specs.Message.{Message}
use Rattle.fixp_msgs.specs.Table.{Field, row_of, size_of, null}

-- a number that may be missing: the null value says that it is
abbrev pub unless_null : ℕ → Option ℕ
unless_null n = if n == null then None else Some n

-- the number that the writer of a message of this version expects: version 0 says nothing of it
abbrev pub expected_at : ℕ → ℕ → Expected
expected_at version n = if version == 0 then Absent else if n == null then Null else Number n

-- the bytes of the field from this place of the block on spell its value, by the message's version
abbrev pub Holds : ℕ → List ℕ → ℕ → Field → Type 0
Holds version block place (Field.identifier id) = id ≡ take 16 (drop place block)
Holds version block place (Field.u8 n) = n ≡ from_le_bytes w8 (drop place block)
Holds version block place (Field.u32 n) = n ≡ from_le_bytes w32 (drop place block)
Holds version block place (Field.u64 n) = n ≡ from_le_bytes w64 (drop place block)
Holds version block place (Field.optional n) = n ≡ unless_null (from_le_bytes w64 (drop place block))
Holds version block place (Field.expected e) = e ≡ expected_at version (from_le_bytes w64 (drop place block))

-- each field stands where the one before it ends
abbrev pub HoldsAll : ℕ → List ℕ → ℕ → List Field → Type 0
HoldsAll version block place [] = Unit {0}
HoldsAll version block place (f ∷ fs) = Holds version block place f × HoldsAll version block (place + size_of f) fs

-- the block that the message's header states stands whole behind the header, is at least this long,
-- and these bytes follow it
pub record IsBlock (message : List ℕ) (least : ℕ) (block behind : List ℕ) : Type 0 where
  pub covers : least ≤ block_length_in message
  pub whole : 8 + block_length_in message ≤ length message
  pub stated : block ≡ take (block_length_in message) (drop 8 message)
  pub rest : behind ≡ drop (block_length_in message) (drop 8 message)

-- the bytes begin with the datum's length in two bytes, and then the datum
pub record BeginsWithDatum (bytes datum : List ℕ) : Type 0 where
  pub whole : 2 + from_le_bytes w16 bytes ≤ length bytes
  pub value : datum ≡ take (from_le_bytes w16 bytes) (drop 2 bytes)

abbrev pub HasDatum : List ℕ → Option (List ℕ) → Type 0
HasDatum behind None = Unit {0}
HasDatum behind (Some datum) = BeginsWithDatum behind datum

-- behind the header the stated block is whole and holds these fields by the version that the header states, and this datum stands behind
-- the block
pub record HasBody (bytes : List ℕ) (values : List Field) (variable : Option (List ℕ)) : Type 0 where
  pub block : List ℕ
  pub behind : List ℕ
  pub stands : IsBlock bytes (sum_by size_of values) block behind
  pub fields : HoldsAll (version_in bytes) block 0 values
  pub datum : HasDatum behind variable

-- The bytes spell the message: the header names its template and the session's schema, and the body has
-- its fields and its datum. A block may be longer than its fields, bytes may follow the last element, and
-- the version may be any; at version 0 no expected number is there, and at every other one it is.
pub record Spells (bytes : List ℕ) (m : Message) : Type 0 where
  pub template : template_in bytes ≡ (row_of m).template
  pub schema : schema_in bytes ≡ session_schema
  pub body : HasBody bytes (row_of m).fields (row_of m).datum
