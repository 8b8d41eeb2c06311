-- The table of the session messages (FIXP 1.1 names them; template ids and blocks are this project's profile).
use Rattle.std.specs.Prelude.{ℕ, ◌-◌, ◌^◌, ◌==◌, if◌then◌else◌, Bool, true, false, List, [], ◌∷◌, Option, Some, None, sum_by, nat_eq}
use Rattle.std.specs.List.{list_any}
use Rattle.fixp_msgs.specs.declared.messages.Expected.{Expected}
use Rattle.fixp_msgs.specs.declared.messages.Expected.TheVariants.{Absent, Null, Number}
use Rattle.fixp_msgs.specs.Message.{Message}

-- a field of a block with its value: a session's identifier of 16 bytes, an unsigned number of 8, 32 or
-- 64 bits, one of 64 bits that may be missing, or the number that the writer expects, which is there from version 1 on
pub data Field : Type 0 where
  identifier : List ℕ → Field
  u8 : ℕ → Field
  u32 : ℕ → Field
  u64 : ℕ → Field
  optional : Option ℕ → Field
  expected : Expected → Field

-- how many bytes a field takes
abbrev pub size_of : Field → ℕ
size_of (identifier _) = 16
size_of (u8 _) = 1
size_of (u32 _) = 4
size_of (u64 _) = 8
size_of (optional _) = 8
size_of (expected Absent) = 0
size_of (expected Null) = 8
size_of (expected (Number _)) = 8

-- no field of version 0
abbrev pub is_later : Field → Bool
is_later (identifier _) = false
is_later (u8 _) = false
is_later (u32 _) = false
is_later (u64 _) = false
is_later (optional _) = false
is_later (expected Absent) = false
is_later (expected Null) = true
is_later (expected (Number _)) = true

-- a row of the table with a message's values: the template id, the fields of the block in order without gaps,
-- and the variable data behind the block, if the message has any
pub record Row : Type 0 where
  pub template : ℕ
  pub fields : List Field
  pub datum : Option (List ℕ)

abbrev pub row_of : Message → Row
row_of (Message.negotiate session timestamp flow credentials) =
    record { template = 1; fields = identifier session ∷ u64 timestamp ∷ u8 flow ∷ []; datum = Some credentials }
row_of (Message.negotiation_response session timestamp flow credentials) =
    record { template = 2; fields = identifier session ∷ u64 timestamp ∷ u8 flow ∷ []; datum = Some credentials }
row_of (Message.negotiation_reject session timestamp code reason) =
    record { template = 3; fields = identifier session ∷ u64 timestamp ∷ u8 code ∷ []; datum = Some reason }
row_of (Message.establish session timestamp keepalive next e credentials) =
    record { template = 4; fields = identifier session ∷ u64 timestamp ∷ u32 keepalive ∷ optional next ∷ expected e ∷ []; datum = Some credentials }
row_of (Message.establishment_ack session timestamp keepalive next e) =
    record { template = 5; fields = identifier session ∷ u64 timestamp ∷ u32 keepalive ∷ optional next ∷ expected e ∷ []; datum = None }
row_of (Message.establishment_reject session timestamp code reason) =
    record { template = 6; fields = identifier session ∷ u64 timestamp ∷ u8 code ∷ []; datum = Some reason }
row_of (Message.sequence next) = record { template = 7; fields = u64 next ∷ []; datum = None }
row_of Message.unsequenced_heartbeat = record { template = 8; fields = []; datum = None }
row_of (Message.retransmit_request session timestamp first count) =
    record { template = 9; fields = identifier session ∷ u64 timestamp ∷ u64 first ∷ u32 count ∷ []; datum = None }
row_of (Message.retransmission session next timestamp count) =
    record { template = 10; fields = identifier session ∷ u64 next ∷ u64 timestamp ∷ u32 count ∷ []; datum = None }
row_of (Message.retransmit_reject session timestamp code reason) =
    record { template = 11; fields = identifier session ∷ u64 timestamp ∷ u8 code ∷ []; datum = Some reason }
row_of (Message.applied first count) = record { template = 12; fields = u64 first ∷ u32 count ∷ []; datum = None }
row_of (Message.not_applied first count) = record { template = 13; fields = u64 first ∷ u32 count ∷ []; datum = None }
row_of (Message.finished_sending session last) = record { template = 14; fields = identifier session ∷ optional last ∷ []; datum = None }
row_of (Message.finished_receiving session) = record { template = 15; fields = identifier session ∷ []; datum = None }
row_of (Message.terminate session code reason) = record { template = 16; fields = identifier session ∷ u8 code ∷ []; datum = Some reason }

-- the length of a row's block: its fields' bytes
abbrev pub block_size : Row → ℕ
block_size r = sum_by size_of r.fields

-- the version of the session's schema that first has the elements of a row
abbrev pub version_of : Row → ℕ
version_of r = if list_any is_later r.fields then 1 else 0

-- the length of the block of Establish and EstablishmentAck at a version
abbrev pub established_block : ℕ → ℕ
established_block version = if version == 0 then 36 else 44

-- the number that stands for a missing one (SBE 1.0, "Null values": the greatest of the type)
abbrev pub null : ℕ
null = 2 ^ 64 - 1

-- the templates of the table
abbrev pub templates : List ℕ
templates = 1 ∷ 2 ∷ 3 ∷ 4 ∷ 5 ∷ 6 ∷ 7 ∷ 8 ∷ 9 ∷ 10 ∷ 11 ∷ 12 ∷ 13 ∷ 14 ∷ 15 ∷ 16 ∷ []

abbrev pub is_template : ℕ → Bool
is_template id = list_any (nat_eq id) templates
