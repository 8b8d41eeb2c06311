-- The records of a journal and their bytes (this project's journal format, version 1). All numbers are little-endian.
use Rattle.std.specs.Prelude.{◌≡◌, ℕ, ◌<◌, ◌≤◌, ◌^◌, Bool, true, false, List, [], ◌∷◌, ◌++◌, length, Option, Some, None, ⊤}
use Rattle.std.specs.Int.{w16, w32, w64, to_le_bytes}
use Rattle.jr_record.specs.declared.record.Record.{Record}
use Rattle.jr_record.specs.declared.record.Record.TheVariants.{Entry, Apply, Skip, Negotiated, PeerFinished, Finish}

-- a payload is a frame's bytes from the encoding type on
abbrev pub IsPayload : List ℕ → Type 0
IsPayload payload = (10 ≤ length payload) × (length payload ≤ 16386)

-- a sender of an end
abbrev pub IsSender : ℕ → Type 0
IsSender sender = (1 ≤ sender) × (sender ≤ 16)

-- a number or a count of messages
abbrev pub IsNumber : ℕ → Type 0
IsNumber n = (1 ≤ n) × (n < 2 ^ 64)

-- the records that the format has: their numbers lie in their ranges
abbrev pub IsRecord : Record → Type 0
IsRecord (Entry sender k payload) = IsSender sender × IsNumber k × IsPayload payload
IsRecord (Apply number payload) = IsNumber number × IsPayload payload
IsRecord (Skip from count) = IsNumber from × IsNumber count
IsRecord Negotiated = ⊤
IsRecord (PeerFinished last) = last < 2 ^ 64
IsRecord Finish = ⊤

-- the first byte of a record
abbrev pub kind_of : Record → ℕ
kind_of (Entry _ _ _) = 1
kind_of (Apply _ _) = 2
kind_of (Skip _ _) = 3
kind_of Negotiated = 4
kind_of (PeerFinished _) = 5
kind_of Finish = 6

-- what a record says, behind its kind and its length
abbrev pub body_of : Record → List ℕ
body_of (Entry sender k payload) = to_le_bytes w16 sender ++ to_le_bytes w64 k ++ payload
body_of (Apply number payload) = to_le_bytes w64 number ++ payload
body_of (Skip from count) = to_le_bytes w64 from ++ to_le_bytes w64 count
body_of Negotiated = []
body_of (PeerFinished last) = to_le_bytes w64 last
body_of Finish = []

-- a record: its kind, the length of its body in four bytes, its body
unfoldable pub spelled : Record → List ℕ
spelled r = kind_of r ∷ to_le_bytes w32 (length (body_of r)) ++ body_of r

-- a control record is written past the limit of bytes too
abbrev pub is_control : Record → Bool
is_control (Entry _ _ _) = false
is_control (Apply _ _) = false
is_control (Skip _ _) = false
is_control Negotiated = true
is_control (PeerFinished _) = true
is_control Finish = true

-- the record at the front of these bytes; none where they begin with none
abbrev pub BeginsWith : List ℕ → Option Record → Type 0
BeginsWith bytes (Some r) = IsRecord r × (behind : List ℕ) × (spelled r ++ behind ≡ bytes)
BeginsWith bytes None = (r : Record) (behind : List ℕ) → IsRecord r → spelled r ++ behind ≡ bytes → ⊥

-- the record of a kind with this body; none where there is none
abbrev pub IsBody : ℕ → List ℕ → Option Record → Type 0
IsBody kind body (Some r) = IsRecord r × (kind_of r ≡ kind) × (body_of r ≡ body)
IsBody kind body None = (r : Record) → IsRecord r → kind_of r ≡ kind → body_of r ≡ body → ⊥
