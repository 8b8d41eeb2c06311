-- The framing header and the first frame of a list of bytes (Simple Open Framing Header, "Message Length" and "Encoding Type").
use Rattle.std.specs.Prelude.{⊤, ◌≡◌, ◌≢◌, ℕ, ◌+◌, ◌<◌, ◌≤◌, ◌⊎◌, nat_lt, nat_le, ◌&&◌, ◌==◌, if◌then◌else◌, Bool, Option, Some, None, IsSome, All, List, ◌++◌, length, take, drop, slice_range}
use Rattle.std.specs.Int.{w16, w32, from_be_bytes, to_be_bytes}
use Rattle.sbe_prim.specs.declared.Order.{Order}
use Rattle.sbe_prim.specs.declared.Order.TheVariants.{Little, Big}

-- a message, and the order of its numbers' bytes
pub record Frame : Type 0 where
  pub order : Order
  pub message : List ℕ

-- the encoding types: SBE 1.0 little-endian and big-endian
abbrev pub encoding_of : Order → ℕ
encoding_of Little = 0xEB50
encoding_of Big = 0x5BE0

abbrev pub order_of : ℕ → Option Order
order_of encoding = if encoding == 0xEB50 then Some Little else (if encoding == 0x5BE0 then Some Big else None)

-- the header: the frame's length, which counts the header's 6 bytes, and its encoding type, both with the high byte first
unfoldable pub header_of : Frame → List ℕ
header_of f = to_be_bytes w32 (6 + length f.message) ++ to_be_bytes w16 (encoding_of f.order)

-- the bytes of a frame
abbrev pub spelled : Frame → List ℕ
spelled f = header_of f ++ f.message

-- a frame whose message has an admissible length (this project's profile)
pub record IsFrame (f : Frame) : Type 0 where
  pub least : 8 ≤ length f.message
  pub most : length f.message ≤ 16384

-- a byte is a number below 256
abbrev pub IsBytes : List ℕ → Type 0
IsBytes = All (λ b. b < 256)

-- the number in the first 4 bytes, and that in the 2 after them
unfoldable pub length_in : List ℕ → ℕ
length_in bytes = from_be_bytes w32 (take 4 bytes)

unfoldable pub encoding_in : List ℕ → ℕ
encoding_in bytes = from_be_bytes w16 (take 2 (drop 4 bytes))

-- an admissible length of a frame: its header and a message of 8 to 16,384 bytes (this project's profile)
abbrev pub IsAdmissible : ℕ → Type 0
IsAdmissible n = (14 ≤ n) × (n ≤ 16390)

abbrev pub is_admissible : ℕ → Bool
is_admissible n = nat_le 14 n && nat_le n 16390

-- what stands at the front of bytes: a frame with its order, message and size, less than a frame,
-- a length that is not admissible, or an encoding type that is not known
pub data First : Type 0 where
  frame : Order → List ℕ → ℕ → First
  rest : First
  bad_length : ℕ → First
  bad_encoding : ℕ → First

-- behind an admissible length and an encoding type: the frame, once all of its bytes are there
abbrev pub frame_in : List ℕ → Option Order → First
frame_in bytes None = bad_encoding (encoding_in bytes)
frame_in bytes (Some order) =
    if nat_lt (length bytes) (length_in bytes) then rest else frame order (slice_range bytes 6 (length_in bytes)) (length_in bytes)

-- the length is judged once 4 bytes are there, and the encoding type once 6 are
abbrev pub first_of : List ℕ → First
first_of bytes =
    if nat_lt (length bytes) 4 then rest
    else (if is_admissible (length_in bytes)
    then (if nat_lt (length bytes) 6 then rest else frame_in bytes (order_of (encoding_in bytes)))
    else bad_length (length_in bytes))

-- bytes that begin with a whole frame of a size
pub record BeginsWith (bytes : List ℕ) (f : Frame) (size : ℕ) : Type 0 where
  pub spells : bytes ≡ spelled f ++ drop size bytes
  pub counts : size ≡ 6 + length f.message
  pub admissible : IsFrame f

-- a fact for a frame and its size, where one stands at the front
abbrev pub IfFrame : First → (Frame → ℕ → Type 0) → Type 0
IfFrame (frame order message size) P = P (record { order = order; message = message }) size
IfFrame rest P = ⊤
IfFrame (bad_length n) P = ⊤
IfFrame (bad_encoding encoding) P = ⊤

-- fewer than 4 bytes; or an admissible length, and fewer than 6 bytes; or both numbers admissible, and fewer bytes than the length
abbrev pub IsRest : List ℕ → Type 0
IsRest bytes =
    (length bytes < 4)
    ⊎ (IsAdmissible (length_in bytes) × ((length bytes < 6) ⊎ (IsSome (order_of (encoding_in bytes)) × (length bytes < length_in bytes))))

-- 4 bytes are there, and their number is no admissible length
pub record IsBadLength (bytes : List ℕ) (n : ℕ) : Type 0 where
  pub there : 4 ≤ length bytes
  pub states : length_in bytes ≡ n
  pub outside : (n < 14) ⊎ (16390 < n)

-- an admissible length and 6 bytes are there, and the encoding type is neither of the two
pub record IsBadEncoding (bytes : List ℕ) (encoding : ℕ) : Type 0 where
  pub there : 6 ≤ length bytes
  pub admissible : IsAdmissible (length_in bytes)
  pub states : encoding_in bytes ≡ encoding
  pub not_little : encoding ≢ 0xEB50
  pub not_big : encoding ≢ 0x5BE0
