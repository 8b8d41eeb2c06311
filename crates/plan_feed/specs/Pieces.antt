-- Pieces of what lines give: payloads of one sender that go into its outbox at once (this project's profile).
use Rattle.std.specs.Prelude.{◌≡◌, ℕ, ◌+◌, ◌<◌, ◌≤◌, ◌⊎◌, List, [], length, map}
use Rattle.std.specs.List.{sum}

-- payloads of a sender, in order
pub record Messages : Type 0 where
  pub sender : ℕ
  pub payloads : List (List ℕ)

-- how many bytes they have
abbrev pub size_of : List (List ℕ) → ℕ
size_of payloads = sum (map length payloads)

-- the most messages of a piece, and the most bytes: 256 KiB
abbrev pub most_messages : ℕ
most_messages = 64

abbrev pub most_bytes : ℕ
most_bytes = 262144

-- application messages that may go as one piece
pub record IsPiece (payloads : List (List ℕ)) : Type 0 where
  pub messages : length payloads ≤ most_messages
  pub bytes : size_of payloads ≤ most_bytes

-- a payload of this size of the sender may stand behind those of a piece: it is the first, or of the same sender and within the limits
pub record GoesBehind (piece : Messages) (sender size : ℕ) : Type 0 where
  pub same : sender ≡ piece.sender
  pub messages : length piece.payloads < most_messages
  pub bytes : size_of piece.payloads + size ≤ most_bytes

abbrev pub Takes : Messages → ℕ → ℕ → Type 0
Takes piece sender size = (piece.payloads ≡ []) ⊎ GoesBehind piece sender size
