-- A whole list of bytes as frames, one behind another, and what follows them (Simple Open Framing Header).
use Rattle.std.specs.Prelude.{◌≡◌, ◌↔◌, ℕ, zero, suc, List, [], ◌∷◌, ◌++◌, length, drop}
use Rattle.std.specs.List.{flat_map, AllByRecursion}
use Rattle.sofh_frame.specs.Framing.{Frame, IsFrame, spelled, IsBytes, First, frame, rest, bad_length, bad_encoding, first_of}

-- the bytes of frames, one behind another
abbrev pub spelled_all : List Frame → List ℕ
spelled_all = flat_map spelled

-- the place of what follows these frames, from the first byte of the first; that of the frame with index i is the place behind `take i`
abbrev pub place_behind : List Frame → ℕ
place_behind frames = length (spelled_all frames)

-- no whole frame stands at the front
abbrev pub IsNoFrame : First → Type 0
IsNoFrame (frame order message size) = ⊥
IsNoFrame rest = Unit {0}
IsNoFrame (bad_length n) = Unit {0}
IsNoFrame (bad_encoding encoding) = Unit {0}

-- the bytes are these frames, each admissible, and behind them a tail that begins with no whole frame
pub record IsSplit (bytes : List ℕ) (frames : List Frame) (tail : List ℕ) : Type 0 where
  pub joins : bytes ≡ spelled_all frames ++ tail
  pub each : AllByRecursion IsFrame frames
  pub ends : IsNoFrame (first_of tail)

-- the frame at the front and those that stand behind it, if there is one
abbrev pub frames_from : First → (ℕ → List Frame) → List Frame
frames_from (frame order message size) behind = (record { order = order; message = message }) ∷ behind size
frames_from rest behind = []
frames_from (bad_length n) behind = []
frames_from (bad_encoding encoding) behind = []

-- the frames of bytes, as many as `count` at most
unfoldable pub frames_within : ℕ → List ℕ → List Frame
frames_within zero bytes = []
frames_within (suc count) bytes = frames_from (first_of bytes) (λ size. frames_within count (drop size bytes))

-- the frames of bytes, and what follows them; there are not more frames than bytes
unfoldable pub frames_of : List ℕ → List Frame
frames_of bytes = frames_within (length bytes) bytes

unfoldable pub tail_of : List ℕ → List ℕ
tail_of bytes = drop (place_behind (frames_of bytes)) bytes

-- any two splits of the same bytes are equal
abbrev pub SplitsAreOne : Type 0
SplitsAreOne =
    (bytes : List ℕ) (frames others : List Frame) (tail end : List ℕ)
    → IsSplit bytes frames tail → IsSplit bytes others end → (frames ≡ others) × (tail ≡ end)

-- every list of bytes has a split
abbrev pub BytesAreSplit : Type 0
BytesAreSplit = (bytes : List ℕ) → IsBytes bytes → IsSplit bytes (frames_of bytes) (tail_of bytes)

-- the split's first step is the first frame of the bytes
abbrev pub SplitBegins : Type 0
SplitBegins =
    (bytes : List ℕ) (f : Frame) (size : ℕ) → IsBytes bytes → first_of bytes ≡ frame f.order f.message size
    → (frames : List Frame) (tail : List ℕ) → IsSplit bytes (f ∷ frames) tail ↔ IsSplit (drop size bytes) frames tail
