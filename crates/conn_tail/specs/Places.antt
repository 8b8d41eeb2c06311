-- Places in a content, on the way to its end. These are steps of the proof: nothing that a user relies on needs them.
use Rattle.std.specs.Prelude.{◌≡◌, ℕ, ◌+◌, ◌-◌, ◌<◌, ◌≤◌, ◌⊎◌, List, [], ◌++◌, length, take, slice_index, All}
use Rattle.gw_lines.specs.Lines.{IsFeedless, with_feeds}
use Rattle.conn_tail.specs.Tails.{TellsNothing}

-- the first bytes of a piece stand at this place of the content
pub record StandsAt (content : List ℕ) (piece : List ℕ) (at size : ℕ) : Type 0 where
  pub each : (k : ℕ) → k < size → slice_index piece k ≡ slice_index content (at + k)

-- a line begins at this place, or the content ends there
pub record BeginsLine (content : List ℕ) (place : ℕ) : Type 0 where
  pub within : place ≤ length content
  pub behind : (place ≡ 0) ⊎ ((1 ≤ place) × (slice_index content (place - 1) ≡ 10))

-- the line that ends before `end` begins at this place
pub record IsLine (content : List ℕ) (start end : ℕ) : Type 0 where
  pub begins : BeginsLine content start
  pub within : start ≤ end
  pub feedless : (k : ℕ) → start ≤ k → k < end → slice_index content k ≡ 10 → ⊥

-- no line from this place to that one tells of an applied message
pub record Passed (content : List ℕ) (end whole : ℕ) : Type 0 where
  pub begins : BeginsLine content end
  pub lines : List (List ℕ)
  pub each : All IsFeedless lines
  pub bytes : take whole content ≡ take end content ++ with_feeds lines []
  pub none : All TellsNothing lines
