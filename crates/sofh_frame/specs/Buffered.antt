-- What a framer holds, and the room that it lends.
use Rattle.std.specs.Prelude.{◌≡◌, ◌==◌, if◌then◌else◌, ℕ, ◌+◌, ◌≤◌, List, ◌++◌, length, take, drop, slice_range}

-- the bytes held, and those that may be filled in behind them
pub record Buffered : Type 0 where
  pub held : List ℕ
  pub room : List ℕ

-- what stands in a buffer from start to end, and the 32,780 bytes from start on that are not held
abbrev pub buffered : List ℕ → ℕ → ℕ → Buffered
buffered items start end = record { held = slice_range items start end; room = slice_range items end (start + 32780) }

-- the room once a borrower has left these bytes in it: a slice keeps its length, so they are as many as the room;
-- were they others, they would be cut, or filled up from the room
abbrev pub written_over : List ℕ → List ℕ → List ℕ
written_over room bytes = if length bytes == length room then bytes else take (length room) (bytes ++ drop (length bytes) room)

-- where the bytes held stand in the buffer: room for 32,780 bytes is always behind the place of the first
pub record IsPlaced (start end len : ℕ) : Type 0 where
  pub ordered : start ≤ end
  pub short : end ≤ start + 32780
  pub front : start ≤ 32780
  pub whole : len ≡ 65560
