-- A disk's content, and what a stop may leave of it (this project's profile).
use Rattle.std.specs.Prelude.{◌≡◌, ◌↔◌, ℕ, ◌+◌, ◌-◌, ◌≤◌, min, max, List, ◌++◌, length, take, drop, Option, Some}

-- the content with these bytes at this place, over what stood there and past its end
abbrev pub written : {A : Type 0} → ℕ → List A → List A → List A
written at bytes content = take at content ++ bytes ++ drop (at + length bytes) content

-- n bytes were read from this place: as many as the piece takes and the content has there, at the front of the piece
pub record ReadsAt (content : List ℕ) (at : ℕ) (piece : List ℕ) (n : ℕ) : Type 0 where
  pub count : n ≡ min (length piece) (length content - at)
  pub front : take n piece ≡ take n (drop at content)

-- what a stop leaves within a write of n bytes at a place: any bytes in the range, also past the end, the same elsewhere
pub record Torn (at n : ℕ) (old new : List ℕ) : Type 0 where
  pub before : take at new ≡ take at old
  pub after : drop (at + n) new ≡ drop (at + n) old
  pub no_shorter : length old ≤ length new
  pub no_longer : length new ≤ max (length old) (at + n)

-- each content that a stop may leave now is one that it might have left before, after this step
abbrev pub Follows : (List ℕ → List ℕ → Type 0) → (List ℕ → Type 0) → (List ℕ → Type 0) → Type 0
Follows Step old new = (content : List ℕ) → new content → (before : List ℕ) × old before × Step before content

-- a stop may leave what it might have left before, and nothing else
abbrev pub LeavesSame : (List ℕ → Type 0) → (List ℕ → Type 0) → Type 0
LeavesSame old new = (content : List ℕ) → (new content ↔ old content)

-- a stop leaves the content that is told, and nothing else
abbrev pub IsAllLeft : Option (List ℕ) → (List ℕ → Type 0) → Type 0
IsAllLeft told left = (content : List ℕ) → left content → told ≡ Some content
