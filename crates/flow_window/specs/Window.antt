-- The window of a recoverable flow (this project's profile): messages that came past a gap are held until the gap before
-- them is filled. FIXP 1.1 leaves a receiver free to hold them or to ask for them again.
use Rattle.std.specs.Prelude.{ℕ, ◌+◌, ◌≤◌, ◌==◌, nat_lt, if◌then◌else◌, List, [], ◌∷◌, Option, Some, None}
use Rattle.std.specs.List.{AllByRecursion}
use Rattle.session_model.specs.Inbox.{Numbered, numbers_of, Ascending}
use Rattle.flow_recover.specs.Receiving.{reach}

-- the number that the inbox waits for, and the messages that are held, by rising numbers
pub record Holding : Type 0 where
  pub next : ℕ
  pub held : List Numbered

-- what is held with one message more; of two messages under one number the first stays
abbrev pub holding : ℕ → List ℕ → List Numbered → List Numbered
holding n payload [] = record { number = n; payload = payload } ∷ []
holding n payload (m ∷ ms) =
    if m.number == n then m ∷ ms
    else if nat_lt n m.number then record { number = n; payload = payload } ∷ m ∷ ms
    else m ∷ holding n payload ms

-- the least number held
abbrev pub least : List Numbered → Option ℕ
least [] = None
least (m ∷ ms) = Some m.number

-- the message that the inbox waits for, where it is held
abbrev pub front : ℕ → List Numbered → Option Numbered
front next [] = None
front next (m ∷ ms) = if m.number == next then Some m else None

-- what may be held where the inbox waits for `next`: each number once, none below it, and none past its reach
pub record InReach (next : ℕ) (ms : List Numbered) : Type 0 where
  pub rising : Ascending next (numbers_of ms)
  pub near : AllByRecursion (λ n. n ≤ next + reach) (numbers_of ms)
