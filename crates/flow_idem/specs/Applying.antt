-- The receiver of an idempotent flow (FIXP 1.1, idempotent flow type, Applied and NotApplied; that a run of consecutive numbers
-- is told at once is this project's profile): what each announcement and each message makes of it.
use Rattle.std.specs.Prelude.{ℕ, ◌+◌, ◌-◌, nat_lt, if◌then◌else◌, List, [], ◌∷◌, ◌++◌, Option, Some, None}
use Rattle.fixp_msgs.specs.declared.numbering.Range.{Range}

-- the numbers that an announcement jumps over, where `next` was the next one: none where it is announced itself
abbrev pub jump_of : (next announced : ℕ) → Option Range
jump_of next announced = if nat_lt next announced then Some (record { from = next; count = announced - next }) else None

-- the number behind that of a message
abbrev pub after_message : ℕ → ℕ
after_message number = number + 1

-- for how many announcements room is made at once
abbrev pub announcements_reserved : ℕ
announcements_reserved = 256

-- the number of the next message; the numbers applied since the receiver was made, and those since the runs were forgotten,
-- in order; and for how many announcements there is room
pub record Applying : Type 0 where
  pub next : ℕ
  pub applied : List ℕ
  pub untold : List ℕ
  pub room : ℕ

-- nothing is applied, and the next message has this number
abbrev pub fresh : ℕ → Applying
fresh next = record { next = next; applied = []; untold = []; room = announcements_reserved }

-- this number is announced: it is the next one, and nothing was applied
abbrev pub jumped : Applying → ℕ → Applying
jumped a announced = record a { next = announced; room = a.room - 1 }

-- a message is applied under the next number
abbrev pub applied_next : Applying → Applying
applied_next a = record a { next = after_message a.next; applied = a.applied ++ a.next ∷ []; untold = a.untold ++ a.next ∷ [] }

-- the runs are told, or void since a connection is over
abbrev pub forgotten : Applying → Applying
forgotten a = record a { untold = [] }
