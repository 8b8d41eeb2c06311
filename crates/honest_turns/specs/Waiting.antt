-- Two ends that have more to send than their links take, turn by turn (this project's profile).
use Rattle.std.specs.Prelude.{◌≡◌, ℕ, ◌+◌, ◌<◌, ◌≤◌, nat_le, Bool, true, List, [], ◌++◌, length}
use Rattle.session_model.specs.Journal.{History}
use Rattle.conn_turns.specs.Lines.{Line}
use Rattle.conn_turns.specs.Turns.{Turn, Work, outbox_calls}
use Rattle.conn_turns.specs.Exact.{receives, most_unsent, line_ticked}
use Rattle.turn_laws.specs.Turns.{Sends, Works, IsTurn}
use Rattle.turn_laws.specs.Legs.{given_in, sent_in}

-- how many bytes an end has unsent
abbrev pub unsent_at : Line → ℕ
unsent_at l = length l.machine.unsent

-- behind what a turn sent, an end receives in its next one exactly where no more than its bound is unsent
abbrev pub ReadsUpTo : Type 0
ReadsUpTo = (sent : List ℕ) (lost : Bool) (old new : Line) → Sends sent lost old new → receives new ≡ nat_le (unsent_at new) (most_unsent new.per_turn)

-- a turn that its link left output unsent before sends and tells nothing of its outbox: what it writes are replies
abbrev pub WritesReplies : Type 0
WritesReplies = (before after : History) (old new : Line) (w : Work) → Works before after old new w → (line_ticked old w.now).waits ≡ true → outbox_calls w ≡ []

-- the lines of both ends between two turns, and the bytes that are under way from the initiator outward and from the acceptor homeward
pub record Between : Type 0 where
  pub initiator : Line
  pub acceptor : Line
  pub outward : List ℕ
  pub homeward : List ℕ

-- a turn that wrote no more than its link gave it: of what it wrote, and what was unsent before, it sent some, and the rest is unsent
pub record WritesNoMore (old new : Line) (t : Turn) : Type 0 where
  pub before : History
  pub after : History
  pub is : IsTurn before after old new t
  pub little : unsent_at new + length (sent_in t) ≤ unsent_at old + length (given_in t)

-- turns of both in the order of time, none of which wrote more than its link gave it
pub data GoOn : Between → Between → Type 0 where
  no_turn : {x : Between} → GoOn x x
  initiator_turns : {x y : Between} (t : Turn) (new : Line) (left : List ℕ) → WritesNoMore x.initiator new t → x.homeward ≡ given_in t ++ left
      → GoOn (record { initiator = new; acceptor = x.acceptor; outward = x.outward ++ sent_in t; homeward = left }) y → GoOn x y
  acceptor_turns : {x y : Between} (t : Turn) (new : Line) (left : List ℕ) → WritesNoMore x.acceptor new t → x.outward ≡ given_in t ++ left
      → GoOn (record { initiator = x.initiator; acceptor = new; outward = left; homeward = x.homeward ++ sent_in t }) y → GoOn x y

-- Of two ends one reads, over links that take what there is room for: where both had no more unsent together than their bounds together, and no
-- turn wrote more than its link gave it, more than its bound is unsent at both only where fewer bytes are under way than both links take, so that
-- one of them has room
abbrev pub OneReads : Type 0
OneReads = (room : ℕ) (x y : Between) → length x.outward + length x.homeward ≤ room → unsent_at x.initiator + unsent_at x.acceptor ≤ most_unsent x.initiator.per_turn + most_unsent x.acceptor.per_turn
    → GoOn x y → most_unsent y.initiator.per_turn < unsent_at y.initiator → most_unsent y.acceptor.per_turn < unsent_at y.acceptor → length y.outward + length y.homeward < room
