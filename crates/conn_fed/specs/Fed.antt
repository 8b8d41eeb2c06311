-- What the feeding of a life did: the counts of its senders were told, the lines of INPUT fed, and the mark added behind them (this project's profile).
use Rattle.std.specs.Prelude.{◌≡◌, ◌⊎◌, ℕ, ◌<◌, List, [], length, Option, None}
use Rattle.std.specs.Io.KnownBytes.{Appends}
use Rattle.gw_outside.specs.Faults.{TakesFront}
use Rattle.gate_turn.specs.Views.{Part}
use Rattle.conn_door.specs.declared.answer.ServeFault.{ServeFault}
use Rattle.conn_feed.specs.declared.end.FeedEnd.{FeedEnd}
use Rattle.conn_feed.specs.declared.end.FeedEnd.TheVariants as ends
use Rattle.conn_feed.specs.Words.{counts_text}
use Rattle.conn_feed.specs.Fed.{counts_of}
use Rattle.conn_feed.specs.Ends.{Point, Feeding, FinishedBy}

-- ACCEPTED took how many messages each sender has
abbrev pub WereCounted : (start counted : Point) → Type 0
WereCounted start counted = Appends start.taken counted.taken (counts_text 1 (counts_of start.parts))

-- it failed then, or memory ran out: it took a front of that, and nothing was read
pub record NoneCounted (start counted : Point) (read : List ℕ) (end : FeedEnd) : Type 0 where
  pub front : TakesFront start.taken counted.taken (counts_text 1 (counts_of start.parts))
  pub read_none : read ≡ []
  pub why : (end ≡ ends.Accepted) ⊎ (end ≡ ends.Memory)

-- first ACCEPTED was told how many messages each sender has; then lines of INPUT were fed
pub record FedFrom (start now : Point) (left_before left_behind : Option (List ℕ)) (end : FeedEnd) : Type 0 where
  pub counted : Point
  pub same : counted.parts ≡ start.parts
  pub feeding : Feeding counted now left_before left_behind end
  pub counts : WereCounted start counted ⊎ NoneCounted start counted feeding.read end

-- behind all lines of an INPUT that is at its end the mark was added, or refused so, where there are senders; else nothing more was done
abbrev pub IsMarked : (start now : List Part) → FeedEnd → (refused : Option ServeFault) → Type 0
IsMarked start now end refused =
    ((end ≡ ends.Ended) × (0 < length start) × FinishedBy start now refused)
    ⊎ ((now ≡ start) × (refused ≡ None) × (end ≡ ends.Ended → length start ≡ 0))

-- the feeding of a life
pub record FedBy (start now : Point) (left_before left_behind : Option (List ℕ)) (end : FeedEnd) (refused : Option ServeFault) : Type 0 where
  pub fed : Point
  pub from : FedFrom start fed left_before left_behind end
  pub marked : IsMarked fed.parts now.parts end refused
  pub taken : now.taken ≡ fed.taken
