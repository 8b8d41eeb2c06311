-- What each sender of an end is to send. Who the senders are is this project's profile.
use Rattle.std.specs.Prelude.{◌≡◌, ◌⊎◌, ℕ, List, ◌++◌, drop, length, true}
use mathlib.Core.List.{IsPrefix}
use Rattle.session_model.specs.Journal.{Entry, payloads, entries_of}
use Rattle.session_model.specs.Inbox.{InboxRecord, applied, payloads_of, has_peer_finished}

-- A plan gives each sender its payloads, from the payloads that its own end has applied of the peer's flow: the same list
-- for a sender that reads its messages from a file, the replies so far for one that answers what comes.
-- It only ever goes on: over more applied messages it begins with what it was
abbrev pub GoesOn : (ℕ → List (List ℕ) → List (List ℕ)) → Type 0
GoesOn plan = (s : ℕ) (earlier later : List (List ℕ)) → IsPrefix earlier later → IsPrefix (plan s earlier) (plan s later)

-- the payloads of one sender's entries
abbrev pub sent_by : List Entry → ℕ → List (List ℕ)
sent_by h s = payloads (entries_of h s)

-- a beginning of the plan, continued behind what stood: behind the sender's entries stand payloads that the plan has
-- behind its first so many
pub record Continues (plan before after : List (List ℕ)) : Type 0 where
  pub more : List (List ℕ)
  pub behind : after ≡ before ++ more
  pub planned : IsPrefix more (drop (length before) plan)

-- all of the plan behind what stood
pub record Completes (plan before after : List (List ℕ)) : Type 0 where
  pub behind : after ≡ before ++ drop (length before) plan

-- a plan that does not look at what was applied
abbrev pub Fixed : (ℕ → List (List ℕ) → List (List ℕ)) → Type 0
Fixed plan = (s : ℕ) (applied other : List (List ℕ)) → plan s applied ≡ plan s other

-- The senders are done: behind what stood, each sent all of its plan over a list to which the inbox had come by then. That
-- list has the peer's finish, where the plan looks at what was applied
pub record SendersDone (plan : ℕ → List (List ℕ) → List (List ℕ)) (before after : List Entry) (opening closing : List InboxRecord) : Type 0 where
  pub answered : List InboxRecord
  pub opened : IsPrefix opening answered
  pub reached : IsPrefix answered closing
  pub peer_done : Fixed plan ⊎ (has_peer_finished answered ≡ true)
  pub all_sent : (s : ℕ) → Completes (plan s (payloads_of (applied answered))) (sent_by before s) (sent_by after s)
