-- Two ends of one session as a rehearsal drives them, between two of its steps: where no connection stands between them, and where one does (this project's profile).
use Rattle.std.specs.Prelude.{◌≡◌, ℕ, ◌+◌, ◌≤◌, true, false, List, length}
use Rattle.session_model.specs.Journal.{History, BeginsHistory}
use Rattle.session_model.specs.Inbox.{InboxRecord}
use Rattle.fixp_shake.specs.Flows.{is_absent}
use Rattle.connection_laws.specs.Ranges.{IsInTime}
use Rattle.turn_laws.specs.Legs.{first_line}
use Rattle.honest_turns.specs.Lives.{End, AgreeAt}
use Rattle.drain_turns.specs.Joints.{Half, Joint, Session}
use Rattle.drain_rounds.specs.Rounds.{Finds, last_of}
use Rattle.drain_rounds.specs.Starting.{session_of, joint_of}
use Rattle.drain_time.specs.Times.{AreRounds, AreSeen}

-- an end of a session, where its outbox comes to be this, and its inbox holds this list
abbrev pub end_of : History → List InboxRecord → Half → End
end_of outbox inbox half = record { outbox = outbox; state = half.line.machine; inbox = inbox }

-- An end whose next connection may begin: a turn of it takes from 4 messages to 256; its pass has seen no less of its outbox than it has sent; and its inbox awaits
-- number 1 at least
pub record MayBegin (outbox : History) (half : Half) : Type 0 where
  pub least : 4 ≤ half.line.per_turn
  pub most : half.line.per_turn ≤ 256
  pub begins : BeginsHistory half.seen outbox
  pub enough : half.line.machine.facts.recorded.sent ≤ length half.seen.made
  pub next : 1 ≤ half.line.machine.facts.recorded.inbox_next

-- No connection stands. Whatever lists their inboxes hold, they know no more of each other than was sent, the initiator of the negotiation no more than the acceptor;
-- the initiator sends, and the acceptor's interval is in its range, as the initiator's is
pub record Apart (outbox_i outbox_a : History) (i a : Half) : Type 0 where
  pub inbox_i : List InboxRecord
  pub inbox_a : List InboxRecord
  pub agree : AgreeAt (end_of outbox_i inbox_i i) (end_of outbox_a inbox_a a)
  pub known : i.line.machine.facts.recorded.negotiated ≡ true → a.line.machine.facts.recorded.negotiated ≡ true
  pub initiator : MayBegin outbox_i i
  pub acceptor : MayBegin outbox_a a
  pub sends : is_absent i.line.machine.config.own_flow ≡ false
  pub least : 100 ≤ a.line.machine.config.keepalive
  pub most : a.line.machine.config.keepalive ≤ 60000

-- an end as it begins its next connection at this moment, and both over a new link
abbrev pub begun : Half → (now : ℕ) → Half
begun half now = record { line = first_line half.line.per_turn half.line.machine now; seen = half.seen }

abbrev pub both_begun : (i a : Half) → (now : ℕ) → Joint
both_begun i a now = joint_of (begun i now) (begun a now)

-- the session of that connection
abbrev pub session_at : (outbox_i outbox_a : History) (i a : Half) → Apart outbox_i outbox_a i a → (now : ℕ) → Session
session_at outbox_i outbox_a i a x now = session_of (end_of outbox_i x.inbox_i i) (end_of outbox_a x.inbox_a a) now now

-- nothing came but that the passes may have seen more of their outboxes, since those who send, and those who answer, added to them
pub record SeesMore (outbox_i outbox_a : History) (old new : Joint) : Type 0 where
  pub initiator : Finds outbox_i old.initiator new.initiator
  pub acceptor : Finds outbox_a old.acceptor new.acceptor
  pub outward : new.outward ≡ old.outward
  pub homeward : new.homeward ≡ old.homeward

-- A connection stands: they began it at some moment where none stood, and made rounds up to this one, a millisecond one behind another; in so many of them, the last
-- ones, both had seen what they have in a drain
pub record Joined (outbox_i outbox_a : History) (drained now : ℕ) (j : Joint) : Type 0 where
  pub i : Half
  pub a : Half
  pub apart : Apart outbox_i outbox_a i a
  pub first : ℕ
  pub time : IsInTime first
  pub before : List Joint
  pub made : AreRounds (session_at outbox_i outbox_a i a apart first) first (both_begun i a first) before
  pub drain : List Joint
  pub seen : AreSeen (session_at outbox_i outbox_a i a apart first) (first + length before) (last_of (both_begun i a first) before) drain
  pub count : length drain ≡ drained
  pub moment : now ≡ (first + length before) + drained
  pub stands : SeesMore outbox_i outbox_a (last_of (last_of (both_begun i a first) before) drain) j

-- its session
abbrev pub session_on : (outbox_i outbox_a : History) (drained now : ℕ) (j : Joint) → Joined outbox_i outbox_a drained now j → Session
session_on outbox_i outbox_a drained now j x = session_at outbox_i outbox_a x.i x.a x.apart x.first
