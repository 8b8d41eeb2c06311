-- What holds of both ends of a rehearsal together (this project's profile).
use Rattle.std.specs.Prelude.{◌≡◌, ℕ, ◌||◌, Bool, false, List, [], ◌++◌, length, Option, None, Some}
use Rattle.std.specs.List.{AllZip}
use Rattle.session_model.specs.Journal.{History, payloads, counts_from}
use Rattle.session_model.specs.Inbox.{InboxRecord, applied, skips, payloads_of, numbers_of}
use Rattle.fixp_msgs.specs.declared.flow.Flow.{Flow}
use Rattle.fixp_msgs.specs.declared.flow.Flow.TheVariants as flows
use Rattle.jr_kept.specs.Inbox as inboxes
use Rattle.jr_kept.specs.Outbox as outboxes
use Rattle.gw_link_fakes.specs.Pipes.{Held}
use Rattle.turn_laws.specs.Legs.{TurnedLeg}
use Rattle.two_ends.specs.Meeting.{Holds}
use Rattle.two_ends.specs.Driving.{Beginning}
use Rattle.two_ends.specs.Pairing.{ReadEachOther, UnderWay}
use Rattle.two_ends.specs.Stories.{Began, Story}
use Rattle.cmd_script.specs.declared.script.Script.{Script}
use Rattle.gw_rehearse.specs.declared.end.DrivenEnd.{DrivenEnd}
use Rattle.gw_rehearse.specs.declared.journals.Journals.{Journals}
use Rattle.gw_rehearse.specs.Standing.{is_given}
use Rattle.gw_rehearse.specs.Driven.{StandsBehind, RunsOver, IsEnded}

-- both have one more connection, over this pipe, and what is under way between them is in it
pub record MeetOver (b b_a : Beginning) (past past_a : List TurnedLeg) (initiator acceptor : DrivenEnd) (pipe : Held) : Type 0 where
  pub leg : TurnedLeg
  pub leg_a : TurnedLeg
  pub way : UnderWay leg leg_a pipe.to_left pipe.to_right
  pub runs : RunsOver b past leg initiator
  pub runs_a : RunsOver b_a past_a leg_a acceptor

-- no pipe stands, and the connections of both are over; or one stands
abbrev pub Meet : (b b_a : Beginning) (past past_a : List TurnedLeg) (initiator acceptor : DrivenEnd) → Option Held → Type 0
Meet b b_a past past_a initiator acceptor None = StandsBehind b past initiator × StandsBehind b_a past_a acceptor
Meet b b_a past past_a initiator acceptor (Some pipe) = MeetOver b b_a past past_a initiator acceptor pipe

-- the lives of an end with these flows that are over had these connections, and its present one began on what they left
pub record Lives (own peer : Flow) : Type 0 where
  pub legs : List TurnedLeg
  pub begins : Beginning
  pub story : Story own peer legs begins.outbox begins.inbox
  pub began : Began own peer begins

-- behind a life with these connections an end has begun its next one, on what a stop left of its journals
pub record NextLife (own peer : Flow) (before : Lives own peer) (more : List TurnedLeg) (e : DrivenEnd) : Type 0 where
  pub lives : Lives own peer
  pub legs_are : lives.legs ≡ before.legs ++ more
  pub stands : StandsBehind lives.begins [] e

-- an end goes on from what a stop left of the journals of one whose life is over
pub record GoesOnBehind (own peer : Flow) (old new : DrivenEnd) : Type 0 where
  pub next : (l : Lives own peer) (legs : List TurnedLeg) → IsEnded l.begins legs old → ∥ NextLife own peer l legs new ∥₁

-- Both are ends of one session, with these flows: each connection of one was one of the other's, in order, over all lives of both, and was given of
-- what that sent; each is turns of its end, over the life in which it was, and the inboxes hold what the connections of the present lives added
pub record Together (client server : Flow) (initiator acceptor : DrivenEnd) (pipe : Option Held) : Type 0 where
  pub lives : Lives client server
  pub lives_a : Lives server client
  pub past : List TurnedLeg
  pub past_a : List TurnedLeg
  pub paired : AllZip ReadEachOther (lives.legs ++ past) (lives_a.legs ++ past_a)
  pub meet : Meet lives.begins lives_a.begins past past_a initiator acceptor pipe

-- an end was given up
abbrev pub is_lost : (initiator acceptor : DrivenEnd) → Bool
is_lost initiator acceptor = is_given initiator.standing || is_given acceptor.standing

-- a pair to its callers: what the initiator's senders have submitted, its flows, and whether an end was given up, or failed
pub record PairNow : Type 0 where
  pub sent : Option (List ℕ)
  pub client : Flow
  pub server : Flow
  pub lost : Bool
  pub failed : Bool

-- its flows are those of a script
pub record IsPairOf (script : Script) (p : PairNow) : Type 0 where
  pub client : p.client ≡ script.link.client_flow
  pub server : p.server ≡ script.link.server_flow

-- it stays one of the same flows, of which no end is given up
pub record StaysSound (old new : PairNow) : Type 0 where
  pub client : new.client ≡ old.client
  pub server : new.server ≡ old.server
  pub sound : old.lost ≡ false → new.lost ≡ false

-- The session guarantee over the journals of both ends, of a session with these flows: the outboxes stand for these histories and the inboxes for these
-- lists, and each inbox holds of the other end's outbox what the kind of that flow promises
pub record KeepsSession (client server : Flow) (initiator acceptor : Journals) : Type 0 where
  pub history : History
  pub history_a : History
  pub inbox : List InboxRecord
  pub inbox_a : List InboxRecord
  pub stands : outboxes.StandsFor initiator.outbox history
  pub stands_a : outboxes.StandsFor acceptor.outbox history_a
  pub holds : inboxes.StandsFor initiator.inbox inbox
  pub holds_a : inboxes.StandsFor acceptor.inbox inbox_a
  pub outward : Holds client history.made inbox_a
  pub homeward : Holds server history_a.made inbox

-- as many messages were applied at one end as stand in the outbox of the other, where the flow is recoverable
abbrev pub CountsAll : Flow → (writer reader : Journals) → Type 0
CountsAll flow writer reader = flow ≡ flows.Recoverable → inboxes.count_of reader.inbox ≡ outboxes.front_of writer.outbox

-- the inbox of one end is the journal of the other: all of its outbox was applied, in order, each message under its number, and nothing was passed over
pub record HasArrived (writer reader : Journals) : Type 0 where
  pub history : History
  pub inbox : List InboxRecord
  pub stands : outboxes.StandsFor writer.outbox history
  pub holds : inboxes.StandsFor reader.inbox inbox
  pub all : payloads_of (applied inbox) ≡ payloads history.made
  pub numbered : numbers_of (applied inbox) ≡ counts_from 1 (length history.made)
  pub whole : skips inbox ≡ []

-- so it is where the flow is recoverable
abbrev pub Arrives : Flow → (writer reader : Journals) → Type 0
Arrives flow writer reader = flow ≡ flows.Recoverable → ∥ HasArrived writer reader ∥₁

-- the session guarantee over journals whose inboxes wait for these numbers
pub record StoppedAt (client server : Flow) (initiator_next acceptor_next : ℕ) : Type 0 where
  pub initiator : Journals
  pub acceptor : Journals
  pub keeps : KeepsSession client server initiator acceptor
  pub next : inboxes.next_of initiator.inbox ≡ initiator_next
  pub next_a : inboxes.next_of acceptor.inbox ≡ acceptor_next
