-- What an end that is driven turn by turn has come to, and what two such ends hold of each other.
use Rattle.std.specs.Prelude.{◌≡◌, ◌⊎◌, ℕ, List, [], ◌∷◌, ◌++◌, length, Option, None}
use Rattle.std.specs.List.{AllZip}
use mathlib.Core.List.{IsPrefix}
use Rattle.session_model.specs.Journal.{OutboxRecord, entries}
use Rattle.session_model.specs.Inbox.{InboxRecord}
use Rattle.fixp_msgs.specs.declared.flow.Flow.{Flow}
use Rattle.fixp_machine.specs.Machine.{taken, link_end, run}
use Rattle.conn_turns.specs.Lines.{TakenFrame}
use Rattle.conn_turns.specs.Turns.{Turn, Refusal, IsFaithful, cut_short}
use Rattle.conn_turns.specs.Refusals.{IsTried}
use Rattle.connection_laws.specs.Ranges.{IsInTime}
use Rattle.turn_laws.specs.Turns.{line_received, IsTurn, IsCutShort, adds_in, adds_cut}
use Rattle.turn_laws.specs.Standing.{Has}
use Rattle.turn_laws.specs.Legs.{TurnedLeg, first_line, given_in, sent_in, IsTimelyTurn}
use Rattle.two_ends.specs.Meeting.{Holds}
use Rattle.two_ends.specs.Driving.{EndNow, Beginning, Awaits, begun_leg, with_turn, Between, During}
use Rattle.turn_laws.specs.Legs.{cut_leg}
use Rattle.two_ends.specs.Pairing.{ReadEachOther, UnderWay, Carries}
use Rattle.two_ends.specs.Stories.{IsOver, Story}

-- a connection begins
abbrev pub LegBegins : Type 0
LegBegins = (b : Beginning) (legs : List TurnedLeg) (e : EndNow) (now : ℕ) → Between b legs e → IsInTime now
    → During b legs (begun_leg e.line.per_turn now) (record e { line = first_line e.line.per_turn e.line.machine now })

-- it goes on by a turn that sent of the outbox what it had seen
abbrev pub TurnGoesOn : Type 0
TurnGoesOn = (b : Beginning) (past : List TurnedLeg) (leg : TurnedLeg) (e e' : EndNow) (t : Turn) → Awaits b → During b past leg e
    → e.line.machine.ending ≡ None → IsPrefix e.seen.made e'.seen.made → IsTurn e.seen e'.seen e.line e'.line t → IsFaithful t
    → IsTimelyTurn t → e'.inbox ≡ e.inbox ++ adds_in e.line t → During b past (with_turn leg t) e'

-- it is over
abbrev pub LegEnds : Type 0
LegEnds = (b : Beginning) (past : List TurnedLeg) (leg : TurnedLeg) (e : EndNow) → Awaits b → During b past leg e → Between b (past ++ leg ∷ []) e

-- and so it is where it is given up: what is unsent is dropped, and the link ends
abbrev pub CutEnds : Type 0
CutEnds = (b : Beginning) (legs : List TurnedLeg) (e e' : EndNow) → Between b legs e
    → e'.line.machine ≡ run e.line.machine (taken (length e.line.machine.unsent) ∷ link_end ∷ []) → e'.seen ≡ e.seen → e'.inbox ≡ e.inbox → Between b legs e'

-- by a turn its link gave and took what the turn received and sent, also where it was cut short
abbrev pub TurnCarries : Type 0
TurnCarries = (leg : TurnedLeg) (t : Turn) → leg.cut ≡ None
    → Carries leg (with_turn leg t) (given_in t) (sent_in t) × Carries leg (cut_leg leg t) (given_in t) (sent_in t)

-- what one end was given is no longer under way to it, and what it sent is under way to the other
abbrev pub BytesMove : Type 0
BytesMove = (a a' b : TurnedLeg) (given sent to_a to_b to_a' to_b' : List ℕ) → Carries a a' given sent → UnderWay a b to_a to_b
    → to_a ≡ given ++ to_a' → to_b' ≡ to_b ++ sent → UnderWay a' b to_a' to_b'

-- a life whose connections are all over may be over, and nothing of it was refused
abbrev pub LifeEnds : Type 0
LifeEnds = (b : Beginning) (legs : List TurnedLeg) (e : EndNow) (closing : List OutboxRecord) → Awaits b → Between b legs e → Has (entries closing) e.seen
    → IsOver closing b legs e.inbox []

-- it is over where a connection that goes on is cut short in a turn: the inbox holds what its frames add and what stood before the refusal, and a stop may
-- leave nothing more, or what a failed call of the inbox's disk tried
abbrev pub LifeFails : Type 0
LifeFails = (b : Beginning) (past : List TurnedLeg) (leg : TurnedLeg) (e : EndNow) (now : ℕ) (received : List ℕ) (frames : List TakenFrame)
    (refusal : Option Refusal) (tried refused : List InboxRecord) (closing : List OutboxRecord) → Awaits b → During b past leg e
    → (k : IsCutShort now received frames refusal e.line) → IsTimelyTurn (cut_short now received frames refusal)
    → IsTried now (line_received e.line now received k.got) frames refusal tried → (refused ≡ []) ⊎ (refused ≡ tried)
    → Has (entries closing) e.seen
    → IsOver closing b (past ++ cut_leg leg (cut_short now received frames refusal) ∷ [])
    (e.inbox ++ adds_cut now (line_received e.line now received k.got) frames refusal)
    refused

-- Two ends, each over any number of lives, each of whose connections was one of the other's, in order, and was given of what that sent: each inbox
-- holds of the other's outbox what the session guarantee says, by the kind of that end's flow
abbrev pub StoriesHold : Type 0
StoriesHold = (client server : Flow) (outbox_a outbox_b : List OutboxRecord) (legs_a legs_b : List TurnedLeg) (inbox_a inbox_b : List InboxRecord)
    → Story client server legs_a outbox_a inbox_a → Story server client legs_b outbox_b inbox_b → AllZip ReadEachOther legs_a legs_b
    → Holds client (entries outbox_a) inbox_b × Holds server (entries outbox_b) inbox_a
