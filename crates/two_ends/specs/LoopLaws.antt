-- What two ends that run the loop hold of each other.
use Rattle.std.specs.Prelude.{◌≡◌, ◌≤◌, List, length}
use Rattle.session_model.specs.Journal.{Entry, entries}
use Rattle.session_model.specs.Inbox.{InboxRecord, next_number}
use Rattle.session_model.specs.Guarantee.{OneEnd, Session}
use Rattle.fixp_msgs.specs.declared.flow.Flow.{Flow}
use Rattle.fixp_machine.specs.Machine.{State}
use Rattle.two_ends.specs.GoingOn.{Boxes, HoldsOn}
use Rattle.two_ends.specs.Meeting.{TookWhole, TwoEnds, end_in, Holds}
use Rattle.turn_laws.specs.Legs.{TurnedLeg, AreTurnsOf, sent_on, course_on, leg_of}
use Rattle.turn_laws.specs.LoopLives.{LoopLife}
use Rattle.two_ends.specs.Loops.{TwoLoopsFrom, TwoLoops, machine_end}

-- the frames that are said to be taken whole are those whose bytes the link took
abbrev pub SentAreWhole : Type 0
SentAreWhole = (h : List Entry) (s : State) (inbox : List InboxRecord) (t : TurnedLeg)
    → s.facts.recorded.inbox_next ≡ next_number inbox → s.facts.recorded.sent ≤ length h → AreTurnsOf h s t
    → TookWhole (course_on s inbox t) (sent_on t) (leg_of s inbox t).whole

-- two ends that run the loop are two ends of the machine
abbrev pub LoopsAreEnds : Type 0
LoopsAreEnds = (a b : OneEnd Flow LoopLife) → TwoLoops a b → TwoEnds (machine_end a) (machine_end b)

-- and so a session of the session model
abbrev pub LoopsAreASession : Type 0
LoopsAreASession = (a b : OneEnd Flow LoopLife) → TwoLoops a b → Session (end_in (machine_end a)) (end_in (machine_end b))

-- each inbox holds of the other's outbox what the session guarantee says
abbrev pub LoopsHold : Type 0
LoopsHold = (a b : OneEnd Flow LoopLife) → TwoLoops a b → Holds a.flow (entries a.outbox) b.inbox × Holds b.flow (entries b.outbox) a.inbox

-- and comes to hold of it, behind what it held at first, what goes on from that
abbrev pub LoopsGoOn : Type 0
LoopsGoOn = (from_a from_b : Boxes) (a b : OneEnd Flow LoopLife) → TwoLoopsFrom from_a from_b a b
    → HoldsOn a.flow (entries from_a.outbox) (entries a.outbox) from_b.inbox b.inbox
    × HoldsOn b.flow (entries from_b.outbox) (entries b.outbox) from_a.inbox a.inbox
