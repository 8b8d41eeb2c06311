-- A connection that is a list of turns, as one of a life of the machine.
use Rattle.std.specs.Prelude.{◌≡◌, ℕ, ◌-◌, ◌≤◌, ◌&&◌, Bool, true, false, not, nat_lt, is_none, if◌then◌else◌, List, [], ◌∷◌, ◌++◌, length, Option, Some, None, IfSome, option_to_list}
use Rattle.std.specs.List.{AllByRecursion, flat_map}
use mathlib.Core.List.{IsPrefix}
use Rattle.sofh_frame.specs.Framing.{IsBytes}
use Rattle.session_model.specs.Journal.{Entry, History, BeginsHistory}
use Rattle.session_model.specs.Inbox.{InboxRecord, Numbered, next_number}
use Rattle.fixp_replies.specs.Acts.{is_record}
use Rattle.fixp_machine.specs.Machine.{State, Call, connected, taken, link_end, run, front_of}
use Rattle.conn_turns.specs.Lines.{Line, TakenFrame, reply_at, lines_after}
use Rattle.conn_turns.specs.Turns.{Turn, Refusal, of_act, of_held, IsFaithful, only_sends, works, link_lost, cut_short, not_begun, calls_of}
use Rattle.conn_turns.specs.Refusals.{IsTried}
use Rattle.connection_laws.specs.Writing.{Piece, bytes_of_piece, bytes_written}
use Rattle.connection_laws.specs.Courses.{Course, beginning, course_after}
use Rattle.connection_laws.specs.Connections.{AddsBehind}
use Rattle.connection_laws.specs.Living.{Leg, MayRun}
use Rattle.connection_laws.specs.Ranges.{IsInTime}
use Rattle.turn_laws.specs.Turns.{line_received, IsTurn, IsCutShort, IsCut}
use Rattle.turn_laws.specs.Standing.{StandsAt, Has}

-- Whole turns, one behind another: each is made of an open connection, and leaves the line where the next finds it. The next one finds what
-- was seen of the outbox, or more of it: a pass that takes over between two turns has seen all that the outbox has come to
abbrev pub AreTurns : (before after : History) (old new : Line) → List Turn → Type 0
AreTurns before after old new [] = (new ≡ old) × (after ≡ before)
AreTurns before after old new (t ∷ later) =
    (old.machine.ending ≡ None) × (mid : Line) × (between : History) × IsTurn before between old mid t
    × (found : History) × BeginsHistory between found × AreTurns found after mid new later

-- a connection of a life: how many frames a turn of it takes at most, the moment of its beginning, its whole turns, and the one behind them
-- that was cut short, if one was
pub record TurnedLeg : Type 0 where
  pub per_turn : ℕ
  pub moment : ℕ
  pub turns : List Turn
  pub cut : Option Turn

-- the same with this turn behind its whole ones, in which it was cut short
abbrev pub cut_leg : TurnedLeg → Turn → TurnedLeg
cut_leg t turn = record { per_turn = t.per_turn; moment = t.moment; turns = t.turns; cut = Some turn }

abbrev pub all_turns : TurnedLeg → List Turn
all_turns t = t.turns ++ option_to_list t.cut

abbrev pub calls_on : TurnedLeg → List Call
calls_on t = flat_map calls_of (all_turns t)

-- the line of a connection that begins in this state, a turn of which takes so many frames at most
abbrev pub first_line : (per_turn : ℕ) → State → ℕ → Line
first_line per_turn s now = record { machine = connected s now; held = []; place = 0; over = false; serves = false; waits = false; per_turn = per_turn }

-- such a connection is made of these turns, over an outbox that begins with all that was seen, of which each turn sent what it had seen
pub record AreTurnsOf (h : List Entry) (s : State) (t : TurnedLeg) : Type 0 where
  pub before : History
  pub after : History
  pub last : Line
  pub turns : AreTurns before after (first_line t.per_turn s t.moment) last t.turns
  pub cut : IfSome t.cut (IsCut last)
  pub has : Has h after
  pub faithful : AllByRecursion IsFaithful t.turns

-- the bytes that the link took in a turn
abbrev pub sent_in : Turn → List ℕ
sent_in (only_sends now sent lost) = sent
sent_in (works w) = w.sent
sent_in (link_lost now) = []
sent_in (cut_short now received frames refused) = []
sent_in not_begun = []

-- the bytes that the link gave in a turn
abbrev pub given_in : Turn → List ℕ
given_in (only_sends now sent lost) = []
given_in (works w) = w.received
given_in (link_lost now) = []
given_in (cut_short now received frames refused) = received
given_in not_begun = []

-- the link of a turn failed, or it was no whole turn
abbrev pub is_lost : Turn → Bool
is_lost (only_sends now sent lost) = lost
is_lost (works w) = w.lost
is_lost (link_lost now) = true
is_lost (cut_short now received frames refused) = true
is_lost not_begun = true

-- the moment of a turn
abbrev pub moment_of : Turn → ℕ
moment_of (only_sends now sent lost) = now
moment_of (works w) = w.now
moment_of (link_lost now) = now
moment_of (cut_short now received frames refused) = now
moment_of not_begun = 0

-- what the link gave in a turn are bytes, and its moment is below 2^44
pub record IsTimelyTurn (t : Turn) : Type 0 where
  pub bytes : IsBytes (given_in t)
  pub time : IsInTime (moment_of t)

-- so it is of each turn of a connection, which began at such a moment
pub record IsTimely (t : TurnedLeg) : Type 0 where
  pub begins : IsInTime t.moment
  pub turns : AllByRecursion IsTimelyTurn (all_turns t)

abbrev pub given_on : TurnedLeg → List ℕ
given_on t = flat_map given_in (all_turns t)

abbrev pub sent_on : TurnedLeg → List ℕ
sent_on t = flat_map sent_in (all_turns t)

-- the first of some frames, as many as so many bytes hold whole
abbrev pub whole_in : ℕ → List Piece → List Piece
whole_in count [] = []
whole_in count (p ∷ later) = if nat_lt count (length (bytes_of_piece p)) then [] else p ∷ whole_in (count - length (bytes_of_piece p)) later

-- the link took all that was written, and the connection has not ended
abbrev pub is_drained : Course → List ℕ → Bool
is_drained c sent = is_none c.state.ending && not (nat_lt (length sent) (length (bytes_written c.output)))

abbrev pub course_on : State → List InboxRecord → TurnedLeg → Course
course_on s inbox t = course_after (beginning s inbox t.moment) (calls_on t)

-- as a connection of a life of the machine: its calls, and the frames that the link took whole
abbrev pub leg_of : State → List InboxRecord → TurnedLeg → Leg
leg_of s inbox t = record {
  moment = t.moment;
  calls = calls_on t;
  whole = whole_in (length (sent_on t)) (course_on s inbox t).output;
  drained = is_drained (course_on s inbox t) (sent_on t);
}

-- a connection that is a list of turns may run, where the end awaits the inbox's next number and has sent no more than the outbox has
abbrev pub TurnsRun : Type 0
TurnsRun = (h : List Entry) (s : State) (inbox : List InboxRecord) (t : TurnedLeg)
    → s.facts.recorded.inbox_next ≡ next_number inbox → s.facts.recorded.sent ≤ length h → AreTurnsOf h s t
    → MayRun h s inbox (leg_of s inbox t)

-- behind a turn that was cut short at a frame whose act is a record, that frame waits for its act
abbrev pub RefusedWaits : Type 0
RefusedWaits = (h : List Entry) (old : Line) (c : Course) (now : ℕ) (received : List ℕ) (frames : List TakenFrame) (t : TakenFrame)
    → StandsAt h c old → (k : IsCutShort now received frames (Some (of_act t)) old)
    → is_record (reply_at now (lines_after now (line_received old now received k.got) frames) t).act ≡ true
    → (course_after c (calls_of (cut_short now received frames (Some (of_act t))))).waiting ≡ Some (record { incoming = t.incoming; at = t.at; moment = now })

-- and behind one that was cut short at a held message, the inbox awaits that message
abbrev pub HeldAwaits : Type 0
HeldAwaits = (h : List Entry) (old : Line) (c : Course) (now : ℕ) (received : List ℕ) (frames : List TakenFrame) (t : TakenFrame) (m : Numbered)
    → StandsAt h c old → (k : IsCutShort now received frames (Some (of_held t m)) old)
    → front_of (course_after c (calls_of (cut_short now received frames (Some (of_held t m))))).state ≡ Some m

-- behind the calls of a turn that was cut short further calls may come that add these records; and they are those of one that had taken more
-- frames, as far as that goes
pub record FurtherCalls (h : List Entry) (c : Course) (t more : Turn) (records : List InboxRecord) : Type 0 where
  pub calls : List Call
  pub adds : AddsBehind h (course_after c (calls_of t)) calls records
  pub within : IsPrefix (calls_of t ++ calls) (calls_of more)

-- so it is with what a failed call of the disk tried, behind a turn that was cut short at it
abbrev pub TriedAdds : Type 0
TriedAdds = (h : List Entry) (old : Line) (c : Course) (now : ℕ) (received : List ℕ) (frames : List TakenFrame) (refusal : Option Refusal) (tried : List InboxRecord)
    → StandsAt h c old → (k : IsCutShort now received frames refusal old) → (i : IsTried now (line_received old now received k.got) frames refusal tried)
    → FurtherCalls h c (cut_short now received frames refusal) (cut_short now received (frames ++ i.later) None) tried

-- the bytes that the link took in its turns are the first of those written on it, and those of the frames that it took whole are the
-- first of these
pub record IsSent (c : Course) (sent : List ℕ) (frames : List Piece) : Type 0 where
  pub written : IsPrefix sent (bytes_written c.output)
  pub whole : IsPrefix (bytes_written frames) sent

abbrev pub SentAreWritten : Type 0
SentAreWritten = (h : List Entry) (s : State) (inbox : List InboxRecord) (t : TurnedLeg)
    → s.facts.recorded.inbox_next ≡ next_number inbox → s.facts.recorded.sent ≤ length h → AreTurnsOf h s t
    → IsSent (course_on s inbox t) (sent_on t) (leg_of s inbox t).whole

-- a connection that was given up drops what is unsent, and its link ends; the next one begins as it would behind its turns
abbrev pub GivenUpBegins : Type 0
GivenUpBegins = (s : State) (inbox : List InboxRecord) (now : ℕ) → beginning (run s (taken (length s.unsent) ∷ link_end ∷ [])) inbox now ≡ beginning s inbox now
