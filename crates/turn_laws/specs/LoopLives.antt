-- One life of an end that runs the connection loop, whose connections are lists of turns.
use Rattle.std.specs.Prelude.{◌≡◌, List, [], ◌∷◌, ◌++◌, Option, Some, None, option_map, IfSome}
use Rattle.std.specs.List.{AllByRecursion}
use Rattle.sofh_frame.specs.Splits.{frames_of}
use Rattle.session_model.specs.Journal.{Entry, OutboxRecord, entries}
use Rattle.session_model.specs.Inbox.{InboxRecord}
use Rattle.fixp_msgs.specs.Payload.{IsApplication}
use Rattle.fixp_msgs.specs.declared.flow.Flow.{Flow}
use Rattle.fixp_machine.specs.Machine.{State}
use Rattle.connection_laws.specs.Living.{Opens}
use Rattle.connection_laws.specs.Ranges.{IsInRange, FitsCall}
use Rattle.turn_laws.specs.Legs.{TurnedLeg, IsTimely, AreTurnsOf, calls_on, given_on, course_on, leg_of}
use Rattle.turn_laws.specs.Lives.{AllAreTurns, legs_of, state_after, inbox_after}
use Rattle.turn_laws.specs.Came.{came, AreFirstOf}
use Rattle.turn_laws.specs.MachineLives.{Refusal, IsRefusedAt, Refused, MachineLife}

-- a last connection of a life, on which a call of the inbox's disk failed
pub record RefusedLeg : Type 0 where
  pub leg : TurnedLeg
  pub refusal : Refusal

-- a life of the loop: its outbox, the state and the inbox on which it opened, its connections by their turns, and such a last one,
-- if any
pub record LoopLife : Type 0 where
  pub opening_outbox : List OutboxRecord
  pub closing_outbox : List OutboxRecord
  pub refused_outbox : List OutboxRecord
  pub state : State
  pub inbox : List InboxRecord
  pub legs : List TurnedLeg
  pub last : Option RefusedLeg

abbrev pub refused_leg : State → List InboxRecord → RefusedLeg → Refused
refused_leg s inbox r = record { leg = leg_of s inbox r.leg; refusal = r.refusal }

-- as a life of the machine
abbrev pub machine_life : LoopLife → MachineLife
machine_life l = record {
  opening_outbox = l.opening_outbox;
  closing_outbox = l.closing_outbox;
  refused_outbox = l.refused_outbox;
  state = l.state;
  inbox = l.inbox;
  legs = legs_of l.state l.inbox l.legs;
  last = option_map (refused_leg (state_after l.state l.inbox l.legs) (inbox_after l.state l.inbox l.legs)) l.last;
}

-- a last connection is turns over this outbox, and has come to that call; the frames of the calls that add what it tried were given on it too, in
-- time as its own
pub record IsRefusedOn (h : List Entry) (s : State) (inbox : List InboxRecord) (r : RefusedLeg) : Type 0 where
  pub turns : AreTurnsOf h s r.leg
  pub refuses : IsRefusedAt h (course_on s inbox r.leg) r.refusal
  pub heard : AreFirstOf (came (calls_on r.leg ++ r.refusal.calls)) (frames_of (given_on r.leg))
  pub fits : IsTimely r.leg → AllByRecursion FitsCall r.refusal.calls

-- its connections, one behind another
abbrev pub last_leg : Option RefusedLeg → List TurnedLeg
last_leg None = []
last_leg (Some r) = r.leg ∷ []

abbrev pub legs_in : LoopLife → List TurnedLeg
legs_in l = l.legs ++ last_leg l.last

-- The life is of an end with these flows, whose numbers are in range, and opens where it may; its closing outbox has payloads of
-- application messages; and each of its connections is turns over that outbox, of bytes and in time
pub record MayTurn (own peer : Flow) (l : LoopLife) : Type 0 where
  pub own_flow : l.state.config.own_flow ≡ own
  pub peer_flow : l.state.config.peer_flow ≡ peer
  pub range : IsInRange l.state
  pub opens : Opens (entries l.opening_outbox) (entries l.closing_outbox) l.state l.inbox
  pub payloads : AllByRecursion (λ (e : Entry). IsApplication e.payload) (entries l.closing_outbox)
  pub turns : AllAreTurns (entries l.closing_outbox) l.state l.inbox l.legs
  pub last : IfSome l.last (IsRefusedOn (entries l.closing_outbox) (state_after l.state l.inbox l.legs) (inbox_after l.state l.inbox l.legs))
  pub timely : AllByRecursion IsTimely (legs_in l)
