-- A life whose connections are lists of turns keeps on them what the session model asks of it.
use Rattle.std.specs.Prelude.{◌≡◌, ⊤, List, [], ◌∷◌, Some}
use Rattle.session_model.specs.Journal.{Entry}
use Rattle.session_model.specs.Inbox.{InboxRecord, Numbered}
use Rattle.session_model.specs.Lives.{served_on, KeepsConnections}
use Rattle.fixp_machine.specs.Machine.{State, Call, front_of}
use Rattle.fixp_machine.specs.Accepting.{model_flow}
use Rattle.connection_laws.specs.Courses.{Waiting, inbox_of, course_after}
use Rattle.connection_laws.specs.Connections.{AddsBehind, refused_by, refused_held, refused_tail}
use Rattle.connection_laws.specs.Living.{Leg, state_behind, inbox_behind, life_on, Opens}
use Rattle.turn_laws.specs.Legs.{TurnedLeg, AreTurnsOf, course_on, leg_of}

-- connections one behind another, each of which begins where the one before has left the machine and the inbox
abbrev pub AllAreTurns : List Entry → State → List InboxRecord → List TurnedLeg → Type 0
AllAreTurns h s inbox [] = ⊤
AllAreTurns h s inbox (t ∷ later) = AreTurnsOf h s t × AllAreTurns h (course_on s inbox t).state (inbox_of (course_on s inbox t)) later

abbrev pub legs_of : State → List InboxRecord → List TurnedLeg → List Leg
legs_of s inbox [] = []
legs_of s inbox (t ∷ later) = leg_of s inbox t ∷ legs_of (course_on s inbox t).state (inbox_of (course_on s inbox t)) later

abbrev pub TurnsServe : Type 0
TurnsServe = (opened h : List Entry) (s : State) (inbox : List InboxRecord) (legs : List TurnedLeg)
    → Opens opened h s inbox → AllAreTurns h s inbox legs
    → KeepsConnections (model_flow s.config.own_flow) (model_flow s.config.peer_flow) opened h (life_on s inbox (legs_of s inbox legs))

-- the state and the inbox behind them
abbrev pub state_after : State → List InboxRecord → List TurnedLeg → State
state_after s inbox legs = state_behind s inbox (legs_of s inbox legs)

abbrev pub inbox_after : State → List InboxRecord → List TurnedLeg → List InboxRecord
inbox_after s inbox legs = inbox_behind s inbox (legs_of s inbox legs)

-- a life whose connections are lists of turns keeps them also where on a last one a frame waits for its act, the append of whose
-- records failed
abbrev pub TurnsRefused : Type 0
TurnsRefused = (opened h : List Entry) (s : State) (inbox : List InboxRecord) (legs : List TurnedLeg) (last : TurnedLeg) (w : Waiting)
    → Opens opened h s inbox → AllAreTurns h s inbox legs → AreTurnsOf h (state_after s inbox legs) last
    → (course_on (state_after s inbox legs) (inbox_after s inbox legs) last).waiting ≡ Some w
    → KeepsConnections (model_flow s.config.own_flow) (model_flow s.config.peer_flow) opened h
    (served_on (life_on s inbox (legs_of s inbox legs))
    (refused_by (course_on (state_after s inbox legs) (inbox_after s inbox legs) last) w
    (leg_of (state_after s inbox legs) (inbox_after s inbox legs) last).whole (leg_of (state_after s inbox legs) (inbox_after s inbox legs) last).drained))

-- or the inbox awaits a held message, the append of whose record failed
abbrev pub TurnsRefusedHeld : Type 0
TurnsRefusedHeld = (opened h : List Entry) (s : State) (inbox : List InboxRecord) (legs : List TurnedLeg) (last : TurnedLeg) (m : Numbered)
    → Opens opened h s inbox → AllAreTurns h s inbox legs → AreTurnsOf h (state_after s inbox legs) last
    → front_of (course_on (state_after s inbox legs) (inbox_after s inbox legs) last).state ≡ Some m
    → KeepsConnections (model_flow s.config.own_flow) (model_flow s.config.peer_flow) opened h
    (served_on (life_on s inbox (legs_of s inbox legs))
    (refused_held (course_on (state_after s inbox legs) (inbox_after s inbox legs) last) m
    (leg_of (state_after s inbox legs) (inbox_after s inbox legs) last).whole (leg_of (state_after s inbox legs) (inbox_after s inbox legs) last).drained))

-- and so where the call of the disk failed that was to make records stable which further calls add
abbrev pub TurnsRefusedTail : Type 0
TurnsRefusedTail = (opened h : List Entry) (s : State) (inbox : List InboxRecord) (legs : List TurnedLeg) (last : TurnedLeg) (calls : List Call) (tried : List InboxRecord)
    → Opens opened h s inbox → AllAreTurns h s inbox legs → AreTurnsOf h (state_after s inbox legs) last
    → AddsBehind h (course_on (state_after s inbox legs) (inbox_after s inbox legs) last) calls tried
    → KeepsConnections (model_flow s.config.own_flow) (model_flow s.config.peer_flow) opened h
    (served_on (life_on s inbox (legs_of s inbox legs))
    (refused_tail (course_on (state_after s inbox legs) (inbox_after s inbox legs) last)
    (course_after (course_on (state_after s inbox legs) (inbox_after s inbox legs) last) calls) tried
    (leg_of (state_after s inbox legs) (inbox_after s inbox legs) last).whole (leg_of (state_after s inbox legs) (inbox_after s inbox legs) last).drained))
