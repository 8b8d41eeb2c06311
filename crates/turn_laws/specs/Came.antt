-- The messages of the frames that came on a connection, and of those that its link gave.
use Rattle.std.specs.Prelude.{⊤, List, [], ◌∷◌}
use Rattle.std.specs.List.{flat_map}
use Rattle.sofh_frame.specs.Framing.{Frame}
use Rattle.sofh_frame.specs.Splits.{frames_of}
use Rattle.session_model.specs.Journal.{Entry}
use Rattle.fixp_replies.specs.Incoming.{Incoming, IsIncoming}
use Rattle.fixp_machine.specs.Machine.{State, Call, frame}
use Rattle.turn_laws.specs.Legs.{TurnedLeg, calls_on, AreTurnsOf, given_on}

-- the messages of the frames that came on a connection, in order
abbrev pub came_by : Call → List Incoming
came_by (frame incoming at now) = incoming ∷ []
came_by _ = []

abbrev pub came : List Call → List Incoming
came calls = flat_map came_by calls

-- messages are those of the first of some frames, in order
abbrev pub AreFirstOf : List Incoming → List Frame → Type 0
AreFirstOf [] frames = ⊤
AreFirstOf (i ∷ later) [] = ⊥
AreFirstOf (i ∷ later) (f ∷ frames) = IsIncoming f.order f.message i × AreFirstOf later frames

-- the frames that came in the turns of a connection are the first of the bytes that the link gave
abbrev pub GivenCame : Type 0
GivenCame = (h : List Entry) (s : State) (t : TurnedLeg) → AreTurnsOf h s t → AreFirstOf (came (calls_on t)) (frames_of (given_on t))
