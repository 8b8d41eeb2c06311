-- Two ends that shake hands over one link: the premises of the laws can be met.
use Rattle.std.specs.Prelude.{◌≡◌, true, [], ◌∷◌, ◌++◌, length, Some, None}
use Rattle.session_model.specs.Events.{announce, handshake}
use Rattle.session_model.specs.Guarantee.{OneEnd}
use Rattle.session_model.specs.Samples.{silence}
use Rattle.fixp_msgs.specs.declared.flow.Flow.{Flow}
use Rattle.fixp_msgs.specs.declared.flow.Flow.TheVariants as flows
use Rattle.fixp_msgs.specs.Canonical.{frame_bytes}
use Rattle.fixp_msgs.specs.declared.messages.Expected.TheVariants as expects
use Rattle.fixp_msgs.specs.Message.{Message, establish, establishment_ack}
use Rattle.fixp_shake.specs.declared.config.Role.TheVariants as roles
use Rattle.fixp_shake.specs.declared.config.EndConfig.{EndConfig}
use Rattle.fixp_replies.specs.declared.facts.EndState.{EndState}
use Rattle.fixp_replies.specs.Incoming.{session}
use Rattle.fixp_machine.specs.Machine.{frame, taken, fresh}
use Rattle.connection_laws.specs.Writing.{said}
use Rattle.connection_laws.specs.Courses.{Course}
use Rattle.connection_laws.specs.Living.{Leg, course_of}
use Rattle.connection_laws.specs.Samples.{id, sample_config}
use Rattle.turn_laws.specs.MachineLives.{MachineLife}
use Rattle.stranger_laws.specs.Samples as port
use Rattle.two_ends.specs.Meeting.{TwoEnds}

-- the acceptor of that session, with the flows of the initiator turned round
abbrev pub acceptor : EndConfig
acceptor = record {
  role = roles.Acceptor;
  session = id;
  own_flow = flows.Idempotent;
  peer_flow = flows.Recoverable;
  keepalive = 1000;
  credentials = [];
  version = 0;
}

-- the session was negotiated, and nothing was sent or applied
abbrev pub recorded : EndState
recorded = record { negotiated = true; inbox_next = 1; peer_last = None; sent = 0; finish = None }

abbrev pub opening : Message
opening = establish id 0 1000 (Some 1) expects.Absent []

abbrev pub answer : Message
answer = establishment_ack id 0 1000 (Some 1) expects.Absent

abbrev pub leg_a : Leg
leg_a = record { moment = 0; calls = taken (length (frame_bytes opening)) ∷ frame (session answer) 0 1 ∷ []; whole = said opening ∷ []; drained = true }

abbrev pub leg_b : Leg
leg_b = record { moment = 0; calls = frame (session opening) 0 1 ∷ taken (length (frame_bytes answer)) ∷ []; whole = said answer ∷ []; drained = true }

-- a life of one connection
abbrev pub life_on_leg : EndConfig → Leg → MachineLife
life_on_leg config leg = record {
  opening_outbox = [];
  closing_outbox = [];
  refused_outbox = [];
  state = fresh config recorded 100;
  inbox = [];
  legs = leg ∷ [];
  last = None;
}

-- an end of that one life, whose senders send nothing
abbrev pub end_on_leg : EndConfig → Leg → OneEnd Flow MachineLife
end_on_leg config leg = record { flow = config.own_flow; plan = silence; lives = life_on_leg config leg ∷ []; outbox = []; inbox = [] }

abbrev pub course_on : EndConfig → Leg → Course
course_on config leg = course_of (fresh config recorded 100) [] leg

abbrev pub HandshakeSample : Type 0
HandshakeSample =
    TwoEnds (end_on_leg sample_config leg_a) (end_on_leg acceptor leg_b)
    × ((course_on sample_config leg_a).accepted ≡ announce handshake (Some 1) ∷ [])
    × ((course_on acceptor leg_b).accepted ≡ announce handshake (Some 1) ∷ [])

-- the same two ends with credentials: three strangers came to the acceptor before its peer
abbrev pub client : EndConfig
client = record sample_config { credentials = port.venue.credentials }

abbrev pub leg_of_client : Leg
leg_of_client = record { moment = 0; calls = taken (length (frame_bytes port.opening)) ∷ frame (session answer) 0 1 ∷ []; whole = said port.opening ∷ []; drained = true }

abbrev pub leg_of_venue : Leg
leg_of_venue = record { moment = 30000; calls = frame (session port.opening) 0 30001 ∷ taken (length (frame_bytes answer)) ∷ []; whole = said answer ∷ []; drained = true }

abbrev pub life_at_port : MachineLife
life_at_port = record (life_on_leg port.venue leg_of_venue) { legs = port.strangers ++ leg_of_venue ∷ [] }

abbrev pub end_at_port : OneEnd Flow MachineLife
end_at_port = record (end_on_leg port.venue leg_of_venue) { lives = life_at_port ∷ [] }

abbrev pub PortSample : Type 0
PortSample = TwoEnds (end_on_leg client leg_of_client) end_at_port
