-- Two ends that shake hands over one link, turn by turn: the premises of the laws can be met.
use Rattle.std.specs.Prelude.{◌≡◌, ℕ, false, List, [], ◌∷◌, length, Some, None}
use Rattle.sbe_prim.specs.declared.Order.TheVariants.{Little}
use Rattle.gw_links.specs.declared.link.Got.TheVariants as gots
use Rattle.session_model.specs.Journal.{History}
use Rattle.session_model.specs.Events.{announce, handshake}
use Rattle.session_model.specs.Guarantee.{OneEnd}
use Rattle.session_model.specs.Samples.{silence}
use Rattle.fixp_msgs.specs.declared.flow.Flow.{Flow}
use Rattle.fixp_msgs.specs.Canonical.{message_bytes, frame_bytes}
use Rattle.fixp_msgs.specs.Message.{Message}
use Rattle.fixp_shake.specs.declared.config.EndConfig.{EndConfig}
use Rattle.fixp_replies.specs.Incoming.{session}
use Rattle.fixp_machine.specs.Machine.{State, fresh}
use Rattle.conn_turns.specs.Lines.{TakenFrame}
use Rattle.conn_turns.specs.Turns.{Work, only_sends, works}
use Rattle.connection_laws.specs.Samples.{sample_config}
use Rattle.two_ends.specs.Samples.{acceptor, recorded, opening, answer}
use Rattle.turn_laws.specs.Legs.{TurnedLeg, course_on}
use Rattle.turn_laws.specs.LoopLives.{LoopLife}
use Rattle.two_ends.specs.Loops.{TwoLoops}

-- no entry was made, and the flow is not finished
abbrev pub nothing : History
nothing = record { made = []; finished = false }

-- the frame of a message, at the front of its connection
abbrev pub frame_of : Message → TakenFrame
frame_of m = record { at = 0; frame = record { order = Little; message = message_bytes m }; incoming = session m; recorded = false; helds = 0 }

-- a turn that received this frame, and sent these bytes
abbrev pub hears : Message → (sent : List ℕ) → Work
hears m sent = record {
  now = 0;
  got = Some (gots.Bytes (length (frame_bytes m)));
  received = frame_bytes m;
  frames = frame_of m ∷ [];
  broken = None;
  link_over = false;
  due_again = None;
  due_live = Some [];
  again = None;
  live = Some [];
  at_again = nothing;
  at_live = nothing;
  at_finish = nothing;
  finish = None;
  sent = sent;
  lost = false;
}

-- the initiator sends what it wrote as it began, and then hears the answer; the acceptor hears it, and sends its answer
abbrev pub leg_a : TurnedLeg
leg_a = record { per_turn = 16; moment = 0; turns = only_sends 0 (frame_bytes opening) false ∷ works (hears answer []) ∷ []; cut = None }

abbrev pub leg_b : TurnedLeg
leg_b = record { per_turn = 16; moment = 0; turns = works (hears opening (frame_bytes answer)) ∷ []; cut = None }

abbrev pub begins : EndConfig → State
begins config = fresh config recorded 100

-- a life of one connection
abbrev pub life_on_leg : EndConfig → TurnedLeg → LoopLife
life_on_leg config leg = record {
  opening_outbox = [];
  closing_outbox = [];
  refused_outbox = [];
  state = begins config;
  inbox = [];
  legs = leg ∷ [];
  last = None;
}

-- an end of that one life, whose senders send nothing
abbrev pub end_on_leg : EndConfig → TurnedLeg → OneEnd Flow LoopLife
end_on_leg config leg = record { flow = config.own_flow; plan = silence; lives = life_on_leg config leg ∷ []; outbox = []; inbox = [] }

abbrev pub TurnsSample : Type 0
TurnsSample =
    TwoLoops (end_on_leg sample_config leg_a) (end_on_leg acceptor leg_b)
    × ((course_on (begins sample_config) [] leg_a).accepted ≡ announce handshake (Some 1) ∷ [])
    × ((course_on (begins acceptor) [] leg_b).accepted ≡ announce handshake (Some 1) ∷ [])
