-- A session of a venue over four connections: of one who says nothing, of one who gives half a frame, of one whose credentials lack their last
-- byte, and of the peer.
use Rattle.std.specs.Prelude.{◌≡◌, ℕ, true, false, List, [], ◌∷◌, ◌++◌, map, take, replicate, Some, None}
use Rattle.session_model.specs.Events.{announce, handshake}
use Rattle.session_model.specs.Lives.{Connection}
use Rattle.fixp_msgs.specs.declared.flow.Flow.TheVariants as flows
use Rattle.fixp_msgs.specs.declared.messages.Expected.TheVariants as expects
use Rattle.fixp_msgs.specs.Canonical.{frame_bytes}
use Rattle.fixp_msgs.specs.Message.{Message, establish}
use Rattle.fixp_shake.specs.declared.config.Role.TheVariants as roles
use Rattle.fixp_shake.specs.declared.config.EndConfig.{EndConfig}
use Rattle.fixp_replies.specs.declared.facts.EndState.{EndState}
use Rattle.fixp_replies.specs.Incoming.{session}
use Rattle.fixp_machine.specs.Machine.{State, Call, frame, tick, link_end, fresh}
use Rattle.connection_laws.specs.Living.{Leg, AllMayRun, life_on}
use Rattle.stranger_laws.specs.Opening.{opens, IsKeyless}

abbrev pub id : List ℕ
id = replicate 16 7

abbrev pub venue : EndConfig
venue = record {
  role = roles.Acceptor;
  session = id;
  own_flow = flows.Idempotent;
  peer_flow = flows.Recoverable;
  keepalive = 1000;
  credentials = 7 ∷ 8 ∷ 9 ∷ [];
  version = 0;
}

-- the session was negotiated, and nothing was sent or applied
abbrev pub recorded : EndState
recorded = record { negotiated = true; inbox_next = 1; peer_last = None; sent = 0; finish = None }

abbrev pub begins : State
begins = fresh venue recorded 100

-- the peer's Establish, and one whose credentials lack their last byte
abbrev pub opening : Message
opening = establish id 0 1000 (Some 1) expects.Absent (7 ∷ 8 ∷ 9 ∷ [])

abbrev pub guess : Message
guess = establish id 0 1000 (Some 1) expects.Absent (7 ∷ 8 ∷ [])

-- what the links gave
abbrev pub silent : List ℕ
silent = []

abbrev pub half : List ℕ
half = take 20 (frame_bytes opening)

abbrev pub guessed : List ℕ
guessed = frame_bytes guess

-- connections that begin at this moment, of which the links took nothing
abbrev pub leg_with : ℕ → List Call → Leg
leg_with now calls = record { moment = now; calls = calls; whole = []; drained = false }

-- who says nothing, or not enough, is late; whose credentials are others is rejected, and goes away
abbrev pub strangers : List Leg
strangers = leg_with 0 (tick 10000 ∷ []) ∷ leg_with 10000 (tick 20000 ∷ []) ∷ leg_with 20000 (frame (session guess) 0 20001 ∷ link_end ∷ []) ∷ []

abbrev pub peer : Leg
peer = leg_with 30000 (frame (session opening) 0 30001 ∷ [])

-- all premises are met; the strangers open nothing, and the peer does
abbrev pub StrangersSample : Type 0
StrangersSample =
    IsKeyless venue silent × IsKeyless venue half × IsKeyless venue guessed × (opens venue (session opening) ≡ true)
    × AllMayRun [] begins [] (strangers ++ peer ∷ [])
    × (map (λ (c : Connection). c.accepted) (life_on begins [] (strangers ++ peer ∷ [])).connections ≡ [] ∷ [] ∷ [] ∷ (announce handshake (Some 1) ∷ []) ∷ [])
