-- That an end which ends its connection, or begins to close it, writes a Terminate, and that with a Terminate its reader ends too (FIXP
-- 1.1, "Session termination").
use Rattle.std.specs.Prelude.{◌≡◌, ⊤, ◌≤◌, ◌⊎◌, true, false, None, IsSome}
use Rattle.fixp_msgs.specs.Message.{negotiation_reject, establishment_reject}
use Rattle.fixp_shake.specs.Phases.{is_closing}
use Rattle.fixp_replies.specs.declared.facts.Facts.{Facts}
use Rattle.fixp_replies.specs.Incoming.{Incoming, session}
use Rattle.fixp_replies.specs.Facts.{Around}
use Rattle.fixp_replies.specs.Replies.{reply_of, terminates}
use Rattle.fixp_machine.specs.Machine.{State, Call, begin, frame, bad_frame, did, tick, turn_done, closed, link_end, live, again, taken, reserve, held_done, step}
use Rattle.connection_laws.specs.Writing.{writes}
use Rattle.drain_laws.specs.Counts.{shutting, among, in_frame, under_way}

-- a message rejects no handshake for good, so that the handshake goes on behind it
abbrev pub GoesOn : Incoming → Type 0
GoesOn (session (negotiation_reject id timestamp code reason)) = code ≡ 4
GoesOn (session (establishment_reject id timestamp code reason)) = code ≡ 2
GoesOn i = ⊤

-- a reply that ends the connection writes a Terminate; and one to a Terminate ends it, also in Closing where it is of the own session
pub record RepliesShut : Type 0 where
  pub writes_one : (x : Around) (f : Facts) (i : Incoming) → GoesOn i → IsSome (reply_of x f i).ending → 1 ≤ among shutting (reply_of x f i).written
  pub ends_with_one : (x : Around) (f : Facts) (i : Incoming) → 1 ≤ in_frame shutting i → (is_closing f.connection.phase ≡ false) ⊎ (terminates x i ≡ true)
      → IsSome (reply_of x f i).ending

-- a call other than the beginning of a connection, its link's end, a frame and its act
abbrev pub IsCall : Call → Type 0
IsCall (begin now) = ⊥
IsCall (frame incoming at now) = ⊥
IsCall (bad_frame at now) = ⊥
IsCall (did now) = ⊥
IsCall (tick now) = ⊤
IsCall (turn_done now) = ⊤
IsCall (closed last now) = ⊤
IsCall link_end = ⊥
IsCall (live payloads now) = ⊤
IsCall (again payloads now) = ⊤
IsCall (taken count) = ⊤
IsCall reserve = ⊤
IsCall held_done = ⊤

-- a connection has ended, or is closed by this end
abbrev pub IsOver : State → Type 0
IsOver s = IsSome s.ending ⊎ (is_closing s.facts.connection.phase ≡ true)

-- each such call behind which it is over writes a Terminate, where it went on before
abbrev pub CallsShut : Type 0
CallsShut = (s : State) (call : Call) → IsCall call → s.ending ≡ None → is_closing s.facts.connection.phase ≡ false → IsOver (step s call)
    → 1 ≤ under_way shutting (writes s call)
