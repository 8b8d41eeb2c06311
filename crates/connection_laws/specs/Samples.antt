-- A connection call by call: an initiator that sends a recoverable flow and hears an idempotent one.
use Rattle.std.specs.Prelude.{◌≡◌, ℕ, true, List, [], ◌∷◌, Some, None, replicate}
use Rattle.session_model.specs.Journal.{Entry}
use Rattle.session_model.specs.Inbox.{InboxRecord, apply, skip}
use Rattle.session_model.specs.Events.{announce, handshake, in_flow, message}
use Rattle.fixp_msgs.specs.declared.flow.Flow.TheVariants as flows
use Rattle.fixp_msgs.specs.declared.messages.Expected.TheVariants as expects
use Rattle.fixp_msgs.specs.Message.{establishment_ack, retransmit_request}
use Rattle.fixp_shake.specs.declared.config.Role.TheVariants as roles
use Rattle.fixp_shake.specs.declared.config.EndConfig.{EndConfig}
use Rattle.fixp_replies.specs.declared.facts.EndState.{EndState}
use Rattle.fixp_replies.specs.Incoming.{application, session}
use Rattle.fixp_machine.specs.Machine.{Call, frame, did, live, again, turn_done, fresh}
use Rattle.connection_laws.specs.Writing.{events_written, ranges_told}
use Rattle.connection_laws.specs.Courses.{Course, beginning, course_after}
use Rattle.connection_laws.specs.Standing.{AllMayStand}

abbrev pub id : List ℕ
id = replicate 16 7

abbrev pub sample_config : EndConfig
sample_config = record {
  role = roles.Initiator;
  session = id;
  own_flow = flows.Recoverable;
  peer_flow = flows.Idempotent;
  keepalive = 1000;
  credentials = [];
  version = 0;
}

-- the session was negotiated, the inbox awaits number 2, and two entries were sent
abbrev pub recorded : EndState
recorded = record { negotiated = true; inbox_next = 2; peer_last = None; sent = 2; finish = None }

abbrev pub one : List ℕ
one = 1 ∷ []

abbrev pub two : List ℕ
two = 2 ∷ []

abbrev pub three : List ℕ
three = 3 ∷ []

abbrev pub reply : List ℕ
reply = 9 ∷ []

abbrev pub inbox : List InboxRecord
inbox = apply (record { number = 1; payload = one }) ∷ []

-- the outbox has one entry more than were sent
abbrev pub outbox : List Entry
outbox =
    record { sender = 1; own_number = 1; payload = one }
    ∷ record { sender = 1; own_number = 2; payload = two }
    ∷ record { sender = 1; own_number = 3; payload = three }
    ∷ []

-- The peer acknowledges and announces 4, so that 2 and 3 are skipped. The third entry goes live, the peer's fourth message comes,
-- and the peer asks for the second entry again
abbrev pub calls : List Call
calls =
    frame (session (establishment_ack id 0 1000 (Some 4) expects.Absent)) 0 1
    ∷ did 1
    ∷ live (three ∷ []) 1
    ∷ frame (application reply) 44 2
    ∷ did 2
    ∷ frame (session (retransmit_request id 0 2 1)) 60 2
    ∷ again (two ∷ []) 2
    ∷ turn_done 2
    ∷ []

abbrev pub course : Course
course = course_after (beginning (fresh sample_config recorded 100) inbox 0) calls

abbrev pub CourseSample : Type 0
CourseSample =
    (course.accepted ≡ announce handshake (Some 4) ∷ message reply ∷ [])
    × (course.added ≡ skip (record { first = 2; count = 2 }) ∷ apply (record { number = 4; payload = reply }) ∷ [])
    × (events_written course.output ≡ announce handshake (Some 3) ∷ message three ∷ announce in_flow (Some 2) ∷ message two ∷ announce in_flow (Some 4) ∷ [])
    × (ranges_told course.output ≡ record { first = 2; count = 2 } ∷ [])
    × AllMayStand outbox (beginning (fresh sample_config recorded 100) inbox 0) calls
