-- What frames say to the implied numbering of application messages (FIXP 1.1, implicit sequence numbering), as events
-- of the session model.
use Rattle.std.specs.Prelude.{ℕ, ◌^◌, nat_lt, if◌then◌else◌, List, ◌++◌, Option, Some, None, option_to_list}
use Rattle.std.specs.Int.{w16, to_be_bytes}
use Rattle.std.specs.List.{flat_map}
use Rattle.sofh_frame.specs.Framing.{Frame, encoding_of}
use Rattle.session_model.specs.Events.{Event, handshake, in_flow}
use Rattle.session_model.specs.Inbox.{Numbered}
use Rattle.fixp_msgs.specs.declared.frames.FrameKind.{FrameKind}
use Rattle.fixp_msgs.specs.declared.frames.FrameKind.TheVariants.{App, Session, Wrong}
use Rattle.fixp_msgs.specs.Header.{kind_of}
use Rattle.fixp_msgs.specs.Message.{Message, negotiate, negotiation_response, negotiation_reject, establish, establishment_ack, establishment_reject, sequence, unsequenced_heartbeat, retransmit_request, retransmission, retransmit_reject, applied, not_applied, finished_sending, finished_receiving, terminate}
use Rattle.fixp_msgs.specs.Spelled.{message_in}

-- what a message announces, if it announces: the number of its sender's next application message, or that it has none.
-- The handshake's messages announce both, and those of the flow a number
abbrev pub announcement_of : Message → Option Event
announcement_of (negotiate _ _ _ _) = None
announcement_of (negotiation_response _ _ _ _) = None
announcement_of (negotiation_reject _ _ _ _) = None
announcement_of (establish _ _ _ next _ _) = Some (Event.announce handshake next)
announcement_of (establishment_ack _ _ _ next _) = Some (Event.announce handshake next)
announcement_of (establishment_reject _ _ _ _) = None
announcement_of (sequence next) = Some (Event.announce in_flow (Some next))
announcement_of unsequenced_heartbeat = None
announcement_of (retransmit_request _ _ _ _) = None
announcement_of (retransmission _ next _ _) = Some (Event.announce in_flow (Some next))
announcement_of (retransmit_reject _ _ _ _) = None
announcement_of (applied _ _) = None
announcement_of (not_applied _ _) = None
announcement_of (finished_sending _ _) = None
announcement_of (finished_receiving _) = None
announcement_of (terminate _ _ _) = None

abbrev pub announced_by : Option Message → Option Event
announced_by None = None
announced_by (Some m) = announcement_of m

-- the payload of an application message: its frame from the encoding type on
abbrev pub payload_of : Frame → List ℕ
payload_of f = to_be_bytes w16 (encoding_of f.order) ++ f.message

abbrev pub event_among : FrameKind → Frame → Option Event
event_among App f = Some (Event.message (payload_of f))
event_among Session f = announced_by (message_in f.message)
event_among Wrong f = None

-- the event of a frame: an application message, or an announcement. Any other frame has none
abbrev pub event_of : Frame → Option Event
event_of f = event_among (kind_of f.order f.message) f

abbrev pub events_of : List Frame → List Event
events_of = flat_map (λ f. option_to_list (event_of f))

-- a number, where it is below 2^64
abbrev pub fitting : Option ℕ → Option ℕ
fitting None = None
fitting (Some n) = if nat_lt n (2 ^ 64) then Some n else None

-- the numbers of messages, where they are below 2^64
abbrev pub numbers_of : List Numbered → List ℕ
numbers_of = flat_map (λ m. option_to_list (fitting (Some m.number)))
