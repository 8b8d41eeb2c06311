-- What the counter sees in a frame, as an event.
use Rattle.std.specs.Prelude.{Option, Some, None}
use Rattle.session_model.specs.Events.{Event, handshake, in_flow}
use Rattle.sofh_frame.specs.Framing.{Frame}
use Rattle.fixp_msgs.specs.declared.numbering.Seen.{Seen}
use Rattle.fixp_msgs.specs.declared.numbering.Seen.TheVariants as seen
use Rattle.fixp_msgs.specs.Numbering.{payload_of}

abbrev pub event_seen : Seen → Frame → Option Event
event_seen seen.Application f = Some (Event.message (payload_of f))
event_seen (seen.Handshake next) f = Some (Event.announce handshake next)
event_seen (seen.InFlow next) f = Some (Event.announce in_flow (Some next))
event_seen seen.Other f = None
