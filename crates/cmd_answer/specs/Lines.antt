-- The lines of `answer` (this project's profile).
use Rattle.std.specs.Prelude.{ℕ, List, []}
use Rattle.sofh_frame.specs.Framing.{Frame}
use Rattle.fixp_msgs.specs.Numbering.{payload_of}
use Rattle.conn_lines.specs.Lines.{deliver_line}
use Rattle.fixp_replies.specs.declared.act.Act.{Act}
use Rattle.fixp_replies.specs.declared.act.Act.TheVariants.{Nothing, Apply, Skip, Negotiated, PeerFinished, Told, Ended}

-- the line of a frame with this act, if it has one
abbrev pub line_of : Act → Frame → List ℕ
line_of (Apply number) f = deliver_line number (payload_of f)
line_of Nothing f = []
line_of (Skip from count) f = []
line_of Negotiated f = []
line_of (PeerFinished last) f = []
line_of (Told from count) f = []
line_of Ended f = []
