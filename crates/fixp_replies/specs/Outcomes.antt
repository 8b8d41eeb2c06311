-- Outcomes of an event, and rows of the reply table.
use Rattle.std.specs.Prelude.{ℕ, ◌*◌, Bool, true, false, if◌then◌else◌, List, [], ◌∷◌, ◌++◌, Option, Some, None}
use Rattle.fixp_msgs.specs.Flow.{flow_code}
use Rattle.fixp_msgs.specs.Message.{Message, negotiate, establish, retransmit_request, not_applied, terminate}
use Rattle.fixp_msgs.specs.declared.numbering.Range.{Range}
use Rattle.flow_retrans.specs.Requests.{first_of_gap}
use Rattle.fixp_shake.specs.declared.violation.Violation.{Violation}
use Rattle.fixp_shake.specs.declared.violation.Violation.TheVariants.{NotInPhase}
use Rattle.fixp_replies.specs.declared.act.Act.{Act}
use Rattle.fixp_replies.specs.declared.act.Act.TheVariants.{Nothing, Skip, Ended}
use Rattle.fixp_replies.specs.declared.act.Ending.{Ending}
use Rattle.fixp_replies.specs.declared.act.Ending.TheVariants as endings
use Rattle.fixp_replies.specs.declared.facts.Facts.{Facts}
use Rattle.fixp_replies.specs.Facts.{Around, gap_to_ask, having_asked, finishes_exchanged, announced_number}
use Rattle.fixp_replies.specs.Expecting.{told_next}

-- what an end does at an event: the act of its caller, the messages written once it is done, the facts from then on, the
-- connection's ending, if this is it, whether the frame is accepted as one of its flow: it neither ends the connection nor is
-- rejected nor ignored; and the number under which its message is held, if it is
pub record Outcome : Type 0 where
  pub act : Act
  pub written : List Message
  pub next : Facts
  pub ending : Option Ending
  pub accepted : Bool
  pub holds : Option ℕ

-- a row of the table: where it applies, and the outcome there
pub record Row : Type 0 where
  pub applies : Bool
  pub outcome : Outcome

abbrev pub row : Bool → Outcome → Row
row applies outcome = record { applies = applies; outcome = outcome }

-- the first row that applies decides, and where none does there is this outcome
abbrev pub first_row : Outcome → List Row → Outcome
first_row otherwise [] = otherwise
first_row otherwise (row ∷ rows) = if row.applies then row.outcome else first_row otherwise rows

-- rows that are looked at under a condition alone
abbrev pub within : Bool → List Row → List Row
within condition rows = if condition then rows else []

-- a timestamp: the moment in millionths of milliseconds
abbrev pub timestamp : Around → ℕ
timestamp x = x.moment * 1000000

-- the request for a gap
abbrev pub request_for : Around → Option Range → List Message
request_for x None = []
request_for x (Some g) = retransmit_request x.config.session (timestamp x) (first_of_gap g).from (first_of_gap g).count ∷ []

-- the connection goes on: the frame is accepted, and behind what is written a gap is asked for, where there is one and no
-- request is open
abbrev pub goes_on : Around → Act → List Message → Facts → Outcome
goes_on x act written f = record {
  act = act;
  written = written ++ request_for x (gap_to_ask x f);
  next = having_asked f (gap_to_ask x f);
  ending = None;
  accepted = true;
  holds = None;
}

-- the caller has nothing to do
abbrev pub accepts : Around → List Message → Facts → Outcome
accepts x written f = goes_on x Nothing written f

-- the frame is rejected: the connection goes on as it was
abbrev pub rejects : List Message → Facts → Outcome
rejects written f = record { act = Nothing; written = written; next = f; ending = None; accepted = false; holds = None }

-- nothing is done about the frame
abbrev pub ignores : Facts → Outcome
ignores f = rejects [] f

-- how a connection ends that would end so: once both finishes are exchanged it is finished, whatever ends it
abbrev pub ends_as : Around → Facts → Ending → Ending
ends_as x f ending = if finishes_exchanged x f then endings.Finished else ending

-- the connection ends, and this is written
abbrev pub ends_with : Around → Facts → List Message → Ending → Outcome
ends_with x f written ending = record { act = Ended; written = written; next = f; ending = Some (ends_as x f ending); accepted = false; holds = None }

-- the connection ends, and a Terminate with this code is written
abbrev pub ends : Around → Facts → ℕ → Ending → Outcome
ends x f code ending = ends_with x f (terminate x.config.session code [] ∷ []) ending

-- a rule is broken: code 2, unspecified error
abbrev pub breaks : Around → Facts → Violation → Outcome
breaks x f violation = ends x f 2 (endings.Violation violation)

-- what no row takes in its phase
abbrev pub not_in_phase : Around → Facts → (template : ℕ) → Outcome
not_in_phase x f template = breaks x f (NotInPhase template f.connection.phase)

-- the numbers that an announcement jumps over are skipped
abbrev pub skip_of : Option Range → Act
skip_of None = Nothing
skip_of (Some range) = Skip range.from range.count

-- and told to the peer
abbrev pub told_skip : Option Range → List Message
told_skip None = []
told_skip (Some range) = not_applied range.from range.count ∷ []

-- the messages by which an initiator opens a session and a connection (FIXP 1.1, Negotiate and Establish)
abbrev pub opening_negotiate : Around → Message
opening_negotiate x = negotiate x.config.session (timestamp x) (flow_code x.config.own_flow) x.config.credentials

abbrev pub opening_establish : Around → Facts → Message
opening_establish x f = establish x.config.session (timestamp x) x.config.keepalive (announced_number x f) (told_next x f) x.config.credentials
