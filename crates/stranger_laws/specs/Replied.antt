-- What one reply makes of a message that does not open the session.
use Rattle.std.specs.Prelude.{◌≡◌, Bool, true, false, not, if◌then◌else◌, []}
use Rattle.fixp_shake.specs.declared.config.EndConfig.{EndConfig}
use Rattle.fixp_shake.specs.Phases.{is_idle, is_shaken}
use Rattle.fixp_replies.specs.declared.facts.Facts.{Facts}
use Rattle.fixp_replies.specs.Acts.{is_record}
use Rattle.fixp_replies.specs.Facts.{Around, is_initiator}
use Rattle.fixp_replies.specs.Incoming.{Incoming}
use Rattle.fixp_replies.specs.Outcomes.{Outcome}
use Rattle.fixp_replies.specs.Replies.{reply_of}
use Rattle.connection_laws.specs.Courses.{accepted_by}
use Rattle.stranger_laws.specs.Opening.{opens, gives_keys}

-- the session is not open on a connection: an acceptor waits for its client, and an initiator's handshake is not done
abbrev pub is_outside : EndConfig → Facts → Bool
is_outside cfg f = if is_initiator cfg.role then not (is_shaken f.connection.phase) else is_idle f.connection.phase

-- nothing is accepted, and the session stays so
pub record StaysOutside (cfg : EndConfig) (i : Incoming) (o : Outcome) : Type 0 where
  pub nothing : accepted_by o i ≡ []
  pub outside : is_outside cfg o.next ≡ true

-- nothing is to be made stable, and what is recorded stays
pub record RecordsNothing (f : Facts) (o : Outcome) : Type 0 where
  pub unrecorded : is_record o.act ≡ false
  pub recorded : o.next.recorded ≡ f.recorded

-- where it is not open, a message that does not open it is no message of the peer's flow, and leaves it so
abbrev pub OutsideStays : Type 0
OutsideStays = (x : Around) (f : Facts) (i : Incoming) → is_outside x.config f ≡ true → opens x.config i ≡ false
    → StaysOutside x.config i (reply_of x f i)

-- and one that does not give the keys adds no record
abbrev pub KeylessRecordsNothing : Type 0
KeylessRecordsNothing = (x : Around) (f : Facts) (i : Incoming) → is_outside x.config f ≡ true → gives_keys x.config i ≡ false
    → RecordsNothing f (reply_of x f i)
