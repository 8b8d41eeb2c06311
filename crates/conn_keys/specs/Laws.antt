-- Laws of the verdicts.
use Rattle.std.specs.Prelude.{◌≡◌, ◌≢◌, ◌↔◌, ℕ, ◌<◌, false, true, not, nat_lt, ◌||◌, List, [], ◌∷◌, ◌++◌, length, Option}
use Rattle.std.specs.Str.{bytes_eq}
use Rattle.fixp_msgs.specs.declared.messages.Expected.{Expected}
use Rattle.fixp_msgs.specs.Message.{Message, negotiate, negotiation_reject, establish, establishment_reject}
use Rattle.fixp_shake.specs.Handshake.{is_odd_interval}
use Rattle.fixp_shake.specs.Phases.{is_idle}
use Rattle.fixp_replies.specs.declared.facts.Facts.{Facts}
use Rattle.fixp_replies.specs.Facts.{Around, is_initiator}
use Rattle.fixp_replies.specs.Incoming.{session}
use Rattle.fixp_replies.specs.Outcomes.{rejects}
use Rattle.fixp_replies.specs.Replies.{reply_of}
use Rattle.conn_keys.specs.declared.keys.Keys.{Keys}
use Rattle.conn_keys.specs.Verdicts as door
use Rattle.conn_keys.specs.Verdicts.{verdict_of, verdict_on, looked_at, waits}

-- who waits has given fewer bytes than are looked at
abbrev pub FewWait : Type 0
FewWait = (k : Keys) (bytes : List ℕ) → verdict_of k bytes ≡ waits → length bytes < looked_at

-- a verdict stands, whatever comes behind
abbrev pub VerdictsStand : Type 0
VerdictsStand = (k : Keys) (bytes more : List ℕ) → verdict_of k bytes ≢ waits → verdict_of k (bytes ++ more) ≡ verdict_of k bytes

-- an acceptor with these keys waits for its client, and its session was negotiated
pub record AwaitsClient (k : Keys) (x : Around) (f : Facts) : Type 0 where
  pub acceptor : is_initiator x.config.role ≡ false
  pub session : x.config.session ≡ k.session
  pub credentials : x.config.credentials ≡ k.credentials
  pub negotiated : f.recorded.negotiated ≡ true
  pub idle : is_idle f.connection.phase ≡ true

-- who is rejected at the door is rejected so by each such acceptor, which stays as it is
abbrev pub RejectsAsTheSession : Type 0
RejectsAsTheSession = (k : Keys) (x : Around) (f : Facts) (m : Message) (written : List Message)
    → AwaitsClient k x f → verdict_on k m ≡ door.rejects written → reply_of x f (session m) ≡ rejects written f
