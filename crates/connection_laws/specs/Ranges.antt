-- When the numbers of a machine, and of what comes to it, fit the fields of the messages that it writes.
use Rattle.std.specs.Prelude.{◌≡◌, ⊤, ℕ, ◌+◌, ◌<◌, ◌≤◌, ◌^◌, List, length}
use Rattle.std.specs.List.{AllByRecursion}
use Rattle.session_model.specs.Journal.{Entry}
use Rattle.fixp_msgs.specs.Canonical.{FitsField}
use Rattle.fixp_msgs.specs.Message.{Message}
use Rattle.fixp_msgs.specs.Payload.{IsApplication}
use Rattle.fixp_msgs.specs.Table.{row_of}
use Rattle.fixp_replies.specs.Incoming.{Incoming, application, session, wrong_order, too_short, unknown}
use Rattle.fixp_machine.specs.Machine.{State, Call, frame}

-- the machine's configuration fits, the numbers that it takes fit a count, and its inbox awaits one of them or the one behind
pub record IsInRange (s : State) : Type 0 where
  pub session : length s.config.session ≡ 16
  pub keepalive : s.config.keepalive < 2 ^ 32
  pub credentials : length s.config.credentials ≤ 2048
  pub most : s.most + 1 < 2 ^ 32
  pub next : s.facts.recorded.inbox_next ≤ s.most + 1

-- a moment in milliseconds is below 2^44, so that in millionths of one it fits a timestamp
abbrev pub IsInTime : ℕ → Type 0
IsInTime now = now < 2 ^ 44

-- the numbers of a message fit their fields
abbrev pub FitsMessage : Message → Type 0
FitsMessage m = AllByRecursion FitsField (row_of m).fields

-- so do those of an incoming session message
abbrev pub FitsIncoming : Incoming → Type 0
FitsIncoming (application payload) = ⊤
FitsIncoming (session m) = FitsMessage m
FitsIncoming wrong_order = ⊤
FitsIncoming too_short = ⊤
FitsIncoming (unknown template) = ⊤

-- and those of a call: a frame comes in time, with numbers that fit
abbrev pub FitsCall : Call → Type 0
FitsCall (frame incoming at now) = FitsIncoming incoming × IsInTime now
FitsCall _ = ⊤

-- the entries are payloads of application messages, and there are less than 2^40
pub record IsOutbox (h : List Entry) : Type 0 where
  pub payloads : AllByRecursion (λ (e : Entry). IsApplication e.payload) h
  pub few : length h < 2 ^ 40
