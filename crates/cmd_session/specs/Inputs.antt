-- What a session reads before it begins (this project's profile).
use Rattle.std.specs.Prelude.{◌≡◌, ℕ, ◌<◌, ◌≤◌, List, length, Option, Some, Result, Ok}
use Rattle.std.specs.Option.{ForSome}
use Rattle.session_model.specs.Journal.{History}
use Rattle.fixp_msgs.specs.declared.flow.Flow.{Flow}
use Rattle.fixp_shake.specs.declared.config.Role.{Role}
use Rattle.fixp_shake.specs.declared.config.EndConfig.{EndConfig}
use Rattle.schema_toml.specs.declared.fault.ConfigFault.{ConfigFault}
use Rattle.cmd_config.specs.declared.purpose.Purpose.TheVariants.{Live}
use Rattle.cmd_config.specs.declared.configuration.Link.{Link}
use Rattle.cmd_config.specs.declared.configuration.Configuration.{Configuration}
use Rattle.cmd_config.specs.Settings.{configuration_of_text, own_flow, peer_flow}
use Rattle.plan_text.specs.Plans.{HasPlans, IsRefusedAt}
use Rattle.plan_outbox.specs.Behind.{IsPastAt}
use Rattle.cmd_session.specs.Journals.{IsJournal}
use Rattle.jr_boxes.specs.Outboxes.{records_of_history}
use Rattle.cmd_base.specs.Texts.{input_limit}
use Rattle.cmd_base.specs.declared.status.Status.{Status}
use Rattle.cmd_base.specs.declared.status.Status.TheVariants.{InputFault, JournalFault, JournalBad, Message, Memory}
use Rattle.jr_boxes.specs.declared.faults.Which.TheVariants.{Outbox as OutboxOf}
use Rattle.jr_boxes.specs.declared.faults.JournalCause.TheVariants.{Changed}
use Rattle.cmd_base.specs.declared.status.Bad.TheVariants.{Line, TooLong}

-- what a text configures for an end of this role, or why it does not
abbrev pub configuration_at : Role → List ℕ → Result Configuration ConfigFault
configuration_at role = configuration_of_text (Live role)

-- CONFIG, where it tells its content, spells this configuration for an end of this role
abbrev pub IsConfigured : Role → Option (List ℕ) → Configuration → Type 0
IsConfigured role told c = (text : List ℕ) → told ≡ Some text → configuration_at role text ≡ Ok c

-- the flow that an end of this role receives
abbrev pub flow_received : Role → Link → Flow
flow_received role link = peer_flow role link.client_flow link.server_flow

-- an end of this role, as its configuration has it
abbrev pub end_of : Role → Link → EndConfig
end_of role link = record {
  role = role;
  session = link.session;
  own_flow = own_flow role link.client_flow link.server_flow;
  peer_flow = flow_received role link;
  keepalive = link.keepalive;
  credentials = link.credentials;
  version = link.version;
}

-- INPUT, where it tells its content, has these plans for so many senders, and is not too long
abbrev pub ArePlanned : ℕ → Option (List ℕ) → List (List (List ℕ)) → Type 0
ArePlanned senders told plans = (text : List ℕ) → told ≡ Some text → (length text ≤ input_limit) × HasPlans senders text plans

-- the first line that gives no payload to a sender
abbrev pub IsLineOf : ℕ → ℕ → List ℕ → Type 0
IsLineOf senders line text = (length text ≤ input_limit) × IsRefusedAt senders text line

-- What a status says of an INPUT of plans for so many senders that was refused: its first line that gives no payload to a sender, or
-- that it is too long; or the device or memory failed
abbrev pub RefusesInput : ℕ → Option (List ℕ) → Status → Type 0
RefusesInput senders told (Message (Line line)) = (text : List ℕ) → told ≡ Some text → IsLineOf senders line text
RefusesInput senders told (Message TooLong) = (text : List ℕ) → told ≡ Some text → input_limit < length text
RefusesInput senders told InputFault = Unit {0}
RefusesInput senders told Memory = Unit {0}
RefusesInput senders told _ = ⊥

-- What a status says of plans for so many senders that do not go on from an outbox: the first line of INPUT whose payload may not stand in its
-- sender's plan beside the entries of the outbox; or the device of the outbox gave an entry otherwise than it was written, which none does that
-- tells its content; or it or memory failed
abbrev pub RefusesPlans : ℕ → (input outbox : Option (List ℕ)) → Status → Type 0
RefusesPlans senders input outbox (Message (Line line)) =
    ForSome input (λ text. ForSome outbox (λ content. (h : History) → IsJournal content (records_of_history h) → IsPastAt h senders text line))
RefusesPlans senders input outbox (JournalBad OutboxOf (Changed at)) = ForSome outbox (λ _. ⊥)
RefusesPlans senders input outbox JournalFault = Unit {0}
RefusesPlans senders input outbox Memory = Unit {0}
RefusesPlans senders input outbox _ = ⊥
