-- What the journals of the two ends of one session hold of each other, where these ends alone formatted and wrote them.
use Rattle.std.specs.Prelude.{◌≡◌, ℕ, ◌+◌, ◌≤◌, ◌&&◌, Bool, true, if◌then◌else◌, List, length, Some, IfSome}
use Rattle.session_model.specs.Journal.{Entry}
use Rattle.fixp_msgs.specs.declared.flow.Flow.{Flow}
use Rattle.fixp_shake.specs.declared.config.EndConfig.{EndConfig}
use Rattle.fixp_shake.specs.Flows.{is_recoverable, is_sequenced}
use Rattle.fixp_replies.specs.Expecting.{is_newer}
use Rattle.fixp_machine.specs.Machine.{State}
use Rattle.honest_ends.specs.Worlds.{World, Starts}

-- the last number that a finish of this flow names, where its outbox comes to have these entries: a flow without numbers names 0
abbrev pub last_told : Flow → List Entry → ℕ
last_told flow h = if is_sequenced flow then length h else 0

-- a writer goes back to the number that its reader expects: where both have version 1 and the flow is recoverable
abbrev pub goes_back : (writer reader : EndConfig) → Bool
goes_back writer reader = is_newer writer && is_newer reader && is_recoverable reader.peer_flow

-- What a reader has recorded of a writer's messages the writer has sent, and on a recoverable flow its inbox awaits number 1 at least.
-- Where it recorded a finish, the writer is finished and has sent all of its entries; and where the writer goes back to what the reader
-- expects, that is one past the last of them. And the reader takes the number of each of them
pub record Knows (h : List Entry) (writer reader : State) : Type 0 where
  pub sent : writer.facts.recorded.sent ≤ length h
  pub most : length h ≤ reader.most
  pub one : is_recoverable reader.config.peer_flow ≡ true → 1 ≤ reader.facts.recorded.inbox_next
  pub next : reader.facts.recorded.inbox_next ≤ writer.facts.recorded.sent + 1
  pub finish : IfSome writer.facts.recorded.finish (λ n. n ≡ length h)
  pub last : IfSome reader.facts.recorded.peer_last (λ n. (writer.facts.recorded.finish ≡ Some (length h)) × (writer.facts.recorded.sent ≡ length h)
      × (n ≡ last_told writer.config.own_flow h))
  pub ends : goes_back writer.config reader.config ≡ true → IfSome reader.facts.recorded.peer_last (λ n. reader.facts.recorded.inbox_next ≡ n + 1)

-- two ends at their beginning, which know so much of each other
abbrev pub StartsKnown : (of_initiator of_acceptor : List Entry) → World → Type 0
StartsKnown hi ha w = Starts w × Knows hi w.initiator w.acceptor × Knows ha w.acceptor w.initiator
