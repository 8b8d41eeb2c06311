-- The finish of one flow at any moment: what its writer has sent where it is told, what is under way behind it, and what its reader knows.
use Rattle.std.specs.Prelude.{◌≡◌, ⊤, ℕ, false, if◌then◌else◌, List, [], ◌∷◌, length, Option, Some, None, IfSome, IsSome}
use Rattle.std.specs.List.{AllByRecursion}
use Rattle.session_model.specs.Journal.{Entry}
use Rattle.fixp_msgs.specs.Message.{finished_sending}
use Rattle.fixp_shake.specs.Flows.{is_sequenced}
use Rattle.fixp_shake.specs.Phases.{is_closing}
use Rattle.fixp_replies.specs.Facts.{peer_last}
use Rattle.fixp_machine.specs.Machine.{State}
use Rattle.connection_laws.specs.Writing.{Piece, said, entry}
use Rattle.honest_ends.specs.Numbers.{left_after, to_come}
use Rattle.honest_ends.specs.Worlds.{World}
use Rattle.honest_ends.specs.Knowing.{last_told}

-- an outbox that comes to have these entries is finished behind them, and all of them are sent
pub record AllSent (h : List Entry) (writer : State) : Type 0 where
  pub finish : writer.facts.recorded.finish ≡ Some (length h)
  pub sent : writer.facts.recorded.sent ≡ length h

-- so it is where this last number is known
abbrev pub IsLast : List Entry → State → ℕ → Type 0
IsLast h writer last = AllSent h writer × (last ≡ last_told writer.config.own_flow h)

-- a message that tells a finish
abbrev pub IsFinish : Piece → Type 0
IsFinish (said (finished_sending id last)) = ⊤
IsFinish p = ⊥

-- and where a finish is under way, which names the last number, where the flow has numbers
abbrev pub IsTold : List Entry → State → Piece → Type 0
IsTold h writer (said (finished_sending id last)) = AllSent h writer × (last ≡ (if is_sequenced writer.config.own_flow then Some (length h) else None))
IsTold h writer p = ⊤

-- of some messages, where so many of a retransmission are still to come before them, each entry belongs to a retransmission
abbrev pub NoneLive : Option ℕ → List Piece → Type 0
NoneLive l [] = ⊤
NoneLive l (entry payload ∷ ps) = IsSome l × NoneLive (left_after (entry payload) l) ps
NoneLive l (said m ∷ ps) = NoneLive (left_after (said m) l) ps

-- and so it is behind each finish among them
abbrev pub NoneLiveBehind : Option ℕ → List Piece → Type 0
NoneLiveBehind l [] = ⊤
NoneLiveBehind l (p ∷ ps) = (IsFinish p → NoneLive (left_after p l) ps) × NoneLiveBehind (left_after p l) ps

-- Of one flow, whose writer's outbox comes to have these entries. What its reader has recorded of a finish, or has read of one on this
-- connection, is the last number, and a finish under way names it. And where the reader's connection goes on and it has not begun to
-- close it, no entry under way is live behind a finish, nor is any where the reader knows one
pub record Tells (h : List Entry) (writer reader : State) (way : List Piece) : Type 0 where
  pub recorded : IfSome reader.facts.recorded.peer_last (λ last. IsLast h writer last)
  pub known : IfSome (peer_last reader.facts) (λ last. IsLast h writer last)
  pub under_way : AllByRecursion (IsTold h writer) way
  pub behind : reader.ending ≡ None → is_closing reader.facts.connection.phase ≡ false → NoneLiveBehind (to_come reader.facts.connection.requester) way
  pub behind_known : reader.ending ≡ None → is_closing reader.facts.connection.phase ≡ false → IsSome (peer_last reader.facts)
      → NoneLive (to_come reader.facts.connection.requester) way

-- both flows
pub record Finished (hi ha : List Entry) (w : World) : Type 0 where
  pub outward : Tells hi w.initiator w.acceptor w.outward
  pub homeward : Tells ha w.acceptor w.initiator w.homeward
