-- What an end has to do, and that of two ends whose connections both go on one has something to do until both finishes are exchanged and
-- the connection is closed.
use Rattle.std.specs.Prelude.{◌≡◌, ℕ, ◌<◌, ◌≤◌, ◌&&◌, ◌||◌, ◌⊎◌, Bool, true, false, List, [], ◌∷◌, length, take, None, IsSome}
use Rattle.session_model.specs.Journal.{Entry, History}
use Rattle.fixp_msgs.specs.Message.{Message, sequence, unsequenced_heartbeat}
use Rattle.flow_retrans.specs.Requests.{is_coming}
use Rattle.fixp_shake.specs.Flows.{is_absent}
use Rattle.fixp_shake.specs.Phases.{is_idle, is_established}
use Rattle.fixp_replies.specs.Events.{tells_finish, closes}
use Rattle.fixp_machine.specs.Machine.{State, around}
use Rattle.connection_laws.specs.Writing.{Piece, said, entry}
use Rattle.honest_ends.specs.Worlds.{World, Step, world_after, AllMayStep}
use Rattle.honest_ends.specs.Knowing.{StartsKnown}
use Rattle.drain_laws.specs.Counts.{answered}
use Rattle.drain_ends.specs.Standing.{BothGo}

-- a message that keeps a connection alive, or ends a retransmission
abbrev pub is_beat_of : Message → Bool
is_beat_of (sequence next) = true
is_beat_of unsequenced_heartbeat = true
is_beat_of _ = false

abbrev pub is_beat : Piece → Bool
is_beat (said m) = is_beat_of m
is_beat (entry payload) = false

abbrev pub all_beats : List Piece → Bool
all_beats [] = true
all_beats (p ∷ later) = is_beat p && all_beats later

-- a Sequence is among some messages
abbrev pub is_sequence_of : Message → Bool
is_sequence_of (sequence next) = true
is_sequence_of _ = false

abbrev pub is_sequence : Piece → Bool
is_sequence (said m) = is_sequence_of m
is_sequence (entry payload) = false

abbrev pub has_sequence : List Piece → Bool
has_sequence [] = false
has_sequence (p ∷ later) = is_sequence p || has_sequence later

-- An end that has seen this of its outbox, what is under way to it, and how many messages a turn of it takes at most. It serves a range; one of the
-- messages that a turn takes is no heartbeat, or is a Sequence that ends a retransmission which comes in; an entry is seen that was not sent; all are
-- sent, the mark is seen, and the finish is to be told; or both finishes are exchanged, and it is to close
pub data Acts (per_turn : ℕ) (seen : History) (s : State) (way : List Piece) : Type 0 where
  serves : IsSome s.facts.connection.serving → Acts per_turn seen s way
  reads : all_beats (take per_turn way) ≡ false → Acts per_turn seen s way
  ends_range : is_established s.facts.connection.phase ≡ true → is_coming s.facts.connection.requester ≡ true → has_sequence (take per_turn way) ≡ true → Acts per_turn seen s way
  sends : is_established s.facts.connection.phase ≡ true → is_absent s.config.own_flow ≡ false → s.facts.recorded.sent < length seen.made → Acts per_turn seen s way
  tells : seen.finished ≡ true → tells_finish (around s 0 0) s.facts (length seen.made) ≡ true → Acts per_turn seen s way
  shuts : closes (around s 0 0) s.facts ≡ true → Acts per_turn seen s way

-- as many heartbeats as a turn takes, or more, stand first
pub record BeatsFirst (per_turn : ℕ) (way : List Piece) : Type 0 where
  pub many : per_turn ≤ length way
  pub beats : all_beats (take per_turn way) ≡ true

-- an end whose connection goes on has something to do, or heartbeats to read, where a turn of each takes so many messages at most
pub data HasToDo (most_i most_a : ℕ) (seen_i seen_a : History) (w : World) : Type 0 where
  at_initiator : w.initiator.ending ≡ None → Acts most_i seen_i w.initiator w.homeward → HasToDo most_i most_a seen_i seen_a w
  at_acceptor : w.acceptor.ending ≡ None → Acts most_a seen_a w.acceptor w.outward → HasToDo most_i most_a seen_i seen_a w
  homeward_beats : w.initiator.ending ≡ None → BeatsFirst most_i w.homeward → HasToDo most_i most_a seen_i seen_a w
  outward_beats : w.acceptor.ending ≡ None → BeatsFirst most_a w.outward → HasToDo most_i most_a seen_i seen_a w

-- an outbox that comes to have these entries is seen whole, with its mark
pub record IsWhole (h : List Entry) (seen : History) : Type 0 where
  pub all : length seen.made ≡ length h
  pub finished : seen.finished ≡ true

-- Whatever steps came, where each may come, behind the beginning of a connection. The initiator has seen its whole outbox, and so has
-- the acceptor where the initiator's finish is answered, or the initiator sends nothing
abbrev pub SomethingToDo : Type 0
SomethingToDo = (most_i most_a : ℕ) (hi ha : List Entry) (w : World) (steps : List Step) (seen_i seen_a : History) → StartsKnown hi ha w → AllMayStep hi ha w steps
    → BothGo (world_after w steps) → is_idle (world_after w steps).initiator.facts.connection.phase ≡ false
    → IsWhole hi seen_i → (world_after w steps).acceptor.facts.recorded.sent ≤ length seen_a.made
    → ((answered (world_after w steps).acceptor.facts ≡ 1) ⊎ (is_absent (world_after w steps).acceptor.config.peer_flow ≡ true) → IsWhole ha seen_a)
    → HasToDo most_i most_a seen_i seen_a (world_after w steps)
