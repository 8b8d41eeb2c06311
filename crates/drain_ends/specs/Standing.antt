-- Two ends of one session whose connections both go on: nothing that one of them waits for is lost, and nothing comes twice.
use Rattle.std.specs.Prelude.{◌≡◌, ◌+◌, false, List, None}
use Rattle.session_model.specs.Journal.{Entry}
use Rattle.fixp_shake.specs.Phases.{is_idle, is_closing}
use Rattle.fixp_replies.specs.Facts.{gap_to_ask}
use Rattle.fixp_machine.specs.Machine.{State, around}
use Rattle.connection_laws.specs.Writing.{Piece}
use Rattle.honest_ends.specs.Worlds.{World, Step, world_after, AllMayStep}
use Rattle.honest_ends.specs.Knowing.{StartsKnown}
use Rattle.drain_laws.specs.Counts.{finish, answer, request, restart, opening, shutting, under_way, read, answered, told, exchanged, unanswered, unshaken}
use Rattle.drain_laws.specs.Frames.{Fills}
use Rattle.drain_laws.specs.Evens.{HasRequest}

-- neither connection has ended, and the initiator has not begun to close
pub record BothGo (w : World) : Type 0 where
  pub initiator : w.initiator.ending ≡ None
  pub acceptor : w.acceptor.ending ≡ None
  pub yet : is_closing w.initiator.facts.connection.phase ≡ false

-- Of one flow, with what is under way behind its writer, and back. A finish whose answer its writer awaits is under way, or was read and waits
-- for a gap, or its answer is on the way back; and where it is answered, the answer is on the way back or has come. A request to which its
-- reader awaits an answer is on the way back, or its answer is under way. What the reader asked for begins where its inbox waits, and
-- what comes in ends where that does; no gap is left that is still to be asked for, and a finish that waits for a gap waits for a request
pub record Exact (writer reader : State) (way back : List Piece) : Type 0 where
  pub finish : under_way finish way + read reader.facts + under_way answer back ≡ told writer.facts
  pub exchanged : answered reader.facts ≡ under_way answer back + exchanged writer.facts
  pub request : under_way request back + under_way restart way ≡ unanswered reader.facts
  pub fills : Fills reader.facts.connection.receiver.next reader.facts.connection.requester
  pub asks : gap_to_ask (around reader 0 0) reader.facts ≡ None
  pub waits : read reader.facts ≡ 1 → HasRequest reader.facts

-- Of both flows. And until the initiator's handshake is done one message of the handshake is under way, and from then on none; nor is a
-- Terminate
pub record Standing (w : World) : Type 0 where
  pub outward : Exact w.initiator w.acceptor w.outward w.homeward
  pub homeward : Exact w.acceptor w.initiator w.homeward w.outward
  pub opens : is_idle w.initiator.facts.connection.phase ≡ false → under_way opening w.outward + under_way opening w.homeward ≡ unshaken w.initiator.facts
  pub shuts : (under_way shutting w.outward ≡ 0) × (under_way shutting w.homeward ≡ 0)

-- whatever steps came, where each may come
abbrev pub StandingHolds : Type 0
StandingHolds = (hi ha : List Entry) (w : World) (steps : List Step) → StartsKnown hi ha w → AllMayStep hi ha w steps → BothGo (world_after w steps)
    → Standing (world_after w steps)
