-- The handshake of two ends of one session, over a link that stands, where no tick of a clock finds an end late: one message of it is under way, and none before that;
-- and what each end knows of the other's interval once it is done (FIXP 1.1, "Session lifecycle").
use Rattle.std.specs.Prelude.{◌≡◌, ⊤, ◌⊎◌, ℕ, ◌+◌, ◌≤◌, max, min, true, false, List, [], ◌∷◌, ◌++◌, None}
use Rattle.std.specs.List.{AllByRecursion}
use Rattle.session_model.specs.Journal.{Entry}
use Rattle.fixp_msgs.specs.Message.{Message, negotiate, negotiation_response, negotiation_reject, establish, establishment_ack}
use Rattle.fixp_shake.specs.declared.phase.Phase.TheVariants as phases
use Rattle.fixp_shake.specs.Phases.{is_shaken}
use Rattle.fixp_replies.specs.Events.{lateness}
use Rattle.fixp_machine.specs.Machine.{State, Call, tick, around}
use Rattle.connection_laws.specs.Writing.{Piece, said}
use Rattle.honest_ends.specs.Worlds.{World, Step, meets, initiator_reads, acceptor_reads, initiator_does, acceptor_does, after, world_after, AllMayStep}
use Rattle.honest_ends.specs.Knowing.{StartsKnown}
use Rattle.drain_ends.specs.Agreeing.{IsKnown}
use Rattle.drain_ends.specs.Closing.{KeepsLink}

-- a tick finds an end neither late with its handshake nor behind silence
abbrev pub InTime : State → Call → Type 0
InTime s (tick now) = lateness (around s 0 now) s.facts s.start s.last_received ≡ None
InTime s call = ⊤

abbrev pub StepInTime : World → Step → Type 0
StepInTime w (initiator_does call) = InTime w.initiator call
StepInTime w (acceptor_does call) = InTime w.acceptor call
StepInTime w s = ⊤

abbrev pub AllInTime : World → List Step → Type 0
AllInTime w [] = ⊤
AllInTime w (s ∷ later) = StepInTime w s × AllInTime (after w s) later

-- how many messages are read in some steps
abbrev pub one_of : List Piece → ℕ
one_of [] = 0
one_of (p ∷ later) = 1

abbrev pub read_in : World → Step → ℕ
read_in w (initiator_reads at now) = one_of w.homeward
read_in w (acceptor_reads at now) = one_of w.outward
read_in w s = 0

abbrev pub reads_in : World → List Step → ℕ
reads_in w [] = 0
reads_in w (s ∷ later) = read_in w s + reads_in (after w s) later

-- how many messages of the handshake are still to be read, of which this is the next: an Establish that no acceptor rejects is acknowledged
abbrev pub to_come : Message → ℕ
to_come (negotiate id timestamp flow credentials) = 4
to_come (negotiation_response id timestamp flow credentials) = 3
to_come (negotiation_reject id timestamp code reason) = 3
to_come (establish id timestamp keepalive next expected credentials) = 2
to_come (establishment_ack id timestamp keepalive next expected) = 1
to_come m = 0

-- It is under way to the acceptor, and nothing else is; or to the initiator, alone until the acceptor has acknowledged, and from then on first
pub data Awaited (w : World) (left : ℕ) : Type 0 where
  by_acceptor : (m : Message) → w.outward ≡ said m ∷ [] → w.homeward ≡ [] → to_come m ≡ left → is_shaken w.acceptor.facts.connection.phase ≡ false → Awaited w left
  by_initiator : (m : Message) (later : List Piece) → w.outward ≡ [] → w.homeward ≡ said m ∷ later → to_come m ≡ left
      → (is_shaken w.acceptor.facts.connection.phase ≡ false → later ≡ []) → Awaited w left

-- Before the initiator's handshake is done neither connection has ended, and so many messages of it are still to be read. An acceptor that has acknowledged knows the
-- initiator's interval
pub record Opening (w : World) (left : ℕ) : Type 0 where
  pub unshaken : is_shaken w.initiator.facts.connection.phase ≡ false
  pub initiator : w.initiator.ending ≡ None
  pub acceptor : w.acceptor.ending ≡ None
  pub awaited : Awaited w left
  pub some : 1 ≤ left
  pub interval : is_shaken w.acceptor.facts.connection.phase ≡ true → w.acceptor.facts.connection.peer_interval ≡ w.initiator.config.keepalive

-- Once it is done the acceptor's is too. It knows the initiator's interval, and the initiator knows the acceptor's, where that is in the range of 100 to 60,000 milliseconds,
-- and else the nearest one in it
pub record Opened (w : World) : Type 0 where
  pub initiator : is_shaken w.initiator.facts.connection.phase ≡ true
  pub acceptor : w.acceptor.facts.connection.phase ≡ phases.Established
  pub of_initiator : w.acceptor.facts.connection.peer_interval ≡ w.initiator.config.keepalive
  pub of_acceptor : w.initiator.facts.connection.peer_interval ≡ min 60000 (max 100 w.acceptor.config.keepalive)

-- whatever steps in time came on a connection, where each may come and its link stands: 4 messages make the handshake at most
abbrev pub OpeningHolds : Type 0
OpeningHolds = (hi ha : List Entry) (w : World) (now_i now_a : ℕ) (later : List Step) → StartsKnown hi ha w → IsKnown w → AllMayStep hi ha w (meets now_i now_a ∷ later)
    → AllByRecursion KeepsLink later → AllInTime (after w (meets now_i now_a)) later
    → ((left : ℕ) × Opening (world_after w (meets now_i now_a ∷ later)) left × (left + reads_in (after w (meets now_i now_a)) later ≤ 4))
    ⊎ Opened (world_after w (meets now_i now_a ∷ later))

-- and a handshake that is done stays done
abbrev pub OpenedStays : Type 0
OpenedStays = (hi ha : List Entry) (w : World) (now_i now_a : ℕ) (first later : List Step) → StartsKnown hi ha w → IsKnown w → AllMayStep hi ha w (meets now_i now_a ∷ (first ++ later))
    → AllByRecursion KeepsLink later → AllInTime (world_after w (meets now_i now_a ∷ first)) later → Opened (world_after w (meets now_i now_a ∷ first))
    → Opened (world_after w (meets now_i now_a ∷ (first ++ later)))
