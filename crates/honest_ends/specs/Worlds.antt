-- Two ends of one session and the link between them: what may happen, one step behind another.
use Rattle.std.specs.Prelude.{◌≡◌, ⊤, ℕ, ◌≤◌, List, [], ◌∷◌, ◌++◌, length}
use Rattle.session_model.specs.Journal.{Entry}
use Rattle.fixp_shake.specs.declared.config.EndConfig.{EndConfig}
use Rattle.fixp_shake.specs.declared.config.Role.TheVariants as roles
use Rattle.fixp_machine.specs.Machine.{State, Call, begin, frame, bad_frame, did, tick, turn_done, closed, link_end, live, again, taken, reserve, held_done, IsDrained, step, run, fresh}
use Rattle.connection_laws.specs.Writing.{Piece, writes}
use Rattle.connection_laws.specs.Standing.{IsOpen, MayStand}
use Rattle.two_ends.specs.Reading.{incoming_of}

-- both ends, and what each has written on the link that the other has not read yet
pub record World : Type 0 where
  pub initiator : State
  pub acceptor : State
  pub outward : List Piece
  pub homeward : List Piece

-- Both begin a connection on a new link, on which they meet, or one reads the next message under way; or an end gets another call.
-- A cut is the link's end at both, at any moments of theirs: what is under way is not read any more
pub data Step : Type 0 where
  meets : (now_i now_a : ℕ) → Step
  initiator_reads : (at now : ℕ) → Step
  acceptor_reads : (at now : ℕ) → Step
  initiator_does : Call → Step
  acceptor_does : Call → Step

-- an end reads a message, and its act is done at once
abbrev pub reading : Piece → (at now : ℕ) → List Call
reading p at now = frame (incoming_of p) at now ∷ did now ∷ []

-- what some calls write
abbrev pub written : State → List Call → List Piece
written s [] = []
written s (call ∷ later) = writes s call ++ written (step s call) later

-- the initiator has some calls, and this is left for it to read
abbrev pub initiator_calls : World → List Piece → List Call → World
initiator_calls w left calls = record w { initiator = run w.initiator calls; outward = w.outward ++ written w.initiator calls; homeward = left }

abbrev pub acceptor_calls : World → List Piece → List Call → World
acceptor_calls w left calls = record w { acceptor = run w.acceptor calls; homeward = w.homeward ++ written w.acceptor calls; outward = left }

abbrev pub initiator_read : World → List Piece → (at now : ℕ) → World
initiator_read w [] at now = w
initiator_read w (p ∷ later) at now = initiator_calls w later (reading p at now)

abbrev pub acceptor_read : World → List Piece → (at now : ℕ) → World
acceptor_read w [] at now = w
acceptor_read w (p ∷ later) at now = acceptor_calls w later (reading p at now)

abbrev pub after : World → Step → World
after w (meets now_i now_a) = record {
  initiator = step w.initiator (begin now_i);
  acceptor = step w.acceptor (begin now_a);
  outward = writes w.initiator (begin now_i);
  homeward = writes w.acceptor (begin now_a);
}
after w (initiator_reads at now) = initiator_read w w.homeward at now
after w (acceptor_reads at now) = acceptor_read w w.outward at now
after w (initiator_does call) = initiator_calls w w.homeward (call ∷ [])
after w (acceptor_does call) = acceptor_calls w w.outward (call ∷ [])

-- a call other than the beginning of a connection, and a frame with its act; where an outbox is finished, it has its finish behind
-- all of its entries
abbrev pub IsOther : List Entry → Call → Type 0
IsOther h (begin now) = ⊥
IsOther h (frame incoming at now) = ⊥
IsOther h (bad_frame at now) = ⊥
IsOther h (did now) = ⊥
IsOther h (tick now) = ⊤
IsOther h (turn_done now) = ⊤
IsOther h (closed last now) = last ≡ length h
IsOther h link_end = ⊤
IsOther h (live payloads now) = ⊤
IsOther h (again payloads now) = ⊤
IsOther h (taken count) = ⊤
IsOther h reserve = ⊤
IsOther h held_done = ⊤

-- An end reads where its connection is open, and the held messages that the inbox awaits are applied
abbrev pub MayRead : State → Type 0
MayRead s = IsOpen s × IsDrained s

-- When a step may come, where the outboxes come to have these entries: an end reads where it may, and each call may come as it may on
-- any connection
abbrev pub MayStep : (of_initiator of_acceptor : List Entry) → World → Step → Type 0
MayStep hi ha w (meets now_i now_a) = ⊤
MayStep hi ha w (initiator_reads at now) = MayRead w.initiator
MayStep hi ha w (acceptor_reads at now) = MayRead w.acceptor
MayStep hi ha w (initiator_does call) = IsOther hi call × MayStand hi w.initiator call
MayStep hi ha w (acceptor_does call) = IsOther ha call × MayStand ha w.acceptor call

abbrev pub world_after : World → List Step → World
world_after w [] = w
world_after w (s ∷ later) = world_after (after w s) later

abbrev pub AllMayStep : (of_initiator of_acceptor : List Entry) → World → List Step → Type 0
AllMayStep hi ha w [] = ⊤
AllMayStep hi ha w (s ∷ later) = MayStep hi ha w s × AllMayStep hi ha (after w s) later

-- the configurations of the two ends of one session: the flow that one sends the other receives. Each has the version of the session
-- schema that it speaks
pub record Match (i a : EndConfig) : Type 0 where
  pub initiates : i.role ≡ roles.Initiator
  pub accepts : a.role ≡ roles.Acceptor
  pub session : a.session ≡ i.session
  pub credentials : a.credentials ≡ i.credentials
  pub outward : a.peer_flow ≡ i.own_flow
  pub homeward : i.peer_flow ≡ a.own_flow
  pub keepalive : (100 ≤ i.keepalive) × (i.keepalive ≤ 60000)

-- both are as their journals say, and nothing is under way
pub record Starts (w : World) : Type 0 where
  pub matches : Match w.initiator.config w.acceptor.config
  pub initiator : w.initiator ≡ fresh w.initiator.config w.initiator.facts.recorded w.initiator.most
  pub acceptor : w.acceptor ≡ fresh w.acceptor.config w.acceptor.facts.recorded w.acceptor.most
  pub outward : w.outward ≡ []
  pub homeward : w.homeward ≡ []
