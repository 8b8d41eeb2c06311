-- What the beginning of a connection makes of the measure, and how much there is to do at most where none stands.
use Rattle.std.specs.Prelude.{◌≡◌, ℕ, ◌+◌, ◌*◌, ◌≤◌, true, false, None}
use Rattle.fixp_shake.specs.declared.config.EndConfig.{EndConfig}
use Rattle.fixp_shake.specs.declared.phase.Phase.TheVariants as phases
use Rattle.fixp_replies.specs.declared.facts.EndState.{EndState}
use Rattle.fixp_replies.specs.Facts.{is_initiator, connecting}
use Rattle.fixp_machine.specs.Machine.{State, begin, step}
use Rattle.connection_laws.specs.Writing.{writes}
use Rattle.drain_laws.specs.Loads.{load, load_at}
use Rattle.drain_laws.specs.Calls.{weights_out}

-- an end between two connections: what it has to do on the next one, by what is recorded
abbrev pub idle_load : EndConfig → (m n : ℕ) → EndState → ℕ
idle_load c m n recorded = load c m n (connecting recorded phases.Idle) None

-- two ends where no connection stands: that one begins pays for a Negotiate, and for 4 that it lowers
abbrev pub idle_measure : (initiator acceptor : EndConfig) → (m n : ℕ) → (of_initiator of_acceptor : EndState) → ℕ
idle_measure i a m n ri ra = 29 + (idle_load i m n ri + idle_load a n m ra)

-- a connection begins: both ends are told so, and nothing else is under way
abbrev pub BeginsFall : Type 0
BeginsFall = (m n : ℕ) (i a : State) (now_i now_a : ℕ) → is_initiator i.config.role ≡ true → is_initiator a.config.role ≡ false
    → (weights_out i.config (writes i (begin now_i)) + load_at m n (step i (begin now_i)))
    + (weights_out a.config (writes a (begin now_a)) + load_at n m (step a (begin now_a))) + 4
    ≤ idle_measure i.config a.config m n i.facts.recorded a.facts.recorded

-- the most that there is to do where the outboxes come to have so many entries together: 29 an entry, which is sent, lost, asked for
-- and sent again; 16 for each finish, 16 for the closing, and the 29 of the beginning
abbrev pub bound : ℕ → ℕ
bound entries = 29 * entries + 77

-- two ends of one session, the flow that one sends the other receives; an inbox awaits number 1 at least
abbrev pub IdleWithin : Type 0
IdleWithin = (i a : EndConfig) (m n : ℕ) (ri ra : EndState) → is_initiator i.role ≡ true → is_initiator a.role ≡ false
    → a.peer_flow ≡ i.own_flow → i.peer_flow ≡ a.own_flow → 1 ≤ ri.inbox_next → 1 ≤ ra.inbox_next → idle_measure i a m n ri ra ≤ bound (m + n)
