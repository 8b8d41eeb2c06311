-- What the beginning of a connection makes of the measure.
use Rattle.std.proofs.Common.{◌≡◌, ℕ, ◌+◌, ◌*◌, ◌≤◌, max, not, Bool, true, false, if◌then◌else◌, [], ◌∷◌, None, sym, ap, arith, true≢false}
use Rattle.fixp_msgs.specs.declared.flow.Flow.{Flow}
use Rattle.fixp_msgs.specs.declared.flow.Flow.TheVariants as flows
use Rattle.fixp_shake.specs.declared.phase.Phase.TheVariants as phases
use Rattle.fixp_shake.specs.Flows.{is_recoverable, is_idempotent}
use Rattle.fixp_replies.specs.declared.facts.EndState.{EndState}
use Rattle.fixp_replies.specs.Events.{Made}
use Rattle.fixp_replies.specs.Facts.{Around, is_initiator, connecting}
use Rattle.fixp_replies.specs.Outcomes.{opening_negotiate, opening_establish}
use Rattle.fixp_machine.specs.Machine.{State, begin, around, made, step}
use Rattle.connection_laws.specs.Writing.{said_all, writes}
use Rattle.drain_laws.specs.Loads.{sent_load, lost_load, closing_load, load_at}
use Rattle.drain_laws.specs.Calls.{weights_out}
use Rattle.drain_laws.specs.Beginning.{idle_load, BeginsFall, IdleWithin}

-- what is made where an end begins, by its role and by whether the session is negotiated
abbrev begun_if : (initiates negotiated : Bool) → Around → EndState → Made
begun_if initiates negotiated x recorded =
    if not initiates then record { written = []; next = connecting recorded phases.Idle }
    else if negotiated then record { written = opening_establish x (connecting recorded phases.Establishing) ∷ []; next = connecting recorded phases.Establishing }
    else record { written = opening_negotiate x ∷ []; next = connecting recorded phases.Negotiating }

abbrev behind : State → ℕ → Made → State
behind s now o =
    made (record s { begun = true; moment = now; ending = None; unsent = []; pending = None; start = now; last_sent = now; last_received = now; untold = []; held = [] }) o now

initiator_begins : (m n : ℕ) (s : State) (now : ℕ) → is_initiator s.config.role ≡ true
    → weights_out s.config (writes s (begin now)) + load_at m n (step s (begin now)) ≤ 25 + idle_load s.config m n s.facts.recorded
initiator_begins m n s now starts = by_tests (is_initiator s.config.role) s.facts.recorded.negotiated starts
  where
    made_of : Bool → Bool → Made
    made_of a b = begun_if a b (around s 0 now) s.facts.recorded

    by_tests : (a b : Bool) → a ≡ true
        → weights_out s.config (said_all (made_of a b).written) + load_at m n (behind s now (made_of a b)) ≤ 25 + idle_load s.config m n s.facts.recorded
    by_tests true true e = omega arith
    by_tests true false e = omega arith
    by_tests false b e = absurd (true≢false (sym e))

acceptor_begins : (m n : ℕ) (s : State) (now : ℕ) → is_initiator s.config.role ≡ false
    → weights_out s.config (writes s (begin now)) + load_at m n (step s (begin now)) ≤ idle_load s.config m n s.facts.recorded
acceptor_begins m n s now waits = by_test (is_initiator s.config.role) waits
  where
    made_of : Bool → Made
    made_of a = begun_if a s.facts.recorded.negotiated (around s 0 now) s.facts.recorded

    by_test : (a : Bool) → a ≡ false → weights_out s.config (said_all (made_of a).written) + load_at m n (behind s now (made_of a)) ≤ idle_load s.config m n s.facts.recorded
    by_test true e = absurd (true≢false e)
    by_test false e = omega arith

pub begins_fall : BeginsFall
begins_fall m n i a now_i now_a starts waits =
    let e = initiator_begins m n i now_i starts in
    let h = acceptor_begins n m a now_a waits in
    omega (arith, e, h)

-- an entry costs 29 at most, at its writer and at its reader
flow_within : (f : Flow) (m next : ℕ) → 1 ≤ next → sent_load (is_idempotent f) m + lost_load (is_recoverable f) m (max next 0) ≤ 29 * m
flow_within flows.None m next one = omega arith
flow_within flows.Recoverable m next one = omega arith
flow_within flows.Idempotent m next one = omega arith
flow_within flows.Unsequenced m next one = omega arith

pub idle_within : IdleWithin
idle_within i a m n ri ra starts waits outward homeward one_i one_a =
    let out = flow_within i.own_flow m ra.inbox_next one_a in
    let home = flow_within a.own_flow n ri.inbox_next one_i in
    let reader = ap (λ f. lost_load (is_recoverable f) m (max ra.inbox_next 0)) outward in
    let writer = ap (λ f. lost_load (is_recoverable f) n (max ri.inbox_next 0)) homeward in
    let c = ap (λ b. closing_load b false) starts in
    let d = ap (λ b. closing_load b false) waits in
    omega (arith, out, home, reader, writer, c, d)
