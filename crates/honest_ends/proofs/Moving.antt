-- What each call makes of an end, and what it writes: as far as phases go.
use Rattle.fixp_replies.specs.Incoming.{Incoming, payload_in}
use Rattle.honest_ends.proofs.Held.{record_holds_none}
use Rattle.fixp_machine.proofs.Windowing.{front_there}
use Rattle.session_model.specs.Inbox.{Numbered}
use Rattle.std.proofs.Common.{◌≡◌, ◌⊎◌, inl, inr, ℕ, ◌+◌, ◌-◌, ◌*◌, ◌==◌, ◌&&◌, nat_le, not, Bool, true, false, if◌then◌else◌, List, [], ◌∷◌, ◌++◌, length, Option, Some, None, refl, sym, ap, subst, ◌∙◌, true≢false, append-nil}
use Rattle.std.specs.Prelude.{is_some, is_none, IsSome}
use Rattle.std.specs.List.{AllByRecursion}
use Rattle.session_model.specs.Journal.{Entry}
use Rattle.session_model.proofs.Lists.{all_append}
use Rattle.fixp_msgs.specs.declared.numbering.Range.{Range}
use Rattle.fixp_msgs.specs.Message.{Message, sequence, unsequenced_heartbeat, terminate, finished_sending}
use Rattle.flow_idem.specs.Runs.{runs_of}
use Rattle.fixp_machine.proofs.Tests.{is_done}
use Rattle.fixp_msgs.specs.declared.flow.Flow.{Flow}
use Rattle.fixp_msgs.specs.declared.flow.Flow.TheVariants as flows
use Rattle.fixp_shake.specs.declared.config.EndConfig.{EndConfig}
use Rattle.fixp_shake.specs.declared.phase.Phase.TheVariants as phases
use Rattle.fixp_shake.specs.declared.violation.Violation.{Violation}
use Rattle.fixp_shake.specs.declared.violation.Violation.TheVariants.{BadFrame, UnknownTemplate, NotInPhase, OtherSession, WentBack, MissingNext, NumberTooLarge, BadRetransmission, AfterFinish, FlowNone, Silent, HandshakeLate}
use Rattle.fixp_shake.specs.Flows.{is_recoverable, is_sequenced, is_absent}
use Rattle.fixp_shake.specs.Phases.{is_established, is_shaken}
use Rattle.fixp_replies.specs.declared.act.Ending.TheVariants as endings
use Rattle.fixp_replies.specs.declared.facts.Facts.{Facts}
use Rattle.fixp_replies.specs.declared.facts.OwnFinish.TheVariants as own
use Rattle.fixp_replies.specs.Acts.{is_record}
use Rattle.fixp_replies.specs.Facts.{Around, is_initiator, in_phase, finishes_exchanged, is_open, serves}
use Rattle.fixp_replies.specs.Outcomes.{Outcome}
use Rattle.fixp_replies.specs.Replies.{reply_of}
use Rattle.fixp_replies.specs.Serving.{own_finishing}
use Rattle.fixp_replies.specs.Events.{Made, heartbeat, heartbeats, is_due, lateness, handshake_limit, applied_runs, closes, turn_ended, outbox_finished, tells_finish, finish_told, link_ending}
use Rattle.fixp_machine.specs.Machine.{State, Call, begin, frame, bad_frame, did, tick, turn_done, closed, link_end, live, again, taken, reserve, around, bytes_of, wrote, made, reply_applied, done_pending, broken_by, served_again, rest_of, step, run, held_done, held_until, held_with, front_of, held_applied}
use Rattle.connection_laws.specs.Writing.{Piece, said_all, entries, said_with, said_breaking, range_closed, written_again, writes}
use Rattle.connection_laws.specs.Standing.{MayStand}
use Rattle.two_ends.specs.Reading.{incoming_of}
use Rattle.honest_ends.specs.PhaseLaws.{IsOfTime, EndsBy}
use Rattle.honest_ends.specs.Worlds.{reading, written, IsOther}
use Rattle.honest_ends.proofs.Shapes.{IsFree, all_free_flow}
use Rattle.honest_ends.proofs.PhaseOpening.{Quiet}
use Rattle.honest_ends.specs.Numbers.{IsFlowing}
use Rattle.honest_ends.proofs.Deciding.{ended_by}

-- a message is read: its outcome takes effect, and what it writes is written
pub record Reads (s : State) (i : Incoming) (o : Outcome) (t : State) (out : List Piece) : Type 0 where
  pub config : t.config ≡ s.config
  pub facts : t.facts ≡ o.next
  pub ending : t.ending ≡ o.ending
  pub writes : out ≡ said_all o.written
  pub most : t.most ≡ s.most
  pub held : t.held ≡ held_until o.ending (held_with o.holds (payload_in i) s.held)

abbrev framed : Bool → State → Incoming → Outcome → ℕ → State
framed b s i o now =
    if b then record s { moment = now; last_received = now; room = s.room - 1; pending = Some o }
    else reply_applied (record s { moment = now; last_received = now; room = s.room - 1; held = held_with o.holds (payload_in i) s.held }) o now

pub reads_as : (s : State) (p : Piece) (at now : ℕ) → Reads s (incoming_of p) (reply_of (around s at now) s.facts (incoming_of p)) (run s (reading p at now)) (written s (reading p at now))
reads_as s p at now = by_case (is_record o.act) refl
  where
    i : Incoming
    i = incoming_of p

    o : Outcome
    o = reply_of (around s at now) s.facts (incoming_of p)

    -- a record holds no message
    unheld : is_record o.act ≡ true → s.held ≡ held_with o.holds (payload_in i) s.held
    unheld is = sym (ap (λ (n : Option ℕ). held_with n (payload_in i) s.held) (record_holds_none (around s at now) s.facts i is))

    by_case : (b : Bool) → is_record o.act ≡ b
        → Reads s i o (done_pending (framed b s i o now) (framed b s i o now).pending now) ((if b then [] else said_all o.written) ++ (said_all (said_with (framed b s i o now).pending) ++ []))
    by_case true is = record { config = refl; facts = refl; ending = refl; writes = append-nil (said_all o.written); most = refl; held = ap (λ (ms : List Numbered). held_until o.ending ms) (unheld is) }
    by_case false is = record { config = refl; facts = refl; ending = refl; writes = append-nil (said_all o.written); most = refl; held = refl }

-- a violation that ended a connection ended it before, or is of time
abbrev pub EndsNewly : State → State → Type 0
EndsNewly s t = (v : Violation) → t.ending ≡ Some (endings.Violation v) → (s.ending ≡ Some (endings.Violation v)) ⊎ IsOfTime v

-- so one of some kind that has those of time stays one of that kind
pub ends_still : (P : Violation → Type 0) (s t : State) → EndsNewly s t → ((v : Violation) → IsOfTime v → P v) → EndsBy P s → EndsBy P t
ends_still P s t newly of_time h v e = by_case (newly v e)
  where
    by_case : (s.ending ≡ Some (endings.Violation v)) ⊎ IsOfTime v → P v
    by_case (inl before) = h v before
    by_case (inr late) = of_time v late

-- what holds of silence and of a late handshake holds of each violation of time
pub each_of_time : (P : Violation → Type 0) → ((last now : ℕ) → P (Silent last now)) → ((start now : ℕ) → P (HandshakeLate start now)) → (v : Violation) → IsOfTime v → P v
each_of_time P silent late (BadFrame at) t = absurd t
each_of_time P silent late (UnknownTemplate id) t = absurd t
each_of_time P silent late (NotInPhase template phase) t = absurd t
each_of_time P silent late (OtherSession template) t = absurd t
each_of_time P silent late (WentBack announced expected) t = absurd t
each_of_time P silent late (MissingNext template) t = absurd t
each_of_time P silent late (NumberTooLarge announced) t = absurd t
each_of_time P silent late (BadRetransmission expected found) t = absurd t
each_of_time P silent late (AfterFinish last found) t = absurd t
each_of_time P silent late (FlowNone template) t = absurd t
each_of_time P silent late (Silent last now) t = silent last now
each_of_time P silent late (HandshakeLate start now) t = late start now

-- any other call, as far as phases go
pub record Does (s t : State) (out : List Piece) : Type 0 where
  pub config : t.config ≡ s.config
  pub before : is_shaken s.facts.connection.phase ≡ false → Quiet s.facts → (t.facts.connection ≡ s.facts.connection) × AllByRecursion (IsFree s.config) out
  pub done : is_shaken s.facts.connection.phase ≡ true → (is_shaken t.facts.connection.phase ≡ true) × AllByRecursion (IsFlowing s.config) out
  pub accepts : is_initiator s.config.role ≡ false → t.facts.connection.phase ≡ s.facts.connection.phase
  pub serves : is_recoverable s.config.own_flow ≡ false → s.facts.connection.serving ≡ None → t.facts.connection.serving ≡ None
  pub over : IsSome s.ending → IsSome t.ending
  pub ends : EndsNewly s t

-- nothing of the connection changes, and only free messages are written
does_free : (s t : State) (out : List Piece) → t.config ≡ s.config → t.facts.connection ≡ s.facts.connection → AllByRecursion (IsFree s.config) out → (IsSome s.ending → IsSome t.ending)
    → EndsNewly s t → Does s t out
does_free s t out c e a over ends = record {
  config = c;
  before = λ _ _. (e, a);
  done = λ k. (ap (λ q. is_shaken q.phase) e ∙ k, all_free_flow s.config out a);
  accepts = λ _. ap (λ q. q.phase) e;
  serves = λ _ h. ap (λ q. q.serving) e ∙ h;
  over = over;
  ends = ends;
}

-- once the handshake is done
does_flowing : (s t : State) (out : List Piece) → is_shaken s.facts.connection.phase ≡ true → t.config ≡ s.config → is_shaken t.facts.connection.phase ≡ true
    → (is_initiator s.config.role ≡ false → t.facts.connection.phase ≡ s.facts.connection.phase)
    → (is_recoverable s.config.own_flow ≡ false → s.facts.connection.serving ≡ None → t.facts.connection.serving ≡ None)
    → AllByRecursion (IsFlowing s.config) out → (IsSome s.ending → IsSome t.ending) → EndsNewly s t → Does s t out
does_flowing s t out k c e role serves a over ends = record {
  config = c;
  before = λ n _. absurd (true≢false (sym k ∙ n));
  done = λ _. (e, a);
  accepts = role;
  serves = serves;
  over = over;
  ends = ends;
}

said_more : (cfg : EndConfig) (P : EndConfig → Piece → Type 0) (ms more : List Message) → AllByRecursion (P cfg) (said_all ms) → AllByRecursion (P cfg) (said_all more) → AllByRecursion (P cfg) (said_all (ms ++ more))
said_more cfg P [] more a b = b
said_more cfg P (m ∷ ms) more a b = (a.0, said_more cfg P ms more a.1 b)

late : (x : Around) (f : Facts) (start last : ℕ) (v : Violation) → lateness x f start last ≡ Some v → IsOfTime v
late x f start last v e = by_tests (is_shaken f.connection.phase) (nat_le (3 * f.connection.peer_interval) (x.moment - last)) (nat_le handshake_limit (x.moment - start)) e
  where
    by_tests : (done silent slow : Bool) → (if done then (if silent then Some (Silent last x.moment) else None) else (if slow then Some (HandshakeLate start x.moment) else None)) ≡ Some v → IsOfTime v
    by_tests true true slow e = let same : Silent last x.moment ≡ v = cc e in subst (λ (u : Violation). IsOfTime u) same tt
    by_tests true false slow e = absurd cc
    by_tests false silent true e = let same : HandshakeLate start x.moment ≡ v = cc e in subst (λ (u : Violation). IsOfTime u) same tt
    by_tests false silent false e = absurd cc

-- a tick
abbrev beaten : Bool → Around → Facts → List Message
beaten b x f = if b then heartbeat x f ∷ [] else []

heartbeat_flows : (x : Around) (f : Facts) → AllByRecursion (IsFlowing x.config) (said_all (heartbeat x f ∷ []))
heartbeat_flows x f = by_flow (is_sequenced x.config.own_flow)
  where
    by_flow : (b : Bool) → AllByRecursion (IsFlowing x.config) (said_all ((if b then sequence (f.recorded.sent + 1) else unsequenced_heartbeat) ∷ []))
    by_flow true = (tt, tt)
    by_flow false = (tt, tt)

-- a heartbeat is written once the handshake is done alone
beats : (x : Around) (f : Facts) (last : ℕ) (unsent : List ℕ)
    → (heartbeats x f last unsent ≡ []) ⊎ ((is_shaken f.connection.phase ≡ true) × AllByRecursion (IsFlowing x.config) (said_all (heartbeats x f last unsent)))
beats x f last (b ∷ unsent) = inl refl
beats x f last [] = by_test (is_established f.connection.phase && is_none f.connection.serving && is_due x last) refl
  where
    by_test : (b : Bool) → (is_established f.connection.phase && is_none f.connection.serving && is_due x last) ≡ b
        → (beaten b x f ≡ []) ⊎ ((is_shaken f.connection.phase ≡ true) × AllByRecursion (IsFlowing x.config) (said_all (beaten b x f)))
    by_test true e = inr (is_done f.connection.phase (established_first (is_established f.connection.phase) (is_none f.connection.serving) (is_due x last) e), heartbeat_flows x f)
      where
        established_first : (a b c : Bool) → (a && b && c) ≡ true → a ≡ true
        established_first true b c e = refl
        established_first false b c e = absurd (true≢false (sym e))
    by_test false e = inl refl

breaks_free : (s : State) (v : Option Violation) (now : ℕ) → AllByRecursion (IsFree s.config) (said_all (said_breaking s v now))
breaks_free s None now = tt
breaks_free s (Some v) now = (refl, tt)

-- the end after the tick, where this was written before
record Broken (s t : State) : Type 0 where
  config : t.config ≡ s.config
  facts : t.facts ≡ s.facts
  ends : EndsBy IsOfTime t

broken : (s : State) (v : Option Violation) (now : ℕ) → s.ending ≡ None → ((w : Violation) → v ≡ Some w → IsOfTime w) → Broken s (broken_by s v now)
broken s None now going h = record { config = refl; facts = refl; ends = λ w e. absurd (cc (going, e)) }
broken s (Some v) now going h = record { config = refl; facts = refl; ends = λ w e. ended_by IsOfTime (finishes_exchanged (around s 0 now) s.facts) v w e (h v refl) }

none_is : {A : Type 0} (o : Option A) → is_some o ≡ false → o ≡ None
none_is None e = refl
none_is (Some a) e = absurd (true≢false e)

-- where a connection has not ended, nothing is said of one that has
pub not_over : {A : Type 0} (o : Option A) {B : Type 0} → is_some o ≡ false → IsSome o → B
not_over None e h = absurd (true≢false (sym h))
not_over (Some a) e h = absurd (true≢false e)

ticking : (s : State) (now : ℕ) → Does s (step s (tick now)) (writes s (tick now))
ticking s now = by_end (is_some s.ending) refl
  where
    x : Around
    x = around s 0 now

    beat : State
    beat = wrote (record s { moment = now }) (bytes_of (heartbeats x s.facts s.last_sent s.unsent)) now

    v : Option Violation
    v = lateness x s.facts s.start s.last_received

    going : is_some s.ending ≡ false → Does s (broken_by beat v now) (said_all (heartbeats x s.facts s.last_sent s.unsent ++ said_breaking s v now))
    going e = by_beat (beats x s.facts s.last_sent s.unsent)
      where
        b : Broken beat (broken_by beat v now)
        b = broken beat v now (none_is s.ending e) (late x s.facts s.start s.last_received)

        by_beat : (heartbeats x s.facts s.last_sent s.unsent ≡ []) ⊎ ((is_shaken s.facts.connection.phase ≡ true) × AllByRecursion (IsFlowing s.config) (said_all (heartbeats x s.facts s.last_sent s.unsent)))
            → Does s (broken_by beat v now) (said_all (heartbeats x s.facts s.last_sent s.unsent ++ said_breaking s v now))
        by_beat (inl none) = does_free s (broken_by beat v now) _ b.config (ap (λ f. f.connection) b.facts)
            (subst (λ (ms : List Message). AllByRecursion (IsFree s.config) (said_all (ms ++ said_breaking s v now))) (sym none) (breaks_free s v now))
            (not_over s.ending e) (λ w k. inr (b.ends w k))
        by_beat (inr (k, a)) = does_flowing s (broken_by beat v now) _ k b.config (ap (λ f. is_shaken f.connection.phase) b.facts ∙ k) (λ _. ap (λ f. f.connection.phase) b.facts)
            (λ _ h. ap (λ f. f.connection.serving) b.facts ∙ h)
            (said_more s.config IsFlowing (heartbeats x s.facts s.last_sent s.unsent) (said_breaking s v now) a (all_free_flow s.config (said_all (said_breaking s v now)) (breaks_free s v now)))
            (not_over s.ending e) (λ w k. inr (b.ends w k))

    by_end : (b : Bool) → is_some s.ending ≡ b
        → Does s (if b then record s { moment = now } else broken_by beat v now) (if b then [] else said_all (heartbeats x s.facts s.last_sent s.unsent ++ said_breaking s v now))
    by_end true e = does_free s (record s { moment = now }) [] refl refl tt (λ h. h) (λ v e. inl e)
    by_end false e = going e

applied_free : (cfg : EndConfig) (runs : List Range) → AllByRecursion (IsFree cfg) (said_all (applied_runs runs))
applied_free cfg [] = tt
applied_free cfg (r ∷ runs) = (tt, applied_free cfg runs)

-- the end of a turn
abbrev pub turned : Bool → Around → Facts → List Range → Made
turned b x f runs = if b then record { written = applied_runs runs ++ terminate x.config.session 1 [] ∷ []; next = in_phase f phases.Closing } else record { written = applied_runs runs; next = f }

turning : (s : State) (now : ℕ) → Does s (step s (turn_done now)) (writes s (turn_done now))
turning s now = by_end (is_some s.ending) refl
  where
    x : Around
    x = around s 0 now

    behind : Made → State
    behind m = record (made (record s { moment = now }) m now) { untold = [] }

    by_close : (b : Bool) → closes x s.facts ≡ b → Does s (behind (turned b x s.facts (runs_of s.untold))) (said_all (turned b x s.facts (runs_of s.untold)).written)
    by_close true e =
        let four = fourth (is_initiator s.config.role) (is_established s.facts.connection.phase) (finishes_exchanged x s.facts) (is_none s.facts.connection.serving) e in
        does_flowing s (behind (turned true x s.facts (runs_of s.untold))) _ (is_done s.facts.connection.phase four.1) refl refl (λ n. absurd (true≢false (sym four.0 ∙ n))) (λ _ h. h)
        (said_more s.config IsFlowing (applied_runs (runs_of s.untold)) (terminate s.config.session 1 [] ∷ []) (all_free_flow s.config (said_all (applied_runs (runs_of s.untold))) (applied_free s.config (runs_of s.untold))) (refl, tt))
        (λ h. h) (λ v e. inl e)
      where
        fourth : (a b c d : Bool) → (a && b && c && d) ≡ true → (a ≡ true) × (b ≡ true)
        fourth true true c d e = (refl, refl)
        fourth true false c d e = absurd (true≢false (sym e))
        fourth false b c d e = absurd (true≢false (sym e))
    by_close false e = does_free s (behind (turned false x s.facts (runs_of s.untold))) _ refl refl (applied_free s.config (runs_of s.untold)) (λ h. h) (λ v e. inl e)

    by_end : (b : Bool) → is_some s.ending ≡ b
        → Does s (if b then record s { moment = now } else behind (turn_ended x s.facts (runs_of s.untold))) (if b then [] else said_all (turn_ended x s.facts (runs_of s.untold)).written)
    by_end true e = does_free s (record s { moment = now }) [] refl refl tt (λ h. h) (λ v e. inl e)
    by_end false e = by_close (closes x s.facts) refl

-- the outbox's finish
abbrev pub told : Bool → Around → Facts → ℕ → Made
told b x f last =
    if b then record { written = finished_sending x.config.session (if is_sequenced x.config.own_flow then Some last else None) ∷ []; next = own_finishing (outbox_finished f last) own.Told }
    else record { written = []; next = outbox_finished f last }

last_given : (b : Bool) (n : ℕ) → b ≡ true → is_some (if b then Some n else None) ≡ true
last_given true n e = refl
last_given false n e = absurd (true≢false (sym e))

finishing : (s : State) (last now : ℕ) → Does s (step s (closed last now)) (writes s (closed last now))
finishing s last now = by_end (is_some s.ending) refl
  where
    x : Around
    x = around s 0 now

    behind : Made → State
    behind m = made (record s { moment = now }) m now

    by_test : (b : Bool) → tells_finish x s.facts last ≡ b → Does s (behind (told b x s.facts last)) (said_all (told b x s.facts last).written)
    by_test true e =
        let two = first_two (is_absent s.config.own_flow) (is_established s.facts.connection.phase) (is_open s.facts.connection.own_finish) (s.facts.recorded.sent == last) (is_none s.facts.connection.serving) e in
        does_flowing s (behind (told true x s.facts last)) _ (is_done s.facts.connection.phase two.1) refl (is_done s.facts.connection.phase two.1) (λ _. refl) (λ _ h. h)
        ((refl, two.0, λ n. last_given (is_sequenced s.config.own_flow) last n), tt) (λ h. h) (λ v e. inl e)
      where
        first_two : (a b c d e : Bool) → (not a && b && c && d && e) ≡ true → (a ≡ false) × (b ≡ true)
        first_two false true c d e t = (refl, refl)
        first_two false false c d e t = absurd (true≢false (sym t))
        first_two true b c d e t = absurd (true≢false (sym t))
    by_test false e = does_free s (behind (told false x s.facts last)) [] refl refl tt (λ h. h) (λ v e. inl e)

    by_end : (b : Bool) → is_some s.ending ≡ b
        → Does s (if b then record s { moment = now; facts = outbox_finished s.facts last } else behind (finish_told x s.facts last)) (if b then [] else said_all (finish_told x s.facts last).written)
    by_end true e = does_free s (record s { moment = now; facts = outbox_finished s.facts last }) [] refl refl tt (λ h. h) (λ v e. inl e)
    by_end false e = by_test (tells_finish x s.facts last) refl

cut : (s : State) → Does s (step s link_end) []
cut s = by_end (is_some s.ending) refl
  where
    ended : State
    ended = record s { ending = Some (link_ending (around s 0 s.moment) s.facts); pending = None; held = [] }

    no_violation : (b : Bool) (v : Violation) → Some (if b then endings.Finished else endings.LinkEnded) ≡ Some (endings.Violation v) → IsOfTime v
    no_violation true v e = absurd cc
    no_violation false v e = absurd cc

    by_end : (b : Bool) → is_some s.ending ≡ b → Does s (if b then s else ended) []
    by_end true e = does_free s s [] refl refl tt (λ h. h) (λ v e. inl e)
    by_end false e = does_free s ended [] refl refl tt (λ _. refl) (λ v e. inr (no_violation (finishes_exchanged (around s 0 s.moment) s.facts) v e))

entries_flow : (cfg : EndConfig) (payloads : List (List ℕ)) → is_absent cfg.own_flow ≡ false → AllByRecursion (IsFlowing cfg) (entries payloads)
entries_flow cfg [] e = tt
entries_flow cfg (p ∷ payloads) e = (e, entries_flow cfg payloads e)

present : (flow : Flow) → (is_recoverable flow ≡ false → ⊥) → is_absent flow ≡ false
present flows.Recoverable h = refl
present flows.Idempotent h = refl
present flows.Unsequenced h = refl
present flows.None h = absurd (h refl)

closed_flows : (cfg : EndConfig) (f : Facts) (r : Option Range) → AllByRecursion (IsFlowing cfg) (range_closed f r)
closed_flows cfg f None = (tt, tt)
closed_flows cfg f (Some r) = tt

-- messages are sent again where a range is served, and so on a recoverable flow
resending : (s : State) (r : Option Range) (range : Range) (payloads : List (List ℕ)) (now : ℕ) → s.facts.connection.serving ≡ r → r ≡ Some range
    → (is_recoverable s.config.own_flow ≡ false → s.facts.connection.serving ≡ None) → Does s (served_again s r payloads now) (written_again s.facts r payloads)
resending s None range payloads now same e serves = absurd cc
resending s (Some r) range payloads now same e serves = record {
  config = refl;
  before = λ _ q. absurd (cc (q.free, same));
  done = λ k. (
    k,
    all_append (IsFlowing s.config) (entries payloads) (range_closed s.facts (rest_of r (length payloads)))
        (entries_flow s.config payloads (present s.config.own_flow (λ n. cc (serves n, same)))) (closed_flows s.config s.facts (rest_of r (length payloads))),
  );
  accepts = λ _. refl;
  serves = λ n h. absurd (cc (h, same));
  over = λ h. h;
  ends = λ v e. inl e;
}

-- a held message is applied, which is so once the handshake is done alone
applying : (s : State) → (is_shaken s.facts.connection.phase ≡ false → s.held ≡ []) → IsSome (front_of s) → Does s (step s held_done) []
applying s unheld some =
    let k = front_there s.facts.recorded.inbox_next s.held some in
    subst (λ (m : Option Numbered). Does s (held_applied s m) []) (sym k.front_is) (record {
      config = refl;
      before = λ n _. absurd (cc (k.held_is, unheld n));
      done = λ t. (t, tt);
      accepts = λ _. refl;
      serves = λ _ none. none;
      over = λ over. over;
      ends = λ v e. inl e;
    })

-- each call that may come, where nothing is held before the handshake is done
does_call : (h : List Entry) (s : State) (call : Call) → IsOther h call → MayStand h s call → (is_recoverable s.config.own_flow ≡ false → s.facts.connection.serving ≡ None)
    → (is_shaken s.facts.connection.phase ≡ false → s.held ≡ []) → Does s (step s call) (writes s call)
does_call h s (begin now) other may serves unheld = absurd other
does_call h s (frame incoming at now) other may serves unheld = absurd other
does_call h s (bad_frame at now) other may serves unheld = absurd other
does_call h s (did now) other may serves unheld = absurd other
does_call h s (tick now) other may serves unheld = ticking s now
does_call h s (turn_done now) other may serves unheld = turning s now
does_call h s (closed last now) other may serves unheld = finishing s last now
does_call h s link_end other may serves unheld = cut s
does_call h s (live payloads now) other may serves unheld =
    does_flowing s (step s (live payloads now)) (entries payloads) (is_done s.facts.connection.phase may.comes.established) refl (is_done s.facts.connection.phase may.comes.established) (λ _. refl) (λ _ n. n)
    (entries_flow s.config payloads may.comes.flow) (λ k. k) (λ v e. inl e)
does_call h s (again payloads now) other may serves unheld = resending s s.facts.connection.serving may.comes.range payloads now refl may.comes.serves serves
does_call h s (taken count) other may serves unheld = does_free s (step s (taken count)) [] refl refl tt (λ k. k) (λ v e. inl e)
does_call h s reserve other may serves unheld = does_free s (step s reserve) [] refl refl tt (λ k. k) (λ v e. inl e)
does_call h s held_done other may serves unheld = applying s unheld may.may_call.1

pub does_as : (h : List Entry) (s : State) (call : Call) → IsOther h call → MayStand h s call → (is_recoverable s.config.own_flow ≡ false → s.facts.connection.serving ≡ None)
    → (is_shaken s.facts.connection.phase ≡ false → s.held ≡ []) → Does s (run s (call ∷ [])) (written s (call ∷ []))
does_as h s call other may serves unheld = subst (λ (out : List Piece). Does s (step s call) out) (sym (append-nil (writes s call))) (does_call h s call other may serves unheld)
