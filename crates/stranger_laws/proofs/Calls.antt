-- Where the session is not open, each call leaves it so.
use Rattle.std.proofs.Common.{◌≡◌, ℕ, ◌-◌, Bool, true, false, if◌then◌else◌, ◌&&◌, not, List, [], ◌∷◌, ◌++◌, Option, Some, None, IfSome, refl, sym, subst, ◌∙◌, true≢false}
use Rattle.std.specs.Cmp.{first_so, second_so}
use Rattle.std.specs.Prelude.{is_some, is_none}
use Rattle.session_model.specs.Journal.{Entry}
use Rattle.session_model.specs.Inbox.{Numbered}
use Rattle.session_model.proofs.Lists.{all_first, all_second}
use Rattle.fixp_msgs.specs.declared.numbering.Range.{Range}
use Rattle.fixp_msgs.specs.Message.{finished_sending, terminate}
use Rattle.flow_idem.specs.Runs.{runs_of}
use Rattle.fixp_shake.specs.declared.config.EndConfig.{EndConfig}
use Rattle.fixp_shake.specs.declared.phase.Phase.TheVariants as phases
use Rattle.fixp_shake.specs.declared.violation.Violation.{Violation}
use Rattle.fixp_shake.specs.Flows.{is_sequenced}
use Rattle.fixp_shake.specs.Phases.{is_idle, is_established, is_shaken}
use Rattle.fixp_replies.specs.declared.facts.EndState.{EndState}
use Rattle.fixp_replies.specs.declared.facts.Facts.{Facts}
use Rattle.fixp_replies.specs.declared.facts.OwnFinish.TheVariants as own
use Rattle.fixp_replies.specs.Serving.{own_finishing}
use Rattle.fixp_replies.specs.Acts.{is_record}
use Rattle.fixp_replies.specs.Events.{Made, begun, applied_runs, heartbeats, lateness, closes, turn_ended, outbox_finished, tells_finish, finish_told, link_ending}
use Rattle.fixp_replies.specs.Facts.{Around, is_initiator, connecting, in_phase, finishes_exchanged}
use Rattle.fixp_replies.specs.Incoming.{Incoming, payload_in}
use Rattle.fixp_replies.specs.Outcomes.{Outcome, opening_negotiate, opening_establish}
use Rattle.fixp_replies.specs.Replies.{reply_of}
use Rattle.fixp_machine.specs.Machine.{State, Call, begin, frame, bad_frame, did, tick, turn_done, closed, link_end, live, again, taken, reserve, held_done, held_with, held_applied, front_of, around, bytes_of, wrote, made, reply_applied, broken_by, done_pending, served_again, connected, step}
use Rattle.connection_laws.specs.Courses.{Course, next_course, course_after}
use Rattle.connection_laws.specs.Standing.{MayStand, AllMayStand}
use Rattle.connection_laws.proofs.Continuing.{state_is_run, calls_go_on}
use Rattle.turn_laws.specs.Came.{came_by, came}
use Rattle.stranger_laws.specs.Opening.{opens, NoneIs}
use Rattle.stranger_laws.specs.Replied.{is_outside, StaysOutside}
use Rattle.stranger_laws.proofs.Rows.{unestablished, outside_stays}

-- the session is not open in this state, nor is it once an act is done
pub record Outside (s : State) : Type 0 where
  pub facts : is_outside s.config s.facts ≡ true
  pub pending : IfSome s.pending (λ (o : Outcome). is_outside s.config o.next ≡ true)

-- an initiator does not close a connection that is not established
pub not_closing : (x : Around) (f : Facts) → is_established f.connection.phase ≡ false → closes x f ≡ false
not_closing x f e = by_test (closes x f) refl
  where
    by_test : (b : Bool) → closes x f ≡ b → b ≡ false
    by_test true c =
        let exchanged = first_so (is_initiator x.config.role && is_established f.connection.phase && finishes_exchanged x f) (is_none f.connection.serving) c in
        let established = first_so (is_initiator x.config.role && is_established f.connection.phase) (finishes_exchanged x f) exchanged in
        absurd (true≢false (sym (second_so (is_initiator x.config.role) (is_established f.connection.phase) established) ∙ e))
    by_test false c = refl

-- what the beginning of a connection makes, by the role and by whether the session was negotiated
abbrev begun_by : Around → EndState → (initiates negotiated : Bool) → Made
begun_by x r initiates negotiated =
    if not initiates then record { written = []; next = connecting r phases.Idle }
    else if negotiated then record { written = opening_establish x (connecting r phases.Establishing) ∷ []; next = connecting r phases.Establishing }
    else record { written = opening_negotiate x ∷ []; next = connecting r phases.Negotiating }

begun_outside : (x : Around) (r : EndState) (b n : Bool) → (if b then not (is_shaken (begun_by x r b n).next.connection.phase) else is_idle (begun_by x r b n).next.connection.phase) ≡ true
begun_outside x r true true = refl
begun_outside x r true false = refl
begun_outside x r false n = refl

begun_recorded : (x : Around) (r : EndState) (b n : Bool) → (begun_by x r b n).next.recorded ≡ r
begun_recorded x r true true = refl
begun_recorded x r true false = refl
begun_recorded x r false n = refl

-- a connection begins so, and what is recorded stays
pub begins_outside : (s : State) (now : ℕ) → Outside (connected s now)
begins_outside s now = record { facts = begun_outside x s.facts.recorded (is_initiator s.config.role) s.facts.recorded.negotiated; pending = tt }
  where
    x : Around
    x = around (record s { begun = true; moment = now; ending = None; unsent = []; pending = None; start = now; last_sent = now; last_received = now; untold = []; held = [] }) 0 now

pub begins_recorded : (s : State) (now : ℕ) → (connected s now).facts.recorded ≡ s.facts.recorded
begins_recorded s now = begun_recorded x s.facts.recorded (is_initiator s.config.role) s.facts.recorded.negotiated
  where
    x : Around
    x = around (record s { begun = true; moment = now; ending = None; unsent = []; pending = None; start = now; last_sent = now; last_received = now; untold = []; held = [] }) 0 now

-- so is a connection behind what was made
abbrev LeavesOutside : EndConfig → Made → Type 0
LeavesOutside cfg m = is_outside cfg m.next ≡ true

-- each call leaves it so, where no frame that comes opens the session
pub outside_step : (h : List Entry) (s : State) (call : Call) → Outside s → MayStand h s call → NoneIs (opens s.config) (came_by call) → Outside (step s call)
outside_step h s (begin now) d may none = absurd may.comes
outside_step h s (frame incoming at now) d may none = by_record (is_record o.act)
  where
    o : Outcome
    o = reply_of (around s at now) s.facts incoming

    k : StaysOutside s.config incoming o
    k = outside_stays (around s at now) s.facts incoming d.facts none.0

    by_record : (b : Bool) → Outside (
        if b then record s { moment = now; last_received = now; room = s.room - 1; pending = Some o }
        else reply_applied (record s { moment = now; last_received = now; room = s.room - 1; held = held_with o.holds (payload_in incoming) s.held }) o now
        )
    by_record true = record { facts = d.facts; pending = k.outside }
    by_record false = record { facts = k.outside; pending = tt }
outside_step h s (bad_frame at now) d may none = record { facts = d.facts; pending = tt }
outside_step h s (did now) d may none = by_pending s.pending d.pending
  where
    by_pending : (p : Option Outcome) → IfSome p (λ (o : Outcome). is_outside s.config o.next ≡ true) → Outside (done_pending s p now)
    by_pending None k = d
    by_pending (Some o) k = record { facts = k; pending = tt }
outside_step h s (tick now) d may none = by_test (is_some s.ending) (lateness (around s 0 now) s.facts s.start s.last_received)
  where
    beat : State
    beat = wrote (record s { moment = now }) (bytes_of (heartbeats (around s 0 now) s.facts s.last_sent s.unsent)) now

    by_test : (b : Bool) (v : Option Violation) → Outside (if b then record s { moment = now } else broken_by beat v now)
    by_test true v = record { facts = d.facts; pending = d.pending }
    by_test false None = record { facts = d.facts; pending = d.pending }
    by_test false (Some v) = record { facts = d.facts; pending = tt }
outside_step h s (turn_done now) d may none = by_test (is_some s.ending)
  where
    x : Around
    x = around s 0 now

    by_closing : (b : Bool) → b ≡ false → LeavesOutside s.config (
        if b then record { written = applied_runs (runs_of s.untold) ++ terminate x.config.session 1 [] ∷ []; next = in_phase s.facts phases.Closing }
        else record { written = applied_runs (runs_of s.untold); next = s.facts }
        )
    by_closing true e = absurd (true≢false e)
    by_closing false e = d.facts

    by_test : (b : Bool) → Outside (if b then record s { moment = now } else record (made (record s { moment = now }) (turn_ended x s.facts (runs_of s.untold)) now) { untold = [] })
    by_test true = record { facts = d.facts; pending = d.pending }
    by_test false = record { facts = by_closing (closes x s.facts) (not_closing x s.facts (unestablished s.config s.facts d.facts)); pending = d.pending }
outside_step h s (closed last now) d may none = by_test (is_some s.ending)
  where
    x : Around
    x = around s 0 now

    by_telling : (b : Bool) → LeavesOutside s.config (
        if b then record { written = finished_sending x.config.session (if is_sequenced x.config.own_flow then Some last else None) ∷ []; next = own_finishing (outbox_finished s.facts last) own.Told }
        else record { written = []; next = outbox_finished s.facts last }
        )
    by_telling true = d.facts
    by_telling false = d.facts

    by_test : (b : Bool) → Outside (if b then record s { moment = now; facts = outbox_finished s.facts last } else made (record s { moment = now }) (finish_told x s.facts last) now)
    by_test true = record { facts = d.facts; pending = d.pending }
    by_test false = record { facts = by_telling (tells_finish x s.facts last); pending = d.pending }
outside_step h s link_end d may none = by_test (is_some s.ending)
  where
    by_test : (b : Bool) → Outside (if b then s else record s { ending = Some (link_ending (around s 0 s.moment) s.facts); pending = None; held = [] })
    by_test true = d
    by_test false = record { facts = d.facts; pending = tt }
outside_step h s (live ps now) d may none = record { facts = d.facts; pending = d.pending }
outside_step h s (again ps now) d may none = by_range s.facts.connection.serving
  where
    by_range : (r : Option Range) → Outside (served_again s r ps now)
    by_range None = d
    by_range (Some r) = record { facts = d.facts; pending = d.pending }
outside_step h s (taken count) d may none = record { facts = d.facts; pending = d.pending }
outside_step h s reserve d may none = record { facts = d.facts; pending = d.pending }
outside_step h s held_done d may none = by_front (front_of s)
  where
    by_front : (m : Option Numbered) → Outside (held_applied s m)
    by_front None = d
    by_front (Some m) = record { facts = d.facts; pending = d.pending }

-- so one call leaves a connection
pub stays_outside : (h : List Entry) (c : Course) (call : Call) → Outside c.state → MayStand h c.state call → NoneIs (opens c.state.config) (came_by call) → Outside (next_course c call).state
stays_outside h c call d may none = subst Outside (sym (state_is_run c (call ∷ []))) (outside_step h c.state call d may none)

pub same_config : (h : List Entry) (c : Course) (call : Call) → MayStand h c.state call → (next_course c call).state.config ≡ c.state.config
same_config h c call may = (calls_go_on h c (call ∷ []) (may, tt)).config

-- the messages that came by one call, and by those behind it
pub came_first : (is : Incoming → Bool) (call : Call) (later : List Call) → NoneIs is (came (call ∷ later)) → NoneIs is (came_by call)
came_first is call later none = all_first (λ (i : Incoming). is i ≡ false) (came_by call) (came later) none

pub came_later : (is : Incoming → Bool) (call : Call) (later : List Call) → NoneIs is (came (call ∷ later)) → NoneIs is (came later)
came_later is call later none = all_second (λ (i : Incoming). is i ≡ false) (came_by call) (came later) none

-- and so do any
pub outside_after : (h : List Entry) (c : Course) (calls : List Call) → Outside c.state → AllMayStand h c calls → NoneIs (opens c.state.config) (came calls) → Outside (course_after c calls).state
outside_after h c [] d all none = d
outside_after h c (call ∷ later) d all none =
    let cfg : EndConfig = c.state.config in
    outside_after h (next_course c call) later (stays_outside h c call d all.0 (came_first (opens cfg) call later none)) all.1
    (subst (λ (k : EndConfig). NoneIs (opens k) (came later)) (sym (same_config h c call all.0)) (came_later (opens cfg) call later none))
