-- Nothing is accepted of a stranger, nothing is sent to it, and where it gives no keys, nothing is recorded.
use Rattle.std.proofs.Common.{◌≡◌, ℕ, ◌-◌, Bool, true, false, if◌then◌else◌, List, [], ◌∷◌, ◌++◌, Option, Some, None, refl, sym, ap, subst, ◌∙◌, append-nil, arith, true≢false, Contains}
use Rattle.std.specs.Prelude.{is_some, IsSome}
use Rattle.std.specs.List.{AllByRecursion}
use Rattle.session_model.specs.Journal.{Entry}
use Rattle.session_model.specs.Inbox.{InboxRecord, Numbered}
use Rattle.session_model.specs.Events.{Event, announce, message, handshake, messages, numbered}
use Rattle.session_model.proofs.Lists.{all_weaker}
use Rattle.fixp_msgs.specs.declared.numbering.Range.{Range}
use Rattle.fixp_msgs.specs.Message.{finished_sending, terminate}
use Rattle.flow_idem.specs.Runs.{runs_of}
use Rattle.flow_window.specs.Window.{front}
use Rattle.fixp_shake.specs.declared.config.EndConfig.{EndConfig}
use Rattle.fixp_shake.specs.declared.phase.Phase.TheVariants as phases
use Rattle.fixp_shake.specs.declared.violation.Violation.{Violation}
use Rattle.fixp_shake.specs.Flows.{is_sequenced}
use Rattle.fixp_shake.specs.Phases.{is_shaken}
use Rattle.fixp_replies.specs.declared.act.Act.{Act}
use Rattle.fixp_replies.specs.declared.act.Act.TheVariants as acts
use Rattle.fixp_replies.specs.declared.facts.EndState.{EndState}
use Rattle.fixp_replies.specs.declared.facts.OwnFinish.TheVariants as own
use Rattle.fixp_replies.specs.Serving.{own_finishing}
use Rattle.fixp_replies.specs.Acts.{is_record}
use Rattle.fixp_replies.specs.Events.{Made, applied_runs, heartbeats, lateness, closes, turn_ended, outbox_finished, tells_finish, finish_told, link_ending}
use Rattle.fixp_replies.specs.Facts.{Around, in_phase}
use Rattle.fixp_replies.specs.Incoming.{Incoming, payload_in}
use Rattle.fixp_replies.specs.Outcomes.{Outcome}
use Rattle.fixp_replies.specs.Replies.{reply_of}
use Rattle.fixp_machine.specs.Machine.{State, Call, begin, frame, bad_frame, did, tick, turn_done, closed, link_end, live, again, taken, reserve, held_done, held_with, front_of, around, bytes_of, wrote, made, reply_applied, broken_by, served_again, step}
use Rattle.fixp_machine.specs.Accepting.{records_of}
use Rattle.connection_laws.specs.Writing.{events_written}
use Rattle.connection_laws.specs.Courses.{Course, beginning, counting, called, next_course, course_after}
use Rattle.connection_laws.specs.Standing.{Stands, MayStand, AllMayStand, number_told}
use Rattle.connection_laws.proofs.Continuing.{state_is_run}
use Rattle.connection_laws.proofs.Going.{call_keeps, calls_keep, connection_begins}
use Rattle.turn_laws.specs.Came.{came_by, came}
use Rattle.turn_laws.specs.Legs.{calls_on, given_on}
use Rattle.turn_laws.proofs.Given.{given_came}
use Rattle.turn_laws.proofs.Running.{leg_stands}
use Rattle.stranger_laws.specs.Opening.{opens, gives_keys, NoneIs}
use Rattle.stranger_laws.specs.Replied.{RecordsNothing}
use Rattle.stranger_laws.specs.Strangers.{CarriesNothing, StrangerIsDeaf, IsAsBefore, StrangerLeaves, StrangeTurns, KeylessTurns}
use Rattle.stranger_laws.proofs.Rows.{unestablished, unshaken, keyless, keyless_records_nothing}
use Rattle.stranger_laws.proofs.Given.{none_came}
use Rattle.stranger_laws.proofs.Calls.{Outside, begins_outside, begins_recorded, stays_outside, same_config, came_first, came_later, outside_after}

-- ---- no message goes over it

-- announcements carry no message
no_message : (n : Option ℕ) (es : List Event) → AllByRecursion (λ (e : Event). e ≡ announce handshake n) es → messages es ≡ []
no_message n [] all = refl
no_message n (announce who k ∷ es) all = no_message n es all.1
no_message n (message payload ∷ es) all = let e = all.0 in absurd (cc e)

nothing_carried : (h : List Entry) (c : Course) → Stands h c → Outside c.state → CarriesNothing c
nothing_carried h c st d =
    let e : is_shaken c.state.facts.connection.phase ≡ false = unshaken c.state.config c.state.facts d.facts in
    record { accepted = st.unheard e; written = no_message (number_told c.state.config.own_flow c.state.facts) (events_written c.output) (st.own.opening e) }

pub stranger_is_deaf : StrangerIsDeaf
stranger_is_deaf h s inbox now calls may none =
    nothing_carried h (course_after (beginning s inbox now) calls) (calls_keep h (beginning s inbox now) calls (connection_begins h s inbox now may.awaits may.enough) may.each)
    (outside_after h (beginning s inbox now) calls (begins_outside s now) may.each none)

-- ---- nothing is recorded

none_records : (act : Act) (i : Incoming) → is_record act ≡ false → records_of act i ≡ []
none_records acts.Nothing i e = refl
none_records (acts.Apply n) i e = absurd (true≢false e)
none_records (acts.Skip from count) i e = absurd (true≢false e)
none_records acts.Negotiated i e = absurd (true≢false e)
none_records (acts.PeerFinished last) i e = absurd (true≢false e)
none_records (acts.Told from count) i e = refl
none_records acts.Ended i e = refl

-- what stays is as before
as_before : (before after : EndState) → after ≡ before → IsAsBefore before after
as_before before after e = e ∙ ap (λ (n : Option ℕ). record before { finish = n }) (sym (ap (λ (r : EndState). r.finish) e))

as_before_trans : (first second third : EndState) → IsAsBefore first second → IsAsBefore second third → IsAsBefore first third
as_before_trans first second third e f = f ∙ ap (λ (r : EndState). record r { finish = third.finish }) e

abbrev LeavesRecorded : EndState → Made → Type 0
LeavesRecorded before m = IsAsBefore before m.next.recorded

-- nothing waits to be done, and what is recorded stays
record Spared (before : EndState) (s : State) : Type 0 where
  done : s.pending ≡ None
  recorded : IsAsBefore before s.facts.recorded

not_pending : (s : State) → s.pending ≡ None → IsSome s.pending → ⊥
not_pending s done some = true≢false (sym (subst (λ k. IsSome k) done some))

none_in_front : (s : State) → s.held ≡ [] → IsSome (front_of s) → ⊥
none_in_front s none some = true≢false (sym (subst (λ (ms : List Numbered). IsSome (front s.facts.recorded.inbox_next ms)) none some))

spared_step : (h : List Entry) (s : State) (call : Call) → Outside s → s.pending ≡ None → s.held ≡ [] → MayStand h s call → NoneIs (gives_keys s.config) (came_by call)
    → Spared s.facts.recorded (step s call)
spared_step h s (begin now) d done held may none = absurd may.comes
spared_step h s (frame incoming at now) d done held may none = by_record (is_record o.act) k.unrecorded
  where
    o : Outcome
    o = reply_of (around s at now) s.facts incoming

    k : RecordsNothing s.facts o
    k = keyless_records_nothing (around s at now) s.facts incoming d.facts none.0

    by_record : (b : Bool) → b ≡ false → Spared s.facts.recorded (
        if b then record s { moment = now; last_received = now; room = s.room - 1; pending = Some o }
        else reply_applied (record s { moment = now; last_received = now; room = s.room - 1; held = held_with o.holds (payload_in incoming) s.held }) o now
        )
    by_record true e = absurd (true≢false e)
    by_record false e = record { done = refl; recorded = as_before s.facts.recorded o.next.recorded k.recorded }
spared_step h s (bad_frame at now) d done held may none = record { done = refl; recorded = refl }
spared_step h s (did now) d done held may none = absurd (not_pending s done may.comes)
spared_step h s (tick now) d done held may none = by_test (is_some s.ending) (lateness (around s 0 now) s.facts s.start s.last_received)
  where
    beat : State
    beat = wrote (record s { moment = now }) (bytes_of (heartbeats (around s 0 now) s.facts s.last_sent s.unsent)) now

    by_test : (b : Bool) (v : Option Violation) → Spared s.facts.recorded (if b then record s { moment = now } else broken_by beat v now)
    by_test true v = record { done = done; recorded = refl }
    by_test false None = record { done = done; recorded = refl }
    by_test false (Some v) = record { done = refl; recorded = refl }
spared_step h s (turn_done now) d done held may none = by_test (is_some s.ending)
  where
    x : Around
    x = around s 0 now

    by_closing : (b : Bool) → LeavesRecorded s.facts.recorded (
        if b then record { written = applied_runs (runs_of s.untold) ++ terminate x.config.session 1 [] ∷ []; next = in_phase s.facts phases.Closing }
        else record { written = applied_runs (runs_of s.untold); next = s.facts }
        )
    by_closing true = refl
    by_closing false = refl

    by_test : (b : Bool) → Spared s.facts.recorded (if b then record s { moment = now } else record (made (record s { moment = now }) (turn_ended x s.facts (runs_of s.untold)) now) { untold = [] })
    by_test true = record { done = done; recorded = refl }
    by_test false = record { done = done; recorded = by_closing (closes x s.facts) }
spared_step h s (closed last now) d done held may none = by_test (is_some s.ending)
  where
    x : Around
    x = around s 0 now

    by_telling : (b : Bool) → LeavesRecorded s.facts.recorded (
        if b then record { written = finished_sending x.config.session (if is_sequenced x.config.own_flow then Some last else None) ∷ []; next = own_finishing (outbox_finished s.facts last) own.Told }
        else record { written = []; next = outbox_finished s.facts last }
        )
    by_telling true = refl
    by_telling false = refl

    by_test : (b : Bool) → Spared s.facts.recorded (if b then record s { moment = now; facts = outbox_finished s.facts last } else made (record s { moment = now }) (finish_told x s.facts last) now)
    by_test true = record { done = done; recorded = refl }
    by_test false = record { done = done; recorded = by_telling (tells_finish x s.facts last) }
spared_step h s link_end d done held may none = by_test (is_some s.ending)
  where
    by_test : (b : Bool) → Spared s.facts.recorded (if b then s else record s { ending = Some (link_ending (around s 0 s.moment) s.facts); pending = None; held = [] })
    by_test true = record { done = done; recorded = refl }
    by_test false = record { done = refl; recorded = refl }
spared_step h s (live ps now) d done held may none = absurd (true≢false (sym may.comes.established ∙ unestablished s.config s.facts d.facts))
spared_step h s (again ps now) d done held may none = by_range s.facts.connection.serving
  where
    by_range : (r : Option Range) → Spared s.facts.recorded (served_again s r ps now)
    by_range None = record { done = done; recorded = refl }
    by_range (Some r) = record { done = done; recorded = refl }
spared_step h s (taken count) d done held may none = record { done = done; recorded = refl }
spared_step h s reserve d done held may none = record { done = done; recorded = refl }
spared_step h s held_done d done held may none = absurd (none_in_front s held may.may_call.1)

-- and nothing is added at it
none_added : (h : List Entry) (c : Course) (call : Call) → Outside c.state → c.state.pending ≡ None → c.state.held ≡ [] → MayStand h c.state call → NoneIs (gives_keys c.state.config) (came_by call)
    → (next_course c call).added ≡ c.added
none_added h c (begin now) d done held may none = absurd may.comes
none_added h c (frame incoming at now) d done held may none = by_record (is_record o.act) k.unrecorded
  where
    o : Outcome
    o = reply_of (around c.state at now) c.state.facts incoming

    k : RecordsNothing c.state.facts o
    k = keyless_records_nothing (around c.state at now) c.state.facts incoming d.facts none.0

    there : Course
    there = called c (frame incoming at now)

    by_record : (b : Bool) → b ≡ false → (if b then record there { waiting = Some (record { incoming = incoming; at = at; moment = now }) } else counting there o incoming).added ≡ c.added
    by_record true e = absurd (true≢false e)
    by_record false e = ap (λ (rs : List InboxRecord). c.added ++ rs) (none_records o.act incoming k.unrecorded) ∙ append-nil c.added
none_added h c (bad_frame at now) d done held may none = refl
none_added h c (did now) d done held may none = absurd (not_pending c.state done may.comes)
none_added h c (tick now) d done held may none = refl
none_added h c (turn_done now) d done held may none = refl
none_added h c (closed last now) d done held may none = refl
none_added h c link_end d done held may none = refl
none_added h c (live ps now) d done held may none = refl
none_added h c (again ps now) d done held may none = refl
none_added h c (taken count) d done held may none = refl
none_added h c reserve d done held may none = refl
none_added h c held_done d done held may none = absurd (none_in_front c.state held may.may_call.1)

-- where nothing was accepted nothing is held
none_held : (ms : List Numbered) → AllByRecursion (λ (m : Numbered). Contains (numbered None []) m) ms → ms ≡ []
none_held [] all = refl
none_held (m ∷ ms) all = let few = all.0.1 in absurd (omega (arith, few))

none_held_on : (h : List Entry) (c : Course) → Stands h c → Outside c.state → c.state.held ≡ []
none_held_on h c st d =
    none_held c.state.held (subst (λ (es : List Event). AllByRecursion (λ (m : Numbered). Contains (numbered None es) m) c.state.held) (nothing_carried h c st d).accepted st.came)

none_opens : (cfg : EndConfig) (is : List Incoming) → NoneIs (gives_keys cfg) is → NoneIs (opens cfg) is
none_opens cfg is none = all_weaker (λ (i : Incoming). gives_keys cfg i ≡ false) (λ (i : Incoming). opens cfg i ≡ false) (keyless cfg) is none

-- any calls leave what was added, and what is recorded
record Leaves (before : EndState) (added : List InboxRecord) (c : Course) : Type 0 where
  added_is : c.added ≡ added
  recorded : IsAsBefore before c.state.facts.recorded

leaves_after : (h : List Entry) (c : Course) (calls : List Call) → Stands h c → Outside c.state → c.state.pending ≡ None → AllMayStand h c calls → NoneIs (gives_keys c.state.config) (came calls)
    → Leaves c.state.facts.recorded c.added (course_after c calls)
leaves_after h c [] st d done all none = record { added_is = refl; recorded = refl }
leaves_after h c (call ∷ later) st d done all none =
    let cfg : EndConfig = c.state.config in
    let n : Course = next_course c call in
    let held : c.state.held ≡ [] = none_held_on h c st d in
    let first : NoneIs (gives_keys cfg) (came_by call) = came_first (gives_keys cfg) call later none in
    let spared : Spared c.state.facts.recorded n.state =
    subst (λ (s : State). Spared c.state.facts.recorded s) (sym (state_is_run c (call ∷ []))) (spared_step h c.state call d done held all.0 first) in
    let rest : Leaves n.state.facts.recorded n.added (course_after n later) =
    leaves_after h n later (call_keeps h c call st all.0) (stays_outside h c call d all.0 (none_opens cfg (came_by call) first)) spared.done all.1
    (subst (λ (k : EndConfig). NoneIs (gives_keys k) (came later)) (sym (same_config h c call all.0)) (came_later (gives_keys cfg) call later none)) in
    record {
      added_is = rest.added_is ∙ none_added h c call d done held all.0 first;
      recorded = as_before_trans c.state.facts.recorded n.state.facts.recorded (course_after n later).state.facts.recorded spared.recorded rest.recorded;
    }

pub stranger_leaves : StrangerLeaves
stranger_leaves h s inbox now calls may none =
    let c : Course = beginning s inbox now in
    let k : Leaves c.state.facts.recorded c.added (course_after c calls) = leaves_after h c calls (connection_begins h s inbox now may.awaits may.enough) (begins_outside s now) refl may.each none in
    record {
      added = k.added_is;
      recorded = subst (λ (r : EndState). IsAsBefore r (course_after c calls).state.facts.recorded) (begins_recorded s now) k.recorded;
    }

-- ---- of turns

pub strange_turns : StrangeTurns
strange_turns h s inbox t awaits enough turns strange =
    stranger_is_deaf h s inbox t.moment (calls_on t) (record { awaits = awaits; enough = enough; each = leg_stands h s inbox t awaits enough turns })
    (none_came (opens s.config) (given_on t) (came (calls_on t)) strange (given_came h s t turns))

pub keyless_turns : KeylessTurns
keyless_turns h s inbox t awaits enough turns none =
    stranger_leaves h s inbox t.moment (calls_on t) (record { awaits = awaits; enough = enough; each = leg_stands h s inbox t awaits enough turns })
    (none_came (gives_keys s.config) (given_on t) (came (calls_on t)) none (given_came h s t turns))
