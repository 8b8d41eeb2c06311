-- On a connection that has ended, or is in Closing, nothing more is accepted.
use Rattle.std.proofs.Common.{◌≡◌, ◌⊎◌, inl, inr, ◌-◌, Bool, true, false, if◌then◌else◌, List, [], ◌∷◌, ◌++◌, Option, Some, None, option_to_list, refl, sym, ap, subst, ◌∙◌, append-nil, true≢false}
use Rattle.std.specs.Prelude.{is_some, IsSome}
use Rattle.session_model.specs.Journal.{Entry}
use Rattle.session_model.specs.Inbox.{Numbered}
use Rattle.fixp_replies.specs.Incoming.{payload_in}
use Rattle.fixp_msgs.specs.declared.numbering.Range.{Range}
use Rattle.fixp_msgs.specs.Message.{finished_sending, terminate}
use Rattle.flow_idem.specs.Runs.{runs_of}
use Rattle.fixp_shake.specs.declared.phase.Phase.TheVariants as phases
use Rattle.fixp_shake.specs.declared.violation.Violation.{Violation}
use Rattle.fixp_shake.specs.Flows.{is_sequenced}
use Rattle.fixp_shake.specs.Phases.{is_closing}
use Rattle.fixp_replies.specs.declared.facts.OwnFinish.TheVariants as own
use Rattle.fixp_replies.specs.Serving.{own_finishing}
use Rattle.fixp_replies.specs.Acts.{is_record}
use Rattle.fixp_replies.specs.Events.{Made, applied_runs, heartbeats, lateness, closes, turn_ended, outbox_finished, tells_finish, finish_told, link_ending}
use Rattle.fixp_replies.specs.Facts.{Around, in_phase}
use Rattle.fixp_replies.specs.declared.facts.Facts.{Facts}
use Rattle.fixp_replies.specs.Outcomes.{Outcome}
use Rattle.fixp_replies.specs.Replies.{reply_of}
use Rattle.fixp_machine.specs.Machine.{State, Call, begin, frame, bad_frame, did, tick, turn_done, closed, link_end, live, again, taken, reserve, held_done, held_with, held_applied, front_of, around, bytes_of, wrote, made, reply_applied, broken_by, served_again, step}
use Rattle.fixp_machine.specs.Accepting.{event_of}
use Rattle.connection_laws.specs.Courses.{Course, counting, called, next_held, next_course}
use Rattle.connection_laws.specs.Standing.{MayStand}
use Rattle.connection_laws.proofs.Continuing.{state_is_run}
use Rattle.two_ends.specs.Refusing.{PassesBy, IsDeaf, NothingMore}
use Rattle.two_ends.proofs.Refused.{closing_is_deaf}

-- a deaf end has not an open connection but in Closing
pub is_closing-deaf : (s : State) → IsDeaf s → s.ending ≡ None → is_closing s.facts.connection.phase ≡ true
is_closing-deaf s d going = by_case d.over
  where
    by_case : IsSome s.ending ⊎ (is_closing s.facts.connection.phase ≡ true) → is_closing s.facts.connection.phase ≡ true
    by_case (inl e) = absurd (true≢false (sym (subst (λ k. IsSome k) going e)))
    by_case (inr c) = c

-- it has ended, or is in Closing behind what it made
abbrev Over : State → Made → Type 0
Over s m = IsSome s.ending ⊎ (is_closing m.next.connection.phase ≡ true)

-- what an end that is deaf does at each call leaves it so
pub deaf_step : (h : List Entry) (s : State) (call : Call) → IsDeaf s → MayStand h s call → IsDeaf (step s call)
deaf_step h s (begin now) d may = absurd may.comes
deaf_step h s (frame incoming at now) d may = by_record (is_record o.act) passes.unrecorded
  where
    o : Outcome
    o = reply_of (around s at now) s.facts incoming

    over : is_closing s.facts.connection.phase ≡ true
    over = is_closing-deaf s d may.comes.going

    passes : PassesBy s.facts o
    passes = closing_is_deaf (around s at now) s.facts incoming over

    by_record : (b : Bool) → b ≡ false → IsDeaf (
        if b then record s { moment = now; last_received = now; room = s.room - 1; pending = Some o }
        else reply_applied (record s { moment = now; last_received = now; room = s.room - 1; held = held_with o.holds (payload_in incoming) s.held }) o now
        )
    by_record true e = absurd (true≢false e)
    by_record false e = record { done = refl; over = inr (ap (λ (f : Facts). is_closing f.connection.phase) passes.next ∙ over) }
deaf_step h s (bad_frame at now) d may = record { done = refl; over = inl refl }
deaf_step h s (did now) d may = absurd (true≢false (sym (subst (λ k. IsSome k) d.done may.comes)))
deaf_step h s (tick now) d may = by_test (is_some s.ending) (lateness (around s 0 now) s.facts s.start s.last_received)
  where
    beat : State
    beat = wrote (record s { moment = now }) (bytes_of (heartbeats (around s 0 now) s.facts s.last_sent s.unsent)) now

    by_test : (b : Bool) (v : Option Violation) → IsDeaf (if b then record s { moment = now } else broken_by beat v now)
    by_test true v = record { done = d.done; over = d.over }
    by_test false None = record { done = d.done; over = d.over }
    by_test false (Some v) = record { done = refl; over = inl refl }
deaf_step h s (turn_done now) d may = by_test (is_some s.ending)
  where
    x : Around
    x = around s 0 now

    by_closing : (b : Bool) → (IsSome s.ending ⊎ (is_closing s.facts.connection.phase ≡ true)) → Over s (
        if b then record { written = applied_runs (runs_of s.untold) ++ terminate x.config.session 1 [] ∷ []; next = in_phase s.facts phases.Closing }
        else record { written = applied_runs (runs_of s.untold); next = s.facts }
        )
    by_closing b (inl e) = inl e
    by_closing true (inr c) = inr refl
    by_closing false (inr c) = inr c

    by_test : (b : Bool) → IsDeaf (if b then record s { moment = now } else record (made (record s { moment = now }) (turn_ended x s.facts (runs_of s.untold)) now) { untold = [] })
    by_test true = record { done = d.done; over = d.over }
    by_test false = record { done = d.done; over = by_closing (closes x s.facts) d.over }
deaf_step h s (closed last now) d may = by_test (is_some s.ending)
  where
    x : Around
    x = around s 0 now

    by_telling : (b : Bool) → (IsSome s.ending ⊎ (is_closing s.facts.connection.phase ≡ true)) → Over s (
        if b then record { written = finished_sending x.config.session (if is_sequenced x.config.own_flow then Some last else None) ∷ []; next = own_finishing (outbox_finished s.facts last) own.Told }
        else record { written = []; next = outbox_finished s.facts last }
        )
    by_telling b (inl e) = inl e
    by_telling true (inr c) = inr c
    by_telling false (inr c) = inr c

    by_test : (b : Bool) → IsDeaf (if b then record s { moment = now; facts = outbox_finished s.facts last } else made (record s { moment = now }) (finish_told x s.facts last) now)
    by_test true = record { done = d.done; over = d.over }
    by_test false = record { done = d.done; over = by_telling (tells_finish x s.facts last) d.over }
deaf_step h s link_end d may = by_test (is_some s.ending)
  where
    by_test : (b : Bool) → IsDeaf (if b then s else record s { ending = Some (link_ending (around s 0 s.moment) s.facts); pending = None; held = [] })
    by_test true = d
    by_test false = record { done = refl; over = inl refl }
deaf_step h s (live ps now) d may = record { done = d.done; over = d.over }
deaf_step h s (again ps now) d may = by_range s.facts.connection.serving
  where
    by_range : (r : Option Range) → IsDeaf (served_again s r ps now)
    by_range None = d
    by_range (Some r) = record { done = d.done; over = d.over }
deaf_step h s (taken count) d may = record { done = d.done; over = d.over }
deaf_step h s reserve d may = record { done = d.done; over = d.over }
deaf_step h s held_done d may = by_front (front_of s)
  where
    by_front : (m : Option Numbered) → IsDeaf (held_applied s m)
    by_front None = d
    by_front (Some m) = record { done = d.done; over = d.over }

-- and nothing is accepted at it
pub none_accepted : (h : List Entry) (c : Course) (call : Call) → IsDeaf c.state → MayStand h c.state call → (next_course c call).accepted ≡ c.accepted
none_accepted h c (begin now) d may = absurd may.comes
none_accepted h c (frame incoming at now) d may = by_record (is_record o.act) passes.unrecorded
  where
    o : Outcome
    o = reply_of (around c.state at now) c.state.facts incoming

    passes : PassesBy c.state.facts o
    passes = closing_is_deaf (around c.state at now) c.state.facts incoming (is_closing-deaf c.state d may.comes.going)

    k : Course
    k = called c (frame incoming at now)

    by_record : (b : Bool) → b ≡ false → (if b then record k { waiting = Some (record { incoming = incoming; at = at; moment = now }) } else counting k o incoming).accepted ≡ c.accepted
    by_record true e = absurd (true≢false e)
    by_record false e = ap (λ b. c.accepted ++ (if b then option_to_list (event_of incoming) else [])) passes.refused ∙ append-nil c.accepted
none_accepted h c (bad_frame at now) d may = refl
none_accepted h c (did now) d may = absurd (true≢false (sym (subst (λ k. IsSome k) d.done may.comes)))
none_accepted h c (tick now) d may = refl
none_accepted h c (turn_done now) d may = refl
none_accepted h c (closed last now) d may = refl
none_accepted h c link_end d may = refl
none_accepted h c (live ps now) d may = refl
none_accepted h c (again ps now) d may = refl
none_accepted h c (taken count) d may = refl
none_accepted h c reserve d may = refl
none_accepted h c held_done d may = by_front (front_of c.state)
  where
    by_front : (m : Option Numbered) → (next_held (called c held_done) m).accepted ≡ c.accepted
    by_front None = refl
    by_front (Some m) = refl

pub stays_deaf : (h : List Entry) (c : Course) (call : Call) → IsDeaf c.state → MayStand h c.state call → IsDeaf (next_course c call).state
stays_deaf h c call d may = subst IsDeaf (sym (state_is_run c (call ∷ []))) (deaf_step h c.state call d may)

pub nothing_more : NothingMore
nothing_more h c [] d all = (refl, d)
nothing_more h c (call ∷ later) d all =
    let rest = nothing_more h (next_course c call) later (stays_deaf h c call d all.0) all.1 in
    (rest.0 ∙ none_accepted h c call d all.0, rest.1)
