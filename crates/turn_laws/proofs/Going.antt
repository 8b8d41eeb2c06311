-- Calls that may come one behind another, and leave nothing pending.
use Rattle.turn_laws.proofs.Draining.{link_drained, awaited_in, fewer, act_open, frame_drained}
use Rattle.fixp_replies.specs.Incoming.{payload_in}
use Rattle.session_model.specs.Inbox.{Numbered}
use Rattle.std.proofs.Common.{◌≡◌, ◌-◌, ℕ, Bool, true, false, if◌then◌else◌, List, [], ◌∷◌, ◌++◌, length, Option, Some, None, refl, sym, ap, subst, ◌∙◌, zero, suc, ◌≤◌, arith}
use Rattle.std.specs.Prelude.{IfSome, IsSome, is_some, replicate}
use mathlib.Core.List.{IsPrefix}
use Rattle.session_model.specs.Journal.{Entry}
use Rattle.fixp_replies.specs.Acts.{is_record}
use Rattle.fixp_replies.specs.Outcomes.{Outcome}
use Rattle.fixp_shake.specs.declared.violation.Violation.{Violation}
use Rattle.fixp_replies.specs.Events.{heartbeats, lateness, turn_ended, outbox_finished, finish_told, link_ending}
use Rattle.flow_idem.specs.Runs.{runs_of}
use Rattle.fixp_machine.specs.Machine.{State, Call, bad_frame, did, tick, turn_done, closed, link_end, taken, reserve, around, bytes_of, wrote, made, reply_applied, broken_by, ticked, after_turn, after_closed, link_ended, done_pending, step, run, held_done, held_with, held_applied, front_of, IsDrained}
use Rattle.fixp_machine.specs.Machine as calls
use Rattle.conn_turns.specs.Lines.{Line, TakenFrame, reply_at, frame_calls, IsTaken, line_after, AreTaken, IsNext, act_calls, ready_in, ready_behind}
use Rattle.conn_turns.specs.Turns.{first_calls, calls_of_frames, bad_calls, end_calls, sending_calls}
use Rattle.conn_turns.proofs.Taking.{run_append}
use Rattle.session_model.proofs.Lists.{prefix_length}
use Rattle.connection_laws.specs.Courses.{Course, next_course, course_after}
use Rattle.connection_laws.specs.Standing.{Stands, IsOpen, MayStand, AllMayStand}
use Rattle.connection_laws.proofs.Going.{calls_keep}
use Rattle.connection_laws.proofs.Continuing.{state_is_run}

-- a connection that stands, at this state of the machine, with nothing pending
pub record Steady (h : List Entry) (c : Course) (m : State) : Type 0 where
  pub stands : Stands h c
  pub is : c.state ≡ m
  pub done : m.pending ≡ None

-- some calls may come, and leave it so
pub record Goes (h : List Entry) (c : Course) (m : State) (cs : List Call) : Type 0 where
  pub may : AllMayStand h c cs
  pub after : Steady h (course_after c cs) (run m cs)

goes : (h : List Entry) (c : Course) (m : State) (cs : List Call) → Steady h c m → AllMayStand h c cs → (run m cs).pending ≡ None → Goes h c m cs
goes h c m cs s may done = record {
  may = may;
  after = record { stands = calls_keep h c cs s.stands may; is = state_is_run c cs ∙ ap (λ (x : State). run x cs) s.is; done = done };
}

pub nothing : (h : List Entry) (c : Course) (m : State) → Steady h c m → Goes h c m []
nothing h c m s = goes h c m [] s tt s.done

pub may_append : (h : List Entry) (c : Course) (first later : List Call) → AllMayStand h c first → AllMayStand h (course_after c first) later → AllMayStand h c (first ++ later)
may_append h c [] later x y = y
may_append h c (call ∷ first) later x y = (x.0, may_append h (next_course c call) first later x.1 y)

pub after_append : (c : Course) (first later : List Call) → course_after c (first ++ later) ≡ course_after (course_after c first) later
after_append c [] later = refl
after_append c (call ∷ first) later = after_append (next_course c call) first later

pub and_then : (h : List Entry) (c : Course) (m : State) (first later : List Call) → Goes h c m first → Goes h (course_after c first) (run m first) later → Goes h c m (first ++ later)
and_then h c m first later x y = record {
  may = may_append h c first later x.may y.may;
  after = record {
    stands = subst (λ (d : Course). Stands h d) (sym (after_append c first later)) y.after.stands;
    is = ap (λ (d : Course). d.state) (after_append c first later) ∙ (y.after.is ∙ sym (run_append m first later));
    done = ap (λ (x : State). x.pending) (run_append m first later) ∙ y.after.done;
  };
}

pub one : (h : List Entry) (c : Course) (m : State) (call : Call) → Steady h c m → MayStand h m call → (step m call).pending ≡ None → Goes h c m (call ∷ [])
one h c m call s may done = goes h c m (call ∷ []) s (subst (λ (x : State). MayStand h x call) (sym s.is) may, tt) done

pub is_open : (h : List Entry) (c : Course) (m : State) → Steady h c m → m.ending ≡ None → IsOpen m
is_open h c m s e = record { begun = ap (λ (x : State). x.begun) (sym s.is) ∙ s.stands.begun; going = e; done = s.done }

-- what leaves nothing pending where nothing is
tick_done : (s : State) (now : ℕ) → s.pending ≡ None → (ticked s now).pending ≡ None
tick_done s now none = by_test (is_some s.ending) (lateness (around s 0 now) s.facts s.start s.last_received)
  where
    by_test : (b : Bool) (v : Option Violation) → (if b then record s { moment = now } else broken_by (wrote (record s { moment = now }) (bytes_of (heartbeats (around s 0 now) s.facts s.last_sent s.unsent)) now) v now).pending ≡ None
    by_test true v = none
    by_test false None = none
    by_test false (Some v) = refl

turn_over : (s : State) (now : ℕ) → s.pending ≡ None → (after_turn s now).pending ≡ None
turn_over s now none = by_test (is_some s.ending)
  where
    by_test : (b : Bool) → (if b then record s { moment = now } else record (made (record s { moment = now }) (turn_ended (around s 0 now) s.facts (runs_of s.untold)) now) { untold = [] }).pending ≡ None
    by_test true = none
    by_test false = none

pub finish_over : (s : State) (last now : ℕ) → s.pending ≡ None → (after_closed s last now).pending ≡ None
finish_over s last now none = by_test (is_some s.ending)
  where
    by_test : (b : Bool) → (if b then record s { moment = now; facts = outbox_finished s.facts last } else made (record s { moment = now }) (finish_told (around s 0 now) s.facts last) now).pending ≡ None
    by_test true = none
    by_test false = none

link_over : (s : State) → s.pending ≡ None → (link_ended s).pending ≡ None
link_over s none = by_test (is_some s.ending)
  where
    by_test : (b : Bool) → (if b then s else record s { ending = Some (link_ending (around s 0 s.moment) s.facts); pending = None; held = [] }).pending ≡ None
    by_test true = none
    by_test false = refl

did_done : (s : State) (now : ℕ) → (step s (did now)).pending ≡ None
did_done s now = by_case s.pending refl
  where
    by_case : (p : Option Outcome) → s.pending ≡ p → (done_pending s p now).pending ≡ None
    by_case None e = e
    by_case (Some o) e = refl

-- before the frames
pub first_go : (h : List Entry) (c : Course) (m : State) (now : ℕ) → Steady h c m → Goes h c m (first_calls now)
first_go h c m now s =
    let x : Goes h c m (reserve ∷ []) = one h c m reserve s (record { may_call = tt; comes = tt }) s.done in
    and_then h c m (reserve ∷ []) (tick now ∷ []) x
    (one h (course_after c (reserve ∷ [])) (run m (reserve ∷ [])) (tick now) x.after (record { may_call = tt; comes = tt }) (tick_done (run m (reserve ∷ [])) now x.after.done))

-- a frame, and its act
act_goes : (h : List Entry) (now : ℕ) (c : Course) (l : Line) (t : TakenFrame) → Steady h c l.machine → IsDrained l.machine → IsNext l t → t.recorded ≡ is_record (reply_at now l t).act → Goes h c l.machine (act_calls now t)
act_goes h now c l t s drained next recorded = by_test t.recorded recorded
  where
    o : Outcome
    o = reply_at now l t

    got : State
    got = record l.machine { moment = now; last_received = now; room = l.machine.room - 1 }

    more : State
    more = record got { held = held_with o.holds (payload_in t.incoming) l.machine.held }

    call : Call
    call = calls.frame t.incoming t.at now

    may : MayStand h l.machine call
    may = record { may_call = (s.done, drained); comes = is_open h c l.machine s next.may.goes_on }

    acted : (b : Bool) → b ≡ is_record o.act → (step l.machine call).pending ≡ (if b then Some o else None)
    acted true e = ap (λ (a : Bool). (if a then record got { pending = Some o } else reply_applied more o now).pending) (sym e)
    acted false e = ap (λ (a : Bool). (if a then record got { pending = Some o } else reply_applied more o now).pending) (sym e)

    by_test : (b : Bool) → b ≡ is_record o.act → Goes h c l.machine (call ∷ (if b then did now ∷ [] else []))
    by_test true e =
        let pends : (next_course c call).state.pending ≡ Some o = ap (λ (x : State). x.pending) (state_is_run c (call ∷ []) ∙ ap (λ (x : State). step x call) s.is) ∙ acted true e in
        goes h c l.machine (call ∷ did now ∷ []) s
        (subst (λ (x : State). MayStand h x call) (sym s.is) may, (record { may_call = tt; comes = subst (λ (p : Option Outcome). IsSome p) (sym pends) refl }, tt))
        (did_done (step l.machine call) now)
    by_test false e = one h c l.machine call s may (acted false e)

-- held messages that are ready are applied, where the connection goes on
held_same : (m : State) (o : Option Numbered) → ((held_applied m o).pending ≡ m.pending) × ((held_applied m o).ending ≡ m.ending)
held_same m None = (refl, refl)
held_same m (Some first) = (refl, refl)

helds_go : (h : List Entry) (c : Course) (m : State) (k : ℕ) → Steady h c m → k ≤ length (ready_in m) → (IsSome (front_of m) → m.ending ≡ None) → Goes h c m (replicate k held_done)
helds_go h c m zero s few going = nothing h c m s
helds_go h c m (suc k) s few going =
    let a = awaited_in m k few in
    let some : IsSome (front_of m) = ap (λ (o : Option Numbered). is_some o) a.front_is in
    let same = held_same m (front_of m) in
    let x : Goes h c m (held_done ∷ []) = one h c m held_done s (record { may_call = (s.done, some); comes = is_open h c m s (going some) }) (same.0 ∙ s.done) in
    and_then h c m (held_done ∷ []) (replicate k held_done) x
    (helds_go h (course_after c (held_done ∷ [])) (step m held_done) k x.after (fewer m k a few) (λ _. same.1 ∙ going some))

-- so a frame goes, with some of what is ready behind it, or with all
pub partly_goes : (h : List Entry) (now : ℕ) (c : Course) (l : Line) (t : TakenFrame) → Steady h c l.machine → IsDrained l.machine → IsNext l t → t.recorded ≡ is_record (reply_at now l t).act → t.helds ≤ length (ready_behind now l t)
    → Goes h c l.machine (frame_calls now t)
partly_goes h now c l t s drained next recorded few =
    let x : Goes h c l.machine (act_calls now t) = act_goes h now c l t s drained next recorded in
    and_then h c l.machine (act_calls now t) (replicate t.helds held_done) x
    (helds_go h (course_after c (act_calls now t)) (run l.machine (act_calls now t)) t.helds x.after few (act_open now l t recorded))

pub frame_goes : (h : List Entry) (now : ℕ) (c : Course) (l : Line) (t : TakenFrame) → Steady h c l.machine → IsDrained l.machine → IsTaken now l t → Goes h c l.machine (frame_calls now t)
frame_goes h now c l t s drained k = let all = k.helds in partly_goes h now c l t s drained k.next k.recorded (omega (arith, all))

pub frames_go : (h : List Entry) (now : ℕ) (l : Line) (frames : List TakenFrame) (c : Course) → Steady h c l.machine → IsDrained l.machine → AreTaken now l frames → Goes h c l.machine (calls_of_frames now frames)
unfolding line_after
frames_go h now l [] c s drained k = nothing h c l.machine s
frames_go h now l (t ∷ later) c s drained k =
    let x : Goes h c l.machine (frame_calls now t) = frame_goes h now c l t s drained k.0 in
    and_then h c l.machine (frame_calls now t) (calls_of_frames now later) x
    (frames_go h now (line_after now l t) later (course_after c (frame_calls now t)) x.after (frame_drained now l t k.0) k.1)

-- behind the frames
pub link_goes : (h : List Entry) (c : Course) (m : State) → Steady h c m → Goes h c m (link_end ∷ [])
link_goes h c m s = one h c m link_end s (record { may_call = tt; comes = tt }) (link_over m s.done)

turn_goes : (h : List Entry) (c : Course) (m : State) (now : ℕ) → Steady h c m → IsDrained m → Goes h c m (turn_done now ∷ [])
turn_goes h c m now s drained = one h c m (turn_done now) s (record { may_call = (s.done, drained); comes = tt }) (turn_over m now s.done)

ends_go : (h : List Entry) (c : Course) (m : State) (now : ℕ) (over : Bool) → Steady h c m → IsDrained m → Goes h c m (end_calls over ++ turn_done now ∷ [])
ends_go h c m now false s drained = turn_goes h c m now s drained
ends_go h c m now true s drained =
    let x : Goes h c m (link_end ∷ []) = link_goes h c m s in
    and_then h c m (link_end ∷ []) (turn_done now ∷ []) x (turn_goes h (course_after c (link_end ∷ [])) (run m (link_end ∷ [])) now x.after (link_drained m drained))

pub closing_go : (h : List Entry) (c : Course) (m : State) (now : ℕ) (broken : Option ℕ) (over : Bool) → Steady h c m → IsDrained m → IfSome broken (λ (_ : ℕ). m.ending ≡ None)
    → Goes h c m (bad_calls now broken ++ (end_calls over ++ turn_done now ∷ []))
closing_go h c m now None over s drained e = ends_go h c m now over s drained
closing_go h c m now (Some at) over s drained e =
    let x : Goes h c m (bad_frame at now ∷ []) = one h c m (bad_frame at now) s (record { may_call = (s.done, drained); comes = is_open h c m s e }) refl in
    and_then h c m (bad_frame at now ∷ []) (end_calls over ++ turn_done now ∷ []) x (ends_go h (course_after c (bad_frame at now ∷ [])) (run m (bad_frame at now ∷ [])) now over x.after refl)

pub finish_goes : (h : List Entry) (c : Course) (m : State) (last now : ℕ) → Steady h c m → IsDrained m → Goes h c m (closed last now ∷ [])
finish_goes h c m last now s drained = one h c m (closed last now) s (record { may_call = (s.done, drained); comes = tt }) (finish_over m last now s.done)

-- what is sent
pub sending_go : (h : List Entry) (c : Course) (m : State) (sent : List ℕ) (lost : Bool) → Steady h c m → IsPrefix sent m.unsent → Goes h c m (sending_calls sent lost)
sending_go h c m sent true s front = link_goes h c m s
sending_go h c m sent false s front = one h c m (taken (length sent)) s (record { may_call = tt; comes = prefix_length sent m.unsent front }) s.done
