-- Over any calls what is accepted follows what came, up to where nothing more is accepted.
use Rattle.std.proofs.Common.{◌≡◌, ◌⊎◌, inl, inr, ◌-◌, ◌≤◌, length, Bool, true, false, if◌then◌else◌, List, [], ◌∷◌, ◌++◌, ℕ, Option, Some, None, option_to_list, IfSome, IsTrue, refl, sym, ap, subst, ◌∙◌, append-nil, append_assoc, true≢false}
use Rattle.std.specs.Prelude.{is_some, IsSome, option_map}
use Rattle.std.specs.List.{AllZip, flat_map}
use Rattle.std.proofs.lemmas.Grind.{flat_map-append}
use mathlib.Core.List.{IsPrefix}
use Rattle.sofh_frame.specs.Framing.{Frame}
use Rattle.sofh_frame.specs.Splits.{frames_of}
use Rattle.session_model.specs.Journal.{Entry}
use Rattle.session_model.specs.Inbox.{InboxRecord, Numbered, next_number}
use Rattle.session_model.specs.Events.{Event, announce, handshake}
use Rattle.session_model.specs.Lives.{TakenFrom, rest_lost, taken as taken_event, rejected as rejected_event}
use Rattle.session_model.proofs.Lists.{prefix_trans}
use Rattle.fixp_shake.specs.declared.violation.Violation.{Violation}
use Rattle.fixp_shake.specs.Phases.{is_closing}
use Rattle.fixp_replies.specs.Acts.{is_record}
use Rattle.fixp_replies.specs.Events.{heartbeats, lateness, link_ending}
use Rattle.fixp_replies.specs.Incoming.{Incoming, payload_in}
use Rattle.fixp_replies.specs.Outcomes.{Outcome}
use Rattle.fixp_machine.specs.Machine.{State, Call, begin, frame, bad_frame, did, tick, turn_done, closed, link_end, live, again, taken, reserve, held_done, held_with, front_of, around, bytes_of, wrote, reply_applied, after_frame, broken_by, done_pending, step}
use Rattle.fixp_machine.specs.Accepting.{event_of}
use Rattle.connection_laws.specs.Writing.{Piece, events_of_piece, events_written}
use Rattle.connection_laws.specs.Courses.{Waiting, Course, beginning, reply_to, accepted_by, counting, still_waiting, called, next_done, next_held, next_course, course_after}
use Rattle.connection_laws.specs.Standing.{Stands, MayStand, AllMayStand}
use Rattle.connection_laws.proofs.Going.{call_keeps, calls_keep, connection_begins}
use Rattle.two_ends.specs.Reading.{ReadsAs}
use Rattle.two_ends.specs.Refusing.{Refusal, without_event, rejected, ended, closing, IsDeaf}
use Rattle.turn_laws.specs.Came.{came_by, came, AreFirstOf}
use Rattle.two_ends.specs.Hearing.{TakesFrom, LinkedBytes}
use Rattle.two_ends.proofs.Cutting.{written_is_read, event_is_carried}
use Rattle.two_ends.proofs.Refused.{refusal_ends, closing_is_deaf}
use Rattle.two_ends.proofs.Deaf.{deaf_step, stays_deaf, none_accepted}

-- the events of some messages
abbrev events_in : List Incoming → List Event
events_in is = flat_map (λ i. option_to_list (event_of i)) is

-- what was accepted follows all of these events: with whatever is taken of more, it is taken of both
abbrev Follows : List Event → List Event → Type 0
Follows es accepted = (more rest : List Event) → TakenFrom more rest → TakenFrom (es ++ more) (accepted ++ rest)

-- it is taken from them, whatever is written behind them
abbrev Ends : List Event → List Event → Type 0
Ends es accepted = (more : List Event) → TakenFrom (es ++ more) accepted

ends_within : (es later accepted : List Event) → Follows es accepted → Ends (es ++ later) accepted
ends_within es later accepted f more =
    subst (λ w. TakenFrom w accepted) (sym (append_assoc es later more))
    (subst (λ a. TakenFrom (es ++ (later ++ more)) a) (append-nil accepted) (f (later ++ more) [] rest_lost))

ends_later : (es later accepted : List Event) → Ends es accepted → Ends (es ++ later) accepted
ends_later es later accepted t more = subst (λ w. TakenFrom w accepted) (sym (append_assoc es later more)) (t (later ++ more))

-- an event is accepted, or an announcement of the handshake is rejected
follows_on : (es accepted : List Event) (e : Option Event) → Follows es accepted → Follows (es ++ option_to_list e) (accepted ++ option_to_list e)
follows_on es accepted e f more rest t =
    subst (λ w. TakenFrom w ((accepted ++ option_to_list e) ++ rest)) (sym (append_assoc es (option_to_list e) more))
    (subst (λ a. TakenFrom (es ++ (option_to_list e ++ more)) a) (sym (append_assoc accepted (option_to_list e) rest)) (f (option_to_list e ++ more) (option_to_list e ++ rest) (with_event e)))
  where
    with_event : (e : Option Event) → TakenFrom (option_to_list e ++ more) (option_to_list e ++ rest)
    with_event None = t
    with_event (Some event) = taken_event {e = event} t

follows_past : (es accepted : List Event) (n : Option ℕ) → Follows es accepted → Follows (es ++ announce handshake n ∷ []) (accepted ++ [])
follows_past es accepted n f more rest t =
    subst (λ w. TakenFrom w ((accepted ++ []) ++ rest)) (sym (append_assoc es (announce handshake n ∷ []) more))
    (subst (λ a. TakenFrom (es ++ (announce handshake n ∷ more)) (a ++ rest)) (sym (append-nil accepted)) (f (announce handshake n ∷ more) rest (rejected_event {n = n} t)))

-- Where a connection has come to behind these events: all of them were accepted, but for rejected announcements of the
-- handshake; or the last frame waits for its act; or nothing more is accepted
data Hears (c : Course) (es : List Event) : Type 0 where
  hearing : Follows es c.accepted → c.waiting ≡ None → Hears c es
  waits : (w : Waiting) (before : List Event) → es ≡ before ++ option_to_list (event_of w.incoming) → Follows before c.accepted → c.waiting ≡ Some w → Hears c es
  deaf : Ends es c.accepted → IsDeaf c.state → Hears c es

-- what is accepted of a frame, by its outcome
data Heard (es accepted : List Event) (i : Incoming) (o : Outcome) (closes : Type 0) : Type 0 where
  follows : Follows (es ++ option_to_list (event_of i)) (accepted ++ accepted_by o i) → Heard es accepted i o closes
  stops : Ends (es ++ option_to_list (event_of i)) (accepted ++ accepted_by o i) → IsSome o.ending ⊎ closes → Heard es accepted i o closes

refused_is : (es accepted : List Event) (i : Incoming) (o : Outcome) → o.accepted ≡ false → accepted ++ accepted_by o i ≡ accepted
refused_is es accepted i o out = ap (λ b. accepted ++ (if b then option_to_list (event_of i) else [])) out ∙ append-nil accepted

-- by the law of frames that are not accepted
heard : (s : State) (w : Waiting) (es accepted : List Event) → Follows es accepted
    → Heard es accepted w.incoming (reply_to s w) (is_closing s.facts.connection.phase ≡ true)
heard s w es accepted f = by_acceptance o.accepted refl
  where
    i : Incoming
    i = w.incoming

    o : Outcome
    o = reply_to s w

    closes : Type 0
    closes = is_closing s.facts.connection.phase ≡ true

    lost : o.accepted ≡ false → Ends (es ++ option_to_list (event_of i)) (accepted ++ accepted_by o i)
    lost out = subst (λ a. Ends (es ++ option_to_list (event_of i)) a) (sym (refused_is es accepted i o out)) (ends_within es (option_to_list (event_of i)) accepted f)

    by_refusal : o.accepted ≡ false → Refusal s.facts i o → Heard es accepted i o (is_closing s.facts.connection.phase ≡ true)
    by_refusal out (without_event none) =
        follows (subst (λ a. Follows (es ++ option_to_list (event_of i)) a) (sym (refused_is es accepted i o out))
        (subst (λ k. Follows (es ++ option_to_list k) accepted) (sym none) (subst (λ w. Follows w accepted) (sym (append-nil es)) f)))
    by_refusal out (rejected n e going same) =
        follows (subst (λ a. Follows (es ++ option_to_list (event_of i)) a) (append-nil accepted ∙ sym (refused_is es accepted i o out))
        (subst (λ k. Follows (es ++ option_to_list k) (accepted ++ [])) (sym e) (follows_past es accepted n f)))
    by_refusal out (ended e) = stops (lost out) (inl e)
    by_refusal out (closing c) = stops (lost out) (inr c)

    by_acceptance : (b : Bool) → o.accepted ≡ b → Heard es accepted i o (is_closing s.facts.connection.phase ≡ true)
    by_acceptance true t =
        follows (subst (λ b. Follows (es ++ option_to_list (event_of i)) (accepted ++ (if b then option_to_list (event_of i) else []))) (sym t) (follows_on es accepted (event_of i) f))
    by_acceptance false out = by_refusal out (refusal_ends (around s w.at w.moment) s.facts i out)

-- a frame whose act is no record, and that ends the connection, leaves it deaf
deaf_frame : (s : State) (i : Incoming) (o : Outcome) (now : ℕ) → is_record o.act ≡ false → IsSome o.ending → IsDeaf (after_frame s i o now)
deaf_frame s i o now none e = by_record (is_record o.act) none
  where
    by_record : (b : Bool) → b ≡ false → IsDeaf (
        if b then record s { moment = now; last_received = now; room = s.room - 1; pending = Some o }
        else reply_applied (record s { moment = now; last_received = now; room = s.room - 1; held = held_with o.holds (payload_in i) s.held }) o now
        )
    by_record true k = absurd (true≢false k)
    by_record false k = record { done = refl; over = inl e }

still_none : (p : Option Outcome) (w : Option Waiting) → w ≡ None → still_waiting p w ≡ None
still_none None w e = refl
still_none (Some o) w e = e

still_some : (p : Option Outcome) (w : Option Waiting) (o : Outcome) → p ≡ Some o → still_waiting p w ≡ w
still_some None w o e = absurd (cc e)
still_some (Some k) w o e = refl

abbrev pending_of : State → Option Outcome
pending_of s = s.pending

-- at a tick and at the link's end the frame that waits still waits, or the connection ends
abbrev Keeps : State → Call → Type 0
Keeps s call = IsDeaf (step s call) ⊎ ((step s call).pending ≡ s.pending)

keeps_tick : (s : State) (now : ℕ) → Keeps s (tick now)
keeps_tick s now = by_test (is_some s.ending) (lateness (around s 0 now) s.facts s.start s.last_received)
  where
    beat : State
    beat = wrote (record s { moment = now }) (bytes_of (heartbeats (around s 0 now) s.facts s.last_sent s.unsent)) now

    by_test : (b : Bool) (v : Option Violation) → IsDeaf (if b then record s { moment = now } else broken_by beat v now) ⊎ (pending_of (if b then record s { moment = now } else broken_by beat v now) ≡ s.pending)
    by_test true v = inr refl
    by_test false None = inr refl
    by_test false (Some v) = inl (record { done = refl; over = inl refl })

keeps_end : (s : State) → Keeps s link_end
keeps_end s = by_test (is_some s.ending)
  where
    by_test : (b : Bool) → IsDeaf (if b then s else record s { ending = Some (link_ending (around s 0 s.moment) s.facts); pending = None; held = [] })
        ⊎ (pending_of (if b then s else record s { ending = Some (link_ending (around s 0 s.moment) s.facts); pending = None; held = [] }) ≡ s.pending)
    by_test true = inr refl
    by_test false = inl (record { done = refl; over = inl refl })

-- a call that is no frame, on a connection that hears, and on one whose frame waits
called_hearing : (c : Course) (call : Call) (es : List Event) → Follows es c.accepted → c.waiting ≡ None → Hears (called c call) (es ++ [])
called_hearing c call es f none = subst (λ w. Hears (called c call) w) (sym (append-nil es)) (hearing f (still_none (step c.state call).pending c.waiting none))

-- a frame that waits, whose outcome is pending
record Waits (c : Course) (es : List Event) : Type 0 where
  frame : Waiting
  before : List Event
  splits : es ≡ before ++ option_to_list (event_of frame.incoming)
  follows : Follows before c.accepted
  waiting : c.waiting ≡ Some frame
  pending : c.state.pending ≡ Some (reply_to c.state frame)
  records : IsTrue (is_record (reply_to c.state frame).act)

called_waiting : (c : Course) (call : Call) (es : List Event) → Waits c es → Keeps c.state call → Hears (called c call) (es ++ [])
called_waiting c call es w (inl d) =
    deaf (subst (λ k. Ends k c.accepted) (sym (append-nil es)) (subst (λ k. Ends k c.accepted) (sym w.splits) (ends_within w.before (option_to_list (event_of w.frame.incoming)) c.accepted w.follows))) d
called_waiting c call es w (inr same) =
    waits w.frame w.before (append-nil es ∙ w.splits) w.follows (still_some (step c.state call).pending c.waiting (reply_to c.state w.frame) (same ∙ w.pending) ∙ w.waiting)

-- a connection that hears, at each call
step_hearing : (h : List Entry) (c : Course) (call : Call) (es : List Event) → Stands h c → MayStand h c.state call → Follows es c.accepted → c.waiting ≡ None
    → Hears (next_course c call) (es ++ events_in (came_by call))
step_hearing h c (begin now) es st may f none = absurd may.comes
step_hearing h c (frame i at now) es st may f none = subst (λ k. Hears (next_course c (frame i at now)) k) (ap (λ k. es ++ k) (sym (append-nil (option_to_list (event_of i))))) (by_record (is_record o.act) refl)
  where
    w : Waiting
    w = record { incoming = i; at = at; moment = now }

    o : Outcome
    o = reply_to c.state w

    k : Course
    k = called c (frame i at now)

    by_heard : is_record o.act ≡ false → Heard es c.accepted i o (is_closing c.state.facts.connection.phase ≡ true) → Hears (counting k o i) (es ++ option_to_list (event_of i))
    by_heard n (follows g) = hearing g refl
    by_heard n (stops t (inl e)) = deaf t (deaf_frame c.state i o now n e)
    by_heard n (stops t (inr cl)) = deaf t (deaf_step h c.state (frame i at now) (record { done = may.comes.done; over = inr cl }) may)

    by_record : (b : Bool) → is_record o.act ≡ b → Hears (if b then record k { waiting = Some w } else counting k o i) (es ++ option_to_list (event_of i))
    by_record true t = waits w es refl f refl
    by_record false n = by_heard n (heard c.state w es c.accepted f)
step_hearing h c (did now) es st may f none =
    let done : c.state.pending ≡ None = st.pends ∙ ap (option_map (reply_to c.state)) none in
    absurd (true≢false (sym (subst (λ k. IsSome k) done may.comes)))
step_hearing h c (taken count) es st may f none =
    subst (λ w. Hears (next_course c (taken count)) w) (sym (append-nil es)) (hearing f (still_none (step c.state (taken count)).pending c.waiting none))
step_hearing h c (bad_frame at now) es st may f none = called_hearing c (bad_frame at now) es f none
step_hearing h c (tick now) es st may f none = called_hearing c (tick now) es f none
step_hearing h c (turn_done now) es st may f none = called_hearing c (turn_done now) es f none
step_hearing h c (closed last now) es st may f none = called_hearing c (closed last now) es f none
step_hearing h c link_end es st may f none = called_hearing c link_end es f none
step_hearing h c (live ps now) es st may f none = called_hearing c (live ps now) es f none
step_hearing h c (again ps now) es st may f none = called_hearing c (again ps now) es f none
step_hearing h c reserve es st may f none = called_hearing c reserve es f none
step_hearing h c held_done es st may f none = by_front (front_of c.state)
  where
    by_front : (m : Option Numbered) → Hears (next_held (called c held_done) m) (es ++ [])
    by_front None = called_hearing c held_done es f none
    by_front (Some m) = subst (λ w. Hears (next_held (called c held_done) (Some m)) w) (sym (append-nil es)) (hearing f (still_none (step c.state held_done).pending c.waiting none))

-- nothing but the act is done while a frame waits
not_done : (c : Course) (es : List Event) → Waits c es → c.state.pending ≡ None → ⊥
not_done c es w none = cc (sym w.pending ∙ none)

step_waiting : (h : List Entry) (c : Course) (call : Call) (es : List Event) → MayStand h c.state call → Waits c es → Hears (next_course c call) (es ++ events_in (came_by call))
step_waiting h c (begin now) es may w = absurd may.comes
step_waiting h c (frame i at now) es may w = absurd (not_done c es w may.comes.done)
step_waiting h c (bad_frame at now) es may w = absurd (not_done c es w may.comes.done)
step_waiting h c (did now) es may w =
    subst (λ q. Hears (next_done k c.state.pending q) (es ++ [])) (sym w.waiting)
    (subst (λ p. Hears (next_done k p (Some w.frame)) (es ++ [])) (sym w.pending)
    (subst (λ x. Hears (counting k o i) x) (sym (append-nil es ∙ w.splits)) (by_heard (heard c.state w.frame w.before c.accepted w.follows))))
  where
    i : Incoming
    i = w.frame.incoming

    o : Outcome
    o = reply_to c.state w.frame

    k : Course
    k = called c (did now)

    by_heard : Heard w.before c.accepted i o (is_closing c.state.facts.connection.phase ≡ true) → Hears (counting k o i) (w.before ++ option_to_list (event_of i))
    by_heard (follows g) = hearing g refl
    by_heard (stops t (inl e)) = deaf t (subst (λ p. IsDeaf (done_pending c.state p now)) (sym w.pending) (record { done = refl; over = inl e }))
    by_heard (stops t (inr cl)) = absurd (true≢false (sym w.records ∙ (closing_is_deaf (around c.state w.frame.at w.frame.moment) c.state.facts i cl).unrecorded))
step_waiting h c (tick now) es may w = called_waiting c (tick now) es w (keeps_tick c.state now)
step_waiting h c (turn_done now) es may w = absurd (not_done c es w may.may_call.0)
step_waiting h c (closed last now) es may w = absurd (not_done c es w may.may_call.0)
step_waiting h c link_end es may w = called_waiting c link_end es w (keeps_end c.state)
step_waiting h c (live ps now) es may w = absurd (not_done c es w may.may_call.0)
step_waiting h c (again ps now) es may w = absurd (not_done c es w may.may_call)
step_waiting h c (taken count) es may w =
    waits w.frame w.before (append-nil es ∙ w.splits) w.follows (still_some (step c.state (taken count)).pending c.waiting (reply_to c.state w.frame) w.pending ∙ w.waiting)
step_waiting h c reserve es may w = called_waiting c reserve es w (inr refl)
step_waiting h c held_done es may w = absurd (not_done c es w may.may_call.0)

-- the frame that waits, on a connection that stands
waits_for : (h : List Entry) (c : Course) (es : List Event) (w : Waiting) (before : List Event) → Stands h c → es ≡ before ++ option_to_list (event_of w.incoming)
    → Follows before c.accepted → c.waiting ≡ Some w → Waits c es
waits_for h c es w before st e f waiting = record {
  frame = w;
  before = before;
  splits = e;
  follows = f;
  waiting = waiting;
  pending = st.pends ∙ ap (option_map (reply_to c.state)) waiting;
  records = subst (λ k. IfSome k (λ v. IsTrue (is_record (reply_to c.state v).act))) waiting st.records;
}

step_hears : (h : List Entry) (c : Course) (call : Call) (es : List Event) → Stands h c → MayStand h c.state call → Hears c es
    → Hears (next_course c call) (es ++ events_in (came_by call))
step_hears h c call es st may (hearing f none) = step_hearing h c call es st may f none
step_hears h c call es st may (waits w before e f waiting) = step_waiting h c call es may (waits_for h c es w before st e f waiting)
step_hears h c call es st may (deaf t d) =
    deaf (subst (λ a. Ends (es ++ events_in (came_by call)) a) (sym (none_accepted h c call d may)) (ends_later es (events_in (came_by call)) c.accepted t)) (stays_deaf h c call d may)

calls_hear : (h : List Entry) (c : Course) (calls : List Call) (es : List Event) → Stands h c → AllMayStand h c calls → Hears c es
    → Hears (course_after c calls) (es ++ events_in (came calls))
calls_hear h c [] es st all hs = subst (λ k. Hears c k) (sym (append-nil es)) hs
calls_hear h c (call ∷ later) es st all hs =
    subst (λ k. Hears (course_after (next_course c call) later) k)
    (append_assoc es (events_in (came_by call)) (events_in (came later)) ∙ ap (λ k. es ++ k) (sym (flat_map-append _ (came_by call) (came later))))
    (calls_hear h (next_course c call) later (es ++ events_in (came_by call)) (call_keeps h c call st all.0) all.1 (step_hears h c call es st all.0 hs))

-- what was accepted is taken from them
hears_takes : (h : List Entry) (c : Course) (es more : List Event) → Stands h c → Hears c es → TakesFrom (es ++ more) c
hears_takes h c es more st (hearing f none) = record {
  accepted = subst (λ a. TakenFrom (es ++ more) a) (append-nil c.accepted) (f more [] rest_lost);
  waiting = λ w e. absurd (cc (sym none ∙ e));
}
hears_takes h c es more st (waits v before e f waiting) = record {
  accepted = subst (λ k. TakenFrom (k ++ more) c.accepted) (sym e) (ends_within before (option_to_list (event_of v.incoming)) c.accepted f more);
  waiting = λ w same.
      subst (λ u. TakenFrom (es ++ more) (c.accepted ++ accepted_by (reply_to c.state u) u.incoming)) (cc (sym waiting ∙ same))
      (subst (λ k. TakenFrom (k ++ more) (c.accepted ++ accepted_by (reply_to c.state v) v.incoming)) (sym e) (by_heard (heard c.state v before c.accepted f)));
}
  where
    by_heard : Heard before c.accepted v.incoming (reply_to c.state v) (is_closing c.state.facts.connection.phase ≡ true)
        → TakenFrom ((before ++ option_to_list (event_of v.incoming)) ++ more) (c.accepted ++ accepted_by (reply_to c.state v) v.incoming)
    by_heard (follows g) =
        subst (λ a. TakenFrom ((before ++ option_to_list (event_of v.incoming)) ++ more) a) (append-nil (c.accepted ++ accepted_by (reply_to c.state v) v.incoming)) (g more [] rest_lost)
    by_heard (stops t k) = t more
hears_takes h c es more st (deaf t d) = record {
  accepted = t more;
  waiting = λ w e. absurd (cc (sym d.done ∙ (st.pends ∙ ap (option_map (reply_to c.state)) e)));
}

-- the events of the messages that came are those of the first frames that were written
events_first : (is : List Incoming) (read : List Piece) (frames : List Frame) → AreFirstOf is frames → AllZip ReadsAs read frames → IsPrefix (events_in is) (events_written read)
events_first [] read frames first reads = (events_written read, refl)
events_first (i ∷ later) [] [] first reads = absurd first
events_first (i ∷ later) [] (f ∷ frames) first reads = absurd reads
events_first (i ∷ later) (p ∷ read) [] first reads = absurd first
events_first (i ∷ later) (p ∷ read) (f ∷ frames) first reads =
    let rest = events_first later read frames first.1 reads.1 in
    let same : option_to_list (event_of i) ≡ events_of_piece p = ap (λ k. option_to_list (event_of k)) (reads.0.only i first.0) ∙ event_is_carried p in
    (rest.0, append_assoc (option_to_list (event_of i)) (events_in later) rest.0 ∙ (ap (λ es. option_to_list (event_of i) ++ es) rest.1 ∙ ap (λ es. es ++ events_written read) same))

-- and those begin the events of all of them
pub events_begin : (read pieces : List Piece) → IsPrefix read pieces → IsPrefix (events_written read) (events_written pieces)
events_begin read pieces p = (events_written p.0, sym (flat_map-append events_of_piece read p.0) ∙ ap (λ ps. events_written ps) p.1)

-- where the frames that came are those of these pieces, what is accepted is taken from any events that begin with theirs
pub heard_from : (h : List Entry) (s : State) (inbox : List InboxRecord) (now : ℕ) (calls : List Call) (read : List Piece) (written : List Event) (frames : List Frame)
    → s.facts.recorded.inbox_next ≡ next_number inbox → s.facts.recorded.sent ≤ length h → AllMayStand h (beginning s inbox now) calls
    → AreFirstOf (came calls) frames → AllZip ReadsAs read frames → IsPrefix (events_written read) written → TakesFrom written (course_after (beginning s inbox now) calls)
heard_from h s inbox now calls read written frames awaits enough all first reads begins =
    let c : Course = beginning s inbox now in
    let st : Stands h c = connection_begins h s inbox now awaits enough in
    let e = prefix_trans (events_in (came calls)) (events_written read) written (events_first (came calls) read frames first reads) begins in
    subst (λ w. TakesFrom w (course_after c calls)) e.1
    (hears_takes h (course_after c calls) (events_in (came calls)) e.0 (calls_keep h c calls st all) (calls_hear h c calls [] st all (hearing (λ more rest t. t) refl)))

pub linked_bytes : LinkedBytes
linked_bytes h s inbox now calls written awaits enough all legal came_from =
    let (read, r) = written_is_read written came_from.bytes legal came_from.are_bytes came_from.begins in
    heard_from h s inbox now calls read (events_written written) (frames_of came_from.bytes) awaits enough all came_from.frames r.frames (events_begin read written r.first)
