-- What a connection adds to the inbox over a turn is what the frames of the turn add.
use Rattle.std.proofs.Math.Seq.{take-length}
use Rattle.turn_laws.proofs.Draining.{first_drained, frame_drained, awaited_in, fewer, helds_ready}
use Rattle.conn_turns.proofs.Taking.{frames_make_calls}
use Rattle.conn_turns.specs.Refusals.{IsRefused, stood}
use Rattle.fixp_replies.specs.declared.act.Act.{Act}
use Rattle.fixp_replies.specs.declared.act.Act.TheVariants as acts
use Rattle.fixp_replies.specs.Incoming.{Incoming, payload_in}
use Rattle.std.proofs.Common.{◌≡◌, ℕ, ◌-◌, Bool, true, false, if◌then◌else◌, List, [], ◌∷◌, ◌++◌, Option, Some, refl, sym, ap, subst, ◌∙◌, append-nil, append_assoc, zero, suc, ◌≤◌, length, take, None, arith, true≢false}
use Rattle.std.specs.Prelude.{⊤, replicate}
use Rattle.std.specs.List.{AllByRecursion}
use Rattle.session_model.specs.Journal.{Entry}
use Rattle.session_model.specs.Inbox.{InboxRecord, Numbered}
use Rattle.session_model.proofs.Lists.{all_append}
use Rattle.fixp_replies.specs.Acts.{is_record}
use Rattle.fixp_replies.specs.Outcomes.{Outcome}
use Rattle.fixp_replies.specs.Replies.{reply_of}
use Rattle.fixp_machine.specs.Machine.{State, Call, begin, frame, bad_frame, did, tick, turn_done, closed, link_end, live, again, taken, reserve, around, reply_applied, step, run, held_done, held_with, front_of, IsDrained}
use Rattle.fixp_machine.specs.Accepting.{records_of}
use Rattle.conn_turns.specs.Lines.{Line, TakenFrame, reply_at, frame_calls, line_after, AreTaken, act_calls, ready_in, ready_behind, IsTaken, lines_after}
use Rattle.conn_turns.specs.Frames.{adds, added, applies}
use Rattle.conn_turns.specs.Turns.{Work, only_sends, works, link_lost, cut_short, not_begun, first_calls, calls_of_frames, closing_calls, outbox_calls, sending_calls, Refusal, of_act, of_held, refused_calls}
use Rattle.connection_laws.specs.Courses.{Waiting, Course, counting, called, next_done, next_course, course_after, next_held}
use Rattle.connection_laws.proofs.Continuing.{state_is_run}
use Rattle.turn_laws.specs.Turns.{line_received}
use Rattle.turn_laws.specs.Standing.{TurnAdds, CutAdds}
use Rattle.turn_laws.proofs.Going.{Steady, Goes, after_append, first_go, frame_goes}
use Rattle.turn_laws.proofs.Working.{steady_at}
use Rattle.turn_laws.proofs.Each.{closing_all, outbox_all}

-- a call by which nothing is added
abbrev AddsNothing : Call → Type 0
AddsNothing (begin now) = ⊥
AddsNothing (frame incoming at now) = ⊥
AddsNothing (bad_frame at now) = ⊤
AddsNothing (did now) = ⊥
AddsNothing (tick now) = ⊤
AddsNothing (turn_done now) = ⊤
AddsNothing (closed last now) = ⊤
AddsNothing link_end = ⊤
AddsNothing (live payloads now) = ⊤
AddsNothing (again payloads now) = ⊤
AddsNothing (taken count) = ⊤
AddsNothing reserve = ⊤
AddsNothing held_done = ⊥

adds_nothing : (c : Course) (call : Call) → AddsNothing call → (next_course c call).added ≡ c.added
adds_nothing c (begin now) n = absurd n
adds_nothing c (frame incoming at now) n = absurd n
adds_nothing c (bad_frame at now) n = refl
adds_nothing c (did now) n = absurd n
adds_nothing c (tick now) n = refl
adds_nothing c (turn_done now) n = refl
adds_nothing c (closed last now) n = refl
adds_nothing c link_end n = refl
adds_nothing c (live payloads now) n = refl
adds_nothing c (again payloads now) n = refl
adds_nothing c (taken count) n = refl
adds_nothing c reserve n = refl
adds_nothing c held_done n = absurd n

add_nothing : (c : Course) (cs : List Call) → AllByRecursion AddsNothing cs → (course_after c cs).added ≡ c.added
add_nothing c [] all = refl
add_nothing c (call ∷ later) all = add_nothing (next_course c call) later all.1 ∙ adds_nothing c call all.0

sending_adds : (sent : List ℕ) (lost : Bool) → AllByRecursion AddsNothing (sending_calls sent lost)
sending_adds sent true = (tt, tt)
sending_adds sent false = (tt, tt)

behind_frames : (w : Work) → AllByRecursion AddsNothing (closing_calls w ++ (outbox_calls w ++ sending_calls w.sent w.lost))
behind_frames w = all_append AddsNothing (closing_calls w) (outbox_calls w ++ sending_calls w.sent w.lost) (closing_all AddsNothing w.now w.broken w.link_over (λ _. tt) tt tt)
    (all_append AddsNothing (outbox_calls w) (sending_calls w.sent w.lost) (outbox_all AddsNothing w.now w.again w.live w.finish (λ _. tt) (λ _. tt) (λ _. tt)) (sending_adds w.sent w.lost))

-- a frame, and its act
did_adds : (d : Course) (now : ℕ) (o : Outcome) (w : Waiting) → d.state.pending ≡ Some o → d.waiting ≡ Some w → (next_course d (did now)).added ≡ d.added ++ records_of o.act w.incoming
did_adds d now o w pends waits =
    ap (λ (p : Option Outcome). (next_done (called d (did now)) p d.waiting).added) pends ∙ ap (λ (v : Option Waiting). (next_done (called d (did now)) (Some o) v).added) waits

act_adds : (now : ℕ) (c : Course) (l : Line) (t : TakenFrame) → c.state ≡ l.machine → t.recorded ≡ is_record (reply_at now l t).act
    → (course_after c (act_calls now t)).added ≡ c.added ++ records_of (reply_at now l t).act t.incoming
act_adds now c l t is recorded = by_test t.recorded recorded
  where
    o : Outcome
    o = reply_at now l t

    here : Outcome
    here = reply_of (around c.state t.at now) c.state.facts t.incoming

    same : here ≡ o
    same = ap (λ (x : State). reply_of (around x t.at now) x.facts t.incoming) is

    w : Waiting
    w = record { incoming = t.incoming; at = t.at; moment = now }

    call : Call
    call = frame t.incoming t.at now

    got : State
    got = record l.machine { moment = now; last_received = now; room = l.machine.room - 1 }

    more : State
    more = record got { held = held_with o.holds (payload_in t.incoming) l.machine.held }

    test : (b : Bool) → b ≡ is_record o.act → is_record here.act ≡ b
    test b e = ap (λ (x : Outcome). is_record x.act) same ∙ sym e

    by_test : (b : Bool) → b ≡ is_record o.act → (course_after c (call ∷ (if b then did now ∷ [] else []))).added ≡ c.added ++ records_of o.act t.incoming
    by_test false e =
        ap (λ (b : Bool). (if b then record (called c call) { waiting = Some w } else counting (called c call) here t.incoming).added) (test false e)
        ∙ ap (λ (x : Outcome). c.added ++ records_of x.act t.incoming) same
    by_test true e =
        let d : Course = next_course c call in
        let waits : d.waiting ≡ Some w = ap (λ (b : Bool). (if b then record (called c call) { waiting = Some w } else counting (called c call) here t.incoming).waiting) (test true e) in
        let kept : d.added ≡ c.added = ap (λ (b : Bool). (if b then record (called c call) { waiting = Some w } else counting (called c call) here t.incoming).added) (test true e) in
        let pends : d.state.pending ≡ Some o =
        ap (λ (x : State). x.pending) (state_is_run c (call ∷ []) ∙ ap (λ (x : State). step x call) is) ∙ ap (λ (a : Bool). (if a then record got { pending = Some o } else reply_applied more o now).pending) (sym e)
        in
        did_adds d now o w pends waits ∙ ap (λ (rs : List InboxRecord). rs ++ records_of o.act t.incoming) kept

-- held messages that are ready are applied
helds_add : (c : Course) (m : State) (k : ℕ) → c.state ≡ m → k ≤ length (ready_in m) → (course_after c (replicate k held_done)).added ≡ c.added ++ applies (take k (ready_in m))
helds_add c m zero is few = sym (append-nil c.added)
helds_add c m (suc k) is few =
    let a = awaited_in m k few in
    let d : Course = next_course c held_done in
    let one : List InboxRecord = InboxRecord.apply a.first ∷ [] in
    let rest : List InboxRecord = applies (take k (ready_in (step m held_done))) in
    let here : d.added ≡ c.added ++ one = ap (λ (o : Option Numbered). (next_held (called c held_done) o).added) (ap (λ (x : State). front_of x) is ∙ a.front_is) in
    let then_is : d.state ≡ step m held_done = state_is_run c (held_done ∷ []) ∙ ap (λ (x : State). step x held_done) is in
    helds_add d (step m held_done) k then_is (fewer m k a few)
    ∙ (ap (λ (rs : List InboxRecord). rs ++ rest) here ∙ (append_assoc c.added one rest ∙ ap (λ (ms : List Numbered). c.added ++ applies (take (suc k) ms)) (sym a.ready_is)))

-- a frame, with as many of them
partly_adds : (now : ℕ) (c : Course) (l : Line) (t : TakenFrame) → c.state ≡ l.machine → t.recorded ≡ is_record (reply_at now l t).act → t.helds ≤ length (ready_behind now l t)
    → (course_after c (frame_calls now t)).added ≡ c.added ++ (records_of (reply_at now l t).act t.incoming ++ applies (take t.helds (ready_behind now l t)))
partly_adds now c l t is recorded few =
    let act : List Call = act_calls now t in
    let d : Course = course_after c act in
    let records : List InboxRecord = records_of (reply_at now l t).act t.incoming in
    let held : List InboxRecord = applies (take t.helds (ready_behind now l t)) in
    let then_is : d.state ≡ run l.machine act = state_is_run c act ∙ ap (λ (x : State). run x act) is in
    ap (λ (e : Course). e.added) (after_append c act (replicate t.helds held_done))
    ∙ (helds_add d (run l.machine act) t.helds then_is few ∙ (ap (λ (rs : List InboxRecord). rs ++ held) (act_adds now c l t is recorded) ∙ append_assoc c.added records held))

frame_adds : (now : ℕ) (c : Course) (l : Line) (t : TakenFrame) → c.state ≡ l.machine → IsTaken now l t → (course_after c (frame_calls now t)).added ≡ c.added ++ adds now l t
unfolding adds
frame_adds now c l t is k =
    let all = k.helds in
    partly_adds now c l t is k.recorded (omega (arith, all))
    ∙ ap (λ (ms : List Numbered). c.added ++ (records_of (reply_at now l t).act t.incoming ++ applies ms)) (ap (λ (n : ℕ). take n (ready_behind now l t)) k.helds ∙ take-length (ready_behind now l t))

frames_add : (h : List Entry) (now : ℕ) (l : Line) (frames : List TakenFrame) (c : Course) → Steady h c l.machine → IsDrained l.machine → AreTaken now l frames → (course_after c (calls_of_frames now frames)).added ≡ c.added ++ added now l frames
unfolding line_after
frames_add h now l [] c s drained k = sym (append-nil c.added)
frames_add h now l (t ∷ later) c s drained k =
    let x : Goes h c l.machine (frame_calls now t) = frame_goes h now c l t s drained k.0 in
    let d : Course = course_after c (frame_calls now t) in
    ap (λ (e : Course). e.added) (after_append c (frame_calls now t) (calls_of_frames now later))
    ∙ (frames_add h now (line_after now l t) later d x.after (frame_drained now l t k.0) k.1
    ∙ (ap (λ (rs : List InboxRecord). rs ++ added now (line_after now l t) later) (frame_adds now c l t s.is k.0)
    ∙ append_assoc c.added (adds now l t) (added now (line_after now l t) later)))

-- calls that add nothing, and then frames
first_frames : (h : List Entry) (old l : Line) (now : ℕ) (frames : List TakenFrame) (c : Course) → Steady h c old.machine → IsDrained old.machine → l.machine ≡ run old.machine (first_calls now) → AreTaken now l frames
    → (course_after (course_after c (first_calls now)) (calls_of_frames now frames)).added ≡ c.added ++ added now l frames
first_frames h old l now frames c s drained is k =
    let x : Goes h c old.machine (first_calls now) = first_go h c old.machine now s in
    let d : Course = course_after c (first_calls now) in
    frames_add h now l frames d (subst (λ (m : State). Steady h d m) (sym is) x.after) (subst IsDrained (sym is) (first_drained old.machine now drained)) k ∙ ap (λ (rs : List InboxRecord). rs ++ added now l frames) (add_nothing c (first_calls now) (tt, (tt, tt)))

pub turn_adds : TurnAdds
turn_adds h before after old new (only_sends now sent lost) c s k =
    add_nothing c (first_calls now ++ sending_calls sent lost) (tt, (tt, sending_adds sent lost)) ∙ sym (append-nil c.added)
turn_adds h before after old new (works w) c s k =
    let d : Course = course_after c (first_calls w.now) in
    let frames : List Call = calls_of_frames w.now w.frames in
    let rest : List Call = closing_calls w ++ (outbox_calls w ++ sending_calls w.sent w.lost) in
    ap (λ (e : Course). e.added) (after_append d frames rest)
    ∙ (add_nothing (course_after d frames) rest (behind_frames w)
    ∙ first_frames h old (line_received old w.now w.received w.got) w.now w.frames c (steady_at h c old s) s.drained refl k.served.frames)
turn_adds h before after old new (link_lost now) c s k = add_nothing c (first_calls now ++ link_end ∷ []) (tt, (tt, (tt, tt))) ∙ sym (append-nil c.added)
turn_adds h before after old new (cut_short now received frames refused) c s k = absurd k
turn_adds h before after old new not_begun c s k = absurd k

-- an act that is no record adds nothing
pub none_recorded : (a : Act) (i : Incoming) → is_record a ≡ false → records_of a i ≡ []
none_recorded acts.Nothing i e = refl
none_recorded (acts.Apply n) i e = absurd (true≢false e)
none_recorded (acts.Skip from count) i e = absurd (true≢false e)
none_recorded acts.Negotiated i e = absurd (true≢false e)
none_recorded (acts.PeerFinished last) i e = absurd (true≢false e)
none_recorded (acts.Told from count) i e = refl
none_recorded acts.Ended i e = refl

-- a frame whose act is still to be done, or is no record, adds nothing
frame_adds_nothing : (d : Course) (incoming : Incoming) (at now : ℕ) → (next_course d (frame incoming at now)).added ≡ d.added
frame_adds_nothing d incoming at now = by_test (is_record o.act) refl
  where
    o : Outcome
    o = reply_of (around d.state at now) d.state.facts incoming

    w : Waiting
    w = record { incoming = incoming; at = at; moment = now }

    by_test : (b : Bool) → is_record o.act ≡ b
        → (if b then record (called d (frame incoming at now)) { waiting = Some w } else counting (called d (frame incoming at now)) o incoming).added ≡ d.added
    by_test true e = refl
    by_test false e = ap (λ (rs : List InboxRecord). d.added ++ rs) (none_recorded o.act incoming e) ∙ append-nil d.added

-- and what stood before a refusal
refused_adds : (now : ℕ) (c : Course) (l : Line) (r : Refusal) → c.state ≡ l.machine → IsRefused now l r → (course_after c (refused_calls now r)).added ≡ c.added ++ stood now l r
refused_adds now c l (of_act t) is k = frame_adds_nothing c t.incoming t.at now ∙ sym (append-nil c.added)
refused_adds now c l (of_held t m) is k = partly_adds now c l t is k.recorded (helds_ready now l t m k)

pub cut_adds : CutAdds
cut_adds h old now received frames None c s k =
    let l : Line = line_received old now received k.got in
    first_frames h old l now frames c (steady_at h c old s) s.drained refl k.taken ∙ ap (λ (rs : List InboxRecord). c.added ++ rs) (sym (append-nil (added now l frames)))
cut_adds h old now received frames (Some r) c s k =
    let l : Line = line_received old now received k.got in
    let behind : Line = lines_after now l frames in
    let first : List Call = first_calls now in
    let took : List Call = calls_of_frames now frames in
    let d : Course = course_after (course_after c first) took in
    let is : d.state ≡ behind.machine =
    state_is_run (course_after c first) took ∙ (ap (λ (x : State). run x took) (state_is_run c first ∙ ap (λ (x : State). run x first) s.machine) ∙ sym (frames_make_calls now l frames)) in
    ap (λ (e : Course). e.added) (after_append c first (took ++ refused_calls now r) ∙ after_append (course_after c first) took (refused_calls now r))
    ∙ (refused_adds now d behind r is k.is
    ∙ (ap (λ (rs : List InboxRecord). rs ++ stood now behind r) (first_frames h old l now frames c (steady_at h c old s) s.drained refl k.taken)
    ∙ append_assoc c.added (added now l frames) (stood now behind r)))
