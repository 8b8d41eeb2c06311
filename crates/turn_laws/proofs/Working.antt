-- Each call of a turn may come where it came.
use Rattle.turn_laws.proofs.Draining.{link_drained, first_drained, frames_drained, closing_drained, again_calls_drained, live_calls_drained, finish_calls_drained, sending_drained, helds_ready}
use Rattle.conn_turns.specs.Refusals.{IsRefused}
use Rattle.std.proofs.Common.{◌≡◌, ℕ, Bool, true, false, ◌&&◌, if◌then◌else◌, List, [], ◌∷◌, ◌++◌, length, Option, Some, None, refl, sym, ap, subst, ◌∙◌, true≢false, ◌<◌}
use Rattle.std.specs.Prelude.{IfSome, is_none, not, nat_lt}
use mathlib.Core.List.{IsPrefix}
use Rattle.session_model.specs.Journal.{Entry, History}
use Rattle.session_model.proofs.Lists.{prefix_trans}
use Rattle.sofh_frame.specs.Framing.{first_of}
use Rattle.fixp_replies.specs.declared.act.Ending.{Ending}
use Rattle.fixp_machine.specs.Machine.{State, Call, link_end, run, IsDrained, front_of}
use Rattle.conn_turns.specs.Lines.{Line, has_begun, lines_after}
use Rattle.conn_turns.specs.Frames.{is_unframed, unframed_at, is_bad}
use Rattle.conn_turns.specs.Turns.{Work, Turn, IsFaithful, only_sends, works, link_lost, cut_short, not_begun, first_calls, calls_of_frames, closing_calls, again_calls, live_calls, finish_calls, outbox_calls, sending_calls, calls_of, Refusal, of_act, of_held, refused_calls, served_of, served_now, live_beside, live_of}
use Rattle.fixp_machine.specs.Machine as calls
use Rattle.conn_turns.specs.Exact.{Served, closed_at}
use Rattle.conn_turns.proofs.Taking.{run_append, frames_make_calls, work_makes_calls, due_unless}
use Rattle.connection_laws.specs.Courses.{Course, course_after}
use Rattle.connection_laws.specs.Standing.{MayStand, AllMayStand}
use Rattle.turn_laws.specs.Turns.{line_received, IsTurn}
use Rattle.turn_laws.specs.Standing.{StandsAt, Has, TurnMayStand, CutMayStand}
use Rattle.turn_laws.proofs.Going.{Steady, Goes, nothing, is_open, may_append, and_then, first_go, frames_go, link_goes, closing_go, finish_goes, sending_go, partly_goes}
use Rattle.turn_laws.proofs.Outbox.{again_goes, live_goes}

-- bytes that no frame begins with are told where the connection is open
broken_open : (count : ℕ) (l : Line) (broken : Option ℕ) → broken ≡ unframed_at count l → IfSome broken (λ (_ : ℕ). l.machine.ending ≡ None)
broken_open count l broken is = subst (λ (o : Option ℕ). IfSome o (λ (_ : ℕ). l.machine.ending ≡ None)) (sym is) (by_test (is_unframed count l) refl)
  where
    by_ending : (e : Option Ending) (few b : Bool) → l.machine.ending ≡ e → (few && (is_none e && not (has_begun l)) && b) ≡ true → l.machine.ending ≡ None
    by_ending None few b k t = k
    by_ending (Some x) true b k t = absurd (true≢false (sym t))
    by_ending (Some x) false b k t = absurd (true≢false (sym t))

    by_test : (b : Bool) → is_unframed count l ≡ b → IfSome (if b then Some l.place else None) (λ (_ : ℕ). l.machine.ending ≡ None)
    by_test false e = tt
    by_test true e = by_ending l.machine.ending (nat_lt count l.per_turn) (is_bad (first_of l.held)) refl e

finish_go : (h : List Entry) (c : Course) (m : State) (now : ℕ) (finish : Option ℕ) → Steady h c m → IsDrained m → Goes h c m (finish_calls now finish)
finish_go h c m now None s drained = nothing h c m s
finish_go h c m now (Some last) s drained = finish_goes h c m last now s drained

-- entries go live where none was sent again
beside_goes : (h : List Entry) (c : Course) (m : State) (most now : ℕ) (seen : History) (again : Option (List (List ℕ))) → Steady h c m → IsPrefix seen.made h → length h < 1099511627776
    → Goes h c m (live_calls now (live_beside again (live_of most m seen)))
beside_goes h c m most now seen None s begins few = live_goes h c m most now seen s begins few
beside_goes h c m most now seen (Some again) s begins few = nothing h c m s

-- the outbox is served
outbox_goes : (h : List Entry) (c : Course) (before after : History) (l behind : Line) (w : Work) → Steady h c (closed_at l w) → IsDrained (closed_at l w) → Has h after → Served before after l behind w → IsFaithful (works w) → Goes h c (closed_at l w) (outbox_calls w)
outbox_goes h c before after l behind w s drained has v faithful =
    let k : State = closed_at l w in
    let agains : List Call = again_calls w.now w.again in
    let lives : List Call = live_calls w.now w.live in
    let ends : List Call = finish_calls w.now w.finish in
    let last : IsPrefix w.at_finish.made h = subst (λ (x : History). IsPrefix x.made h) (sym v.seen) has.begins in
    let mid : IsPrefix w.at_live.made h = prefix_trans w.at_live.made w.at_finish.made h v.seen_finish.made last in
    let first : IsPrefix w.at_again.made h = prefix_trans w.at_again.made w.at_live.made h v.seen_live.made mid in
    let x : Goes h c k agains = due_unless l (served_of l.per_turn (served_now k) w.at_again) w.again (λ (o : Option (List (List ℕ))). Goes h c k (again_calls w.now o)) (faithful.0 ∙ v.due_again) (nothing h c k s)
    (again_goes h c k l.per_turn w.now w.at_again s first) in
    let d : Course = course_after c agains in
    let m : State = run k agains in
    let y : Goes h d m lives = due_unless l (live_beside w.again (live_of l.per_turn m w.at_live)) w.live (λ (o : Option (List (List ℕ))). Goes h d m (live_calls w.now o)) (faithful.1 ∙ v.due_live) (nothing h d m x.after)
    (beside_goes h d m l.per_turn w.now w.at_live w.again x.after mid has.few) in
    and_then h c k agains (lives ++ ends) x (and_then h d m lives ends y (finish_go h (course_after d lives) (run m lives) w.now w.finish y.after
    (live_calls_drained m w.now w.live (again_calls_drained k w.now w.again drained))))

-- frames, what ends them, the outbox and the sending
work_goes : (h : List Entry) (c : Course) (before after : History) (l behind : Line) (w : Work) → Steady h c l.machine → IsDrained l.machine → Has h after → Served before after l behind w → IsFaithful (works w) → IsPrefix w.sent behind.machine.unsent
    → Goes h c l.machine (calls_of_frames w.now w.frames ++ (closing_calls w ++ (outbox_calls w ++ sending_calls w.sent w.lost)))
work_goes h c before after l behind w s drained has v faithful front =
    let frames : List Call = calls_of_frames w.now w.frames in
    let closing : List Call = closing_calls w in
    let outbox : List Call = outbox_calls w in
    let sending : List Call = sending_calls w.sent w.lost in
    let r : Line = lines_after w.now l w.frames in
    let made : r.machine ≡ run l.machine frames = frames_make_calls w.now l w.frames in
    let x : Goes h c l.machine frames = frames_go h w.now l w.frames c s drained v.frames in
    let clear : IsDrained r.machine = frames_drained w.now l w.frames drained v.frames in
    let d : Course = course_after c frames in
    let y : Goes h d r.machine closing = closing_go h d r.machine w.now w.broken w.link_over (subst (λ (m : State). Steady h d m) (sym made) x.after) clear (broken_open (length w.frames) r w.broken v.broken) in
    let e : Course = course_after d closing in
    let k : State = closed_at l w in
    let z : Goes h e k outbox = outbox_goes h e before after l behind w y.after (closing_drained r.machine w.now w.broken w.link_over clear) has v faithful in
    let is : behind.machine ≡ run k outbox = v.machine ∙ (run_append l.machine frames (closing ++ outbox) ∙ (ap (λ (m : State). run m (closing ++ outbox)) (sym made) ∙ run_append r.machine closing outbox)) in
    let last : Goes h (course_after e outbox) (run k outbox) sending = sending_go h (course_after e outbox) (run k outbox) w.sent w.lost z.after (subst (λ (m : State). IsPrefix w.sent m.unsent) is front) in
    and_then h c l.machine frames (closing ++ (outbox ++ sending)) x (subst (λ (m : State). Goes h d m (closing ++ (outbox ++ sending))) made
    (and_then h d r.machine closing (outbox ++ sending) y (and_then h e k outbox sending z last)))

turn_goes : (h : List Entry) (before after : History) (old new : Line) (t : Turn) (c : Course) → Steady h c old.machine → IsDrained old.machine → Has h after → IsTurn before after old new t → IsFaithful t → Goes h c old.machine (calls_of t)
turn_goes h before after old new (only_sends now sent lost) c s drained has k faithful =
    let x : Goes h c old.machine (first_calls now) = first_go h c old.machine now s in
    and_then h c old.machine (first_calls now) (sending_calls sent lost) x (sending_go h (course_after c (first_calls now)) (run old.machine (first_calls now)) sent lost x.after k.0.front)
turn_goes h before after old new (works w) c s drained has k faithful =
    let x : Goes h c old.machine (first_calls w.now) = first_go h c old.machine w.now s in
    and_then h c old.machine (first_calls w.now) (calls_of_frames w.now w.frames ++ (closing_calls w ++ (outbox_calls w ++ sending_calls w.sent w.lost))) x
    (work_goes h (course_after c (first_calls w.now)) before after (line_received old w.now w.received w.got) k.behind w x.after (first_drained old.machine w.now drained) has k.served faithful k.sends.front)
turn_goes h before after old new (link_lost now) c s drained has k faithful =
    let x : Goes h c old.machine (first_calls now) = first_go h c old.machine now s in
    and_then h c old.machine (first_calls now) (link_end ∷ []) x (link_goes h (course_after c (first_calls now)) (run old.machine (first_calls now)) x.after)
turn_goes h before after old new (cut_short now received frames refused) c s drained has k faithful = absurd k
turn_goes h before after old new not_begun c s drained has k faithful = absurd k

-- the machine behind a turn is what its calls make of it
pub turn_makes_calls : (before after : History) (old new : Line) (t : Turn) → IsTurn before after old new t → new.machine ≡ run old.machine (calls_of t)
turn_makes_calls before after old new (only_sends now sent lost) k = ap (λ (l : Line). l.machine) k.0.line ∙ sym (run_append old.machine (first_calls now) (sending_calls sent lost))
turn_makes_calls before after old new (works w) k = work_makes_calls before after old (line_received old w.now w.received w.got) k.behind new w refl k.served k.sends.line
turn_makes_calls before after old new (link_lost now) k = ap (λ (l : Line). l.machine) k.0 ∙ sym (run_append old.machine (first_calls now) (link_end ∷ []))
turn_makes_calls before after old new (cut_short now received frames refused) k = absurd k
turn_makes_calls before after old new not_begun k = absurd k

-- a whole turn leaves no held message to be applied
work_drained : (before after : History) (l behind : Line) (w : Work) → IsDrained l.machine → Served before after l behind w → IsDrained (run l.machine (calls_of_frames w.now w.frames ++ (closing_calls w ++ (outbox_calls w ++ sending_calls w.sent w.lost))))
work_drained before after l behind w drained v =
    let frames : List Call = calls_of_frames w.now w.frames in
    let again : List Call = again_calls w.now w.again in
    let lives : List Call = live_calls w.now w.live in
    let ends : List Call = finish_calls w.now w.finish in
    let sending : List Call = sending_calls w.sent w.lost in
    let m : State = run l.machine frames in
    let k : State = run m (closing_calls w) in
    let a : IsDrained m = subst IsDrained (frames_make_calls w.now l w.frames) (frames_drained w.now l w.frames drained v.frames) in
    let b : IsDrained k = closing_drained m w.now w.broken w.link_over a in
    let c : IsDrained (run k again) = again_calls_drained k w.now w.again b in
    let d : IsDrained (run (run k again) lives) = live_calls_drained (run k again) w.now w.live c in
    let e : IsDrained (run (run (run k again) lives) ends) = finish_calls_drained (run (run k again) lives) w.now w.finish d in
    let last : IsDrained (run (run (run (run k again) lives) ends) sending) = sending_drained (run (run (run k again) lives) ends) w.sent w.lost e in
    let joined : run l.machine (frames ++ (closing_calls w ++ (outbox_calls w ++ sending))) ≡ run (run (run (run k again) lives) ends) sending =
    run_append l.machine frames (closing_calls w ++ (outbox_calls w ++ sending)) ∙ (run_append m (closing_calls w) (outbox_calls w ++ sending) ∙ (run_append k (outbox_calls w) sending
    ∙ ap (λ (x : State). run x sending) (run_append k again (lives ++ ends) ∙ run_append (run k again) lives ends))) in
    subst IsDrained (sym joined) last

turn_drained : (before after : History) (old new : Line) (t : Turn) → IsDrained old.machine → IsTurn before after old new t → IsDrained (run old.machine (calls_of t))
turn_drained before after old new (only_sends now sent lost) d k = subst IsDrained (sym (run_append old.machine (first_calls now) (sending_calls sent lost)))
    (sending_drained (run old.machine (first_calls now)) sent lost (first_drained old.machine now d))
turn_drained before after old new (works w) d k = work_drained before after (line_received old w.now w.received w.got) k.behind w (first_drained old.machine w.now d) k.served
turn_drained before after old new (link_lost now) d k = link_drained (run old.machine (first_calls now)) (first_drained old.machine now d)
turn_drained before after old new (cut_short now received frames refused) d k = absurd k
turn_drained before after old new not_begun d k = absurd k

pub steady_at : (h : List Entry) (c : Course) (l : Line) → StandsAt h c l → Steady h c l.machine
steady_at h c l s = record { stands = s.stands; is = s.machine; done = s.done }

pub turn_may_stand : TurnMayStand
turn_may_stand h before after old new t c s has k faithful =
    let x : Goes h c old.machine (calls_of t) = turn_goes h before after old new t c (steady_at h c old s) s.drained has k faithful in
    let made : new.machine ≡ run old.machine (calls_of t) = turn_makes_calls before after old new t k in
    record {
      may = x.may;
      after = record { stands = x.after.stands; machine = x.after.is ∙ sym made; done = ap (λ (m : State). m.pending) made ∙ x.after.done; drained = ap (λ (m : State). front_of m) made ∙ turn_drained before after old new t s.drained k };
    }

-- the frame whose act was refused came on an open connection, and so did that behind which a held message was refused
refused_may : (h : List Entry) (c : Course) (l : Line) (now : ℕ) (r : Refusal) → Steady h c l.machine → IsDrained l.machine → IsRefused now l r → AllMayStand h c (refused_calls now r)
refused_may h c l now (of_act t) s drained k =
    (subst (λ (m : State). MayStand h m (calls.frame t.incoming t.at now)) (sym s.is) (record { may_call = (s.done, drained); comes = is_open h c l.machine s k.may.goes_on }), tt)
refused_may h c l now (of_held t m) s drained k = (partly_goes h now c l t s drained k.next k.recorded (helds_ready now l t m k)).may

pub cut_may_stand : CutMayStand
cut_may_stand h old (only_sends now sent lost) c s k = absurd k
cut_may_stand h old (works w) c s k = absurd k
cut_may_stand h old (link_lost now) c s k = absurd k
cut_may_stand h old (cut_short now received frames refusal) c s k = by_refused refusal k.is
  where
    l : Line
    l = line_received old now received k.got

    first : List Call
    first = first_calls now

    took : List Call
    took = calls_of_frames now frames

    x : Goes h c old.machine first
    x = first_go h c old.machine now (steady_at h c old s)

    d : Course
    d = course_after c first

    y : Goes h d l.machine took
    y = frames_go h now l frames d x.after (first_drained old.machine now s.drained) k.taken

    by_refused : (o : Option Refusal) → IfSome o (IsRefused now (lines_after now l frames)) → AllMayStand h c (calls_of (cut_short now received frames o))
    by_refused None next = (and_then h c old.machine first took x y).may
    by_refused (Some r) next =
        may_append h c first (took ++ refused_calls now r) x.may
        (may_append h d took (refused_calls now r) y.may
        (refused_may h (course_after d took) (lines_after now l frames) now r (subst (λ (m : State). Steady h (course_after d took) m) (sym (frames_make_calls now l frames)) y.after)
        (frames_drained now l frames (first_drained old.machine now s.drained) k.taken) next))
cut_may_stand h old not_begun c s k = absurd k
