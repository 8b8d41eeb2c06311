-- What a turn makes of the moments of its end: it hears what is under way to it, and speaks within its interval.
use Rattle.std.proofs.Common.{◌≡◌, ◌⊎◌, inl, inr, ℕ, ◌+◌, ◌-◌, ◌≤◌, ◌&&◌, Bool, true, false, if◌then◌else◌, List, [], ◌∷◌, ◌++◌, length, map, min, Option, Some, None, refl, sym, ap, subst, ◌∙◌, arith, true≢false, length-append, zero, suc}
use Rattle.std.specs.Prelude.{⊤, is_some, is_none, IsSome, IfSome, replicate}
use Rattle.std.specs.List.{AllByRecursion}
use Rattle.std.proofs.lemmas.Bool.{leb-false}
use Rattle.session_model.specs.Journal.{Entry, History, BeginsHistory}
use Rattle.session_model.proofs.Lists.{all_append}
use Rattle.fixp_msgs.specs.declared.numbering.Range.{Range}
use Rattle.fixp_msgs.specs.Message.{Message}
use Rattle.fixp_msgs.specs.Canonical.{frame_bytes}
use Rattle.fixp_msgs.proofs.Sizes.{frame_bytes_least}
use Rattle.fixp_shake.specs.declared.violation.Violation.{Violation}
use Rattle.fixp_shake.specs.Phases.{is_established}
use Rattle.gw_links.specs.Links.{LinkTold, Carried}
use Rattle.fixp_replies.specs.declared.act.Ending.{Ending}
use Rattle.fixp_replies.specs.declared.facts.Facts.{Facts}
use Rattle.fixp_replies.specs.Acts.{is_record}
use Rattle.fixp_replies.specs.Facts.{Around}
use Rattle.fixp_replies.specs.Outcomes.{Outcome}
use Rattle.fixp_replies.specs.Replies.{reply_of}
use Rattle.fixp_replies.specs.Events.{heartbeat, heartbeats, is_due, lateness}
use Rattle.fixp_machine.specs.Machine.{State, Call, begin, frame, bad_frame, did, tick, turn_done, closed, link_end, live, again, taken, reserve, held_done, around, bytes_of, sent_at, wrote, broken_by, served_again, step, run}
use Rattle.conn_turns.specs.Lines.{TakenFrame}
use Rattle.conn_turns.specs.Turns.{Turn, Work, IsFaithful, only_sends, works, link_lost, cut_short, not_begun, first_calls, calls_of_frames, closing_calls, again_calls, live_calls, finish_calls, outbox_calls, sending_calls, calls_of, payloads_from, served_of}
use Rattle.conn_turns.specs.Exact.{IsAsDue}
use Rattle.conn_turns.proofs.Taking.{run_append}
use Rattle.connection_laws.specs.Writing.{Piece}
use Rattle.connection_laws.specs.Courses.{Course}
use Rattle.turn_laws.specs.Legs.{is_lost, moment_of, IsTimelyTurn}
use Rattle.turn_laws.specs.Made.{MadeTurn}
use Rattle.turn_laws.proofs.Working.{turn_makes_calls}
use Rattle.honest_ends.specs.Worlds.{World, Step, meets, initiator_reads, acceptor_reads, initiator_does, acceptor_does, written, after, world_after}
use Rattle.honest_turns.specs.Steps.{does_all, frame_steps, frames_steps, initiator_steps, turned_step}
use Rattle.honest_turns.proofs.Reaching.{turned, after_turned}
use Rattle.drain_steps.proofs.Stepping.{does_end, does_home}
use Rattle.drain_steps.proofs.Beating.{Keeps, frames_keep}
use Rattle.drain_turns.specs.Joints.{Half, IsOn, IsUnread}
use Rattle.drain_turns.specs.Turning.{turn_at, TakesTurn, IsFree}
use Rattle.drain_turns.proofs.Resting.{rest_calls, done_same}
use Rattle.drain_turns.proofs.Turned.{again_of, moment_is, sends_not_free, rest_ends, tick_facts, done_serves, Worked, worked, reads_some}
use Rattle.drain_beats.proofs.Calling.{IsAt, Passes, run_passes, work_later, work_at}
use Rattle.drain_beats.proofs.Paying.{wrote_now}
use Rattle.drain_opening.proofs.Idling.{framed}
use Rattle.drain_opening.specs.Opening.{InTime, StepInTime, AllInTime, one_of, read_in, reads_in}

-- all calls of a turn come at its moment
pub turn_at_moment : (t : Turn) → is_lost t ≡ false → AllByRecursion (IsAt (moment_of t)) (calls_of t)
turn_at_moment (only_sends now sent true) sound = absurd (true≢false sound)
turn_at_moment (only_sends now sent false) sound = (tt, (refl, (tt, tt)))
turn_at_moment (works w) sound = (tt, (refl, work_at w))
turn_at_moment (link_lost now) sound = absurd (true≢false sound)
turn_at_moment (cut_short now received frames refused) sound = absurd (true≢false sound)
turn_at_moment not_begun sound = absurd (true≢false sound)

pub turn_passes : (now : ℕ) (old new : Half) (way left : List ℕ) → (t : TakesTurn now old new way left) → Passes now old.line.machine new.line.machine (written old.line.machine (calls_of t.turn))
turn_passes now old new way left t =
    subst (λ (m : State). Passes now old.line.machine m (written old.line.machine (calls_of t.turn))) (sym (turn_makes_calls old.seen new.seen old.line new.line t.turn t.made.is))
    (subst (λ (n : ℕ). Passes n old.line.machine (run old.line.machine (calls_of t.turn)) (written old.line.machine (calls_of t.turn))) (moment_is (moment_of t.turn) now old.line.machine.moment t.made.moment t.later)
    (run_passes (moment_of t.turn) old.line.machine (calls_of t.turn) (turn_at_moment t.turn t.sound)))

-- a frame that is taken is heard
heard_frames : (now : ℕ) (m : State) (frames : List TakenFrame) (rest : List Call) → 1 ≤ length frames → AllByRecursion (IsAt now) (calls_of_frames now frames ++ rest) → (run m (calls_of_frames now frames ++ rest)).last_received ≡ now
heard_frames now m [] rest some is = absurd (omega (arith, some))
heard_frames now m (t ∷ later) rest some is = by_heard (run_passes now u more is.1).heard
  where
    u : State
    u = step m (frame t.incoming t.at now)

    more : List Call
    more = (((if t.recorded then did now ∷ [] else []) ++ replicate t.helds held_done) ++ calls_of_frames now later) ++ rest

    o : Outcome
    o = reply_of (around m t.at now) m.facts t.incoming

    by_record : (b : Bool) → (framed b m t.incoming o now).last_received ≡ now
    by_record true = refl
    by_record false = refl

    by_heard : ((run u more).last_received ≡ u.last_received) ⊎ ((run u more).last_received ≡ now) → (run u more).last_received ≡ now
    by_heard (inl e) = e ∙ by_record (is_record o.act)
    by_heard (inr e) = e

-- a tick of an end that is established and serves nothing: it wrote within its interval, or a heartbeat is written
both_true : {A : Type 0} (a b c : Bool) (x : List A) → a ≡ true → b ≡ true → (if a && b && c then x else []) ≡ (if c then x else [])
both_true true true c x p q = refl
both_true false b c x p q = absurd (true≢false (sym p))
both_true true false c x p q = absurd (true≢false (sym q))

none_served : (o : Option Range) → is_some o ≡ false → is_none o ≡ true
none_served None e = refl
none_served (Some r) e = absurd (true≢false e)

tick_speaks : (m : State) (now : ℕ) → m.ending ≡ None → m.unsent ≡ [] → is_established m.facts.connection.phase ≡ true → is_some m.facts.connection.serving ≡ false → lateness (around m 0 now) m.facts m.start m.last_received ≡ None → 1 ≤ m.config.keepalive
    → now + 1 ≤ (run m (first_calls now)).last_sent + m.config.keepalive
tick_speaks m now going sent established free late some = by_end (is_some m.ending) (ap (λ (e : Option Ending). is_some e) going)
  where
    x : Around
    x = around m 0 now

    s : State
    s = step m reserve

    hb : List Message
    hb = heartbeats x m.facts m.last_sent m.unsent

    beat : State
    beat = wrote (record s { moment = now }) (bytes_of hb) now

    h : Message
    h = heartbeat x m.facts

    hb_is : hb ≡ (if is_due x m.last_sent then h ∷ [] else [])
    hb_is = ap (λ (bs : List ℕ). heartbeats x m.facts m.last_sent bs) sent
        ∙ both_true (is_established m.facts.connection.phase) (is_none m.facts.connection.serving) (is_due x m.last_sent) (h ∷ []) established (none_served m.facts.connection.serving free)

    at_now : sent_at m.last_sent (bytes_of (h ∷ [])) now ≡ now
    at_now = wrote_now now m.last_sent (bytes_of (h ∷ [])) (let least = frame_bytes_least h in let size = length-append (frame_bytes h) [] in omega (arith, least, size))

    by_due : (b : Bool) → is_due x m.last_sent ≡ b → now + 1 ≤ sent_at m.last_sent (bytes_of (if b then h ∷ [] else [])) now + m.config.keepalive
    by_due true e = let at = at_now in omega (arith, at, some)
    by_due false e = let few = leb-false m.config.keepalive (now - m.last_sent) e in omega (arith, few)

    beats : now + 1 ≤ beat.last_sent + m.config.keepalive
    beats = subst (λ (ms : List Message). now + 1 ≤ sent_at m.last_sent (bytes_of ms) now + m.config.keepalive) (sym hb_is) (by_due (is_due x m.last_sent) refl)

    by_fault : (v : Option Violation) → v ≡ None → now + 1 ≤ (broken_by beat v now).last_sent + m.config.keepalive
    by_fault None e = beats
    by_fault (Some v) e = absurd (cc e)

    by_end : (b : Bool) → b ≡ false → now + 1 ≤ (if b then record s { moment = now } else broken_by beat (lateness (around s 0 now) s.facts s.start s.last_received) now).last_sent + m.config.keepalive
    by_end true e = absurd (true≢false e)
    by_end false e = by_fault (lateness (around s 0 now) s.facts s.start s.last_received) late

-- an end that serves a range sends some of it again, and that now
rest_at : (now : ℕ) (lives : Option (List (List ℕ))) (finish : Option ℕ) (sent : List ℕ) → AllByRecursion (IsAt now) ((live_calls now lives ++ finish_calls now finish) ++ taken (length sent) ∷ [])
rest_at now None None sent = (tt, tt)
rest_at now None (Some n) sent = (refl, (tt, tt))
rest_at now (Some l) None sent = (refl, (tt, tt))
rest_at now (Some l) (Some n) sent = (refl, (refl, (tt, tt)))

again_now : (m : State) (now : ℕ) (agains lives : Option (List (List ℕ))) (finish : Option ℕ) (sent : List ℕ) (due : List (List ℕ)) (r : Range) → m.facts.connection.serving ≡ Some r → IsAsDue (Some due) agains → IfSome agains (λ p. 1 ≤ length p)
    → (run m ((again_calls now agains ++ (live_calls now lives ++ finish_calls now finish)) ++ taken (length sent) ∷ [])).last_sent ≡ now
again_now m now None lives finish sent due r serving sames some = absurd sames
again_now m now (Some []) lives finish sent due r serving sames some = absurd (omega (arith, some))
again_now m now (Some (p ∷ payloads)) lives finish sent due r serving sames some = by_last (run_passes now u more (rest_at now lives finish sent)).last
  where
    u : State
    u = step m (again (p ∷ payloads) now)

    more : List Call
    more = (live_calls now lives ++ finish_calls now finish) ++ taken (length sent) ∷ []

    at_now : u.last_sent ≡ now
    at_now = ap (λ (o : Option Range). (served_again m o (p ∷ payloads) now).last_sent) serving

    by_last : ((run u more).last_sent ≡ u.last_sent) ⊎ (((run u more).last_sent ≡ now) × (1 ≤ length (written u more))) → (run u more).last_sent ≡ now
    by_last (inl e) = e ∙ at_now
    by_last (inr e) = e.0

-- steps without a tick are in time
abbrev IsUntimed : Call → Type 0
IsUntimed (tick now) = ⊥
IsUntimed call = ⊤

abbrev NoTick : Step → Type 0
NoTick (initiator_does call) = IsUntimed call
NoTick (acceptor_does call) = IsUntimed call
NoTick s = ⊤

untimed_call : (s : State) (call : Call) → IsUntimed call → InTime s call
untimed_call s (begin now) is = tt
untimed_call s (frame incoming at now) is = tt
untimed_call s (bad_frame at now) is = tt
untimed_call s (did now) is = tt
untimed_call s (tick now) is = absurd is
untimed_call s (turn_done now) is = tt
untimed_call s (closed last now) is = tt
untimed_call s link_end is = tt
untimed_call s (live payloads now) is = tt
untimed_call s (again payloads now) is = tt
untimed_call s (taken count) is = tt
untimed_call s reserve is = tt
untimed_call s held_done is = tt

untimed : (w : World) (steps : List Step) → AllByRecursion NoTick steps → AllInTime w steps
untimed w [] is = tt
untimed w (s ∷ later) is = (one s is.0, untimed (after w s) later is.1)
  where
    one : (s : Step) → NoTick s → StepInTime w s
    one (meets now_i now_a) k = tt
    one (initiator_reads at now) k = tt
    one (acceptor_reads at now) k = tt
    one (initiator_does call) k = untimed_call w.initiator call k
    one (acceptor_does call) k = untimed_call w.acceptor call k

helds_untimed : (n : ℕ) → AllByRecursion NoTick (does_all (replicate n held_done))
helds_untimed zero = tt
helds_untimed (suc n) = (tt, helds_untimed n)

frames_untimed : (now : ℕ) (frames : List TakenFrame) → AllByRecursion NoTick (frames_steps now frames)
frames_untimed now [] = tt
frames_untimed now (t ∷ later) = all_append NoTick (frame_steps now t) (frames_steps now later) (tt, helds_untimed t.helds) (frames_untimed now later)

rest_untimed : (now : ℕ) (agains lives : Option (List (List ℕ))) (finish : Option ℕ) (sent : List ℕ) → AllByRecursion NoTick (does_all (rest_calls now agains lives finish sent))
rest_untimed now None None None sent = (tt, (tt, tt))
rest_untimed now None None (Some n) sent = (tt, (tt, (tt, tt)))
rest_untimed now None (Some l) None sent = (tt, (tt, (tt, tt)))
rest_untimed now None (Some l) (Some n) sent = (tt, (tt, (tt, (tt, tt))))
rest_untimed now (Some a) None None sent = (tt, (tt, (tt, tt)))
rest_untimed now (Some a) None (Some n) sent = (tt, (tt, (tt, (tt, tt))))
rest_untimed now (Some a) (Some l) None sent = (tt, (tt, (tt, (tt, tt))))
rest_untimed now (Some a) (Some l) (Some n) sent = (tt, (tt, (tt, (tt, (tt, tt)))))

-- steps behind others, and those of the other end
pub timely_append : (w : World) (first later : List Step) → AllInTime w first → AllInTime (world_after w first) later → AllInTime w (first ++ later)
timely_append w [] later a b = b
timely_append w (s ∷ first) later a b = (a.0, timely_append (after w s) first later a.1 b)

pub reads_append : (w : World) (first later : List Step) → reads_in w (first ++ later) ≡ reads_in w first + reads_in (world_after w first) later
reads_append w [] later = none_first (reads_in w later)
  where
    none_first : (a : ℕ) → a ≡ 0 + a
    none_first a = omega arith
reads_append w (s ∷ first) later = let e = reads_append (after w s) first later in by_numbers (read_in w s) (reads_in (after w s) (first ++ later)) (reads_in (after w s) first) (reads_in (world_after (after w s) first) later) e
  where
    by_numbers : (a b c d : ℕ) → b ≡ c + d → a + b ≡ (a + c) + d
    by_numbers a b c d e = omega arith

pub timely_turned : (w : World) (steps : List Step) → AllInTime w steps → AllInTime (turned w) (map turned_step steps)
timely_turned w [] a = tt
timely_turned w (s ∷ later) a = (one s a.0, subst (λ (v : World). AllInTime v (map turned_step later)) (sym (after_turned w s)) (timely_turned (after w s) later a.1))
  where
    one : (s : Step) → StepInTime w s → StepInTime (turned w) (turned_step s)
    one (meets now_i now_a) k = tt
    one (initiator_reads at now) k = tt
    one (acceptor_reads at now) k = tt
    one (initiator_does call) k = k
    one (acceptor_does call) k = k

pub reads_turned : (w : World) (steps : List Step) → reads_in (turned w) (map turned_step steps) ≡ reads_in w steps
reads_turned w [] = refl
reads_turned w (s ∷ later) = by_numbers (read_in (turned w) (turned_step s)) (read_in w s) (reads_in (after (turned w) (turned_step s)) (map turned_step later)) (reads_in (after w s) later) (one s)
    (ap (λ (v : World). reads_in v (map turned_step later)) (after_turned w s) ∙ reads_turned (after w s) later)
  where
    one : (s : Step) → read_in (turned w) (turned_step s) ≡ read_in w s
    one (meets now_i now_a) = refl
    one (initiator_reads at now) = refl
    one (acceptor_reads at now) = refl
    one (initiator_does call) = refl
    one (acceptor_does call) = refl

    by_numbers : (a b c d : ℕ) → a ≡ b → c ≡ d → a + c ≡ b + d
    by_numbers a b c d e f = omega arith

-- What a turn makes of time, in the world as its end sees it. Where the end is free, it hears what is under way to it, and speaks within its interval
pub record Times (w : World) (now : ℕ) (old new : Half) (steps : List Step) : Type 0 where
  pub timely : AllInTime w steps
  pub hears : IsFree old now → 1 ≤ length w.homeward → new.line.machine.last_received ≡ now
  pub reads : IsFree old now → 1 ≤ length w.homeward → 1 ≤ reads_in w steps
  pub speaks : IsFree old now → is_established old.line.machine.facts.connection.phase ≡ true → (now + 1 ≤ new.line.machine.last_sent + old.line.machine.config.keepalive) ⊎ IsSome new.line.machine.ending

abbrev pub late_at : ℕ → State → Option Violation
late_at now m = lateness (around m 0 now) m.facts m.start m.last_received

-- the first steps of a turn
first_timely : (w : World) (m : State) (at now : ℕ) (more : List Step) → step w.initiator reserve ≡ step m reserve → at ≡ now → late_at now m ≡ None → AllInTime (world_after w (does_all (first_calls at))) more → AllInTime w (does_all (first_calls at) ++ more)
first_timely w m at now more alike now_is late rest = (tt, (ap (λ (x : State). late_at at x) alike ∙ (ap (λ (n : ℕ). late_at n m) now_is ∙ late), rest))

sends_times : (outbox : History) (b : Course) (w : World) (now : ℕ) (old new : Half) (way left : List ℕ) (at : ℕ) (sent : List ℕ) (told told' : LinkTold) (carried carried' : Option Carried) (clock : ℕ)
    → IsOn outbox b old w.initiator → old.line.machine.ending ≡ None → MadeTurn true (turn_at old told carried clock) (turn_at new told' carried' now) (only_sends at sent false) → old.line.machine.moment ≤ now
    → late_at now old.line.machine ≡ None → Times w now old new (initiator_steps (only_sends at sent false))
sends_times outbox b w now old new way left at sent told told' carried carried' clock on going made later late = record {
  timely = first_timely w old.line.machine at now (does_all (taken (length sent) ∷ [])) on.goes.alike now_is late (tt, tt);
  hears = λ free some. absurd (sends_not_free now old at now_is going made.does.0 free);
  reads = λ free some. absurd (sends_not_free now old at now_is going made.does.0 free);
  speaks = λ free established. absurd (sends_not_free now old at now_is going made.does.0 free);
}
  where
    now_is : at ≡ now
    now_is = moment_is at now old.line.machine.moment made.moment later

works_times : (outbox : History) (ha : List Entry) (b : Course) (w : World) (now : ℕ) (old new : Half) (way left : List ℕ) (theirs : State) (k : Work) (told told' : LinkTold) (carried carried' : Option Carried) (clock : ℕ)
    → IsOn outbox b old w.initiator → IsUnread w.homeward theirs old.line.held way → theirs.unsent ≡ [] → old.line.machine.ending ≡ None → 4 ≤ old.line.per_turn → old.line.per_turn ≤ 256
    → (made : MadeTurn true (turn_at old told carried clock) (turn_at new told' carried' now) (works k)) → told.waits ≡ k.received ++ left → way ≡ k.received ++ left → told.over ≡ false
    → k.lost ≡ false → old.line.machine.moment ≤ now → IsFaithful (works k) → IsTimelyTurn (works k) → BeginsHistory new.seen outbox → IfSome k.again (λ p. 1 ≤ length p) → late_at now old.line.machine ≡ None → 1 ≤ old.line.machine.config.keepalive
    → Times w now old new (initiator_steps (works k))
works_times outbox ha b w now old new way left theirs k told told' carried carried' clock on homeward all_sent going least most made waits way_is link_on sound later faithful timely begins again_some late some = record {
  timely = subst (λ (ss : List Step). AllInTime w ss) (sym d.steps)
      (first_timely w m k.now now (frames_steps k.now k.frames ++ does_all rest) on.goes.alike now_is late
      (untimed (world_after w (does_all (first_calls k.now))) (frames_steps k.now k.frames ++ does_all rest)
      (all_append NoTick (frames_steps k.now k.frames) (does_all rest) (frames_untimed k.now k.frames) (rest_untimed k.now k.again k.live k.finish k.sent))));
  hears = λ free here. ap (λ (x : State). x.last_received) machine_is ∙ (heard_frames k.now u k.frames (closing_calls k ++ (outbox_calls k ++ sending_calls k.sent k.lost)) (taken_some free here) (work_at k) ∙ now_is);
  reads = λ free here. subst (λ (ss : List Step). 1 ≤ reads_in w ss) (sym d.steps) (by_frames k.frames refl (taken_some free here) here);
  speaks = λ free established. by_serving free established (is_some m.facts.connection.serving) refl;
}
  where
    m : State
    m = old.line.machine

    u : State
    u = run m (first_calls k.now)

    rest : List Call
    rest = rest_calls k.now k.again k.live k.finish k.sent

    now_is : k.now ≡ now
    now_is = moment_is k.now now old.line.machine.moment made.moment later

    d : Worked outbox ha w old new way left k
    d = worked outbox ha b w old new way left theirs k told told' on homeward all_sent faithful timely begins made.is sound link_on waits way_is made.does.1

    machine_is : new.line.machine ≡ run u (work_later k)
    machine_is = turn_makes_calls old.seen new.seen old.line new.line (works k) made.is

    taken_some : IsFree old now → 1 ≤ length w.homeward → 1 ≤ length k.frames
    taken_some free here = let size = reads_some outbox ha w now old new way left k d now_is going least most free here in let same = d.counts in omega (arith, size, same)

    by_frames : (fs : List TakenFrame) → k.frames ≡ fs → 1 ≤ length fs → 1 ≤ length w.homeward → 1 ≤ reads_in w (does_all (first_calls k.now) ++ (frames_steps k.now k.frames ++ does_all rest))
    by_frames [] e none here = absurd (omega (arith, none))
    by_frames (t ∷ ts) e more here = subst (λ (xs : List TakenFrame). 1 ≤ reads_in w (does_all (first_calls k.now) ++ (frames_steps k.now xs ++ does_all rest))) (sym e)
        (by_way w.homeward here (reads_in (after (world_after w (does_all (first_calls k.now))) (initiator_reads t.at k.now)) ((does_all (replicate t.helds held_done) ++ frames_steps k.now ts) ++ does_all rest)))
      where
        by_way : (way : List Piece) → 1 ≤ length way → (n : ℕ) → 1 ≤ 0 + (0 + (one_of way + n))
        by_way [] none n = absurd (omega (arith, none))
        by_way (p ∷ later) some n = omega arith

    -- the machine behind the frames
    to_rest : new.line.machine ≡ run d.r.machine rest
    to_rest = turn_makes_calls old.seen new.seen old.line new.line (works k) made.is ∙ (ap (λ (cs : List Call). run m cs) d.calls
        ∙ (run_append u (calls_of_frames k.now k.frames) rest ∙ ap (λ (x : State). run x rest) (sym d.ran)))

    established_speaks : IsFree old now → is_established m.facts.connection.phase ≡ true → is_some m.facts.connection.serving ≡ false → now + 1 ≤ new.line.machine.last_sent + m.config.keepalive
    established_speaks free established none = by_last (run_passes k.now u (work_later k) (work_at k)).last
      where
        ticked : now + 1 ≤ u.last_sent + m.config.keepalive
        ticked = subst (λ (n : ℕ). now + 1 ≤ (run m (first_calls n)).last_sent + m.config.keepalive) (sym now_is) (tick_speaks m now going free.sent established none late some)

        by_last : ((run u (work_later k)).last_sent ≡ u.last_sent) ⊎ (((run u (work_later k)).last_sent ≡ k.now) × (1 ≤ length (written u (work_later k)))) → now + 1 ≤ new.line.machine.last_sent + m.config.keepalive
        by_last (inl e) = same new.line.machine.last_sent u.last_sent m.config.keepalive (ap (λ (x : State). x.last_sent) machine_is ∙ e) ticked
          where
            same : (l t k : ℕ) → l ≡ t → now + 1 ≤ t + k → now + 1 ≤ l + k
            same l t k e f = omega (arith, e, f)
        by_last (inr e) = later_on new.line.machine.last_sent k.now m.config.keepalive (ap (λ (x : State). x.last_sent) machine_is ∙ e.0) now_is some
          where
            later_on : (l n k : ℕ) → l ≡ n → n ≡ now → 1 ≤ k → now + 1 ≤ l + k
            later_on l n k e f g = omega (arith, e, f, g)

    by_serving : IsFree old now → is_established m.facts.connection.phase ≡ true → (s : Bool) → is_some m.facts.connection.serving ≡ s → (now + 1 ≤ new.line.machine.last_sent + m.config.keepalive) ⊎ IsSome new.line.machine.ending
    by_serving free established false none = inl (established_speaks free established none)
    by_serving free established true serves = by_end d.r.machine.ending refl
      where
        v0 : World
        v0 = world_after w (does_all (first_calls k.now))

        facts0 : v0.initiator.facts ≡ w.initiator.facts
        facts0 = ap (λ (x : State). x.facts) (does_end w (first_calls k.now)) ∙ tick_facts w.initiator k.now

        mine : is_some w.initiator.facts.connection.serving ≡ true
        mine = ap (λ (x : State). is_some x.facts.connection.serving) on.goes.alike ∙ serves

        keeps : Keeps v0.initiator (world_after v0 (frames_steps k.now k.frames)).initiator
        keeps = frames_keep v0 k.now k.frames d.read d.rest (does_home w (first_calls k.now) ∙ d.joins) d.counts

        r_serves : is_some d.r.machine.facts.connection.serving ≡ true
        r_serves = ap (λ (x : State). is_some x.facts.connection.serving) (sym d.at) ∙ keeps.serves (ap (λ (f : Facts). is_some f.connection.serving) facts0 ∙ mine)

        m1 : State
        m1 = step d.r.machine (turn_done k.now)

        m1_serves : is_some m1.facts.connection.serving ≡ true
        m1_serves = ap (λ (o : Option Range). is_some o) (done_serves d.r.machine k.now) ∙ r_serves

        by_end : (o : Option Ending) → d.r.machine.ending ≡ o → (now + 1 ≤ new.line.machine.last_sent + m.config.keepalive) ⊎ IsSome new.line.machine.ending
        by_end (Some x) e = inr (ap (λ (o : Option Ending). is_some o) (ap (λ (y : State). y.ending) to_rest ∙ (rest_ends d.r.machine k.now k.again k.live k.finish k.sent ∙ e)))
        by_end None e = inl (by_range m1.facts.connection.serving refl)
          where
            open_then : m1.ending ≡ None
            open_then = (done_same d.r.machine k.now).0 ∙ e

            by_range : (o : Option Range) → m1.facts.connection.serving ≡ o → now + 1 ≤ new.line.machine.last_sent + m.config.keepalive
            by_range None none = absurd (true≢false (sym m1_serves ∙ ap (λ (q : Option Range). is_some q) none))
            by_range (Some q) is =
                let g = d.gives (d.free_waits free.sent) in
                let sames = subst (λ (o : Option (List (List ℕ))). IsAsDue o k.again)
                (ap (λ (x : Option Ending). served_of old.line.per_turn (if is_some x then None else m1.facts.connection.serving) g.at_again) open_then ∙ ap (λ (o : Option Range). served_of old.line.per_turn o g.at_again) is) g.again in
                by_numbers new.line.machine.last_sent k.now m.config.keepalive
                (ap (λ (x : State). x.last_sent) to_rest ∙ again_now m1 k.now k.again k.live k.finish k.sent (payloads_from g.at_again q.from (min old.line.per_turn q.count)) q is sames again_some) now_is some
              where
                by_numbers : (l n k : ℕ) → l ≡ n → n ≡ now → 1 ≤ k → now + 1 ≤ l + k
                by_numbers l n k e f g = omega (arith, e, f, g)

-- of each turn
pub turn_times : (outbox : History) (ha : List Entry) (b : Course) (w : World) (now : ℕ) (old new : Half) (way left : List ℕ) (theirs : State) → IsOn outbox b old w.initiator → IsUnread w.homeward theirs old.line.held way → theirs.unsent ≡ []
    → old.line.machine.ending ≡ None → 4 ≤ old.line.per_turn → old.line.per_turn ≤ 256 → (t : TakesTurn now old new way left) → BeginsHistory new.seen outbox → IfSome (again_of t.turn) (λ p. 1 ≤ length p)
    → late_at now old.line.machine ≡ None → 1 ≤ old.line.machine.config.keepalive → Times w now old new (initiator_steps t.turn)
turn_times outbox ha b w now old new way left theirs on homeward all_sent going least most t begins again_some late some = by_turn t.turn t.made t.sound t.faithful t.timely again_some
  where
    by_turn : (turn : Turn) → MadeTurn true (turn_at old t.told t.carried t.clock) (turn_at new t.told_then t.carried_then now) turn → is_lost turn ≡ false → IsFaithful turn → IsTimelyTurn turn → IfSome (again_of turn) (λ p. 1 ≤ length p)
        → Times w now old new (initiator_steps turn)
    by_turn (only_sends at sent true) made sound faithful timely again_is = absurd (true≢false sound)
    by_turn (only_sends at sent false) made sound faithful timely again_is = sends_times outbox b w now old new way left at sent t.told t.told_then t.carried t.carried_then t.clock on going made t.later late
    by_turn (works k) made sound faithful timely again_is =
        let waited : t.told.waits ≡ k.received ++ left = made.moved.tells.waited ∙ ap (λ (bs : List ℕ). k.received ++ bs) t.leaves in
        works_times outbox ha b w now old new way left theirs k t.told t.told_then t.carried t.carried_then t.clock on homeward all_sent going least most made waited (sym t.waits ∙ waited) t.goes_on sound t.later faithful timely begins again_is late some
    by_turn (link_lost at) made sound faithful timely again_is = absurd (true≢false sound)
    by_turn (cut_short at received frames refused) made sound faithful timely again_is = absurd (true≢false sound)
    by_turn not_begun made sound faithful timely again_is = absurd (true≢false sound)
