-- What the calls of a turn make of the moment of the last message written, of the configuration, and of what is to be told at a turn's end.
use Rattle.std.proofs.Common.{◌≡◌, ◌⊎◌, inl, inr, ℕ, ◌+◌, ◌-◌, ◌≤◌, Bool, true, false, if◌then◌else◌, List, [], ◌∷◌, ◌++◌, length, Option, Some, None, refl, sym, ap, subst, ◌∙◌, arith, length-append, true≢false, zero, suc}
use Rattle.std.specs.Prelude.{⊤, is_some, replicate}
use Rattle.std.specs.List.{AllByRecursion}
use Rattle.session_model.specs.Inbox.{Numbered}
use Rattle.session_model.proofs.Lists.{all_append}
use Rattle.fixp_msgs.specs.declared.numbering.Range.{Range}
use Rattle.fixp_msgs.specs.Message.{Message}
use Rattle.flow_idem.specs.Runs.{runs_of}
use Rattle.fixp_shake.specs.declared.violation.Violation.{Violation}
use Rattle.fixp_replies.specs.Acts.{is_record}
use Rattle.fixp_replies.specs.declared.facts.Facts.{Facts}
use Rattle.fixp_replies.specs.Incoming.{Incoming, payload_in}
use Rattle.fixp_replies.specs.Outcomes.{Outcome, breaks}
use Rattle.fixp_replies.specs.Replies.{reply_of, reply_to_bad_frame}
use Rattle.fixp_replies.specs.Events.{Made, heartbeats, lateness, turn_ended, finish_told, outbox_finished, link_ending}
use Rattle.fixp_machine.specs.Machine.{State, Call, begin, frame, bad_frame, did, tick, turn_done, closed, link_end, live, again, taken, reserve, held_done, around, bytes_of, sent_at, wrote, made, reply_applied, held_with, done_pending, broken_by, served_again, held_applied, front_of, payload_frames, range_end, rest_of, step, run}
use Rattle.connection_laws.specs.Writing.{Piece, said_all, entries, said_with, said_breaking, range_closed, written_again, writes}
use Rattle.honest_ends.specs.Worlds.{written}
use Rattle.honest_ends.proofs.Returning.{said_behind}
use Rattle.conn_turns.specs.Lines.{TakenFrame, act_calls, frame_calls}
use Rattle.conn_turns.specs.Turns.{Work, calls_of_frames, bad_calls, end_calls, closing_calls, again_calls, live_calls, finish_calls, outbox_calls, sending_calls}
use Rattle.conn_turns.proofs.Taking.{run_append}

-- a call at this moment
abbrev pub IsAt : ℕ → Call → Type 0
IsAt now (begin at) = ⊥
IsAt now (frame incoming at moment) = moment ≡ now
IsAt now (bad_frame at moment) = moment ≡ now
IsAt now (did moment) = moment ≡ now
IsAt now (tick moment) = moment ≡ now
IsAt now (turn_done moment) = moment ≡ now
IsAt now (closed last moment) = moment ≡ now
IsAt now link_end = ⊤
IsAt now (live payloads moment) = moment ≡ now
IsAt now (again payloads moment) = moment ≡ now
IsAt now (taken count) = ⊤
IsAt now reserve = ⊤
IsAt now held_done = ⊤

-- The last message was written when it was before, or now, as one of these pieces; the last one was heard when it was before, or now. The moment of the connection's
-- beginning and the configuration are the same
pub record Passes (now : ℕ) (s t : State) (out : List Piece) : Type 0 where
  pub last : (t.last_sent ≡ s.last_sent) ⊎ ((t.last_sent ≡ now) × (1 ≤ length out))
  pub heard : (t.last_received ≡ s.last_received) ⊎ (t.last_received ≡ now)
  pub start : t.start ≡ s.start
  pub config : t.config ≡ s.config

pub passes_on : (now : ℕ) (s t u : State) (first later : List Piece) → Passes now s t first → Passes now t u later → Passes now s u (first ++ later)
passes_on now s t u first later a b = record { last = by_last b.last; heard = by_heard b.heard; start = b.start ∙ a.start; config = b.config ∙ a.config }
  where
    size : length (first ++ later) ≡ length first + length later
    size = length-append first later

    by_first : u.last_sent ≡ t.last_sent → (t.last_sent ≡ s.last_sent) ⊎ ((t.last_sent ≡ now) × (1 ≤ length first)) → (u.last_sent ≡ s.last_sent) ⊎ ((u.last_sent ≡ now) × (1 ≤ length (first ++ later)))
    by_first e (inl f) = inl (e ∙ f)
    by_first e (inr f) = let some = f.1 in let n = size in inr (e ∙ f.0, omega (arith, some, n))

    by_last : (u.last_sent ≡ t.last_sent) ⊎ ((u.last_sent ≡ now) × (1 ≤ length later)) → (u.last_sent ≡ s.last_sent) ⊎ ((u.last_sent ≡ now) × (1 ≤ length (first ++ later)))
    by_last (inl e) = by_first e a.last
    by_last (inr e) = let some = e.1 in let n = size in inr (e.0, omega (arith, some, n))

    by_before : u.last_received ≡ t.last_received → (t.last_received ≡ s.last_received) ⊎ (t.last_received ≡ now) → (u.last_received ≡ s.last_received) ⊎ (u.last_received ≡ now)
    by_before e (inl f) = inl (e ∙ f)
    by_before e (inr f) = inr (e ∙ f)

    by_heard : (u.last_received ≡ t.last_received) ⊎ (u.last_received ≡ now) → (u.last_received ≡ s.last_received) ⊎ (u.last_received ≡ now)
    by_heard (inl e) = by_before e a.heard
    by_heard (inr e) = inr e

-- what is written is written now, where there is no byte without a piece
written_now : (now before : ℕ) (bytes : List ℕ) (n : ℕ) → (n ≡ 0 → bytes ≡ []) → (sent_at before bytes now ≡ before) ⊎ ((sent_at before bytes now ≡ now) × (1 ≤ n))
written_now now before [] n h = inl refl
written_now now before (b ∷ bytes) zero h = absurd (cc (h refl))
written_now now before (b ∷ bytes) (suc n) h = inr (refl, omega arith)

none_said : (ms : List Message) → length (said_all ms) ≡ 0 → bytes_of ms ≡ []
none_said [] e = refl
none_said (m ∷ ms) e = absurd (omega (arith, e))

none_live : (payloads : List (List ℕ)) → length (entries payloads) ≡ 0 → payload_frames payloads ≡ []
none_live [] e = refl
none_live (p ∷ payloads) e = absurd (omega (arith, e))

none_again : (f : Facts) (payloads : List (List ℕ)) (rest : Option Range) → length (entries payloads ++ range_closed f rest) ≡ 0 → payload_frames payloads ++ range_end f rest ≡ []
none_again f [] None e = absurd (omega (arith, e))
none_again f [] (Some r) e = refl
none_again f (p ∷ payloads) rest e = absurd (omega (arith, e))

ticks : (now : ℕ) (s : State) → Passes now s (step s (tick now)) (writes s (tick now))
ticks now s = by_end (is_some s.ending)
  where
    hb : List Message
    hb = heartbeats (around s 0 now) s.facts s.last_sent s.unsent

    beat : State
    beat = wrote (record s { moment = now }) (bytes_of hb) now

    first : Passes now s beat (said_all hb)
    first = record { last = written_now now s.last_sent (bytes_of hb) (length (said_all hb)) (none_said hb); heard = inl refl; start = refl; config = refl }

    by_fault : (v : Option Violation) → Passes now beat (broken_by beat v now) (said_all (said_breaking s v now))
    by_fault None = record { last = inl refl; heard = inl refl; start = refl; config = refl }
    by_fault (Some v) = record {
      last = written_now now beat.last_sent (bytes_of (breaks (around s 0 now) s.facts v).written) (length (said_all (breaks (around s 0 now) s.facts v).written)) (none_said (breaks (around s 0 now) s.facts v).written);
      heard = inl refl;
      start = refl;
      config = refl;
    }

    late : Option Violation
    late = lateness (around s 0 now) s.facts s.start s.last_received

    by_end : (b : Bool) → Passes now s (if b then record s { moment = now } else broken_by beat late now) (if b then [] else said_all (hb ++ said_breaking s late now))
    by_end true = record { last = inl refl; heard = inl refl; start = refl; config = refl }
    by_end false = subst (λ (out : List Piece). Passes now s (broken_by beat late now) out) (sym (said_behind hb (said_breaking s late now)))
        (passes_on now s beat (broken_by beat late now) (said_all hb) (said_all (said_breaking s late now)) first (by_fault late))

frames : (now : ℕ) (s : State) (i : Incoming) (at : ℕ) → Passes now s (step s (frame i at now)) (writes s (frame i at now))
frames now s i at = by_record (is_record o.act)
  where
    o : Outcome
    o = reply_of (around s at now) s.facts i

    by_record : (b : Bool) → Passes now s (if b then record s { moment = now; last_received = now; room = s.room - 1; pending = Some o }
        else reply_applied (record s { moment = now; last_received = now; room = s.room - 1; held = held_with o.holds (payload_in i) s.held }) o now) (if b then [] else said_all o.written)
    by_record true = record { last = inl refl; heard = inr refl; start = refl; config = refl }
    by_record false = record { last = written_now now s.last_sent (bytes_of o.written) (length (said_all o.written)) (none_said o.written); heard = inr refl; start = refl; config = refl }

acts : (now : ℕ) (s : State) → Passes now s (step s (did now)) (writes s (did now))
acts now s = by_pending s.pending
  where
    by_pending : (p : Option Outcome) → Passes now s (done_pending s p now) (said_all (said_with p))
    by_pending None = record { last = inl refl; heard = inl refl; start = refl; config = refl }
    by_pending (Some o) = record { last = written_now now s.last_sent (bytes_of o.written) (length (said_all o.written)) (none_said o.written); heard = inl refl; start = refl; config = refl }

ends_turn : (now : ℕ) (s : State) → Passes now s (step s (turn_done now)) (writes s (turn_done now))
ends_turn now s = by_end (is_some s.ending)
  where
    m : Made
    m = turn_ended (around s 0 now) s.facts (runs_of s.untold)

    by_end : (b : Bool) → Passes now s (if b then record s { moment = now } else record (made (record s { moment = now }) m now) { untold = [] }) (if b then [] else said_all m.written)
    by_end true = record { last = inl refl; heard = inl refl; start = refl; config = refl }
    by_end false = record { last = written_now now s.last_sent (bytes_of m.written) (length (said_all m.written)) (none_said m.written); heard = inl refl; start = refl; config = refl }

finishes : (now : ℕ) (s : State) (last : ℕ) → Passes now s (step s (closed last now)) (writes s (closed last now))
finishes now s last = by_end (is_some s.ending)
  where
    m : Made
    m = finish_told (around s 0 now) s.facts last

    by_end : (b : Bool) → Passes now s (if b then record s { moment = now; facts = outbox_finished s.facts last } else made (record s { moment = now }) m now) (if b then [] else said_all m.written)
    by_end true = record { last = inl refl; heard = inl refl; start = refl; config = refl }
    by_end false = record { last = written_now now s.last_sent (bytes_of m.written) (length (said_all m.written)) (none_said m.written); heard = inl refl; start = refl; config = refl }

link_ends : (now : ℕ) (s : State) → Passes now s (step s link_end) []
link_ends now s = by_end (is_some s.ending)
  where
    by_end : (b : Bool) → Passes now s (if b then s else record s { ending = Some (link_ending (around s 0 s.moment) s.facts); pending = None; held = [] }) []
    by_end true = record { last = inl refl; heard = inl refl; start = refl; config = refl }
    by_end false = record { last = inl refl; heard = inl refl; start = refl; config = refl }

sends_again : (now : ℕ) (s : State) (payloads : List (List ℕ)) → Passes now s (step s (again payloads now)) (writes s (again payloads now))
sends_again now s payloads = by_range s.facts.connection.serving
  where
    by_range : (r : Option Range) → Passes now s (served_again s r payloads now) (written_again s.facts r payloads)
    by_range None = record { last = inl refl; heard = inl refl; start = refl; config = refl }
    by_range (Some r) = record {
      last = written_now now s.last_sent (payload_frames payloads ++ range_end s.facts (rest_of r (length payloads))) (length (entries payloads ++ range_closed s.facts (rest_of r (length payloads))))
          (none_again s.facts payloads (rest_of r (length payloads)));
      heard = inl refl;
      start = refl;
      config = refl;
    }

applies_held : (now : ℕ) (s : State) → Passes now s (step s held_done) []
applies_held now s = by_front (front_of s)
  where
    by_front : (m : Option Numbered) → Passes now s (held_applied s m) []
    by_front None = record { last = inl refl; heard = inl refl; start = refl; config = refl }
    by_front (Some m) = record { last = inl refl; heard = inl refl; start = refl; config = refl }

bad_frames : (now : ℕ) (s : State) (at : ℕ) → Passes now s (step s (bad_frame at now)) (writes s (bad_frame at now))
bad_frames now s at =
    let o = reply_to_bad_frame (around s at now) s.facts in
    record { last = written_now now s.last_sent (bytes_of o.written) (length (said_all o.written)) (none_said o.written); heard = inr refl; start = refl; config = refl }

call_passes : (now : ℕ) (s : State) (call : Call) → IsAt now call → Passes now s (step s call) (writes s call)
call_passes now s (begin at) is = absurd is
call_passes now s (frame incoming at moment) is = subst (λ (n : ℕ). Passes now s (step s (frame incoming at n)) (writes s (frame incoming at n))) (sym is) (frames now s incoming at)
call_passes now s (bad_frame at moment) is = subst (λ (n : ℕ). Passes now s (step s (bad_frame at n)) (writes s (bad_frame at n))) (sym is) (bad_frames now s at)
call_passes now s (did moment) is = subst (λ (n : ℕ). Passes now s (step s (did n)) (writes s (did n))) (sym is) (acts now s)
call_passes now s (tick moment) is = subst (λ (n : ℕ). Passes now s (step s (tick n)) (writes s (tick n))) (sym is) (ticks now s)
call_passes now s (turn_done moment) is = subst (λ (n : ℕ). Passes now s (step s (turn_done n)) (writes s (turn_done n))) (sym is) (ends_turn now s)
call_passes now s (closed last moment) is = subst (λ (n : ℕ). Passes now s (step s (closed last n)) (writes s (closed last n))) (sym is) (finishes now s last)
call_passes now s link_end is = link_ends now s
call_passes now s (live payloads moment) is = subst (λ (n : ℕ). Passes now s (step s (live payloads n)) (writes s (live payloads n))) (sym is)
    (record { last = written_now now s.last_sent (payload_frames payloads) (length (entries payloads)) (none_live payloads); heard = inl refl; start = refl; config = refl })
call_passes now s (again payloads moment) is = subst (λ (n : ℕ). Passes now s (step s (again payloads n)) (writes s (again payloads n))) (sym is) (sends_again now s payloads)
call_passes now s (taken count) is = record { last = inl refl; heard = inl refl; start = refl; config = refl }
call_passes now s reserve is = record { last = inl refl; heard = inl refl; start = refl; config = refl }
call_passes now s held_done is = applies_held now s

pub run_passes : (now : ℕ) (s : State) (cs : List Call) → AllByRecursion (IsAt now) cs → Passes now s (run s cs) (written s cs)
run_passes now s [] is = record { last = inl refl; heard = inl refl; start = refl; config = refl }
run_passes now s (call ∷ later) is =
    passes_on now s (step s call) (run (step s call) later) (writes s call) (written (step s call) later) (call_passes now s call is.0) (run_passes now (step s call) later is.1)

-- the calls of a turn behind its tick are at its moment
helds_at : (now n : ℕ) → AllByRecursion (IsAt now) (replicate n held_done)
helds_at now zero = tt
helds_at now (suc n) = (tt, helds_at now n)

frame_at : (now : ℕ) (t : TakenFrame) → AllByRecursion (IsAt now) (frame_calls now t)
frame_at now t = all_append (IsAt now) (act_calls now t) (replicate t.helds held_done) (refl, by_recorded t.recorded) (helds_at now t.helds)
  where
    by_recorded : (b : Bool) → AllByRecursion (IsAt now) (if b then did now ∷ [] else [])
    by_recorded true = (refl, tt)
    by_recorded false = tt

frames_at : (now : ℕ) (ts : List TakenFrame) → AllByRecursion (IsAt now) (calls_of_frames now ts)
frames_at now [] = tt
frames_at now (t ∷ later) = all_append (IsAt now) (frame_calls now t) (calls_of_frames now later) (frame_at now t) (frames_at now later)

closing_at : (now : ℕ) (broken : Option ℕ) (over : Bool) → AllByRecursion (IsAt now) (bad_calls now broken ++ (end_calls over ++ turn_done now ∷ []))
closing_at now None true = (tt, (refl, tt))
closing_at now None false = (refl, tt)
closing_at now (Some at) true = (refl, (tt, (refl, tt)))
closing_at now (Some at) false = (refl, (refl, tt))

outbox_at : (now : ℕ) (agains lives : Option (List (List ℕ))) (finish : Option ℕ) → AllByRecursion (IsAt now) (again_calls now agains ++ (live_calls now lives ++ finish_calls now finish))
outbox_at now None None None = tt
outbox_at now None None (Some n) = (refl, tt)
outbox_at now None (Some l) None = (refl, tt)
outbox_at now None (Some l) (Some n) = (refl, (refl, tt))
outbox_at now (Some a) None None = (refl, tt)
outbox_at now (Some a) None (Some n) = (refl, (refl, tt))
outbox_at now (Some a) (Some l) None = (refl, (refl, tt))
outbox_at now (Some a) (Some l) (Some n) = (refl, (refl, (refl, tt)))

sending_at : (now : ℕ) (sent : List ℕ) (lost : Bool) → AllByRecursion (IsAt now) (sending_calls sent lost)
sending_at now sent true = (tt, tt)
sending_at now sent false = (tt, tt)

-- what a turn that works calls behind its tick
abbrev pub work_later : Work → List Call
work_later w = calls_of_frames w.now w.frames ++ (closing_calls w ++ (outbox_calls w ++ sending_calls w.sent w.lost))

pub work_at : (w : Work) → AllByRecursion (IsAt w.now) (work_later w)
work_at w =
    all_append (IsAt w.now) (calls_of_frames w.now w.frames) (closing_calls w ++ (outbox_calls w ++ sending_calls w.sent w.lost)) (frames_at w.now w.frames)
    (all_append (IsAt w.now) (closing_calls w) (outbox_calls w ++ sending_calls w.sent w.lost) (closing_at w.now w.broken w.link_over)
    (all_append (IsAt w.now) (outbox_calls w) (sending_calls w.sent w.lost) (outbox_at w.now w.again w.live w.finish) (sending_at w.now w.sent w.lost)))

-- Where the connection goes on behind them, the calls of the outbox and the sending leave what is to be told, and it went on before them
pub record Tells (s t : State) : Type 0 where
  pub goes : t.ending ≡ None → s.ending ≡ None
  pub untold : t.untold ≡ s.untold

tells_on : (s t u : State) → Tells s t → Tells t u → Tells s u
tells_on s t u a b = record { goes = λ e. a.goes (b.goes e); untold = b.untold ∙ a.untold }

tells_same : (s : State) → Tells s s
tells_same s = record { goes = λ e. e; untold = refl }

again_tells : (now : ℕ) (s : State) (payloads : List (List ℕ)) → Tells s (step s (again payloads now))
again_tells now s payloads = by_range s.facts.connection.serving
  where
    by_range : (r : Option Range) → Tells s (served_again s r payloads now)
    by_range None = tells_same s
    by_range (Some r) = record { goes = λ e. e; untold = refl }

closed_tells : (now : ℕ) (s : State) (last : ℕ) → Tells s (step s (closed last now))
closed_tells now s last = by_end (is_some s.ending)
  where
    by_end : (b : Bool) → Tells s (if b then record s { moment = now; facts = outbox_finished s.facts last } else made (record s { moment = now }) (finish_told (around s 0 now) s.facts last) now)
    by_end true = record { goes = λ e. e; untold = refl }
    by_end false = record { goes = λ e. e; untold = refl }

link_tells : (s : State) → Tells s (step s link_end)
link_tells s = by_end (is_some s.ending)
  where
    by_end : (b : Bool) → Tells s (if b then s else record s { ending = Some (link_ending (around s 0 s.moment) s.facts); pending = None; held = [] })
    by_end true = tells_same s
    by_end false = record { goes = λ e. absurd (cc e); untold = refl }

again_some : (now : ℕ) (s : State) (agains : Option (List (List ℕ))) → Tells s (run s (again_calls now agains))
again_some now s None = tells_same s
again_some now s (Some a) = again_tells now s a

live_some : (now : ℕ) (s : State) (lives : Option (List (List ℕ))) → Tells s (run s (live_calls now lives))
live_some now s None = tells_same s
live_some now s (Some l) = record { goes = λ e. e; untold = refl }

finish_some : (now : ℕ) (s : State) (finish : Option ℕ) → Tells s (run s (finish_calls now finish))
finish_some now s None = tells_same s
finish_some now s (Some n) = closed_tells now s n

pub sending_tells : (s : State) (sent : List ℕ) (lost : Bool) → Tells s (run s (sending_calls sent lost))
sending_tells s sent true = link_tells s
sending_tells s sent false = record { goes = λ e. e; untold = refl }

behind_tells : (now : ℕ) (s : State) (agains lives : Option (List (List ℕ))) (finish : Option ℕ) (sent : List ℕ) (lost : Bool)
    → Tells s (run s ((again_calls now agains ++ (live_calls now lives ++ finish_calls now finish)) ++ sending_calls sent lost))
behind_tells now s agains lives finish sent lost =
    subst (λ (t : State). Tells s t) (sym joined)
    (tells_on s a (run d (sending_calls sent lost)) (again_some now s agains)
    (tells_on a l (run d (sending_calls sent lost)) (live_some now a lives) (tells_on l d (run d (sending_calls sent lost)) (finish_some now l finish) (sending_tells d sent lost))))
  where
    a : State
    a = run s (again_calls now agains)

    l : State
    l = run a (live_calls now lives)

    d : State
    d = run l (finish_calls now finish)

    joined : run s ((again_calls now agains ++ (live_calls now lives ++ finish_calls now finish)) ++ sending_calls sent lost) ≡ run d (sending_calls sent lost)
    joined = run_append s (again_calls now agains ++ (live_calls now lives ++ finish_calls now finish)) (sending_calls sent lost)
        ∙ ap (λ (t : State). run t (sending_calls sent lost)) (run_append s (again_calls now agains) (live_calls now lives ++ finish_calls now finish) ∙ run_append a (live_calls now lives) (finish_calls now finish))

-- the end of a turn tells all that was to be told
done_told : (now : ℕ) (s : State) → (step s (turn_done now)).ending ≡ None → (step s (turn_done now)).untold ≡ []
done_told now s none = by_end (is_some s.ending) refl none
  where
    by_end : (b : Bool) → is_some s.ending ≡ b → (if b then record s { moment = now } else record (made (record s { moment = now }) (turn_ended (around s 0 now) s.facts (runs_of s.untold)) now) { untold = [] }).ending ≡ None
        → (if b then record s { moment = now } else record (made (record s { moment = now }) (turn_ended (around s 0 now) s.facts (runs_of s.untold)) now) { untold = [] }).untold ≡ []
    by_end true e on = absurd (true≢false (sym e ∙ ap (λ k. is_some k) on))
    by_end false e on = refl

-- so behind a turn that works nothing is to be told, where the connection goes on
pub work_told : (m : State) (w : Work) → (run m (work_later w)).ending ≡ None → (run m (work_later w)).untold ≡ []
work_told m w = by_calls (run m (calls_of_frames w.now w.frames)) w.broken w.link_over (run_append m (calls_of_frames w.now w.frames) (closing_calls w ++ (outbox_calls w ++ sending_calls w.sent w.lost)))
  where
    rest : List Call
    rest = outbox_calls w ++ sending_calls w.sent w.lost

    ended : (u : State) → (run (step u (turn_done w.now)) rest).ending ≡ None → (run (step u (turn_done w.now)) rest).untold ≡ []
    ended u none = let k = behind_tells w.now (step u (turn_done w.now)) w.again w.live w.finish w.sent w.lost in k.untold ∙ done_told w.now u (k.goes none)

    by_calls : (u : State) (broken : Option ℕ) (over : Bool) → run m (work_later w) ≡ run u ((bad_calls w.now broken ++ (end_calls over ++ turn_done w.now ∷ [])) ++ rest)
        → (run m (work_later w)).ending ≡ None → (run m (work_later w)).untold ≡ []
    by_calls u None true e = subst (λ (t : State). t.ending ≡ None → t.untold ≡ []) (sym e) (ended (step u link_end))
    by_calls u None false e = subst (λ (t : State). t.ending ≡ None → t.untold ≡ []) (sym e) (ended u)
    by_calls u (Some at) true e = subst (λ (t : State). t.ending ≡ None → t.untold ≡ []) (sym e) (ended (step (step u (bad_frame at w.now)) link_end))
    by_calls u (Some at) false e = subst (λ (t : State). t.ending ≡ None → t.untold ≡ []) (sym e) (ended (step u (bad_frame at w.now)))
