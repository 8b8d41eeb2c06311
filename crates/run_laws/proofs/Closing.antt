-- The calls of a connection tell the finish of its outbox alone, and leave the limit of its numbers.
use Rattle.std.proofs.Common.{◌≡◌, ℕ, ◌-◌, Bool, true, false, ◌&&◌, not, if◌then◌else◌, List, [], ◌∷◌, ◌++◌, length, Option, Some, None, IfSome, refl, sym, ap, subst, ◌∙◌, zero, suc}
use Rattle.std.specs.Prelude.{is_some, option_to_list, replicate}
use Rattle.std.specs.List.{AllByRecursion, flat_map}
use Rattle.std.proofs.lemmas.Grind.{flat_map-append}
use Rattle.session_model.specs.Journal.{History, BeginsHistory}
use Rattle.session_model.specs.Inbox.{Numbered}
use Rattle.session_model.proofs.Lists.{all_append}
use Rattle.gate_turn.proofs.Histories.{begins_on}
use Rattle.fixp_msgs.specs.declared.numbering.Range.{Range}
use Rattle.flow_idem.specs.Runs.{runs_of}
use Rattle.fixp_shake.specs.Flows.{is_absent}
use Rattle.fixp_shake.specs.declared.violation.Violation.{Violation}
use Rattle.fixp_replies.specs.Acts.{is_record}
use Rattle.fixp_replies.specs.Events.{heartbeats, lateness, outbox_finished, turn_ended, finish_told, link_ending}
use Rattle.fixp_replies.specs.Incoming.{payload_in}
use Rattle.fixp_replies.specs.Outcomes.{Outcome}
use Rattle.fixp_replies.specs.Replies.{reply_of}
use Rattle.fixp_machine.specs.Machine.{State, Call, begin, frame, bad_frame, did, tick, turn_done, closed, link_end, live, again, taken, reserve, around, bytes_of, wrote, made, reply_applied, broken_by, done_pending, served_again, step, run, held_done, held_applied, held_with, front_of}
use Rattle.conn_turns.specs.Lines.{Line, TakenFrame, frame_calls, act_calls}
use Rattle.conn_turns.specs.Turns.{Turn, only_sends, works, link_lost, cut_short, not_begun, calls_of_frames, bad_calls, end_calls, closing_calls, again_calls, live_calls, finish_calls, outbox_calls, sending_calls, calls_of, finish_of, Refusal, of_act, of_held, refused_calls}
use Rattle.conn_turns.specs.Exact.{closed_at}
use Rattle.conn_turns.proofs.Taking.{due_unless}
use Rattle.turn_laws.specs.Turns.{line_received, IsTurn, IsCut}
use Rattle.turn_laws.specs.Legs.{AreTurns, calls_on}
use Rattle.honest_turns.specs.Sides.{Side, MakesTurns}
use Rattle.honest_turns.proofs.Linking.{all_seen}
use Rattle.run_laws.proofs.Noting.{TellsFinish}

-- the outbox is finished, behind so many entries
pub record IsLast (outbox : History) (n : ℕ) : Type 0 where
  pub marked : outbox.finished ≡ true
  pub last : n ≡ length outbox.made

abbrev Tells : History → Call → Type 0
Tells outbox = TellsFinish (IsLast outbox)

-- a finish that is told is that of the whole outbox
finish_tells : (outbox seen : History) (m : State) (now : ℕ) (finish : Option ℕ) → finish ≡ finish_of m seen → BeginsHistory seen outbox → AllByRecursion (Tells outbox) (finish_calls now finish)
finish_tells outbox seen m now None e begins = tt
finish_tells outbox seen m now (Some n) e begins = (by_mark (not (is_absent m.config.own_flow)) seen.finished refl e, tt)
  where
    by_mark : (there finished : Bool) → seen.finished ≡ finished → Some n ≡ (if there && finished then Some (length seen.made) else None) → IsLast outbox n
    by_mark true true f e =
        let same : n ≡ length seen.made = cc e in
        record { marked = ap (λ (h : History). h.finished) (sym (begins.alone f)) ∙ f; last = same ∙ ap (λ (h : History). length h.made) (begins.alone f) }
    by_mark true false f e = absurd (cc e)
    by_mark false finished f e = absurd (cc e)

frame_tells : (outbox : History) (now : ℕ) (t : TakenFrame) → AllByRecursion (Tells outbox) (frame_calls now t)
frame_tells outbox now t = all_append (Tells outbox) (act_calls now t) (replicate t.helds held_done) (by_recorded t.recorded) (all_held t.helds)
  where
    all_held : (n : ℕ) → AllByRecursion (Tells outbox) (replicate n held_done)
    all_held zero = tt
    all_held (suc n) = (tt, all_held n)

    by_recorded : (b : Bool) → AllByRecursion (Tells outbox) (frame t.incoming t.at now ∷ (if b then did now ∷ [] else []))
    by_recorded true = (tt, (tt, tt))
    by_recorded false = (tt, tt)

frames_tell : (outbox : History) (now : ℕ) (frames : List TakenFrame) → AllByRecursion (Tells outbox) (calls_of_frames now frames)
frames_tell outbox now [] = tt
frames_tell outbox now (t ∷ later) = all_append (Tells outbox) (frame_calls now t) (calls_of_frames now later) (frame_tells outbox now t) (frames_tell outbox now later)

refused_tell : (outbox : History) (now : ℕ) (r : Refusal) → AllByRecursion (Tells outbox) (refused_calls now r)
refused_tell outbox now (of_act t) = (tt, tt)
refused_tell outbox now (of_held t m) = frame_tells outbox now t

closing_tell : (outbox : History) (now : ℕ) (broken : Option ℕ) (over : Bool) → AllByRecursion (Tells outbox) (bad_calls now broken ++ (end_calls over ++ turn_done now ∷ []))
closing_tell outbox now None true = (tt, (tt, tt))
closing_tell outbox now None false = (tt, tt)
closing_tell outbox now (Some at) true = (tt, (tt, (tt, tt)))
closing_tell outbox now (Some at) false = (tt, (tt, tt))

again_tell : (outbox : History) (now : ℕ) (sent : Option (List (List ℕ))) → AllByRecursion (Tells outbox) (again_calls now sent)
again_tell outbox now None = tt
again_tell outbox now (Some payloads) = (tt, tt)

live_tell : (outbox : History) (now : ℕ) (sent : Option (List (List ℕ))) → AllByRecursion (Tells outbox) (live_calls now sent)
live_tell outbox now None = tt
live_tell outbox now (Some payloads) = (tt, tt)

sending_tell : (outbox : History) (sent : List ℕ) (lost : Bool) → AllByRecursion (Tells outbox) (sending_calls sent lost)
sending_tell outbox sent true = (tt, tt)
sending_tell outbox sent false = (tt, tt)

turn_tells : (outbox before after : History) (old new : Line) (t : Turn) → IsTurn before after old new t → BeginsHistory after outbox → AllByRecursion (Tells outbox) (calls_of t)
turn_tells outbox before after old new (only_sends now sent lost) k begins = (tt, (tt, sending_tell outbox sent lost))
turn_tells outbox before after old new (works w) k begins =
    let frames : List Call = calls_of_frames w.now w.frames in
    let closing : List Call = closing_calls w in
    let outboxes : List Call = outbox_calls w in
    let sending : List Call = sending_calls w.sent w.lost in
    let agains : List Call = again_calls w.now w.again in
    let lives : List Call = live_calls w.now w.live in
    let ends : List Call = finish_calls w.now w.finish in
    let l : Line = line_received old w.now w.received w.got in
    let last : AllByRecursion (Tells outbox) ends =
    due_unless l (finish_of (closed_at l w) w.at_finish) w.finish (λ (o : Option ℕ). AllByRecursion (Tells outbox) (finish_calls w.now o)) k.served.finish tt
    (finish_tells outbox w.at_finish (closed_at l w) w.now (finish_of (closed_at l w) w.at_finish) refl (subst (λ (h : History). BeginsHistory h outbox) (sym k.served.seen) begins)) in (
      tt,
      (
        tt,
        all_append (Tells outbox) frames (closing ++ (outboxes ++ sending)) (frames_tell outbox w.now w.frames)
            (all_append (Tells outbox) closing (outboxes ++ sending) (closing_tell outbox w.now w.broken w.link_over)
            (all_append (Tells outbox) outboxes sending
            (all_append (Tells outbox) agains (lives ++ ends) (again_tell outbox w.now w.again) (all_append (Tells outbox) lives ends (live_tell outbox w.now w.live) last))
            (sending_tell outbox w.sent w.lost))),
      ),
    )
turn_tells outbox before after old new (link_lost now) k begins = (tt, (tt, (tt, tt)))
turn_tells outbox before after old new (cut_short now received frames refused) k begins = absurd k
turn_tells outbox before after old new not_begun k begins = absurd k

turns_tell : (outbox before after : History) (old new : Line) (ts : List Turn) → AreTurns before after old new ts → BeginsHistory after outbox → AllByRecursion (Tells outbox) (flat_map calls_of ts)
turns_tell outbox before after old new [] k begins = tt
turns_tell outbox before after old new (t ∷ later) k begins =
    all_append (Tells outbox) (calls_of t) (flat_map calls_of later)
    (turn_tells outbox before k.2 old k.1 t k.3 (begins_on k.2 k.4 outbox k.5 (begins_on k.4 after outbox (all_seen k.4 after k.1 new later k.6) begins)))
    (turns_tell outbox k.4 after k.1 new later k.6 begins)

cut_tells : (outbox : History) (last : Line) (t : Turn) → IsCut last t → AllByRecursion (Tells outbox) (calls_of t)
cut_tells outbox last (only_sends now sent lost) k = absurd k
cut_tells outbox last (works w) k = absurd k
cut_tells outbox last (link_lost now) k = absurd k
cut_tells outbox last (cut_short now received frames None) k = (tt, (tt, frames_tell outbox now frames))
cut_tells outbox last (cut_short now received frames (Some r)) k =
    (tt, (tt, all_append (Tells outbox) (calls_of_frames now frames) (refused_calls now r) (frames_tell outbox now frames) (refused_tell outbox now r)))
cut_tells outbox last not_begun k = absurd k

cuts_tell : (outbox : History) (last : Line) (cut : Option Turn) → IfSome cut (IsCut last) → AllByRecursion (Tells outbox) (flat_map calls_of (option_to_list cut))
cuts_tell outbox last None k = tt
cuts_tell outbox last (Some t) k = all_append (Tells outbox) (calls_of t) [] (cut_tells outbox last t k) tt

-- so it is of all calls of a side
pub side_tells : (s : Side) → MakesTurns s → AllByRecursion (TellsFinish (IsLast s.outbox)) (calls_on s.leg)
side_tells s k =
    let whole : List Call = flat_map calls_of s.leg.turns in
    let cut : List Call = flat_map calls_of (option_to_list s.leg.cut) in
    subst (λ (cs : List Call). AllByRecursion (Tells s.outbox) cs) (sym (flat_map-append calls_of s.leg.turns (option_to_list s.leg.cut)))
    (all_append (Tells s.outbox) whole cut (turns_tell s.outbox k.turns.before k.turns.after _ k.turns.last s.leg.turns k.turns.turns k.seen) (cuts_tell s.outbox k.turns.last s.leg.cut k.turns.cut))

-- no call changes the greatest number that an end takes
either_most : (b : Bool) (x y : State) (n : ℕ) → x.most ≡ n → y.most ≡ n → (if b then x else y).most ≡ n
either_most true x y n p q = p
either_most false x y n p q = q

broken_most : (s : State) (v : Option Violation) (now : ℕ) → (broken_by s v now).most ≡ s.most
broken_most s None now = refl
broken_most s (Some v) now = refl

done_most : (s : State) (p : Option Outcome) (now : ℕ) → (done_pending s p now).most ≡ s.most
done_most s None now = refl
done_most s (Some o) now = refl

again_most : (s : State) (r : Option Range) (payloads : List (List ℕ)) (now : ℕ) → (served_again s r payloads now).most ≡ s.most
again_most s None payloads now = refl
again_most s (Some r) payloads now = refl

held_most : (s : State) (m : Option Numbered) → (held_applied s m).most ≡ s.most
held_most s None = refl
held_most s (Some m) = refl

step_most : (s : State) (call : Call) → (step s call).most ≡ s.most
step_most s (begin now) = refl
step_most s (frame i at now) =
    let o : Outcome = reply_of (around s at now) s.facts i in
    let got : State = record s { moment = now; last_received = now; room = s.room - 1 } in
    let more : State = record got { held = held_with o.holds (payload_in i) s.held } in
    either_most (is_record o.act) (record got { pending = Some o }) (reply_applied more o now) s.most refl refl
step_most s (bad_frame at now) = refl
step_most s (did now) = done_most s s.pending now
step_most s (tick now) =
    let beat : State = wrote (record s { moment = now }) (bytes_of (heartbeats (around s 0 now) s.facts s.last_sent s.unsent)) now in
    let late : Option Violation = lateness (around s 0 now) s.facts s.start s.last_received in
    either_most (is_some s.ending) (record s { moment = now }) (broken_by beat late now) s.most refl (broken_most beat late now)
step_most s (turn_done now) =
    either_most (is_some s.ending) (record s { moment = now }) (record (made (record s { moment = now }) (turn_ended (around s 0 now) s.facts (runs_of s.untold)) now) { untold = [] }) s.most refl refl
step_most s (closed last now) =
    either_most (is_some s.ending) (record s { moment = now; facts = outbox_finished s.facts last }) (made (record s { moment = now }) (finish_told (around s 0 now) s.facts last) now) s.most refl refl
step_most s link_end = either_most (is_some s.ending) s (record s { ending = Some (link_ending (around s 0 s.moment) s.facts); pending = None; held = [] }) s.most refl refl
step_most s (live payloads now) = refl
step_most s (again payloads now) = again_most s s.facts.connection.serving payloads now
step_most s (taken count) = refl
step_most s reserve = refl
step_most s held_done = held_most s (front_of s)

pub run_most : (s : State) (calls : List Call) → (run s calls).most ≡ s.most
run_most s [] = refl
run_most s (call ∷ later) = run_most (step s call) later ∙ step_most s call
