-- A turn of an end that was cut short, as steps of a world.
use Rattle.std.proofs.Common.{◌≡◌, ℕ, Bool, true, false, if◌then◌else◌, List, [], ◌∷◌, ◌++◌, Option, Some, None, refl, sym, ap, subst, ◌∙◌, append-nil, append_assoc, zero, suc, length}
use Rattle.std.specs.Prelude.{is_some, replicate}
use Rattle.std.specs.List.{AllByRecursion}
use Rattle.std.proofs.lemmas.Grind.{flat_map-append}
use Rattle.std.proofs.lemmas.List.{append_cancel_left}
use Rattle.session_model.specs.Journal.{Entry, History}
use Rattle.session_model.specs.Inbox.{Numbered}
use Rattle.session_model.proofs.Lists.{all_append, all_second}
use Rattle.gw_links.specs.declared.link.Got.{Got}
use Rattle.fixp_replies.specs.declared.act.Ending.{Ending}
use Rattle.fixp_replies.specs.Acts.{is_record}
use Rattle.fixp_replies.specs.Events.{heartbeats, lateness}
use Rattle.fixp_replies.specs.Outcomes.{Outcome}
use Rattle.fixp_replies.specs.Replies.{reply_of}
use Rattle.fixp_machine.specs.Machine.{State, Call, did, tick, reserve, around, bytes_of, wrote, broken_by, step, run, held_done, front_of}
use Rattle.fixp_machine.specs.Machine as calls
use Rattle.conn_turns.specs.Lines.{Line, TakenFrame, frame_calls, lines_after, act_calls}
use Rattle.conn_turns.specs.Turns.{Turn, first_calls, calls_of_frames}
use Rattle.conn_turns.proofs.Taking.{frames_make_calls}
use Rattle.connection_laws.specs.Writing.{Piece, said_all, said_breaking, bytes_of_piece, bytes_written}
use Rattle.connection_laws.specs.Framed.{IsLegalPiece}
use Rattle.connection_laws.specs.Courses.{Waiting, Course, counting, called, next_done, next_course, course_after, next_held}
use Rattle.connection_laws.specs.Ranges.{IsInTime, FitsCall}
use Rattle.turn_laws.specs.Turns.{line_received}
use Rattle.turn_laws.specs.Legs.{given_in, sent_in, moment_of, IsTimelyTurn}
use Rattle.turn_laws.proofs.Going.{Goes, may_append, after_append, and_then, first_go}
use Rattle.turn_laws.proofs.Working.{steady_at}
use Rattle.honest_ends.specs.Worlds.{World, written, initiator_calls}
use Rattle.honest_turns.specs.Steps.{does_all, frames_steps}
use Rattle.honest_turns.proofs.Reaching.{Reaches}
use Rattle.honest_turns.proofs.Calling.{output_after}
use Rattle.honest_turns.proofs.Hearing.{FramesRead, AreHeard, heard_go}
use Rattle.honest_turns.proofs.Turning.{took_steps}
use Rattle.honest_turns.specs.Opened.{WritesLegal, Open, Way}
use Rattle.honest_turns.proofs.Opening.{same_run, same_written, regroup, way_on, way_read}

-- A turn that was cut short took these frames of what it received, and sent nothing: how it leaves the machine, and the bytes held
pub record StopsIn (l : Line) (t : Turn) (m : State) (held : List ℕ) : Type 0 where
  pub now : ℕ
  pub got : Option Got
  pub frames : List TakenFrame
  pub sent : sent_in t ≡ []
  pub moment : moment_of t ≡ now
  pub taken : AreHeard now (line_received l now (given_in t) got) frames
  pub machine : (lines_after now (line_received l now (given_in t) got) frames).machine ≡ m
  pub holds : (lines_after now (line_received l now (given_in t) got) frames).held ≡ held

-- so the way goes on behind it, and no further turn comes
pub record Stopped (outbox : History) (ha : List Entry) (w : World) (m theirs : State) (left_held held out home : List ℕ) : Type 0 where
  pub world : World
  pub reaches : Reaches outbox.made ha w world
  pub acceptor : world.acceptor ≡ w.acceptor
  pub alike : step world.initiator reserve ≡ step m reserve
  pub outward : Way world.outward m held out
  pub homeward : Way world.homeward theirs left_held home

-- neither a tick nor frames with their acts, nor held messages that are applied, are taken of what is unsent
helds_taken : (c : Course) (n : ℕ) → (course_after c (replicate n held_done)).taken ≡ c.taken
helds_taken c zero = refl
helds_taken c (suc n) = helds_taken (next_course c held_done) n ∙ by_front (front_of c.state) (called c held_done)
  where
    by_front : (m : Option Numbered) (k : Course) → (next_held k m).taken ≡ k.taken
    by_front None k = refl
    by_front (Some m) k = refl

frame_taken : (c : Course) (now : ℕ) (t : TakenFrame) → (course_after c (frame_calls now t)).taken ≡ c.taken
frame_taken c now t = ap (λ (e : Course). e.taken) (after_append c (act_calls now t) (replicate t.helds held_done)) ∙ (helds_taken (course_after c (act_calls now t)) t.helds ∙ by_recorded t.recorded)
  where
    call : Call
    call = calls.frame t.incoming t.at now

    d : Course
    d = next_course c call

    by_record : (b : Bool) (k : Course) → (if b then record k { waiting = Some (record { incoming = t.incoming; at = t.at; moment = now }) }
        else counting k (reply_of (around c.state t.at now) c.state.facts t.incoming) t.incoming).taken ≡ k.taken
    by_record true k = refl
    by_record false k = refl

    framed : d.taken ≡ c.taken
    framed = by_record (is_record (reply_of (around c.state t.at now) c.state.facts t.incoming).act) (called c call)

    by_pending : (p : Option Outcome) (w : Option Waiting) (k : Course) → (next_done k p w).taken ≡ k.taken
    by_pending None w k = refl
    by_pending (Some o) None k = refl
    by_pending (Some o) (Some w) k = refl

    by_recorded : (b : Bool) → (course_after c (call ∷ (if b then did now ∷ [] else []))).taken ≡ c.taken
    by_recorded true = by_pending d.state.pending d.waiting (called d (did now)) ∙ framed
    by_recorded false = framed

pub frames_taken : (c : Course) (now : ℕ) (frames : List TakenFrame) → (course_after c (calls_of_frames now frames)).taken ≡ c.taken
frames_taken c now [] = refl
frames_taken c now (t ∷ later) =
    ap (λ (e : Course). e.taken) (after_append c (frame_calls now t) (calls_of_frames now later))
    ∙ (frames_taken (course_after c (frame_calls now t)) now later ∙ frame_taken c now t)

-- a connection that has ended writes nothing at a tick, and takes no frame
ended_ticks : (m : State) (now : ℕ) (x : Ending) → m.ending ≡ Some x → (written m (first_calls now) ≡ []) × ((run m (first_calls now)).ending ≡ Some x)
ended_ticks m now x e = (
  ap (λ (o : Option Ending). (if is_some o then [] else says) ++ []) e,
  ap (λ (o : Option Ending). (if is_some o then record s { moment = now } else more).ending) e ∙ e,
)
  where
    s : State
    s = step m reserve

    says : List Piece
    says = said_all (heartbeats (around s 0 now) s.facts s.last_sent s.unsent ++ said_breaking s (lateness (around s 0 now) s.facts s.start s.last_received) now)

    more : State
    more = broken_by (wrote (record s { moment = now }) (bytes_of (heartbeats (around s 0 now) s.facts s.last_sent s.unsent)) now) (lateness (around s 0 now) s.facts s.start s.last_received) now

none_taken : (now : ℕ) (l : Line) (x : Ending) (frames : List TakenFrame) → l.machine.ending ≡ Some x → AreHeard now l frames → frames ≡ []
none_taken now l x [] e taken = refl
none_taken now l x (t ∷ later) e taken = let going = taken.0.next.may.goes_on in absurd (cc (e, going))

pub turn_stops : (outbox : History) (ha : List Entry) (b : Course) (w : World) (l : Line) (t : Turn) (m theirs : State) (left_held held out home : List ℕ)
    → WritesLegal outbox b → Open outbox b w.initiator l → StopsIn l t m left_held → IsTimelyTurn t
    → Way w.outward l.machine held out → Way w.homeward theirs l.held (given_in t ++ home) → Stopped outbox ha w m theirs left_held held (out ++ sent_in t) home
turn_stops outbox ha b w l t m theirs left_held held out home legal o k timely outward homeward = record {
  world = initiator_calls w x.left cs;
  reaches = x.reaches;
  acceptor = refl;
  alike = ap (λ (s : State). step s reserve) (same_run w.initiator l.machine cs (tick k.now ∷ took) refl o.alike ∙ (sym made ∙ k.machine));
  outward = subst (λ (ps : List Piece). Way (w.outward ++ ps) m held (out ++ sent_in t)) (sym (same_written w.initiator l.machine cs (tick k.now ∷ took) refl o.alike))
      (subst (λ (bs : List ℕ). Way (w.outward ++ written l.machine cs) m held (out ++ bs)) (sym k.sent) (by_ending l.machine.ending refl));
  homeward = subst (λ (bs : List ℕ). Way x.left theirs bs home) k.holds (way_read w.homeward x.left theirs l.held (given_in t) home n.held homeward x.legal x.goes_on);
}
  where
    h : List Entry
    h = outbox.made

    r : Line
    r = line_received l k.now (given_in t) k.got

    n : Line
    n = lines_after k.now r k.frames

    took : List Call
    took = calls_of_frames k.now k.frames

    cs : List Call
    cs = first_calls k.now ++ took

    c : Course
    c = course_after b o.calls

    d : Course
    d = course_after c cs

    made : n.machine ≡ run l.machine cs
    made = frames_make_calls k.now r k.frames

    goes : Goes h c l.machine cs
    goes =
        let first = first_go h c l.machine k.now (steady_at h c l o.at) in
        and_then h c l.machine (first_calls k.now) took first (heard_go h k.now r k.frames (course_after c (first_calls k.now)) first.after k.taken)

    x : FramesRead h ha w cs (does_all (first_calls k.now) ++ frames_steps k.now k.frames) (length k.frames) r.held n.held
    x = took_steps h ha w c l r k.now k.frames (home ++ homeward.within.0) o.at.machine o.alike refl goes.may k.taken (subst IsInTime k.moment timely.time) homeward.legal
        (sym (regroup l.held (given_in t) home homeward.within.0) ∙ homeward.within.1)

    says : List Piece
    says = written l.machine cs

    output : d.output ≡ c.output ++ says
    output = output_after h c cs goes.may ∙ ap (λ (s : State). c.output ++ written s cs) o.at.machine

    says_legal : AllByRecursion IsLegalPiece says
    says_legal = all_second IsLegalPiece c.output says
        (subst (λ (ps : List Piece). AllByRecursion IsLegalPiece ps) (ap (λ (e : Course). e.output) (after_append b o.calls cs) ∙ output)
        (legal (o.calls ++ cs) (may_append h b o.calls cs o.may goes.may) (all_append FitsCall o.calls cs o.fits x.fits)))

    taken : d.taken ≡ c.taken
    taken = ap (λ (e : Course). e.taken) (after_append c (first_calls k.now) took) ∙ frames_taken (course_after c (first_calls k.now)) k.now k.frames

    unsent : l.machine.unsent ++ bytes_written says ≡ m.unsent
    unsent =
        append_cancel_left c.taken (l.machine.unsent ++ bytes_written says) m.unsent
        (sym (append_assoc c.taken l.machine.unsent (bytes_written says))
        ∙ (ap (λ (bs : List ℕ). bs ++ bytes_written says) (ap (λ (s : State). c.taken ++ s.unsent) (sym o.at.machine) ∙ sym o.at.stands.bytes)
        ∙ (sym (flat_map-append bytes_of_piece c.output says) ∙ (ap (λ (ps : List Piece). bytes_written ps) (sym output)
        ∙ (goes.after.stands.bytes ∙ (ap (λ (bs : List ℕ). bs ++ d.state.unsent) taken ∙ ap (λ (s : State). c.taken ++ s.unsent) (goes.after.is ∙ (sym made ∙ k.machine))))))))

    by_ending : (e : Option Ending) → l.machine.ending ≡ e → Way (w.outward ++ says) m held (out ++ [])
    by_ending None going = way_on w.outward says l.machine m held out [] m.unsent outward going says_legal (sym unsent) (λ _. refl)
    by_ending (Some y) over =
        let ticks = ended_ticks l.machine k.now y over in
        let none : k.frames ≡ [] = none_taken k.now r y k.frames ticks.1 k.taken in
        let quiet : says ≡ [] = ap (λ (fs : List TakenFrame). written l.machine (first_calls k.now ++ calls_of_frames k.now fs)) none ∙ ticks.0 in
        let ended : m.ending ≡ Some y = ap (λ (s : State). s.ending) (sym k.machine ∙ (made ∙ ap (λ (fs : List TakenFrame). run l.machine (first_calls k.now ++ calls_of_frames k.now fs)) none)) ∙ ticks.1 in
        subst (λ (ps : List Piece). Way ps m held (out ++ [])) (sym (ap (λ (ps : List Piece). w.outward ++ ps) quiet ∙ append-nil w.outward))
        (subst (λ (bs : List ℕ). Way w.outward m held bs) (sym (append-nil out))
        (record { legal = outward.legal; within = outward.within; exact = λ going. absurd (cc (ended, going)) }))
