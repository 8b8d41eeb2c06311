-- The frames that came in the turns of a connection are the first of the bytes that the link gave.
use Rattle.conn_turns.specs.Refusals.{IsRefused}
use Rattle.std.proofs.Common.{◌≡◌, ℕ, Bool, true, false, if◌then◌else◌, List, [], ◌∷◌, ◌++◌, map, drop, Option, Some, None, refl, sym, ap, subst, ◌∙◌, append-nil, append_assoc, zero, suc}
use Rattle.std.specs.Prelude.{⊤, ◌<◌, IfSome, option_to_list, replicate}
use Rattle.std.specs.List.{AllByRecursion, AllZip, flat_map}
use Rattle.std.proofs.lemmas.Grind.{flat_map-append}
use Rattle.std.proofs.lemmas.List.Elements.{All-from_recursion, recursion_from_All}
use Rattle.sbe_prim.specs.declared.Order.{Order}
use Rattle.sofh_frame.specs.Framing.{Frame, IsFrame, IsBytes, header_of, spelled}
use Rattle.sofh_frame.specs.Splits.{spelled_all, frames_of}
use Rattle.sofh_frame.proofs.SplitLemmas.{spelled_all-push, AllByRecursion-push, frames_of-spelled_all}
use Rattle.session_model.specs.Journal.{Entry, History}
use Rattle.session_model.proofs.Lists.{all_append, all_first, all_second}
use Rattle.fixp_replies.specs.Incoming.{Incoming, application, session, wrong_order, too_short, unknown, IsIncoming}
use Rattle.fixp_machine.specs.Machine.{State, Call, did, link_end, held_done}
use Rattle.fixp_machine.specs.Machine as calls
use Rattle.conn_turns.specs.Lines.{Line, TakenFrame, size_of, frame_calls, IsNext, line_after, lines_after, AreTaken, act_calls}
use Rattle.conn_turns.specs.Turns.{Work, Turn, only_sends, works, link_lost, cut_short, not_begun, first_calls, calls_of_frames, closing_calls, outbox_calls, sending_calls, calls_of, Refusal, of_act, of_held, refused_calls}
use Rattle.connection_laws.specs.Ranges.{IsInTime, FitsIncoming, FitsCall}
use Rattle.connection_laws.proofs.Spelled.{spelled_fits}
use Rattle.turn_laws.specs.Came.{came_by, came, AreFirstOf}
use Rattle.turn_laws.specs.Turns.{line_received, IsTurn, IsCut}
use Rattle.turn_laws.specs.Legs.{AreTurns, TurnedLeg, first_line, all_turns, AreTurnsOf, calls_on, given_in, given_on, moment_of, IsTimelyTurn, IsTimely}
use Rattle.turn_laws.proofs.Each.{closing_all, outbox_all}
use Rattle.turn_laws.specs.Came.{GivenCame}

-- a call by which no frame came
abbrev IsQuiet : Call → Type 0
IsQuiet call = came_by call ≡ []

none_came : (cs : List Call) → AllByRecursion IsQuiet cs → came cs ≡ []
none_came [] all = refl
none_came (call ∷ later) all = ap (λ (is : List Incoming). is ++ came later) all.0 ∙ none_came later all.1

pub came_append : (first later : List Call) → came (first ++ later) ≡ came first ++ came later
came_append first later = flat_map-append came_by first later

-- the messages of frames that were taken
abbrev incomings : List TakenFrame → List Incoming
incomings = map (λ (t : TakenFrame). t.incoming)

frame_came : (now : ℕ) (t : TakenFrame) → came (frame_calls now t) ≡ t.incoming ∷ []
frame_came now t = came_append (act_calls now t) (replicate t.helds held_done) ∙ (ap (λ (is : List Incoming). is ++ came (replicate t.helds held_done)) (by_test t.recorded) ∙ ap (λ (is : List Incoming). t.incoming ∷ is) (none_came t.helds))
  where
    none_came : (n : ℕ) → came (replicate n held_done) ≡ []
    none_came zero = refl
    none_came (suc n) = none_came n

    by_test : (b : Bool) → came (calls.frame t.incoming t.at now ∷ (if b then did now ∷ [] else [])) ≡ t.incoming ∷ []
    by_test true = refl
    by_test false = refl

frames_came : (now : ℕ) (frames : List TakenFrame) → came (calls_of_frames now frames) ≡ incomings frames
frames_came now [] = refl
frames_came now (t ∷ later) =
    came_append (frame_calls now t) (calls_of_frames now later)
    ∙ (ap (λ (is : List Incoming). is ++ came (calls_of_frames now later)) (frame_came now t) ∙ ap (λ (is : List Incoming). t.incoming ∷ is) (frames_came now later))

-- what a turn does beside its frames is quiet
sending_quiet : (sent : List ℕ) (lost : Bool) → AllByRecursion IsQuiet (sending_calls sent lost)
sending_quiet sent true = (refl, tt)
sending_quiet sent false = (refl, tt)

behind_quiet : (w : Work) → AllByRecursion IsQuiet (closing_calls w ++ (outbox_calls w ++ sending_calls w.sent w.lost))
behind_quiet w =
    all_append IsQuiet (closing_calls w) (outbox_calls w ++ sending_calls w.sent w.lost) (closing_all IsQuiet w.now w.broken w.link_over (λ _. refl) refl refl)
    (all_append IsQuiet (outbox_calls w) (sending_calls w.sent w.lost) (outbox_all IsQuiet w.now w.again w.live w.finish (λ _. refl) (λ _. refl) (λ _. refl)) (sending_quiet w.sent w.lost))

work_came : (w : Work) → came (calls_of (works w)) ≡ incomings w.frames
work_came w =
    let frames : List Call = calls_of_frames w.now w.frames in
    let behind : List Call = closing_calls w ++ (outbox_calls w ++ sending_calls w.sent w.lost) in
    came_append frames behind ∙ (ap (λ (is : List Incoming). came frames ++ is) (none_came behind (behind_quiet w)) ∙ (append-nil (came frames) ∙ frames_came w.now w.frames))

-- the bytes that were given are frames, whose messages came, and those that are held
abbrev Is : Incoming → Frame → Type 0
Is i f = IsIncoming f.order f.message i

record Reads (given : List ℕ) (is : List Incoming) (held : List ℕ) : Type 0 where
  frames : List Frame
  joins : given ≡ spelled_all frames ++ held
  each : AllByRecursion IsFrame frames
  are : AllZip Is is frames

zip_push : (is : List Incoming) (fs : List Frame) (i : Incoming) (f : Frame) → AllZip Is is fs → Is i f → AllZip Is (is ++ i ∷ []) (fs ++ f ∷ [])
zip_push [] [] i f all here = (here, tt)
zip_push [] (g ∷ fs) i f all here = absurd all
zip_push (j ∷ is) [] i f all here = absurd all
zip_push (j ∷ is) (g ∷ fs) i f all here = (all.0, zip_push is fs i f all.1 here)

reads_more : (given : List ℕ) (is : List Incoming) (held more : List ℕ) → Reads given is held → Reads (given ++ more) is (held ++ more)
reads_more given is held more r = record {
  frames = r.frames;
  joins = ap (λ (bs : List ℕ). bs ++ more) r.joins ∙ append_assoc (spelled_all r.frames) held more;
  each = r.each;
  are = r.are;
}

reads_next : (given : List ℕ) (is : List Incoming) (l : Line) (t : TakenFrame) → Reads given is l.held → IsNext l t → Reads given (is ++ t.incoming ∷ []) (drop (size_of t.frame) l.held)
reads_next given is l t r n =
    let behind : List ℕ = drop (size_of t.frame) l.held in
    let before : List ℕ = spelled_all r.frames in
    record {
      frames = r.frames ++ t.frame ∷ [];
      joins = r.joins ∙ (ap (λ (bs : List ℕ). before ++ bs) n.begins.spells
          ∙ (sym (append_assoc before (spelled t.frame) behind) ∙ ap (λ (bs : List ℕ). bs ++ behind) (sym (spelled_all-push r.frames t.frame))));
      each = AllByRecursion-push IsFrame r.frames t.frame r.each n.begins.admissible;
      are = zip_push is r.frames t.incoming t.frame r.are n.is;
    }

reads_frames : (now : ℕ) (l : Line) (frames : List TakenFrame) (given : List ℕ) (is : List Incoming) → Reads given is l.held → AreTaken now l frames
    → Reads given (is ++ incomings frames) (lines_after now l frames).held
unfolding line_after
reads_frames now l [] given is r k = subst (λ (js : List Incoming). Reads given js l.held) (sym (append-nil is)) r
reads_frames now l (t ∷ later) given is r k =
    subst (λ (js : List Incoming). Reads given js (lines_after now (line_after now l t) later).held) (append_assoc is (t.incoming ∷ []) (incomings later))
    (reads_frames now (line_after now l t) later given (is ++ t.incoming ∷ []) (reads_next given is l t r k.0.next) k.1)

-- where nothing was given and no frame came
reads_on : (given : List ℕ) (is : List Incoming) (held after : List ℕ) (cs : List Call) → Reads given is held → after ≡ held → came cs ≡ [] → Reads (given ++ []) (is ++ came cs) after
reads_on given is held after cs r same none =
    subst (λ (bs : List ℕ). Reads bs (is ++ came cs) after) (sym (append-nil given))
    (subst (λ (js : List Incoming). Reads given js after) (sym (append-nil is) ∙ ap (λ (js : List Incoming). is ++ js) (sym none)) (subst (λ (bs : List ℕ). Reads given is bs) (sym same) r))

turn_reads : (before after : History) (old new : Line) (t : Turn) (given : List ℕ) (is : List Incoming) → Reads given is old.held → IsTurn before after old new t
    → Reads (given ++ given_in t) (is ++ came (calls_of t)) new.held
turn_reads before after old new (only_sends now sent lost) given is r k =
    reads_on given is old.held new.held (first_calls now ++ sending_calls sent lost) r (ap (λ (l : Line). l.held) k.0.line) (none_came (sending_calls sent lost) (sending_quiet sent lost))
turn_reads before after old new (works w) given is r k =
    let l : Line = line_received old w.now w.received w.got in
    subst (λ (js : List Incoming). Reads (given ++ w.received) (is ++ js) new.held) (sym (work_came w))
    (subst (λ (bs : List ℕ). Reads (given ++ w.received) (is ++ incomings w.frames) bs) (sym (ap (λ (x : Line). x.held) k.sends.line ∙ k.served.held))
    (reads_frames w.now l w.frames (given ++ w.received) is (reads_more given is old.held w.received r) k.served.frames))
turn_reads before after old new (link_lost now) given is r k = reads_on given is old.held new.held (first_calls now ++ link_end ∷ []) r (ap (λ (l : Line). l.held) k.0) refl
turn_reads before after old new (cut_short now received frames refused) given is r k = absurd k
turn_reads before after old new not_begun given is r k = absurd k

-- over whole turns
turns_read : (before after : History) (old new : Line) (turns : List Turn) (given : List ℕ) (is : List Incoming) → Reads given is old.held → AreTurns before after old new turns
    → Reads (given ++ flat_map given_in turns) (is ++ came (flat_map calls_of turns)) new.held
turns_read before after old new [] given is r a = reads_on given is old.held new.held [] r (ap (λ (l : Line). l.held) a.0) refl
turns_read before after old new (t ∷ later) given is r a =
    let x = turn_reads before a.2 old a.1 t given is r a.3 in
    let y = turns_read a.4 after a.1 new later (given ++ given_in t) (is ++ came (calls_of t)) x a.6 in
    subst (λ (bs : List ℕ). Reads bs (is ++ came (calls_of t ++ flat_map calls_of later)) new.held) (append_assoc given (given_in t) (flat_map given_in later))
    (subst (λ (js : List Incoming). Reads ((given ++ given_in t) ++ flat_map given_in later) js new.held)
    (append_assoc is (came (calls_of t)) (came (flat_map calls_of later)) ∙ ap (λ (js : List Incoming). is ++ js) (sym (came_append (calls_of t) (flat_map calls_of later)))) y)

-- and in one that was cut short behind them
cut_reads : (l : Line) (t : Turn) (given : List ℕ) (is : List Incoming) → Reads given is l.held → IsCut l t → (held : List ℕ) × Reads (given ++ given_in t) (is ++ came (calls_of t)) held
cut_reads l (only_sends now sent lost) given is r k = absurd k
cut_reads l (works w) given is r k = absurd k
cut_reads l (link_lost now) given is r k = absurd k
cut_reads l (cut_short now received frames None) given is r k =
    let m : Line = line_received l now received k.got in
    let x = reads_frames now m frames (given ++ received) is (reads_more given is l.held received r) k.taken in
    ((lines_after now m frames).held, subst (λ (js : List Incoming). Reads (given ++ received) (is ++ js) (lines_after now m frames).held) (sym (frames_came now frames)) x)
cut_reads l (cut_short now received frames (Some r)) given is b k = by_refusal r k.is
  where
    m : Line
    m = line_received l now received k.got

    n : Line
    n = lines_after now m frames

    so_far : Reads (given ++ received) (is ++ incomings frames) n.held
    so_far = reads_frames now m frames (given ++ received) is (reads_more given is l.held received b) k.taken

    -- behind the calls of the next frame
    behind : (t : TakenFrame) (cs : List Call) → came cs ≡ t.incoming ∷ [] → IsNext n t → (held : List ℕ) × Reads (given ++ received) (is ++ came (calls_of_frames now frames ++ cs)) held
    behind t cs came_is next =
        let x = reads_next (given ++ received) (is ++ incomings frames) n t so_far next in
        let same : came (calls_of_frames now frames ++ cs) ≡ incomings frames ++ t.incoming ∷ [] =
        came_append (calls_of_frames now frames) cs ∙ (ap (λ (js : List Incoming). js ++ came cs) (frames_came now frames) ∙ ap (λ (js : List Incoming). incomings frames ++ js) came_is) in (
          drop (size_of t.frame) n.held,
          subst (λ (js : List Incoming). Reads (given ++ received) js (drop (size_of t.frame) n.held)) (append_assoc is (incomings frames) (t.incoming ∷ []) ∙ ap (λ (js : List Incoming). is ++ js) (sym same)) x,
        )

    by_refusal : (q : Refusal) → IsRefused now n q → (held : List ℕ) × Reads (given ++ received) (is ++ came (calls_of_frames now frames ++ refused_calls now q)) held
    by_refusal (of_act t) next = behind t (calls.frame t.incoming t.at now ∷ []) refl next
    by_refusal (of_held t message) awaited = behind t (frame_calls now t) (frame_came now t) awaited.next
cut_reads l not_begun given is r k = absurd k

last_reads : (l : Line) (cut : Option Turn) (given : List ℕ) (is : List Incoming) → Reads given is l.held → IfSome cut (IsCut l)
    → (held : List ℕ) × Reads (given ++ flat_map given_in (option_to_list cut)) (is ++ came (flat_map calls_of (option_to_list cut))) held
last_reads l None given is r k = (l.held, reads_on given is l.held l.held [] r refl refl)
last_reads l (Some t) given is r k =
    let x = cut_reads l t given is r k in (
      x.0,
      subst (λ (bs : List ℕ). Reads (given ++ bs) (is ++ came (calls_of t ++ [])) x.0) (sym (append-nil (given_in t)))
          (subst (λ (cs : List Call). Reads (given ++ given_in t) (is ++ came cs) x.0) (sym (append-nil (calls_of t))) x.1),
    )

zip_first : (is : List Incoming) (fs more : List Frame) → AllZip Is is fs → AreFirstOf is (fs ++ more)
zip_first [] fs more all = tt
zip_first (i ∷ is) [] more all = absurd all
zip_first (i ∷ is) (f ∷ fs) more all = (all.0, zip_first is fs more all.1)

reads_first : (given : List ℕ) (is : List Incoming) (held : List ℕ) → Reads given is held → AreFirstOf is (frames_of given)
reads_first given is held r =
    subst (λ (fs : List Frame). AreFirstOf is fs) (sym (ap (λ (bs : List ℕ). frames_of bs) r.joins ∙ frames_of-spelled_all r.frames held r.each)) (zip_first is r.frames (frames_of held) r.are)

-- over a connection
all_read : (h : List Entry) (s : State) (t : TurnedLeg) → AreTurnsOf h s t → (held : List ℕ) × Reads (given_on t) (came (calls_on t)) held
all_read h s t k =
    let given : List ℕ = flat_map given_in t.turns in
    let is : List Incoming = came (flat_map calls_of t.turns) in
    let cut : List Turn = option_to_list t.cut in
    let start : Reads [] [] [] = record { frames = []; joins = refl; each = tt; are = tt } in
    let x = last_reads k.last t.cut given is (turns_read k.before k.after (first_line t.per_turn s t.moment) k.last t.turns [] [] start k.turns) k.cut in (
      x.0,
      subst (λ (bs : List ℕ). Reads bs (came (calls_on t)) x.0) (sym (flat_map-append given_in t.turns cut))
          (subst (λ (js : List Incoming). Reads (given ++ flat_map given_in cut) js x.0)
          (sym (ap (λ (cs : List Call). came cs) (flat_map-append calls_of t.turns cut) ∙ came_append (flat_map calls_of t.turns) (flat_map calls_of cut))) x.1),
    )

pub given_came : GivenCame
given_came h s t k = let x = all_read h s t k in reads_first (given_on t) (came (calls_on t)) x.0 x.1

-- of bytes the messages have numbers that fit
abbrev IsByte : ℕ → Type 0
IsByte b = b < 256

incoming_fits : (order : Order) (message : List ℕ) (i : Incoming) → IsBytes message → IsIncoming order message i → FitsIncoming i
incoming_fits order message (application payload) bytes is = tt
incoming_fits order message (session m) bytes is = spelled_fits message m bytes is.1
incoming_fits order message wrong_order bytes is = tt
incoming_fits order message too_short bytes is = tt
incoming_fits order message (unknown template) bytes is = tt

read_fits : (is : List Incoming) (fs : List Frame) → AllByRecursion IsByte (spelled_all fs) → AllZip Is is fs → AllByRecursion FitsIncoming is
read_fits [] fs bytes all = tt
read_fits (i ∷ is) [] bytes all = absurd all
read_fits (i ∷ is) (f ∷ fs) bytes all =
    let here : AllByRecursion IsByte f.message = all_second IsByte (header_of f) f.message (all_first IsByte (spelled f) (spelled_all fs) bytes) in
    (incoming_fits f.order f.message i (All-from_recursion IsByte f.message here) all.0, read_fits is fs (all_second IsByte (spelled f) (spelled_all fs) bytes) all.1)

-- the frames of a turn come at its moment
abbrev IsOnTime : Call → Type 0
IsOnTime (calls.frame incoming at now) = IsInTime now
IsOnTime _ = ⊤

frame_on_time : (now : ℕ) (t : TakenFrame) → IsInTime now → AllByRecursion IsOnTime (frame_calls now t)
frame_on_time now t time = all_append IsOnTime (act_calls now t) (replicate t.helds held_done) (time, by_test t.recorded) (all_held t.helds)
  where
    all_held : (n : ℕ) → AllByRecursion IsOnTime (replicate n held_done)
    all_held zero = tt
    all_held (suc n) = (tt, all_held n)

    by_test : (b : Bool) → AllByRecursion IsOnTime (if b then did now ∷ [] else [])
    by_test true = (tt, tt)
    by_test false = tt

frames_on_time : (now : ℕ) (frames : List TakenFrame) → IsInTime now → AllByRecursion IsOnTime (calls_of_frames now frames)
frames_on_time now [] time = tt
frames_on_time now (t ∷ later) time = all_append IsOnTime (frame_calls now t) (calls_of_frames now later) (frame_on_time now t time) (frames_on_time now later time)

refused_on_time : (now : ℕ) (r : Refusal) → IsInTime now → AllByRecursion IsOnTime (refused_calls now r)
refused_on_time now (of_act t) time = (time, tt)
refused_on_time now (of_held t m) time = frame_on_time now t time

sending_on_time : (sent : List ℕ) (lost : Bool) → AllByRecursion IsOnTime (sending_calls sent lost)
sending_on_time sent true = (tt, tt)
sending_on_time sent false = (tt, tt)

turn_on_time : (t : Turn) → IsInTime (moment_of t) → AllByRecursion IsOnTime (calls_of t)
turn_on_time (only_sends now sent lost) time = (tt, (tt, sending_on_time sent lost))
turn_on_time (works w) time = (
  tt,
  (
    tt,
    all_append IsOnTime (calls_of_frames w.now w.frames) (closing_calls w ++ (outbox_calls w ++ sending_calls w.sent w.lost)) (frames_on_time w.now w.frames time)
        (all_append IsOnTime (closing_calls w) (outbox_calls w ++ sending_calls w.sent w.lost) (closing_all IsOnTime w.now w.broken w.link_over (λ _. tt) tt tt)
        (all_append IsOnTime (outbox_calls w) (sending_calls w.sent w.lost) (outbox_all IsOnTime w.now w.again w.live w.finish (λ _. tt) (λ _. tt) (λ _. tt)) (sending_on_time w.sent w.lost))),
  ),
)
turn_on_time (link_lost now) time = (tt, (tt, (tt, tt)))
turn_on_time (cut_short now received frames None) time = (tt, (tt, frames_on_time now frames time))
turn_on_time (cut_short now received frames (Some r)) time = (tt, (tt, all_append IsOnTime (calls_of_frames now frames) (refused_calls now r) (frames_on_time now frames time) (refused_on_time now r time)))
turn_on_time not_begun time = tt

turns_on_time : (turns : List Turn) → AllByRecursion IsTimelyTurn turns → AllByRecursion IsOnTime (flat_map calls_of turns)
turns_on_time [] all = tt
turns_on_time (t ∷ later) all = all_append IsOnTime (calls_of t) (flat_map calls_of later) (turn_on_time t all.0.time) (turns_on_time later all.1)

-- what the link gave in them are bytes
given_bytes : (turns : List Turn) → AllByRecursion IsTimelyTurn turns → AllByRecursion IsByte (flat_map given_in turns)
given_bytes [] all = tt
given_bytes (t ∷ later) all = all_append IsByte (given_in t) (flat_map given_in later) (recursion_from_All IsByte (given_in t) all.0.bytes) (given_bytes later all.1)

pub given_are_bytes : (t : TurnedLeg) → IsTimely t → IsBytes (given_on t)
given_are_bytes t timely = All-from_recursion IsByte (given_on t) (given_bytes (all_turns t) timely.turns)

call_fits : (call : Call) → AllByRecursion FitsIncoming (came_by call) → IsOnTime call → FitsCall call
call_fits (calls.begin now) fits time = tt
call_fits (calls.frame incoming at now) fits time = (fits.0, time)
call_fits (calls.bad_frame at now) fits time = tt
call_fits (calls.did now) fits time = tt
call_fits (calls.tick now) fits time = tt
call_fits (calls.turn_done now) fits time = tt
call_fits (calls.closed last now) fits time = tt
call_fits calls.link_end fits time = tt
call_fits (calls.live payloads now) fits time = tt
call_fits (calls.again payloads now) fits time = tt
call_fits (calls.taken count) fits time = tt
call_fits calls.reserve fits time = tt
call_fits calls.held_done fits time = tt

each_fits : (cs : List Call) → AllByRecursion FitsIncoming (came cs) → AllByRecursion IsOnTime cs → AllByRecursion FitsCall cs
each_fits [] fits time = tt
each_fits (call ∷ later) fits time =
    (call_fits call (all_first FitsIncoming (came_by call) (came later) fits) time.0, each_fits later (all_second FitsIncoming (came_by call) (came later) fits) time.1)

pub calls_fit : (h : List Entry) (s : State) (t : TurnedLeg) → AreTurnsOf h s t → IsTimely t → AllByRecursion FitsCall (calls_on t)
calls_fit h s t k timely =
    let x = all_read h s t k in
    let bytes : AllByRecursion IsByte (spelled_all x.1.frames ++ x.0) = subst (λ (bs : List ℕ). AllByRecursion IsByte bs) x.1.joins (given_bytes (all_turns t) timely.turns) in
    each_fits (calls_on t) (read_fits (came (calls_on t)) x.1.frames (all_first IsByte (spelled_all x.1.frames) x.0 bytes) x.1.are) (turns_on_time (all_turns t) timely.turns)
