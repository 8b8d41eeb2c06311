-- The bytes that the link took in the turns of a connection are the first of those written on it.
use Rattle.session_model.specs.Inbox.{Numbered}
use Rattle.std.proofs.Common.{◌≡◌, ◌≤◌, ◌-◌, ℕ, Bool, true, false, if◌then◌else◌, List, [], ◌∷◌, ◌++◌, length, take, Option, Some, None, refl, sym, ap, subst, ◌∙◌, arith, append-nil, append_assoc, length-append, zero, suc}
use Rattle.std.specs.Prelude.{⊤, IfSome, is_some, nat_lt, option_to_list, replicate}
use Rattle.std.specs.List.{AllByRecursion, flat_map}
use Rattle.std.proofs.lemmas.Bool.{ltb-false}
use Rattle.std.proofs.lemmas.Grind.{flat_map-append}
use Rattle.std.proofs.Math.Seq.{take-append_seam}
use mathlib.Core.List.{IsPrefix}
use Rattle.session_model.specs.Journal.{Entry, History}
use Rattle.session_model.proofs.Lists.{all_append, prefix_trans}
use Rattle.fixp_replies.specs.Acts.{is_record}
use Rattle.fixp_replies.specs.Outcomes.{Outcome}
use Rattle.fixp_replies.specs.Replies.{reply_of}
use Rattle.fixp_replies.specs.declared.act.Ending.{Ending}
use Rattle.fixp_replies.specs.Events.{link_ending}
use Rattle.fixp_machine.specs.Machine as machine
use Rattle.fixp_machine.specs.Machine.{State, Call, begin, frame, bad_frame, did, tick, turn_done, closed, link_end, live, again, taken, reserve, around, link_ended, run, held_done}
use Rattle.conn_turns.specs.Lines.{Line, TakenFrame, frame_calls, act_calls}
use Rattle.conn_turns.specs.Turns.{Work, Turn, IsFaithful, only_sends, works, link_lost, cut_short, not_begun, first_calls, calls_of_frames, closing_calls, outbox_calls, sending_calls, calls_of}
use Rattle.conn_turns.proofs.Taking.{run_append}
use Rattle.connection_laws.specs.Writing.{Piece, bytes_of_piece, bytes_written}
use Rattle.connection_laws.specs.Courses.{Waiting, Course, counting, called, next_done, next_course, beginning, course_after, next_held}
use Rattle.connection_laws.specs.Standing.{Stands}
use Rattle.connection_laws.proofs.Continuing.{state_is_run, calls_go_on}
use Rattle.turn_laws.specs.Turns.{IsTurn, IsCut}
use Rattle.turn_laws.specs.Standing.{StandsAt, Has}
use Rattle.turn_laws.specs.Legs.{AreTurns, first_line, sent_in, sent_on, whole_in, course_on, SentAreWritten, GivenUpBegins}
use Rattle.turn_laws.proofs.Going.{after_append}
use Rattle.turn_laws.proofs.Working.{turn_may_stand}
use Rattle.turn_laws.proofs.Each.{closing_all, outbox_all}
use Rattle.turn_laws.proofs.Running.{has_so_far, turns_stand, begin_stands, cut_stands, whole_first}

-- a call by which the link takes nothing
abbrev TakesNothing : Call → Type 0
TakesNothing (begin now) = ⊥
TakesNothing (frame incoming at now) = ⊤
TakesNothing (bad_frame at now) = ⊤
TakesNothing (did now) = ⊤
TakesNothing (tick now) = ⊤
TakesNothing (turn_done now) = ⊤
TakesNothing (closed last now) = ⊤
TakesNothing link_end = ⊤
TakesNothing (live payloads now) = ⊤
TakesNothing (again payloads now) = ⊤
TakesNothing (taken count) = ⊥
TakesNothing reserve = ⊤
TakesNothing held_done = ⊤

takes_nothing : (c : Course) (call : Call) → TakesNothing call → (next_course c call).taken ≡ c.taken
takes_nothing c (begin now) n = absurd n
takes_nothing c (frame incoming at now) n = by_record (is_record (reply_of (around c.state at now) c.state.facts incoming).act)
  where
    by_record : (b : Bool) → (if b then record (called c (frame incoming at now)) { waiting = Some (record { incoming = incoming; at = at; moment = now }) }
        else counting (called c (frame incoming at now)) (reply_of (around c.state at now) c.state.facts incoming) incoming).taken ≡ c.taken
    by_record true = refl
    by_record false = refl
takes_nothing c (bad_frame at now) n = refl
takes_nothing c (did now) n = by_pending c.state.pending c.waiting
  where
    by_pending : (p : Option Outcome) (w : Option Waiting) → (next_done (called c (did now)) p w).taken ≡ c.taken
    by_pending None w = refl
    by_pending (Some o) None = refl
    by_pending (Some o) (Some w) = refl
takes_nothing c (tick now) n = refl
takes_nothing c (turn_done now) n = refl
takes_nothing c (closed last now) n = refl
takes_nothing c link_end n = refl
takes_nothing c (live payloads now) n = refl
takes_nothing c (again payloads now) n = refl
takes_nothing c (taken count) n = absurd n
takes_nothing c reserve n = refl
takes_nothing c held_done n = by_front (machine.front_of c.state)
  where
    by_front : (o : Option Numbered) → (next_held (called c held_done) o).taken ≡ c.taken
    by_front None = refl
    by_front (Some m) = refl

take_nothing : (c : Course) (cs : List Call) → AllByRecursion TakesNothing cs → (course_after c cs).taken ≡ c.taken
take_nothing c [] all = refl
take_nothing c (call ∷ later) all = take_nothing (next_course c call) later all.1 ∙ takes_nothing c call all.0

-- so it is of all calls of a turn before it sends
frame_takes : (now : ℕ) (t : TakenFrame) → AllByRecursion TakesNothing (frame_calls now t)
frame_takes now t = all_append TakesNothing (act_calls now t) (replicate t.helds held_done) (tt, by_test t.recorded) (all_held t.helds)
  where
    all_held : (n : ℕ) → AllByRecursion TakesNothing (replicate n held_done)
    all_held zero = tt
    all_held (suc n) = (tt, all_held n)

    by_test : (b : Bool) → AllByRecursion TakesNothing (if b then did now ∷ [] else [])
    by_test true = (tt, tt)
    by_test false = tt

frames_take : (now : ℕ) (frames : List TakenFrame) → AllByRecursion TakesNothing (calls_of_frames now frames)
frames_take now [] = tt
frames_take now (t ∷ later) = all_append TakesNothing (frame_calls now t) (calls_of_frames now later) (frame_takes now t) (frames_take now later)

abbrev before_sending : Work → List Call
before_sending w = first_calls w.now ++ (calls_of_frames w.now w.frames ++ (closing_calls w ++ outbox_calls w))

work_takes : (w : Work) → AllByRecursion TakesNothing (before_sending w)
work_takes w = (
  tt,
  (
    tt,
    all_append TakesNothing (calls_of_frames w.now w.frames) (closing_calls w ++ outbox_calls w) (frames_take w.now w.frames)
        (all_append TakesNothing (closing_calls w) (outbox_calls w) (closing_all TakesNothing w.now w.broken w.link_over (λ _. tt) tt tt) (outbox_all TakesNothing w.now w.again w.live w.finish (λ _. tt) (λ _. tt) (λ _. tt))),
  ),
)

-- the link took these bytes, the first of those written; where the connection has not ended, they are those counted
pub record Took (c : Course) (sent : List ℕ) : Type 0 where
  pub front : IsPrefix sent (bytes_written c.output)
  pub exact : c.state.ending ≡ None → c.taken ≡ sent

front_of : (h : List Entry) (c : Course) (sent rest : List ℕ) → Stands h c → c.taken ++ c.state.unsent ≡ sent ++ rest → IsPrefix sent (bytes_written c.output)
front_of h c sent rest st e = (rest, sym (st.bytes ∙ e))

link_keeps : (s : State) → (link_ended s).unsent ≡ s.unsent
link_keeps s = by_test (is_some s.ending)
  where
    by_test : (b : Bool) → (if b then s else record s { ending = Some (link_ending (around s 0 s.moment) s.facts); pending = None; held = [] }).unsent ≡ s.unsent
    by_test true = refl
    by_test false = refl

link_ends : (s : State) → (link_ended s).ending ≡ None → ⊥
link_ends s = by_ending s.ending refl
  where
    by_ending : (o : Option Ending) → s.ending ≡ o → (if is_some o then s else record s { ending = Some (link_ending (around s 0 s.moment) s.facts); pending = None; held = [] }).ending ≡ None → ⊥
    by_ending None e k = cc k
    by_ending (Some x) e k = cc (e, k)

sending_took : (h : List Entry) (e : Course) (sent : List ℕ) (lost : Bool) → Stands h (course_after e (sending_calls sent lost)) → IsPrefix sent e.state.unsent → Took (course_after e (sending_calls sent lost)) (e.taken ++ sent)
sending_took h e sent false st p =
    let c : Course = next_course e (taken (length sent)) in
    let is : c.taken ≡ e.taken ++ sent = ap (λ (bs : List ℕ). e.taken ++ bs) (ap (λ (bs : List ℕ). take (length sent) bs) (sym p.1) ∙ take-append_seam sent p.0) in
    record { front = front_of h c (e.taken ++ sent) c.state.unsent st (ap (λ (bs : List ℕ). bs ++ c.state.unsent) is); exact = λ _. is }
sending_took h e sent true st p =
    let c : Course = next_course e link_end in
    record {
      front = front_of h c (e.taken ++ sent) p.0 st (ap (λ (bs : List ℕ). e.taken ++ bs) (link_keeps e.state ∙ sym p.1) ∙ sym (append_assoc e.taken sent p.0));
      exact = λ k. absurd (link_ends e.state k);
    }

-- behind calls by which it took nothing
behind_took : (h : List Entry) (c : Course) (m : State) (earlier : List Call) (sent : List ℕ) (lost : Bool) → AllByRecursion TakesNothing earlier → (course_after c earlier).state ≡ m → IsPrefix sent m.unsent
    → Stands h (course_after c (earlier ++ sending_calls sent lost)) → Took (course_after c (earlier ++ sending_calls sent lost)) (c.taken ++ sent)
behind_took h c m earlier sent lost none is p st =
    let e : Course = course_after c earlier in
    let joined : course_after c (earlier ++ sending_calls sent lost) ≡ course_after e (sending_calls sent lost) = after_append c earlier (sending_calls sent lost) in
    subst (λ (d : Course). Took d (c.taken ++ sent)) (sym joined) (subst (λ (bs : List ℕ). Took (course_after e (sending_calls sent lost)) (bs ++ sent)) (take_nothing c earlier none)
    (sending_took h e sent lost (subst (λ (d : Course). Stands h d) joined st) (subst (λ (x : State). IsPrefix sent x.unsent) (sym is) p)))

work_parts : (w : Work) → calls_of (works w) ≡ before_sending w ++ sending_calls w.sent w.lost
work_parts w =
    let first : List Call = first_calls w.now in
    let frames : List Call = calls_of_frames w.now w.frames in
    let closing : List Call = closing_calls w in
    let outbox : List Call = outbox_calls w in
    let sending : List Call = sending_calls w.sent w.lost in
    ap (λ (cs : List Call). first ++ cs) (ap (λ (cs : List Call). frames ++ cs) (sym (append_assoc closing outbox sending)) ∙ sym (append_assoc frames (closing ++ outbox) sending))

pub turn_took : (h : List Entry) (before after : History) (old new : Line) (t : Turn) (c : Course) → c.state ≡ old.machine → IsTurn before after old new t → Stands h (course_after c (calls_of t)) → Took (course_after c (calls_of t)) (c.taken ++ sent_in t)
turn_took h before after old new (only_sends now sent lost) c is k st =
    behind_took h c (run old.machine (first_calls now)) (first_calls now) sent lost (tt, (tt, tt)) (state_is_run c (first_calls now) ∙ ap (λ (x : State). run x (first_calls now)) is) k.0.front st
turn_took h before after old new (works w) c is k st =
    let first : List Call = first_calls w.now in
    let rest : List Call = calls_of_frames w.now w.frames ++ (closing_calls w ++ outbox_calls w) in
    let at : (course_after c (before_sending w)).state ≡ k.behind.machine = state_is_run c (first ++ rest) ∙ (ap (λ (x : State). run x (first ++ rest)) is ∙ (run_append old.machine first rest ∙ sym k.served.machine)) in
    subst (λ (cs : List Call). Took (course_after c cs) (c.taken ++ w.sent)) (sym (work_parts w))
    (behind_took h c k.behind.machine (before_sending w) w.sent w.lost (work_takes w) at k.sends.front (subst (λ (cs : List Call). Stands h (course_after c cs)) (work_parts w) st))
turn_took h before after old new (link_lost now) c is k st =
    let m : State = run old.machine (first_calls now) in
    behind_took h c m (first_calls now) [] true (tt, (tt, tt)) (state_is_run c (first_calls now) ∙ ap (λ (x : State). run x (first_calls now)) is) (m.unsent, refl) st
turn_took h before after old new (cut_short now received frames refused) c is k st = absurd k
turn_took h before after old new not_begun c is k st = absurd k

-- of whole turns, one behind another
turns_took : (h : List Entry) (before after : History) (old new : Line) (turns : List Turn) (c : Course) → StandsAt h c old → Has h after → AreTurns before after old new turns
    → AllByRecursion IsFaithful turns → Took (course_after c (flat_map calls_of turns)) (c.taken ++ flat_map sent_in turns)
turns_took h before after old new [] c s has a f = record { front = front_of h c (c.taken ++ []) c.state.unsent s.stands (ap (λ (bs : List ℕ). bs ++ c.state.unsent) (sym (append-nil c.taken))); exact = λ _. sym (append-nil c.taken) }
turns_took h before after old new (t ∷ []) c s has a f =
    let x = turn_may_stand h before a.2 old a.1 t c s (has_so_far h before after old new t [] has a) a.3 f.0 in
    subst (λ (cs : List Call). Took (course_after c cs) (c.taken ++ (sent_in t ++ []))) (sym (append-nil (calls_of t)))
    (subst (λ (bs : List ℕ). Took (course_after c (calls_of t)) (c.taken ++ bs)) (sym (append-nil (sent_in t))) (turn_took h before a.2 old a.1 t c s.machine a.3 x.after.stands))
turns_took h before after old new (t ∷ (u ∷ later)) c s has a f =
    let mid : Line = a.1 in
    let between : History = a.2 in
    let x = turn_may_stand h before between old mid t c s (has_so_far h before after old new t (u ∷ later) has a) a.3 f.0 in
    let d : Course = course_after c (calls_of t) in
    let more : List Call = flat_map calls_of (u ∷ later) in
    let y : Took (course_after d more) (d.taken ++ flat_map sent_in (u ∷ later)) = turns_took h a.4 after mid new (u ∷ later) d x.after has a.6 f.1 in
    let is : d.taken ≡ c.taken ++ sent_in t = (turn_took h before between old mid t c s.machine a.3 x.after.stands).exact (ap (λ (m : State). m.ending) x.after.machine ∙ a.6.0) in
    subst (λ (e : Course). Took e (c.taken ++ (sent_in t ++ flat_map sent_in (u ∷ later)))) (sym (after_append c (calls_of t) more))
    (subst (λ (bs : List ℕ). Took (course_after d more) bs) (ap (λ (bs : List ℕ). bs ++ flat_map sent_in (u ∷ later)) is ∙ append_assoc c.taken (sent_in t) (flat_map sent_in (u ∷ later))) y)

cut_sends : (l : Line) (cut : Option Turn) → IfSome cut (IsCut l) → flat_map sent_in (option_to_list cut) ≡ []
cut_sends l None k = refl
cut_sends l (Some (only_sends now sent lost)) k = absurd k
cut_sends l (Some (works w)) k = absurd k
cut_sends l (Some (link_lost now)) k = absurd k
cut_sends l (Some (cut_short now received frames refused)) k = refl
cut_sends l (Some not_begun) k = refl

bytes_longer : (xs ys : List Piece) → IsPrefix xs ys → IsPrefix (bytes_written xs) (bytes_written ys)
bytes_longer xs ys p = (bytes_written p.0, sym (flat_map-append bytes_of_piece xs p.0) ∙ ap (λ (ps : List Piece). bytes_written ps) p.1)

-- the shorter of two beginnings begins the other
begins_shorter : (xs ys zs : List ℕ) → IsPrefix xs zs → IsPrefix ys zs → length xs ≤ length ys → IsPrefix xs ys
begins_shorter [] ys zs p q few = (ys, refl)
begins_shorter (x ∷ xs) [] zs p q few = absurd (omega (arith, few))
begins_shorter (x ∷ xs) (y ∷ ys) [] p q few = absurd (cc (p.1))
begins_shorter (x ∷ xs) (y ∷ ys) (z ∷ zs) p q few =
    let r = begins_shorter xs ys zs (p.0, cc (p.1)) (q.0, cc (q.1)) (omega (arith, few)) in
    (r.0, cc (p.1, q.1, r.1))

whole_size : (count : ℕ) (ps : List Piece) → length (bytes_written (whole_in count ps)) ≤ count
whole_size count [] = omega arith
whole_size count (p ∷ later) = by_test (nat_lt count (length (bytes_of_piece p))) refl (whole_size (count - length (bytes_of_piece p)) later)
  where
    by_test : (b : Bool) → nat_lt count (length (bytes_of_piece p)) ≡ b → length (bytes_written (whole_in (count - length (bytes_of_piece p)) later)) ≤ count - length (bytes_of_piece p)
        → length (bytes_written (if b then [] else p ∷ whole_in (count - length (bytes_of_piece p)) later)) ≤ count
    by_test true e rest = omega arith
    by_test false e rest = omega (arith, ltb-false count (length (bytes_of_piece p)) e, rest, length-append (bytes_of_piece p) (bytes_written (whole_in (count - length (bytes_of_piece p)) later)))

pub sent_are_written : SentAreWritten
sent_are_written h s inbox t awaits enough k =
    let c : Course = beginning s inbox t.moment in
    let start : StandsAt h c (first_line t.per_turn s t.moment) = begin_stands h t.per_turn s inbox t.moment awaits enough in
    let turns : List Call = flat_map calls_of t.turns in
    let cut : List Call = flat_map calls_of (option_to_list t.cut) in
    let x : Took (course_after c turns) (flat_map sent_in t.turns) = turns_took h k.before k.after (first_line t.per_turn s t.moment) k.last t.turns c start k.has k.turns k.faithful in
    let y = turns_stand h k.before k.after (first_line t.per_turn s t.moment) k.last t.turns c start k.has k.turns k.faithful in
    let more = calls_go_on h (course_after c turns) cut (cut_stands h (course_after c turns) k.last t.cut y.after k.cut) in
    let joined : course_on s inbox t ≡ course_after (course_after c turns) cut = ap (λ (cs : List Call). course_after c cs) (flat_map-append calls_of t.turns (option_to_list t.cut)) ∙ after_append c turns cut in
    let sent : sent_on t ≡ flat_map sent_in t.turns = flat_map-append sent_in t.turns (option_to_list t.cut) ∙ (ap (λ (bs : List ℕ). flat_map sent_in t.turns ++ bs) (cut_sends k.last t.cut k.cut) ∙ append-nil (flat_map sent_in t.turns)) in
    let written : IsPrefix (sent_on t) (bytes_written (course_on s inbox t).output) =
    subst (λ (d : Course). IsPrefix (sent_on t) (bytes_written d.output)) (sym joined) (subst (λ (bs : List ℕ). IsPrefix bs (bytes_written (course_after (course_after c turns) cut).output)) (sym sent)
    (prefix_trans (flat_map sent_in t.turns) (bytes_written (course_after c turns).output) (bytes_written (course_after (course_after c turns) cut).output) x.front
    (bytes_longer (course_after c turns).output (course_after (course_after c turns) cut).output more.output))) in
    record {
      written = written;
      whole = begins_shorter (bytes_written (whole_in (length (sent_on t)) (course_on s inbox t).output)) (sent_on t) (bytes_written (course_on s inbox t).output)
          (bytes_longer (whole_in (length (sent_on t)) (course_on s inbox t).output) (course_on s inbox t).output (whole_first (length (sent_on t)) (course_on s inbox t).output)) written
          (whole_size (length (sent_on t)) (course_on s inbox t).output);
    }

pub given_up_begins : GivenUpBegins
given_up_begins s inbox now = by_test (is_some s.ending)
  where
    emptied : State
    emptied = run s (taken (length s.unsent) ∷ [])

    by_test : (b : Bool) → beginning (if b then emptied else record emptied { ending = Some (link_ending (around emptied 0 emptied.moment) emptied.facts); pending = None; held = [] }) inbox now ≡ beginning s inbox now
    by_test true = refl
    by_test false = refl
