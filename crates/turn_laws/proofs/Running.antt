-- A connection that is a list of turns may run, and a life of such connections serves.
use Rattle.std.proofs.Common.{◌≡◌, ◌≤◌, ◌+◌, ◌-◌, ℕ, Bool, true, false, ◌&&◌, not, if◌then◌else◌, List, [], ◌∷◌, ◌++◌, length, Option, Some, None, refl, sym, ap, subst, ◌∙◌, arith, true≢false, append-nil, length-append}
use Rattle.std.specs.Prelude.{IfSome, is_none, nat_lt, option_to_list}
use Rattle.std.specs.List.{AllByRecursion, flat_map}
use Rattle.std.proofs.lemmas.Bool.{ltb-true, ltb-false}
use Rattle.std.proofs.lemmas.Grind.{flat_map-append}
use mathlib.Core.List.{IsPrefix}
use Rattle.session_model.specs.Journal.{Entry, History}
use Rattle.session_model.specs.Inbox.{InboxRecord, next_number}
use Rattle.session_model.proofs.Lists.{prefix_trans, prefix_equal}
use Rattle.fixp_replies.specs.Acts.{is_record}
use Rattle.fixp_replies.specs.Outcomes.{Outcome}
use Rattle.fixp_replies.specs.Replies.{reply_of}
use Rattle.fixp_machine.specs.Machine.{State, Call, around, run, front_of}
use Rattle.fixp_machine.specs.Machine as calls
use Rattle.conn_turns.specs.Lines.{Line, lines_after, frame_calls}
use Rattle.conn_turns.specs.Turns.{Turn, IsFaithful, only_sends, works, link_lost, cut_short, not_begun, first_calls, calls_of_frames, calls_of}
use Rattle.conn_turns.proofs.Taking.{run_append, frames_make_calls}
use Rattle.connection_laws.specs.Writing.{Piece, bytes_of_piece, bytes_written}
use Rattle.connection_laws.specs.Courses.{Waiting, Course, inbox_of, beginning, counting, called, next_course, course_after}
use Rattle.connection_laws.specs.Standing.{Stands, AllMayStand}
use Rattle.connection_laws.specs.Connections.{WasTaken}
use Rattle.connection_laws.specs.Living.{MayRun, AllMayRun}
use Rattle.connection_laws.proofs.Going.{calls_keep, connection_begins}
use Rattle.connection_laws.proofs.Continuing.{state_is_run}
use Rattle.connection_laws.proofs.Living.{life_serves, life_refused, life_refused_held, life_refused_tail}
use Rattle.turn_laws.specs.Turns.{line_received, IsTurn, IsCut}
use Rattle.turn_laws.specs.Standing.{StandsAt, Has}
use Rattle.turn_laws.specs.Legs.{AreTurns, TurnedLeg, calls_on, first_line, AreTurnsOf, sent_on, whole_in, is_drained, course_on, leg_of, TurnsRun, RefusedWaits, HeldAwaits}
use Rattle.turn_laws.specs.Lives.{AllAreTurns, legs_of, state_after, inbox_after, TurnsServe, TurnsRefused, TurnsRefusedHeld, TurnsRefusedTail}
use Rattle.turn_laws.proofs.Going.{may_append, after_append}
use Rattle.turn_laws.proofs.Working.{turn_may_stand, cut_may_stand}

-- what was seen before a turn begins what was seen behind it
seen_on : (before after : History) (old new : Line) (t : Turn) → IsTurn before after old new t → IsPrefix before.made after.made
seen_on before after old new (only_sends now sent lost) k = prefix_equal before.made after.made (ap (λ (x : History). x.made) (sym k.1))
seen_on before after old new (works w) k =
    let v = k.served in
    subst (λ (x : History). IsPrefix before.made x.made) v.seen
    (prefix_trans before.made w.at_again.made w.at_finish.made v.seen_again.made (prefix_trans w.at_again.made w.at_live.made w.at_finish.made v.seen_live.made v.seen_finish.made))
seen_on before after old new (link_lost now) k = prefix_equal before.made after.made (ap (λ (x : History). x.made) (sym k.1))
seen_on before after old new (cut_short now received frames refused) k = absurd k
seen_on before after old new not_begun k = absurd k

pub all_seen : (before after : History) (old new : Line) (turns : List Turn) → AreTurns before after old new turns → IsPrefix before.made after.made
all_seen before after old new [] a = prefix_equal before.made after.made (ap (λ (x : History). x.made) (sym a.1))
all_seen before after old new (t ∷ later) a =
    prefix_trans before.made a.2.made after.made (seen_on before a.2 old a.1 t a.3) (prefix_trans a.2.made a.4.made after.made a.5.made (all_seen a.4 after a.1 new later a.6))

-- the outbox has what was seen behind the first turn
pub has_so_far : (h : List Entry) (before after : History) (old new : Line) (t : Turn) (later : List Turn) → Has h after → (a : AreTurns before after old new (t ∷ later)) → Has h a.2
has_so_far h before after old new t later has a = record {
  begins = prefix_trans a.2.made after.made h (prefix_trans a.2.made a.4.made after.made a.5.made (all_seen a.4 after a.1 new later a.6)) has.begins;
  few = has.few;
}

-- whole turns, one behind another
pub record TurnsStand (h : List Entry) (c : Course) (new : Line) (turns : List Turn) : Type 0 where
  pub may : AllMayStand h c (flat_map calls_of turns)
  pub after : StandsAt h (course_after c (flat_map calls_of turns)) new

pub turns_stand : (h : List Entry) (before after : History) (old new : Line) (turns : List Turn) (c : Course) → StandsAt h c old → Has h after → AreTurns before after old new turns → AllByRecursion IsFaithful turns → TurnsStand h c new turns
turns_stand h before after old new [] c s has a f = record { may = tt; after = subst (λ (l : Line). StandsAt h c l) (sym a.0) s }
turns_stand h before after old new (t ∷ later) c s has a f =
    let mid : Line = a.1 in
    let x = turn_may_stand h before a.2 old mid t c s (has_so_far h before after old new t later has a) a.3 f.0 in
    let d : Course = course_after c (calls_of t) in
    let y = turns_stand h a.4 after mid new later d x.after has a.6 f.1 in
    record {
      may = may_append h c (calls_of t) (flat_map calls_of later) x.may y.may;
      after = subst (λ (e : Course). StandsAt h e new) (sym (after_append c (calls_of t) (flat_map calls_of later))) y.after;
    }

pub cut_stands : (h : List Entry) (c : Course) (l : Line) (cut : Option Turn) → StandsAt h c l → IfSome cut (IsCut l) → AllMayStand h c (flat_map calls_of (option_to_list cut))
cut_stands h c l None s k = tt
cut_stands h c l (Some t) s k = subst (λ (cs : List Call). AllMayStand h c cs) (sym (append-nil (calls_of t))) (cut_may_stand h l t c s k)

pub begin_stands : (h : List Entry) (per_turn : ℕ) (s : State) (inbox : List InboxRecord) (now : ℕ) → s.facts.recorded.inbox_next ≡ next_number inbox → s.facts.recorded.sent ≤ length h
    → StandsAt h (beginning s inbox now) (first_line per_turn s now)
begin_stands h per_turn s inbox now awaits enough = record { stands = connection_begins h s inbox now awaits enough; machine = refl; done = refl; drained = refl }

pub leg_stands : (h : List Entry) (s : State) (inbox : List InboxRecord) (t : TurnedLeg) → s.facts.recorded.inbox_next ≡ next_number inbox → s.facts.recorded.sent ≤ length h → AreTurnsOf h s t
    → AllMayStand h (beginning s inbox t.moment) (calls_on t)
leg_stands h s inbox t awaits enough k =
    let c : Course = beginning s inbox t.moment in
    let x = turns_stand h k.before k.after (first_line t.per_turn s t.moment) k.last t.turns c (begin_stands h t.per_turn s inbox t.moment awaits enough) k.has k.turns k.faithful in
    subst (λ (cs : List Call). AllMayStand h c cs) (sym (flat_map-append calls_of t.turns (option_to_list t.cut)))
    (may_append h c (flat_map calls_of t.turns) (flat_map calls_of (option_to_list t.cut)) x.may
    (cut_stands h (course_after c (flat_map calls_of t.turns)) k.last t.cut x.after k.cut))

-- the frames held whole are the first of them; all, where there are bytes enough
pub whole_first : (count : ℕ) (ps : List Piece) → IsPrefix (whole_in count ps) ps
whole_first count [] = ([], refl)
whole_first count (p ∷ later) = by_test (nat_lt count (length (bytes_of_piece p))) (whole_first (count - length (bytes_of_piece p)) later)
  where
    by_test : (b : Bool) → IsPrefix (whole_in (count - length (bytes_of_piece p)) later) later → IsPrefix (if b then [] else p ∷ whole_in (count - length (bytes_of_piece p)) later) (p ∷ later)
    by_test true rest = (p ∷ later, refl)
    by_test false rest = (rest.0, ap (λ (qs : List Piece). p ∷ qs) rest.1)

whole_all : (count : ℕ) (ps : List Piece) → length (bytes_written ps) ≤ count → whole_in count ps ≡ ps
whole_all count [] enough = refl
whole_all count (p ∷ later) enough = by_test (nat_lt count size) refl (λ more. whole_all (count - size) later more)
  where
    size : ℕ
    size = length (bytes_of_piece p)

    total : length (bytes_written (p ∷ later)) ≡ size + length (bytes_written later)
    total = length-append (bytes_of_piece p) (bytes_written later)

    by_test : (b : Bool) → nat_lt count size ≡ b → (length (bytes_written later) ≤ count - size → whole_in (count - size) later ≡ later)
        → (if b then [] else p ∷ whole_in (count - size) later) ≡ p ∷ later
    by_test true e rest = absurd (omega (arith, ltb-true count size e, total, enough))
    by_test false e rest = ap (λ (qs : List Piece). p ∷ qs) (rest (omega (arith, total, enough)))

drained_enough : (c : Course) (sent : List ℕ) → is_drained c sent ≡ true → length (bytes_written c.output) ≤ length sent
drained_enough c sent d = by_test (is_none c.state.ending) (nat_lt (length sent) (length (bytes_written c.output))) refl d
  where
    by_test : (a b : Bool) → nat_lt (length sent) (length (bytes_written c.output)) ≡ b → (a && not b) ≡ true → length (bytes_written c.output) ≤ length sent
    by_test true false e k = ltb-false (length sent) (length (bytes_written c.output)) e
    by_test true true e k = absurd (true≢false (sym k))
    by_test false b e k = absurd (true≢false (sym k))

was_taken : (c : Course) (sent : List ℕ) → WasTaken c (whole_in (length sent) c.output) (is_drained c sent)
was_taken c sent = record { first = whole_first (length sent) c.output; all = λ d. whole_all (length sent) c.output (drained_enough c sent d) }

pub turns_run : TurnsRun
turns_run h s inbox t awaits enough k = record { calls = leg_stands h s inbox t awaits enough k; taken = was_taken (course_on s inbox t) (sent_on t) }

pub refused_waits : RefusedWaits
refused_waits h old c now received frames t s k records = waits
  where
    l : Line
    l = line_received old now received k.got

    e : Course
    e = course_after c (first_calls now ++ calls_of_frames now frames)

    w : Waiting
    w = record { incoming = t.incoming; at = t.at; moment = now }

    call : Call
    call = calls.frame t.incoming t.at now

    m : State
    m = (lines_after now l frames).machine

    is : e.state ≡ m
    is = state_is_run c (first_calls now ++ calls_of_frames now frames) ∙ (ap (λ (x : State). run x (first_calls now ++ calls_of_frames now frames)) s.machine
        ∙ (run_append old.machine (first_calls now) (calls_of_frames now frames) ∙ sym (frames_make_calls now l frames)))

    record_here : is_record (reply_of (around e.state t.at now) e.state.facts t.incoming).act ≡ true
    record_here = ap (λ (x : State). is_record (reply_of (around x t.at now) x.facts t.incoming).act) is ∙ records

    o : Outcome
    o = reply_of (around e.state t.at now) e.state.facts t.incoming

    here : (next_course e call).waiting ≡ Some w
    here = ap (λ (b : Bool). (if b then record (called e call) { waiting = Some w } else counting (called e call) o t.incoming).waiting) record_here

    waits : (course_after c (first_calls now ++ (calls_of_frames now frames ++ call ∷ []))).waiting ≡ Some w
    waits = ap (λ (d : Course). d.waiting) (after_append c (first_calls now) (calls_of_frames now frames ++ call ∷ []) ∙ after_append (course_after c (first_calls now)) (calls_of_frames now frames) (call ∷ []))
        ∙ (ap (λ (d : Course). (next_course d call).waiting) (sym (after_append c (first_calls now) (calls_of_frames now frames))) ∙ here)

pub held_awaits : HeldAwaits
held_awaits h old c now received frames t m s k =
    let l : Line = line_received old now received k.got in
    let first : List Call = first_calls now in
    let took : List Call = calls_of_frames now frames in
    let behind : List Call = frame_calls now t in
    ap (λ (x : State). front_of x) (state_is_run c (first ++ (took ++ behind)) ∙ (ap (λ (x : State). run x (first ++ (took ++ behind))) s.machine
    ∙ (run_append old.machine first (took ++ behind) ∙ (run_append (run old.machine first) took behind ∙ ap (λ (x : State). run x behind) (sym (frames_make_calls now l frames))))))
    ∙ k.is.awaits

-- each connection of a life may run
pub all_run : (h : List Entry) (s : State) (inbox : List InboxRecord) (legs : List TurnedLeg) → s.facts.recorded.inbox_next ≡ next_number inbox → s.facts.recorded.sent ≤ length h → AllAreTurns h s inbox legs
    → AllMayRun h s inbox (legs_of s inbox legs)
all_run h s inbox [] awaits enough all = tt
all_run h s inbox (t ∷ later) awaits enough all =
    let x : MayRun h s inbox (leg_of s inbox t) = turns_run h s inbox t awaits enough all.0 in
    let d : Course = course_on s inbox t in
    let st : Stands h d = calls_keep h (beginning s inbox t.moment) (calls_on t) (connection_begins h s inbox t.moment awaits enough) x.calls in
    (x, all_run h d.state (inbox_of d) later st.agrees.recorded st.own.enough all.1)

pub turns_serve : TurnsServe
turns_serve opened h s inbox legs o all = life_serves opened h s inbox (legs_of s inbox legs) o (all_run h s inbox legs o.awaits o.enough all)

-- where a life has come to
record Behind (h : List Entry) (s : State) (inbox : List InboxRecord) : Type 0 where
  awaits : s.facts.recorded.inbox_next ≡ next_number inbox
  enough : s.facts.recorded.sent ≤ length h

behind : (h : List Entry) (s : State) (inbox : List InboxRecord) (legs : List TurnedLeg) → s.facts.recorded.inbox_next ≡ next_number inbox → s.facts.recorded.sent ≤ length h → AllAreTurns h s inbox legs
    → Behind h (state_after s inbox legs) (inbox_after s inbox legs)
behind h s inbox [] awaits enough all = record { awaits = awaits; enough = enough }
behind h s inbox (t ∷ later) awaits enough all =
    let d : Course = course_on s inbox t in
    let st : Stands h d = calls_keep h (beginning s inbox t.moment) (calls_on t) (connection_begins h s inbox t.moment awaits enough) (leg_stands h s inbox t awaits enough all.0) in
    behind h d.state (inbox_of d) later st.agrees.recorded st.own.enough all.1

pub turns_refused : TurnsRefused
turns_refused opened h s inbox legs last w o all k waits =
    let t : State = state_after s inbox legs in
    let box : List InboxRecord = inbox_after s inbox legs in
    let b : Behind h t box = behind h s inbox legs o.awaits o.enough all in
    life_refused opened h s inbox (legs_of s inbox legs) (leg_of t box last) w o (all_run h s inbox legs o.awaits o.enough all) (turns_run h t box last b.awaits b.enough k) waits

pub turns_refused_held : TurnsRefusedHeld
turns_refused_held opened h s inbox legs last m o all k awaits =
    let t : State = state_after s inbox legs in
    let box : List InboxRecord = inbox_after s inbox legs in
    let b : Behind h t box = behind h s inbox legs o.awaits o.enough all in
    life_refused_held opened h s inbox (legs_of s inbox legs) (leg_of t box last) m o (all_run h s inbox legs o.awaits o.enough all) (turns_run h t box last b.awaits b.enough k) awaits

pub turns_refused_tail : TurnsRefusedTail
turns_refused_tail opened h s inbox legs last calls tried o all k adds =
    let t : State = state_after s inbox legs in
    let box : List InboxRecord = inbox_after s inbox legs in
    let b : Behind h t box = behind h s inbox legs o.awaits o.enough all in
    life_refused_tail opened h s inbox (legs_of s inbox legs) (leg_of t box last) calls tried o (all_run h s inbox legs o.awaits o.enough all) (turns_run h t box last b.awaits b.enough k) adds
