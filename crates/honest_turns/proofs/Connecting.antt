-- A connection of two ends over one link, from its beginning.
use Rattle.honest_turns.proofs.Hearing.{AreHeard, heard_of_taken, heard_more}
use Rattle.std.proofs.Common.{◌-◌, Bool, true, false, if◌then◌else◌, IfSome, ◌≡◌, ◌≤◌, ℕ, List, [], ◌∷◌, ◌++◌, length, Option, Some, None, refl, sym, ap, subst, ◌∙◌, append-nil, arith}
use Rattle.std.specs.Prelude.{option_to_list}
use Rattle.std.specs.List.{AllByRecursion, flat_map}
use Rattle.session_model.specs.Journal.{Entry}
use Rattle.fixp_machine.specs.Machine.{State, Call, reserve, connected, step, fresh, held_with, IsDrained}
use Rattle.std.proofs.lemmas.Grind.{flat_map-append}
use Rattle.fixp_replies.specs.Acts.{is_record}
use Rattle.fixp_replies.specs.Incoming.{payload_in}
use Rattle.fixp_replies.specs.Outcomes.{Outcome}
use Rattle.fixp_machine.specs.Machine.{run, reply_applied}
use Rattle.fixp_machine.specs.Machine as calls
use Rattle.conn_turns.specs.Lines.{Line, TakenFrame, IsNext, frame_calls, reply_at, lines_after}
use Rattle.conn_turns.specs.Turns.{only_sends, works, link_lost, cut_short, not_begun, calls_of_frames, of_act, of_held}
use Rattle.conn_turns.proofs.Taking.{run_append, frames_make_calls}
use Rattle.turn_laws.specs.Turns.{line_received, IsCut}
use Rattle.turn_laws.specs.Standing.{StandsAt}
use Rattle.turn_laws.proofs.Going.{after_append}
use Rattle.turn_laws.proofs.Draining.{first_drained, frames_drained, helds_ready}
use Rattle.conn_turns.specs.Turns.{Turn, calls_of}
use Rattle.connection_laws.specs.Courses.{Course, beginning, course_after}
use Rattle.connection_laws.specs.Ranges.{IsInTime}
use Rattle.connection_laws.proofs.Going.{connection_begins}
use Rattle.connection_laws.proofs.Written.{written_is_legal}
use Rattle.turn_laws.specs.Legs.{all_turns, first_line, IsTimelyTurn}
use Rattle.turn_laws.proofs.Running.{begin_stands, turns_stand}
use Rattle.honest_ends.specs.PhaseLaws.{IsOfTime, EndsBy}
use Rattle.honest_ends.specs.Worlds.{World, meets, after, Match}
use Rattle.honest_ends.specs.Knowing.{Knows, StartsKnown}
use Rattle.honest_ends.specs.Resting.{EndsLast}
use Rattle.honest_ends.proofs.FinishLaws.{only_time_ends, stays_known}
use Rattle.honest_ends.proofs.RestLaws.{stays_ended}
use Rattle.honest_turns.specs.Links.{of_initiator, of_acceptor, OverOneLink}
use Rattle.honest_turns.specs.Sides.{Side, behind, IsReady, MakesTurns, Agree}
use Rattle.honest_turns.specs.Laws.{ConnectionHolds}
use Rattle.honest_turns.proofs.Reaching.{Reaches, one, and_then}
use Rattle.honest_turns.specs.Opened.{WritesLegal, Way}
use Rattle.honest_turns.proofs.Calling.{state_then}
use Rattle.honest_turns.proofs.Stopping.{StopsIn}
use Rattle.honest_turns.proofs.Linking.{Stops, Ahead, going, Linked, linked}

-- a fresh machine over what an end has recorded
abbrev pub anew_of : State → State
anew_of s = fresh s.config s.facts.recorded s.most

-- what is known speaks of configurations and of what is recorded alone
pub knows_anew : (h : List Entry) (x y : State) → Knows h x y → Knows h (anew_of x) (anew_of y)
knows_anew h x y k = record { sent = k.sent; most = k.most; one = k.one; next = k.next; finish = k.finish; last = k.last; ends = k.ends }

pub knows_of : (h : List Entry) (x y : State) → Knows h (anew_of x) (anew_of y) → Knows h x y
knows_of h x y k = record { sent = k.sent; most = k.most; one = k.one; next = k.next; finish = k.finish; last = k.last; ends = k.ends }

-- the two ends anew
abbrev pub two_anew : State → State → World
two_anew i a = record { initiator = anew_of i; acceptor = anew_of a; outward = []; homeward = [] }

pub starts_known : (hi ha : List Entry) (i a : State) → Agree hi ha i a → StartsKnown hi ha (two_anew i a)
starts_known hi ha i a k = (
  record { matches = k.matches; initiator = refl; acceptor = refl; outward = refl; homeward = refl },
  knows_anew hi i a k.outward,
  knows_anew ha a i k.homeward,
)

-- alike machines have the same of all that is recorded
pub alike_anew : (x y : State) → step x reserve ≡ step y reserve → anew_of x ≡ anew_of y
alike_anew x y e = ap (λ (s : State). anew_of s) e

pub agree_of : (hi ha : List Entry) (w : World) (i a : State) → anew_of w.initiator ≡ anew_of i → anew_of w.acceptor ≡ anew_of a
    → StartsKnown hi ha (two_anew w.initiator w.acceptor) → EndsLast (anew_of w.initiator) → EndsLast (anew_of w.acceptor) → Agree hi ha i a
agree_of hi ha w i a ei ea k last_i last_a = record {
  matches = subst (λ (s : State). Match s.config a.config) ei (subst (λ (s : State). Match w.initiator.config s.config) ea k.0.matches);
  outward = knows_of hi i a (subst (λ (s : State). Knows hi s (anew_of a)) ei (subst (λ (s : State). Knows hi (anew_of w.initiator) s) ea k.1));
  homeward = knows_of ha a i (subst (λ (s : State). Knows ha s (anew_of i)) ea (subst (λ (s : State). Knows ha (anew_of w.acceptor) s) ei k.2));
  last_i = subst (λ (s : State). EndsLast s) ei last_i;
  last_a = subst (λ (s : State). EndsLast s) ea last_a;
}

-- of a side: where its course begins, and the line
abbrev pub course_at : Side → Course
course_at s = beginning s.state s.inbox s.leg.moment

abbrev pub line_at : Side → Line
line_at s = first_line s.leg.per_turn s.state s.leg.moment

pub writes_legal : (s : Side) → IsReady s.outbox s.state s.inbox → IsInTime s.leg.moment → s.state.facts.recorded.sent ≤ length s.outbox.made → WritesLegal s.outbox (course_at s)
writes_legal s k time enough cs may fits = (written_is_legal s.outbox.made s.state s.inbox s.leg.moment cs k.range enough k.entries time may fits).legal

-- How a side stands behind its turns: the machine that its world comes to, which has all that is recorded, and has ended alike. Where a frame
-- waits for its act, it is the one before that frame
pub record Stood (s : Side) (k : MakesTurns s) : Type 0 where
  pub m : State
  pub held : List ℕ
  pub stops : Stops k.turns.last s.leg.cut m held
  pub ending : (behind s).ending ≡ m.ending
  pub anew : anew_of (behind s) ≡ anew_of m

-- where its last line stands
last_stands : (s : Side) (k : MakesTurns s) → s.state.facts.recorded.sent ≤ length s.outbox.made → StandsAt s.outbox.made (course_after (course_at s) (flat_map calls_of s.leg.turns)) k.turns.last
last_stands s k enough =
    (turns_stand s.outbox.made k.turns.before k.turns.after (line_at s) k.turns.last s.leg.turns (course_at s) (begin_stands s.outbox.made s.leg.per_turn s.state s.inbox s.leg.moment k.ready.awaits enough) k.turns.has k.turns.turns k.turns.faithful).after

pub behind_is : (s : Side) (k : MakesTurns s) → s.state.facts.recorded.sent ≤ length s.outbox.made → behind s ≡ run k.turns.last.machine (flat_map calls_of (option_to_list s.leg.cut))
behind_is s k enough =
    let whole : List Call = flat_map calls_of s.leg.turns in
    let cut : List Call = flat_map calls_of (option_to_list s.leg.cut) in
    ap (λ (cs : List Call). (course_after (course_at s) cs).state) (flat_map-append calls_of s.leg.turns (option_to_list s.leg.cut))
    ∙ (ap (λ (c : Course). c.state) (after_append (course_at s) whole cut) ∙ state_then (course_after (course_at s) whole) k.turns.last.machine cut (last_stands s k enough).machine)

-- and so where it was cut short
record CutStands (last : Line) (t : Turn) : Type 0 where
  m : State
  held : List ℕ
  stops : StopsIn last t m held
  ending : (run last.machine (calls_of t)).ending ≡ m.ending
  anew : anew_of (run last.machine (calls_of t)) ≡ anew_of m

cut_stands : (last : Line) (t : Turn) → IsDrained last.machine → IsCut last t → CutStands last t
cut_stands last (only_sends now sent lost) drained k = absurd k
cut_stands last (works w) drained k = absurd k
cut_stands last (link_lost now) drained k = absurd k
cut_stands last not_begun drained k = absurd k
cut_stands last (cut_short now received frames None) drained k =
    let l : Line = line_received last now received k.got in
    let made = frames_make_calls now l frames in
    record {
      m = (lines_after now l frames).machine;
      held = (lines_after now l frames).held;
      stops = record { now = now; got = k.got; frames = frames; sent = refl; moment = refl; taken = heard_of_taken now l frames (first_drained last.machine now drained) k.taken; machine = refl; holds = refl };
      ending = ap (λ (s : State). s.ending) (sym made);
      anew = ap (λ (s : State). anew_of s) (sym made);
    }
cut_stands last (cut_short now received frames (Some (of_held t m))) drained k =
    let l : Line = line_received last now received k.got in
    let n : Line = lines_after now l frames in
    let more : List TakenFrame = frames ++ t ∷ [] in
    let first = first_drained last.machine now drained in
    let heard : AreHeard now l more = heard_more now l frames t (heard_of_taken now l frames first k.taken)
    (record { drained = frames_drained now l frames first k.taken; next = k.is.next; recorded = k.is.recorded; helds = helds_ready now n t m k.is }) in
    let all = frames_make_calls now l more ∙ ap (λ (cs : List Call). run l.machine cs) (flat_map-append (frame_calls now) frames (t ∷ []) ∙ ap (λ (cs : List Call). calls_of_frames now frames ++ cs) (append-nil (frame_calls now t))) in
    record {
      m = (lines_after now l more).machine;
      held = (lines_after now l more).held;
      stops = record { now = now; got = k.got; frames = more; sent = refl; moment = refl; taken = heard; machine = refl; holds = refl };
      ending = ap (λ (s : State). s.ending) (sym all);
      anew = ap (λ (s : State). anew_of s) (sym all);
    }
cut_stands last (cut_short now received frames (Some (of_act f))) drained k = by_record (is_record o.act) refl
  where
    l : Line
    l = line_received last now received k.got

    n : Line
    n = lines_after now l frames

    took : List Call
    took = calls_of_frames now frames

    call : Call
    call = calls.frame f.incoming f.at now

    o : Outcome
    o = reply_at now n f

    made : run l.machine (took ++ call ∷ []) ≡ step n.machine call
    made = run_append l.machine took (call ∷ []) ∙ ap (λ (s : State). step s call) (sym (frames_make_calls now l frames))

    got : State
    got = record n.machine { moment = now; last_received = now; room = n.machine.room - 1 }

    applied : State
    applied = record got { held = held_with o.holds (payload_in f.incoming) n.machine.held }

    f' : TakenFrame
    f' = record f { recorded = false; helds = 0 }

    more : List TakenFrame
    more = frames ++ f' ∷ []

    heard : AreHeard now l frames
    heard = heard_of_taken now l frames (first_drained last.machine now drained) k.taken

    by_record : (b : Bool) → is_record o.act ≡ b → CutStands last (cut_short now received frames (Some (of_act f)))
    by_record true e = record {
      m = n.machine;
      held = n.held;
      stops = record { now = now; got = k.got; frames = frames; sent = refl; moment = refl; taken = heard; machine = refl; holds = refl };
      ending = ap (λ (s : State). s.ending) made ∙ ap (λ (b : Bool). (if b then record got { pending = Some o } else reply_applied applied o now).ending) e;
      anew = ap (λ (s : State). anew_of s) made ∙ ap (λ (b : Bool). anew_of (if b then record got { pending = Some o } else reply_applied applied o now)) e;
    }
    by_record false e =
        let next : IsNext n f' = record { may = k.is.may; begins = k.is.begins; at = k.is.at; is = k.is.is } in
        let all = frames_make_calls now l more ∙ ap (λ (cs : List Call). run l.machine cs) (flat_map-append (frame_calls now) frames (f' ∷ [])) in
        record {
          m = (lines_after now l more).machine;
          held = (lines_after now l more).held;
          stops = record {
            now = now;
            got = k.got;
            frames = more;
            sent = refl;
            moment = refl;
            taken = heard_more now l frames f' heard
                (record { drained = frames_drained now l frames (first_drained last.machine now drained) k.taken; next = next; recorded = sym e; helds = omega arith });
            machine = refl;
            holds = refl;
          };
          ending = ap (λ (s : State). s.ending) (sym all);
          anew = ap (λ (s : State). anew_of s) (sym all);
        }

pub stood : (s : Side) (k : MakesTurns s) → s.state.facts.recorded.sent ≤ length s.outbox.made → Stood s k
stood s k enough = by_cut s.leg.cut refl k.turns.cut
  where
    last : Line
    last = k.turns.last

    by_cut : (cut : Option Turn) → s.leg.cut ≡ cut → IfSome cut (IsCut last) → Stood s k
    by_cut None e c =
        let is : behind s ≡ last.machine = behind_is s k enough ∙ ap (λ (o : Option Turn). run last.machine (flat_map calls_of (option_to_list o))) e in
        record {
          m = last.machine;
          held = last.held;
          stops = subst (λ (o : Option Turn). Stops last o last.machine last.held) (sym e) (refl, refl);
          ending = ap (λ (x : State). x.ending) is;
          anew = ap (λ (x : State). anew_of x) is;
        }
    by_cut (Some t) e c =
        let x : CutStands last t = cut_stands last t (last_stands s k enough).drained c in
        let is : behind s ≡ run last.machine (calls_of t) =
        behind_is s k enough ∙ (ap (λ (o : Option Turn). run last.machine (flat_map calls_of (option_to_list o))) e ∙ ap (λ (cs : List Call). run last.machine cs) (append-nil (calls_of t))) in
        record {
          m = x.m;
          held = x.held;
          stops = subst (λ (o : Option Turn). Stops last o x.m x.held) (sym e) x.stops;
          ending = ap (λ (y : State). y.ending) is ∙ x.ending;
          anew = ap (λ (y : State). anew_of y) is ∙ x.anew;
        }

-- where none was cut short that is its last line
pub behind_last : (s : Side) (k : MakesTurns s) → s.state.facts.recorded.sent ≤ length s.outbox.made → s.leg.cut ≡ None → behind s ≡ k.turns.last.machine
behind_last s k enough whole = behind_is s k enough ∙ ap (λ (o : Option Turn). run k.turns.last.machine (flat_map calls_of (option_to_list o))) whole

pub stood_last : (s : Side) (k : MakesTurns s) (x : Stood s k) → s.leg.cut ≡ None → (k.turns.last.machine ≡ x.m) × (k.turns.last.held ≡ x.held)
stood_last s k x whole = subst (λ (o : Option Turn). Stops k.turns.last o x.m x.held) whole x.stops

-- a side has its turns before it
pub ahead : (s : Side) (x : State) (turns : List Turn) → (k : MakesTurns s) → s.state.facts.recorded.sent ≤ length s.outbox.made → (z : Stood s k) → step x reserve ≡ step (connected s.state s.leg.moment) reserve
    → turns ≡ all_turns s.leg → Ahead s.outbox (course_at s) x (line_at s).machine [] turns z.m z.held
ahead s x turns k enough z alike is =
    going (line_at s) k.turns.last k.turns.before k.turns.after s.leg.turns s.leg.cut refl refl
    (record { calls = []; may = tt; fits = tt; at = begin_stands s.outbox.made s.leg.per_turn s.state s.inbox s.leg.moment k.ready.awaits enough; alike = alike })
    k.turns.turns k.turns.faithful (record { begins = k.seen; few = k.turns.has.few }) (subst (λ (ts : List Turn). AllByRecursion IsTimelyTurn ts) (sym is) k.timely.turns) is z.stops

-- what it writes as it begins
pub way_begins : (s : Side) → IsReady s.outbox s.state s.inbox → IsInTime s.leg.moment → s.state.facts.recorded.sent ≤ length s.outbox.made → Way (course_at s).output (line_at s).machine [] []
way_begins s k time enough =
    let bytes = (connection_begins s.outbox.made s.state s.inbox s.leg.moment k.awaits enough).bytes in
    record { legal = writes_legal s k time enough [] tt tt; within = (_, refl); exact = λ _. bytes }

pub ends_by : (x z m : State) → step x reserve ≡ step m reserve → z.ending ≡ m.ending → EndsBy IsOfTime x → EndsBy IsOfTime z
ends_by x z m alike is ends v e = ends v (ap (λ (s : State). s.ending) alike ∙ (sym is ∙ e))

-- two connections over one link, as steps of a world of two fresh ends
pub record Met (i a : Side) (ki : MakesTurns i) (ka : MakesTurns a) (link : OverOneLink i.leg a.leg) : Type 0 where
  pub of_i : Stood i ki
  pub of_a : Stood a ka
  pub linked : Linked i.outbox.made a.outbox.made (after (two_anew i.state a.state) (meets i.leg.moment a.leg.moment)) of_i.m of_a.m of_i.held of_a.held [] [] link.order
  pub reaches : Reaches i.outbox.made a.outbox.made (two_anew i.state a.state) linked.world

pub meet : (i a : Side) (ki : MakesTurns i) (ka : MakesTurns a) (link : OverOneLink i.leg a.leg) → Agree i.outbox.made a.outbox.made i.state a.state → Met i a ki ka link
meet i a ki ka link agree =
    let enough_i = agree.outward.sent in
    let enough_a = agree.homeward.sent in
    let start : World = two_anew i.state a.state in
    let w : World = after start (meets i.leg.moment a.leg.moment) in
    let x : Stood i ki = stood i ki enough_i in
    let y : Stood a ka = stood a ka enough_a in
    let l = linked i.outbox a.outbox (course_at i) (course_at a) w (line_at i).machine (line_at a).machine x.m y.m [] [] x.held y.held [] [] link.order
    (writes_legal i ki.ready ki.timely.begins enough_i) (writes_legal a ka.ready ka.timely.begins enough_a)
    (ahead i w.initiator (of_initiator link.order) ki enough_i x refl link.turns_i) (ahead a w.acceptor (of_acceptor link.order) ka enough_a y refl link.turns_a)
    (way_begins i ki.ready ki.timely.begins enough_i) (way_begins a ka.ready ka.timely.begins enough_a) link.passes in
    record {
      of_i = x;
      of_a = y;
      linked = l;
      reaches = and_then i.outbox.made a.outbox.made start w l.world (one i.outbox.made a.outbox.made start (meets i.leg.moment a.leg.moment) tt) l.reaches;
    }

-- what both know behind any steps from their beginning
pub agree_then : (hi ha : List Entry) (i a : State) (w : World) (x y : State) → Agree hi ha i a → Reaches hi ha (two_anew i a) w → anew_of w.initiator ≡ anew_of x → anew_of w.acceptor ≡ anew_of y
    → Agree hi ha x y
agree_then hi ha i a w x y agree r ei ea =
    let start : World = two_anew i a in
    let known = starts_known hi ha i a agree in
    let again = stays_known hi ha start r.steps known r.may in
    let last = stays_ended hi ha start r.steps known agree.last_i agree.last_a r.may in
    agree_of hi ha w x y ei ea (subst (λ (v : World). StartsKnown hi ha (two_anew v.initiator v.acceptor)) r.there again)
    (subst (λ (v : World). EndsLast (anew_of v.initiator)) r.there last.0) (subst (λ (v : World). EndsLast (anew_of v.acceptor)) r.there last.1)

pub connection_holds : ConnectionHolds
connection_holds i a ki ka link agree =
    let hi : List Entry = i.outbox.made in
    let ha : List Entry = a.outbox.made in
    let m : Met i a ki ka link = meet i a ki ka link agree in
    let r : Reaches hi ha (two_anew i.state a.state) m.linked.world = m.reaches in
    let time = only_time_ends hi ha (two_anew i.state a.state) r.steps (starts_known hi ha i.state a.state agree) r.may in (
      ends_by m.linked.world.initiator (behind i) m.of_i.m m.linked.initiator m.of_i.ending (subst (λ (v : World). EndsBy IsOfTime v.initiator) r.there time.0),
      ends_by m.linked.world.acceptor (behind a) m.of_a.m m.linked.acceptor m.of_a.ending (subst (λ (v : World). EndsBy IsOfTime v.acceptor) r.there time.1),
      agree_then hi ha i.state a.state m.linked.world (behind i) (behind a) agree r (alike_anew m.linked.world.initiator m.of_i.m m.linked.initiator ∙ sym m.of_i.anew)
          (alike_anew m.linked.world.acceptor m.of_a.m m.linked.acceptor ∙ sym m.of_a.anew),
    )
