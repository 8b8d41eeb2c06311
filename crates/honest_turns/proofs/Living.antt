-- All connections of a life of each of two ends.
use Rattle.std.proofs.Common.{◌≡◌, ◌≤◌, ℕ, Bool, true, false, List, [], ◌∷◌, ◌++◌, map, length, None, refl, sym, ap, subst, ◌∙◌, append-nil, arith}
use Rattle.std.specs.List.{flat_map}
use Rattle.session_model.specs.Journal.{Entry}
use Rattle.fixp_replies.specs.Facts.{Around, is_initiator}
use Rattle.fixp_replies.specs.declared.facts.EndState.{EndState}
use Rattle.fixp_machine.specs.Machine.{State, around, connected, fresh}
use Rattle.fixp_machine.proofs.Calls.{begun_as}
use Rattle.conn_turns.specs.Turns.{Turn}
use Rattle.connection_laws.proofs.Written.{written_is_legal}
use Rattle.turn_laws.specs.Legs.{all_turns, calls_on, given_in, given_on}
use Rattle.turn_laws.proofs.Running.{leg_stands}
use Rattle.turn_laws.proofs.Given.{calls_fit}
use Rattle.honest_ends.specs.PhaseLaws.{IsOfTime, EndsBy}
use Rattle.honest_ends.specs.Worlds.{World, meets, after}
use Rattle.honest_ends.proofs.FinishLaws.{only_time_ends}
use Rattle.honest_turns.specs.Links.{Move, initiator_turns, acceptor_turns, of_initiator, of_acceptor, Passes}
use Rattle.honest_turns.specs.Sides.{Side, behind, inbox_behind, IsReady, MakesTurns, Agree}
use Rattle.honest_turns.specs.Lives.{no_more, initiator_alone, acceptor_alone, paired, End, side_of, end_behind, LifeHolds}
use Rattle.honest_turns.proofs.Reaching.{Reaches, one, and_then}
use Rattle.honest_turns.proofs.Linking.{over, linked}
use Rattle.honest_turns.proofs.Connecting.{anew_of, two_anew, starts_known, alike_anew, agree_then, course_at, line_at, writes_legal, Stood, stood, ahead, way_begins, ends_by, connection_holds}
use Rattle.honest_turns.proofs.Resting.{kept}

-- turns of one end alone, in their order
of_same : (ts : List Turn) → of_initiator (map initiator_turns ts) ≡ ts
of_same [] = refl
of_same (t ∷ later) = ap (λ (us : List Turn). t ∷ us) (of_same later)

none_else : (ts : List Turn) → of_acceptor (map initiator_turns ts) ≡ []
none_else [] = refl
none_else (t ∷ later) = none_else later

of_same_a : (ts : List Turn) → of_acceptor (map acceptor_turns ts) ≡ ts
of_same_a [] = refl
of_same_a (t ∷ later) = ap (λ (us : List Turn). t ∷ us) (of_same_a later)

none_else_a : (ts : List Turn) → of_initiator (map acceptor_turns ts) ≡ []
none_else_a [] = refl
none_else_a (t ∷ later) = none_else_a later

-- where nothing was given in them
nil_parts : (xs ys : List ℕ) → xs ++ ys ≡ [] → (xs ≡ []) × (ys ≡ [])
nil_parts [] ys e = (refl, e)
nil_parts (x ∷ xs) ys e = absurd (cc e)

passes_alone : (out : List ℕ) (ts : List Turn) → flat_map given_in ts ≡ [] → Passes out [] (map initiator_turns ts)
passes_alone out [] none = tt
passes_alone out (t ∷ later) none =
    let parts = nil_parts (given_in t) (flat_map given_in later) none in
    ([], sym (append-nil (given_in t) ∙ parts.0), passes_alone _ later parts.1)

passes_alone_a : (home : List ℕ) (ts : List Turn) → flat_map given_in ts ≡ [] → Passes [] home (map acceptor_turns ts)
passes_alone_a home [] none = tt
passes_alone_a home (t ∷ later) none =
    let parts = nil_parts (given_in t) (flat_map given_in later) none in
    ([], sym (append-nil (given_in t) ∙ parts.0), passes_alone_a _ later parts.1)

-- a connection that begins leaves what is recorded
begun_anew : (s : State) (now : ℕ) → anew_of (connected s now) ≡ anew_of s
begun_anew s now = ap (λ (r : EndState). fresh s.config r s.most) (by_case (is_initiator s.config.role) s.facts.recorded.negotiated)
  where
    x : Around
    x = around s 0 now

    by_case : (i n : Bool) → (begun_as x s.facts.recorded i n).next.recorded ≡ s.facts.recorded
    by_case false n = refl
    by_case true true = refl
    by_case true false = refl

-- a connection without turns
abbrev nothing_on : End → Side
nothing_on e = side_of e (record { per_turn = 16; moment = 0; turns = []; cut = None })

-- one whose link the other end never took up
record Alone (hi ha : List Entry) (z : State) (x y : State) : Type 0 where
  ends : EndsBy IsOfTime z
  agree : Agree hi ha x y

alone_i : (i : Side) (a : End) → MakesTurns i → IsReady a.outbox a.state a.inbox → given_on i.leg ≡ [] → Agree i.outbox.made a.outbox.made i.state a.state
    → Alone i.outbox.made a.outbox.made (behind i) (behind i) a.state
alone_i i a k ready none agree =
    let hi : List Entry = i.outbox.made in
    let ha : List Entry = a.outbox.made in
    let idle : Side = nothing_on a in
    let z : Stood i k = stood i k agree.outward.sent in
    let start : World = two_anew i.state a.state in
    let meeting = meets i.leg.moment 0 in
    let w : World = after start meeting in
    let order : List Move = map initiator_turns (all_turns i.leg) in
    let l = linked i.outbox a.outbox (course_at i) (course_at idle) w (line_at i).machine (line_at idle).machine z.m (line_at idle).machine [] [] z.held [] [] [] order
    (writes_legal i k.ready k.timely.begins agree.outward.sent) (writes_legal idle ready (omega arith) agree.homeward.sent)
    (ahead i w.initiator (of_initiator order) k agree.outward.sent z refl (of_same (all_turns i.leg))) (over (none_else (all_turns i.leg)) refl refl refl)
    (way_begins i k.ready k.timely.begins agree.outward.sent) (way_begins idle ready (omega arith) agree.homeward.sent) (passes_alone [] (all_turns i.leg) none) in
    let r : Reaches hi ha start l.world = and_then hi ha start w l.world (one hi ha start meeting tt) l.reaches in
    record {
      ends = ends_by l.world.initiator (behind i) z.m l.initiator z.ending
          (subst (λ (v : World). EndsBy IsOfTime v.initiator) r.there (only_time_ends hi ha start r.steps (starts_known hi ha i.state a.state agree) r.may).0);
      agree = agree_then hi ha i.state a.state l.world (behind i) a.state agree r (alike_anew l.world.initiator z.m l.initiator ∙ sym z.anew)
          (alike_anew l.world.acceptor (line_at idle).machine l.acceptor ∙ begun_anew a.state 0);
    }

alone_a : (i : End) (a : Side) → IsReady i.outbox i.state i.inbox → MakesTurns a → given_on a.leg ≡ [] → Agree i.outbox.made a.outbox.made i.state a.state
    → Alone i.outbox.made a.outbox.made (behind a) i.state (behind a)
alone_a i a ready k none agree =
    let hi : List Entry = i.outbox.made in
    let ha : List Entry = a.outbox.made in
    let idle : Side = nothing_on i in
    let z : Stood a k = stood a k agree.homeward.sent in
    let start : World = two_anew i.state a.state in
    let meeting = meets 0 a.leg.moment in
    let w : World = after start meeting in
    let order : List Move = map acceptor_turns (all_turns a.leg) in
    let l = linked i.outbox a.outbox (course_at idle) (course_at a) w (line_at idle).machine (line_at a).machine (line_at idle).machine z.m [] [] [] z.held [] [] order
    (writes_legal idle ready (omega arith) agree.outward.sent) (writes_legal a k.ready k.timely.begins agree.homeward.sent)
    (over (none_else_a (all_turns a.leg)) refl refl refl) (ahead a w.acceptor (of_acceptor order) k agree.homeward.sent z refl (of_same_a (all_turns a.leg)))
    (way_begins idle ready (omega arith) agree.outward.sent) (way_begins a k.ready k.timely.begins agree.homeward.sent) (passes_alone_a [] (all_turns a.leg) none) in
    let r : Reaches hi ha start l.world = and_then hi ha start w l.world (one hi ha start meeting tt) l.reaches in
    record {
      ends = ends_by l.world.acceptor (behind a) z.m l.acceptor z.ending
          (subst (λ (v : World). EndsBy IsOfTime v.acceptor) r.there (only_time_ends hi ha start r.steps (starts_known hi ha i.state a.state agree) r.may).1);
      agree = agree_then hi ha i.state a.state l.world i.state (behind a) agree r (alike_anew l.world.initiator (line_at idle).machine l.initiator ∙ begun_anew i.state 0)
          (alike_anew l.world.acceptor z.m l.acceptor ∙ sym z.anew);
    }

-- an end behind a connection is ready for the next one
pub ready_behind : (s : Side) → MakesTurns s → s.state.facts.recorded.sent ≤ length s.outbox.made → IsReady s.outbox (behind s) (inbox_behind s)
ready_behind s k enough =
    let h : List Entry = s.outbox.made in record {
      awaits = (kept s k enough).awaits;
      range = (written_is_legal h s.state s.inbox s.leg.moment (calls_on s.leg) k.ready.range enough k.ready.entries k.timely.begins
          (leg_stands h s.state s.inbox s.leg k.ready.awaits enough k.turns) (calls_fit h s.state s.leg k.turns k.timely)).range;
      entries = k.ready.entries;
    }

pub life_holds : LifeHolds
life_holds i a [] [] k x y no_more = (tt, tt, k)
life_holds i a (t ∷ is) as' k x y (initiator_alone none rest) =
    let one = alone_i (side_of i t) a x.0 k.acceptor none k.agree in
    let more = life_holds (end_behind i t) a is as' (record { initiator = ready_behind (side_of i t) x.0 k.agree.outward.sent; acceptor = k.acceptor; agree = one.agree }) x.1 y rest in
    ((one.ends, more.0), more.1, more.2)
life_holds i a is (u ∷ as') k x y (acceptor_alone none rest) =
    let one = alone_a i (side_of a u) k.initiator y.0 none k.agree in
    let more = life_holds i (end_behind a u) is as' (record { initiator = k.initiator; acceptor = ready_behind (side_of a u) y.0 k.agree.homeward.sent; agree = one.agree }) x y.1 rest in
    (more.0, (one.ends, more.1), more.2)
life_holds i a (t ∷ is) (u ∷ as') k x y (paired link rest) =
    let one = connection_holds (side_of i t) (side_of a u) x.0 y.0 link k.agree in
    let more = life_holds (end_behind i t) (end_behind a u) is as'
    (record { initiator = ready_behind (side_of i t) x.0 k.agree.outward.sent; acceptor = ready_behind (side_of a u) y.0 k.agree.homeward.sent; agree = one.2 }) x.1 y.1 rest in
    ((one.0, more.0), (one.1, more.1), more.2)
