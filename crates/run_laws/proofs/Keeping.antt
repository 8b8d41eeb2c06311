-- An end that keeps to its journals, from one connection to the next.
use Rattle.std.proofs.Common.{◌≡◌, ◌≤◌, ℕ, Bool, true, false, List, [], ◌∷◌, ◌++◌, length, IfSome, refl, sym, ap, subst, ◌∙◌, append-nil}
use Rattle.std.specs.List.{AllByRecursion}
use Rattle.session_model.specs.Journal.{Entry, History, BeginsHistory}
use Rattle.session_model.proofs.Lists.{prefix_trans}
use Rattle.gate_turn.proofs.Histories.{begins_on}
use Rattle.fixp_replies.specs.declared.facts.EndState.{EndState}
use Rattle.fixp_replies.specs.Facts.{Around, is_initiator}
use Rattle.fixp_machine.specs.Machine.{State, begin, around, connected, StaysSound}
use Rattle.fixp_machine.proofs.Calls.{begun_as, calls_keep_sound}
use Rattle.jr_boxes.specs.Inboxes.{peer_last_in}
use Rattle.connection_laws.specs.Courses.{Course, beginning}
use Rattle.connection_laws.specs.Ranges.{IsOutbox}
use Rattle.connection_laws.proofs.Continuing.{state_is_run}
use Rattle.connection_laws.proofs.Going.{connection_begins}
use Rattle.turn_laws.specs.Legs.{TurnedLeg, calls_on}
use Rattle.turn_laws.specs.Lives.{state_after, inbox_after}
use Rattle.turn_laws.proofs.Running.{leg_stands}
use Rattle.honest_turns.specs.Sides.{Side, IsReady, MakesTurns}
use Rattle.honest_turns.specs.Lives.{End, side_of, end_behind, sides, end_after}
use Rattle.honest_turns.proofs.Resting.{kept, enough_behind}
use Rattle.honest_turns.proofs.Living.{ready_behind}
use Rattle.run_laws.proofs.Noting.{Noted, calls_noted}
use Rattle.run_laws.proofs.Closing.{IsLast, side_tells, run_most}

-- It is ready for a connection, has sent no more than its outbox has, what it has recorded of the peer's finish its inbox has, and where it has
-- recorded its own, its outbox is finished
pub record Stays (e : End) : Type 0 where
  pub ready : IsReady e.outbox e.state e.inbox
  pub enough : e.state.facts.recorded.sent ≤ length e.outbox.made
  pub sound : StaysSound e.state
  pub last : e.state.facts.recorded.peer_last ≡ peer_last_in e.inbox
  pub finish : IfSome e.state.facts.recorded.finish (IsLast e.outbox)

-- what one end has in common with another
pub record Alike (e f : End) : Type 0 where
  pub config : f.state.config ≡ e.state.config
  pub most : f.state.most ≡ e.state.most
  pub outbox : f.outbox ≡ e.outbox

-- a connection that begins leaves what is recorded
begun_recorded : (s : State) (now : ℕ) → (connected s now).facts.recorded ≡ s.facts.recorded
begun_recorded s now = by_case (is_initiator s.config.role) s.facts.recorded.negotiated
  where
    x : Around
    x = around s 0 now

    by_case : (i n : Bool) → (begun_as x s.facts.recorded i n).next.recorded ≡ s.facts.recorded
    by_case false n = refl
    by_case true true = refl
    by_case true false = refl

-- behind a connection
pub record StaysBehind (e f : End) : Type 0 where
  pub stays : Stays f
  pub alike : Alike e f

pub stays_behind : (e : End) (t : TurnedLeg) → Stays e → MakesTurns (side_of e t) → StaysBehind e (end_behind e t)
stays_behind e t k m =
    let h : List Entry = e.outbox.made in
    let s : Side = side_of e t in
    let b : Course = beginning e.state e.inbox t.moment in
    let recorded : (connected e.state t.moment).facts.recorded ≡ e.state.facts.recorded = begun_recorded e.state t.moment in
    let start : Noted (IsLast e.outbox) b =
    record {
      sound = calls_keep_sound e.state (begin t.moment) k.sound tt;
      last = ap (λ (r : EndState). r.peer_last) recorded ∙ (k.last ∙ ap peer_last_in (sym (append-nil e.inbox)));
      finish = subst (λ (r : EndState). IfSome r.finish (IsLast e.outbox)) (sym recorded) k.finish;
    } in
    let n = calls_noted (IsLast e.outbox) h b (calls_on t) (connection_begins h e.state e.inbox t.moment k.ready.awaits k.enough)
    (leg_stands h e.state e.inbox t k.ready.awaits k.enough m.turns) (side_tells s m) start in
    record {
      stays = record { ready = ready_behind s m k.enough; enough = enough_behind s m k.enough; sound = n.sound; last = n.last; finish = n.finish };
      alike = record { config = (kept s m k.enough).flow; most = ap (λ (x : State). x.most) (state_is_run b (calls_on t)) ∙ run_most b.state (calls_on t); outbox = refl };
    }

-- behind several
pub stays_after : (e : End) (ts : List TurnedLeg) → Stays e → AllByRecursion MakesTurns (sides e ts) → StaysBehind e (end_after e ts)
stays_after e [] k m = record { stays = k; alike = record { config = refl; most = refl; outbox = refl } }
stays_after e (t ∷ later) k m =
    let x = stays_behind e t k m.0 in
    let y = stays_after (end_behind e t) later x.stays m.1 in
    record { stays = y.stays; alike = record { config = y.alike.config ∙ x.alike.config; most = y.alike.most ∙ x.alike.most; outbox = y.alike.outbox ∙ x.alike.outbox } }

-- the machine and the inbox behind several are those of the laws over lists of turns
pub state_behind_all : (e : End) (ts : List TurnedLeg) → (end_after e ts).state ≡ state_after e.state e.inbox ts
state_behind_all e [] = refl
state_behind_all e (t ∷ later) = state_behind_all (end_behind e t) later

pub inbox_behind_all : (e : End) (ts : List TurnedLeg) → (end_after e ts).inbox ≡ inbox_after e.state e.inbox ts
inbox_behind_all e [] = refl
inbox_behind_all e (t ∷ later) = inbox_behind_all (end_behind e t) later

pub outbox_behind_all : (e : End) (ts : List TurnedLeg) → (end_after e ts).outbox ≡ e.outbox
outbox_behind_all e [] = refl
outbox_behind_all e (t ∷ later) = outbox_behind_all (end_behind e t) later

pub sides_append : (e : End) (ts us : List TurnedLeg) → sides e (ts ++ us) ≡ sides e ts ++ sides (end_after e ts) us
sides_append e [] us = refl
sides_append e (t ∷ later) us = ap (λ (ss : List Side). side_of e t ∷ ss) (sides_append (end_behind e t) later us)

pub after_append : (e : End) (ts us : List TurnedLeg) → end_after e (ts ++ us) ≡ end_after (end_after e ts) us
after_append e [] us = refl
after_append e (t ∷ later) us = after_append (end_behind e t) later us

-- ---- the same connections over an outbox that has more

abbrev pub over : History → End → End
over h e = record e { outbox = h }

pub widen : (s : Side) (h : History) → BeginsHistory s.outbox h → IsOutbox h.made → MakesTurns s → MakesTurns (record s { outbox = h })
widen s h begins entries m = record {
  ready = record { awaits = m.ready.awaits; range = m.ready.range; entries = entries };
  turns = record {
    before = m.turns.before;
    after = m.turns.after;
    last = m.turns.last;
    turns = m.turns.turns;
    cut = m.turns.cut;
    has = record { begins = prefix_trans m.turns.after.made s.outbox.made h.made m.seen.made begins.made; few = entries.few };
    faithful = m.turns.faithful;
  };
  seen = begins_on m.turns.after s.outbox h m.seen begins;
  timely = m.timely;
}

pub widen_all : (e : End) (h : History) (ts : List TurnedLeg) → BeginsHistory e.outbox h → IsOutbox h.made → AllByRecursion MakesTurns (sides e ts) → AllByRecursion MakesTurns (sides (over h e) ts)
widen_all e h [] begins entries m = tt
widen_all e h (t ∷ later) begins entries m = (widen (side_of e t) h begins entries m.0, widen_all (end_behind e t) h later begins entries m.1)

pub over_after : (e : End) (h : History) (ts : List TurnedLeg) → end_after (over h e) ts ≡ over h (end_after e ts)
over_after e h [] = refl
over_after e h (t ∷ later) = over_after (end_behind e t) h later
