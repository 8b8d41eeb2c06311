-- A served life is one of the loop.
use Rattle.std.proofs.Common.{◌≡◌, ◌⊎◌, inl, inr, List, [], ◌∷◌, ◌++◌, Option, Some, None, refl, sym, ap, subst, ◌∙◌, append-nil}
use Rattle.std.specs.Prelude.{IfSome, option_to_list}
use Rattle.std.specs.List.{AllByRecursion}
use Rattle.session_model.specs.Journal.{Entry, OutboxRecord, entries}
use Rattle.session_model.specs.Inbox.{InboxRecord}
use Rattle.fixp_msgs.specs.Payload.{IsApplication}
use Rattle.fixp_machine.specs.Machine.{State}
use Rattle.jr_dated.specs.declared.journal.Journal.{Ghosts}
use Rattle.jr_kept.specs.declared.inbox.Inbox.{Inbox}
use Rattle.conn_turns.specs.Lines.{Line}
use Rattle.conn_turns.specs.Turns.{Turn, cut_short}
use Rattle.connection_laws.specs.Living.{Leg, AllMayRun, Opens}
use Rattle.connection_laws.proofs.Living.{opening_on, none_refused, closing_on}
use Rattle.connection_laws.specs.Ranges.{IsInRange}
use Rattle.turn_laws.specs.Legs.{AreTurns, TurnedLeg, IsTimely, first_line}
use Rattle.turn_laws.specs.Lives.{AllAreTurns, legs_of, state_after, inbox_after}
use Rattle.turn_laws.proofs.Running.{all_run, turns_serve, turns_refused_tail}
use Rattle.turn_laws.specs.LoopLives.{RefusedLeg, IsRefusedOn}
use Rattle.turn_laws.specs.Legs.{cut_leg}
use Rattle.turn_laws.proofs.Failing.{FailsOn, fails_on}
use Rattle.conn_serve.specs.Connections.{Connection, IsFaithfulLeg, turned, all_of, refused_of_all}
use Rattle.conn_serve.specs.Served.{WasGivenUp}
use Rattle.life_laws.specs.Lives.{LifeOfLoop, LifeMayTurn, ServedKeeps}
use Rattle.life_laws.proofs.Turned.{IsTurnedOne}
use Rattle.life_laws.proofs.Behind.{AreBehind, last_faithful, given_turned, turned_append, given_adds, AllTurned, with_given, all_turned, life_behind}
use Rattle.life_laws.proofs.Waits.{FailedTurn, failed_or_none}

-- a life of which a stop may leave nothing that was refused
whole_life : (opening closing refused : List OutboxRecord) (m : State) (i : List InboxRecord) (cs : List Connection) (left : List InboxRecord) → Opens (entries opening) (entries closing) m i
    → AllTurned (entries closing) m i cs → left ≡ [] → LifeOfLoop opening closing refused m i cs left
whole_life opening closing refused m i cs left o all none =
    let legs : List Leg = legs_of m i (turned cs) in
    let may : AllMayRun (entries closing) m i legs = all_run (entries closing) m i (turned cs) o.awaits o.enough all.turns in
    record {
      life = record { opening_outbox = opening; closing_outbox = closing; refused_outbox = refused; state = m; inbox = i; legs = turned cs; last = None };
      outboxes = (refl, refl, refl);
      begins = (refl, refl);
      legs = append-nil (turned cs);
      turns = all.turns;
      last = tt;
      inbox = (opening_on m i legs (entries opening) (entries closing) o may, closing_on m i legs ∙ all.adds, none_refused m i legs ∙ sym none);
      keeps = turns_serve (entries opening) (entries closing) m i (turned cs) o all.turns;
    }

-- the connection is that with its last turn
last_leg_is : (leg : TurnedLeg) (t : Turn) → leg.cut ≡ Some t → cut_leg leg t ≡ leg
last_leg_is leg t is = ap (λ (cut : Option Turn). record leg { cut = cut }) (sym is)

-- one on whose last connection a call of the inbox's disk failed
failed_life : (opening closing refused : List OutboxRecord) (m mid : State) (i : List InboxRecord) (last : Line) (cs : List Connection) (c : Connection) (left : List InboxRecord)
    → Opens (entries opening) (entries closing) m i → AreBehind (entries closing) m mid i cs → IsTurnedOne (entries closing) (state_after m i (turned cs)) (inbox_after m i (turned cs)) last c
    → FailedTurn last c.leg.cut left → LifeOfLoop opening closing refused m i (cs ++ c ∷ []) left
failed_life opening closing refused m mid i last cs c left o b x w = record {
  life = record { opening_outbox = opening; closing_outbox = closing; refused_outbox = refused; state = m; inbox = i; legs = turned cs; last = Some q };
  outboxes = (refl, refl, refl);
  begins = (refl, refl);
  legs = sym (turned_append cs c);
  turns = b.turns;
  last = failed;
  inbox = (opening_on m i legs (entries opening) h o may, given_adds h m mid i last cs c b x, refl);
  keeps = turns_refused_tail (entries opening) h m i (turned cs) c.leg f.calls left o b.turns x.turns failed.refuses;
}
  where
    h : List Entry
    h = entries closing

    legs : List Leg
    legs = legs_of m i (turned cs)

    may : AllMayRun h m i legs
    may = all_run h m i (turned cs) o.awaits o.enough b.turns

    s : State
    s = state_after m i (turned cs)

    box : List InboxRecord
    box = inbox_after m i (turned cs)

    t : Turn
    t = cut_short w.now w.received w.frames w.refusal

    f : FailsOn h s box c.leg t left
    f = fails_on h s box c.leg x.turns.before x.turns.after last w.now w.received w.frames w.refusal left
        (subst (λ (l : Line). AreTurns x.turns.before x.turns.after (first_line c.leg.per_turn s c.leg.moment) l c.leg.turns) x.line x.turns.turns) x.turns.has x.turns.faithful x.stands w.short w.is_tried

    q : RefusedLeg
    q = record { leg = c.leg; refusal = record { calls = f.calls; tried = left } }

    failed : IsRefusedOn h s box q
    failed = subst (λ (u : TurnedLeg). IsRefusedOn h s box (record { leg = u; refusal = record { calls = f.calls; tried = left } })) (last_leg_is c.leg t w.is) f.is

module _ {J : Type 0} {G : Ghosts J} where
  pub served_keeps : (tells : Type 0) (box : Inbox J G) → ServedKeeps tells box
  served_keeps tells box old new m result opening closing refused i k t has o =
      by_given k.given_up k.gave_up (k.faithful t)
    where
      h : List Entry
      h = entries closing

      b : AreBehind h m k.mid i k.ended
      b = life_behind old new m result h i k t has o.awaits o.enough

      by_given : (given_up : Option Connection) → WasGivenUp k.behind new.seen k.mid given_up → AllByRecursion IsFaithfulLeg (turned (all_of k.ended given_up)) → LifeOfLoop opening closing refused m i (all_of k.ended given_up) (refused_of_all (option_to_list given_up))
      by_given None g faithful = whole_life opening closing refused m i (all_of k.ended None) [] o (all_turned h k.behind new.seen m k.mid i k.ended None b has g faithful) refl
      by_given (Some c) g faithful = subst (λ (rs : List InboxRecord). LifeOfLoop opening closing refused m i (all_of k.ended (Some c)) rs) (sym (append-nil c.refused)) (by_failing (failed_or_none k.behind new.seen k.mid g.0 c g.1))
        where
          x : IsTurnedOne h (state_after m i (turned k.ended)) (inbox_after m i (turned k.ended)) g.0 c
          x = given_turned h k.behind new.seen m k.mid i k.ended c b has g (last_faithful k.ended c faithful)

          by_failing : (c.refused ≡ []) ⊎ FailedTurn g.0 c.leg.cut c.refused → LifeOfLoop opening closing refused m i (k.ended ++ c ∷ []) c.refused
          by_failing (inl none) = whole_life opening closing refused m i (k.ended ++ c ∷ []) c.refused o (with_given h m k.mid i g.0 k.ended c b x) none
          by_failing (inr w) = failed_life opening closing refused m k.mid i g.0 k.ended c c.refused o b x w

pub life_may_turn : LifeMayTurn
life_may_turn opening closing refused m i cs left l o range payloads timely = record {
  own_flow = ap (λ (s : State). s.config.own_flow) l.begins.0;
  peer_flow = ap (λ (s : State). s.config.peer_flow) l.begins.0;
  range = subst (λ (s : State). IsInRange s) (sym l.begins.0) range;
  opens = subst (λ (s : State). Opens (entries l.life.opening_outbox) (entries l.life.closing_outbox) s l.life.inbox) (sym l.begins.0)
      (subst (λ (rs : List InboxRecord). Opens (entries l.life.opening_outbox) (entries l.life.closing_outbox) m rs) (sym l.begins.1)
      (subst (λ (rs : List OutboxRecord). Opens (entries rs) (entries l.life.closing_outbox) m i) (sym l.outboxes.0)
      (subst (λ (rs : List OutboxRecord). Opens (entries opening) (entries rs) m i) (sym l.outboxes.1) o)));
  payloads = subst (λ (rs : List OutboxRecord). AllByRecursion (λ (e : Entry). IsApplication e.payload) (entries rs)) (sym l.outboxes.1) payloads;
  turns = subst (λ (rs : List OutboxRecord). AllAreTurns (entries rs) l.life.state l.life.inbox l.life.legs) (sym l.outboxes.1)
      (subst (λ (s : State). AllAreTurns (entries closing) s l.life.inbox l.life.legs) (sym l.begins.0)
      (subst (λ (rs : List InboxRecord). AllAreTurns (entries closing) m rs l.life.legs) (sym l.begins.1) l.turns));
  last = subst (λ (rs : List OutboxRecord). IfSome l.life.last (IsRefusedOn (entries rs) (state_after l.life.state l.life.inbox l.life.legs) (inbox_after l.life.state l.life.inbox l.life.legs))) (sym l.outboxes.1)
      (subst (λ (s : State). IfSome l.life.last (IsRefusedOn (entries closing) (state_after s l.life.inbox l.life.legs) (inbox_after s l.life.inbox l.life.legs))) (sym l.begins.0)
      (subst (λ (rs : List InboxRecord). IfSome l.life.last (IsRefusedOn (entries closing) (state_after m rs l.life.legs) (inbox_after m rs l.life.legs))) (sym l.begins.1) l.last));
  timely = subst (λ (ts : List TurnedLeg). AllByRecursion IsTimely ts) (sym l.legs) timely;
}
