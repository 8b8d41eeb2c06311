-- Connections of a served life, one behind another.
use Rattle.std.proofs.Common.{◌≡◌, ◌≤◌, List, [], ◌∷◌, ◌++◌, length, Option, Some, None, refl, sym, ap, subst, ◌∙◌, append-nil, append_assoc, arith}
use Rattle.std.specs.Prelude.{option_to_list, Result}
use Rattle.std.specs.List.{AllByRecursion, flat_map}
use Rattle.std.proofs.lemmas.List.{map-append}
use Rattle.std.proofs.lemmas.Grind.{flat_map-append}
use mathlib.Core.List.{IsPrefix}
use Rattle.session_model.specs.Journal.{Entry, History}
use Rattle.session_model.specs.Inbox.{InboxRecord, next_number}
use Rattle.session_model.proofs.Lists.{prefix_trans, prefix_equal, prefix_length}
use Rattle.fixp_machine.specs.Machine.{State}
use Rattle.jr_dated.specs.declared.journal.Journal.{Ghosts}
use Rattle.jr_kept.specs.declared.inbox.Inbox.{Inbox}
use Rattle.jr_kept.specs.Inbox.{HoldsBox}
use Rattle.conn_turns.specs.Lines.{Line}
use Rattle.conn_turns.specs.Turns.{Turn, calls_of}
use Rattle.connection_laws.specs.Courses.{Course, inbox_of, beginning, course_after}
use Rattle.connection_laws.specs.Standing.{Stands}
use Rattle.connection_laws.proofs.Going.{calls_keep, connection_begins}
use Rattle.turn_laws.specs.Standing.{Has}
use Rattle.turn_laws.specs.Legs.{TurnedLeg, calls_on, first_line, AreTurnsOf, course_on}
use Rattle.turn_laws.specs.Lives.{AllAreTurns, state_after, inbox_after}
use Rattle.turn_laws.proofs.Running.{all_seen, leg_stands}
use Rattle.conn_steps.proofs.Either.{either_box}
use Rattle.conn_door.specs.declared.answer.ServeFault.{ServeFault}
use Rattle.conn_door.specs.declared.answer.LifeEnd.{LifeEnd}
use Rattle.conn_serve.specs.Connections.{Connection, IsFaithfulLeg, turned, all_of, IsConnection, HasEnded, AllEnded, adds_of, refused_of_all}
use Rattle.conn_serve.specs.Served.{WasGivenUp, ServedLife}
use Rattle.life_laws.specs.Lives.{LifeOpens, ServedIsTurned}
use Rattle.conn_serve.proofs.Following.{plain, plain_are_turns}
use Rattle.life_laws.proofs.Turned.{has_before, IsTurnedOne, connection_turned}
use Rattle.conn_serve.specs.Moments.{LifeAt}

-- what was seen before a connection, and before several, begins what was seen behind them
seen_over : (before after : History) (m : State) (last : Line) (c : Connection) → IsConnection before after m last c → IsPrefix before.made after.made
seen_over before after m last c real =
    let k = plain before after m last c real in
    prefix_trans before.made k.seen.made after.made
    (all_seen before k.seen (first_line c.leg.per_turn m c.leg.moment) last c.leg.turns (plain_are_turns before k.seen (first_line c.leg.per_turn m c.leg.moment) last c.leg.turns k.told k.added k.turns)) k.grows.made

pub seen_over_all : (before after : History) (m new : State) (cs : List Connection) → AllEnded before after m new cs → IsPrefix before.made after.made
seen_over_all before after m new [] all = prefix_equal before.made after.made (ap (λ (x : History). x.made) (sym all.1))
seen_over_all before after m new (c ∷ later) all =
    prefix_trans before.made all.0.made after.made (seen_over before all.0 m all.2.last c all.2.is) (seen_over_all all.0 after all.1 new later all.3)

pub seen_behind : (before after : History) (m : State) (given_up : Option Connection) → WasGivenUp before after m given_up → IsPrefix before.made after.made
seen_behind before after m None k = prefix_equal before.made after.made (ap (λ (x : History). x.made) (sym k))
seen_behind before after m (Some c) k = seen_over before after m k.0 c k.1

-- one that ended has left the machine so
ended_machine : (h : List Entry) (before after : History) (m new : State) (i : List InboxRecord) (c : Connection) (k : HasEnded before after m new c) → IsTurnedOne h m i k.last c → (course_on m i c.leg).state ≡ new
ended_machine h before after m new i c k x =
    let d : Course = course_after (beginning m i c.leg.moment) (flat_map calls_of c.leg.turns) in
    ap (λ (e : Course). e.state) (x.joined ∙ ap (λ (cut : Option Turn). course_after d (flat_map calls_of (option_to_list cut))) k.whole) ∙ (x.stands.machine ∙ sym k.machine)

-- where a life has come to over connections that ended
pub record AreBehind (h : List Entry) (m mid : State) (i : List InboxRecord) (cs : List Connection) : Type 0 where
  pub turns : AllAreTurns h m i (turned cs)
  pub machine : state_after m i (turned cs) ≡ mid
  pub adds : inbox_after m i (turned cs) ≡ i ++ adds_of cs
  pub awaits : mid.facts.recorded.inbox_next ≡ next_number (inbox_after m i (turned cs))
  pub enough : mid.facts.recorded.sent ≤ length h

-- what is so of each of several is so of those in front, and of the last
front_faithful : (cs ds : List Connection) → AllByRecursion IsFaithfulLeg (turned (cs ++ ds)) → AllByRecursion IsFaithfulLeg (turned cs)
front_faithful [] ds all = tt
front_faithful (c ∷ cs) ds all = (all.0, front_faithful cs ds all.1)

pub last_faithful : (cs : List Connection) (c : Connection) → AllByRecursion IsFaithfulLeg (turned (cs ++ c ∷ [])) → IsFaithfulLeg c.leg
last_faithful [] c all = all.0
last_faithful (d ∷ cs) c all = last_faithful cs c all.1

pub all_behind : (h : List Entry) (before after : History) (m mid : State) (i : List InboxRecord) (cs : List Connection) → m.facts.recorded.inbox_next ≡ next_number i → m.facts.recorded.sent ≤ length h
    → Has h after → AllEnded before after m mid cs → AllByRecursion IsFaithfulLeg (turned cs) → AreBehind h m mid i cs
all_behind h before after m mid i [] awaits enough has all faithful = record {
  turns = tt;
  machine = sym all.0;
  adds = sym (append-nil i);
  awaits = subst (λ (s : State). s.facts.recorded.inbox_next ≡ next_number i) (sym all.0) awaits;
  enough = subst (λ (s : State). s.facts.recorded.sent ≤ length h) (sym all.0) enough;
}
all_behind h before after m mid i (c ∷ later) awaits enough has all faithful =
    let k : HasEnded before all.0 m all.1 c = all.2 in
    let x : IsTurnedOne h m i k.last c = connection_turned h before all.0 m i k.last c awaits enough (has_before h all.0 after has (seen_over_all all.0 after all.1 mid later all.3)) k.is faithful.0 in
    let d : Course = course_on m i c.leg in
    let here : d.state ≡ all.1 = ended_machine h before all.0 m all.1 i c k x in
    let st : Stands h d = calls_keep h (beginning m i c.leg.moment) (calls_on c.leg) (connection_begins h m i c.leg.moment awaits enough) (leg_stands h m i c.leg awaits enough x.turns) in
    let rest : AreBehind h all.1 mid (inbox_of d) later =
    all_behind h all.0 after all.1 mid (inbox_of d) later (subst (λ (s : State). s.facts.recorded.inbox_next ≡ next_number (inbox_of d)) here st.agrees.recorded)
    (subst (λ (s : State). s.facts.recorded.sent ≤ length h) here st.own.enough) has all.3 faithful.1 in
    let same : inbox_after d.state (inbox_of d) (turned later) ≡ inbox_after all.1 (inbox_of d) (turned later) = ap (λ (s : State). inbox_after s (inbox_of d) (turned later)) here in
    record {
      turns = (x.turns, subst (λ (s : State). AllAreTurns h s (inbox_of d) (turned later)) (sym here) rest.turns);
      machine = ap (λ (s : State). state_after s (inbox_of d) (turned later)) here ∙ rest.machine;
      adds = same ∙ (rest.adds ∙ (ap (λ (rs : List InboxRecord). rs ++ adds_of later) x.adds ∙ append_assoc i c.adds (adds_of later)));
      awaits = subst (λ (rs : List InboxRecord). mid.facts.recorded.inbox_next ≡ next_number rs) (sym same) rest.awaits;
      enough = rest.enough;
    }

-- one more behind them
all_turns_append : (h : List Entry) (m : State) (i : List InboxRecord) (ts : List TurnedLeg) (t : TurnedLeg) → AllAreTurns h m i ts → AreTurnsOf h (state_after m i ts) t → AllAreTurns h m i (ts ++ t ∷ [])
all_turns_append h m i [] t all k = (k, tt)
all_turns_append h m i (x ∷ ts) t all k = (all.0, all_turns_append h (course_on m i x).state (inbox_of (course_on m i x)) ts t all.1 k)

inbox_append : (m : State) (i : List InboxRecord) (ts : List TurnedLeg) (t : TurnedLeg) → inbox_after m i (ts ++ t ∷ []) ≡ inbox_of (course_on (state_after m i ts) (inbox_after m i ts) t)
inbox_append m i [] t = refl
inbox_append m i (x ∷ ts) t = inbox_append (course_on m i x).state (inbox_of (course_on m i x)) ts t

adds_append : (cs : List Connection) (c : Connection) → adds_of (cs ++ c ∷ []) ≡ adds_of cs ++ c.adds
adds_append cs c = flat_map-append (λ (d : Connection). d.adds) cs (c ∷ []) ∙ ap (λ (rs : List InboxRecord). adds_of cs ++ rs) (append-nil c.adds)

pub turned_append : (cs : List Connection) (c : Connection) → turned (cs ++ c ∷ []) ≡ turned cs ++ c.leg ∷ []
turned_append cs c = map-append (λ (d : Connection). d.leg) cs (c ∷ [])

-- the one that was given up behind those that ended
pub given_turned : (h : List Entry) (before after : History) (m mid : State) (i : List InboxRecord) (cs : List Connection) (c : Connection) → AreBehind h m mid i cs → Has h after
    → (k : WasGivenUp before after mid (Some c)) → IsFaithfulLeg c.leg → IsTurnedOne h (state_after m i (turned cs)) (inbox_after m i (turned cs)) k.0 c
given_turned h before after m mid i cs c b has k faithful =
    subst (λ (s : State). IsTurnedOne h s (inbox_after m i (turned cs)) k.0 c) (sym b.machine) (connection_turned h before after mid (inbox_after m i (turned cs)) k.0 c b.awaits b.enough has k.1 faithful)

-- and what they all add
pub given_adds : (h : List Entry) (m mid : State) (i : List InboxRecord) (last : Line) (cs : List Connection) (c : Connection) → AreBehind h m mid i cs
    → IsTurnedOne h (state_after m i (turned cs)) (inbox_after m i (turned cs)) last c → inbox_of (course_on (state_after m i (turned cs)) (inbox_after m i (turned cs)) c.leg) ≡ i ++ adds_of (cs ++ c ∷ [])
given_adds h m mid i last cs c b x =
    x.adds ∙ (ap (λ (rs : List InboxRecord). rs ++ c.adds) b.adds ∙ (append_assoc i (adds_of cs) c.adds ∙ ap (λ (rs : List InboxRecord). i ++ rs) (sym (adds_append cs c))))

-- all of them
pub record AllTurned (h : List Entry) (m : State) (i : List InboxRecord) (cs : List Connection) : Type 0 where
  pub turns : AllAreTurns h m i (turned cs)
  pub adds : inbox_after m i (turned cs) ≡ i ++ adds_of cs

pub with_given : (h : List Entry) (m mid : State) (i : List InboxRecord) (last : Line) (cs : List Connection) (c : Connection) → AreBehind h m mid i cs
    → IsTurnedOne h (state_after m i (turned cs)) (inbox_after m i (turned cs)) last c → AllTurned h m i (cs ++ c ∷ [])
with_given h m mid i last cs c b x = record {
  turns = subst (λ (ts : List TurnedLeg). AllAreTurns h m i ts) (sym (turned_append cs c)) (all_turns_append h m i (turned cs) c.leg b.turns x.turns);
  adds = ap (λ (ts : List TurnedLeg). inbox_after m i ts) (turned_append cs c)
      ∙ (inbox_append m i (turned cs) c.leg ∙ given_adds h m mid i last cs c b x);
}

pub all_turned : (h : List Entry) (before after : History) (m mid : State) (i : List InboxRecord) (cs : List Connection) (given_up : Option Connection) → AreBehind h m mid i cs → Has h after
    → WasGivenUp before after mid given_up → AllByRecursion IsFaithfulLeg (turned (all_of cs given_up)) → AllTurned h m i (all_of cs given_up)
all_turned h before after m mid i cs None b has k faithful = subst (λ (xs : List Connection). AllTurned h m i xs) (sym (append-nil cs)) (record { turns = b.turns; adds = b.adds })
all_turned h before after m mid i cs (Some c) b has k faithful = with_given h m mid i k.0 cs c b (given_turned h before after m mid i cs c b has k (last_faithful cs c faithful))

module _ {J : Type 0} {G : Ghosts J} where
  pub life_opens : (box : Inbox J G) → LifeOpens box
  life_opens box p q m opened h i may looks holds has before =
      let seen : length p.seen.made ≤ length h = prefix_length p.seen.made h (prefix_trans p.seen.made q.seen.made h looks.seen.made has.begins) in
      let sent : m.facts.recorded.sent ≤ length p.seen.made = may.seen.entries in
      record { awaits = sym may.agrees.next ∙ holds.noticed.next; enough = omega (arith, sent, seen); before = before }

  -- where the connections that ended have led
  pub life_behind : {tells : Type 0} (old new : LifeAt J G) (m : State) (result : Result LifeEnd ServeFault) (h : List Entry) (i : List InboxRecord) (k : ServedLife tells old new m result) → tells
      → Has h new.seen → m.facts.recorded.inbox_next ≡ next_number i → m.facts.recorded.sent ≤ length h → AreBehind h m k.mid i k.ended
  life_behind old new m result h i k t has awaits enough =
      all_behind h old.seen k.behind m k.mid i k.ended awaits enough (has_before h k.behind new.seen has (seen_behind k.behind new.seen k.mid k.given_up k.gave_up)) k.were (front_faithful k.ended (option_to_list k.given_up) (k.faithful t))

  pub served_is_turned : (tells : Type 0) (box : Inbox J G) → ServedIsTurned tells box
  served_is_turned tells box old new m result h i k t holds has awaits enough =
      let b : AreBehind h m k.mid i k.ended = life_behind old new m result h i k t has awaits enough in
      let all : AllTurned h m i (all_of k.ended k.given_up) = all_turned h k.behind new.seen m k.mid i k.ended k.given_up b has k.gave_up (k.faithful t) in
      record {
        turns = all.turns;
        machine = b.machine;
        adds = all.adds;
        holds = subst (λ (rs : List InboxRecord). HoldsBox new.box rs (refused_of_all (option_to_list k.given_up))) (sym all.adds) (either_box new.box (i ++ adds_of (all_of k.ended k.given_up)) (refused_of_all (option_to_list k.given_up)) (k.refuses.holds i holds));
      }
