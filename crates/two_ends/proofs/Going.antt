-- An end over its lives, turn by turn.
use Rattle.std.proofs.Common.{◌≡◌, ◌⊎◌, inl, inr, ◌≤◌, List, [], ◌∷◌, ◌++◌, length, Option, None, Some, refl, sym, ap, subst, ◌∙◌, append-nil, append_assoc, false}
use Rattle.std.specs.Prelude.{IfSome, option_to_list}
use Rattle.std.specs.List.{flat_map, AllByRecursion}
use Rattle.std.proofs.lemmas.Grind.{flat_map-append}
use mathlib.Core.List.{IsPrefix}
use Rattle.session_model.specs.Journal.{Entry, History, BeginsHistory, OutboxRecord, entries}
use Rattle.session_model.specs.Inbox.{InboxRecord, next_number}
use Rattle.session_model.proofs.Lists.{prefix_self, prefix_trans, prefix_of_append, all_append}
use Rattle.fixp_machine.specs.Machine.{State, Call, connected}
use Rattle.conn_turns.specs.Lines.{Line}
use Rattle.conn_turns.specs.Turns.{Turn, IsFaithful, cut_short, calls_of}
use Rattle.connection_laws.specs.Courses.{Course, inbox_of, beginning, course_after}
use Rattle.connection_laws.proofs.Living.{none_refused, closing_on}
use Rattle.connection_laws.specs.Standing.{Stands}
use Rattle.connection_laws.proofs.Going.{calls_keep, connection_begins}
use Rattle.connection_laws.proofs.Continuing.{calls_go_on}
use Rattle.turn_laws.specs.Turns.{line_received, IsTurn, IsCut, adds_in, adds_cut}
use Rattle.turn_laws.specs.Standing.{Has}
use Rattle.turn_laws.specs.Legs.{AreTurns, TurnedLeg, calls_on, first_line, AreTurnsOf, IsTimelyTurn, IsTimely, course_on}
use Rattle.turn_laws.specs.Lives.{AllAreTurns, legs_of, state_after, inbox_after}
use Rattle.turn_laws.proofs.Going.{after_append}
use Rattle.turn_laws.proofs.Working.{turn_may_stand, cut_may_stand}
use Rattle.turn_laws.proofs.Running.{TurnsStand, turns_stand, begin_stands, leg_stands}
use Rattle.turn_laws.proofs.Adding.{turn_adds}
use Rattle.turn_laws.proofs.Adding.{cut_adds}
use Rattle.turn_laws.proofs.Sent.{given_up_begins}
use Rattle.two_ends.specs.Driving.{EndNow, Beginning, Awaits, WereMade, machine_behind, list_behind, with_turn, IsBetween, IsDuring}
use Rattle.turn_laws.specs.Legs.{cut_leg}
use Rattle.two_ends.specs.Stories.{IsOver}
use Rattle.turn_laws.proofs.Failing.{FailsOn, failed_leg, fails_on}
use Rattle.two_ends.specs.DrivingLaws.{LegBegins, TurnGoesOn, LegEnds, CutEnds, LifeEnds, LifeFails}

-- ---- lists of turns, and of connections

begins_self : (h : History) → BeginsHistory h h
begins_self h = record { made = prefix_self h.made; alone = λ _. refl }

-- one more turn behind others
turns_append : (before mid after : History) (old l new : Line) (ts : List Turn) (t : Turn) → AreTurns before mid old l ts → l.machine.ending ≡ None → IsTurn mid after l new t → AreTurns before after old new (ts ++ t ∷ [])
turns_append before mid after old l new [] t a unended k = (
  subst (λ (x : Line). x.machine.ending ≡ None) a.0 unended,
  new,
  after,
  subst (λ (x : History). IsTurn x after old new t) a.1 (subst (λ (x : Line). IsTurn mid after x new t) a.0 k),
  after,
  begins_self after,
  (refl, refl),
)
turns_append before mid after old l new (x ∷ ts) t a unended k = (a.0, a.1, a.2, a.3, a.4, a.5, turns_append a.4 mid after a.1 l new ts t a.6 unended k)

-- one more connection behind others
all_turns_append : (h : List Entry) (m : State) (i : List InboxRecord) (ts : List TurnedLeg) (t : TurnedLeg) → AllAreTurns h m i ts → AreTurnsOf h (state_after m i ts) t → AllAreTurns h m i (ts ++ t ∷ [])
all_turns_append h m i [] t all k = (k, tt)
all_turns_append h m i (x ∷ ts) t all k = (all.0, all_turns_append h (course_on m i x).state (inbox_of (course_on m i x)) ts t all.1 k)

inbox_append : (m : State) (i : List InboxRecord) (ts : List TurnedLeg) (t : TurnedLeg) → inbox_after m i (ts ++ t ∷ []) ≡ inbox_of (course_on (state_after m i ts) (inbox_after m i ts) t)
inbox_append m i [] t = refl
inbox_append m i (x ∷ ts) t = inbox_append (course_on m i x).state (inbox_of (course_on m i x)) ts t

state_append : (m : State) (i : List InboxRecord) (ts : List TurnedLeg) (t : TurnedLeg) → state_after m i (ts ++ t ∷ []) ≡ (course_on (state_after m i ts) (inbox_after m i ts) t).state
state_append m i [] t = refl
state_append m i (x ∷ ts) t = state_append (course_on m i x).state (inbox_of (course_on m i x)) ts t

-- ---- where a connection has come to

-- the turns of one that was not cut short are in time
timely_turns : (t : TurnedLeg) → t.cut ≡ None → IsTimely t → AllByRecursion IsTimelyTurn t.turns
timely_turns t uncut timely = subst (λ (ts : List Turn). AllByRecursion IsTimelyTurn ts) (append-nil t.turns) (subst (λ (cut : Option Turn). AllByRecursion IsTimelyTurn (t.turns ++ option_to_list cut)) uncut timely.turns)

calls_uncut : (t : TurnedLeg) → t.cut ≡ None → calls_on t ≡ flat_map calls_of t.turns
calls_uncut t e = ap (λ (c : Option Turn). flat_map calls_of (t.turns ++ option_to_list c)) e ∙ ap (λ (ts : List Turn). flat_map calls_of ts) (append-nil t.turns)

course_uncut : (s : State) (i : List InboxRecord) (t : TurnedLeg) → t.cut ≡ None → course_on s i t ≡ course_after (beginning s i t.moment) (flat_map calls_of t.turns)
course_uncut s i t e = ap (λ (cs : List Call). course_after (beginning s i t.moment) cs) (calls_uncut t e)

course_with : (s : State) (i : List InboxRecord) (t : TurnedLeg) (turn : Turn) → t.cut ≡ None
    → course_on s i (with_turn t turn) ≡ course_after (course_after (beginning s i t.moment) (flat_map calls_of t.turns)) (calls_of turn)
course_with s i t turn e =
    let c : Course = beginning s i t.moment in
    course_uncut s i (with_turn t turn) e
    ∙ (ap (λ (cs : List Call). course_after c cs) (flat_map-append calls_of t.turns (turn ∷ []) ∙ ap (λ (cs : List Call). flat_map calls_of t.turns ++ cs) (append-nil (calls_of turn)))
    ∙ after_append c (flat_map calls_of t.turns) (calls_of turn))

-- where a life has come to behind connections
record Behind (h : List Entry) (s : State) (first inbox : List InboxRecord) : Type 0 where
  awaits : s.facts.recorded.inbox_next ≡ next_number inbox
  enough : s.facts.recorded.sent ≤ length h
  grows : IsPrefix first inbox

behind : (h : List Entry) (s : State) (inbox : List InboxRecord) (legs : List TurnedLeg) → s.facts.recorded.inbox_next ≡ next_number inbox → s.facts.recorded.sent ≤ length h → AllAreTurns h s inbox legs
    → Behind h (state_after s inbox legs) inbox (inbox_after s inbox legs)
behind h s inbox [] awaits enough all = record { awaits = awaits; enough = enough; grows = prefix_self inbox }
behind h s inbox (t ∷ later) awaits enough all =
    let d : Course = course_on s inbox t in
    let b : Course = beginning s inbox t.moment in
    let may = leg_stands h s inbox t awaits enough all.0 in
    let st : Stands h d = calls_keep h b (calls_on t) (connection_begins h s inbox t.moment awaits enough) may in
    let start : d.start ≡ inbox = (calls_go_on h b (calls_on t) may).start in
    let r = behind h d.state (inbox_of d) later st.agrees.recorded st.own.enough all.1 in
    record {
      awaits = r.awaits;
      enough = r.enough;
      grows = prefix_trans inbox (inbox_of d) (inbox_after s inbox (t ∷ later)) (subst (λ (i : List InboxRecord). IsPrefix i (inbox_of d)) start (prefix_of_append d.start d.added)) r.grows;
    }

-- so it is of a life that began so
life_behind : (h : List Entry) (b : Beginning) (legs : List TurnedLeg) → Awaits b → WereMade h b legs → Behind h (machine_behind b legs) b.inbox (list_behind b legs)
life_behind h b legs awaits made = behind h b.machine b.inbox legs awaits made.enough made.turns

-- a connection that goes on stands at its line
during_stands : (h : List Entry) (b : Beginning) (past : List TurnedLeg) (leg : TurnedLeg) (e : EndNow) → Awaits b → Has h e.seen → (d : IsDuring h b past leg e)
    → TurnsStand h (beginning (machine_behind b past) (list_behind b past) leg.moment) e.line leg.turns
during_stands h b past leg e awaits has d =
    let s : State = machine_behind b past in
    let i : List InboxRecord = list_behind b past in
    let r = life_behind h b past awaits d.behind in
    turns_stand h d.before e.seen (first_line leg.per_turn s leg.moment) e.line leg.turns (beginning s i leg.moment) (begin_stands h leg.per_turn s i leg.moment r.awaits r.enough) has d.made d.faithful

-- one more connection was made
made_more : (h : List Entry) (b : Beginning) (past : List TurnedLeg) (leg : TurnedLeg) → WereMade h b past → AreTurnsOf h (machine_behind b past) leg → IsTimely leg → WereMade h b (past ++ leg ∷ [])
made_more h b past leg made are timely = record {
  enough = made.enough;
  turns = all_turns_append h b.machine b.inbox past leg made.turns are;
  timely = all_append IsTimely past (leg ∷ []) made.timely (timely, tt);
}

-- ---- the laws

pub leg_begins : LegBegins
leg_begins b legs e now k time h has =
    let r : IsBetween h b legs e = k h has in
    record {
      behind = r.made;
      before = e.seen;
      made = (ap (λ (x : State). record { machine = x; held = []; place = 0; over = false; serves = false; waits = false; per_turn = e.line.per_turn }) (r.next now), refl);
      faithful = tt;
      uncut = refl;
      in_time = record { begins = time; turns = tt };
      inbox = append-nil (list_behind b legs) ∙ r.inbox;
    }

pub turn_goes_on : TurnGoesOn
turn_goes_on b past leg e e' t awaits k unended grows is faithful timely adds h has =
    let so_far : Has h e.seen = record { begins = prefix_trans e.seen.made e'.seen.made h grows has.begins; few = has.few } in
    let d : IsDuring h b past leg e = k h so_far in
    let s : State = machine_behind b past in
    let i : List InboxRecord = list_behind b past in
    let c : Course = course_after (beginning s i leg.moment) (flat_map calls_of leg.turns) in
    let x = during_stands h b past leg e awaits so_far d in
    let y = turn_may_stand h e.seen e'.seen e.line e'.line t c x.after has is faithful in
    let begun : (course_after c (calls_of t)).start ≡ c.start = (calls_go_on h c (calls_of t) y.may).start in
    let more : (course_after c (calls_of t)).added ≡ c.added ++ adds_in e.line t = turn_adds h e.seen e'.seen e.line e'.line t c x.after is in
    record {
      behind = d.behind;
      before = d.before;
      made = turns_append d.before e.seen e'.seen (first_line leg.per_turn s leg.moment) e.line e'.line leg.turns t d.made unended is;
      faithful = all_append IsFaithful leg.turns (t ∷ []) d.faithful (faithful, tt);
      uncut = d.uncut;
      in_time = record {
        begins = d.in_time.begins;
        turns = subst (λ (cut : Option Turn). AllByRecursion IsTimelyTurn ((leg.turns ++ t ∷ []) ++ option_to_list cut)) (sym d.uncut)
            (subst (λ (ts : List Turn). AllByRecursion IsTimelyTurn ts) (sym (append-nil (leg.turns ++ t ∷ [])))
            (all_append IsTimelyTurn leg.turns (t ∷ []) (timely_turns leg d.uncut d.in_time) (timely, tt)));
      };
      inbox = ap (λ (x : Course). inbox_of x) (course_with s i leg t d.uncut)
          ∙ (ap (λ (rs : List InboxRecord). rs ++ (course_after c (calls_of t)).added) begun
          ∙ (ap (λ (rs : List InboxRecord). c.start ++ rs) more
          ∙ (sym (append_assoc c.start c.added (adds_in e.line t))
          ∙ (ap (λ (x : Course). inbox_of x ++ adds_in e.line t) (sym (course_uncut s i leg d.uncut))
          ∙ (ap (λ (rs : List InboxRecord). rs ++ adds_in e.line t) d.inbox ∙ sym adds)))));
    }

pub leg_ends : LegEnds
leg_ends b past leg e awaits k h has =
    let d : IsDuring h b past leg e = k h has in
    let s : State = machine_behind b past in
    let i : List InboxRecord = list_behind b past in
    let x = during_stands h b past leg e awaits has d in
    let one : AreTurnsOf h s leg =
    record { before = d.before; after = e.seen; last = e.line; turns = d.made; cut = subst (λ (c : Option Turn). IfSome c (IsCut e.line)) (sym d.uncut) tt; has = has; faithful = d.faithful } in
    let state : machine_behind b (past ++ leg ∷ []) ≡ e.line.machine =
    state_append b.machine b.inbox past leg ∙ (ap (λ (y : Course). y.state) (course_uncut s i leg d.uncut) ∙ x.after.machine) in
    record {
      made = made_more h b past leg d.behind one d.in_time;
      next = λ now. ap (λ (y : State). connected y now) (sym state);
      inbox = inbox_append b.machine b.inbox past leg ∙ d.inbox;
    }

pub cut_ends : CutEnds
cut_ends b legs e e' k machine seen inbox h has =
    let r : IsBetween h b legs e = k h (subst (λ (x : History). Has h x) seen has) in
    record {
      made = r.made;
      next = λ now. ap (λ (y : State). connected y now) machine ∙ (ap (λ (c : Course). c.state) (given_up_begins e.line.machine [] now) ∙ r.next now);
      inbox = r.inbox ∙ sym inbox;
    }

-- ---- a life that is over

-- one of which nothing was refused
none_left : (closing : List OutboxRecord) (b : Beginning) (legs : List TurnedLeg) (inbox : List InboxRecord) → Awaits b → WereMade (entries closing) b legs → list_behind b legs ≡ inbox → IsOver closing b legs inbox []
none_left closing b legs inbox awaits made is = record {
  done = legs;
  last = None;
  legs_are = append-nil legs;
  made = made;
  waits = tt;
  timely = made.timely;
  grows = subst (λ (i : List InboxRecord). IsPrefix b.inbox i) is (life_behind (entries closing) b legs awaits made).grows;
  inbox_is = closing_on b.machine b.inbox (legs_of b.machine b.inbox legs) ∙ is;
  refused_are = none_refused b.machine b.inbox (legs_of b.machine b.inbox legs);
}

pub life_ends : LifeEnds
life_ends b legs e closing awaits k has =
    let r : IsBetween (entries closing) b legs e = k (entries closing) has in
    none_left closing b legs e.inbox awaits r.made r.inbox

pub life_fails : LifeFails
life_fails b past leg e now received frames refusal tried refused closing awaits k cut timely i_tried left has = by_left left
  where
    h : List Entry
    h = entries closing

    d : IsDuring h b past leg e
    d = k h has

    s : State
    s = machine_behind b past

    i : List InboxRecord
    i = list_behind b past

    t : Turn
    t = cut_short now received frames refusal

    broken : TurnedLeg
    broken = cut_leg leg t

    c : Course
    c = course_after (beginning s i leg.moment) (flat_map calls_of leg.turns)

    x : TurnsStand h (beginning s i leg.moment) e.line leg.turns
    x = during_stands h b past leg e awaits has d

    gained : List InboxRecord
    gained = adds_cut now (line_received e.line now received cut.got) frames refusal

    are : AreTurnsOf h s broken
    are = record { before = d.before; after = e.seen; last = e.line; turns = d.made; cut = cut; has = has; faithful = d.faithful }

    joined : course_on s i broken ≡ course_after c (calls_of t)
    joined = ap (λ (cs : List Call). course_after (beginning s i leg.moment) cs) (flat_map-append calls_of leg.turns (t ∷ []) ∙ ap (λ (cs : List Call). flat_map calls_of leg.turns ++ cs) (append-nil (calls_of t)))
        ∙ after_append (beginning s i leg.moment) (flat_map calls_of leg.turns) (calls_of t)

    begun : (course_after c (calls_of t)).start ≡ c.start
    begun = (calls_go_on h c (calls_of t) (cut_may_stand h e.line t c x.after cut)).start

    more : (course_after c (calls_of t)).added ≡ c.added ++ gained
    more = cut_adds h e.line now received frames refusal c x.after cut

    is : inbox_of (course_on s i broken) ≡ e.inbox ++ gained
    is = ap (λ (y : Course). inbox_of y) joined
        ∙ (ap (λ (rs : List InboxRecord). rs ++ (course_after c (calls_of t)).added) begun
        ∙ (ap (λ (rs : List InboxRecord). c.start ++ rs) more
        ∙ (sym (append_assoc c.start c.added gained)
        ∙ (ap (λ (y : Course). inbox_of y ++ gained) (sym (course_uncut s i leg d.uncut)) ∙ ap (λ (rs : List InboxRecord). rs ++ gained) d.inbox))))

    in_time : IsTimely broken
    in_time = record { begins = d.in_time.begins; turns = all_append IsTimelyTurn leg.turns (t ∷ []) (timely_turns leg d.uncut d.in_time) (timely, tt) }

    made : WereMade h b (past ++ broken ∷ [])
    made = made_more h b past broken d.behind are in_time

    behind_all : list_behind b (past ++ broken ∷ []) ≡ e.inbox ++ gained
    behind_all = inbox_append b.machine b.inbox past broken ∙ is

    by_left : (refused ≡ []) ⊎ (refused ≡ tried) → IsOver closing b (past ++ broken ∷ []) (e.inbox ++ gained) refused
    by_left (inl none) = subst (λ (rs : List InboxRecord). IsOver closing b (past ++ broken ∷ []) (e.inbox ++ gained) rs) (sym none) (none_left closing b (past ++ broken ∷ []) (e.inbox ++ gained) awaits made behind_all)
    by_left (inr all) =
        let f : FailsOn h s i leg t tried = fails_on h s i leg d.before e.seen e.line now received frames refusal tried d.made has d.faithful x.after cut i_tried in
        subst (λ (rs : List InboxRecord). IsOver closing b (past ++ broken ∷ []) (e.inbox ++ gained) rs) (sym all) (record {
          done = past;
          last = Some (failed_leg leg t f.calls tried);
          legs_are = refl;
          made = d.behind;
          waits = f.is;
          timely = made.timely;
          grows = subst (λ (rs : List InboxRecord). IsPrefix b.inbox rs) behind_all (life_behind h b (past ++ broken ∷ []) awaits made).grows;
          inbox_is = is;
          refused_are = refl;
        })
