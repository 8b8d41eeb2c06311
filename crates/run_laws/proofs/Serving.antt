-- The connections of lives that were served, as sides of the laws over turns.
use Rattle.std.proofs.Common.{◌≡◌, ◌≤◌, Bool, List, [], ◌∷◌, ◌++◌, length, Option, Some, None, IfSome, Result, refl, sym, ap, subst, ◌∙◌}
use Rattle.std.specs.Prelude.{option_to_list}
use Rattle.std.specs.List.{AllByRecursion}
use Rattle.session_model.specs.Journal.{History, BeginsHistory}
use Rattle.session_model.specs.Inbox.{InboxRecord}
use Rattle.session_model.proofs.Lists.{all_first, all_second}
use Rattle.gate_turn.proofs.Histories.{begins_self, begins_on}
use Rattle.fixp_replies.specs.declared.act.Ending.{Ending}
use Rattle.fixp_replies.specs.declared.act.Ending.TheVariants as endings
use Rattle.fixp_machine.specs.Machine.{State}
use Rattle.conn_turns.specs.Lines.{Line}
use Rattle.conn_turns.specs.Turns.{Turn}
use Rattle.turn_laws.specs.Turns.{IsCut}
use Rattle.turn_laws.specs.Made.{TurnAt}
use Rattle.conn_turns.specs.declared.news.NewsItem.{NewsItem}
use Rattle.turn_laws.specs.Legs.{AreTurns, TurnedLeg, IsTimely, first_line}
use Rattle.honest_ends.specs.PhaseLaws.{IsOfTime, EndsBy}
use Rattle.jr_dated.specs.declared.journal.Journal.{Ghosts}
use Rattle.jr_kept.specs.declared.inbox.Inbox.{Inbox}
use Rattle.conn_lines.specs.declared.close.Close.{Close}
use Rattle.conn_lines.specs.declared.close.Close.TheVariants as closes
use Rattle.conn_serve.specs.Connections.{Connection, IsFaithfulLeg, turned, all_of, CutAt, IsConnection, ClosesAs, HasEnded, AllEnded}
use Rattle.conn_door.specs.declared.answer.ServeFault.{ServeFault}
use Rattle.conn_door.specs.declared.answer.LifeEnd.{LifeEnd}
use Rattle.conn_serve.specs.Moments.{LifeAt}
use Rattle.conn_serve.specs.Served.{WasGivenUp, ServedLife}
use Rattle.conn_serve.proofs.Following.{were_are_turns}
use Rattle.honest_turns.specs.Sides.{Side, behind, IsReady, MakesTurns}
use Rattle.honest_turns.specs.Lives.{End, side_of, end_behind, sides, EndInTime}
use Rattle.run_laws.specs.Served.{ClosesInTime, ServedHolds}
use Rattle.honest_turns.proofs.Linking.{all_seen}
use Rattle.honest_turns.proofs.Connecting.{behind_last}
use Rattle.honest_turns.proofs.Resting.{enough_behind}
use Rattle.honest_turns.proofs.Living.{ready_behind, life_holds}

-- the whole turns of a connection
pub turns_of : (before after : History) (m : State) (last : Line) (c : Connection) → (k : IsConnection before after m last c) → AreTurns before k.behind.seen (first_line c.leg.per_turn m c.leg.moment) last c.leg.turns
turns_of before after m last c k =
    subst (λ (h : History). AreTurns h k.behind.seen (first_line c.leg.per_turn m c.leg.moment) last c.leg.turns) k.began.seen_is
    (subst (λ (l : Line). AreTurns c.link.first.seen k.behind.seen l last c.leg.turns) k.began.line
    (subst (λ (l : Line). AreTurns c.link.first.seen k.behind.seen c.link.first.line l c.leg.turns) k.line (were_are_turns c.link.eager c.link.first k.behind c.leg.turns k.told k.added k.turns)))

-- what was seen of the outbox grows over it
seen_over : (before after : History) (m : State) (last : Line) (c : Connection) → IsConnection before after m last c → BeginsHistory before after
seen_over before after m last c k =
    begins_on before k.behind.seen after (all_seen before k.behind.seen (first_line c.leg.per_turn m c.leg.moment) last c.leg.turns (turns_of before after m last c k)) k.grows

pub seen_all : (before after : History) (m new : State) (cs : List Connection) → AllEnded before after m new cs → BeginsHistory before after
seen_all before after m new [] k = subst (λ (h : History). BeginsHistory before h) (sym k.1) (begins_self before)
seen_all before after m new (c ∷ later) k = begins_on before k.0 after (seen_over before k.0 m k.2.last c k.2.is) (seen_all k.0 after k.1 new later k.3)

pub seen_given : (before after : History) (m : State) (c : Option Connection) → WasGivenUp before after m c → BeginsHistory before after
seen_given before after m None k = subst (λ (h : History). BeginsHistory before h) (sym k) (begins_self before)
seen_given before after m (Some c) k = seen_over before after m k.0 c k.1

-- the turn that was cut short, if one was
cut_of : (eager : Bool) (old new : TurnAt) (cut : Option Turn) (news : List NewsItem) (adds refused wanted : List InboxRecord) → CutAt eager old new cut news adds refused wanted → IfSome cut (IsCut old.line)
cut_of eager old new None news adds refused wanted k = tt
cut_of eager old new (Some t) news adds refused wanted k = subst (λ (u : Turn). IsCut old.line u) (sym k.is) k.made.cut

-- a connection is a side
makes_turns : (e : End) (before between : History) (last : Line) (c : Connection) → IsReady e.outbox e.state e.inbox → BeginsHistory between e.outbox → IsTimely c.leg → IsFaithfulLeg c.leg
    → IsConnection before between e.state last c → MakesTurns (side_of e c.leg)
makes_turns e before between last c ready begins timely faithful k =
    let seen : BeginsHistory k.behind.seen e.outbox = begins_on k.behind.seen between e.outbox k.grows begins in
    record {
      ready = ready;
      turns = record {
        before = before;
        after = k.behind.seen;
        last = last;
        turns = turns_of before between e.state last c k;
        cut = subst (λ (l : Line). IfSome c.leg.cut (IsCut l)) k.line (cut_of c.link.eager k.behind c.link.end c.leg.cut k.cut_told k.cut_added c.refused c.wanted k.cut);
        has = record { begins = seen.made; few = ready.entries.few };
        faithful = faithful;
      };
      seen = seen;
      timely = timely;
    }

-- and its turns lead to that line
pub record MadeTo (e : End) (last : Line) (c : Connection) : Type 0 where
  pub makes : MakesTurns (side_of e c.leg)
  pub line : makes.turns.last ≡ last

pub makes_to : (e : End) (before between : History) (last : Line) (c : Connection) → IsReady e.outbox e.state e.inbox → BeginsHistory between e.outbox → IsTimely c.leg → IsFaithfulLeg c.leg
    → IsConnection before between e.state last c → MadeTo e last c
unfolding makes_turns
makes_to e before between last c ready begins timely faithful k = record { makes = makes_turns e before between last c ready begins timely faithful k; line = refl }

-- the connections of a life that ended, from where they begin
pub record EndedOn (e : End) (before after : History) (new : State) (cs : List Connection) : Type 0 where
  ready : IsReady e.outbox e.state e.inbox
  enough : e.state.facts.recorded.sent ≤ length e.outbox.made
  begins : BeginsHistory after e.outbox
  timely : AllByRecursion IsTimely (turned cs)
  faithful : AllByRecursion IsFaithfulLeg (turned cs)
  were : AllEnded before after e.state new cs

-- the first of them, and where the next ones begin
record FirstOn (e : End) (before after : History) (new : State) (c : Connection) (later : List Connection) : Type 0 where
  between : History
  mid : State
  ended : HasEnded before between e.state mid c
  makes : MakesTurns (side_of e c.leg)
  is : mid ≡ behind (side_of e c.leg)
  next : EndedOn (end_behind e c.leg) between after new later

first_on : (e : End) (before after : History) (new : State) (c : Connection) (later : List Connection) → EndedOn e before after new (c ∷ later) → FirstOn e before after new c later
unfolding makes_turns
first_on e before after new c later k =
    let between : History = k.were.0 in
    let mid : State = k.were.1 in
    let h : HasEnded before between e.state mid c = k.were.2 in
    let side : Side = side_of e c.leg in
    let x : MakesTurns side = makes_turns e before between h.last c k.ready (begins_on between after e.outbox (seen_all between after mid new later k.were.3) k.begins) k.timely.0 k.faithful.0 h.is in
    let is : mid ≡ behind side = h.machine ∙ sym (behind_last side x k.enough h.whole) in
    record {
      between = between;
      mid = mid;
      ended = h;
      makes = x;
      is = is;
      next = record {
        ready = ready_behind side x k.enough;
        enough = enough_behind side x k.enough;
        begins = k.begins;
        timely = k.timely.1;
        faithful = k.faithful.1;
        were = subst (λ (m : State). AllEnded between after m new later) is k.were.3;
      };
    }

-- all connections of a life are sides, also the one that was given up
all_make : (e : End) (before after seen : History) (new : State) (cs : List Connection) (given : Option Connection) → EndedOn e before after new cs → BeginsHistory seen e.outbox
    → AllByRecursion IsTimely (turned (option_to_list given)) → AllByRecursion IsFaithfulLeg (turned (option_to_list given)) → WasGivenUp after seen new given → AllByRecursion MakesTurns (sides e (turned (cs ++ option_to_list given)))
all_make e before after seen new [] None k begins timely faithful gave = tt
all_make e before after seen new [] (Some c) k begins timely faithful gave =
    (makes_turns e after seen gave.0 c k.ready begins timely.0 faithful.0 (subst (λ (m : State). IsConnection after seen m gave.0 c) k.were.0 gave.1), tt)
all_make e before after seen new (c ∷ later) given k begins timely faithful gave =
    let x = first_on e before after new c later k in
    (x.makes, all_make (end_behind e c.leg) x.between after seen new later given x.next begins timely faithful gave)

-- how one that ended is told to have ended
closes_so : (e : End) (before between : History) (mid : State) (c : Connection) → HasEnded before between e.state mid c → mid ≡ behind (side_of e c.leg) → EndsBy IsOfTime (behind (side_of e c.leg)) → ClosesInTime c
closes_so e before between mid c k is ends v told = ends v (ap (λ (m : State). m.ending) (sym is) ∙ by_close k.close (sym k.closed ∙ told) k.ending)
  where
    by_close : (close : Close) → Some close ≡ Some (closes.Ended (endings.Violation v)) → ClosesAs close mid.ending → mid.ending ≡ Some (endings.Violation v)
    by_close (closes.Ended x) e how = let same : x ≡ endings.Violation v = cc e in how ∙ ap (λ (y : Ending). Some y) same
    by_close closes.LinkFault e how = absurd (cc e)

pub all_close : (e : End) (before after : History) (new : State) (cs : List Connection) (given : List TurnedLeg) → EndedOn e before after new cs
    → EndInTime (sides e (turned cs ++ given)) → AllByRecursion ClosesInTime cs
all_close e before after new [] given k ends = tt
all_close e before after new (c ∷ later) given k ends =
    let x = first_on e before after new c later k in
    (closes_so e before x.between x.mid c x.ended x.is ends.0, all_close (end_behind e c.leg) x.between after new later given x.next ends.1)

pub turned_append : (cs more : List Connection) → turned (cs ++ more) ≡ turned cs ++ turned more
turned_append [] more = refl
turned_append (c ∷ cs) more = ap (λ (ts : List TurnedLeg). c.leg ∷ ts) (turned_append cs more)

module _ {J : Type 0} {G : Ghosts J} where
  -- of a served life
  pub record ServedAs (old new : LifeAt J G) (e : End) (ended : List Connection) (given : Option Connection) : Type 0 where
    pub behind : History
    pub mid : State
    pub on : EndedOn e old.seen behind mid ended
    pub makes : AllByRecursion MakesTurns (sides e (turned (all_of ended given)))

  pub served_as : {tells : Type 0} (old new : LifeAt J G) (e : End) (result : Result LifeEnd ServeFault) → (k : ServedLife tells old new e.state result) → tells → IsReady e.outbox e.state e.inbox
      → e.state.facts.recorded.sent ≤ length e.outbox.made → BeginsHistory new.seen e.outbox → ServedAs old new e k.ended k.given_up
  served_as old new e result k t ready enough begins =
      let later : List TurnedLeg = turned (option_to_list k.given_up) in
      let timely : AllByRecursion IsTimely (turned k.ended ++ later) = subst (λ (ts : List TurnedLeg). AllByRecursion IsTimely ts) (turned_append k.ended (option_to_list k.given_up)) k.timely in
      let faithful : AllByRecursion IsFaithfulLeg (turned k.ended ++ later) = subst (λ (ts : List TurnedLeg). AllByRecursion IsFaithfulLeg ts) (turned_append k.ended (option_to_list k.given_up)) (k.faithful t) in
      let on : EndedOn e old.seen k.behind k.mid k.ended =
      record {
        ready = ready;
        enough = enough;
        begins = begins_on k.behind new.seen e.outbox (seen_given k.behind new.seen k.mid k.given_up k.gave_up) begins;
        timely = all_first IsTimely (turned k.ended) later timely;
        faithful = all_first IsFaithfulLeg (turned k.ended) later faithful;
        were = k.were;
      } in
      record {
        behind = k.behind;
        mid = k.mid;
        on = on;
        makes = all_make e old.seen k.behind new.seen k.mid k.ended k.given_up on begins (all_second IsTimely (turned k.ended) later timely) (all_second IsFaithfulLeg (turned k.ended) later faithful) k.gave_up;
      }

  pub served_holds : (tells : Type 0) (box : Inbox J G) → ServedHolds tells box
  served_holds tells box old_i new_i old_a new_a i a result_i result_a k_i k_a t begins_i begins_a agree link =
      let x = served_as old_i new_i i result_i k_i t agree.initiator agree.agree.outward.sent begins_i in
      let y = served_as old_a new_a a result_a k_a t agree.acceptor agree.agree.homeward.sent begins_a in
      let holds = life_holds i a (turned (all_of k_i.ended k_i.given_up)) (turned (all_of k_a.ended k_a.given_up)) agree x.makes y.makes link in (
        all_close i old_i.seen x.behind x.mid k_i.ended (turned (option_to_list k_i.given_up)) x.on
            (subst (λ (ts : List TurnedLeg). EndInTime (sides i ts)) (turned_append k_i.ended (option_to_list k_i.given_up)) holds.0),
        all_close a old_a.seen y.behind y.mid k_a.ended (turned (option_to_list k_a.given_up)) y.on
            (subst (λ (ts : List TurnedLeg). EndInTime (sides a ts)) (turned_append k_a.ended (option_to_list k_a.given_up)) holds.1),
        holds.2,
      )
