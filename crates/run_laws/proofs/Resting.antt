-- Two ends that were at rest where their last runs left them.
use Rattle.std.proofs.Common.{◌≡◌, ◌≤◌, ◌+◌, inl, true, List, [], ◌∷◌, ◌++◌, length, None, refl, sym, ap, subst, ◌∙◌, inr}
use Rattle.std.specs.List.{AllZip}
use Rattle.session_model.specs.Journal.{History}
use Rattle.session_model.specs.Inbox.{InboxRecord, next_number}
use Rattle.fixp_msgs.specs.declared.flow.Flow.{Flow}
use Rattle.fixp_shake.specs.Flows.{is_sequenced}
use Rattle.fixp_shake.specs.declared.config.EndConfig.{EndConfig}
use Rattle.fixp_shake.specs.declared.config.Role.TheVariants.{Initiator, Acceptor}
use Rattle.fixp_replies.specs.Facts.{finishes_exchanged}
use Rattle.fixp_machine.specs.Machine.{State, around}
use Rattle.conn_turns.specs.Lines.{Line}
use Rattle.turn_laws.specs.Legs.{TurnedLeg, first_line}
use Rattle.jr_dated.specs.declared.journal.Journal.{Ghosts}
use Rattle.cmd_config.specs.declared.configuration.Link.{Link}
use Rattle.cmd_session.specs.Inputs.{end_of}
use Rattle.cmd_feed.specs.Outsides.{FeedSees}
use Rattle.honest_ends.specs.Resting.{IsIdle}
use Rattle.honest_turns.specs.Links.{OverOneLink}
use Rattle.honest_turns.specs.Sides.{Side, inbox_behind, MakesTurns, AreAtRest}
use Rattle.honest_turns.specs.Sides as at_turns
use Rattle.honest_turns.specs.Lives.{InTime, no_more, initiator_alone, acceptor_alone, paired, End, side_of, end_behind, AgreeAt}
use Rattle.honest_turns.proofs.Connecting.{behind_last}
use Rattle.honest_turns.proofs.Resting.{kept, rest_holds}
use Rattle.run_laws.specs.TimedRuns.{Served, Matching, EndRan, lives, legs_of}
use Rattle.run_laws.specs.TimedLaws.{HasWhole, AreLinked}
use Rattle.run_laws.specs.Resting.{MeetLast, WereQuiet, WereOver, RestIsWhole}
use Rattle.run_laws.proofs.Counting.{SameLink, in_time_so}
use Rattle.run_laws.proofs.Paths.{Path, both_hold}
use Rattle.run_laws.proofs.Leaving.{LedTo, EndsIn, LeavesAt, Before, split, same_outbox, same_next, same_peer, turns_same}
use Rattle.run_laws.proofs.TimedChaining.{Found, Way}
use Rattle.run_laws.proofs.TimedHolding.{unlived, starts, way_i, way_a, runs_hold_so, whole}

in_time_append : (ts us : List TurnedLeg) (t u : TurnedLeg) → InTime ts us → OverOneLink t u → InTime (ts ++ t ∷ []) (us ++ u ∷ [])
in_time_append [] [] t u no_more l = paired l no_more
in_time_append (x ∷ ts) us t u (initiator_alone none rest) l = initiator_alone none (in_time_append ts us t u rest l)
in_time_append ts (y ∷ us) t u (acceptor_alone none rest) l = acceptor_alone none (in_time_append ts us t u rest l)
in_time_append (x ∷ ts) (y ∷ us) t u (paired link rest) l = paired link (in_time_append ts us t u rest l)

-- the legs of a way, up to its last one
record Front (ts : List TurnedLeg) (t : TurnedLeg) (us : List TurnedLeg) : Type 0 where
  front : List TurnedLeg
  last : TurnedLeg
  are : us ≡ front ++ last ∷ []
  links : AllZip SameLink ts front
  link : SameLink t last

front_of : (ts : List TurnedLeg) (t : TurnedLeg) (us : List TurnedLeg) → AllZip SameLink (ts ++ t ∷ []) us → Front ts t us
front_of [] t [] k = absurd k
front_of [] t (u ∷ []) k = record { front = []; last = u; are = refl; links = tt; link = k.0 }
front_of [] t (u ∷ v ∷ us) k = absurd (k.1)
front_of (x ∷ ts) t [] k = absurd k
front_of (x ∷ ts) t (u ∷ us) k =
    let f = front_of ts t us k.1 in
    record { front = u ∷ f.front; last = f.last; are = ap (λ (vs : List TurnedLeg). u ∷ vs) f.are; links = (k.0, f.links); link = f.link }

-- how an end came to its last connection
record Came (P : End → TurnedLeg → Type 0) (e f : End) (ts : List TurnedLeg) (t : TurnedLeg) : Type 0 where
  legs : List TurnedLeg
  links : AllZip SameLink ts legs
  before : Before P e f legs t

came : (P : End → TurnedLeg → Type 0) (h : History) (i : List InboxRecord) (config : EndConfig) (served : List Served) (e : End) (w : Way h i config served e) (ts : List TurnedLeg) (t : TurnedLeg)
    → legs_of served ≡ ts ++ t ∷ [] → t.cut ≡ None → LeavesAt P e w.behind w.legs w.path → Came P e w.behind ts t
came P h i config served e w ts t are whole left =
    let f = front_of ts t w.legs (subst (λ (us : List TurnedLeg). AllZip SameLink us w.legs) are w.links) in
    let same : f.last ≡ t = f.link.whole whole in
    record {
      legs = f.front;
      links = f.links;
      before = split P e w.behind w.legs w.path f.front t (f.are ∙ ap (λ (u : TurnedLeg). f.front ++ u ∷ []) same) left;
    }

-- what the inbox of a reader awaits behind its last connection, which may have been followed by new lives without connections
awaits_whole : (flow : Flow) (h : History) (i : List InboxRecord) (config : EndConfig) (mid behind : End) (t : TurnedLeg) (writer : History) → (m : MakesTurns (side_of mid t))
    → mid.state.facts.recorded.sent ≤ length mid.outbox.made → Path (end_behind mid t) [] behind → Found h config behind h i → config.peer_flow ≡ flow
    → (is_sequenced mid.state.config.peer_flow ≡ true → next_number (inbox_behind (side_of mid t)) ≡ length writer.made + 1)
    → is_sequenced flow ≡ true → next_number i ≡ length writer.made + 1
awaits_whole flow h i config mid behind t writer m enough path found peer has numbered =
    let k = kept (side_of mid t) m enough in
    let same : config.peer_flow ≡ mid.state.config.peer_flow =
    sym found.config_is.peer ∙ (same_peer (end_behind mid t) behind path ∙ ap (λ (c : EndConfig). c.peer_flow) k.flow) in
    found.next
    ∙ (same_next (end_behind mid t) behind path
    ∙ (k.awaits ∙ has (ap is_sequenced (sym same) ∙ (ap is_sequenced peer ∙ numbered))))

-- the line on which the whole turns of a side end, by what is known of it
line_led : (e : End) (t : TurnedLeg) (m : MakesTurns (side_of e t)) (x : Line) → LedTo e t x → x ≡ m.turns.last
line_led e t m x l = turns_same l.before l.after m.turns.before m.turns.after (first_line t.per_turn e.state t.moment) x m.turns.last t.turns l.turns m.turns.turns

machine_led : (e : End) (t : TurnedLeg) (m : MakesTurns (side_of e t)) (s : State) → e.state.facts.recorded.sent ≤ length e.outbox.made → t.cut ≡ None → EndsIn s e t → m.turns.last.machine ≡ s
machine_led e t m s enough whole (inl l) = ap (λ (z : Line). z.machine) (sym (line_led e t m l.0 l.1)) ∙ l.2
machine_led e t m s enough whole (inr is) = sym (behind_last (side_of e t) m enough whole) ∙ is

over_so : (x s : State) → x ≡ s → finishes_exchanged (around s 0 0) s.facts ≡ true → finishes_exchanged (around x 0 0) x.facts ≡ true
over_so x s is e = ap (λ (z : State). finishes_exchanged (around z 0 0) z.facts) is ∙ e

module _ {S I K A D N C J : Type 0} (G : Ghosts J) (told : G.tells) (sees : FeedSees S I K A D N C) (li la : Link) (i : EndRan G sees Initiator li) (a : EndRan G sees Acceptor la) (matches : Matching li la)
    (m : MeetLast (lives G sees Initiator li i) (lives G sees Acceptor la a)) where
  abbrev lives_i : List Served
  lives_i = lives G sees Initiator li i

  abbrev lives_a : List Served
  lives_a = lives G sees Acceptor la a

  l : AreLinked G sees li la i a
  l = record {
    matches = matches;
    in_time = subst (λ (ts : List TurnedLeg). InTime ts (legs_of lives_a)) (sym m.legs_i)
        (subst (λ (us : List TurnedLeg). InTime (m.before_i ++ m.last_i ∷ []) us) (sym m.legs_a) (in_time_append m.before_i m.before_a m.last_i m.last_a m.before m.link));
  }

  abbrev from_i : End
  from_i = unlived G sees Initiator li i

  abbrev from_a : End
  from_a = unlived G sees Acceptor la a

  x : Way i.outbox i.inbox (end_of Initiator li) lives_i from_i
  x = way_i G told sees li la i a l

  y : Way a.outbox a.inbox (end_of Acceptor la) lives_a from_a
  y = way_a G told sees li la i a l

  module _ (P Q : End → TurnedLeg → Type 0) (left_i : LeavesAt P from_i x.behind x.legs x.path) (left_a : LeavesAt Q from_a y.behind y.legs y.path) where
    b : Came P from_i x.behind m.before_i m.last_i
    b = came P i.outbox i.inbox (end_of Initiator li) lives_i from_i x m.before_i m.last_i m.legs_i m.whole_i left_i

    c : Came Q from_a y.behind m.before_a m.last_a
    c = came Q a.outbox a.inbox (end_of Acceptor la) lives_a from_a y m.before_a m.last_a m.legs_a m.whole_a left_a

    abbrev mid_i : End
    mid_i = b.before.mid

    abbrev mid_a : End
    mid_a = c.before.mid

    agree : AgreeAt mid_i mid_a
    agree = (both_hold from_i mid_i b.legs b.before.path from_a mid_a c.legs c.before.path (in_time_so m.before_i m.before_a b.legs c.legs m.before b.links c.links) (starts G told sees li la i a l)).agree

    outbox_i : mid_i.outbox ≡ i.outbox
    outbox_i = same_outbox from_i mid_i b.legs b.before.path

    outbox_a : mid_a.outbox ≡ a.outbox
    outbox_a = same_outbox from_a mid_a c.legs c.before.path

    abbrev AtRest : Type 0
    AtRest = AreAtRest (side_of mid_i m.last_i) (side_of mid_a m.last_a) b.before.makes.turns.last c.before.makes.turns.last

    has : AtRest → at_turns.HasWhole mid_a.outbox.made (side_of mid_i m.last_i) × at_turns.HasWhole mid_i.outbox.made (side_of mid_a m.last_a)
    has rest = rest_holds (side_of mid_i m.last_i) (side_of mid_a m.last_a) b.before.makes c.before.makes m.link agree.agree m.whole_i m.whole_a rest

    next_i : AtRest → is_sequenced la.server_flow ≡ true → next_number i.inbox ≡ length a.outbox.made + 1
    next_i rest = awaits_whole la.server_flow i.outbox i.inbox (end_of Initiator li) mid_i x.behind m.last_i a.outbox b.before.makes agree.agree.outward.sent b.before.rest x.found (sym matches.server)
        (λ numbered. (has rest).0 numbered ∙ ap (λ (h : History). length h.made + 1) outbox_a)

    next_a : AtRest → is_sequenced li.client_flow ≡ true → next_number a.inbox ≡ length i.outbox.made + 1
    next_a rest = awaits_whole li.client_flow a.outbox a.inbox (end_of Acceptor la) mid_a y.behind m.last_a i.outbox c.before.makes agree.agree.homeward.sent c.before.rest y.found matches.client
        (λ numbered. (has rest).1 numbered ∙ ap (λ (h : History). length h.made + 1) outbox_i)

    both_whole : AtRest → HasWhole li.client_flow i.outbox a.inbox × HasWhole la.server_flow a.outbox i.inbox
    both_whole rest =
        let holds = runs_hold_so G told sees li la i a l in
        (whole li.client_flow i.outbox a.inbox (next_a rest) holds.0, whole la.server_flow a.outbox i.inbox (next_i rest) holds.1)

  quiet : WereQuiet i.outbox a.outbox lives_i lives_a m → HasWhole li.client_flow i.outbox a.inbox × HasWhole la.server_flow a.outbox i.inbox
  quiet q =
      let P : End → TurnedLeg → Type 0 = λ f t. LedTo f t q.line_i in
      let Q : End → TurnedLeg → Type 0 = λ f t. LedTo f t q.line_a in
      let left_i = x.left q.line_i q.left_i in
      let left_a = y.left q.line_a q.left_a in
      let bi = b P Q left_i left_a in
      let ca = c P Q left_i left_a in
      both_whole P Q left_i left_a (subst (λ (z : Line). AreAtRest (side_of bi.before.mid m.last_i) (side_of ca.before.mid m.last_a) z ca.before.makes.turns.last) (line_led bi.before.mid m.last_i bi.before.makes q.line_i bi.before.led)
      (subst (λ (z : Line). AreAtRest (side_of bi.before.mid m.last_i) (side_of ca.before.mid m.last_a) q.line_i z) (line_led ca.before.mid m.last_a ca.before.makes q.line_a ca.before.led) (inl (record {
        initiator = subst (λ (h : History). IsIdle h.made q.line_i.machine) (sym (outbox_i P Q left_i left_a)) q.initiator;
        acceptor = subst (λ (h : History). IsIdle h.made q.line_a.machine) (sym (outbox_a P Q left_i left_a)) q.acceptor;
        outward = q.outward;
        homeward = q.homeward;
      }))))

  over : WereOver lives_i lives_a → HasWhole li.client_flow i.outbox a.inbox × HasWhole la.server_flow a.outbox i.inbox
  over o =
      let P : End → TurnedLeg → Type 0 = EndsIn o.machine_i in
      let Q : End → TurnedLeg → Type 0 = EndsIn o.machine_a in
      let left_i = x.over o.machine_i o.left_i in
      let left_a = y.over o.machine_a o.left_a in
      let bi = b P Q left_i left_a in
      let ca = c P Q left_i left_a in
      let know = agree P Q left_i left_a in
      both_whole P Q left_i left_a (inr (record {
        initiator = over_so bi.before.makes.turns.last.machine o.machine_i (machine_led bi.before.mid m.last_i bi.before.makes o.machine_i know.agree.outward.sent m.whole_i bi.before.led) o.initiator;
        acceptor = over_so ca.before.makes.turns.last.machine o.machine_a (machine_led ca.before.mid m.last_a ca.before.makes o.machine_a know.agree.homeward.sent m.whole_a ca.before.led) o.acceptor;
      }))

pub rest_is_whole : {S I K A D N C J : Type 0} (G : Ghosts J) (sees : FeedSees S I K A D N C) → RestIsWhole G sees
rest_is_whole G sees told li la i a matches m (inl q) = quiet G told sees li la i a matches m q
rest_is_whole G sees told li la i a matches m (inr o) = over G told sees li la i a matches m o
