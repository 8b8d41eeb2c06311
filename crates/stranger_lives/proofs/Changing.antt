-- Connections of strangers, one behind another, in a served life.
use Rattle.std.proofs.Common.{◌≡◌, ◌≤◌, ℕ, List, [], ◌∷◌, ◌++◌, length, take, drop, Option, Some, None, refl, sym, ap, subst, ◌∙◌, append-nil}
use Rattle.std.specs.Prelude.{option_to_list}
use Rattle.std.specs.List.{AllByRecursion, flat_map}
use Rattle.session_model.specs.Journal.{Entry, History}
use Rattle.session_model.specs.Inbox.{InboxRecord, Numbered, next_number}
use Rattle.session_model.proofs.Lists.{all_append, drop_length}
use Rattle.std.proofs.lemmas.Grind.{flat_map-append}
use Rattle.fixp_shake.specs.declared.config.EndConfig.{EndConfig}
use Rattle.fixp_replies.specs.declared.act.Act.{Act}
use Rattle.fixp_replies.specs.declared.act.Act.TheVariants as acts
use Rattle.fixp_replies.specs.Incoming.{Incoming}
use Rattle.fixp_machine.specs.Machine.{State, Call}
use Rattle.fixp_machine.specs.Accepting.{records_of}
use Rattle.jr_dated.specs.declared.journal.Journal.{Ghosts}
use Rattle.jr_kept.specs.declared.inbox.Inbox.{Inbox}
use Rattle.conn_turns.specs.declared.news.NewsItem.{NewsItem}
use Rattle.conn_turns.specs.declared.answer.TurnFault.{TurnFault}
use Rattle.conn_turns.specs.declared.answer.TurnFault.TheVariants as faults
use Rattle.conn_turns.specs.Lines.{Line, TakenFrame, reply_at, ready_behind, lines_after}
use Rattle.conn_turns.specs.Frames.{added, told, applies, delivers}
use Rattle.conn_turns.specs.News.{told_by, delivered_in}
use Rattle.conn_turns.specs.Refusals.{stood_of, wanted_of, told_of}
use Rattle.conn_turns.specs.Turns.{Turn, Refusal, of_act, of_held, cut_short, calls_of}
use Rattle.conn_turns.proofs.Delivering.{delivered_append, applied_payloads, frames_deliver_applied}
use Rattle.conn_steps.specs.Taking.{refused_by}
use Rattle.connection_laws.specs.Courses.{Course, inbox_of, beginning, course_after}
use Rattle.connection_laws.specs.Standing.{Stands}
use Rattle.connection_laws.proofs.Continuing.{calls_go_on}
use Rattle.connection_laws.proofs.Going.{calls_keep, connection_begins}
use Rattle.turn_laws.specs.Standing.{Has}
use Rattle.turn_laws.specs.Legs.{AreTurns, TurnedLeg, cut_leg, AreTurnsOf, given_in, calls_on, given_on, first_line, course_on}
use Rattle.turn_laws.specs.Lives.{inbox_after}
use Rattle.turn_laws.specs.Turns.{line_received, IsCutShort, adds_in, adds_cut, tells_in}
use Rattle.turn_laws.proofs.Adding.{cut_adds}
use Rattle.turn_laws.proofs.Going.{after_append}
use Rattle.turn_laws.proofs.Running.{leg_stands}
use Rattle.stranger_laws.specs.Opening.{IsKeyless}
use Rattle.stranger_laws.proofs.Deaf.{keyless_turns}
use Rattle.conn_serve.specs.Answering.{messages_of}
use Rattle.conn_serve.specs.Connections.{Connection, IsFaithfulLeg, turned, all_of, IsConnection, HasEnded, AllEnded}
use Rattle.conn_serve.specs.Served.{WasGivenUp}
use Rattle.conn_serve.proofs.Following.{PlainTurns, PlainCut, PlainCutAt, PlainConnection, plain}
use Rattle.conn_serve.proofs.Upto.{messages_on, turn_delivers}
use Rattle.life_laws.proofs.Turned.{has_before, IsTurnedOne, connection_turned}
use Rattle.life_laws.proofs.Behind.{AreBehind, seen_over_all, seen_behind, last_faithful, life_behind}
use Rattle.stranger_lives.specs.Lives.{ChangesNothing, Strangers, StrangersChangeNothing}

-- ---- what was delivered is what was added

turns_deliver : (before after : History) (old new : Line) (ts : List Turn) (news : List NewsItem) (adds : List InboxRecord) → PlainTurns before after old new ts news adds → delivered_in news ≡ messages_of adds
turns_deliver before after old new [] news adds w = ap delivered_in w.2 ∙ sym (ap messages_of w.3)
turns_deliver before after old new (t ∷ later) news adds w =
    ap delivered_in w.6
    ∙ (delivered_append (tells_in old t) w.4
    ∙ (ap (λ (ps : List (List ℕ)). ps ++ delivered_in w.4) (turn_delivers old t)
    ∙ (ap (λ (ps : List (List ℕ)). messages_of (adds_in old t) ++ ps) (turns_deliver w.2 after w.1 new later w.4 w.5 w.8)
    ∙ (messages_on [] (adds_in old t) w.5 ∙ ap messages_of (sym w.7)))))

by_act : (act : Act) (i : Incoming) → delivered_in (told_by act i) ≡ messages_of (records_of act i)
by_act acts.Nothing i = refl
by_act (acts.Apply number) i = refl
by_act (acts.Skip from count) i = refl
by_act acts.Negotiated i = refl
by_act (acts.PeerFinished last) i = refl
by_act (acts.Told from count) i = refl
by_act acts.Ended i = refl

by_helds : (ms : List Numbered) → delivered_in (delivers ms) ≡ messages_of (applies ms)
by_helds [] = refl
by_helds (m ∷ ms) = ap (λ (ps : List (List ℕ)). m.payload ∷ ps) (by_helds ms)

refusal_delivers : (now : ℕ) (l : Line) (r : Option Refusal) → delivered_in (told_of now l r) ≡ messages_of (stood_of now l r)
refusal_delivers now l None = refl
refusal_delivers now l (Some (of_act t)) = refl
refusal_delivers now l (Some (of_held t m)) =
    let act : Act = (reply_at now l t).act in
    let ms : List Numbered = take t.helds (ready_behind now l t) in
    delivered_append (told_by act t.incoming) (delivers ms)
    ∙ (ap (λ (ps : List (List ℕ)). ps ++ delivered_in (delivers ms)) (by_act act t.incoming)
    ∙ (ap (λ (ps : List (List ℕ)). messages_of (records_of act t.incoming) ++ ps) (by_helds ms)
    ∙ sym (applied_payloads (records_of act t.incoming) (applies ms))))

cut_delivers : (now : ℕ) (l : Line) (frames : List TakenFrame) (r : Option Refusal)
    → delivered_in (told now l frames ++ told_of now (lines_after now l frames) r) ≡ messages_of (adds_cut now l frames r)
cut_delivers now l frames r =
    let behind : Line = lines_after now l frames in
    delivered_append (told now l frames) (told_of now behind r)
    ∙ (ap (λ (ps : List (List ℕ)). ps ++ delivered_in (told_of now behind r)) (frames_deliver_applied now l frames)
    ∙ (ap (λ (ps : List (List ℕ)). messages_of (added now l frames) ++ ps) (refusal_delivers now behind r)
    ∙ sym (applied_payloads (added now l frames) (stood_of now behind r))))

cut_part_delivers : (last : Line) (cut : Option Turn) (news : List NewsItem) (adds refused wanted : List InboxRecord) → PlainCut last cut news adds refused wanted → delivered_in news ≡ messages_of adds
cut_part_delivers last None news adds refused wanted k = ap delivered_in k.0 ∙ sym (ap messages_of k.1)
cut_part_delivers last (Some t) news adds refused wanted k =
    ap delivered_in k.news_are ∙ (cut_delivers k.now (line_received last k.now k.received k.cut.got) k.frames k.refusal ∙ ap messages_of (sym k.adds_are))

delivers_added : (before after : History) (m : State) (last : Line) (c : Connection) → PlainConnection before after m last c → delivered_in c.news ≡ messages_of c.adds
delivers_added before after m last c k =
    ap delivered_in k.news
    ∙ (delivered_append k.told k.cut_told
    ∙ (ap (λ (ps : List (List ℕ)). ps ++ delivered_in k.cut_told) (turns_deliver before k.seen (first_line c.leg.per_turn m c.leg.moment) last c.leg.turns k.told k.added k.turns)
    ∙ (ap (λ (ps : List (List ℕ)). messages_of k.added ++ ps) (cut_part_delivers last c.leg.cut k.cut_told k.cut_added c.refused c.wanted k.cut)
    ∙ (messages_on [] k.added k.cut_added ∙ ap messages_of (sym k.adds)))))

-- ---- what a failed call tried

none_first : {A : Type 0} (xs ys : List A) → xs ++ ys ≡ [] → xs ≡ []
none_first [] ys e = refl
none_first (x ∷ xs) ys e = absurd (cc e)

none_second : {A : Type 0} (xs ys : List A) → xs ++ ys ≡ [] → ys ≡ []
none_second [] ys e = e
none_second (x ∷ xs) ys e = absurd (cc e)

none_refused : (f : TurnFault) → refused_by f [] ≡ []
none_refused faults.Link = refl
none_refused faults.Inbox = refl
none_refused faults.Outbox = refl
none_refused (faults.Changed at) = refl
none_refused faults.Broken = refl
none_refused (faults.Full entries bytes) = refl
none_refused faults.Memory = refl

-- a connection that was cut short had it been so behind all the frames that it took, of which a call that failed tried some
tried_none : (h : List Entry) (m : State) (i : List InboxRecord) (last : Line) (c : Connection) (t : Turn) (news : List NewsItem) (adds refused wanted : List InboxRecord)
    → m.facts.recorded.inbox_next ≡ next_number i → m.facts.recorded.sent ≤ length h → IsTurnedOne h m i last c → IsKeyless m.config (given_on c.leg) → c.leg.cut ≡ Some t
    → PlainCutAt last t news adds refused wanted → (refused ≡ []) × (wanted ≡ [])
tried_none h m i last c t news adds refused wanted awaits enough x keyless cut_is p = (
  p.refused_are ∙ (ap (λ (rs : List InboxRecord). refused_by p.fault rs) (none_first p.tried p.is_tried.untried beside) ∙ none_refused p.fault),
  p.wanted_are ∙ none_first (wanted_of p.now (lines_after p.now l p.frames) p.refusal) p.is_tried.first.0 (p.is_tried.first.1 ∙ beside),
)
  where
    l : Line
    l = line_received last p.now p.received p.cut.got

    all : List TakenFrame
    all = p.frames ++ p.is_tried.later

    u : Turn
    u = cut_short p.now p.received all None

    leg : TurnedLeg
    leg = cut_leg c.leg u

    cut : IsCutShort p.now p.received all None last
    cut = record { got = p.cut.got; taken = p.is_tried.taken; is = tt }

    turns : AreTurnsOf h m leg
    turns = record {
      before = x.turns.before;
      after = x.turns.after;
      last = last;
      turns = subst (λ (k : Line). AreTurns x.turns.before x.turns.after (first_line c.leg.per_turn m c.leg.moment) k c.leg.turns) x.line x.turns.turns;
      cut = cut;
      has = x.turns.has;
      faithful = x.turns.faithful;
    }

    given : given_on c.leg ≡ given_on leg
    given =
        flat_map-append given_in c.leg.turns (option_to_list c.leg.cut)
        ∙ (ap (λ (o : Option Turn). flat_map given_in c.leg.turns ++ flat_map given_in (option_to_list o)) (cut_is ∙ ap (λ (v : Turn). Some v) p.is)
        ∙ sym (flat_map-append given_in c.leg.turns (u ∷ [])))

    none : (course_on m i leg).added ≡ []
    none = (keyless_turns h m i leg awaits enough turns (subst (λ (bs : List ℕ). IsKeyless m.config bs) given keyless)).added

    b : Course
    b = course_after (beginning m i c.leg.moment) (flat_map calls_of c.leg.turns)

    joined : course_on m i leg ≡ course_after b (calls_of u)
    joined =
        ap (λ (cs : List Call). course_after (beginning m i c.leg.moment) cs) (flat_map-append calls_of c.leg.turns (u ∷ []))
        ∙ (after_append (beginning m i c.leg.moment) (flat_map calls_of c.leg.turns) (flat_map calls_of (u ∷ []))
        ∙ ap (λ (cs : List Call). course_after b cs) (append-nil (calls_of u)))

    adds_none : added p.now l all ++ [] ≡ []
    adds_none =
        none_second b.added (added p.now l all ++ [])
        (sym (cut_adds h last p.now p.received all None b x.stands cut) ∙ (sym (ap (λ (d : Course). d.added) joined) ∙ none))

    beside : p.tried ++ p.is_tried.untried ≡ []
    beside =
        none_second (added p.now l p.frames ++ stood_of p.now (lines_after p.now l p.frames) p.refusal) (p.tried ++ p.is_tried.untried)
        (sym p.is_tried.adds ∙ (sym (append-nil (added p.now l all)) ∙ adds_none))

-- ---- one connection

connection_changes : (h : List Entry) (before after : History) (m : State) (i : List InboxRecord) (last : Line) (c : Connection) → m.facts.recorded.inbox_next ≡ next_number i → m.facts.recorded.sent ≤ length h
    → IsConnection before after m last c → IsTurnedOne h m i last c → IsKeyless m.config (given_on c.leg) → ChangesNothing c
connection_changes h before after m i last c awaits enough real x keyless =
    record { adds = adds; tried = rest.0; wanted = rest.1; delivered = delivers_added before after m last c k ∙ ap messages_of adds }
  where
    k : PlainConnection before after m last c
    k = plain before after m last c real

    d : Course
    d = course_on m i c.leg

    begun : d.start ≡ i
    begun = (calls_go_on h (beginning m i c.leg.moment) (calls_on c.leg) (leg_stands h m i c.leg awaits enough x.turns)).start

    none : d.added ≡ []
    none = (keyless_turns h m i c.leg awaits enough x.turns keyless).added

    adds : c.adds ≡ []
    adds = sym (drop_length i c.adds)
        ∙ (ap (λ (rs : List InboxRecord). drop (length i) rs) (sym x.adds ∙ (ap (λ (rs : List InboxRecord). rs ++ d.added) begun ∙ ap (λ (rs : List InboxRecord). i ++ rs) none)) ∙ drop_length i [])

    by_cut : (o : Option Turn) → c.leg.cut ≡ o → PlainCut last o k.cut_told k.cut_added c.refused c.wanted → (c.refused ≡ []) × (c.wanted ≡ [])
    by_cut None e p = (p.2, p.3)
    by_cut (Some t) e p = tried_none h m i last c t k.cut_told k.cut_added c.refused c.wanted awaits enough x keyless e p

    rest : (c.refused ≡ []) × (c.wanted ≡ [])
    rest = by_cut c.leg.cut refl k.cut

-- ---- all of them

-- one that ended has left the machine so
ended_state : (h : List Entry) (before after : History) (m new : State) (i : List InboxRecord) (c : Connection) (k : HasEnded before after m new c) → IsTurnedOne h m i k.last c → (course_on m i c.leg).state ≡ new
ended_state h before after m new i c k x =
    let d : Course = course_after (beginning m i c.leg.moment) (flat_map calls_of c.leg.turns) in
    ap (λ (e : Course). e.state) (x.joined ∙ ap (λ (cut : Option Turn). course_after d (flat_map calls_of (option_to_list cut))) k.whole) ∙ (x.stands.machine ∙ sym k.machine)

first_faithful : (cs ds : List Connection) → AllByRecursion IsFaithfulLeg (turned (cs ++ ds)) → AllByRecursion IsFaithfulLeg (turned cs)
first_faithful [] ds all = tt
first_faithful (c ∷ cs) ds all = (all.0, first_faithful cs ds all.1)

ended_change : (cfg : EndConfig) (h : List Entry) (before after : History) (m mid : State) (i : List InboxRecord) (cs : List Connection) → m.config ≡ cfg → m.facts.recorded.inbox_next ≡ next_number i → m.facts.recorded.sent ≤ length h
    → Has h after → AllEnded before after m mid cs → AllByRecursion IsFaithfulLeg (turned cs) → AllByRecursion (λ (c : Connection). IsKeyless cfg (given_on c.leg) → ChangesNothing c) cs × (mid.config ≡ cfg)
ended_change cfg h before after m mid i [] config awaits enough has all faithful = (tt, ap (λ (s : State). s.config) all.0 ∙ config)
ended_change cfg h before after m mid i (c ∷ later) config awaits enough has all faithful =
    let k : HasEnded before all.0 m all.1 c = all.2 in
    let x : IsTurnedOne h m i k.last c = connection_turned h before all.0 m i k.last c awaits enough (has_before h all.0 after has (seen_over_all all.0 after all.1 mid later all.3)) k.is faithful.0 in
    let d : Course = course_on m i c.leg in
    let here : d.state ≡ all.1 = ended_state h before all.0 m all.1 i c k x in
    let may = leg_stands h m i c.leg awaits enough x.turns in
    let st : Stands h d = calls_keep h (beginning m i c.leg.moment) (calls_on c.leg) (connection_begins h m i c.leg.moment awaits enough) may in
    let same : all.1.config ≡ cfg = sym (ap (λ (s : State). s.config) here) ∙ ((calls_go_on h (beginning m i c.leg.moment) (calls_on c.leg) may).config ∙ config) in
    let rest = ended_change cfg h all.0 after all.1 mid (inbox_of d) later same (subst (λ (s : State). s.facts.recorded.inbox_next ≡ next_number (inbox_of d)) here st.agrees.recorded)
    (subst (λ (s : State). s.facts.recorded.sent ≤ length h) here st.own.enough) has all.3 faithful.1 in
    ((λ keyless. connection_changes h before all.0 m i k.last c awaits enough k.is x (subst (λ (e : EndConfig). IsKeyless e (given_on c.leg)) (sym config) keyless), rest.0), rest.1)

module _ {J : Type 0} {G : Ghosts J} where
  pub strangers_change_nothing : (tells : Type 0) (box : Inbox J G) → StrangersChangeNothing tells box
  strangers_change_nothing tells box old new m result h i k t has awaits enough = by_given k.given_up k.gave_up (k.faithful t)
    where
      b : AreBehind h m k.mid i k.ended
      b = life_behind old new m result h i k t has awaits enough

      by_given : (given_up : Option Connection) → WasGivenUp k.behind new.seen k.mid given_up → AllByRecursion IsFaithfulLeg (turned (all_of k.ended given_up)) → Strangers m (all_of k.ended given_up)
      by_given given_up g faithful =
          let ended = ended_change m.config h old.seen k.behind m k.mid i k.ended refl awaits enough (has_before h k.behind new.seen has (seen_behind k.behind new.seen k.mid k.given_up k.gave_up)) k.were
          (first_faithful k.ended (option_to_list given_up) faithful) in
          all_append (λ (c : Connection). IsKeyless m.config (given_on c.leg) → ChangesNothing c) k.ended (option_to_list given_up) ended.0 (by_last given_up g faithful ended.1)
        where
          by_last : (o : Option Connection) → WasGivenUp k.behind new.seen k.mid o → AllByRecursion IsFaithfulLeg (turned (all_of k.ended o)) → k.mid.config ≡ m.config
              → AllByRecursion (λ (c : Connection). IsKeyless m.config (given_on c.leg) → ChangesNothing c) (option_to_list o)
          by_last None g faithful same = tt
          by_last (Some c) g faithful same =
              let box : List InboxRecord = inbox_after m i (turned k.ended) in
              let x : IsTurnedOne h k.mid box g.0 c = connection_turned h k.behind new.seen k.mid box g.0 c b.awaits b.enough has g.1 (last_faithful k.ended c faithful) in
              (λ keyless. connection_changes h k.behind new.seen k.mid box g.0 c b.awaits b.enough g.1 x (subst (λ (e : EndConfig). IsKeyless e (given_on c.leg)) (sym same) keyless), tt)
