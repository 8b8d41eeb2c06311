-- What is known of an end over the connections that it had, behind each of its calls.
use Rattle.std.proofs.Common.{◌≡◌, inl, inr, ◌+◌, ◌≤◌, ◌^◌, ℕ, false, Bool, List, [], ◌∷◌, ◌++◌, length, Option, Some, None, refl, sym, ap, subst, ◌∙◌, append-nil, arith, true≢false}
use Rattle.std.specs.Prelude.{◌⊎◌}
use Rattle.gw_links.specs.Links.{LinkTold, Carried, Steps}
use Rattle.session_model.specs.Journal.{Entry, History, BeginsHistory, OutboxRecord, entries}
use Rattle.session_model.specs.Inbox.{InboxRecord, next_number}
use Rattle.session_model.proofs.Lists.{prefix_length, prefix_trans}
use Rattle.jr_boxes.specs.Outboxes.{outbox_of}
use Rattle.gate_senders.specs.Gate.{opening_of}
use Rattle.fixp_machine.specs.Machine.{State, fresh}
use Rattle.fixp_shake.specs.declared.config.EndConfig.{EndConfig}
use Rattle.jr_kept.specs.Inbox.{HoldsBox, SameContent, next_of}
use Rattle.gate_turn.specs.Places.{known}
use Rattle.gate_turn.specs.Views.{Part}
use Rattle.gate_turn.proofs.Histories.{begins_on}
use Rattle.connection_laws.specs.Ranges.{IsInTime, IsInRange}
use Rattle.conn_turns.specs.Lines.{Line}
use Rattle.conn_turns.specs.Turns.{Turn, cut_short}
use Rattle.conn_turns.specs.declared.answer.TurnFault.{TurnFault}
use Rattle.conn_steps.specs.Taking.{refused_by}
use Rattle.conn_steps.proofs.Either.{either_box}
use Rattle.conn_turns.specs.declared.news.NewsItem.{NewsItem}
use Rattle.conn_loop.specs.Conn.{line_of, line_begun, line_cut, Looks}
use Rattle.conn_loop.specs.Live.{live_end}
use Rattle.turn_laws.specs.Standing.{Has}
use Rattle.turn_laws.specs.Legs.{AreTurns, TurnedLeg, first_line, given_in, sent_in}
use Rattle.turn_laws.specs.Turns.{line_received, adds_in, adds_cut}
use Rattle.turn_laws.proofs.Tailing.{left_is}
use Rattle.two_ends.specs.Driving.{EndNow, Beginning, Awaits, machine_behind, begun_leg, with_turn, Between, During}
use Rattle.turn_laws.specs.Legs.{cut_leg}
use Rattle.two_ends.specs.Stories.{IsOver}
use Rattle.two_ends.proofs.Going.{leg_begins, turn_goes_on, leg_ends, cut_ends, life_ends, life_fails}
use Rattle.two_ends.proofs.Moving.{turn_carries}
use Rattle.gw_rehearse.specs.declared.end.DrivenEnd.{DrivenEnd}
use Rattle.gw_rehearse.specs.declared.standing.Standing.{Standing}
use Rattle.gw_rehearse.specs.declared.standing.Standing.TheVariants as standings
use Rattle.gw_rehearse.specs.Standing.{is_given, is_failed, WasMade}
use Rattle.gw_rehearse.specs.Driven.{now_of, IsMadeOf, OpensWith, StandsBehind, RunsOver, TurnedOn, BeginsOn, IsEnded, IsAnswered}
use Rattle.gw_rehearse.proofs.Outboxes.{entries-outbox_of}

-- one that does not go on, did not fail and was not given up is over
pub not_open : (s : Standing) → (s ≡ standings.Open → ⊥) → is_given s ≡ false → is_failed s ≡ false → s ≡ standings.Over
not_open standings.Over unopened sound whole = refl
not_open standings.Open unopened sound whole = absurd (unopened refl)
not_open standings.Failed unopened sound whole = absurd (true≢false whole)
not_open standings.GivenUp unopened sound whole = absurd (true≢false sound)

-- one stands in one way
apart : (s : Standing) → s ≡ standings.Open → s ≡ standings.Over → ⊥
apart s is not = cc

unfailed : (s : Standing) → is_failed s ≡ false → s ≡ standings.Failed → ⊥
unfailed s whole failed = true≢false (sym (ap is_failed failed) ∙ whole)

-- of one that did not fail nothing was refused
pub holds_whole : (b : Beginning) (past : List TurnedLeg) (leg : TurnedLeg) (e : DrivenEnd) → (k : RunsOver b past leg e) → is_failed e.standing ≡ false → HoldsBox e.inbox k.inbox []
holds_whole b past leg e k whole = subst (λ (rs : List InboxRecord). HoldsBox e.inbox k.inbox rs) (k.whole whole).0 k.holds

-- an end with the same gate opened on the same outbox
pub opens_same : (b : Beginning) (e e' : DrivenEnd) → e'.gate ≡ e.gate → OpensWith b e → OpensWith b e'
opens_same b e e' gate is = is ∙ sym (ap (λ g. outbox_of (opening_of g).history) gate)

-- a connection begins where all before are over
pub begun : (b : Beginning) (legs : List TurnedLeg) (e e' : DrivenEnd) (now : ℕ) → e'.gate ≡ e.gate → IsInTime now → e'.standing ≡ standings.Open → line_of e'.conn ≡ line_begun (line_of e.conn) now
    → known e'.pass ≡ known e.pass → e'.inbox ≡ e.inbox → StandsBehind b legs e → (at : ℕ) × RunsOver b legs (begun_leg (line_of e.conn).per_turn at) e'
begun b legs e e' now gate time going line pass box k =
    let at : During b legs (begun_leg (line_of e.conn).per_turn now) (record { line = line_begun (line_of e.conn) now; seen = (known e.pass).seen; inbox = k.inbox }) = leg_begins b legs (now_of e k.inbox) now k.between time in (
      now,
      record {
        opens = opens_same b e e' gate k.opens;
        inbox = k.inbox;
        refused = [];
        whole = λ _. (refl, refl);
        holds = subst (λ x. HoldsBox x k.inbox []) (sym box) k.holds;
        during = λ _. subst (λ (l : Line). During b legs (begun_leg (line_of e.conn).per_turn now) (record { line = l; seen = (known e'.pass).seen; inbox = k.inbox })) (sym line)
            (subst (λ (p : Part). During b legs (begun_leg (line_of e.conn).per_turn now) (record { line = line_begun (line_of e.conn) now; seen = p.seen; inbox = k.inbox })) (sym pass) at);
        between = λ over. absurd (apart e'.standing going over);
        failed = λ failed. absurd (unfailed e'.standing (ap is_failed going) failed);
      },
    )

module _ (b : Beginning) (past : List TurnedLeg) (leg : TurnedLeg) (e e' : DrivenEnd) (risen : Type 0) (eager : Bool) (before after : ℕ) (told told' : Option LinkTold) (carried carried' : Option Carried) (news : List NewsItem) (awaits : Awaits b)
    (gate : e'.gate ≡ e.gate) (going : e.standing ≡ standings.Open) (unended : (line_of e.conn).machine.ending ≡ None) (looks : Looks (known e.pass) (known e'.pass)) (k : RunsOver b past leg e) where
  -- the turn, by where it left the end
  abbrev pub Made : Standing → Type 0
  Made s = WasMade s risen eager before after (live_end told carried (known e.pass).seen (line_of e.conn) e.inbox []) (live_end told' carried' (known e'.pass).seen (line_of e'.conn) e'.inbox news)

  uncut : leg.cut ≡ None
  uncut = (k.whole (ap is_failed going)).1

  -- it goes on by a whole one
  whole_turned : is_failed e'.standing ≡ false → Made standings.Open → TurnedOn b past leg e' told told'
  whole_turned whole made =
      let w = made.0 in
      let inbox : List InboxRecord = k.inbox ++ adds_in (line_of e.conn) w.turn in
      let later : TurnedLeg = with_turn leg w.turn in
      let at : During b past later (now_of e' inbox) = turn_goes_on b past leg (now_of e k.inbox) (now_of e' inbox) w.turn awaits (k.during going) unended looks.seen.made w.made.is (w.faithful tt) w.timely refl in
      record {
        later = later;
        given = given_in w.turn;
        sent = sent_in w.turn;
        carries = (turn_carries leg w.turn uncut).0;
        moved = w.made.moved.tells;
        runs = record {
          opens = opens_same b e e' gate k.opens;
          inbox = inbox;
          refused = [];
          holds = w.gains.holds k.inbox (holds_whole b past leg e k (ap is_failed going));
          whole = λ _. (refl, uncut);
          during = λ _. at;
          between = λ _. leg_ends b past later (now_of e' inbox) awaits at;
          failed = λ failed. absurd (unfailed e'.standing whole failed);
        };
      }

  -- or its life is over, as a call of a disk failed
  cut_turned : e'.standing ≡ standings.Failed → Made standings.Failed → TurnedOn b past leg e' told told'
  cut_turned failed made =
      let fault : TurnFault = made.0 in
      let w = made.1 in
      let later : TurnedLeg = cut_leg leg (cut_short w.now w.received w.frames w.refusal) in
      let gained : List InboxRecord = adds_cut w.now (line_received (line_of e.conn) w.now w.received w.made.cut.got) w.frames w.refusal in
      let lost : List InboxRecord = refused_by fault w.tried in
      record {
        later = later;
        given = w.received;
        sent = [];
        carries = (turn_carries leg (cut_short w.now w.received w.frames w.refusal) uncut).1;
        moved = w.made.moved.tells;
        runs = record {
          opens = opens_same b e e' gate k.opens;
          inbox = k.inbox ++ gained;
          refused = lost;
          holds = either_box e'.inbox (k.inbox ++ gained) lost (w.refuses.holds k.inbox (holds_whole b past leg e k (ap is_failed going)));
          whole = λ whole. absurd (unfailed e'.standing whole failed);
          during = λ going'. absurd (unfailed e'.standing (ap is_failed going') failed);
          between = λ over. absurd (unfailed e'.standing (ap is_failed over) failed);
          failed = λ _ closing has. life_fails b past leg (now_of e k.inbox) w.now w.received w.frames w.refusal w.tried lost closing awaits (k.during going) w.made.cut w.timely w.is_tried
              (left_is fault w.tried lost refl)
              (record { begins = prefix_trans (known e.pass).seen.made (known e'.pass).seen.made (entries closing) looks.seen.made has.begins; few = has.few });
        };
      }

  pub turned : is_given e'.standing ≡ false → Made e'.standing → TurnedOn b past leg e' told told'
  turned sound made = by_standing e'.standing refl sound made
    where
      by_standing : (s : Standing) → e'.standing ≡ s → is_given s ≡ false → Made s → TurnedOn b past leg e' told told'
      by_standing standings.Over is sound w = whole_turned (ap is_failed is) w
      by_standing standings.Open is sound w = whole_turned (ap is_failed is) w
      by_standing standings.Failed is sound w = cut_turned is w
      by_standing standings.GivenUp is sound w = absurd (true≢false sound)

-- a link of which nothing is asked gives and takes nothing
rests_link : (told : Option LinkTold) → Steps told told [] []
rests_link None = tt
rests_link (Some t) = record { waited = refl; took = sym (append-nil t.taken); over = refl; fitted = omega arith }

-- or stays where no turn is made
pub unturned : (b : Beginning) (past : List TurnedLeg) (leg : TurnedLeg) (e : DrivenEnd) (told : Option LinkTold) → RunsOver b past leg e → TurnedOn b past leg e told told
unturned b past leg e told k = record {
  later = leg;
  given = [];
  sent = [];
  carries = record { gave = sym (append-nil _); took = sym (append-nil _) };
  moved = rests_link told;
  runs = k;
}

-- it is over where it is given up
pub cut_over : (b : Beginning) (past : List TurnedLeg) (leg : TurnedLeg) (e e' : DrivenEnd) → Awaits b → e'.gate ≡ e.gate → e.standing ≡ standings.Open → e'.standing ≡ standings.Over → line_of e'.conn ≡ line_cut (line_of e.conn)
    → known e'.pass ≡ known e.pass → e'.inbox ≡ e.inbox → RunsOver b past leg e → StandsBehind b (past ++ leg ∷ []) e'
cut_over b past leg e e' first gate going over line pass box k = record {
  over = over;
  opens = opens_same b e e' gate k.opens;
  inbox = k.inbox;
  holds = subst (λ x. HoldsBox x k.inbox []) (sym box) (holds_whole b past leg e k (ap is_failed going));
  between = cut_ends b (past ++ leg ∷ []) (now_of e k.inbox) (now_of e' k.inbox) (leg_ends b past leg (now_of e k.inbox) first (k.during going))
      (ap (λ (l : Line). l.machine) line) (ap (λ (p : Part). p.seen) pass) refl;
}

-- and where it had ended
pub ended_over : (b : Beginning) (past : List TurnedLeg) (leg : TurnedLeg) (e : DrivenEnd) → e.standing ≡ standings.Over → RunsOver b past leg e → StandsBehind b (past ++ leg ∷ []) e
ended_over b past leg e over k = record { over = over; opens = k.opens; inbox = k.inbox; holds = holds_whole b past leg e k (ap is_failed over); between = k.between over }

-- a new end over boxes that hold these records
pub new_end : (config : EndConfig) (e : DrivenEnd) (next sent : ℕ) (inbox : List InboxRecord) → IsMadeOf config next sent e.conn → e.standing ≡ standings.Over → HoldsBox e.inbox inbox [] → next ≡ next_of e.inbox
    → sent ≡ length (opening_of e.gate).history.made → next ≤ 2 ^ 26 + 1 → length config.session ≡ 16 → config.keepalive ≤ 60000 → length config.credentials ≤ 2048
    → BeginsHistory (opening_of e.gate).history (known e.pass).seen → BeginsOn config.own_flow config.peer_flow (outbox_of (opening_of e.gate).history) inbox e
new_end config e next sent inbox made over holds first all few session keepalive credentials seen =
    let m : State = (line_of e.conn).machine in
    let h : History = (opening_of e.gate).history in
    let is : m ≡ fresh config made.state (2 ^ 26) = ap (λ (l : Line). l.machine) made.line in
    let awaits : made.state.inbox_next ≡ next_number inbox = made.next_is ∙ (first ∙ holds.noticed.next) in
    let many : m.facts.recorded.sent ≡ length h.made = ap (λ (s : State). s.facts.recorded.sent) is ∙ (made.sent_is ∙ all) in
    record {
      machine = m;
      began = record {
        awaits = ap (λ (s : State). s.facts.recorded.inbox_next) is ∙ awaits;
        sent = many ∙ ap (λ (es : List Entry). length es) (sym (entries-outbox_of h));
        range = subst (λ (s : State). IsInRange s) (sym is)
            (record { session = session; keepalive = omega (arith, keepalive); credentials = credentials; most = omega arith; next = let n = made.next_is in omega (arith, n, few) });
        own_flow = ap (λ (s : State). s.config.own_flow) is;
        peer_flow = ap (λ (s : State). s.config.peer_flow) is;
      };
      stands = record {
        over = over;
        opens = refl;
        inbox = inbox;
        holds = holds;
        between = λ g has. record {
          made = record { enough = let long = prefix_length h.made (known e.pass).seen.made seen.made in let more = prefix_length (known e.pass).seen.made g has.begins in omega (arith, many, long, more); turns = tt; timely = tt };
          next = λ now. refl;
          inbox = refl;
        };
      };
    }

-- ---- a life that is over

pub ended_none : (b : Beginning) (legs : List TurnedLeg) (e : DrivenEnd) → Awaits b → StandsBehind b legs e → IsEnded b legs e
ended_none b legs e awaits k = record {
  opens = k.opens;
  inbox = k.inbox;
  refused = [];
  holds = k.holds;
  over = λ closing has. life_ends b legs (now_of e k.inbox) closing awaits k.between has;
}

pub ended_one : (b : Beginning) (past : List TurnedLeg) (leg : TurnedLeg) (e : DrivenEnd) → Awaits b → is_given e.standing ≡ false → RunsOver b past leg e → IsEnded b (past ++ leg ∷ []) e
ended_one b past leg e awaits sound k = record { opens = k.opens; inbox = k.inbox; refused = k.refused; holds = k.holds; over = by_standing e.standing refl sound }
  where
    all_over : is_failed e.standing ≡ false → Between b (past ++ leg ∷ []) (now_of e k.inbox) → (closing : List OutboxRecord) → Has (entries closing) (known e.pass).seen → IsOver closing b (past ++ leg ∷ []) k.inbox k.refused
    all_over whole between closing has = subst (λ (rs : List InboxRecord). IsOver closing b (past ++ leg ∷ []) k.inbox rs) (sym (k.whole whole).0) (life_ends b (past ++ leg ∷ []) (now_of e k.inbox) closing awaits between has)

    by_standing : (s : Standing) → e.standing ≡ s → is_given s ≡ false → (closing : List OutboxRecord) → Has (entries closing) (known e.pass).seen → IsOver closing b (past ++ leg ∷ []) k.inbox k.refused
    by_standing standings.Over is sound = all_over (ap is_failed is) (k.between is)
    by_standing standings.Open is sound = all_over (ap is_failed is) (leg_ends b past leg (now_of e k.inbox) awaits (k.during is))
    by_standing standings.Failed is sound = k.failed is
    by_standing standings.GivenUp is sound = absurd (true≢false sound)

-- ---- what a turn applied, answered

-- turns of what a pass had seen are so of what it has found behind them
turns_find : (before after later : History) (old new : Line) (t : Turn) (ts : List Turn) → BeginsHistory after later → AreTurns before after old new (t ∷ ts) → AreTurns before later old new (t ∷ ts)
turns_find before after later old new t [] finds k =
    (k.0, k.1, k.2, k.3, later, begins_on k.2 k.4 later k.5 (subst (λ (h : History). BeginsHistory h later) k.6.1 finds), (k.6.0, refl))
turns_find before after later old new t (u ∷ ts) finds k = (k.0, k.1, k.2, k.3, k.4, k.5, turns_find k.4 after later k.1 new u ts finds k.6)

finds_from : (before after later : History) (old new : Line) (ts : List Turn) → BeginsHistory after later → AreTurns before after old new ts → (first : History) × AreTurns first later old new ts
finds_from before after later old new [] finds k = (later, (k.0, refl))
finds_from before after later old new (t ∷ ts) finds k = (before, turns_find before after later old new t ts finds k)

-- an outbox that begins with what a pass has found begins with what it had seen
pub has_less : (h : List Entry) (seen found : History) → BeginsHistory seen found → Has h found → Has h seen
has_less h seen found finds has = record { begins = prefix_trans seen.made found.made h finds.made has.begins; few = has.few }

-- an end whose pass has found more, between two turns and between two connections
pub during_finds : (b : Beginning) (past : List TurnedLeg) (leg : TurnedLeg) (e : EndNow) (found : History) → BeginsHistory e.seen found → During b past leg e → During b past leg (record e { seen = found })
during_finds b past leg e found finds k h has =
    let d = k h (has_less h e.seen found finds has) in
    let f = finds_from d.before e.seen found (first_line leg.per_turn (machine_behind b past) leg.moment) e.line leg.turns finds d.made in
    record { behind = d.behind; before = f.0; made = f.1; faithful = d.faithful; uncut = d.uncut; in_time = d.in_time; inbox = d.inbox }

pub between_finds : (b : Beginning) (legs : List TurnedLeg) (e : EndNow) (found : History) → BeginsHistory e.seen found → Between b legs e → Between b legs (record e { seen = found })
between_finds b legs e found finds k h has =
    let r = k h (has_less h e.seen found finds has) in
    record { made = r.made; next = r.next; inbox = r.inbox }

-- an end of which nothing changed but who sends, what its pass has seen, its news and where it stands
module _ (e e' : DrivenEnd) (same : e' ≡ record e { staff = e'.staff; pass = e'.pass; news = e'.news; standing = e'.standing }) (seen : BeginsHistory (known e.pass).seen (known e'.pass).seen) where
  gate_same : e'.gate ≡ e.gate
  gate_same = ap (λ (x : DrivenEnd). x.gate) same

  inbox_same : e'.inbox ≡ e.inbox
  inbox_same = ap (λ (x : DrivenEnd). x.inbox) same

  now_found : (i : List InboxRecord) → record (now_of e i) { seen = (known e'.pass).seen } ≡ now_of e' i
  now_found i = ap (λ c. record { line = line_of c; seen = (known e'.pass).seen; inbox = i }) (sym (ap (λ (x : DrivenEnd). x.conn) same))

  during_then : (b : Beginning) (past : List TurnedLeg) (leg : TurnedLeg) (i : List InboxRecord) → During b past leg (now_of e i) → During b past leg (now_of e' i)
  during_then b past leg i k = subst (λ (x : EndNow). During b past leg x) (now_found i) (during_finds b past leg (now_of e i) (known e'.pass).seen seen k)

  between_then : (b : Beginning) (legs : List TurnedLeg) (i : List InboxRecord) → Between b legs (now_of e i) → Between b legs (now_of e' i)
  between_then b legs i k = subst (λ (x : EndNow). Between b legs x) (now_found i) (between_finds b legs (now_of e i) (known e'.pass).seen seen k)

  -- where it stands as it did
  stood_runs : (b : Beginning) (past : List TurnedLeg) (leg : TurnedLeg) → e'.standing ≡ e.standing → RunsOver b past leg e → RunsOver b past leg e'
  stood_runs b past leg stood k = record {
    opens = opens_same b e e' gate_same k.opens;
    inbox = k.inbox;
    refused = k.refused;
    holds = subst (λ box. HoldsBox box k.inbox k.refused) (sym inbox_same) k.holds;
    whole = λ whole. k.whole (ap is_failed (sym stood) ∙ whole);
    failed = λ failed closing has. k.failed (sym stood ∙ failed) closing (has_less (entries closing) (known e.pass).seen (known e'.pass).seen seen has);
    during = λ going. during_then b past leg k.inbox (k.during (sym stood ∙ going));
    between = λ over. between_then b (past ++ leg ∷ []) k.inbox (k.between (sym stood ∙ over));
  }

  stood_stands : (b : Beginning) (legs : List TurnedLeg) → e'.standing ≡ e.standing → StandsBehind b legs e → StandsBehind b legs e'
  stood_stands b legs stood k = record {
    over = stood ∙ k.over;
    opens = opens_same b e e' gate_same k.opens;
    inbox = k.inbox;
    holds = subst (λ box. HoldsBox box k.inbox []) (sym inbox_same) k.holds;
    between = between_then b legs k.inbox k.between;
  }

  -- whatever became of it, a life that was over is
  ended_then : (b : Beginning) (legs : List TurnedLeg) → IsEnded b legs e → IsEnded b legs e'
  ended_then b legs o = record {
    opens = opens_same b e e' gate_same o.opens;
    inbox = o.inbox;
    refused = o.refused;
    holds = subst (λ box. HoldsBox box o.inbox o.refused) (sym inbox_same) o.holds;
    over = λ closing has. o.over closing (has_less (entries closing) (known e.pass).seen (known e'.pass).seen seen has);
  }

  -- where it failed, its life is over
  refused_runs : (b : Beginning) (past : List TurnedLeg) (leg : TurnedLeg) → Awaits b → is_given e.standing ≡ false → e'.standing ≡ standings.Failed → RunsOver b past leg e → RunsOver b past leg e'
  refused_runs b past leg awaits sound is k =
      let o = ended_one b past leg e awaits sound k in
      record {
        opens = opens_same b e e' gate_same o.opens;
        inbox = o.inbox;
        refused = o.refused;
        holds = subst (λ box. HoldsBox box o.inbox o.refused) (sym inbox_same) o.holds;
        whole = λ whole. absurd (unfailed e'.standing whole is);
        failed = λ failed closing has. o.over closing (has_less (entries closing) (known e.pass).seen (known e'.pass).seen seen has);
        during = λ going. absurd (unfailed e'.standing (ap is_failed going) is);
        between = λ over. absurd (unfailed e'.standing (ap is_failed over) is);
      }

pub answered_runs : (b : Beginning) (past : List TurnedLeg) (leg : TurnedLeg) (e e' : DrivenEnd) → IsAnswered e e' → Awaits b → is_given e'.standing ≡ false → RunsOver b past leg e → RunsOver b past leg e'
answered_runs b past leg e e' answered awaits sound k = by_standing answered.stands
  where
    by_failing : is_given e.standing ≡ false → (e'.standing ≡ standings.Failed) ⊎ (e'.standing ≡ standings.GivenUp) → RunsOver b past leg e'
    by_failing was (inl failed) = refused_runs e e' answered.same answered.seen b past leg awaits was failed k
    by_failing was (inr given) = absurd (true≢false (sym (ap is_given given) ∙ sound))

    by_standing : (e'.standing ≡ e.standing) ⊎ ((is_given e.standing ≡ false) × (is_failed e.standing ≡ false) × ((e'.standing ≡ standings.Failed) ⊎ (e'.standing ≡ standings.GivenUp))) → RunsOver b past leg e'
    by_standing (inl stood) = stood_runs e e' answered.same answered.seen b past leg stood k
    by_standing (inr went) = by_failing went.0 went.2

-- between two connections
pub answered_between : (b : Beginning) (legs : List TurnedLeg) (e e' : DrivenEnd) → IsAnswered e e' → e'.standing ≡ standings.Over → StandsBehind b legs e → StandsBehind b legs e'
answered_between b legs e e' answered over k = stood_stands e e' answered.same answered.seen b legs (over ∙ sym k.over) k

pub answered_ended : (b : Beginning) (legs : List TurnedLeg) (e e' : DrivenEnd) → IsAnswered e e' → IsEnded b legs e → IsEnded b legs e'
answered_ended b legs e e' answered o = ended_then e e' answered.same answered.seen b legs o

-- where the next connection may begin behind it, it might before
pub answered_over : (e e' : DrivenEnd) → IsAnswered e e' → e'.standing ≡ standings.Over → e.standing ≡ standings.Over
answered_over e e' answered over = by_standing answered.stands
  where
    by_standing : (e'.standing ≡ e.standing) ⊎ ((is_given e.standing ≡ false) × (is_failed e.standing ≡ false) × ((e'.standing ≡ standings.Failed) ⊎ (e'.standing ≡ standings.GivenUp))) → e.standing ≡ standings.Over
    by_standing (inl stood) = sym stood ∙ over
    by_standing (inr (sound, whole, inl failed)) = let x : standings.Failed ≡ standings.Over = sym failed ∙ over in absurd (cc x)
    by_standing (inr (sound, whole, inr given)) = let x : standings.GivenUp ≡ standings.Over = sym given ∙ over in absurd (cc x)

-- it was given up before only if it is so behind
pub answered_sound : (e e' : DrivenEnd) → IsAnswered e e' → is_given e'.standing ≡ false → is_given e.standing ≡ false
answered_sound e e' answered sound = by_standing answered.stands
  where
    by_standing : (e'.standing ≡ e.standing) ⊎ ((is_given e.standing ≡ false) × (is_failed e.standing ≡ false) × ((e'.standing ≡ standings.Failed) ⊎ (e'.standing ≡ standings.GivenUp))) → is_given e.standing ≡ false
    by_standing (inl stood) = ap is_given (sym stood) ∙ sound
    by_standing (inr went) = went.0

pub answered_on : (b : Beginning) (past : List TurnedLeg) (leg : TurnedLeg) (e e' : DrivenEnd) (told told' : Option LinkTold) → IsAnswered e e' → Awaits b → is_given e'.standing ≡ false → TurnedOn b past leg e told told'
    → TurnedOn b past leg e' told told'
answered_on b past leg e e' told told' answered awaits sound t = record {
  later = t.later;
  given = t.given;
  sent = t.sent;
  carries = t.carries;
  moved = t.moved;
  runs = answered_runs b past t.later e e' answered awaits sound t.runs;
}

-- ---- those who answer have taken their place

-- of an end that has begun no connection nothing changed but who sends, where it stands, and the faults and the moment of its inbox
module _ (e e' : DrivenEnd) (gate : e'.gate ≡ e.gate) (conn : e'.conn ≡ e.conn) (pass : e'.pass ≡ e.pass) (content : SameContent e.inbox e'.inbox) where
  now_still : (i : List InboxRecord) → now_of e i ≡ now_of e' i
  now_still i =
      ap (λ c. record { line = line_of c; seen = (known e.pass).seen; inbox = i }) (sym conn)
      ∙ ap (λ p. record { line = line_of e'.conn; seen = (known p).seen; inbox = i }) (sym pass)

  pub resumed_stands : e'.standing ≡ standings.Over → (b : Beginning) (legs : List TurnedLeg) → StandsBehind b legs e → StandsBehind b legs e'
  resumed_stands over b legs k = record {
    over = over;
    opens = opens_same b e e' gate k.opens;
    inbox = k.inbox;
    holds = (content.holds k.inbox []).0 k.holds;
    between = subst (λ (x : EndNow). Between b legs x) (now_still k.inbox) k.between;
  }

  pub resumed_ended : (b : Beginning) (legs : List TurnedLeg) → Awaits b → StandsBehind b legs e → IsEnded b legs e'
  resumed_ended b legs awaits k = record {
    opens = opens_same b e e' gate k.opens;
    inbox = k.inbox;
    refused = [];
    holds = (content.holds k.inbox []).0 k.holds;
    over = λ closing has. life_ends b legs (now_of e k.inbox) closing awaits k.between (subst (λ p. Has (entries closing) (known p).seen) pass has);
  }
