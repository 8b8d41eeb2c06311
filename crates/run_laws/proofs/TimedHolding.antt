-- Two ends that ran, each any number of times: how their connections ended, and what their inboxes have.
use Rattle.std.proofs.Common.{◌≡◌, ◌+◌, ◌^◌, ℕ, Bool, true, false, if◌then◌else◌, List, [], ◌∷◌, length, Option, Some, None, IfSome, refl, sym, ap, subst, ◌∙◌, arith}
use Rattle.std.specs.List.{AllByRecursion, flat_map}
use Rattle.std.proofs.lemmas.Option.{same_Some}
use Rattle.session_model.specs.Journal.{History, history_of}
use Rattle.session_model.specs.Inbox.{InboxRecord, apply, skip, negotiated, peer_finished, has_peer_finished, next_number}
use Rattle.session_model.specs.Growth.{AppliesPrefix}
use Rattle.fixp_msgs.specs.declared.flow.Flow.{Flow}
use Rattle.fixp_shake.specs.Flows.{is_sequenced}
use Rattle.fixp_shake.specs.declared.config.EndConfig.{EndConfig}
use Rattle.fixp_shake.specs.declared.config.Role.{Role}
use Rattle.fixp_shake.specs.declared.config.Role.TheVariants.{Initiator, Acceptor}
use Rattle.fixp_machine.specs.Machine.{fresh}
use Rattle.connection_laws.specs.Ranges.{IsOutbox}
use Rattle.two_ends.specs.Meeting.{Holds}
use Rattle.jr_dated.specs.declared.journal.Journal.{Ghosts}
use Rattle.cmd_session.proofs.Verdicts.{at_most_one_verdict}
use Rattle.jr_boxes.specs.Outboxes.{outbox_of, records_of_history}
use Rattle.jr_boxes.specs.Inboxes.{records_of_inbox, peer_last_in}
use Rattle.cmd_config.specs.declared.configuration.Link.{Link}
use Rattle.cmd_session.specs.Inputs.{end_of}
use Rattle.cmd_feed.specs.Outsides.{FeedSees}
use Rattle.run_laws.specs.Several.{Flows, IsEmptyJournal, brought, HasRun}
use Rattle.run_laws.specs.Linked.{LinkedCarried, configs_by}
use Rattle.run_laws.proofs.Telling.{same_outbox, same_inbox}
use Rattle.run_laws.proofs.Ordered.{history_of-records}
use Rattle.run_laws.proofs.Holding.{runs_hold}
use Rattle.honest_ends.specs.Worlds.{Match}
use Rattle.honest_ends.specs.Knowing.{Knows, last_told}
use Rattle.honest_ends.specs.Resting.{EndsLast}
use Rattle.honest_ends.proofs.RestLaws.{all_is_equal}
use Rattle.honest_turns.specs.Samples.{unwritten}
use Rattle.honest_turns.specs.Sides.{IsReady}
use Rattle.honest_turns.specs.Lives.{End, AgreeAt}
use Rattle.honest_turns.proofs.Sampled.{unwritten_agree}
use Rattle.honest_turns.proofs.Timing.{time_is_linked}
use Rattle.run_laws.specs.Served.{ClosesInTime}
use Rattle.run_laws.specs.TimedRuns.{EndRan, lives, legs_of, ended_of, flows_in}
use Rattle.run_laws.specs.TimedLaws.{HasWhole, AreLinked, RunsEndInTime, FinishIsWhole}
use Rattle.run_laws.proofs.Closing.{IsLast}
use Rattle.run_laws.proofs.Counting.{in_time_so}
use Rattle.run_laws.proofs.Paths.{BothHold, both_hold}
use Rattle.run_laws.proofs.TimedChaining.{same_session, Found, Way, Comes, comes}
use Rattle.run_laws.proofs.Carrying.{linked_are_carried, runs_brought}

abbrev nothing : History
nothing = record { made = []; finished = false }

module _ {S I K A D N C J : Type 0} (G : Ghosts J) (sees : FeedSees S I K A D N C) (role : Role) (link : Link) (e : EndRan G sees role link) where
  -- the end before its first life
  abbrev pub unlived : End
  unlived = record { outbox = e.outbox; state = fresh (end_of role link) unwritten (2 ^ 26); inbox = [] }

  entries : IsOutbox e.outbox.made
  entries = record { payloads = e.ran.payloads; few = let few = e.few in omega (arith, few) }

  pub unlived_ready : IsReady e.outbox unlived.state []
  unlived_ready = record {
    awaits = refl;
    range = record {
      session = e.fits.session;
      keepalive = let most = e.fits.keepalive in omega (arith, most);
      credentials = e.fits.credentials;
      most = omega arith;
      next = omega arith;
    };
    entries = entries;
  }

module _ {S I K A D N C J : Type 0} (G : Ghosts J) (told : G.tells) (sees : FeedSees S I K A D N C) (role : Role) (link : Link) (e : EndRan G sees role link) where
  abbrev config : EndConfig
  config = end_of role link

  abbrev first : End
  first = unlived G sees role link e

  came : Comes e.outbox e.inbox config IsEmptyJournal IsEmptyJournal (lives G sees role link e)
  came = comes G told sees role link (flows_in link) e.outbox e.inbox (entries G sees role link e) e.ran.outbox e.ran.inbox e.ran.outbox_is e.ran.inbox_is e.runs IsEmptyJournal IsEmptyJournal e.ran.over e.configured

  none_opened : came.opened ≡ nothing
  none_opened =
      sym (history_of-records came.opened)
      ∙ ap history_of (same_outbox (outbox_of came.opened) [] (at_most_one_verdict.one_list came.out_was.0 (records_of_history came.opened) [] came.out_was.2 came.out_was.1))

  none_waiting : came.waiting ≡ []
  none_waiting = same_inbox came.waiting [] (at_most_one_verdict.one_list came.in_was.0 (records_of_inbox came.waiting) [] came.in_was.2 came.in_was.1)

  unlived_found : Found e.outbox config first nothing []
  unlived_found = record { outbox = refl; config_is = same_session role link link (record { matches = record { session = refl; credentials = refl; client = refl; server = refl }; fits = e.fits }); most = refl; next = refl; within = omega arith; last = refl; sent = omega arith; finish = tt }

  -- its way over all its lives
  pub way : Way e.outbox e.inbox config (lives G sees role link e) first
  way = came.way first (subst (λ (o : History). Found e.outbox config first o came.waiting) (sym none_opened)
      (subst (λ (i : List InboxRecord). Found e.outbox config first nothing i) (sym none_waiting) unlived_found))

module _ {S I K A D N C J : Type 0} (G : Ghosts J) (told : G.tells) (sees : FeedSees S I K A D N C) (li la : Link) (i : EndRan G sees Initiator li) (a : EndRan G sees Acceptor la) (l : AreLinked G sees li la i a) where
  match : Match (end_of Initiator li) (end_of Acceptor la)
  match = record {
    initiates = refl;
    accepts = refl;
    session = l.matches.session;
    credentials = l.matches.credentials;
    outward = l.matches.client;
    homeward = sym l.matches.server;
    keepalive = (i.fits.interval, i.fits.keepalive);
  }

  pub way_i : Way i.outbox i.inbox (end_of Initiator li) (lives G sees Initiator li i) (unlived G sees Initiator li i)
  way_i = way G told sees Initiator li i

  pub way_a : Way a.outbox a.inbox (end_of Acceptor la) (lives G sees Acceptor la a) (unlived G sees Acceptor la a)
  way_a = way G told sees Acceptor la a

  pub starts : AgreeAt (unlived G sees Initiator li i) (unlived G sees Acceptor la a)
  starts = record {
    initiator = unlived_ready G sees Initiator li i;
    acceptor = unlived_ready G sees Acceptor la a;
    agree = unwritten_agree i.outbox.made a.outbox.made (end_of Initiator li) (end_of Acceptor la) (2 ^ 26) match i.few a.few;
  }

  pub both : BothHold (unlived G sees Initiator li i) way_i.behind (unlived G sees Acceptor la a) way_a.behind way_i.legs way_a.legs way_i.path way_a.path
  both = both_hold (unlived G sees Initiator li i) way_i.behind way_i.legs way_i.path (unlived G sees Acceptor la a) way_a.behind way_a.legs way_a.path
      (in_time_so (legs_of (lives G sees Initiator li i)) (legs_of (lives G sees Acceptor la a)) way_i.legs way_a.legs l.in_time way_i.links way_a.links) starts

  pub all_close : AllByRecursion ClosesInTime (ended_of (lives G sees Initiator li i)) × AllByRecursion ClosesInTime (ended_of (lives G sees Acceptor la a))
  all_close = (way_i.closes both.initiator, way_a.closes both.acceptor)

  -- the links are linked by what they carried, so each inbox holds of the other outbox what its flow promises
  carried : LinkedCarried (configs_by sees.session Initiator i.runs) (configs_by sees.session Acceptor a.runs) (flat_map (brought sees.session) i.runs) (flat_map (brought sees.session) a.runs)
  carried = linked_are_carried (configs_by sees.session Initiator i.runs) (configs_by sees.session Acceptor a.runs) (flat_map (brought sees.session) i.runs) (flat_map (brought sees.session) a.runs) (legs_of (lives G sees Initiator li i)) (legs_of (lives G sees Acceptor la a))
      (runs_brought G sees Initiator (flows_in li) i.ran.outbox i.ran.inbox i.runs IsEmptyJournal IsEmptyJournal i.ran.over)
      (runs_brought G sees Acceptor (flows_in la) a.ran.outbox a.ran.inbox a.runs IsEmptyJournal IsEmptyJournal a.ran.over)
      (time_is_linked (configs_by sees.session Initiator i.runs) (configs_by sees.session Acceptor a.runs) (legs_of (lives G sees Initiator li i)) (legs_of (lives G sees Acceptor la a)) l.in_time)

pub runs_end_in_time : {S I K A D N C J : Type 0} (G : Ghosts J) (sees : FeedSees S I K A D N C) → RunsEndInTime G sees
runs_end_in_time G sees told li la i a l = all_close G told sees li la i a l

-- ---- an inbox that has the finish of its peer

last_there : (i : List InboxRecord) → has_peer_finished i ≡ true → (n : ℕ) × (peer_last_in i ≡ Some n)
last_there [] e = absurd (cc e)
last_there (apply m ∷ i) e = last_there i e
last_there (skip r ∷ i) e = last_there i e
last_there (negotiated ∷ i) e = last_there i e
last_there (peer_finished last ∷ i) e = (last, refl)

of_some : (P : ℕ → Type 0) (o : Option ℕ) (n : ℕ) → o ≡ Some n → IfSome o P → P n
of_some P None n e k = absurd (cc e)
of_some P (Some m) n e k = subst P (same_Some m n e) k

-- what it awaits, where this is known of the writer and of the reader
record Awaits (flow : Flow) (h : History) (inbox : List InboxRecord) : Type 0 where
  finished : h.finished ≡ true
  next : is_sequenced flow ≡ true → next_number inbox ≡ length h.made + 1

awaits : (flow : Flow) (h g : History) (c d : EndConfig) (writer reader : End) (j inbox : List InboxRecord) → Found h c writer h j → Found g d reader g inbox → c.own_flow ≡ flow → d.peer_flow ≡ flow
    → Knows writer.outbox.made writer.state reader.state → EndsLast reader.state → has_peer_finished inbox ≡ true → Awaits flow h inbox
awaits flow h g c d writer reader j inbox w r own peer knows ends there =
    let known : Knows h.made writer.state reader.state = subst (λ (x : History). Knows x.made writer.state reader.state) w.outbox knows in
    let n = last_there inbox there in
    let recorded : reader.state.facts.recorded.peer_last ≡ Some n.0 = r.last ∙ n.1 in
    let told : (writer.state.facts.recorded.finish ≡ Some (length h.made)) × (writer.state.facts.recorded.sent ≡ length h.made) × (n.0 ≡ last_told writer.state.config.own_flow h.made) =
    of_some (λ (k : ℕ). (writer.state.facts.recorded.finish ≡ Some (length h.made)) × (writer.state.facts.recorded.sent ≡ length h.made) × (k ≡ last_told writer.state.config.own_flow h.made))
    reader.state.facts.recorded.peer_last n.0 recorded known.last in
    let last : IsLast h (length h.made) = of_some (IsLast h) writer.state.facts.recorded.finish (length h.made) told.0 w.finish in
    record {
      finished = last.marked;
      next = λ numbered.
          let sequenced : is_sequenced reader.state.config.peer_flow ≡ true = ap is_sequenced r.config_is.peer ∙ (ap is_sequenced peer ∙ numbered) in
          let behind : reader.state.facts.recorded.inbox_next ≡ n.0 + 1 = of_some (λ (k : ℕ). reader.state.facts.recorded.inbox_next ≡ k + 1) reader.state.facts.recorded.peer_last n.0 recorded (ends sequenced) in
          let flows : is_sequenced writer.state.config.own_flow ≡ true = ap is_sequenced w.config_is.own ∙ (ap is_sequenced own ∙ numbered) in
          let is : n.0 ≡ length h.made = told.2 ∙ ap (λ (b : Bool). if b then length h.made else 0) flows in
          let next : next_number inbox ≡ reader.state.facts.recorded.inbox_next = r.next in
          omega (arith, next, behind, is);
    }

pub whole : (flow : Flow) (h : History) (inbox : List InboxRecord) → (is_sequenced flow ≡ true → next_number inbox ≡ length h.made + 1) → Holds flow h.made inbox → HasWhole flow h inbox
whole flow h inbox next holds = record {
  next = next;
  equal = λ e.
      let applies : AppliesPrefix h.made inbox = subst (λ (f : Flow). Holds f h.made inbox) e holds in
      all_is_equal h.made inbox applies (next (ap is_sequenced e));
}

pub runs_hold_so : {S I K A D N C J : Type 0} (G : Ghosts J) (told : G.tells) (sees : FeedSees S I K A D N C) (li la : Link) (i : EndRan G sees Initiator li) (a : EndRan G sees Acceptor la) → AreLinked G sees li la i a
    → Holds li.client_flow i.outbox.made a.inbox × Holds la.server_flow a.outbox.made i.inbox
runs_hold_so G told sees li la i a l =
    let same : flows_in la ≡ flows_in li =
    ap (λ (f : Flow). record { client = f; server = la.server_flow }) l.matches.client ∙ ap (λ (f : Flow). record { client = li.client_flow; server = f }) l.matches.server in
    let holds = runs_hold G sees told (flows_in li) i.runs a.runs i.outbox a.outbox i.inbox a.inbox i.ran (subst (λ (f : Flows). HasRun G sees Acceptor f a.runs a.outbox a.inbox) same a.ran) (carried G told sees li la i a l) in
    (holds.0, subst (λ (f : Flow). Holds f a.outbox.made i.inbox) (sym l.matches.server) holds.1)

pub finish_is_whole : {S I K A D N C J : Type 0} (G : Ghosts J) (sees : FeedSees S I K A D N C) → FinishIsWhole G sees
finish_is_whole G sees told li la i a l =
    let b = both G told sees li la i a l in
    let x = way_i G told sees li la i a l in
    let y = way_a G told sees li la i a l in
    let holds = runs_hold_so G told sees li la i a l in (
      λ there.
          let w = awaits li.client_flow i.outbox a.outbox (end_of Initiator li) (end_of Acceptor la) x.behind y.behind i.inbox a.inbox x.found y.found refl l.matches.client b.agree.agree.outward b.agree.agree.last_a there in
          (w.finished, whole li.client_flow i.outbox a.inbox w.next holds.0),
      λ there.
          let w = awaits la.server_flow a.outbox i.outbox (end_of Acceptor la) (end_of Initiator li) y.behind x.behind a.inbox i.inbox y.found x.found refl (sym l.matches.server) b.agree.agree.homeward b.agree.agree.last_i there in
          (w.finished, whole la.server_flow a.outbox i.inbox w.next holds.1),
    )
