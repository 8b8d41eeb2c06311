-- Runs of one end, one behind another, as a way of the end from its beginning.
use Rattle.std.proofs.Common.{◌≡◌, ◌≤◌, ◌+◌, ◌^◌, ◌⊎◌, inl, inr, ℕ, Bool, true, false, if◌then◌else◌, List, [], ◌∷◌, ◌++◌, map, length, Option, Some, None, IfSome, Result, refl, sym, ap, subst, ◌∙◌, arith}
use Rattle.std.specs.Prelude.{option_to_list, IsTrue, is_some}
use Rattle.std.specs.List.{AllByRecursion, AllZip}
use Rattle.std.proofs.lemmas.Option.{same_Some}
use Rattle.session_model.specs.Journal.{Entry, History, BeginsHistory}
use Rattle.session_model.specs.Inbox.{InboxRecord, next_number}
use Rattle.session_model.specs.Lives.{IsImage}
use Rattle.session_model.proofs.Lists.{all_first, all_append, prefix_length}
use Rattle.gate_turn.proofs.Histories.{begins_on, begins_self}
use Rattle.fixp_msgs.specs.Payload.{IsApplication}
use Rattle.fixp_msgs.specs.declared.flow.Flow.{Flow}
use Rattle.fixp_shake.specs.declared.config.EndConfig.{EndConfig}
use Rattle.fixp_shake.specs.declared.config.Role.{Role}
use Rattle.fixp_machine.specs.Machine.{State, fresh}
use Rattle.connection_laws.specs.Ranges.{IsOutbox}
use Rattle.conn_turns.specs.Lines.{Line}
use Rattle.turn_laws.specs.Legs.{TurnedLeg}
use Rattle.jr_dated.specs.declared.journal.Journal.{Ghosts}
use Rattle.cmd_session.specs.Journals.{IsJournal, Leaves}
use Rattle.jr_boxes.specs.Outboxes.{record_of, outbox_of, records_of_history}
use Rattle.jr_boxes.specs.Inboxes as in_boxes
use Rattle.jr_boxes.specs.Inboxes.{records_of_inbox, peer_last_in}
use Rattle.jr_kept.specs.declared.inbox.Inbox.{Inbox}
use Rattle.cmd_base.specs.declared.status.Status.{Status}
use Rattle.conn_door.specs.declared.answer.ServeFault.{ServeFault}
use Rattle.cmd_config.specs.Settings.{own_flow, peer_flow}
use Rattle.cmd_config.specs.declared.configuration.Link.{Link}
use Rattle.cmd_config.specs.declared.configuration.Configuration.{Configuration}
use Rattle.conn_serve.specs.Connections.{turned, all_of, adds_of, refused_of_all}
use Rattle.conn_serve.specs.Moments.{LifeAt, life_at}
use Rattle.conn_serve.specs.Opening.{opened_state}
use Rattle.conn_serve.specs.Served.{ServedLife}
use Rattle.life_laws.specs.Plans.{Senders, submitting}
use Rattle.fed_laws.specs.Given.{fed_plans}
use Rattle.cmd_session.specs.Answers.{answerers}
use Rattle.cmd_session.specs.Inputs.{IsConfigured, end_of}
use Rattle.cmd_session.specs.Lived.{LeftAll, LivedOver, HasLivedOver, Lived}
use Rattle.cmd_session.specs.Outsides.{Sees}
use Rattle.cmd_session.specs.Steps.{StopsAtInput, EndsBehindConfig, Steps}
use Rattle.cmd_session.specs.declared.outside.SessionOutside.{SessionOutside}
use Rattle.cmd_feed.specs.declared.outside.FeedOutside.{FeedOutside}
use Rattle.cmd_feed.specs.Outsides.{FeedSees, session_of}
use Rattle.cmd_feed.specs.Steps.{Steps as FedSteps}
use Rattle.run_laws.specs.Pieces.{LinkFits}
use Rattle.run_laws.specs.Several.{Run, Flows, IsAt, RunsOver, IsRun, WasRun}
use Rattle.run_laws.specs.FedLives.{fed_life}
use Rattle.run_laws.proofs.Refusing.{some_of}
use Rattle.run_laws.proofs.Fitted.{configurations_fit}
use Rattle.cmd_session.proofs.Histories.{out_tells}
use Rattle.run_laws.proofs.Telling.{same_image, in_tells}
use Rattle.run_laws.proofs.Merely.{image_left}
use Rattle.run_laws.proofs.Ways.{Unlived, config_kept, boxes_kept, input_kept, unbegun_kept}
use Rattle.run_laws.proofs.Fed.{over_before, by_fed_life}
use Rattle.run_laws.proofs.Chaining.{told_was, kept_was}
use Rattle.honest_turns.specs.Sides.{MakesTurns}
use Rattle.honest_turns.specs.Lives.{End, end_behind, sides, end_after, EndInTime}
use Rattle.honest_turns.specs.Sessions.{SameSession, Reopens}
use Rattle.run_laws.specs.Served.{ClosesInTime}
use Rattle.run_laws.specs.TimedRuns.{Served, served_of, served_in_life, served_behind_input, served_behind_config, served_in, served_fed, served_of_run, served_over, legs_of, ended_of, last_line, last_machine, Matching, HasLink, ConfiguresLink}
use Rattle.run_laws.proofs.Closing.{IsLast}
use Rattle.run_laws.proofs.Keeping.{Stays, StaysBehind, stays_after, over, widen_all, over_after}
use Rattle.run_laws.proofs.Counting.{SameLink, links_append}
use Rattle.run_laws.proofs.Paths.{Path, arrives, opens, AllInTime, along, along_in_time}
use Rattle.run_laws.proofs.Living.{begins_records, Left, Legs, went_on}
use Rattle.run_laws.proofs.Living as living
use Rattle.run_laws.proofs.Leaving.{LedTo, EndsIn, LeavesAt, along_leaves, along_last}

-- a link that CONFIG spells, of the session of this one
pub record IsOf (link mine : Link) : Type 0 where
  pub matches : Matching link mine
  pub fits : LinkFits mine

pub same_session : (role : Role) (link mine : Link) → IsOf link mine → SameSession (end_of role link) (end_of role mine)
same_session role link mine is = record {
  role = refl;
  session = is.matches.session;
  credentials = is.matches.credentials;
  own = ap (λ (f : Flow). own_flow role f mine.server_flow) is.matches.client ∙ ap (λ (f : Flow). own_flow role link.client_flow f) is.matches.server;
  peer = ap (λ (f : Flow). peer_flow role f mine.server_flow) is.matches.client ∙ ap (λ (f : Flow). peer_flow role link.client_flow f) is.matches.server;
  interval = (is.fits.interval, is.fits.keepalive);
}

-- two configurations of the session of one
of_one_session : (config c d : EndConfig) → SameSession config c → SameSession config d → SameSession c d
of_one_session config c d x y = record {
  role = y.role ∙ sym x.role;
  session = y.session ∙ sym x.session;
  credentials = y.credentials ∙ sym x.credentials;
  own = y.own ∙ sym x.own;
  peer = y.peer ∙ sym x.peer;
  interval = y.interval;
}

-- what an end knows is what these journals hold, which the next life opens on, or which are left
pub record Found (h : History) (config : EndConfig) (e : End) (opened : History) (waiting : List InboxRecord) : Type 0 where
  pub outbox : e.outbox ≡ h
  pub config_is : SameSession config e.state.config
  pub most : e.state.most ≡ 2 ^ 26
  pub next : next_number waiting ≡ e.state.facts.recorded.inbox_next
  pub within : e.state.facts.recorded.inbox_next ≤ 2 ^ 26 + 1
  pub last : e.state.facts.recorded.peer_last ≡ peer_last_in waiting
  pub sent : e.state.facts.recorded.sent ≤ length opened.made
  pub finish : IfSome e.state.facts.recorded.finish (IsLast opened)

-- the way of an end over lives, to what their journals hold behind them
pub record Way (h : History) (i : List InboxRecord) (config : EndConfig) (lives : List Served) (e : End) : Type 0 where
  pub behind : End
  pub legs : List TurnedLeg
  pub links : AllZip SameLink (legs_of lives) legs
  pub path : Path e legs behind
  pub found : Found h config behind h i
  pub closes : AllInTime e behind legs path → AllByRecursion ClosesInTime (ended_of lives)
  pub left : (x : Line) → last_line lives ≡ Some x → LeavesAt (λ f t. LedTo f t x) e behind legs path
  pub over : (s : State) → last_machine lives ≡ Some s → LeavesAt (EndsIn s) e behind legs path

-- lives that begin on such contents
pub record Comes (h : History) (i : List InboxRecord) (config : EndConfig) (outboxes inboxes : List ℕ → Type 0) (lives : List Served) : Type 0 where
  pub opened : History
  pub waiting : List InboxRecord
  pub out_was : Leaves outboxes (Some (records_of_history opened))
  pub in_was : Leaves inboxes (Some (records_of_inbox waiting))
  pub begins : BeginsHistory opened h
  pub way : (e : End) → Found h config e opened waiting → Way h i config lives e

-- how connections end does not depend on what their outbox comes to have
narrow : (e : End) (h : History) (ts : List TurnedLeg) → EndInTime (sides (over h e) ts) → EndInTime (sides e ts)
narrow e h [] k = tt
narrow e h (t ∷ later) k = (k.0, narrow (end_behind e t) h later k.1)

last_grows : (a b : History) (o : Option ℕ) → BeginsHistory a b → IfSome o (IsLast a) → IfSome o (IsLast b)
last_grows a b None begins k = tt
last_grows a b (Some n) begins k =
    let same : a ≡ b = begins.alone k.marked in
    record { marked = ap (λ (h : History). h.finished) (sym same) ∙ k.marked; last = k.last ∙ ap (λ (h : History). length h.made) same }

last_of : (a : History) (o : Option ℕ) (n : ℕ) → o ≡ Some n → IfSome o (IsLast a) → IsLast a n
last_of a None n e k = absurd (cc e)
last_of a (Some m) n e k = subst (λ (j : ℕ). IsLast a j) (same_Some m n e) k

module _ {S K D N C J : Type 0} (G : Ghosts J) (told : G.tells) (sees : Sees S K D N C) (role : Role) (link : Link) (h : History) (i : List InboxRecord) (entries : IsOutbox h.made)
    (before after : SessionOutside S K D N C) (outboxes inboxes : List ℕ → Type 0) (lives : List Served)
    (out_at : IsAt sees outboxes before.out_disk) (in_at : IsAt sees inboxes before.in_disk)
    (later : Comes h i (end_of role link) (sees.may_leave after.out_disk) (sees.may_leave after.in_disk) lives) where
  -- no life was lived
  unlived : Unlived sees before after → Comes h i (end_of role link) outboxes inboxes lives
  unlived kept = record {
    opened = later.opened;
    waiting = later.waiting;
    out_was = kept_was sees outboxes before.out_disk after.out_disk (records_of_history later.opened) out_at kept.outbox later.out_was;
    in_was = kept_was sees inboxes before.in_disk after.in_disk (records_of_inbox later.waiting) in_at kept.inbox later.in_was;
    begins = later.begins;
    way = later.way;
  }

  -- one was, with OUT as it had gone on
  module _ (begun : K) (mine : Link) (same : IsOf link mine) (senders : Senders) (old new : Inbox J G) (result : Result (Unit {0}) ServeFault)
      (v : LivedOver sees (end_of role mine) senders (record before { out = begun }) after old new result) where
    abbrev config : EndConfig
    config = end_of role mine

    abbrev at : LifeAt J G
    at = life_at (sees.carried before.dialer) (sees.taken begun) v.opening old

    abbrev behind : LifeAt J G
    behind = life_at (sees.carried after.dialer) (sees.taken after.out) v.seen new

    abbrev m : State
    m = fresh config (opened_state v.opening old) (2 ^ 26)

    abbrev k : ServedLife G.tells at behind m v.connections
    k = v.served.life

    fits_so : LinkFits mine
    fits_so = same.fits

    -- what the next life found of both boxes
    out_image : IsImage (outbox_of v.closing) v.lost (outbox_of later.opened)
    out_image = same_image record_of out_tells (outbox_of v.closing) v.lost (outbox_of later.opened)
        (image_left (sees.may_leave after.out_disk) (records_of_history v.closing) (map record_of v.lost) (records_of_history later.opened) v.out_left later.out_was)

    in_image : IsImage (v.inbox ++ adds_of (all_of k.ended k.given_up)) (refused_of_all (option_to_list k.given_up)) later.waiting
    in_image = same_image in_boxes.record_of in_tells (v.inbox ++ adds_of (all_of k.ended k.given_up)) (refused_of_all (option_to_list k.given_up)) later.waiting
        (v.in_left (Some (records_of_inbox later.waiting)) later.in_was)

    closing_found : BeginsHistory v.closing later.opened
    closing_found = begins_records v.closing later.opened (out_image.kept, sym out_image.holds)

    closing_left : BeginsHistory v.closing h
    closing_left = begins_on v.closing later.opened h closing_found later.begins

    opening_left : BeginsHistory v.opening h
    opening_left = begins_on v.opening v.closing h (went_on at behind m v.connections v.opening v.closing k refl v.begins) closing_left

    closing_entries : IsOutbox v.closing.made
    closing_entries = record {
      payloads = all_first (λ (e : Entry). IsApplication e.payload) v.closing.made closing_left.made.0
          (subst (λ (es : List Entry). AllByRecursion (λ (e : Entry). IsApplication e.payload) es) (sym closing_left.made.1) entries.payloads);
      few = let less = prefix_length v.closing.made h.made closing_left.made in let few = entries.few in omega (arith, less, few);
    }

    abbrev here : Served
    here = served_of at behind m v.connections k

    way : (e : End) → Found h (end_of role link) e v.opening v.inbox → Way h i (end_of role link) (here ∷ lives) e
    way e found = record {
      behind = rest.behind;
      legs = ts ++ rest.legs;
      links = links_append (turned (all_of k.ended k.given_up)) ts (legs_of lives) rest.legs legs.links rest.links;
      path = opens j reopens (along j rest.behind ts rest.legs makes rest.path);
      found = rest.found;
      closes = λ x.
          let both = along_in_time j rest.behind ts rest.legs makes rest.path x in
          all_append ClosesInTime k.ended (ended_of lives) (legs.close (narrow mine_end h ts both.0)) (rest.closes both.1);
      left = λ x f. left_so lives rest x f;
      over = λ s f. over_so lives rest s f;
    }
      where
        next : next_number v.inbox ≤ 2 ^ 26 + 1
        next = let is = found.next in let within = found.within in omega (arith, is, within)

        mine_end : End
        mine_end = record { outbox = v.closing; state = m; inbox = v.inbox }

        stays : Stays mine_end
        stays = living.opens at behind v.opening v.closing config v.connections v.inbox v.holds k told refl v.begins closing_entries fits_so.session fits_so.keepalive fits_so.credentials next

        legs : Legs mine_end k.ended k.given_up here.line here.machine later.waiting
        legs = living.legs at behind v.opening v.closing config v.connections v.inbox v.holds k told refl v.begins closing_entries fits_so.session fits_so.keepalive fits_so.credentials next later.waiting in_image

        ts : List TurnedLeg
        ts = turned k.ended ++ legs.given

        j : End
        j = over h mine_end

        makes : AllByRecursion MakesTurns (sides j ts)
        makes = widen_all mine_end h ts closing_left entries legs.makes

        config_is : SameSession (end_of role link) config
        config_is = same_session role link mine same

        opened_finish : IfSome m.facts.recorded.finish (λ n. n ≡ length h.made)
        opened_finish = by_mark v.opening.finished refl
          where
            by_mark : (b : Bool) → v.opening.finished ≡ b → IfSome (if b then Some (length v.opening.made) else None) (λ n. n ≡ length h.made)
            by_mark true f = ap (λ (x : History). length x.made) (opening_left.alone f)
            by_mark false f = tt

        reopens : Reopens e j
        reopens = record {
          outbox = sym found.outbox;
          ready = record { awaits = stays.ready.awaits; range = stays.ready.range; entries = entries };
          config = of_one_session (end_of role link) e.state.config config found.config_is config_is;
          most = sym found.most;
          next = v.holds.noticed.next ∙ found.next;
          last = v.holds.noticed.peer_last ∙ sym found.last;
          sent = found.sent;
          enough = prefix_length v.opening.made h.made opening_left.made;
          finish = opened_finish;
          kept = λ n f.
              let last : IsLast v.opening n = last_of v.opening e.state.facts.recorded.finish n f found.finish in
              ap (λ (b : Bool). if b then Some (length v.opening.made) else None) last.marked ∙ ap (λ (x : ℕ). Some x) (sym last.last);
        }

        closed : End
        closed = end_after mine_end ts

        kept : StaysBehind mine_end closed
        kept = stays_after mine_end ts stays legs.makes

        found_there : Found h (end_of role link) (over h closed) later.opened later.waiting
        found_there = record {
          outbox = refl;
          config_is = subst (λ (c : EndConfig). SameSession (end_of role link) c) (sym kept.alike.config) config_is;
          most = kept.alike.most;
          next = ap next_number (sym legs.inbox) ∙ sym kept.stays.ready.awaits;
          within = let next = kept.stays.ready.range.next in let most = kept.alike.most in omega (arith, next, most);
          last = kept.stays.last ∙ ap peer_last_in legs.inbox;
          sent = let sent = kept.stays.enough in let outbox = ap (λ (x : History). length x.made) kept.alike.outbox in let grown = prefix_length v.closing.made later.opened.made closing_found.made in
              omega (arith, sent, outbox, grown);
          finish = last_grows v.closing later.opened closed.state.facts.recorded.finish closing_found
              (subst (λ (x : History). IfSome closed.state.facts.recorded.finish (IsLast x)) kept.alike.outbox kept.stays.finish);
        }

        -- the last connection of the life is the last one, where none comes behind
        at_last : (P : End → TurnedLeg → Type 0) (us : List TurnedLeg) (f : End) (p : Path (end_after j ts) us f) → AllZip SameLink [] us
            → (l : Left P mine_end ts) → P (end_after j l.front) l.last → LeavesAt P j f (ts ++ us) (along j f ts us makes p)
        at_last P [] f p links l led = along_last P j f ts makes p l.front l.last l.are led
        at_last P (u ∷ us) f p links l led = absurd links

        -- whatever the outbox comes to have
        wide_led : (x : Line) (front : List TurnedLeg) (last : TurnedLeg) → LedTo (end_after mine_end front) last x → LedTo (end_after j front) last x
        wide_led x front last l = subst (λ (y : End). LedTo y last x) (sym (over_after mine_end h front)) (record { before = l.before; after = l.after; turns = l.turns })

        wide_ends : (s : State) (front : List TurnedLeg) (last : TurnedLeg) → EndsIn s (end_after mine_end front) last → EndsIn s (end_after j front) last
        wide_ends s front last (inl l) = inl (l.0, wide_led l.0 front last l.1, l.2)
        wide_ends s front last (inr e) = inr (ap (λ (y : End). (end_behind y last).state) (over_after mine_end h front) ∙ e)

        left_so : (ls : List Served) (w : Way h i (end_of role link) ls (end_after j ts)) (x : Line) → last_line (here ∷ ls) ≡ Some x
            → LeavesAt (λ f t. LedTo f t x) j w.behind (ts ++ w.legs) (along j w.behind ts w.legs makes w.path)
        left_so [] w x f =
            let l = legs.left x f in
            at_last (λ g t. LedTo g t x) w.legs w.behind w.path w.links l (wide_led x l.front l.last l.led)
        left_so (s ∷ later) w x f = along_leaves (λ g t. LedTo g t x) j w.behind ts w.legs makes w.path (w.left x f)

        over_so : (ls : List Served) (w : Way h i (end_of role link) ls (end_after j ts)) (s : State) → last_machine (here ∷ ls) ≡ Some s
            → LeavesAt (EndsIn s) j w.behind (ts ++ w.legs) (along j w.behind ts w.legs makes w.path)
        over_so [] w s f = let l = legs.over s f in at_last (EndsIn s) w.legs w.behind w.path w.links l (wide_ends s l.front l.last l.led)
        over_so (z ∷ later) w s f = along_leaves (EndsIn s) j w.behind ts w.legs makes w.path (w.over s f)

        rest : Way h i (end_of role link) lives (end_after j ts)
        rest = later.way (end_after j ts) (subst (λ (x : End). Found h (end_of role link) x later.opened later.waiting) (sym (over_after mine_end h ts)) found_there)

    lived_on : Comes h i (end_of role link) outboxes inboxes (here ∷ lives)
    lived_on = record {
      opened = v.opening;
      waiting = v.inbox;
      out_was = told_was sees outboxes before.out_disk (records_of_history v.opening) out_at v.out_opened;
      in_was = told_was sees inboxes before.in_disk (records_of_inbox v.inbox) in_at v.in_opened;
      begins = opening_left;
      way = way;
    }

  module _ (status : Status) (configured : (c : Configuration) → IsConfigured role (sees.left before.config) c → IsOf link c.link) where
    abbrev Now : List Served → Type 0
    Now some = Comes h i (end_of role link) outboxes inboxes (some ++ lives)

    by_life : (c : Configuration) → IsOf link c.link → (senders : Senders) → (l : LeftAll sees before after status ⊎ HasLivedOver G sees (end_of role c.link) senders before after status)
        → Now (served_in_life G sees role before after status (end_of role c.link) senders l)
    by_life c same senders (inl left) = unlived (unbegun_kept sees before after status left)
    by_life c same senders (inr lived) = lived_on before.out c.link same senders lived.old lived.new lived.result lived.over

    by_input : (c : Configuration) → IsOf link c.link → (l : StopsAtInput sees c.trade.senders before after status ⊎ Lived G sees c.trade.senders (end_of role c.link) before after status)
        → Now (served_behind_input G sees role before after status c l)
    by_input c same (inl refused) = unlived (input_kept sees before after status c.trade.senders refused)
    by_input c same (inr life) = by_life c same (submitting life.plans) life.lived

    by_config : (c : Configuration) → IsOf link c.link → (l : EndsBehindConfig G sees role c before after status) → Now (served_behind_config G sees role before after status c l)
    by_config c same (inl refused) = unlived (boxes_kept sees before after status role c refused)
    by_config c same (inr (inl on)) = by_input c same on.1.ended
    by_config c same (inr (inr on)) = by_life c same (answerers c.trade) on.1.lived.lived

    by_steps : (s : Steps G sees role before after status) → Now (served_in G sees role before after status s)
    by_steps (inl stopped) = unlived (config_kept sees before after status role stopped)
    by_steps (inr was) = by_config was.configuration (configured was.configuration was.spelled) was.ended

module _ {S I K A D N C J : Type 0} (G : Ghosts J) (told : G.tells) (sees : FeedSees S I K A D N C) (role : Role) (link : Link) (h : History) (i : List InboxRecord) (entries : IsOutbox h.made)
    (outboxes inboxes : List ℕ → Type 0) (lives : List Served) where
  abbrev Later : SessionOutside S K D N C → Type 0
  Later after = Comes h i (end_of role link) (sees.session.may_leave after.out_disk) (sees.session.may_leave after.in_disk) lives

  abbrev IsSpelled : SessionOutside S K D N C → Type 0
  IsSpelled before = (c : Configuration) → IsConfigured role (sees.session.left before.config) c → IsOf link c.link

  by_feeding : (before after : FeedOutside S I K A D N C) (status : Status) → ((d : D) → IsTrue (is_some (sees.session.told d))) → IsAt sees.session outboxes before.out_disk → IsAt sees.session inboxes before.in_disk → Later (session_of after)
      → IsSpelled (session_of before) → (s : FedSteps G sees role before after status)
      → Comes h i (end_of role link) outboxes inboxes (served_fed G sees role before after status (fed_life G sees role before after status s) ++ lives)
  by_feeding before after status tells out_at in_at later configured s = by_fed_life G sees role before after status tells
      (λ l. Comes h i (end_of role link) outboxes inboxes (served_fed G sees role before after status l ++ lives))
      (λ kept. unlived G told sees.session role link h i entries (session_of before) (session_of after) outboxes inboxes lives out_at in_at later kept)
      (λ l. lived_on G told sees.session role link h i entries (session_of before) (session_of after) outboxes inboxes lives out_at in_at later
      l.begun l.configuration.link (configured l.configuration l.spelled) (submitting (fed_plans l.configuration.trade.senders l.lived.opening.made l.lived.gifts)) l.lived.old l.lived.new l.lived.result
      (over_before G sees role before after status tells l)) s

  by_run : (r : Run S K D N C) → IsAt sees.session outboxes r.before.out_disk → IsAt sees.session inboxes r.before.in_disk → Later r.after → IsSpelled r.before → (s : IsRun G sees role r)
      → Comes h i (end_of role link) outboxes inboxes (served_of_run G sees role r s ++ lives)
  by_run r out_at in_at later configured (inl steps) = by_steps G told sees.session role link h i entries r.before r.after outboxes inboxes lives out_at in_at later r.status configured steps
  by_run r out_at in_at later configured (inr fed) = by_feeding fed.before fed.after r.status fed.tells
      (subst (λ (b : SessionOutside S K D N C). IsAt sees.session outboxes b.out_disk) fed.begins out_at)
      (subst (λ (b : SessionOutside S K D N C). IsAt sees.session inboxes b.in_disk) fed.begins in_at)
      (subst Later fed.ends later)
      (subst IsSpelled fed.begins configured)
      fed.steps

module _ {S I K A D N C J : Type 0} (G : Ghosts J) (told : G.tells) (sees : FeedSees S I K A D N C) (role : Role) (link : Link) (flows : Flows) (h : History) (i : List InboxRecord) (entries : IsOutbox h.made)
    (outbox inbox : List ℕ) (outbox_is : IsJournal outbox (records_of_history h)) (inbox_is : IsJournal inbox (records_of_inbox i)) where
  spelled_so : (r : Run S K D N C) → ConfiguresLink sees.session role link r → (c : Configuration) → IsConfigured role (sees.session.left r.before.config) c → IsOf link c.link
  spelled_so r k c spelled =
      let t = some_of (sees.session.left r.before.config) (HasLink role link) k in
      record { matches = t.2 c (spelled t.0 t.1); fits = configurations_fit role t.0 c (spelled t.0 t.1) }

  pub comes : (runs : List (Run S K D N C)) (outboxes inboxes : List ℕ → Type 0) (o : RunsOver sees.session (WasRun G sees role flows) runs outboxes inboxes outbox inbox) → AllByRecursion (ConfiguresLink sees.session role link) runs
      → Comes h i (end_of role link) outboxes inboxes (served_over G sees role flows outbox inbox runs outboxes inboxes o)
  comes [] outboxes inboxes o configured = record {
    opened = h;
    waiting = i;
    out_was = (outbox, o.0, outbox_is);
    in_was = (inbox, o.1, inbox_is);
    begins = begins_self h;
    way = λ e found. record { behind = e; legs = []; links = tt; path = arrives; found = found; closes = λ _. tt; left = λ x f. absurd (cc f); over = λ s f. absurd (cc f) };
  }
  comes (r ∷ later) outboxes inboxes o configured =
      by_run G told sees role link h i entries outboxes inboxes
      (served_over G sees role flows outbox inbox later (sees.session.may_leave r.after.out_disk) (sees.session.may_leave r.after.in_disk) o.3) r o.0 o.1
      (comes later (sees.session.may_leave r.after.out_disk) (sees.session.may_leave r.after.in_disk) o.3 configured.1) (spelled_so r configured.0) o.2.steps
