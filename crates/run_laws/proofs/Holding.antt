-- What two ends hold of each other behind any runs of both, whatever their journals held at first.
use Rattle.std.proofs.Common.{◌≡◌, ◌⊎◌, inl, inr, ℕ, ◌+◌, ◌≤◌, ◌^◌, List, [], ◌∷◌, ◌++◌, map, Option, Ok, refl, sym, ap, subst, ◌∙◌, arith}
use Rattle.std.specs.Prelude.{flat_map}
use Rattle.std.specs.List.{AllByRecursion, AllZip}
use Rattle.session_model.specs.Journal.{Entry, OutboxRecord, entries, History, BeginsHistory, history_of}
use Rattle.session_model.specs.Inbox.{InboxRecord, next_number}
use Rattle.session_model.specs.Lives.{KeepsOutbox, Chained}
use Rattle.session_model.specs.Guarantee.{OneEnd}
use Rattle.session_model.proofs.Lists.{prefix_self, all_first, all_second}
use Rattle.gate_turn.proofs.Histories.{begins_self}
use Rattle.fixp_msgs.specs.Payload.{IsApplication}
use Rattle.fixp_msgs.specs.declared.flow.Flow.{Flow}
use Rattle.fixp_msgs.specs.declared.flow.Flow.TheVariants as flows
use Rattle.fixp_shake.specs.declared.config.EndConfig.{EndConfig}
use Rattle.fixp_shake.specs.declared.config.Role.{Role}
use Rattle.fixp_shake.specs.declared.config.Role.TheVariants.{Initiator, Acceptor}
use Rattle.gw_links.specs.Links.{Carried}
use Rattle.two_ends.specs.GoingOn.{Boxes, HoldsOn}
use Rattle.two_ends.specs.Meeting.{Holds}
use Rattle.two_ends.proofs.GoingOn.{holding_goes_on}
use Rattle.turn_laws.specs.LoopLives.{LoopLife, legs_in, MayTurn}
use Rattle.turn_laws.specs.Legs.{TurnedLeg, given_on}
use Rattle.two_ends.specs.Loops.{IsStrangeTo, LinkedLinks, no_more, left_alone, right_alone, paired, configs_of, lives_of}
use Rattle.two_ends.specs.Loops as links
use Rattle.two_ends.proofs.Ends.{loops_go_on}
use Rattle.jr_dated.specs.declared.journal.Journal.{Ghosts}
use Rattle.cmd_session.specs.Journals.{IsJournal}
use Rattle.cmd_session.proofs.Verdicts.{at_most_one_verdict}
use Rattle.jr_boxes.specs.Outboxes.{record_of, outbox_of, records_of_history}
use Rattle.jr_boxes.specs.Inboxes.{records_of_inbox}
use Rattle.cmd_config.specs.Settings.{own_flow, peer_flow}
use Rattle.life_laws.proofs.Outboxes.{entries-outbox_of}
use Rattle.life_laws.specs.Plans.{Senders}
use Rattle.cmd_config.specs.declared.configuration.Configuration.{Configuration}
use Rattle.cmd_session.specs.Inputs.{IsConfigured, configuration_at, end_of}
use Rattle.cmd_session.specs.Lived.{IsKept, HasLivedOver}
use Rattle.cmd_session.specs.Outsides.{Sees}
use Rattle.cmd_base.specs.declared.status.Status.{Status}
use Rattle.cmd_feed.specs.Outsides.{FeedSees}
use Rattle.run_laws.specs.Several.{Run, Flows, HasFlows, IsEmptyJournal, IsAt, brought, RunsOver, WasRun, HasRun}
use Rattle.stranger_laws.specs.Opening.{IsStrange}
use Rattle.run_laws.specs.Linked.{CarriedOn, config_in, config_by, configs_by}
use Rattle.run_laws.specs.Holding.{RunsHold}
use Rattle.run_laws.specs.GoingOn.{Held, none_held, IsOutboxOf, IsInboxOf, KeptBoth, KeptBetween, HasRunFrom, HasGoneOn, RunsGoOn}
use Rattle.run_laws.proofs.Refusing.{some_of}
use Rattle.run_laws.proofs.Telling.{same_outbox, same_inbox}
use Rattle.run_laws.proofs.Sending.{plan_of}
use Rattle.run_laws.proofs.Ordered.{history_of-records}
use Rattle.run_laws.proofs.Joined.{carried_are_linked, brought_none}
use Rattle.run_laws.proofs.Fitted.{configurations_fit}
use Rattle.run_laws.proofs.Fed.{Did, run_did}
use Rattle.run_laws.proofs.Chaining.{Comes, unlived, lived_on}

abbrev own : Role → Flows → Flow
own role flows = own_flow role flows.client flows.server

abbrev peer : Role → Flows → Flow
peer role flows = peer_flow role flows.client flows.server

module _ {S I K A D N C J : Type 0} (G : Ghosts J) (sees : FeedSees S I K A D N C) (role : Role) (flows : Flows) (o : List OutboxRecord) (i : List InboxRecord)
    (told : G.tells) (payloads : AllByRecursion (λ (e : Entry). IsApplication e.payload) (entries o)) (Strange : List ℕ → Type 0) where
  -- strange bytes are so to each configuration that the CONFIG of a run spells
  abbrev StrangeTo : Run S K D N C → Type 0
  StrangeTo r = (given : List ℕ) → Strange given → IsStrangeTo (config_by role (sees.session.left r.before.config)) given

  -- it was a run, or stands between two
  abbrev WasSo : Run S K D N C → Type 0
  WasSo r = WasRun G sees role flows r ⊎ KeptBoth sees.session r

  module _ (r : Run S K D N C) (carried : List (Option Carried)) (outboxes inboxes : List ℕ → Type 0)
      (out_at : IsAt sees.session outboxes r.before.out_disk) (in_at : IsAt sees.session inboxes r.before.in_disk) (strange : StrangeTo r)
      (later : Comes Strange (own role flows) (peer role flows) (sees.session.may_leave r.after.out_disk) (sees.session.may_leave r.after.in_disk) carried o i) where
    abbrev Now : Type 0
    Now = Comes Strange (own role flows) (peer role flows) outboxes inboxes (brought sees.session r ++ carried) o i

    kept : IsKept sees.session.told sees.session.may_leave r.before.out_disk r.after.out_disk → IsKept sees.session.told sees.session.may_leave r.before.in_disk r.after.in_disk
        → brought sees.session r ≡ [] → Now
    kept outbox inbox none =
        unlived G sees.session Strange (own role flows) (peer role flows) o i payloads r.before r.after carried outboxes inboxes out_at in_at later outbox inbox none

    -- it lived by these senders
    lived_by : WasRun G sees role flows r → (c : Configuration) → IsConfigured role (sees.session.left r.before.config) c → (begun : K) (senders : Senders) (answer : Status)
        → HasLivedOver G sees.session (end_of role c.link) senders (record r.before { out = begun }) r.after answer → Now
    lived_by was c is begun senders answer lived =
        let t = some_of (sees.session.left r.before.config) (HasFlows role flows) was.config in
        let spelled : configuration_at role t.0 ≡ Ok c = is t.0 t.1 in
        let same : (c.link.client_flow ≡ flows.client) × (c.link.server_flow ≡ flows.server) = t.2 c spelled in
        let fits = configurations_fit role t.0 c spelled in
        lived_on G sees.session Strange (own role flows) (peer role flows) o i payloads (record r.before { out = begun }) r.after carried outboxes inboxes out_at in_at later was.links told (end_of role c.link) senders answer lived
        (ap (λ (f : Flow). own_flow role f c.link.server_flow) same.0 ∙ ap (λ (f : Flow). own_flow role flows.client f) same.1)
        (ap (λ (f : Flow). peer_flow role f c.link.server_flow) same.0 ∙ ap (λ (f : Flow). peer_flow role flows.client f) same.1)
        fits.session fits.keepalive fits.credentials
        (λ given k. (subst (λ (configs : List EndConfig). IsStrangeTo configs given) (ap (λ (text : Option (List ℕ)). config_by role text) t.1 ∙ ap (λ w. config_in role w) spelled) (strange given k)).0)

    by_way : WasRun G sees role flows r → Did G sees.session role r.before r.after → Now
    by_way was (inl k) = kept k.outbox k.inbox (brought_none (sees.session.carried r.before.dialer) (sees.session.carried r.after.dialer) (ap sees.session.carried k.dialer_is))
    by_way was (inr by) = lived_by was by.configuration by.spelled by.begun by.senders by.answer by.lived

    step : WasSo r → Now
    step (inl was) = by_way was (run_did G sees role r was.steps)
    step (inr k) = kept k.outbox k.inbox k.links

  comes : (runs : List (Run S K D N C)) (outboxes inboxes : List ℕ → Type 0) (outbox inbox : List ℕ) → IsJournal outbox (map record_of o) → IsJournal inbox (records_of_inbox i)
      → RunsOver sees.session WasSo runs outboxes inboxes outbox inbox → ((given : List ℕ) → Strange given → IsStrangeTo (configs_by sees.session role runs) given)
      → Comes Strange (own role flows) (peer role flows) outboxes inboxes (flat_map (brought sees.session) runs) o i
  comes [] outboxes inboxes outbox inbox out_is in_is over strange = record {
    opened = o;
    waiting = i;
    lives = [];
    out_was = (outbox, over.0, out_is);
    in_was = (inbox, over.1, in_is);
    begins = prefix_self o;
    history = begins_self _;
    chained = (refl, refl);
    keeps = tt;
    may_turn = λ few. tt;
    links = tt;
    strange = λ given k. tt;
  }
  comes (r ∷ later) outboxes inboxes outbox inbox out_is in_is over strange =
      step r (flat_map (brought sees.session) later) outboxes inboxes over.0 over.1 (λ given k. all_first (λ cfg. IsStrange cfg given) (config_by role (sees.session.left r.before.config)) (configs_by sees.session role later) (strange given k))
      (comes later (sees.session.may_leave r.after.out_disk) (sees.session.may_leave r.after.in_disk) outbox inbox out_is in_is over.3
      (λ given k. all_second (λ cfg. IsStrange cfg given) (config_by role (sees.session.left r.before.config)) (configs_by sees.session role later) (strange given k)))
      over.2

-- what both journals hold, as the records of both boxes
abbrev boxes_of : Held → Boxes
boxes_of held = record { outbox = outbox_of held.history; inbox = held.inbox }

-- the lives of an end, from what it held at first on
pub record AreLives (Strange : List ℕ → Type 0) (own peer : Flow) (carried : List (Option Carried)) (first now : Held) : Type 0 where
  pub lives : List LoopLife
  pub begins : BeginsHistory first.history now.history
  pub chained : Chained (outbox_of first.history) first.inbox (lives_of lives) (outbox_of now.history) now.inbox
  pub keeps : AllByRecursion (KeepsOutbox (plan_of (outbox_of now.history))) (lives_of lives)
  pub may_turn : AllByRecursion (MayTurn own peer) lives
  pub links : AllZip CarriedOn carried (flat_map legs_in lives)
  pub strange : (given : List ℕ) → Strange given → IsStrangeTo (configs_of lives) given

module _ {S I K A D N C J : Type 0} (G : Ghosts J) (sees : FeedSees S I K A D N C) (role : Role) (flows : Flows) (first : Held) (runs : List (Run S K D N C)) (now : Held)
    (told : G.tells) (ran : HasRunFrom G sees role flows first runs now) where
  abbrev from_first : Type 0
  from_first = Comes (IsStrangeTo (configs_by sees.session role runs)) (own_flow role flows.client flows.server) (peer_flow role flows.client flows.server) (IsOutboxOf first) (IsInboxOf first) (flat_map (brought sees.session) runs) (outbox_of now.history) now.inbox

  came : from_first
  came = comes G sees role flows (outbox_of now.history) now.inbox told (subst (λ (es : List Entry). AllByRecursion (λ (e : Entry). IsApplication e.payload) es) (sym (entries-outbox_of now.history)) ran.payloads)
      (IsStrangeTo (configs_by sees.session role runs)) runs (IsOutboxOf first) (IsInboxOf first) ran.outbox ran.inbox ran.outbox_is ran.inbox_is ran.over (λ given k. k)

  opened_is : came.opened ≡ outbox_of first.history
  opened_is = same_outbox came.opened (outbox_of first.history)
      (at_most_one_verdict.one_list came.out_was.0 (map record_of came.opened) (records_of_history first.history) came.out_was.2 came.out_was.1)

  waiting_is : came.waiting ≡ first.inbox
  waiting_is = same_inbox came.waiting first.inbox
      (at_most_one_verdict.one_list came.in_was.0 (records_of_inbox came.waiting) (records_of_inbox first.inbox) came.in_was.2 came.in_was.1)

  begins_so : BeginsHistory first.history now.history
  begins_so = subst (λ (h : History). BeginsHistory h now.history) (history_of-records first.history)
      (subst (λ (h : History). BeginsHistory (history_of (outbox_of first.history)) h) (history_of-records now.history)
      (subst (λ (rs : List OutboxRecord). BeginsHistory (history_of rs) (history_of (outbox_of now.history))) opened_is came.history))

  pub are_lives : AreLives (IsStrangeTo (configs_by sees.session role runs)) (own_flow role flows.client flows.server) (peer_flow role flows.client flows.server) (flat_map (brought sees.session) runs) first now
  are_lives = record {
    lives = came.lives;
    begins = begins_so;
    chained = subst (λ (rs : List OutboxRecord). Chained rs first.inbox (lives_of came.lives) (outbox_of now.history) now.inbox) opened_is
        (subst (λ (rs : List InboxRecord). Chained came.opened rs (lives_of came.lives) (outbox_of now.history) now.inbox) waiting_is came.chained);
    keeps = came.keeps;
    may_turn = came.may_turn (subst (λ (rs : List InboxRecord). next_number rs ≤ 2 ^ 26 + 1) (sym waiting_is) ran.awaits);
    links = came.links;
    strange = came.strange;
  }

-- what is strange to some configurations is so to others
link_weaker : (A B C D : List EndConfig) → ((given : List ℕ) → IsStrangeTo A given → IsStrangeTo C given) → ((given : List ℕ) → IsStrangeTo B given → IsStrangeTo D given)
    → (ts us : List TurnedLeg) → LinkedLinks A B ts us → LinkedLinks C D ts us
link_weaker A B C D f g [] [] no_more = links.LinkedLinks.no_more
link_weaker A B C D f g (t ∷ ts) us (left_alone given rest) = links.LinkedLinks.left_alone (f (given_on t) given) (link_weaker A B C D f g ts us rest)
link_weaker A B C D f g ts (u ∷ us) (right_alone given rest) = links.LinkedLinks.right_alone (g (given_on u) given) (link_weaker A B C D f g ts us rest)
link_weaker A B C D f g (t ∷ ts) (u ∷ us) (paired x y rest) = links.LinkedLinks.paired x y (link_weaker A B C D f g ts us rest)

-- a reader whose inbox goes on over what a writer's outbox became
gone_on : (flow : Flow) (wrote writes held holds : Held) → BeginsHistory wrote.history writes.history
    → HoldsOn flow (entries (outbox_of wrote.history)) (entries (outbox_of writes.history)) held.inbox holds.inbox → HasGoneOn flow wrote writes held holds
gone_on flow wrote writes held holds begins on =
    let so : HoldsOn flow wrote.history.made writes.history.made held.inbox holds.inbox =
    subst (λ (es : List Entry). HoldsOn flow es writes.history.made held.inbox holds.inbox) (entries-outbox_of wrote.history)
    (subst (λ (es : List Entry). HoldsOn flow (entries (outbox_of wrote.history)) es held.inbox holds.inbox) (entries-outbox_of writes.history) on) in
    record {
      begins = begins;
      on = so;
      holding = λ before. holding_goes_on flow wrote.history.made writes.history.made held.inbox holds.inbox begins.made before so;
    }

pub runs_go_on : {S I K A D N C J : Type 0} (G : Ghosts J) (sees : FeedSees S I K A D N C) → RunsGoOn G sees
runs_go_on G sees told flows runs_i runs_a first_i first_a now_i now_a ran_i ran_a linked =
    let a = are_lives G sees Initiator flows first_i runs_i now_i told ran_i in
    let b = are_lives G sees Acceptor flows first_a runs_a now_a told ran_a in
    let end_i : OneEnd Flow LoopLife = record { flow = flows.client; plan = plan_of (outbox_of now_i.history); lives = a.lives; outbox = outbox_of now_i.history; inbox = now_i.inbox } in
    let end_a : OneEnd Flow LoopLife = record { flow = flows.server; plan = plan_of (outbox_of now_a.history); lives = b.lives; outbox = outbox_of now_a.history; inbox = now_a.inbox } in
    let both = loops_go_on (boxes_of first_i) (boxes_of first_a) end_i end_a (record {
      lives_a = a.may_turn;
      lives_b = b.may_turn;
      chained_a = a.chained;
      chained_b = b.chained;
      outboxes_a = a.keeps;
      outboxes_b = b.keeps;
      linked = link_weaker (configs_by sees.session Initiator runs_i) (configs_by sees.session Acceptor runs_a) (configs_of a.lives) (configs_of b.lives) a.strange b.strange (flat_map legs_in a.lives) (flat_map legs_in b.lives)
          (carried_are_linked (configs_by sees.session Initiator runs_i) (configs_by sees.session Acceptor runs_a) (flat_map (brought sees.session) runs_i) (flat_map (brought sees.session) runs_a) (flat_map legs_in a.lives) (flat_map legs_in b.lives) a.links b.links linked);
    }) in (
      gone_on flows.client first_i now_i first_a now_a a.begins both.0,
      gone_on flows.server first_a now_a first_i now_i b.begins both.1,
    )

-- runs with nothing between them
alone : {S K D N C : Type 0} (sees : Sees S K D N C) (Was Stood : Run S K D N C → Type 0) (runs : List (Run S K D N C)) (outboxes inboxes : List ℕ → Type 0) (outbox inbox : List ℕ)
    → RunsOver sees Was runs outboxes inboxes outbox inbox → RunsOver sees (λ r. Was r ⊎ Stood r) runs outboxes inboxes outbox inbox
alone sees Was Stood [] outboxes inboxes outbox inbox over = over
alone sees Was Stood (r ∷ later) outboxes inboxes outbox inbox over =
    (over.0, over.1, inl over.2, alone sees Was Stood later (sees.may_leave r.after.out_disk) (sees.may_leave r.after.in_disk) outbox inbox over.3)

-- runs from journals without records on
from_none : {S I K A D N C J : Type 0} (G : Ghosts J) (sees : FeedSees S I K A D N C) (role : Role) (flows : Flows) (runs : List (Run S K D N C)) (h : History) (i : List InboxRecord)
    → HasRun G sees role flows runs h i → HasRunFrom G sees role flows none_held runs (record { history = h; inbox = i })
from_none G sees role flows runs h i ran = record {
  awaits = omega arith;
  outbox = ran.outbox;
  inbox = ran.inbox;
  over = alone sees.session (WasRun G sees role flows) (KeptBoth sees.session) runs IsEmptyJournal IsEmptyJournal ran.outbox ran.inbox ran.over;
  outbox_is = ran.outbox_is;
  inbox_is = ran.inbox_is;
  payloads = ran.payloads;
}

-- who holds nothing holds of nothing what each flow promises
none_holds : (flow : Flow) → Holds flow [] []
none_holds flows.Recoverable = record { prefix = ([], refl); counted = refl; whole = refl }
none_holds flows.Idempotent = record { once = λ n. refl; entries = tt; within = omega arith }
none_holds flows.Unsequenced = record { rising = tt; counted = refl; whole = refl }
none_holds flows.None = (refl, refl)

pub runs_hold : {S I K A D N C J : Type 0} (G : Ghosts J) (sees : FeedSees S I K A D N C) → RunsHold G sees
runs_hold G sees told both runs_i runs_a h_i h_a i_i i_a ran_i ran_a linked =
    let on = runs_go_on G sees told both runs_i runs_a none_held none_held (record { history = h_i; inbox = i_i }) (record { history = h_a; inbox = i_a })
    (from_none G sees Initiator both runs_i h_i i_i ran_i) (from_none G sees Acceptor both runs_a h_a i_a ran_a) linked in (
      on.0.holding (none_holds both.client),
      on.1.holding (none_holds both.server),
    )

pub kept_between : {D : Type 0} (told : D → Option (List ℕ)) (may_leave : D → List ℕ → Type 0) → KeptBetween told may_leave
kept_between told may_leave = record {
  same = λ before after is. inl (record { tells = ap told is; leaves = λ content left. subst (λ d. may_leave d content) is left });
  read = λ before after k. inl (record { tells = k.content; leaves = k.images });
  refused = λ before after k. inl (record { tells = k.content; leaves = λ content left. (k.images content).0 left });
}
