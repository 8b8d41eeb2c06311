-- Runs of one end, one behind another, are lives of the loop, one behind another.
use Rattle.std.proofs.Common.{◌≡◌, inl, inr, ℕ, ◌+◌, ◌≤◌, ◌^◌, true, List, ◌∷◌, ◌++◌, map, length, Option, Some, refl, sym, ap, subst, ◌∙◌, arith, append_assoc, []}
use Rattle.std.specs.Prelude.{flat_map, option_to_list, is_some}
use Rattle.std.specs.List.{AllByRecursion, AllZip}
use mathlib.Core.List.{IsPrefix}
use Rattle.session_model.specs.Journal.{Entry, OutboxRecord, entries, history_of, BeginsHistory}
use Rattle.session_model.specs.Inbox.{InboxRecord, next_number}
use Rattle.session_model.specs.Lives.{IsImage, KeepsOutbox, Leads, Chained}
use Rattle.session_model.proofs.Lists.{prefix_self, prefix_trans, all_first}
use Rattle.session_model.proofs.Journals.{prefix_entries}
use Rattle.session_model.proofs.Images.{image_of_none}
use Rattle.gate_turn.proofs.Histories.{begins_on}
use Rattle.fixp_msgs.specs.Payload.{IsApplication}
use Rattle.fixp_msgs.specs.declared.flow.Flow.{Flow}
use Rattle.fixp_shake.specs.declared.config.EndConfig.{EndConfig}
use Rattle.fixp_machine.specs.Machine.{State, fresh}
use Rattle.connection_laws.specs.Living.{Opens}
use Rattle.connection_laws.specs.Ranges.{IsInRange}
use Rattle.gw_links.specs.Links.{Carried}
use Rattle.turn_laws.specs.Legs.{TurnedLeg}
use Rattle.turn_laws.specs.MachineLives.{life_in}
use Rattle.turn_laws.specs.LoopLives.{LoopLife, machine_life, legs_in, MayTurn}
use Rattle.two_ends.specs.Loops.{IsStrangeTo, configs_of, lives_of}
use Rattle.stranger_laws.specs.Opening.{IsStrange}
use Rattle.jr_dated.specs.declared.journal.Journal.{Ghosts}
use Rattle.jr_record.specs.declared.record.Record.{Record}
use Rattle.cmd_session.specs.Journals.{IsJournal, Leaves}
use Rattle.jr_boxes.specs.Outboxes.{record_of, outbox_of, records_of_history}
use Rattle.jr_boxes.specs.Inboxes as in_boxes
use Rattle.jr_boxes.specs.Inboxes.{records_of_inbox}
use Rattle.jr_kept.specs.Inbox.{next_of}
use Rattle.cmd_base.specs.declared.status.Status.{Status}
use Rattle.conn_serve.specs.Connections.{Connection, all_of, adds_of, refused_of_all}
use Rattle.conn_serve.specs.Served.{carried_by}
use Rattle.conn_serve.specs.Opening.{opened_state}
use Rattle.life_laws.specs.Lives.{LifeOfLoop}
use Rattle.life_laws.specs.Plans.{Senders}
use Rattle.life_laws.proofs.Loops.{life_may_turn}
use Rattle.life_laws.proofs.Opened.{opened_opens, opened_in_range}
use Rattle.life_laws.proofs.Outboxes.{entries-outbox_of, outbox_begins}
use Rattle.cmd_session.specs.Lived.{IsKept, LivedOver, HasLivedOver}
use Rattle.cmd_session.specs.Outsides.{Sees}
use Rattle.cmd_session.specs.declared.outside.SessionOutside.{SessionOutside}
use Rattle.run_laws.specs.Several.{brought_by, IsAt}
use Rattle.run_laws.specs.Linked.{CarriedOn}
use Rattle.run_laws.proofs.Refusing.{some_of}
use Rattle.cmd_session.proofs.Histories.{out_tells}
use Rattle.run_laws.proofs.Telling.{same_image, in_tells}
use Rattle.run_laws.proofs.Ordered.{begins_within}
use Rattle.run_laws.proofs.Sending.{plan_of, keeps_outbox}
use Rattle.run_laws.proofs.Bounded.{images_within}
use Rattle.run_laws.proofs.Joined.{zip_append, all_carried, brought_all}
use Rattle.run_laws.proofs.Merely.{image_left}

-- Lives that begin on such contents, and of which a stop may leave these records and this list. The outbox goes on from life to life, each keeps
-- it by what it has of each sender in the end; each may turn, where the first awaits no number past the greatest and one more; their links
-- carried this; and strange bytes are so to each of them
pub record Comes (Strange : List ℕ → Type 0) (own peer : Flow) (outboxes inboxes : List ℕ → Type 0) (carried : List (Option Carried)) (o : List OutboxRecord) (i : List InboxRecord) : Type 0 where
  pub opened : List OutboxRecord
  pub waiting : List InboxRecord
  pub lives : List LoopLife
  pub out_was : Leaves outboxes (Some (map record_of opened))
  pub in_was : Leaves inboxes (Some (records_of_inbox waiting))
  pub begins : IsPrefix opened o
  pub history : BeginsHistory (history_of opened) (history_of o)
  pub chained : Chained opened waiting (lives_of lives) o i
  pub keeps : AllByRecursion (KeepsOutbox (plan_of o)) (lives_of lives)
  pub may_turn : next_number waiting ≤ 2 ^ 26 + 1 → AllByRecursion (MayTurn own peer) lives
  pub links : AllZip CarriedOn carried (flat_map legs_in lives)
  pub strange : (given : List ℕ) → Strange given → IsStrangeTo (configs_of lives) given

module _ {S K D N C : Type 0} (sees : Sees S K D N C) where
  -- what a disk tells as a run begins is one of the contents that there were
  pub told_was : (contents : List ℕ → Type 0) (disk : D) (records : List Record) → IsAt sees contents disk → ((content : List ℕ) → sees.told disk ≡ Some content → IsJournal content records) → Leaves contents (Some records)
  told_was contents disk records at opened = let t = some_of (sees.told disk) contents at.tells in (t.0, t.2, opened t.0 t.1)

  -- what is left of a disk that was kept is what there was
  pub kept_was : (contents : List ℕ → Type 0) (before after : D) (records : List Record) → IsAt sees contents before → IsKept sees.told sees.may_leave before after → Leaves (sees.may_leave after) (Some records) → Leaves contents (Some records)
  kept_was contents before after records at (inl fewer) left = (left.0, at.leaves left.0 (fewer.leaves left.0 left.1), left.2)
  kept_was contents before after records at (inr k) left =
      let same : records ≡ k.records = image_of_none (λ (rs : List Record). rs ≡ k.records) k.records records refl (k.left (Some records) left) in
      subst (λ (rs : List Record). Leaves contents (Some rs)) (sym same) (told_was contents before k.records at k.held)

module _ {S K D N C J : Type 0} (G : Ghosts J) (sees : Sees S K D N C) (Strange : List ℕ → Type 0) (own peer : Flow) (o : List OutboxRecord) (i : List InboxRecord) (payloads : AllByRecursion (λ (e : Entry). IsApplication e.payload) (entries o))
    (before after : SessionOutside S K D N C) (carried : List (Option Carried)) (outboxes inboxes : List ℕ → Type 0)
    (out_at : IsAt sees outboxes before.out_disk) (in_at : IsAt sees inboxes before.in_disk)
    (later : Comes Strange own peer (sees.may_leave after.out_disk) (sees.may_leave after.in_disk) carried o i) where
  abbrev pub came : List (Option Carried)
  came = brought_by (sees.carried before.dialer) (sees.carried after.dialer)

  -- no life was lived
  pub unlived : IsKept sees.told sees.may_leave before.out_disk after.out_disk → IsKept sees.told sees.may_leave before.in_disk after.in_disk → came ≡ []
      → Comes Strange own peer outboxes inboxes (came ++ carried) o i
  unlived outbox inbox none = record {
    opened = later.opened;
    waiting = later.waiting;
    lives = later.lives;
    out_was = kept_was sees outboxes before.out_disk after.out_disk (map record_of later.opened) out_at outbox later.out_was;
    in_was = kept_was sees inboxes before.in_disk after.in_disk (records_of_inbox later.waiting) in_at inbox later.in_was;
    begins = later.begins;
    history = later.history;
    chained = later.chained;
    keeps = later.keeps;
    may_turn = later.may_turn;
    links = subst (λ (cs : List (Option Carried)). AllZip CarriedOn (cs ++ carried) (flat_map legs_in later.lives))
        (sym none) later.links;
    strange = later.strange;
  }

  module _ (told : is_some (sees.carried before.dialer) ≡ true) (t : G.tells) (config : EndConfig) (senders : Senders) (status : Status)
      (lived : HasLivedOver G sees config senders before after status) (own_is : config.own_flow ≡ own) (peer_is : config.peer_flow ≡ peer) (session : length config.session ≡ 16) (keepalive : config.keepalive ≤ 60000) (credentials : length config.credentials ≤ 2048)
      (strange : (given : List ℕ) → Strange given → IsStrange config given) where
    abbrev v : LivedOver sees config senders before after lived.old lived.new lived.result
    v = lived.over

    abbrev machine : State
    machine = fresh config (opened_state v.opening lived.old) (2 ^ 26)

    abbrev cs : List Connection
    cs = all_of v.served.life.ended v.served.life.given_up

    abbrev left : List InboxRecord
    left = refused_of_all (option_to_list v.served.life.given_up)

    -- what the next life found of both boxes
    out_image : IsImage (outbox_of v.closing) v.lost later.opened
    out_image = same_image record_of out_tells (outbox_of v.closing) v.lost later.opened
        (image_left (sees.may_leave after.out_disk) (records_of_history v.closing) (map record_of v.lost) (map record_of later.opened) v.out_left later.out_was)

    in_image : IsImage (v.inbox ++ adds_of cs) left later.waiting
    in_image = same_image in_boxes.record_of in_tells (v.inbox ++ adds_of cs) left later.waiting (v.in_left (Some (records_of_inbox later.waiting)) later.in_was)

    abbrev kept : List OutboxRecord
    kept = out_image.kept

    -- the life, of which a stop left that of the outbox
    abbrev life : LoopLife
    life = record (v.life t).life { refused_outbox = kept }

    is_life : LifeOfLoop (outbox_of v.opening) (outbox_of v.closing) kept machine v.inbox cs left
    is_life = record {
      life = life;
      outboxes = ((v.life t).outboxes.0, (v.life t).outboxes.1, refl);
      begins = (v.life t).begins;
      legs = (v.life t).legs;
      turns = (v.life t).turns;
      last = (v.life t).last;
      inbox = (v.life t).inbox;
      keeps = (v.life t).keeps;
    }

    closing_kept : life.closing_outbox ++ kept ≡ later.opened
    closing_kept = ap (λ (rs : List OutboxRecord). rs ++ kept) (v.life t).outboxes.1 ∙ sym out_image.holds

    -- how the outbox went on
    opened_closing : IsPrefix (outbox_of v.opening) (outbox_of v.closing)
    opened_closing = outbox_begins v.opening v.closing v.grows

    closing_found : IsPrefix (outbox_of v.closing) later.opened
    closing_found = (kept, sym out_image.holds)

    found_within : IsPrefix later.opened (outbox_of v.whole)
    found_within = (
      out_image.beginning.0,
      ap (λ (rs : List OutboxRecord). rs ++ out_image.beginning.0) out_image.holds
          ∙ (append_assoc (outbox_of v.closing) kept out_image.beginning.0 ∙ (ap (λ (rs : List OutboxRecord). outbox_of v.closing ++ rs) out_image.beginning.1 ∙ v.goes_on)),
    )

    opened_found : IsPrefix (outbox_of v.opening) later.opened
    opened_found = prefix_trans (outbox_of v.opening) (outbox_of v.closing) later.opened opened_closing closing_found

    keeps_its_outbox : KeepsOutbox (plan_of o) (life_in (machine_life life))
    keeps_its_outbox = keeps_outbox (life_in (machine_life life)) o (record {
      whole = v.whole;
      in_order = v.in_order;
      opened = (v.contract t).outbox.outbox_grows;
      within = subst (λ (rs : List OutboxRecord). IsPrefix rs (outbox_of v.whole)) (sym closing_kept) found_within;
      begins = subst (λ (rs : List OutboxRecord). BeginsHistory (history_of rs) (history_of o)) (sym closing_kept) later.history;
      grown = (_, sym (v.life t).keeps.inbox_adds);
    })

    leads : Leads (life_in (machine_life life)) (outbox_of v.opening) v.inbox later.opened later.waiting
    leads = record {
      opens_outbox = (v.life t).outboxes.0;
      opens_inbox = (v.life t).inbox.0;
      outbox_image = record { kept = kept; beginning = prefix_self kept; holds = sym closing_kept };
      inbox_image = subst (λ (rs : List InboxRecord). IsImage rs (life_in (machine_life life)).served.refused_inbox later.waiting) (sym (v.life t).inbox.1)
          (subst (λ (rs : List InboxRecord). IsImage (v.inbox ++ adds_of cs) rs later.waiting) (sym (v.life t).inbox.2) in_image);
    }

    -- it may turn
    opens : Opens (entries (outbox_of v.opening)) (entries (outbox_of v.closing)) machine v.inbox
    opens = subst (λ (es : List Entry). Opens es (entries (outbox_of v.closing)) machine v.inbox) (sym (entries-outbox_of v.opening))
        (opened_opens lived.old v.opening config (2 ^ 26) (entries (outbox_of v.closing)) v.inbox
        (subst (λ (es : List Entry). IsPrefix es (entries (outbox_of v.closing))) (entries-outbox_of v.opening) (prefix_entries (outbox_of v.opening) (outbox_of v.closing) opened_closing)) v.holds)

    closing_payloads : AllByRecursion (λ (e : Entry). IsApplication e.payload) (entries (outbox_of v.closing))
    closing_payloads =
        let p = prefix_entries (outbox_of v.closing) o (prefix_trans (outbox_of v.closing) later.opened o closing_found later.begins) in
        all_first (λ (e : Entry). IsApplication e.payload) (entries (outbox_of v.closing)) p.0 (subst (λ (es : List Entry). AllByRecursion (λ (e : Entry). IsApplication e.payload) es) (sym p.1) payloads)

    in_range : next_number v.inbox ≤ 2 ^ 26 + 1 → IsInRange machine
    in_range few = opened_in_range lived.old v.opening config (2 ^ 26) session keepalive credentials (omega arith)
        (let next : next_of lived.old ≡ next_number v.inbox = v.holds.noticed.next in omega (arith, next, few))

    may_turn_so : next_number v.inbox ≤ 2 ^ 26 + 1 → MayTurn own peer life
    unfolding is_life
    may_turn_so few =
        subst (λ (f : Flow). MayTurn f peer life) own_is (subst (λ (f : Flow). MayTurn config.own_flow f life) peer_is
        (life_may_turn (outbox_of v.opening) (outbox_of v.closing) kept machine v.inbox cs left is_life opens (in_range few) closing_payloads v.served.life.timely))

    next_found : next_number v.inbox ≤ 2 ^ 26 + 1 → next_number later.waiting ≤ 2 ^ 26 + 1
    next_found few =
        let most : life.state.most ≡ 2 ^ 26 = ap (λ (s : State). s.most) (v.life t).begins.0 in
        let found : next_number later.waiting ≤ life.state.most + 1 = images_within own peer life (may_turn_so few) later.waiting leads.inbox_image in
        omega (arith, most, found)

    -- its links carried what its turns say
    came_so : came ≡ carried_by cs
    came_so = brought_all (sees.carried before.dialer) (sees.carried after.dialer) (carried_by cs) told v.served.life.came

    links : AllZip CarriedOn came (legs_in life)
    links = subst (λ (xs : List (Option Carried)). AllZip CarriedOn xs (legs_in life)) (sym came_so)
        (subst (λ (ts : List TurnedLeg). AllZip CarriedOn (carried_by cs) ts) (sym (v.life t).legs)
        (all_carried v.opening v.served.life.behind v.seen machine v.served.life.mid v.served.life.ended v.served.life.given_up v.served.life.were v.served.life.gave_up))

    -- its machine has this configuration
    strange_to : (given : List ℕ) → Strange given → IsStrange life.state.config given
    strange_to given k = subst (λ (s : State). IsStrange s.config given) (sym (v.life t).begins.0) (strange given k)

    pub lived_on : Comes Strange own peer outboxes inboxes (came ++ carried) o i
    lived_on = record {
      opened = outbox_of v.opening;
      waiting = v.inbox;
      lives = life ∷ later.lives;
      out_was = told_was sees outboxes before.out_disk (records_of_history v.opening) out_at v.out_opened;
      in_was = told_was sees inboxes before.in_disk (records_of_inbox v.inbox) in_at v.in_opened;
      begins = prefix_trans (outbox_of v.opening) later.opened o opened_found later.begins;
      history = begins_on (history_of (outbox_of v.opening)) (history_of later.opened) (history_of o) (begins_within (outbox_of v.opening) later.opened v.whole opened_found found_within) later.history;
      chained = (later.opened, later.waiting, leads, later.chained);
      keeps = (keeps_its_outbox, later.keeps);
      may_turn = λ few. (may_turn_so few, later.may_turn (next_found few));
      links = zip_append came carried (legs_in life) (flat_map legs_in later.lives) links later.links;
      strange = λ given k. (strange_to given k, later.strange given k);
    }
