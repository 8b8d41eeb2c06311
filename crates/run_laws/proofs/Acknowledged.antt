-- What the lives of an end closed on stands in what is left in the end.
use Rattle.std.proofs.Common.{◌⊎◌, inl, inr, ℕ, List, [], ◌∷◌, ◌++◌, map, Some, Result, sym, ap, subst, ◌∙◌, append_assoc}
use Rattle.std.specs.Prelude.{IsTrue, is_some}
use mathlib.Core.List.{IsPrefix}
use Rattle.session_model.specs.Journal.{OutboxRecord, History, history_of, BeginsHistory}
use Rattle.session_model.specs.Lives.{IsImage}
use Rattle.session_model.proofs.Lists.{prefix_trans}
use Rattle.gate_turn.proofs.Histories.{begins_self, begins_on}
use Rattle.fixp_shake.specs.declared.config.EndConfig.{EndConfig}
use Rattle.fixp_shake.specs.declared.config.Role.{Role}
use Rattle.jr_dated.specs.declared.journal.Journal.{Ghosts}
use Rattle.cmd_session.specs.Journals.{IsJournal, Leaves}
use Rattle.jr_boxes.specs.Outboxes.{record_of, outbox_of, records_of_history}
use Rattle.jr_kept.specs.declared.inbox.Inbox.{Inbox}
use Rattle.cmd_base.specs.declared.status.Status.{Status}
use Rattle.conn_door.specs.declared.answer.ServeFault.{ServeFault}
use Rattle.cmd_config.specs.declared.configuration.Configuration.{Configuration}
use Rattle.life_laws.specs.Plans.{Senders, submitting}
use Rattle.cmd_session.specs.Answers.{answerers}
use Rattle.cmd_session.specs.Inputs.{end_of}
use Rattle.cmd_session.specs.Lived.{LeftAll, LivedOver, HasLivedOver, Lived}
use Rattle.cmd_session.specs.Outsides.{Sees}
use Rattle.cmd_session.specs.Steps.{StopsAtInput, EndsBehindConfig, Steps}
use Rattle.cmd_session.specs.declared.outside.SessionOutside.{SessionOutside}
use Rattle.cmd_feed.specs.declared.outside.FeedOutside.{FeedOutside}
use Rattle.cmd_feed.specs.Outsides.{FeedSees, session_of}
use Rattle.cmd_feed.specs.Steps.{Steps as FedSteps}
use Rattle.run_laws.specs.Several.{Run, IsEmptyJournal, IsAt, RunsOver, IsRun}
use Rattle.run_laws.specs.Standing.{LifeStands, BoxesStand, ConfigStands, StepsStand, FedStands, RunStands, AllStand, ClosingsStand}
use Rattle.run_laws.specs.FedLives.{fed_life}
use Rattle.cmd_session.proofs.Histories.{out_tells}
use Rattle.run_laws.proofs.Telling.{same_image}
use Rattle.run_laws.proofs.Ordered.{begins_within, history_of-records}
use Rattle.run_laws.proofs.Merely.{image_left}
use Rattle.run_laws.proofs.Ways.{Unlived, config_kept, boxes_kept, input_kept, unbegun_kept}
use Rattle.run_laws.proofs.Fed.{over_before, by_fed_life}
use Rattle.run_laws.proofs.Chaining.{told_was, kept_was}
use Rattle.run_laws.proofs.Submitted.{opening_closing}

-- what is left of these contents begins the history of the end
record Begun (outboxes : List ℕ → Type 0) (h : History) : Type 0 where
  opened : List OutboxRecord
  was : Leaves outboxes (Some (map record_of opened))
  begins : BeginsHistory (history_of opened) h

module _ {S K D N C : Type 0} (sees : Sees S K D N C) (h : History) (before after : SessionOutside S K D N C) (outboxes : List ℕ → Type 0) (at : IsAt sees outboxes before.out_disk) (later : Begun (sees.may_leave after.out_disk) h) where
  unlived : Unlived sees before after → Begun outboxes h
  unlived kept = record { opened = later.opened; was = kept_was sees outboxes before.out_disk after.out_disk (map record_of later.opened) at kept.outbox later.was; begins = later.begins }

  lived_on : {J : Type 0} {G : Ghosts J} {config : EndConfig} {senders : Senders} {old new : Inbox J G} {result : Result (Unit {0}) ServeFault} (v : LivedOver sees config senders before after old new result)
      → Begun outboxes h × BeginsHistory v.closing h
  lived_on v =
      let image : IsImage (outbox_of v.closing) v.lost later.opened =
      same_image record_of out_tells (outbox_of v.closing) v.lost later.opened
      (image_left (sees.may_leave after.out_disk) (records_of_history v.closing) (map record_of v.lost) (map record_of later.opened) v.out_left later.was) in
      let found : IsPrefix (outbox_of v.closing) later.opened = (image.kept, sym image.holds) in
      let within : IsPrefix later.opened (outbox_of v.whole) = (
        image.beginning.0,
        ap (λ (rs : List OutboxRecord). rs ++ image.beginning.0) image.holds
            ∙ (append_assoc (outbox_of v.closing) image.kept image.beginning.0 ∙ (ap (λ (rs : List OutboxRecord). outbox_of v.closing ++ rs) image.beginning.1 ∙ v.goes_on)),
      ) in
      let first : IsPrefix (outbox_of v.opening) later.opened = prefix_trans (outbox_of v.opening) (outbox_of v.closing) later.opened (opening_closing v) found in (
        record {
          opened = outbox_of v.opening;
          was = told_was sees outboxes before.out_disk (records_of_history v.opening) at v.out_opened;
          begins = begins_on (history_of (outbox_of v.opening)) (history_of later.opened) h (begins_within (outbox_of v.opening) later.opened v.whole first within) later.begins;
        },
        subst (λ (x : History). BeginsHistory x h) (history_of-records v.closing)
            (begins_on (history_of (outbox_of v.closing)) (history_of later.opened) h (begins_within (outbox_of v.closing) later.opened v.whole found within) later.begins),
      )

module _ {S K D N C J : Type 0} (G : Ghosts J) (sees : Sees S K D N C) (role : Role) (h : History) (before after : SessionOutside S K D N C) (status : Status)
    (outboxes : List ℕ → Type 0) (at : IsAt sees outboxes before.out_disk) (later : Begun (sees.may_leave after.out_disk) h) where
  none_lived : Unlived sees before after → Begun outboxes h
  none_lived kept = unlived sees h before after outboxes at later kept

  by_life : (config : EndConfig) (senders : Senders) (l : LeftAll sees before after status ⊎ HasLivedOver G sees config senders before after status)
      → Begun outboxes h × LifeStands G sees role before after status h config senders l
  by_life config senders (inl left) = (none_lived (unbegun_kept sees before after status left), tt)
  by_life config senders (inr lived) = lived_on sees h before after outboxes at later lived.over

  by_boxes : (c : Configuration) (l : StopsAtInput sees c.trade.senders before after status ⊎ Lived G sees c.trade.senders (end_of role c.link) before after status)
      → Begun outboxes h × BoxesStand G sees role before after status h c l
  by_boxes c (inl refused) = (none_lived (input_kept sees before after status c.trade.senders refused), tt)
  by_boxes c (inr on) = by_life (end_of role c.link) (submitting on.plans) on.lived

  by_config : (c : Configuration) (l : EndsBehindConfig G sees role c before after status) → Begun outboxes h × ConfigStands G sees role before after status h c l
  by_config c (inl refused) = (none_lived (boxes_kept sees before after status role c refused), tt)
  by_config c (inr (inl on)) = by_boxes c on.1.ended
  by_config c (inr (inr on)) = by_life (end_of role c.link) (answerers c.trade) on.1.lived.lived

  by_steps : (l : Steps G sees role before after status) → Begun outboxes h × StepsStand G sees role before after status h l
  by_steps (inl stopped) = (none_lived (config_kept sees before after status role stopped), tt)
  by_steps (inr was) = by_config was.configuration was.ended

module _ {S I K A D N C J : Type 0} (G : Ghosts J) (sees : FeedSees S I K A D N C) (role : Role) (h : History) (outboxes : List ℕ → Type 0) where
  by_feeding : (before after : FeedOutside S I K A D N C) (status : Status) → ((d : D) → IsTrue (is_some (sees.session.told d))) → IsAt sees.session outboxes before.out_disk → Begun (sees.session.may_leave after.out_disk) h
      → (l : FedSteps G sees role before after status) → Begun outboxes h × FedStands G sees role h before after status (fed_life G sees role before after status l)
  by_feeding before after status tells at later l = by_fed_life G sees role before after status tells (λ o. Begun outboxes h × FedStands G sees role h before after status o)
      (λ kept. (unlived sees.session h (session_of before) (session_of after) outboxes at later kept, tt))
      (λ x. lived_on sees.session h (session_of (record before { out = x.begun })) (session_of after) outboxes at later (over_before G sees role before after status tells x)) l

  by_run : (r : Run S K D N C) → IsAt sees.session outboxes r.before.out_disk → Begun (sees.session.may_leave r.after.out_disk) h → (l : IsRun G sees role r) → Begun outboxes h × RunStands G sees role h r l
  by_run r at later (inl steps) = by_steps G sees.session role h r.before r.after r.status outboxes at later steps
  by_run r at later (inr fed) = by_feeding fed.before fed.after r.status fed.tells (subst (λ (b : SessionOutside S K D N C). IsAt sees.session outboxes b.out_disk) fed.begins at)
      (subst (λ (a : SessionOutside S K D N C). Begun (sees.session.may_leave a.out_disk) h) fed.ends later) fed.steps

module _ {S I K A D N C J : Type 0} (G : Ghosts J) (sees : FeedSees S I K A D N C) (role : Role) (h : History) (outbox inbox : List ℕ) (is : IsJournal outbox (records_of_history h)) where
  all_stand : (runs : List (Run S K D N C)) (outboxes inboxes : List ℕ → Type 0) (over : RunsOver sees.session (IsRun G sees role) runs outboxes inboxes outbox inbox)
      → Begun outboxes h × AllStand G sees role h outbox inbox runs outboxes inboxes over
  all_stand [] outboxes inboxes over = (
    record { opened = outbox_of h; was = (outbox, over.0, is); begins = subst (λ (x : History). BeginsHistory x h) (sym (history_of-records h)) (begins_self h) },
    tt,
  )
  all_stand (r ∷ later) outboxes inboxes over =
      let rest = all_stand later (sees.session.may_leave r.after.out_disk) (sees.session.may_leave r.after.in_disk) over.3 in
      let here = by_run G sees role h outboxes r over.0 rest.0 over.2 in
      (here.0, (here.1, rest.1))

pub closings_stand : {S I K A D N C J : Type 0} (G : Ghosts J) (sees : FeedSees S I K A D N C) → ClosingsStand G sees
closings_stand G sees role h outbox inbox runs over is = (all_stand G sees role h outbox inbox is runs IsEmptyJournal IsEmptyJournal over).1
