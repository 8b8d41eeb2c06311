-- A run keeps its session, in the words of the session model.
use Rattle.std.proofs.Common.{◌≡◌, inl, inr, ℕ, List, ◌++◌, map, Some, None, Result, sym, ap, subst, ◌∙◌, ◌<◌, arith}
use Rattle.std.specs.Prelude.{IsSomeAnd}
use Rattle.std.specs.Option.{ForSome}
use Rattle.session_model.specs.Journal.{OutboxRecord}
use Rattle.session_model.specs.Inbox.{InboxRecord}
use Rattle.session_model.specs.Lives.{Life, KeepsContract}
use Rattle.fixp_msgs.specs.declared.flow.Flow.{Flow}
use Rattle.fixp_machine.specs.Accepting.{model_flow}
use Rattle.fixp_shake.specs.declared.config.EndConfig.{EndConfig}
use Rattle.fixp_shake.specs.declared.config.Role.{Role}
use Rattle.plan_text.specs.Plans.{HasPlans}
use Rattle.turn_laws.specs.MachineLives.{life_in}
use Rattle.turn_laws.specs.LoopLives.{machine_life}
use Rattle.jr_dated.specs.declared.journal.Journal.{Ghosts}
use Rattle.jr_record.specs.declared.record.Record.{Record}
use Rattle.cmd_session.specs.Journals.{IsJournal}
use Rattle.jr_boxes.specs.Outboxes.{record_of, records_of_history}
use Rattle.jr_boxes.specs.Inboxes.{records_of_inbox}
use Rattle.jr_kept.specs.declared.inbox.Inbox.{Inbox}
use Rattle.cmd_config.specs.Settings.{own_flow, peer_flow}
use Rattle.conn_door.specs.declared.answer.ServeFault.{ServeFault}
use Rattle.conn_serve.specs.Connections.{all_of, adds_of}
use Rattle.life_laws.specs.Plans.{plan_in, submitting}
use Rattle.cmd_session.specs.Inputs.{end_of}
use Rattle.cmd_session.specs.Lived.{LeavesImages, LivedOver}
use Rattle.cmd_session.specs.Outsides.{Sees}
use Rattle.cmd_session.specs.declared.outside.SessionOutside.{SessionOutside}
use Rattle.run_laws.specs.Senders.{HasNoDesks}
use Rattle.run_laws.specs.Several.{Run, Flows, HasFlows}
use Rattle.run_laws.specs.Promise.{LivedOne, KeepsSession, RunKeeps}
use Rattle.run_laws.proofs.Refusing.{some_of}
use Rattle.run_laws.proofs.Merely.{image_left, none_left}
use Rattle.run_laws.proofs.Ways.{Ways, ways_of}

-- nothing is left but images, said outright
all_images : (may_leave : List ℕ → Type 0) (closing refused : List Record) → ∥ LeavesImages may_leave closing refused ∥₁ → LeavesImages may_leave closing refused
all_images may_leave closing refused merely None left = none_left may_leave closing refused merely left
all_images may_leave closing refused merely (Some records) left = image_left may_leave closing refused records merely left

module _ {J : Type 0} {G : Ghosts J} {S K D N C : Type 0} (sees : Sees S K D N C) (config : EndConfig) (plans : List (List (List ℕ))) (before after : SessionOutside S K D N C) (old new : Inbox J G)
    (result : Result (Unit {0}) ServeFault) (t : G.tells) (v : LivedOver sees config (submitting plans) before after old new result) where
  abbrev life : Life
  life = life_in (machine_life (v.life t).life)

  lived_one : (own peer : Flow) → config.own_flow ≡ own → config.peer_flow ≡ peer → (senders : ℕ) → ForSome (sees.left before.input) (λ text. HasPlans senders text plans) → LivedOne sees own peer before after
  lived_one own peer own_is peer_is senders planned = record {
    senders = senders;
    plans = plans;
    planned = planned;
    life = life;
    keeps = subst (λ (f : Flow). KeepsContract (model_flow f) (model_flow peer) (plan_in plans) life) own_is
        (subst (λ (f : Flow). KeepsContract (model_flow config.own_flow) (model_flow f) (plan_in plans) life) peer_is (v.contract t));
    out_opened = subst (λ (rs : List OutboxRecord). ForSome (sees.told before.out_disk) (λ content. IsJournal content (map record_of rs))) (sym (v.life t).outboxes.0) v.out_opened;
    in_opened = subst (λ (rs : List InboxRecord). ForSome (sees.told before.in_disk) (λ content. IsJournal content (records_of_inbox rs))) (sym (v.life t).inbox.0) v.in_opened;
    out_left = subst (λ (rs : List OutboxRecord). LeavesImages (sees.may_leave after.out_disk) (map record_of rs) (map record_of life.refused_outbox)) (sym (v.life t).outboxes.1)
        (subst (λ (rs : List OutboxRecord). LeavesImages (sees.may_leave after.out_disk) (records_of_history v.closing) (map record_of rs)) (sym (v.life t).outboxes.2)
        (all_images (sees.may_leave after.out_disk) (records_of_history v.closing) (map record_of v.lost) v.out_left));
    in_left = subst (λ (rs : List InboxRecord). LeavesImages (sees.may_leave after.in_disk) (records_of_inbox rs) (records_of_inbox life.served.refused_inbox)) (sym (v.life t).inbox.1)
        (subst (λ (rs : List InboxRecord). LeavesImages (sees.may_leave after.in_disk) (records_of_inbox (v.inbox ++ adds_of (all_of v.served.life.ended v.served.life.given_up))) (records_of_inbox rs)) (sym (v.life t).inbox.2) v.in_left);
  }

module _ {S K D N C J : Type 0} (G : Ghosts J) (sees : Sees S K D N C) (role : Role) (flows : Flows) (r : Run S K D N C) (told : G.tells) where
  by_way : IsSomeAnd (sees.left r.before.config) (HasFlows role flows) → IsSomeAnd (sees.left r.before.config) (HasNoDesks role) → Ways G sees role r.before r.after r.status
      → KeepsSession sees (own_flow role flows.client flows.server) (peer_flow role flows.client flows.server) r.before r.after
  by_way config none (inl kept) = inl (record { outbox = kept.outbox; inbox = kept.inbox })
  by_way config none (inr (inr by)) =
      let t = some_of (sees.left r.before.config) (HasNoDesks role) none in
      let zero : by.configuration.trade.desks ≡ 0 = t.2 by.configuration (by.spelled t.0 t.1) in
      let some : 0 < by.configuration.trade.desks = by.some in
      absurd (omega (arith, zero, some))
  by_way config none (inr (inl by)) =
      let c = by.configuration in
      let t = some_of (sees.left r.before.config) (HasFlows role flows) config in
      let same : (c.link.client_flow ≡ flows.client) × (c.link.server_flow ≡ flows.server) = t.2 c (by.spelled t.0 t.1) in
      inr (lived_one sees (end_of role c.link) by.plans r.before r.after by.lived.old by.lived.new by.lived.result told by.lived.over
      (own_flow role flows.client flows.server) (peer_flow role flows.client flows.server)
      (ap (λ (f : Flow). own_flow role f c.link.server_flow) same.0 ∙ ap (λ (f : Flow). own_flow role flows.client f) same.1)
      (ap (λ (f : Flow). peer_flow role f c.link.server_flow) same.0 ∙ ap (λ (f : Flow). peer_flow role flows.client f) same.1)
      c.trade.senders (λ text told. (by.planned text told).1))

pub run_keeps : {S K D N C J : Type 0} (G : Ghosts J) (sees : Sees S K D N C) → RunKeeps G sees
run_keeps G sees told role flows r config none steps = by_way G sees role flows r told config none (ways_of G sees role r.before r.after r.status steps)
