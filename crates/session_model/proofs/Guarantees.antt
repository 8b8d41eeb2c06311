-- The session guarantee.
use Rattle.std.proofs.Common.{◌≡◌, List, [], ◌∷◌, length, None, refl, sym, subst, ◌∙◌, arith}
use Rattle.std.specs.List.{AllByRecursion}
use Rattle.session_model.specs.Journal.{Entry, entries, payloads, counts_from}
use Rattle.session_model.specs.Inbox.{InboxRecord, applied, skips, numbers_of}
use Rattle.session_model.specs.Events.{Event, TrueOfJournal, Rising}
use Rattle.session_model.specs.Growth.{Flow, recoverable, idempotent, unsequenced, no_flow, GrownThrough, AppliesPrefix, SettlesOnce}
use Rattle.session_model.specs.Lives.{Life, accepted_of, written_of, KeepsContract, connections_of}
use Rattle.session_model.specs.Guarantee.{OneEnd, Session, SessionTurnsRound, SessionBegins, GrownFromPeer, RecoverableGuarantee, IdempotentGuarantee, UnsequencedGuarantee, NoFlowGuarantee, SendersGuarantee, ReportsGuarantee}
use Rattle.session_model.proofs.Lists.{all_first}
use Rattle.session_model.proofs.Through.{through_keeps, no_events_grow_nothing}
use Rattle.session_model.proofs.Recoverable.{recoverable_keeps_prefix}
use Rattle.session_model.proofs.Idempotent.{idempotent_keeps_once}
use Rattle.session_model.proofs.Unsequenced.{unsequenced_connections, unsequenced_counted}
use Rattle.session_model.proofs.Carried.{linked_carries, fronts_begin, linked_turned, carried_fronts, carried_true, carried_rising}
use Rattle.session_model.proofs.Chains.{chained_splits, order_kept, closings_stand, plan_kept, wrote_true, wrote_rising, handshakes_of, begins_of, read_processed}
use Rattle.session_model.proofs.Finishes.{done_kept, reports_kept}

pub session_turns_round : SessionTurnsRound
session_turns_round a b s = record {
  chained_a = s.chained_b;
  chained_b = s.chained_a;
  contract_a = s.contract_b;
  contract_b = s.contract_a;
  linked = linked_turned (connections_of a.lives) (connections_of b.lives) s.linked;
}

pub session_begins : SessionBegins
session_begins a b later_a later_b s linked =
    let first = (chained_splits [] a.outbox [] a.inbox a.lives later_a).0 s.chained_a in
    let second = (chained_splits [] b.outbox [] b.inbox b.lives later_b).0 s.chained_b in (
      first.0,
      second.0,
      first.1,
      second.1,
      record {
        chained_a = first.2;
        chained_b = second.2;
        contract_a = all_first (KeepsContract a.flow b.flow a.plan) a.lives later_a s.contract_a;
        contract_b = all_first (KeepsContract b.flow a.flow b.plan) b.lives later_b s.contract_b;
        linked = linked;
      },
    )

-- what b processed of a is true of any outbox that a may have left, where all that a wrote is
processed_true : (a b : OneEnd Flow Life) (s : Session a b) (h : List Entry) → AllByRecursion (TrueOfJournal h None) (written_of (connections_of a.lives))
    → AllByRecursion (TrueOfJournal h None) (read_processed b.flow a.flow b.plan b.lives [] b.outbox [] b.inbox s.contract_b s.chained_b).events
processed_true a b s h wrote =
    let read = read_processed b.flow a.flow b.plan b.lives [] b.outbox [] b.inbox s.contract_b s.chained_b in
    let ws = written_of (connections_of a.lives) in
    let cs = accepted_of (connections_of b.lives) in
    carried_true h ws read.events (carried_fronts ws cs read.events (linked_carries (connections_of a.lives) (connections_of b.lives) s.linked) read.fronts)
    (handshakes_of a.flow b.flow a.plan a.lives s.contract_a) (fronts_begin read.events cs read.fronts (begins_of b.flow a.flow b.plan b.lives s.contract_b)) wrote

-- the inbox of b is grown over what the connections of a carried
grown_from_peer : (a b : OneEnd Flow Life) → Session a b → GrownFromPeer a b
grown_from_peer a b s =
    let read = read_processed b.flow a.flow b.plan b.lives [] b.outbox [] b.inbox s.contract_b s.chained_b in
    record {
      processed = read.events;
      all = read.all;
      from_peer = carried_fronts (written_of (connections_of a.lives)) _ read.events (linked_carries (connections_of a.lives) (connections_of b.lives) s.linked) read.fronts;
      grown = read.grown;
    }

-- what is grown from a over its flow, whatever that is
flow_grown : (a b : OneEnd Flow Life) (flow : Flow) → a.flow ≡ flow → (g : GrownFromPeer a b) → GrownThrough flow g.processed [] b.inbox
flow_grown a b flow is g = subst (λ f. GrownThrough f g.processed [] b.inbox) is g.grown

-- and the contracts of its lives
flow_contract : (a : OneEnd Flow Life) (peer flow : Flow) → a.flow ≡ flow → AllByRecursion (KeepsContract a.flow peer a.plan) a.lives
    → AllByRecursion (KeepsContract flow peer a.plan) a.lives
flow_contract a peer flow is all = subst (λ f. AllByRecursion (KeepsContract f peer a.plan) a.lives) is all

pub recoverable_guarantee : RecoverableGuarantee
unfolding grown_from_peer
recoverable_guarantee a b is s =
    let h = entries a.outbox in
    let g = grown_from_peer a b s in
    let wrote = wrote_true recoverable b.flow a.plan a.lives [] a.outbox [] a.inbox (λ _ _ _ w. w) (flow_contract a b.flow recoverable is s.contract_a) s.chained_a in
    let start : AppliesPrefix h [] = record { prefix = (payloads h, refl); counted = refl; whole = refl } in (
      through_keeps recoverable (AppliesPrefix h) (TrueOfJournal h None) (λ es before after t grown kept. recoverable_keeps_prefix h None es before after t grown kept)
          g.processed [] b.inbox (processed_true a b s h wrote) (flow_grown a b recoverable is g) start,
      g,
    )

pub idempotent_guarantee : IdempotentGuarantee
unfolding grown_from_peer
idempotent_guarantee a b is s =
    let h = entries a.outbox in
    let g = grown_from_peer a b s in
    let wrote = wrote_true idempotent b.flow a.plan a.lives [] a.outbox [] a.inbox (λ _ _ _ w. w) (flow_contract a b.flow idempotent is s.contract_a) s.chained_a in
    let start : SettlesOnce h [] = record { once = λ n. refl; entries = tt; within = omega arith } in (
      through_keeps idempotent (SettlesOnce h) (TrueOfJournal h None) (λ es before after t grown kept. idempotent_keeps_once h None es before after t grown kept)
          g.processed [] b.inbox (processed_true a b s h wrote) (flow_grown a b idempotent is g) start,
      g,
    )

-- of whatever lists, each is one
each_is_one : (lists : List (List Event)) → AllByRecursion (λ _. Unit {0}) lists
each_is_one [] = tt
each_is_one (es ∷ lists) = (tt, each_is_one lists)

pub unsequenced_guarantee : UnsequencedGuarantee
unsequenced_guarantee a b is s =
    let h = entries a.outbox in
    let g = grown_from_peer a b s in
    let grown = flow_grown a b unsequenced is g in
    let P : List InboxRecord → Type 0 = λ i. (numbers_of (applied i) ≡ counts_from 1 (length (applied i))) × (skips i ≡ []) in
    let counted : P b.inbox = through_keeps unsequenced P (λ _. Unit {0}) (λ es before after t grown kept. unsequenced_counted es before after grown kept.0 kept.1)
    g.processed [] b.inbox (each_is_one g.processed) grown (refl, refl) in
    let wrote = wrote_rising b.flow a.plan a.lives [] a.outbox [] a.inbox (flow_contract a b.flow unsequenced is s.contract_a) s.chained_a in (
      record {
        rising = subst (λ ps. Rising h 0 ps) (sym (unsequenced_connections g.processed [] b.inbox grown))
            (carried_rising h (written_of (connections_of a.lives)) g.processed g.from_peer 0 wrote);
        counted = counted.0;
        whole = counted.1;
      },
      g,
    )

pub no_flow_guarantee : NoFlowGuarantee
no_flow_guarantee a b is s =
    let g = grown_from_peer a b s in
    let P : List InboxRecord → Type 0 = λ i. (applied i ≡ []) × (skips i ≡ []) in
    through_keeps no_flow P (λ _. Unit {0})
    (λ es before after t grown kept. let same = no_events_grow_nothing no_flow None before after grown in (same.0 ∙ kept.0, same.1 ∙ kept.1))
    g.processed [] b.inbox (each_is_one g.processed) (flow_grown a b no_flow is g) (refl, refl)

pub senders_guarantee : SendersGuarantee
senders_guarantee own peer goes c all = record {
  in_order = order_kept own.flow peer own.plan own.lives [] own.outbox [] own.inbox all c (λ s. refl);
  acknowledged = closings_stand own.flow peer own.plan own.lives [] own.outbox [] own.inbox all c;
  planned = λ s. plan_kept own.flow peer own.plan own.lives [] own.outbox [] own.inbox s goes all c (own.plan s [], refl);
  finished = done_kept own.flow peer own.plan own.lives [] own.outbox [] own.inbox goes all c (λ s. (own.plan s [], refl)) (λ f. absurd (cc f));
}

pub reports_guarantee : ReportsGuarantee
reports_guarantee own peer c all = reports_kept own.flow peer own.plan own.lives [] own.outbox [] own.inbox all c
