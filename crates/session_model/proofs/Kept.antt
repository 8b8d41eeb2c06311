-- The two parts of an end's contract.
use Rattle.std.proofs.Common.{◌≡◌, ℕ, ◌+◌, ◌-◌, List, [], ◌∷◌, ◌++◌, length, take, flat_map, None, sym, ap, subst, ◌∙◌, arith, append_assoc, append-nil, zero-add}
use Rattle.std.proofs.lemmas.List.{map-append, take_all}
use Rattle.std.proofs.lemmas.Grind.{flat_map-append}
use Rattle.std.specs.List.{AllByRecursion}
use mathlib.Core.List.{IsPrefix}
use Rattle.session_model.specs.Journal.{Entry, entries}
use Rattle.session_model.specs.Inbox.{InboxRecord}
use Rattle.session_model.specs.Events.{Event, messages, HandshakeFirst, BeginsWithHandshake}
use Rattle.session_model.specs.Growth.{Flow, recoverable, idempotent, unsequenced, no_flow, GrownThrough}
use Rattle.session_model.specs.Lives.{Connection, accepted_of, written_of, added_of, count_events, first_events, Writes, ReportsSkips}
use Rattle.session_model.specs.Laws.{SeenStaysKept, ServingGoesOn, ContractJoins}
use Rattle.session_model.proofs.Lists.{all_weaker, all_append}
use Rattle.session_model.proofs.Truth.{true_stays_true, rising_stays_rising}
use Rattle.session_model.proofs.Through.{connections_go_on}

writes_still : (own : Flow) (opened seen longer : List Entry) (ws : List (List Event)) → IsPrefix seen longer → Writes own opened seen ws → Writes own opened longer ws
writes_still recoverable opened seen longer ws p w = all_weaker _ _ (λ es t. true_stays_true seen longer None es p t) ws w
writes_still idempotent opened seen longer ws p w = all_weaker _ _ (λ es t. true_stays_true seen longer None es p t) ws w
writes_still unsequenced opened seen longer ws p w = rising_stays_rising seen longer (length opened) (flat_map messages ws) p w
writes_still no_flow opened seen longer ws p w = w

pub seen_stays_kept : SeenStaysKept
seen_stays_kept own peer opened seen longer life p k = record {
  inbox_adds = k.inbox_adds;
  inbox_grown = k.inbox_grown;
  none_lost = k.none_lost;
  all_processed = k.all_processed;
  begins = k.begins;
  handshakes = k.handshakes;
  writes = writes_still own opened seen longer (written_of life.connections) p k.writes;
  reports = k.reports;
}

pub contract_joins : ContractJoins
contract_joins own peer plan life seen p connections outbox = record {
  connections = seen_stays_kept own peer (entries life.opening_outbox) seen (entries life.closing_outbox) life.served p connections;
  outbox = outbox;
}

-- all events of some connections, and the first k behind them
first_behind_all : (xs ys : List (List Event)) (k : ℕ) → first_events (count_events xs + k) (xs ++ ys) ≡ xs ++ first_events k ys
first_behind_all [] ys k = ap (λ n. first_events n ys) (zero-add k)
first_behind_all (es ∷ xs) ys k =
    let n = length es + count_events xs + k in
    let here : take n es ≡ es = take_all n es (omega arith) in
    let left : n - length es ≡ count_events xs + k = omega arith in
    ap (λ x. x ∷ first_events (n - length es) (xs ++ ys)) here ∙ ap (λ zs. es ∷ zs) (ap (λ m. first_events m (xs ++ ys)) left ∙ first_behind_all xs ys k)

count_events-append : (xs ys : List (List Event)) → count_events (xs ++ ys) ≡ count_events xs + count_events ys
count_events-append [] ys = sym (zero-add (count_events ys))
count_events-append (es ∷ xs) ys = omega (arith, count_events-append xs ys)

pub serving_goes_on : ServingGoesOn
serving_goes_on own peer opened seen first second whole opens p q writes =
    let xs = accepted_of first.connections in
    let ys = accepted_of second.connections in
    let middle = first.closing_inbox in
    let accepted : accepted_of (first.connections ++ second.connections) ≡ xs ++ ys = map-append (λ (c : Connection). c.accepted) first.connections second.connections in
    let written : written_of (first.connections ++ second.connections) ≡ written_of first.connections ++ written_of second.connections =
    map-append (λ (c : Connection). c.written) first.connections second.connections in
    let before : GrownThrough peer xs first.opening_inbox middle =
    subst (λ x. GrownThrough peer xs first.opening_inbox x) (ap (λ rs. middle ++ rs) whole ∙ append-nil middle) p.none_lost in
    let join : (zs : List (List Event)) (after : List InboxRecord) → GrownThrough peer zs second.opening_inbox after → GrownThrough peer (xs ++ zs) first.opening_inbox after =
    λ zs after g. (connections_go_on peer xs zs first.opening_inbox after).1 (middle, before, subst (λ i. GrownThrough peer zs i after) opens g) in
    let sure : first.processed ≡ count_events xs = p.all_processed whole in
    record {
      inbox_adds = q.inbox_adds ∙ (ap (λ i. i ++ added_of second.connections) (opens ∙ p.inbox_adds)
          ∙ (append_assoc first.opening_inbox (added_of first.connections) (added_of second.connections)
          ∙ ap (λ rs. first.opening_inbox ++ rs) (sym (flat_map-append _ first.connections second.connections))));
      inbox_grown = λ image g.
          let later = q.inbox_grown image g in
          let k = count_events xs + later.0 in (
            k,
            subst (λ zs. GrownThrough peer zs first.opening_inbox image) (sym (ap (λ zs. first_events k zs) accepted ∙ first_behind_all xs ys later.0))
                (join (first_events later.0 ys) image later.1),
            omega (arith, sure, later.2),
          );
      none_lost = subst (λ zs. GrownThrough peer zs first.opening_inbox (second.closing_inbox ++ second.refused_inbox)) (sym accepted)
          (join ys (second.closing_inbox ++ second.refused_inbox) q.none_lost);
      all_processed = λ none. omega (arith, sure, q.all_processed none, ap (λ zs. count_events zs) accepted, count_events-append xs ys);
      begins = subst (AllByRecursion BeginsWithHandshake) (sym accepted) (all_append BeginsWithHandshake xs ys p.begins q.begins);
      handshakes = subst (AllByRecursion HandshakeFirst) (sym written)
          (all_append HandshakeFirst (written_of first.connections) (written_of second.connections) p.handshakes q.handshakes);
      writes = writes;
      reports = all_append ReportsSkips first.connections second.connections p.reports q.reports;
    }
