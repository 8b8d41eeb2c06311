-- Chained lives: what they leave of the two journals of one end, and what they wrote and read.
use Rattle.std.proofs.Common.{◌≡◌, ℕ, ◌-◌, ◌≤◌, List, [], ◌∷◌, ◌++◌, flat_map, length, take, None, refl, sym, ap, subst, ◌∙◌, append-nil, arith}
use Rattle.std.proofs.lemmas.List.{map-append, take_all}
use Rattle.std.proofs.lemmas.Grind.{flat_map-append}
use Rattle.std.specs.List.{AllByRecursion}
use mathlib.Core.List.{IsPrefix}
use Rattle.session_model.specs.Journal.{Entry, OutboxRecord, entries, InOrder}
use Rattle.session_model.specs.Inbox.{InboxRecord, applied, payloads_of}
use Rattle.session_model.specs.Events.{Event, messages, TrueOfJournal, Rising, HandshakeFirst, BeginsWithHandshake}
use Rattle.session_model.specs.Growth.{Flow, unsequenced, GrownThrough}
use Rattle.session_model.specs.Plans.{GoesOn, Continues, sent_by}
use Rattle.session_model.specs.Lives.{Connection, Life, accepted_of, written_of, added_of, count_events, IsImage, first_events, Writes, KeepsContract, Leads, Chained, connections_of}
use Rattle.session_model.specs.Laws.{ChainedSplits}
use Rattle.session_model.proofs.Lists.{prefix_trans, prefix_equal, prefix_length, prefix_map, all_weaker, all_append}
use Rattle.session_model.proofs.Journals.{prefix_entries}
use Rattle.session_model.proofs.Inboxes.{applied-append}
use Rattle.session_model.proofs.Truth.{true_stays_true, rising_goes_on, rising_lower}
use Rattle.session_model.proofs.Through.{connections_go_on}
use Rattle.session_model.proofs.Planned.{plan_goes_on}
use Rattle.session_model.proofs.Carried.{Fronts, first_events_front, fronts-append}

chained_joined : (o m o' : List OutboxRecord) (i w i' : List InboxRecord) (first second : List Life)
    → Chained o i first m w → Chained m w second o' i' → Chained o i (first ++ second) o' i'
chained_joined o m o' i w i' [] second c d =
    subst (λ h. Chained h i second o' i') c.0 (subst (λ x. Chained m x second o' i') c.1 d)
chained_joined o m o' i w i' (life ∷ first) second c d = (c.0, c.1, c.2, chained_joined c.0 m o' c.1 w i' first second c.3 d)

chained_parted : (o o' : List OutboxRecord) (i i' : List InboxRecord) (first second : List Life) → Chained o i (first ++ second) o' i'
    → (between : List OutboxRecord) × (waiting : List InboxRecord) × Chained o i first between waiting × Chained between waiting second o' i'
chained_parted o o' i i' [] second c = (o, i, (refl, refl), c)
chained_parted o o' i i' (life ∷ first) second c =
    let r = chained_parted c.0 o' c.1 i' first second c.3 in (r.0, r.1, (c.0, c.1, c.2, r.2), r.3)

pub chained_splits : ChainedSplits
chained_splits o o' i i' first second =
    (chained_parted o o' i i' first second, λ r. chained_joined o r.0 o' i r.1 i' first second r.2 r.3)

pub image_begins : {A : Type 0} (closing refused image : List A) → IsImage closing refused image → IsPrefix closing image
image_begins closing refused image g = (g.kept, sym g.holds)

-- the closing records are themselves an image
closing_image : {A : Type 0} (closing refused : List A) → IsImage closing refused closing
closing_image closing refused = record { kept = []; beginning = (refused, refl); holds = sym (append-nil closing) }

-- an outbox grows over a life, and over all
life_grows : (own peer : Flow) (plan : ℕ → List (List ℕ) → List (List ℕ)) (life : Life) (o o' : List OutboxRecord) (i i' : List InboxRecord)
    → KeepsContract own peer plan life → Leads life o i o' i' → IsPrefix o o'
life_grows own peer plan life o o' i i' k l =
    prefix_trans o life.closing_outbox o' (subst (λ h. IsPrefix h life.closing_outbox) l.opens_outbox k.outbox.outbox_grows)
    (image_begins life.closing_outbox life.refused_outbox o' l.outbox_image)

pub lives_grow : (own peer : Flow) (plan : ℕ → List (List ℕ) → List (List ℕ)) (lives : List Life) (o o' : List OutboxRecord) (i i' : List InboxRecord)
    → AllByRecursion (KeepsContract own peer plan) lives → Chained o i lives o' i' → IsPrefix o o'
lives_grow own peer plan [] o o' i i' all c = prefix_equal o o' (sym c.0)
lives_grow own peer plan (life ∷ later) o o' i i' all c =
    prefix_trans o c.0 o' (life_grows own peer plan life o c.0 i c.1 all.0 c.2) (lives_grow own peer plan later c.0 o' c.1 i' all.1 c.3)

-- what any life closed on stands in what all leave
pub closings_stand : (own peer : Flow) (plan : ℕ → List (List ℕ) → List (List ℕ)) (lives : List Life) (o o' : List OutboxRecord) (i i' : List InboxRecord)
    → AllByRecursion (KeepsContract own peer plan) lives → Chained o i lives o' i'
    → AllByRecursion (λ (life : Life). IsPrefix (entries life.closing_outbox) (entries o')) lives
closings_stand own peer plan [] o o' i i' all c = tt
closings_stand own peer plan (life ∷ later) o o' i i' all c = (
  prefix_entries life.closing_outbox o' (prefix_trans life.closing_outbox c.0 o'
      (image_begins life.closing_outbox life.refused_outbox c.0 c.2.outbox_image) (lives_grow own peer plan later c.0 o' c.1 i' all.1 c.3)),
  closings_stand own peer plan later c.0 o' c.1 i' all.1 c.3,
)

pub order_kept : (own peer : Flow) (plan : ℕ → List (List ℕ) → List (List ℕ)) (lives : List Life) (o o' : List OutboxRecord) (i i' : List InboxRecord)
    → AllByRecursion (KeepsContract own peer plan) lives → Chained o i lives o' i' → InOrder (entries o) → InOrder (entries o')
order_kept own peer plan [] o o' i i' all c kept = subst (λ h. InOrder (entries h)) (sym c.0) kept
order_kept own peer plan (life ∷ later) o o' i i' all c kept =
    order_kept own peer plan later c.0 o' c.1 i' all.1 c.3 (all.0.outbox.in_order c.0 c.2.outbox_image)

pub prefix_payloads : (before after : List InboxRecord) → IsPrefix before after → IsPrefix (payloads_of (applied before)) (payloads_of (applied after))
prefix_payloads before after p =
    prefix_map _ (applied before) (applied after) (applied p.0, sym (applied-append before p.0) ∙ ap (λ i. applied i) p.1)

-- an inbox grows over a life
pub inbox_opened : (own peer : Flow) (plan : ℕ → List (List ℕ) → List (List ℕ)) (life : Life) (o o' : List OutboxRecord) (i i' : List InboxRecord)
    → KeepsContract own peer plan life → Leads life o i o' i' → IsPrefix i life.served.closing_inbox
inbox_opened own peer plan life o o' i i' k l =
    subst (λ x. IsPrefix x life.served.closing_inbox) l.opens_inbox (added_of life.served.connections, sym k.connections.inbox_adds)

-- and over all
pub inboxes_grow : (own peer : Flow) (plan : ℕ → List (List ℕ) → List (List ℕ)) (lives : List Life) (o o' : List OutboxRecord) (i i' : List InboxRecord)
    → AllByRecursion (KeepsContract own peer plan) lives → Chained o i lives o' i' → IsPrefix i i'
inboxes_grow own peer plan [] o o' i i' all c = prefix_equal i i' (sym c.1)
inboxes_grow own peer plan (life ∷ later) o o' i i' all c =
    prefix_trans i c.1 i'
    (prefix_trans i life.served.closing_inbox c.1 (inbox_opened own peer plan life o c.0 i c.1 all.0 c.2) (image_begins life.served.closing_inbox life.served.refused_inbox c.1 c.2.inbox_image))
    (inboxes_grow own peer plan later c.0 o' c.1 i' all.1 c.3)

-- a sender that had sent a beginning of its plan has still sent one, over a life and over all
pub plan_step : (own peer : Flow) (plan : ℕ → List (List ℕ) → List (List ℕ)) (life : Life) (o o' : List OutboxRecord) (i i' : List InboxRecord) (s : ℕ)
    → GoesOn plan → KeepsContract own peer plan life → Leads life o i o' i'
    → IsPrefix (sent_by (entries o) s) (plan s (payloads_of (applied i))) → IsPrefix (sent_by (entries o') s) (plan s (payloads_of (applied i')))
plan_step own peer plan life o o' i i' s goes k l kept =
    let closing = life.served.closing_inbox in
    let opened = inbox_opened own peer plan life o o' i i' k l in
    let begun : IsPrefix (sent_by (entries o) s) (plan s (payloads_of (applied closing))) =
    prefix_trans (sent_by (entries o) s) (plan s (payloads_of (applied i))) (plan s (payloads_of (applied closing))) kept
    (goes s (payloads_of (applied i)) (payloads_of (applied closing)) (prefix_payloads i closing opened)) in
    let continued = subst (λ h. Continues (plan s (payloads_of (applied closing))) (sent_by (entries h) s) (sent_by (entries o') s)) l.opens_outbox
    (k.outbox.plans o' l.outbox_image s) in
    let now = plan_goes_on (plan s (payloads_of (applied closing))) (sent_by (entries o) s) (sent_by (entries o') s) begun continued in
    prefix_trans (sent_by (entries o') s) (plan s (payloads_of (applied closing))) (plan s (payloads_of (applied i'))) now
    (goes s (payloads_of (applied closing)) (payloads_of (applied i'))
    (prefix_payloads closing i' (image_begins closing life.served.refused_inbox i' l.inbox_image)))

pub plan_kept : (own peer : Flow) (plan : ℕ → List (List ℕ) → List (List ℕ)) (lives : List Life) (o o' : List OutboxRecord) (i i' : List InboxRecord) (s : ℕ)
    → GoesOn plan → AllByRecursion (KeepsContract own peer plan) lives → Chained o i lives o' i'
    → IsPrefix (sent_by (entries o) s) (plan s (payloads_of (applied i))) → IsPrefix (sent_by (entries o') s) (plan s (payloads_of (applied i')))
plan_kept own peer plan [] o o' i i' s goes all c kept =
    subst (λ h. IsPrefix (sent_by (entries h) s) (plan s (payloads_of (applied i')))) (sym c.0)
    (subst (λ x. IsPrefix (sent_by (entries o) s) (plan s (payloads_of (applied x)))) (sym c.1) kept)
plan_kept own peer plan (life ∷ later) o o' i i' s goes all c kept =
    plan_kept own peer plan later c.0 o' c.1 i' s goes all.1 c.3 (plan_step own peer plan life o c.0 i c.1 s goes all.0 c.2 kept)

-- what is kept of each connection of each life is kept of all
pub handshakes_of : (own peer : Flow) (plan : ℕ → List (List ℕ) → List (List ℕ)) (lives : List Life) → AllByRecursion (KeepsContract own peer plan) lives
    → AllByRecursion HandshakeFirst (written_of (connections_of lives))
handshakes_of own peer plan [] all = tt
handshakes_of own peer plan (life ∷ later) all =
    let cs = life.served.connections in
    subst (AllByRecursion HandshakeFirst) (sym (map-append (λ (c : Connection). c.written) cs (connections_of later)))
    (all_append HandshakeFirst (written_of cs) (written_of (connections_of later)) all.0.connections.handshakes (handshakes_of own peer plan later all.1))

pub begins_of : (own peer : Flow) (plan : ℕ → List (List ℕ) → List (List ℕ)) (lives : List Life) → AllByRecursion (KeepsContract own peer plan) lives
    → AllByRecursion BeginsWithHandshake (accepted_of (connections_of lives))
begins_of own peer plan [] all = tt
begins_of own peer plan (life ∷ later) all =
    let cs = life.served.connections in
    subst (AllByRecursion BeginsWithHandshake) (sym (map-append (λ (c : Connection). c.accepted) cs (connections_of later)))
    (all_append BeginsWithHandshake (accepted_of cs) (accepted_of (connections_of later)) all.0.connections.begins (begins_of own peer plan later all.1))

-- what a sequenced end wrote on all its connections is true of any journal that it may have left
pub wrote_true : (own peer : Flow) (plan : ℕ → List (List ℕ) → List (List ℕ)) (lives : List Life) (o o' : List OutboxRecord) (i i' : List InboxRecord)
    → ((before after : List Entry) (ws : List (List Event)) → Writes own before after ws → AllByRecursion (TrueOfJournal after None) ws)
    → AllByRecursion (KeepsContract own peer plan) lives → Chained o i lives o' i'
    → AllByRecursion (TrueOfJournal (entries o') None) (written_of (connections_of lives))
wrote_true own peer plan [] o o' i i' says all c = tt
wrote_true own peer plan (life ∷ later) o o' i i' says all c =
    let Q : List Event → Type 0 = TrueOfJournal (entries o') None in
    let stands : IsPrefix (entries life.closing_outbox) (entries o') = (closings_stand own peer plan (life ∷ later) o o' i i' all c).0 in
    let here : AllByRecursion Q (written_of life.served.connections) =
    all_weaker (TrueOfJournal (entries life.closing_outbox) None) Q (λ es t. true_stays_true (entries life.closing_outbox) (entries o') None es stands t)
    (written_of life.served.connections) (says (entries life.opening_outbox) (entries life.closing_outbox) (written_of life.served.connections) all.0.connections.writes) in
    subst (AllByRecursion Q) (sym (map-append (λ (c : Connection). c.written) life.served.connections (connections_of later)))
    (all_append Q (written_of life.served.connections) (written_of (connections_of later)) here (wrote_true own peer plan later c.0 o' c.1 i' says all.1 c.3))

written_messages : (life : Life) (later : List Life)
    → flat_map messages (written_of (connections_of (life ∷ later)))
    ≡ flat_map messages (written_of life.served.connections) ++ flat_map messages (written_of (connections_of later))
written_messages life later =
    ap (λ ws. flat_map messages ws) (map-append (λ (c : Connection). c.written) life.served.connections (connections_of later))
    ∙ flat_map-append messages (written_of life.served.connections) (written_of (connections_of later))

-- what an unsequenced end wrote rises through any journal that it may have left
pub wrote_rising : (peer : Flow) (plan : ℕ → List (List ℕ) → List (List ℕ)) (lives : List Life) (o o' : List OutboxRecord) (i i' : List InboxRecord)
    → AllByRecursion (KeepsContract unsequenced peer plan) lives → Chained o i lives o' i'
    → Rising (entries o') (length (entries o)) (flat_map messages (written_of (connections_of lives)))
wrote_rising peer plan [] o o' i i' all c = tt
wrote_rising peer plan (life ∷ later) o o' i i' all c =
    let h = entries life.closing_outbox in
    let n = length (entries o) in
    let here : Rising h n (flat_map messages (written_of life.served.connections)) =
    subst (λ x. Rising h (length (entries x)) (flat_map messages (written_of life.served.connections))) c.2.opens_outbox all.0.connections.writes in
    let image = image_begins life.closing_outbox life.refused_outbox c.0 c.2.outbox_image in
    let rest = wrote_rising peer plan later c.0 o' c.1 i' all.1 c.3 in
    let stands : IsPrefix h (entries o') = (closings_stand unsequenced peer plan (life ∷ later) o o' i i' all c).0 in
    let opened : IsPrefix o life.closing_outbox = subst (λ x. IsPrefix x life.closing_outbox) c.2.opens_outbox all.0.outbox.outbox_grows in
    subst (λ ps. Rising (entries o') n ps) (sym (written_messages life later))
    (rising_goes_on h (entries o') n (flat_map messages (written_of life.served.connections)) (flat_map messages (written_of (connections_of later))) stands
    (prefix_length (entries o) h (prefix_entries o life.closing_outbox opened)) here
    (rising_lower (entries o') (length (entries c.0)) (length h) (flat_map messages (written_of (connections_of later)))
    (prefix_length h (entries c.0) (prefix_entries life.closing_outbox c.0 image)) rest))

-- an inbox that lives may have left is grown over beginnings of what their connections accepted, and over all where none is lost
pub record Processed (peer : Flow) (lives : List Life) (before after : List InboxRecord) : Type 0 where
  pub events : List (List Event)
  pub fronts : Fronts events (accepted_of (connections_of lives))
  pub all : AllByRecursion (λ (life : Life). life.served.refused_inbox ≡ []) lives → events ≡ accepted_of (connections_of lives)
  pub grown : GrownThrough peer events before after

-- so many events as there are, or more, are all
pub first_of_all : (k : ℕ) (lists : List (List Event)) → count_events lists ≤ k → first_events k lists ≡ lists
first_of_all k [] le = refl
first_of_all k (es ∷ later) le =
    let here : take k es ≡ es = take_all k es (omega arith) in
    let rest = first_of_all (k - length es) later (omega arith) in
    ap (λ xs. xs ∷ first_events (k - length es) later) here ∙ ap (λ xs. es ∷ xs) rest

pub read_processed : (own peer : Flow) (plan : ℕ → List (List ℕ) → List (List ℕ)) (lives : List Life) (o o' : List OutboxRecord) (i i' : List InboxRecord)
    → AllByRecursion (KeepsContract own peer plan) lives → Chained o i lives o' i' → Processed peer lives i i'
read_processed own peer plan [] o o' i i' all c = record { events = []; fronts = tt; all = λ none. refl; grown = c.1 }
read_processed own peer plan (life ∷ later) o o' i i' all c =
    let cs = life.served.connections in
    let here = all.0.connections.inbox_grown c.1 c.2.inbox_image in
    let first = first_events here.0 (accepted_of cs) in
    let grown : GrownThrough peer first i c.1 = subst (λ x. GrownThrough peer first x c.1) c.2.opens_inbox here.1 in
    let rest = read_processed own peer plan later c.0 o' c.1 i' all.1 c.3 in
    let both = map-append (λ (c : Connection). c.accepted) cs (connections_of later) in
    record {
      events = first ++ rest.events;
      fronts = subst (λ xs. Fronts (first ++ rest.events) xs) (sym both)
          (fronts-append first rest.events (accepted_of cs) (accepted_of (connections_of later)) (first_events_front here.0 (accepted_of cs)) rest.fronts);
      all = λ none.
          let whole : first ≡ accepted_of cs = first_of_all here.0 (accepted_of cs) (omega (arith, all.0.connections.all_processed none.0, here.2)) in
          ap (λ xs. xs ++ rest.events) whole ∙ (ap (λ xs. accepted_of cs ++ xs) (rest.all none.1) ∙ sym both);
      grown = (connections_go_on peer first rest.events i i').1 (c.1, grown, rest.grown);
    }
