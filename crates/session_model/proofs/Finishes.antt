-- What chained lives leave of a finished outbox, and of what was reported as not applied.
use Rattle.std.proofs.Common.{◌≡◌, ℕ, Bool, true, false, List, [], ◌∷◌, ◌++◌, Contains, refl, sym, ap, subst, arith}
use Rattle.std.proofs.lemmas.List.Elements.{Contains-append_left, Contains-append_right}
use Rattle.std.specs.List.{AllByRecursion}
use mathlib.Core.List.{IsPrefix}
use Rattle.session_model.specs.Journal.{OutboxRecord, entries, is_finished}
use Rattle.session_model.specs.Inbox.{Range, InboxRecord, applied, skips, payloads_of}
use Rattle.session_model.specs.Growth.{Flow}
use Rattle.session_model.specs.Plans.{GoesOn, SendersDone, sent_by}
use Rattle.session_model.specs.Lives.{Connection, Life, IsImage, KeepsContract, ReportsSkips, Chained, connections_of, added_of}
use Rattle.session_model.proofs.Lists.{prefix_trans, all_weaker, all_append}
use Rattle.session_model.proofs.Inboxes.{skips-append}
use Rattle.session_model.proofs.Planned.{plan_completes}
use Rattle.session_model.proofs.Chains.{inbox_opened, inboxes_grow, image_begins, plan_step, prefix_payloads}

-- the senders are done, said from the beginning
abbrev Done : (ℕ → List (List ℕ) → List (List ℕ)) → List OutboxRecord → List InboxRecord → Type 0
Done plan outbox inbox = is_finished outbox ≡ true → SendersDone plan [] (entries outbox) [] inbox

-- a longer inbox has come to the same list
done_still : (plan : ℕ → List (List ℕ) → List (List ℕ)) (outbox : List OutboxRecord) (inbox longer : List InboxRecord)
    → IsPrefix inbox longer → SendersDone plan [] (entries outbox) [] inbox → SendersDone plan [] (entries outbox) [] longer
done_still plan outbox inbox longer p d = record {
  answered = d.answered;
  opened = d.opened;
  reached = prefix_trans d.answered inbox longer d.reached p;
  peer_done = d.peer_done;
  all_sent = d.all_sent;
}

-- a finish that was added behind a beginning of each plan stands behind all of it
done_now : (plan : ℕ → List (List ℕ) → List (List ℕ)) (o image : List OutboxRecord) (i closing : List InboxRecord) → GoesOn plan
    → ((s : ℕ) → IsPrefix (sent_by (entries o) s) (plan s (payloads_of (applied i)))) → SendersDone plan (entries o) (entries image) i closing
    → SendersDone plan [] (entries image) [] closing
done_now plan o image i closing goes kept d = record {
  answered = d.answered;
  opened = (d.answered, refl);
  reached = d.reached;
  peer_done = d.peer_done;
  all_sent = λ s.
      let all = plan s (payloads_of (applied d.answered)) in
      let begun = prefix_trans (sent_by (entries o) s) (plan s (payloads_of (applied i))) all (kept s)
      (goes s (payloads_of (applied i)) (payloads_of (applied d.answered)) (prefix_payloads i d.answered d.opened)) in
      record { behind = plan_completes all (sent_by (entries o) s) (sent_by (entries image) s) begun (d.all_sent s) };
}

-- over one life
done_step : (own peer : Flow) (plan : ℕ → List (List ℕ) → List (List ℕ)) (life : Life) (image : List OutboxRecord) → GoesOn plan
    → KeepsContract own peer plan life → IsImage life.closing_outbox life.refused_outbox image
    → ((s : ℕ) → IsPrefix (sent_by (entries life.opening_outbox) s) (plan s (payloads_of (applied life.served.opening_inbox))))
    → IsPrefix life.served.opening_inbox life.served.closing_inbox
    → Done plan life.opening_outbox life.served.opening_inbox → Done plan image life.served.closing_inbox
done_step own peer plan life image goes k g kept grown before = by_test (is_finished life.opening_outbox) refl
  where
    by_test : (b : Bool) → is_finished life.opening_outbox ≡ b → Done plan image life.served.closing_inbox
    by_test true was now =
        let same = (k.outbox.history_grows image g).alone was in
        subst (λ h. SendersDone plan [] h [] life.served.closing_inbox) (ap (λ h. h.made) same)
        (done_still plan life.opening_outbox life.served.opening_inbox life.served.closing_inbox grown (before was))
    by_test false was now =
        done_now plan life.opening_outbox image life.served.opening_inbox life.served.closing_inbox goes kept (k.outbox.finishes image g was now)

pub done_kept : (own peer : Flow) (plan : ℕ → List (List ℕ) → List (List ℕ)) (lives : List Life) (o o' : List OutboxRecord) (i i' : List InboxRecord)
    → GoesOn plan → AllByRecursion (KeepsContract own peer plan) lives → Chained o i lives o' i'
    → ((s : ℕ) → IsPrefix (sent_by (entries o) s) (plan s (payloads_of (applied i)))) → Done plan o i → Done plan o' i'
done_kept own peer plan [] o o' i i' goes all c kept done =
    subst (λ h. Done plan h i') (sym c.0) (subst (λ x. Done plan o x) (sym c.1) done)
done_kept own peer plan (life ∷ later) o o' i i' goes all c kept done =
    let lead = c.2 in
    let opening = life.opening_outbox in
    let waiting = life.served.opening_inbox in
    let closing = life.served.closing_inbox in
    let kept' : (s : ℕ) → IsPrefix (sent_by (entries opening) s) (plan s (payloads_of (applied waiting))) =
    λ s. subst (λ x. IsPrefix (sent_by (entries opening) s) (plan s (payloads_of (applied x)))) (sym lead.opens_inbox)
    (subst (λ h. IsPrefix (sent_by (entries h) s) (plan s (payloads_of (applied i)))) (sym lead.opens_outbox) (kept s)) in
    let done' : Done plan opening waiting = subst (λ h. Done plan h waiting) (sym lead.opens_outbox) (subst (λ x. Done plan o x) (sym lead.opens_inbox) done) in
    let grown : IsPrefix waiting closing = subst (λ x. IsPrefix x closing) (sym lead.opens_inbox) (inbox_opened own peer plan life o c.0 i c.1 all.0 lead) in
    let image = image_begins closing life.served.refused_inbox c.1 lead.inbox_image in
    let now : Done plan c.0 closing = done_step own peer plan life c.0 goes all.0 lead.outbox_image kept' grown done' in
    done_kept own peer plan later c.0 o' c.1 i' goes all.1 c.3
    (λ s. plan_step own peer plan life o c.0 i c.1 s goes all.0 lead (kept s))
    (λ f. done_still plan c.0 closing c.1 image (now f))

each_among : (rs : List Range) → AllByRecursion (λ (r : Range). Contains rs r) rs
each_among [] = tt
each_among (r ∷ rs) = ((0, omega arith, refl), all_weaker (λ x. Contains rs x) (λ x. Contains (r ∷ rs) x) (λ x k. Contains-append_right (r ∷ []) rs x k) rs (each_among rs))

-- the ranges that some connections reported stand among the skips of what they added
reports_stand : (cs : List Connection) → AllByRecursion ReportsSkips cs
    → AllByRecursion (λ (c : Connection). AllByRecursion (λ (r : Range). Contains (skips (added_of cs)) r) c.reported) cs
reports_stand [] all = tt
reports_stand (c ∷ cs) all =
    let own = skips c.added in
    let rest = skips (added_of cs) in
    let both : skips (c.added ++ added_of cs) ≡ own ++ rest = skips-append c.added (added_of cs) in
    let P : Range → Type 0 = λ r. Contains (skips (c.added ++ added_of cs)) r in (
      subst (λ rs. AllByRecursion (λ (r : Range). Contains rs r) c.reported) (sym both)
          (all_weaker (λ r. Contains own r) (λ r. Contains (own ++ rest) r) (λ r. Contains-append_left own rest r) c.reported (among c.reported own all.0.in_order)),
      all_weaker (λ (d : Connection). AllByRecursion (λ (r : Range). Contains rest r) d.reported) (λ (d : Connection). AllByRecursion P d.reported)
          (λ d here. all_weaker (λ r. Contains rest r) P (λ r k. subst (λ rs. Contains rs r) (sym both) (Contains-append_right own rest r k)) d.reported here)
          cs (reports_stand cs all.1),
    )
  where
    among : (rs all : List Range) → IsPrefix rs all → AllByRecursion (λ (r : Range). Contains all r) rs
    among rs all p = subst (λ xs. AllByRecursion (λ (r : Range). Contains xs r) rs) p.1
        (all_weaker (λ r. Contains rs r) (λ r. Contains (rs ++ p.0) r) (λ r. Contains-append_left rs p.0 r) rs (each_among rs))

-- what one inbox skips, a longer one skips
skips_more : (earlier later : List InboxRecord) → IsPrefix earlier later → (r : Range) → Contains (skips earlier) r → Contains (skips later) r
skips_more earlier later p r k =
    subst (λ x. Contains (skips x) r) p.1 (subst (λ rs. Contains rs r) (sym (skips-append earlier p.0)) (Contains-append_left (skips earlier) (skips p.0) r k))

pub reports_kept : (own peer : Flow) (plan : ℕ → List (List ℕ) → List (List ℕ)) (lives : List Life) (o o' : List OutboxRecord) (i i' : List InboxRecord)
    → AllByRecursion (KeepsContract own peer plan) lives → Chained o i lives o' i'
    → AllByRecursion (λ (c : Connection). AllByRecursion (λ (r : Range). Contains (skips i') r) c.reported) (connections_of lives)
reports_kept own peer plan [] o o' i i' all c = tt
reports_kept own peer plan (life ∷ later) o o' i i' all c =
    let cs = life.served.connections in
    let added = added_of cs in
    let closing = life.served.closing_inbox in
    let P : List InboxRecord → Connection → Type 0 = λ x d. AllByRecursion (λ (r : Range). Contains (skips x) r) d.reported in
    let up : (x y : List InboxRecord) → ((r : Range) → Contains (skips x) r → Contains (skips y) r) → AllByRecursion (P x) cs → AllByRecursion (P y) cs =
    λ x y more all. all_weaker (P x) (P y) (λ d here. all_weaker (λ r. Contains (skips x) r) (λ r. Contains (skips y) r) more d.reported here) cs all in
    let behind : (r : Range) → Contains (skips added) r → Contains (skips closing) r =
    λ r k. subst (λ x. Contains (skips x) r) (sym all.0.connections.inbox_adds)
    (subst (λ rs. Contains rs r) (sym (skips-append life.served.opening_inbox added)) (Contains-append_right (skips life.served.opening_inbox) (skips added) r k)) in
    let stays : IsPrefix closing i' =
    prefix_trans closing c.1 i' (image_begins closing life.served.refused_inbox c.1 c.2.inbox_image) (inboxes_grow own peer plan later c.0 o' c.1 i' all.1 c.3) in
    all_append (P i') cs (connections_of later)
    (up closing i' (skips_more closing i' stays) (up added closing behind (reports_stand cs all.0.connections.reports)))
    (reports_kept own peer plan later c.0 o' c.1 i' all.1 c.3)
