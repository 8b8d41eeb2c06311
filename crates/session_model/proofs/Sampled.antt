-- The sample sessions meet their contracts.
use Rattle.std.proofs.Common.{◌≡◌, ℕ, ◌-◌, ◌≤◌, ◌==◌, Bool, true, false, List, [], ◌∷◌, ◌++◌, map, length, drop, slice_get, Option, Some, None, inl, inr, refl, sym, ap, subst, ◌∙◌, arith, append-nil, eqb-true, true≢false}
use Rattle.std.specs.List.{AllByRecursion}
use mathlib.Core.List.{IsPrefix}
use Rattle.session_model.specs.Journal.{Entry, IsEntry, OutboxRecord, payloads, finish, entries, InOrder, is_finished, history_of, BeginsHistory}
use Rattle.session_model.specs.Inbox.{InboxRecord, skip, peer_finished, applied, skips, payloads_of, next_number}
use Rattle.session_model.specs.Events.{Event, announce, handshake, in_flow, message, numbered, IsHandshake, HandshakeFirst}
use Rattle.session_model.specs.Growth.{recoverable, idempotent, unsequenced, no_flow, chain, GrownRecoverable, GrownIdempotent, GrownUnsequenced, GrownByNone, GrownThrough}
use Rattle.session_model.specs.Plans.{Continues, Completes, SendersDone, sent_by}
use Rattle.session_model.specs.Lives.{Connection, Life, accepted_of, IsImage, first_events, ReportsSkips, KeepsConnections, KeepsOutbox, KeepsContract, TakenFrom, rest_lost, taken, rejected, Linked, left_alone, right_alone, paired}
use Rattle.session_model.specs.Lives
use Rattle.session_model.specs.Moments.{End, HasNow, fresh}
use Rattle.session_model.specs.Samples.{HistorySample, one, two, three, reply, sent, got, missed, orders, replies, first_a, second_a, first_b, second_b, SequencedSample, SamplePlansGoOn, news, silence, first_publisher, second_publisher, listener, UnsequencedSample, PartsSample, HeldSample, HistoriesSample, PlansSample}
use Rattle.session_model.proofs.Lists.{prefix_self, prefix_equal, prefix_map, drop_length}
use Rattle.session_model.proofs.Journals.{prefix_entries}
use Rattle.session_model.proofs.Images.{image_of_none, image_of_one}

-- a sender is the first, the second, or another
senders : {Q : Type 0} (s : ℕ) → ((1 == s) ≡ true → (2 == s) ≡ false → Q) → ((1 == s) ≡ false → (2 == s) ≡ true → Q) → ((1 == s) ≡ false → (2 == s) ≡ false → Q) → Q
senders {Q} s first second other = by_tests (1 == s) (2 == s) refl refl
  where
    by_tests : (b b' : Bool) → (1 == s) ≡ b → (2 == s) ≡ b' → Q
    by_tests true true p q = absurd (omega (arith, eqb-true 1 s p, eqb-true 2 s q))
    by_tests true false p q = first p q
    by_tests false true p q = second p q
    by_tests false false p q = other p q

-- each sender's entries count 1, 2, 3
two_in_order : InOrder (entries (sent 1 1 one ∷ sent 2 1 two ∷ []))
two_in_order s = senders s (λ p q. rw (p, q) refl) (λ p q. rw (p, q) refl) (λ p q. rw (p, q) refl)

three_in_order : InOrder (entries (sent 1 1 one ∷ sent 2 1 two ∷ sent 1 2 three ∷ []))
three_in_order s = senders s (λ p q. rw (p, q) refl) (λ p q. rw (p, q) refl) (λ p q. rw (p, q) refl)

one_reply_in_order : InOrder (entries (sent 1 1 (reply one) ∷ []))
one_reply_in_order s = senders s (λ p q. rw p refl) (λ p q. rw p refl) (λ p q. rw p refl)

replies_in_order : InOrder (entries (sent 1 1 (reply one) ∷ sent 1 2 (reply two) ∷ sent 1 3 (reply three) ∷ []))
replies_in_order s = senders s (λ p q. rw p refl) (λ p q. rw p refl) (λ p q. rw p refl)

-- from nothing, a sender goes on with a beginning of its plan
from_nothing : (plan after : List (List ℕ)) → IsPrefix after plan → Continues plan [] after
from_nothing plan after b = record { more = after; behind = refl; planned = b }

two_planned : (applied : List (List ℕ)) (s : ℕ) → Continues (orders s applied) [] (sent_by (entries (sent 1 1 one ∷ sent 2 1 two ∷ [])) s)
two_planned applied s =
    from_nothing (orders s applied) (sent_by (entries (sent 1 1 one ∷ sent 2 1 two ∷ [])) s)
    (senders s (λ p q. rw (p, q) (three ∷ [], refl)) (λ p q. rw (p, q) ([], refl)) (λ p q. rw (p, q) ([], refl)))

three_planned : (applied : List (List ℕ)) (s : ℕ) → Continues (orders s applied) [] (sent_by (entries (sent 1 1 one ∷ sent 2 1 two ∷ sent 1 2 three ∷ [])) s)
three_planned applied s =
    from_nothing (orders s applied) (sent_by (entries (sent 1 1 one ∷ sent 2 1 two ∷ sent 1 2 three ∷ [])) s)
    (senders s (λ p q. rw (p, q) ([], refl)) (λ p q. rw (p, q) ([], refl)) (λ p q. rw (p, q) ([], refl)))

-- what has not grown continues any plan
not_grown : (plan before : List (List ℕ)) → Continues plan before before
not_grown plan before = record { more = []; behind = sym (append-nil before); planned = (drop (length before) plan, refl) }

-- over no events nothing grows
still_idempotent : (i : List InboxRecord) → GrownIdempotent None [] i i
still_idempotent i = record { added = []; behind = sym (append-nil i); agrees = tt; never_back = tt; applies = refl; skips_jumps = refl }

still_recoverable : (es : List Event) (i : List InboxRecord) → numbered None es ≡ [] → GrownRecoverable None es i i
still_recoverable es i e =
    record { added = []; behind = sym (append-nil i); none_skipped = refl; consecutive = refl; from_carried = tt; reaches = omega (arith, ap (λ ms. length (chain (next_number i) ms)) e) }

-- an entry that computes
here : {h : List Entry} {n : ℕ} {p : List ℕ} → 1 ≤ n → slice_get (payloads h) (n - 1) ≡ Some p → IsEntry h n p
here low e = record { from_one = low; found = e }

-- no message announces
pub no_announcement : (e : Event) (ps : List (List ℕ)) → AllByRecursion (λ (later : Event). IsHandshake later → later ≡ e) (map message ps)
no_announcement e [] = tt
no_announcement e (p ∷ ps) = (λ opens. absurd opens, no_announcement e ps)

-- one announcement of the handshake, and messages behind it
opened : (n : Option ℕ) (ps : List (List ℕ)) → HandshakeFirst (announce handshake n ∷ map message ps)
opened n ps = (no_announcement (announce handshake n) ps, live ps)
  where
    live : (qs : List (List ℕ)) → HandshakeFirst (map message qs)
    live [] = tt
    live (q ∷ qs) = (no_announcement (message q) qs, live qs)

-- an unfinished history goes on
goes_on : (before after : List OutboxRecord) → is_finished before ≡ false → IsPrefix (entries before) (entries after) → BeginsHistory (history_of before) (history_of after)
goes_on before after was p = record { made = p; alone = λ marked. absurd (true≢false (sym marked ∙ was)) }

-- a journal without a finish asks nothing of the senders
unfinished : {Q : Type 0} (image : List OutboxRecord) → is_finished image ≡ false → is_finished image ≡ true → Q
unfinished {Q} image open_still marked = absurd (true≢false (sym marked ∙ open_still))

-- reports of a connection that reported all that it skipped
reports_all : (c : Connection) → c.reported ≡ skips c.added → ReportsSkips c
reports_all c e = record { in_order = prefix_equal c.reported (skips c.added) e; all = λ _. e }

first_a_connections : KeepsConnections recoverable idempotent [] (entries first_a.closing_outbox) first_a.served
first_a_connections =
    let life = first_a.served in
    let closing = life.closing_inbox in
    let first : GrownIdempotent None (announce handshake (Some 1) ∷ message (reply one) ∷ []) [] closing =
    record { added = closing; behind = refl; agrees = tt; never_back = (omega arith, tt); applies = refl; skips_jumps = refl } in
    let grown : GrownThrough idempotent (accepted_of life.connections) [] closing = (closing, first, (closing, still_idempotent closing, refl)) in
    record {
      inbox_adds = refl;
      inbox_grown = λ image g. image_of_none
          (λ i. (k : ℕ) × GrownThrough idempotent (first_events k (accepted_of life.connections)) [] i × (2 ≤ k)) closing image (2, grown, omega arith) g;
      none_lost = grown;
      all_processed = λ _. refl;
      begins = (tt, (tt, tt));
      handshakes = (((λ _. refl, no_announcement _ (one ∷ two ∷ [])), opened (Some 1) (one ∷ two ∷ [])), (opened (Some 3) [], tt));
      writes = (
        record { entries = (here (omega arith) refl, (here (omega arith) refl, tt)); announced = ((omega arith, omega arith), ((omega arith, omega arith), tt)) },
        (record { entries = tt; announced = ((omega arith, omega arith), tt) }, tt),
      );
      reports = (reports_all _ refl, (reports_all _ refl, tt));
    }

first_a_keeps : KeepsContract recoverable idempotent orders first_a
first_a_keeps =
    let closing = payloads_of (applied first_a.served.closing_inbox) in
    let o = first_a.closing_outbox in
    record {
      connections = first_a_connections;
      outbox = record {
        outbox_grows = (o, refl);
        history_grows = λ image g. image_of_one (λ h. BeginsHistory (history_of []) (history_of h)) o (sent 1 2 three) image
            (goes_on [] o refl (entries o, refl)) (goes_on [] (o ++ sent 1 2 three ∷ []) refl (entries (o ++ sent 1 2 three ∷ []), refl)) g;
        in_order = λ image g. image_of_one (λ h. InOrder (entries h)) o (sent 1 2 three) image two_in_order three_in_order g;
        plans = λ image g s. image_of_one (λ h. Continues (orders s closing) [] (sent_by (entries h) s)) o (sent 1 2 three) image (two_planned closing s) (three_planned closing s) g;
        finishes = λ image g was now. unfinished image (image_of_one (λ h. is_finished h ≡ false) o (sent 1 2 three) image refl refl g) now;
      };
    }

second_a_connections : KeepsConnections recoverable idempotent (entries second_a.opening_outbox) (entries second_a.closing_outbox) second_a.served
second_a_connections =
    let life = second_a.served in
    let opening = life.opening_inbox in
    let closing = life.closing_inbox in
    let first : GrownIdempotent None (announce handshake (Some 2) ∷ []) opening opening =
    record { added = []; behind = refl; agrees = tt; never_back = (omega arith, tt); applies = refl; skips_jumps = refl } in
    let second : GrownIdempotent None (announce handshake (Some 3) ∷ message (reply three) ∷ []) opening closing =
    record { added = drop 2 closing; behind = refl; agrees = tt; never_back = (omega arith, tt); applies = refl; skips_jumps = refl } in
    let grown : GrownThrough idempotent (accepted_of life.connections) opening closing = (opening, first, (closing, second, refl)) in
    record {
      inbox_adds = refl;
      inbox_grown = λ image g. image_of_none
          (λ i. (k : ℕ) × GrownThrough idempotent (first_events k (accepted_of life.connections)) opening i × (3 ≤ k)) closing image (3, grown, omega arith) g;
      none_lost = grown;
      all_processed = λ _. refl;
      begins = (tt, (tt, tt));
      handshakes = (
        (
          (λ opens. absurd opens, (λ opens. absurd opens, (λ opens. absurd opens, (λ opens. absurd opens, tt)))),
          ((λ opens. absurd opens, (λ opens. absurd opens, (λ opens. absurd opens, tt))), ((λ opens. absurd opens, (λ opens. absurd opens, tt)), ((λ opens. absurd opens, tt), (tt, tt)))),
        ),
        (opened (Some 4) [], tt),
      );
      writes = (
        record {
          entries = (here (omega arith) refl, (here (omega arith) refl, tt));
          announced = ((omega arith, omega arith), ((omega arith, omega arith), ((omega arith, omega arith), tt)));
        },
        (record { entries = tt; announced = ((omega arith, omega arith), tt) }, tt),
      );
      reports = (reports_all _ refl, (reports_all _ refl, tt));
    }

-- all of what is left of a plan of which all was sent
all_was_sent : (plan sent : List (List ℕ)) → plan ≡ sent → Completes plan sent sent
all_was_sent plan sent e =
    record { behind = sym (append-nil sent) ∙ ap (λ ps. sent ++ ps) (sym (ap (λ ps. drop (length sent) ps) e ∙ (ap (λ ps. drop (length sent) ps) (sym (append-nil sent)) ∙ drop_length sent []))) }

second_a_keeps : KeepsContract recoverable idempotent orders second_a
second_a_keeps =
    let inbox = second_a.served.opening_inbox in
    let closing = payloads_of (applied second_a.served.closing_inbox) in
    let before = second_a.opening_outbox in
    let o = second_a.closing_outbox in
    record {
      connections = second_a_connections;
      outbox = record {
        outbox_grows = (finish ∷ [], refl);
        history_grows = λ image g. image_of_none (λ h. BeginsHistory (history_of before) (history_of h)) o image (goes_on before o refl ([], refl)) g;
        in_order = λ image g. image_of_none (λ h. InOrder (entries h)) o image three_in_order g;
        plans = λ image g s. image_of_none (λ h. Continues (orders s closing) (sent_by (entries before) s) (sent_by (entries h) s)) o image
            (not_grown (orders s closing) (sent_by (entries before) s)) g;
        finishes = λ image g was now. image_of_none (λ h. SendersDone orders (entries before) (entries h) inbox second_a.served.closing_inbox) o image
            (record {
              answered = inbox;
              opened = prefix_self inbox;
              reached = (drop 2 second_a.served.closing_inbox, refl);
              peer_done = inl (λ s applied other. refl);
              all_sent = λ s. all_was_sent (orders s (payloads_of (applied inbox))) (sent_by (entries before) s)
                  (senders s (λ p q. rw (p, q) refl) (λ p q. rw (p, q) refl) (λ p q. rw (p, q) refl));
            }) g;
      };
    }

-- the first connection of end b, as far as each image of its inbox has it
first_b_one : GrownRecoverable None (announce handshake (Some 1) ∷ message one ∷ []) [] (got 1 one ∷ [])
first_b_one = record { added = got 1 one ∷ []; behind = refl; none_skipped = refl; consecutive = refl; from_carried = ((0, omega arith, refl), tt); reaches = omega arith }

first_b_two : GrownRecoverable None (announce handshake (Some 1) ∷ message one ∷ message two ∷ []) [] (got 1 one ∷ got 2 two ∷ [])
first_b_two = record {
  added = got 1 one ∷ got 2 two ∷ [];
  behind = refl;
  none_skipped = refl;
  consecutive = refl;
  from_carried = ((0, omega arith, refl), ((1, omega arith, refl), tt));
  reaches = omega arith;
}

second_b_grows : GrownRecoverable None (announce handshake (Some 4) ∷ announce in_flow (Some 2) ∷ message two ∷ message three ∷ []) (got 1 one ∷ []) (got 1 one ∷ got 2 two ∷ got 3 three ∷ [])
second_b_grows = record {
  added = got 2 two ∷ got 3 three ∷ [];
  behind = refl;
  none_skipped = refl;
  consecutive = refl;
  from_carried = ((0, omega arith, refl), ((1, omega arith, refl), tt));
  reaches = omega arith;
}

first_b_connections : KeepsConnections idempotent recoverable [] (entries first_b.closing_outbox) first_b.served
first_b_connections =
    let life = first_b.served in
    let closing = life.closing_inbox in
    let two_grown : GrownThrough recoverable (accepted_of life.connections) [] (closing ++ got 2 two ∷ []) = (got 1 one ∷ got 2 two ∷ [], first_b_two, refl) in
    record {
      inbox_adds = refl;
      inbox_grown = λ image g. image_of_one
          (λ i. (k : ℕ) × GrownThrough recoverable (first_events k (accepted_of life.connections)) [] i × (2 ≤ k)) closing (got 2 two) image
          (2, (got 1 one ∷ [], first_b_one, refl), omega arith) (3, two_grown, omega arith) g;
      none_lost = two_grown;
      all_processed = λ none. absurd (cc none);
      begins = (tt, tt);
      handshakes = (opened (Some 1) (reply one ∷ []), tt);
      writes = (record { entries = (here (omega arith) refl, tt); announced = ((omega arith, omega arith), tt) }, tt);
      reports = (reports_all _ refl, tt);
    }

first_b_keeps : KeepsContract idempotent recoverable replies first_b
first_b_keeps =
    let closing = payloads_of (applied first_b.served.closing_inbox) in
    let o = first_b.closing_outbox in
    record {
      connections = first_b_connections;
      outbox = record {
        outbox_grows = (o, refl);
        history_grows = λ image g. image_of_none (λ h. BeginsHistory (history_of []) (history_of h)) o image (goes_on [] o refl (entries o, refl)) g;
        in_order = λ image g. image_of_none (λ h. InOrder (entries h)) o image one_reply_in_order g;
        plans = λ image g s. image_of_none (λ h. Continues (replies s closing) [] (sent_by (entries h) s)) o image
            (from_nothing (replies s closing) (sent_by (entries o) s) (senders s (λ p q. rw p ([], refl)) (λ p q. rw p ([], refl)) (λ p q. rw p ([], refl)))) g;
        finishes = λ image g was now. unfinished image (image_of_none (λ h. is_finished h ≡ false) o image refl g) now;
      };
    }

second_b_connections : KeepsConnections idempotent recoverable (entries (second_b 5).opening_outbox) (entries (second_b 5).closing_outbox) (second_b 5).served
second_b_connections =
    let life = (second_b 5).served in
    let closing = life.closing_inbox in
    let all = got 1 one ∷ got 2 two ∷ got 3 three ∷ [] in
    let last : GrownRecoverable None (announce handshake (Some 4) ∷ []) all closing =
    record { added = peer_finished 3 ∷ []; behind = refl; none_skipped = refl; consecutive = refl; from_carried = tt; reaches = omega arith } in
    let grown : GrownThrough recoverable (accepted_of life.connections) (got 1 one ∷ []) closing = (all, second_b_grows, (all, still_recoverable [] all refl, (closing, last, refl))) in
    record {
      inbox_adds = refl;
      inbox_grown = λ image g. image_of_none
          (λ i. (k : ℕ) × GrownThrough recoverable (first_events k (accepted_of life.connections)) (got 1 one ∷ []) i × (5 ≤ k)) closing image (5, grown, omega arith) g;
      none_lost = grown;
      all_processed = λ _. refl;
      begins = (tt, (tt, (tt, tt)));
      handshakes = (opened (Some 2) [], (opened (Some 2) (reply two ∷ []), (opened (Some 3) (reply three ∷ []), tt)));
      writes = (
        record { entries = tt; announced = ((omega arith, omega arith), tt) },
        (
          record { entries = (here (omega arith) refl, tt); announced = ((omega arith, omega arith), tt) },
          (record { entries = (here (omega arith) refl, tt); announced = ((omega arith, omega arith), tt) }, tt),
        ),
      );
      reports = (reports_all _ refl, (reports_all _ refl, (reports_all _ refl, tt)));
    }

second_b_keeps : KeepsContract idempotent recoverable replies (second_b 5)
second_b_keeps =
    let inbox = (second_b 5).served.closing_inbox in
    let closing = payloads_of (applied inbox) in
    let before = (second_b 5).opening_outbox in
    let o = (second_b 5).closing_outbox in
    record {
      connections = second_b_connections;
      outbox = record {
        outbox_grows = (drop 1 o, refl);
        history_grows = λ image g. image_of_none (λ h. BeginsHistory (history_of before) (history_of h)) o image (goes_on before o refl (drop 1 (entries o), refl)) g;
        in_order = λ image g. image_of_none (λ h. InOrder (entries h)) o image replies_in_order g;
        plans = λ image g s. image_of_none (λ h. Continues (replies s closing) (sent_by (entries before) s) (sent_by (entries h) s)) o image
            (record {
              more = sent_by (entries (sent 1 2 (reply two) ∷ sent 1 3 (reply three) ∷ [])) s;
              behind = senders s (λ p q. rw p refl) (λ p q. rw p refl) (λ p q. rw p refl);
              planned = senders s (λ p q. rw p ([], refl)) (λ p q. rw p ([], refl)) (λ p q. rw p ([], refl));
            }) g;
        finishes = λ image g was now. image_of_none (λ h. SendersDone replies (entries before) (entries h) (got 1 one ∷ []) inbox) o image
            (record {
              answered = inbox;
              opened = (drop 1 inbox, refl);
              reached = prefix_self inbox;
              peer_done = inr refl;
              all_sent = λ s. record { behind = senders s (λ p q. rw p refl) (λ p q. rw p refl) (λ p q. rw p refl) };
            }) g;
      };
    }

pub sequenced_sample : SequencedSample 5
sequenced_sample = record {
  chained_a = (
    second_a.opening_outbox,
    second_a.served.opening_inbox,
    record {
      opens_outbox = refl;
      opens_inbox = refl;
      outbox_image = record { kept = sent 1 2 three ∷ []; beginning = ([], refl); holds = refl };
      inbox_image = record { kept = []; beginning = ([], refl); holds = refl };
    },
    (
      second_a.closing_outbox,
      second_a.served.closing_inbox,
      record {
        opens_outbox = refl;
        opens_inbox = refl;
        outbox_image = record { kept = []; beginning = ([], refl); holds = refl };
        inbox_image = record { kept = []; beginning = ([], refl); holds = refl };
      },
      (refl, refl),
    ),
  );
  chained_b = (
    (second_b 5).opening_outbox,
    (second_b 5).served.opening_inbox,
    record {
      opens_outbox = refl;
      opens_inbox = refl;
      outbox_image = record { kept = []; beginning = ([], refl); holds = refl };
      inbox_image = record { kept = []; beginning = (got 2 two ∷ [], refl); holds = refl };
    },
    (
      (second_b 5).closing_outbox,
      (second_b 5).served.closing_inbox,
      record {
        opens_outbox = refl;
        opens_inbox = refl;
        outbox_image = record { kept = []; beginning = ([], refl); holds = refl };
        inbox_image = record { kept = []; beginning = ([], refl); holds = refl };
      },
      (refl, refl),
    ),
  );
  contract_a = (first_a_keeps, (second_a_keeps, tt));
  contract_b = (first_b_keeps, (second_b_keeps, tt));
  linked =
      paired (taken (taken rest_lost)) (rejected (taken (taken (taken rest_lost))))
      (left_alone refl
      (paired (taken rest_lost) (taken (taken (taken (taken rest_lost))))
      (right_alone refl (paired (taken (taken rest_lost)) (taken rest_lost) Lives.Linked.no_more))));
}

pub sample_plans_go_on : SamplePlansGoOn
sample_plans_go_on = (
  λ s earlier later b. prefix_self (orders s earlier),
  λ s earlier later b. senders s (λ p q. rw p (prefix_map reply earlier later b)) (λ p q. rw p ([], refl)) (λ p q. rw p ([], refl)),
)

-- one sender's entries count 1, 2, 3
news_in_order : InOrder (entries (sent 1 1 one ∷ sent 1 2 two ∷ []))
news_in_order s = senders s (λ p q. rw p refl) (λ p q. rw p refl) (λ p q. rw p refl)

more_news_in_order : InOrder (entries (sent 1 1 one ∷ sent 1 2 two ∷ sent 1 3 three ∷ []))
more_news_in_order s = senders s (λ p q. rw p refl) (λ p q. rw p refl) (λ p q. rw p refl)

-- where nothing comes, nothing grows
still_none : (i : List InboxRecord) → GrownByNone i i
still_none i = record { added = []; behind = sym (append-nil i); none_skipped = refl; none_applied = refl }

-- a journal of one sender without a finish, that grows
grows_by_one : (plan : ℕ → List (List ℕ) → List (List ℕ)) (life : Life) → life.refused_outbox ≡ [] → is_finished life.opening_outbox ≡ false → is_finished life.closing_outbox ≡ false
    → IsPrefix life.opening_outbox life.closing_outbox → InOrder (entries life.closing_outbox)
    → ((s : ℕ) → Continues (plan s (payloads_of (applied life.served.closing_inbox))) (sent_by (entries life.opening_outbox) s) (sent_by (entries life.closing_outbox) s))
    → KeepsOutbox plan life
grows_by_one plan life none was now grows order planned =
    let o = life.closing_outbox in
    let each : (P : List OutboxRecord → Type 0) (image : List OutboxRecord) → P o → IsImage o life.refused_outbox image → P image =
    λ P image p g. image_of_none P o image p (subst (λ r. IsImage o r image) none g) in
    record {
      outbox_grows = grows;
      history_grows = λ image g. each (λ h. BeginsHistory (history_of life.opening_outbox) (history_of h)) image
          (goes_on life.opening_outbox o was (prefix_entries life.opening_outbox o grows)) g;
      in_order = λ image g. each (λ h. InOrder (entries h)) image order g;
      plans = λ image g s. each (λ h. Continues (plan s (payloads_of (applied life.served.closing_inbox))) (sent_by (entries life.opening_outbox) s) (sent_by (entries h) s)) image (planned s) g;
      finishes = λ image g _ yes. unfinished image (each (λ h. is_finished h ≡ false) image now g) yes;
    }

first_publisher_keeps : KeepsContract unsequenced no_flow news first_publisher
first_publisher_keeps = record {
  connections = record {
    inbox_adds = refl;
    inbox_grown = λ image g. image_of_none (λ i. (k : ℕ) × GrownThrough no_flow (first_events k (accepted_of first_publisher.served.connections)) [] i × (1 ≤ k)) [] image
        (1, ([], still_none [], ([], still_none [], refl)), omega arith) g;
    none_lost = ([], still_none [], ([], still_none [], refl));
    all_processed = λ _. refl;
    begins = (tt, (tt, tt));
    handshakes = (opened None (one ∷ []), (opened None (two ∷ []), tt));
    writes = (1, omega arith, here (omega arith) refl, (2, omega arith, here (omega arith) refl, tt));
    reports = (reports_all _ refl, (reports_all _ refl, tt));
  };
  outbox = grows_by_one news first_publisher refl refl refl (first_publisher.closing_outbox, refl) news_in_order
      (λ s. from_nothing (news s []) (sent_by (entries first_publisher.closing_outbox) s) (senders s (λ p q. rw p (three ∷ [], refl)) (λ p q. rw p ([], refl)) (λ p q. rw p ([], refl))));
}

second_publisher_keeps : KeepsContract unsequenced no_flow news second_publisher
second_publisher_keeps = record {
  connections = record {
    inbox_adds = refl;
    inbox_grown = λ image g. image_of_none (λ i. (k : ℕ) × GrownThrough no_flow (first_events k (accepted_of second_publisher.served.connections)) [] i × (1 ≤ k)) [] image
        (1, ([], still_none [], refl), omega arith) g;
    none_lost = ([], still_none [], refl);
    all_processed = λ _. refl;
    begins = (tt, tt);
    handshakes = (opened None (three ∷ []), tt);
    writes = (3, omega arith, here (omega arith) refl, tt);
    reports = (reports_all _ refl, tt);
  };
  outbox = grows_by_one news second_publisher refl refl refl (sent 1 3 three ∷ [], refl) more_news_in_order
      (λ s. record {
        more = sent_by (entries (sent 1 3 three ∷ [])) s;
        behind = senders s (λ p q. rw p refl) (λ p q. rw p refl) (λ p q. rw p refl);
        planned = senders s (λ p q. rw p ([], refl)) (λ p q. rw p ([], refl)) (λ p q. rw p ([], refl));
      });
}

listener_keeps : KeepsContract no_flow unsequenced silence listener
listener_keeps =
    let life = listener.served in
    let first : GrownUnsequenced (announce handshake None ∷ message one ∷ []) [] (got 1 one ∷ []) =
    record { added = got 1 one ∷ []; behind = refl; none_skipped = refl; delivers = refl; counts = refl } in
    let second : GrownUnsequenced (announce handshake None ∷ message three ∷ []) (got 1 one ∷ []) life.closing_inbox =
    record { added = got 2 three ∷ []; behind = refl; none_skipped = refl; delivers = refl; counts = refl } in
    let grown : GrownThrough unsequenced (accepted_of life.connections) [] life.closing_inbox = (got 1 one ∷ [], first, (life.closing_inbox, second, refl)) in
    record {
      connections = record {
        inbox_adds = refl;
        inbox_grown = λ image g. image_of_none (λ i. (k : ℕ) × GrownThrough unsequenced (first_events k (accepted_of life.connections)) [] i × (4 ≤ k)) life.closing_inbox image
            (4, grown, omega arith) g;
        none_lost = grown;
        all_processed = λ _. refl;
        begins = (tt, (tt, tt));
        handshakes = (opened None [], (opened None [], tt));
        writes = refl;
        reports = (reports_all _ refl, (reports_all _ refl, tt));
      };
      outbox = grows_by_one silence listener refl refl refl ([], refl) (λ s. refl) (λ s. not_grown [] []);
    }

pub unsequenced_sample : UnsequencedSample
unsequenced_sample = record {
  chained_a = (
    second_publisher.opening_outbox,
    [],
    record {
      opens_outbox = refl;
      opens_inbox = refl;
      outbox_image = record { kept = []; beginning = ([], refl); holds = refl };
      inbox_image = record { kept = []; beginning = ([], refl); holds = refl };
    },
    (
      second_publisher.closing_outbox,
      [],
      record {
        opens_outbox = refl;
        opens_inbox = refl;
        outbox_image = record { kept = []; beginning = ([], refl); holds = refl };
        inbox_image = record { kept = []; beginning = ([], refl); holds = refl };
      },
      (refl, refl),
    ),
  );
  chained_b = (
    [],
    listener.served.closing_inbox,
    record {
      opens_outbox = refl;
      opens_inbox = refl;
      outbox_image = record { kept = []; beginning = ([], refl); holds = refl };
      inbox_image = record { kept = []; beginning = ([], refl); holds = refl };
    },
    (refl, refl),
  );
  contract_a = (first_publisher_keeps, (second_publisher_keeps, tt));
  contract_b = (listener_keeps, tt);
  linked =
      paired (taken rest_lost) (taken (taken rest_lost))
      (left_alone refl (paired (taken rest_lost) (taken (taken rest_lost)) Lives.Linked.no_more));
}

pub parts_sample : PartsSample
parts_sample = (
  record { added = got 2 two ∷ []; behind = refl; none_skipped = refl; consecutive = refl; from_carried = ((0, omega arith, refl), tt); reaches = omega arith },
  record { added = got 3 three ∷ []; behind = refl; none_skipped = refl; consecutive = refl; from_carried = ((0, omega arith, refl), tt); reaches = omega arith },
  record { added = skip missed ∷ got 3 three ∷ []; behind = refl; agrees = tt; never_back = (omega arith, tt); applies = refl; skips_jumps = refl },
  record { added = got 4 one ∷ []; behind = refl; agrees = refl; never_back = tt; applies = refl; skips_jumps = refl },
)

pub held_sample : HeldSample
held_sample = (
  record { added = []; behind = refl; none_skipped = refl; consecutive = refl; from_carried = tt; reaches = omega arith },
  record { added = got 2 two ∷ got 3 three ∷ []; behind = refl; none_skipped = refl; consecutive = refl; from_carried = ((1, omega arith, refl), ((0, omega arith, refl), tt)); reaches = omega arith },
)

pub histories_sample : HistoriesSample
histories_sample = (
  record { made = (record { sender = 1; own_number = 1; payload = one } ∷ [], refl); alone = λ marked. absurd (cc marked) },
  record { made = ([], refl); alone = λ marked. absurd (cc marked) },
)

pub plans_sample : PlansSample
plans_sample = ((two ∷ three ∷ [], refl), record { behind = refl })

-- a first connection, on the link 1
has_first : (e : End) (c : Connection) → e.now.served.connections ≡ c ∷ [] → e.links ≡ 1 ∷ [] → HasNow e 1 c
has_first e c connection link = record { earlier = []; before = []; connection = connection; link = link }

pub history_sample : HistorySample
history_sample =
    let heard : Connection = record { accepted = []; written = announce handshake (Some 1) ∷ []; added = []; reported = []; drained = false } in
    let spoke : Connection =
    record { accepted = announce handshake (Some 1) ∷ []; written = announce handshake (Some 1) ∷ []; added = []; reported = []; drained = false } in (
      (
        tt,
        (
          tt,
          (
            tt,
            (
              tt,
              (
                record { n = 1; c = fresh; has = has_first _ fresh refl refl; comes = taken rest_lost },
                (
                  tt,
                  (
                    record { n = 1; c = heard; has = has_first _ heard refl refl; comes = taken rest_lost },
                    (tt, (record { n = 1; c = spoke; has = has_first _ spoke refl refl; comes = taken (taken rest_lost) }, ((image, image), tt))),
                  ),
                ),
              ),
            ),
          ),
        ),
      ),
      refl,
      refl,
    )
  where
    image : {A : Type 0} {closing : List A} → IsImage closing [] closing
    image {closing = closing} = record { kept = []; beginning = ([], refl); holds = sym (append-nil closing) }
