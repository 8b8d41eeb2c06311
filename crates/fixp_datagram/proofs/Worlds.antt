-- What every world keeps, whatever happens in it.
use Rattle.std.proofs.Common.{◌≡◌, ℕ, zero, suc, ◌+◌, ◌-◌, ◌<◌, ◌≤◌, max, nat_lt, Bool, true, false, if◌then◌else◌, List, [], ◌∷◌, ◌++◌, map, length, take, drop, slice_get, Option, Some, None, unwrap_or, refl, sym, ap, subst, ◌∙◌, arith, length-append, length-drop}
use Rattle.std.specs.List.{AllByRecursion}
use Rattle.std.proofs.lemmas.Bool.Decides.{nat_tests}
use Rattle.std.proofs.lemmas.List.{take-append-le, drop-append-le, map-append, length-map}
use Rattle.session_model.specs.Journal.{Entry, payloads}
use Rattle.session_model.specs.Inbox.{InboxRecord, apply, next_number}
use Rattle.session_model.specs.Events.{announce, in_flow, message, TrueOfJournal}
use Rattle.session_model.specs.Events as events
use Rattle.session_model.specs.Growth.{recoverable, idempotent, unsequenced, no_flow, jump, jumps_through, Grown, GrownThrough, AppliesPrefix, SettlesOnce}
use Rattle.session_model.specs.Growth as growth
use Rattle.session_model.proofs.Lists.{prefix_of_append, all_weaker, all_append}
use Rattle.session_model.proofs.Recoverable.{recoverable_keeps_prefix}
use Rattle.session_model.proofs.Idempotent.{idempotent_keeps_once, idempotent_connections}
use Rattle.session_model.proofs.Through.{through_keeps, connections_go_on}
use Rattle.session_model.proofs.Truth.{true_stays_true}
use Rattle.fixp_msgs.specs.declared.flow.Flow.{Flow}
use Rattle.fixp_msgs.specs.declared.flow.Flow.TheVariants.{Recoverable, Idempotent, Unsequenced, None as NoFlow}
use Rattle.flow_idem.specs.Applying.{jump_of}
use Rattle.fixp_datagram.specs.Datagrams.{Contents}
use Rattle.fixp_datagram.specs.Receiving.{IsCarried, missed, next_behind}
use Rattle.fixp_datagram.specs.Delivering.{reports, received, recorded}
use Rattle.fixp_datagram.specs.World.{World, Event, accept, write, deliver, restart, begun, entries_from, are_entries, delivered_to, happens, run, jumps_over}
use Rattle.fixp_datagram.specs.Laws.{RecoverableIsPrefix, IdempotentHasEachOnce, HasNumber, numbered_from, NextGrows, events_of, news, all_news, RecoverableGrows, IdempotentGrows, ReceiverFollows}
use Rattle.fixp_datagram.proofs.Chained.{messages_from, chain_from}
use Rattle.fixp_datagram.proofs.Started.{jump_records, records_taken, receiver_behind}
use Rattle.fixp_datagram.proofs.Grown.{length-messages_from, chain_reach, in_order, recoverable_step, recoverable_next, with_jump, news_jumps, idempotent_step, news_reach, news_standing, idempotent_next, IsOf, datagram_true, news_of, within_of}

-- the same flow, as the session model names it
abbrev model_of : Flow → growth.Flow
model_of Recoverable = recoverable
model_of Idempotent = idempotent
model_of Unsequenced = unsequenced
model_of NoFlow = no_flow

-- what the delivered datagrams carry for an inbox of a flow
abbrev carried : Flow → List Contents → List (List events.Event)
carried Recoverable ds = map events_of ds
carried Idempotent ds = all_news 1 ds
carried Unsequenced ds = []
carried NoFlow ds = []

-- the number that datagrams reach, from one reached before
abbrev reached : ℕ → List Contents → ℕ
reached next [] = next
reached next (d ∷ ds) = reached (max next (d.first + length d.payloads)) ds

-- how far an inbox is: the idempotent one is where the datagrams reach
abbrev IsWhere : Flow → ℕ → List Contents → Type 0
IsWhere Recoverable next ds = Unit {0}
IsWhere Idempotent next ds = next ≡ reached 1 ds
IsWhere Unsequenced next ds = Unit {0}
IsWhere NoFlow next ds = Unit {0}

record Keeps (flow : Flow) (w : World) : Type 0 where
  flow_is : w.flow ≡ flow
  receiver_flow : w.receiver.flow ≡ flow
  receiver_most : w.receiver.most ≡ w.most
  follows : w.receiver.next ≡ next_number w.inbox
  within : length w.history ≤ w.most
  reach : next_number w.inbox ≤ length w.history + 1
  written : AllByRecursion (IsOf w.history) w.written
  true_all : AllByRecursion (TrueOfJournal w.history None) (carried flow w.delivered)
  grown : GrownThrough (model_of flow) (carried flow w.delivered) [] w.inbox
  where_is : IsWhere flow (next_number w.inbox) w.delivered

keeps_begun : (flow : Flow) (most : ℕ) → IsCarried flow → Keeps flow (begun flow most)
keeps_begun Recoverable most c = record {
  flow_is = refl;
  receiver_flow = refl;
  receiver_most = refl;
  follows = refl;
  within = omega arith;
  reach = omega arith;
  written = tt;
  true_all = tt;
  grown = refl;
  where_is = tt;
}
keeps_begun Idempotent most c = record {
  flow_is = refl;
  receiver_flow = refl;
  receiver_most = refl;
  follows = refl;
  within = omega arith;
  reach = omega arith;
  written = tt;
  true_all = tt;
  grown = refl;
  where_is = refl;
}
keeps_begun Unsequenced most c = absurd c
keeps_begun NoFlow most c = absurd c

-- an entry more
of_longer : (h : List Entry) (e : Entry) (d : Contents) → IsOf h d → IsOf (h ++ e ∷ []) d
of_longer h e d of =
    let ps = payloads h in
    let more = payloads (e ∷ []) in
    let all : payloads (h ++ e ∷ []) ≡ ps ++ more = map-append _ h (e ∷ []) in
    let len : length ps ≡ length h = length-map h (λ (x : Entry). x.payload) in
    let place : d.first - 1 ≤ length ps = omega (arith, len, of.from_one, of.to_last) in
    let there : of.count ≤ length (drop (d.first - 1) ps) = omega (arith, len, of.from_one, of.to_last, length-drop (d.first - 1) ps) in
    record {
      count = of.count;
      from_one = of.from_one;
      to_last = omega (arith, of.to_last, length-append h (e ∷ []));
      entries = of.entries
          ∙ (sym (take-append-le of.count (drop (d.first - 1) ps) more there)
          ∙ (ap (take of.count) (sym (drop-append-le (d.first - 1) ps more place))
          ∙ ap (λ xs. take of.count (drop (d.first - 1) xs)) (sym all)));
    }

keeps_longer : (flow : Flow) (w : World) (e : Entry) → Keeps flow w → length w.history < w.most → Keeps flow (record w { history = w.history ++ e ∷ [] })
keeps_longer flow w e k room =
    let longer = length-append w.history (e ∷ []) in
    record {
      flow_is = k.flow_is;
      receiver_flow = k.receiver_flow;
      receiver_most = k.receiver_most;
      follows = k.follows;
      within = omega (arith, longer, room);
      reach = omega (arith, longer, k.reach);
      written = all_weaker (IsOf w.history) (IsOf (w.history ++ e ∷ [])) (of_longer w.history e) w.written k.written;
      true_all = all_weaker _ _ (λ es t. true_stays_true w.history (w.history ++ e ∷ []) None es (prefix_of_append w.history (e ∷ [])) t)
          (carried flow w.delivered) k.true_all;
      grown = k.grown;
      where_is = k.where_is;
    }

keeps_accept : (flow : Flow) (w : World) (e : Entry) → Keeps flow w → Keeps flow (happens w (accept e))
keeps_accept flow w e k = by_test (nat_lt (length w.history) w.most) refl
  where
    by_test : (b : Bool) → nat_lt (length w.history) w.most ≡ b → Keeps flow (if b then record w { history = w.history ++ e ∷ [] } else w)
    by_test true t = keeps_longer flow w e k (grind (arith, nat_tests))
    by_test false t = k

-- a datagram more
entries_are_of : (h : List Entry) (first count : ℕ) → are_entries h first count ≡ true → IsOf h (entries_from h first count)
entries_are_of h first count t = record {
  count = count;
  from_one = grind (arith, nat_tests);
  to_last = grind (arith, nat_tests);
  entries = refl;
}

keeps_write : (flow : Flow) (w : World) (first count : ℕ) → Keeps flow w → Keeps flow (happens w (write first count))
keeps_write flow w first count k = by_test (are_entries w.history first count) refl
  where
    by_test : (b : Bool) → are_entries w.history first count ≡ b
        → Keeps flow (if b then record w { written = w.written ++ entries_from w.history first count ∷ [] } else w)
    by_test true t = record {
      flow_is = k.flow_is;
      receiver_flow = k.receiver_flow;
      receiver_most = k.receiver_most;
      follows = k.follows;
      within = k.within;
      reach = k.reach;
      written = all_append (IsOf w.history) w.written (entries_from w.history first count ∷ []) k.written (entries_are_of w.history first count t, tt);
      true_all = k.true_all;
      grown = k.grown;
      where_is = k.where_is;
    }
    by_test false t = k

keeps_restart : (flow : Flow) (w : World) → Keeps flow w → Keeps flow (happens w restart)
keeps_restart flow w k = record {
  flow_is = k.flow_is;
  receiver_flow = k.flow_is;
  receiver_most = refl;
  follows = refl;
  within = k.within;
  reach = k.reach;
  written = k.written;
  true_all = k.true_all;
  grown = k.grown;
  where_is = k.where_is;
}

-- one connection more
through_more : (flow : growth.Flow) (first : List (List events.Event)) (es : List events.Event) (before after : List InboxRecord)
    → GrownThrough flow first [] before → Grown flow None es before after → GrownThrough flow (first ++ es ∷ []) [] after
through_more flow first es before after g f = (connections_go_on flow first (es ∷ []) [] after).1 (before, g, (after, f, refl))

all_news-push : (next : ℕ) (ds : List Contents) (d : Contents) → all_news next (ds ++ d ∷ []) ≡ all_news next ds ++ events_of (news (reached next ds) d) ∷ []
all_news-push next [] d = refl
all_news-push next (x ∷ ds) d = ap (λ es. events_of (news next x) ∷ es) (all_news-push (max next (x.first + length x.payloads)) ds d)

reached-push : (next : ℕ) (ds : List Contents) (d : Contents) → reached next (ds ++ d ∷ []) ≡ max (reached next ds) (d.first + length d.payloads)
reached-push next [] d = refl
reached-push next (x ∷ ds) d = reached-push (max next (x.first + length x.payloads)) ds d

-- what a delivery records, and where the receiver is then
record Recoverably (w : World) (d : Contents) : Type 0 where
  records : recorded (reports w.receiver d) ≡ in_order (next_number w.inbox) d
  waits : (received w.receiver d).next ≡ next_number (w.inbox ++ in_order (next_number w.inbox) d)
  same_flow : (received w.receiver d).flow ≡ w.receiver.flow
  same_most : (received w.receiver d).most ≡ w.receiver.most

recoverably : (w : World) (d : Contents) → Keeps Recoverable w → IsOf w.history d → Recoverably w d
recoverably w d k of =
    let r = w.receiver in
    let fits : d.first + length d.payloads ≤ r.most + 1 = omega (arith, within_of w.history d of, k.within, k.receiver_most) in
    let ms = messages_from d.first d.payloads in
    let there = receiver_behind r d of.from_one fits in
    let next_same : next_behind r.flow r.next d.first ≡ next_number w.inbox = ap (λ f. next_behind f r.next d.first) k.receiver_flow ∙ k.follows in
    record {
      records = records_taken r d of.from_one fits
          ∙ (ap (λ f. jump_records (missed f r.next d.first) ++ map apply (growth.chain (next_behind r.flow r.next d.first) ms)) k.receiver_flow
          ∙ ap (λ n. map apply (growth.chain n ms)) next_same);
      waits = there.waits ∙ (ap (λ n. n + length (growth.chain n ms)) next_same ∙ sym (recoverable_next w.inbox d));
      same_flow = there.same_flow;
      same_most = there.same_most;
    }

record Idempotently (w : World) (d : Contents) : Type 0 where
  records : recorded (reports w.receiver d) ≡ with_jump (next_number w.inbox) d
  waits : (received w.receiver d).next ≡ max (next_number w.inbox) (d.first + length d.payloads)
  same_flow : (received w.receiver d).flow ≡ w.receiver.flow
  same_most : (received w.receiver d).most ≡ w.receiver.most

idempotently : (w : World) (d : Contents) → Keeps Idempotent w → IsOf w.history d → Idempotently w d
idempotently w d k of =
    let r = w.receiver in
    let next = next_number w.inbox in
    let fits : d.first + length d.payloads ≤ r.most + 1 = omega (arith, within_of w.history d of, k.within, k.receiver_most) in
    let ms = messages_from d.first d.payloads in
    let there = receiver_behind r d of.from_one fits in
    let next_same : next_behind r.flow r.next d.first ≡ max next d.first =
    ap (λ f. next_behind f r.next d.first) k.receiver_flow ∙ ap (λ n. max n d.first) k.follows in
    let missed_same : missed r.flow r.next d.first ≡ jump_of next d.first =
    ap (λ f. missed f r.next d.first) k.receiver_flow ∙ ap (λ n. jump_of n d.first) k.follows in
    let place : max next d.first - d.first ≡ next - d.first = omega arith in
    let cut : growth.chain (max next d.first) ms ≡ messages_from (max next d.first) (drop (next - d.first) d.payloads) =
    chain_from (max next d.first) d.first d.payloads (omega arith)
    ∙ ap (λ j. messages_from (max next d.first) (drop j d.payloads)) place in
    record {
      records = records_taken r d of.from_one fits
          ∙ (ap (λ o. jump_records o ++ map apply (growth.chain (next_behind r.flow r.next d.first) ms)) missed_same
          ∙ (ap (λ n. jump_records (jump_of next d.first) ++ map apply (growth.chain n ms)) next_same
          ∙ ap (λ xs. jump_records (jump_of next d.first) ++ map apply xs) cut));
      waits = there.waits
          ∙ (ap (λ n. n + length (growth.chain n ms)) next_same
          ∙ (ap (λ xs. max next d.first + length xs) cut
          ∙ (ap (λ n. max next d.first + n) (length-messages_from (max next d.first) (drop (next - d.first) d.payloads))
          ∙ news_reach next d.first d.payloads)));
      same_flow = there.same_flow;
      same_most = there.same_most;
    }

keeps_recoverable : (w : World) (d : Contents) → Keeps Recoverable w → IsOf w.history d → Keeps Recoverable (delivered_to w (Some d))
keeps_recoverable w d k of =
    let s = recoverably w d k of in
    let next = next_number w.inbox in
    let after = w.inbox ++ recorded (reports w.receiver d) in
    let same : after ≡ w.inbox ++ in_order next d = ap (λ rs. w.inbox ++ rs) s.records in
    let lists : map events_of (w.delivered ++ d ∷ []) ≡ map events_of w.delivered ++ events_of d ∷ [] = map-append events_of w.delivered (d ∷ []) in
    record {
      flow_is = k.flow_is;
      receiver_flow = s.same_flow ∙ k.receiver_flow;
      receiver_most = s.same_most ∙ k.receiver_most;
      follows = s.waits ∙ ap next_number (sym same);
      within = k.within;
      reach = omega (arith, ap next_number same, recoverable_next w.inbox d, chain_reach next d.first d.payloads, k.reach, within_of w.history d of);
      written = k.written;
      true_all = subst (AllByRecursion (TrueOfJournal w.history None)) (sym lists)
          (all_append (TrueOfJournal w.history None) (map events_of w.delivered) (events_of d ∷ []) k.true_all (datagram_true w.history d of, tt));
      grown = subst (λ es. GrownThrough recoverable es [] after) (sym lists)
          (subst (λ i. GrownThrough recoverable (map events_of w.delivered ++ events_of d ∷ []) [] i) (sym same)
          (through_more recoverable (map events_of w.delivered) (events_of d) w.inbox (w.inbox ++ in_order next d) k.grown (recoverable_step w.inbox d)));
      where_is = tt;
    }

keeps_idempotent : (w : World) (d : Contents) → Keeps Idempotent w → IsOf w.history d → Keeps Idempotent (delivered_to w (Some d))
keeps_idempotent w d k of =
    let s = idempotently w d k of in
    let next = next_number w.inbox in
    let after = w.inbox ++ recorded (reports w.receiver d) in
    let same : after ≡ w.inbox ++ with_jump next d = ap (λ rs. w.inbox ++ rs) s.records in
    let then_next : next_number after ≡ max next (d.first + length d.payloads) = ap next_number same ∙ idempotent_next w.inbox d in
    let new = events_of (news next d) in
    let lists : all_news 1 (w.delivered ++ d ∷ []) ≡ all_news 1 w.delivered ++ new ∷ [] =
    all_news-push 1 w.delivered d ∙ ap (λ n. all_news 1 w.delivered ++ events_of (news n d) ∷ []) (sym k.where_is) in
    record {
      flow_is = k.flow_is;
      receiver_flow = s.same_flow ∙ k.receiver_flow;
      receiver_most = s.same_most ∙ k.receiver_most;
      follows = s.waits ∙ sym then_next;
      within = k.within;
      reach = omega (arith, then_next, k.reach, within_of w.history d of);
      written = k.written;
      true_all = subst (AllByRecursion (TrueOfJournal w.history None)) (sym lists)
          (all_append (TrueOfJournal w.history None) (all_news 1 w.delivered) (new ∷ []) k.true_all
          (datagram_true w.history (news next d) (news_of w.history next d k.reach of), tt));
      grown = subst (λ es. GrownThrough idempotent es [] after) (sym lists)
          (subst (λ i. GrownThrough idempotent (all_news 1 w.delivered ++ new ∷ []) [] i) (sym same)
          (through_more idempotent (all_news 1 w.delivered) new w.inbox (w.inbox ++ with_jump next d) k.grown (idempotent_step w.inbox d)));
      where_is = then_next ∙ (ap (λ n. max n (d.first + length d.payloads)) k.where_is ∙ sym (reached-push 1 w.delivered d));
    }

-- the one that stands at a place
found_of : (h : List Entry) (ds : List Contents) (place : ℕ) (d : Contents) → AllByRecursion (IsOf h) ds → slice_get ds place ≡ Some d → IsOf h d
found_of h [] place d all e = absurd (cc e)
found_of h (x ∷ ds) zero d all e = let same : x ≡ d = cc e in subst (IsOf h) same all.0
found_of h (x ∷ ds) (suc place) d all e = found_of h ds place d all.1 e

keeps_delivered : (flow : Flow) (w : World) (d : Contents) → IsCarried flow → Keeps flow w → IsOf w.history d → Keeps flow (delivered_to w (Some d))
keeps_delivered Recoverable w d c k of = keeps_recoverable w d k of
keeps_delivered Idempotent w d c k of = keeps_idempotent w d k of
keeps_delivered Unsequenced w d c k of = absurd c
keeps_delivered NoFlow w d c k of = absurd c

keeps_deliver : (flow : Flow) (w : World) (place : ℕ) → IsCarried flow → Keeps flow w → Keeps flow (happens w (deliver place))
keeps_deliver flow w place c k = by_case (slice_get w.written place) refl
  where
    by_case : (o : Option Contents) → slice_get w.written place ≡ o → Keeps flow (delivered_to w o)
    by_case None e = k
    by_case (Some d) e = keeps_delivered flow w d c k (found_of w.history w.written place d k.written e)

keeps_event : (flow : Flow) (w : World) (e : Event) → IsCarried flow → Keeps flow w → Keeps flow (happens w e)
keeps_event flow w (accept e) c k = keeps_accept flow w e k
keeps_event flow w (write first count) c k = keeps_write flow w first count k
keeps_event flow w (deliver place) c k = keeps_deliver flow w place c k
keeps_event flow w restart c k = keeps_restart flow w k

keeps_run : (flow : Flow) (es : List Event) (w : World) → IsCarried flow → Keeps flow w → Keeps flow (run es w)
keeps_run flow [] w c k = k
keeps_run flow (e ∷ es) w c k = keeps_run flow es (happens w e) c (keeps_event flow w e c k)

kept : (flow : Flow) (most : ℕ) (es : List Event) → IsCarried flow → Keeps flow (run es (begun flow most))
kept flow most es c = keeps_run flow es (begun flow most) c (keeps_begun flow most c)

pub recoverable_is_prefix : RecoverableIsPrefix
recoverable_is_prefix most es =
    let k = kept Recoverable most es tt in
    let h = (run es (begun Recoverable most)).history in
    through_keeps recoverable (AppliesPrefix h) (TrueOfJournal h None)
    (λ es' before after t g p. recoverable_keeps_prefix h None es' before after t g p)
    _ [] _ k.true_all k.grown
    (record { prefix = (payloads h, refl); counted = refl; whole = refl })

-- the jumps of the datagrams are those of what they have that is not behind
jumps_same : (next : ℕ) (ds : List Contents) → jumps_through next (all_news next ds) ≡ jumps_over next ds
jumps_same next [] = refl
jumps_same next (d ∷ ds) =
    let reach = max next (d.first + length d.payloads) in
    ap (λ rs. rs ++ jumps_through (unwrap_or (events.standing None (events_of (news next d))) next) (all_news reach ds)) (news_jumps next d)
    ∙ (ap (λ o. jump next (Some d.first) ++ jumps_through (unwrap_or o next) (all_news reach ds)) (news_standing next d)
    ∙ ap (λ rs. jump next (Some d.first) ++ rs) (jumps_same reach ds))

pub idempotent_has_each_once : IdempotentHasEachOnce
idempotent_has_each_once most es =
    let k = kept Idempotent most es tt in
    let w = run es (begun Idempotent most) in
    record {
      settles = through_keeps idempotent (SettlesOnce w.history) (TrueOfJournal w.history None)
          (λ es' before after t g p. idempotent_keeps_once w.history None es' before after t g p)
          _ [] _ k.true_all k.grown
          (record { once = λ n. refl; entries = tt; within = omega arith });
      jumps = (idempotent_connections (all_news 1 w.delivered) [] w.inbox k.grown).1 ∙ jumps_same 1 w.delivered;
    }

pub recoverable_grows : RecoverableGrows
recoverable_grows most es = (kept Recoverable most es tt).grown

pub idempotent_grows : IdempotentGrows
idempotent_grows most es = (kept Idempotent most es tt).grown

pub receiver_follows : ReceiverFollows
receiver_follows flow most es c = (kept flow most es c).follows

-- a datagram that has the number waited for jumps over nothing
no_jump : (next n : ℕ) → n ≤ next → jump_records (jump_of next n) ≡ []
no_jump next n h =
    let none : nat_lt next n ≡ false = grind (arith, nat_tests) in
    ap (λ (b : Bool). jump_records (if b then Some (record { from = next; count = n - next }) else None)) none

grows_at : (flow : Flow) (w : World) (d : Contents) → IsCarried flow → Keeps flow w → IsOf w.history d → HasNumber d (next_number w.inbox)
    → recorded (reports w.receiver d) ≡ map apply (numbered_from (next_number w.inbox) (drop (next_number w.inbox - d.first) d.payloads))
grows_at Recoverable w d c k of has =
    let next = next_number w.inbox in
    (recoverably w d k of).records ∙ ap (λ ms. map apply ms) (chain_from next d.first d.payloads has.from_first)
grows_at Idempotent w d c k of has =
    let next = next_number w.inbox in
    let same : max next d.first ≡ next = omega (arith, has.from_first) in
    (idempotently w d k of).records
    ∙ (ap (λ rs. rs ++ map apply (messages_from (max next d.first) (drop (next - d.first) d.payloads))) (no_jump next d.first has.from_first)
    ∙ ap (λ n. map apply (messages_from n (drop (next - d.first) d.payloads))) same)
grows_at Unsequenced w d c k of has = absurd c
grows_at NoFlow w d c k of has = absurd c

pub next_grows : NextGrows
next_grows flow most es place d c there has =
    let w = run es (begun flow most) in
    let k = kept flow most es c in
    ap (λ o. (delivered_to w o).inbox) there
    ∙ ap (λ rs. w.inbox ++ rs) (grows_at flow w d c k (found_of w.history w.written place d k.written there) has)
