-- A connection that stands, in the words of the session model.
use Rattle.std.proofs.Common.{◌≡◌, ℕ, ◌≤◌, Bool, true, List, [], ◌∷◌, ◌++◌, length, take, None, IfSome, IsTrue, refl, sym, ap, subst, ◌∙◌, arith, append-nil, length-append, true≢false}
use Rattle.std.specs.List.{AllByRecursion, flat_map}
use Rattle.std.proofs.lemmas.Grind.{flat_map-append}
use Rattle.std.proofs.lemmas.List.{take_all, length-take, take-take, take-append-le}
use mathlib.Core.List.{IsPrefix}
use Rattle.session_model.specs.Journal.{Entry}
use Rattle.session_model.specs.Inbox.{InboxRecord, Numbered}
use Rattle.session_model.specs.Events.{Event, messages, TrueOfJournal, Rising, HandshakeFirst, BeginsWithHandshake}
use Rattle.session_model.specs.Growth as model
use Rattle.session_model.specs.Growth.{Grown, GrownThrough}
use Rattle.session_model.specs.Lives.{IsImage, first_events, Writes, ReportsSkips, KeepsConnections}
use Rattle.session_model.proofs.Handshakes.{handshake_splits}
use Rattle.session_model.proofs.Images.{image_of_none, image_of_one}
use Rattle.session_model.proofs.Lists.{prefix_take, all_append, all_weaker}
use Rattle.session_model.proofs.Numbering.{messages-append}
use Rattle.session_model.proofs.Truth.{true_first, true_stays_true, rising_lower, rising_stays_rising, rising_goes_on}
use Rattle.fixp_msgs.specs.declared.flow.Flow.{Flow}
use Rattle.fixp_msgs.specs.declared.flow.Flow.TheVariants as flows
use Rattle.fixp_replies.specs.declared.act.Act.{Act}
use Rattle.fixp_replies.specs.declared.act.Act.TheVariants as acts
use Rattle.fixp_replies.specs.declared.facts.Facts.{Facts}
use Rattle.fixp_replies.specs.Incoming.{Incoming}
use Rattle.fixp_shake.specs.Flows.{is_sequenced, is_absent}
use Rattle.fixp_replies.specs.Acts.{is_record}
use Rattle.fixp_machine.specs.Accepting.{model_flow, records_of}
use Rattle.fixp_replies.specs.Incoming.{payload_in}
use Rattle.connection_laws.specs.Writing.{Piece, events_written, ranges_told}
use Rattle.connection_laws.specs.Courses.{Course, inbox_of, beginning, reply_to, accepted_by, course_after, Continues}
use Rattle.connection_laws.specs.Standing.{OwnFlow, Stands}
use Rattle.connection_laws.specs.Connections.{WasTaken, connection_of, served_by, ConnectionKept, RefusedKept, RefusedHeldKept, ConnectionServes, sent_part, WritingGoesOn, PartIsWritten}
use Rattle.connection_laws.proofs.Continuing.{calls_go_on}
use Rattle.connection_laws.proofs.Going.{begins_behind, grown_held, waiting_grows, calls_keep, connection_begins}

-- the events of the first frames are the first events
pub first_written : (whole output : List Piece) → IsPrefix whole output → IsPrefix (events_written whole) (events_written output)
first_written whole output p = (events_written p.0, sym (flat_map-append _ whole p.0) ∙ ap (λ ps. events_written ps) p.1)

first_told : (whole output : List Piece) → IsPrefix whole output → IsPrefix (ranges_told whole) (ranges_told output)
first_told whole output p = (ranges_told p.0, sym (flat_map-append _ whole p.0) ∙ ap (λ ps. ranges_told ps) p.1)

rising_first : (h : List Entry) (n : ℕ) (first second : List (List ℕ)) → Rising h n (first ++ second) → Rising h n first
rising_first h n [] second r = tt
rising_first h n (p ∷ first) second r = (r.0, r.1, r.2, rising_first h r.0 first second r.3)

none_first : (first second : List (List ℕ)) → first ++ second ≡ [] → first ≡ []
none_first [] second e = refl
none_first (p ∷ first) second e = absurd cc

pub first_handshakes : (first second : List Event) → IsPrefix first second → HandshakeFirst second → HandshakeFirst first
first_handshakes first second p s = ((handshake_splits first p.0).0 (subst HandshakeFirst (sym p.1) s)).0

first_messages : (first second : List Event) → IsPrefix first second → IsPrefix (messages first) (messages second)
first_messages first second p = (messages p.0, sym (messages-append first p.0) ∙ ap (λ es. messages es) p.1)

-- what a connection wrote, where these are the first events: true of the outbox, or rising among the entries sent, or no message
first_true : (own : Flow) (h : List Entry) (before : ℕ) (f : Facts) (written first : List Event) → OwnFlow own h before f written → IsPrefix first written → is_sequenced own ≡ true → TrueOfJournal h None first
first_true own h before f written first o p t = true_first h None first p.0 (subst (λ es. TrueOfJournal h None es) (sym p.1) (o.true_of t))

first_rising : (own : Flow) (h : List Entry) (before : ℕ) (f : Facts) (written first : List Event) → OwnFlow own h before f written → IsPrefix first written → own ≡ flows.Unsequenced
    → Rising (take f.recorded.sent h) before (messages first)
first_rising own h before f written first o p u =
    let q = first_messages first written p in
    rising_first (take f.recorded.sent h) before (messages first) q.0 (subst (λ ms. Rising (take f.recorded.sent h) before ms) (sym q.1) (o.rises u))

first_none : (own : Flow) (h : List Entry) (before : ℕ) (f : Facts) (written first : List Event) → OwnFlow own h before f written → IsPrefix first written → is_absent own ≡ true → messages first ≡ []
first_none own h before f written first o p t = let q = first_messages first written p in none_first (messages first) q.0 (q.1 ∙ o.absent t)

pub writes_one : (own : Flow) (opened h : List Entry) (before : ℕ) (f : Facts) (written first : List Event) → OwnFlow own h before f written → IsPrefix first written → (own ≡ flows.Unsequenced → length opened ≤ before)
    → Writes (model_flow own) opened h (first ∷ [])
writes_one flows.Recoverable opened h before f written first o p low = (first_true flows.Recoverable h before f written first o p refl, tt)
writes_one flows.Idempotent opened h before f written first o p low = (first_true flows.Idempotent h before f written first o p refl, tt)
writes_one flows.Unsequenced opened h before f written first o p low =
    subst (λ ms. Rising h (length opened) ms) (sym (append-nil (messages first)))
    (rising_stays_rising (take f.recorded.sent h) h (length opened) (messages first) (prefix_take f.recorded.sent h)
    (rising_lower (take f.recorded.sent h) before (length opened) (messages first) (low refl) (first_rising flows.Unsequenced h before f written first o p refl)))
writes_one flows.None opened h before f written first o p low = append-nil (messages first) ∙ first_none flows.None h before f written first o p refl

-- the ranges reported are the first of those skipped
pub reports_first : (h : List Entry) (c : Course) (whole : List Piece) (drained : Bool) → Stands h c → WasTaken c whole drained → ReportsSkips (connection_of c whole drained)
reports_first h c whole drained st t = record {
  in_order = subst (λ rs. IsPrefix (ranges_told whole) rs) st.tells (first_told whole c.output t.first);
  all = λ d. ap (λ ps. ranges_told ps) (t.all d) ∙ st.tells;
}

-- growth over one connection
pub one_grown : (flow : model.Flow) (es : List Event) (before after : List InboxRecord) → Grown flow None es before after → GrownThrough flow (es ∷ []) before after
one_grown flow es before after g = (after, g, refl)

pub grown_to : (flow : model.Flow) (es front : List Event) (k n : ℕ) (before after : List InboxRecord) → take k es ≡ front → n ≤ k → Grown flow None front before after
    → (j : ℕ) × GrownThrough flow (first_events j (es ∷ [])) before after × (n ≤ j)
grown_to flow es front k n before after e low g = (k, one_grown flow (take k es) before after (subst (λ fs. Grown flow None fs before after) (sym e) g), low)

pub connection_kept : ConnectionKept
connection_kept opened h c whole drained st low t = record {
  inbox_adds = ap (λ rs. c.start ++ rs) (sym (append-nil c.added));
  inbox_grown = λ image i. image_of_none (λ image. (j : ℕ) × GrownThrough (model_flow c.state.config.peer_flow) (first_events j (c.accepted ∷ [])) c.start image × (length c.accepted ≤ j)) (inbox_of c) image
      (grown_to (model_flow c.state.config.peer_flow) c.accepted c.accepted (length c.accepted) (length c.accepted) c.start (inbox_of c) (take_all (length c.accepted) c.accepted (omega arith)) (omega arith) st.grown) i;
  none_lost = one_grown (model_flow c.state.config.peer_flow) c.accepted c.start (inbox_of c ++ [])
      (subst (λ rs. Grown (model_flow c.state.config.peer_flow) None c.accepted c.start rs) (sym (append-nil (inbox_of c))) st.grown);
  all_processed = λ _. omega arith;
  begins = (st.begins, tt);
  handshakes = (first_handshakes (events_written whole) (events_written c.output) (first_written whole c.output t.first) st.own.handshakes, tt);
  writes = writes_one c.state.config.own_flow opened h c.sent_before c.state.facts (events_written c.output) (events_written whole) st.own (first_written whole c.output t.first) low;
  reports = (reports_first h c whole drained st t, tt);
}

-- an act that is a record adds one
record AddsOne (act : Act) (i : Incoming) : Type 0 where
  added : InboxRecord
  alone : records_of act i ≡ added ∷ []

adds_one : (act : Act) (i : Incoming) → IsTrue (is_record act) → AddsOne act i
adds_one acts.Nothing i t = absurd (true≢false (sym t))
adds_one (acts.Apply n) i t = record { added = InboxRecord.apply (record { number = n; payload = payload_in i }); alone = refl }
adds_one (acts.Skip from count) i t = record { added = InboxRecord.skip (record { first = from; count = count }); alone = refl }
adds_one acts.Negotiated i t = record { added = InboxRecord.negotiated; alone = refl }
adds_one (acts.PeerFinished last) i t = record { added = InboxRecord.peer_finished last; alone = refl }
adds_one (acts.Told from count) i t = absurd (true≢false (sym t))
adds_one acts.Ended i t = absurd (true≢false (sym t))

pub refused_kept : RefusedKept
refused_kept opened h c w whole drained st waits low t = record {
  inbox_adds = ap (λ rs. c.start ++ rs) (sym (append-nil c.added));
  inbox_grown = images;
  none_lost = one_grown flow (c.accepted ++ es) c.start (inbox_of c ++ rs) whole_grown;
  all_processed = λ none. absurd (cc (one.alone, none));
  begins = (begins, tt);
  handshakes = (first_handshakes (events_written whole) (events_written c.output) (first_written whole c.output t.first) st.own.handshakes, tt);
  writes = writes_one c.state.config.own_flow opened h c.sent_before c.state.facts (events_written c.output) (events_written whole) st.own (first_written whole c.output t.first) low;
  reports = (record { in_order = reported.in_order; all = reported.all }, tt);
}
  where
    flow : model.Flow
    flow = model_flow c.state.config.peer_flow

    es : List Event
    es = accepted_by (reply_to c.state w) w.incoming

    rs : List InboxRecord
    rs = records_of (reply_to c.state w).act w.incoming

    reported : ReportsSkips (connection_of c whole drained)
    reported = reports_first h c whole drained st t

    one : AddsOne (reply_to c.state w).act w.incoming
    one = adds_one (reply_to c.state w).act w.incoming (subst (λ v. IfSome v (λ k. IsTrue (is_record (reply_to c.state k).act))) waits st.records)

    whole_grown : Grown flow None (c.accepted ++ es) c.start (inbox_of c ++ rs)
    whole_grown = waiting_grows h c w st waits

    begins : BeginsWithHandshake (c.accepted ++ es)
    begins = begins_behind h c w st

    images : (image : List InboxRecord) → IsImage (inbox_of c) rs image → (j : ℕ) × GrownThrough flow (first_events j ((c.accepted ++ es) ∷ [])) c.start image × (length c.accepted ≤ j)
    images image i = image_of_one (λ image. (j : ℕ) × GrownThrough flow (first_events j ((c.accepted ++ es) ∷ [])) c.start image × (length c.accepted ≤ j)) (inbox_of c) one.added image
        (grown_to flow (c.accepted ++ es) c.accepted (length c.accepted) (length c.accepted) c.start (inbox_of c) (take-append-le (length c.accepted) c.accepted es (omega arith) ∙ take_all (length c.accepted) c.accepted (omega arith)) (omega arith) st.grown)
        (grown_to flow (c.accepted ++ es) (c.accepted ++ es) (length (c.accepted ++ es)) (length c.accepted) c.start (inbox_of c ++ one.added ∷ []) (take_all (length (c.accepted ++ es)) (c.accepted ++ es) (omega arith)) (omega (arith, length-append c.accepted es))
        (subst (λ k. Grown flow None (c.accepted ++ es) c.start (inbox_of c ++ k)) one.alone whole_grown))
        (subst (λ k. IsImage (inbox_of c) k image) one.alone i)

-- the append of the record of a held message failed: it would have grown the inbox without a further event
pub refused_held_kept : RefusedHeldKept
refused_held_kept opened h c m whole drained st e low t = record {
  inbox_adds = ap (λ rs. c.start ++ rs) (sym (append-nil c.added));
  inbox_grown = images;
  none_lost = one_grown flow c.accepted c.start (inbox_of c ++ InboxRecord.apply m ∷ []) (grown_held h c m st e).1;
  all_processed = λ _. omega arith;
  begins = (st.begins, tt);
  handshakes = (first_handshakes (events_written whole) (events_written c.output) (first_written whole c.output t.first) st.own.handshakes, tt);
  writes = writes_one c.state.config.own_flow opened h c.sent_before c.state.facts (events_written c.output) (events_written whole) st.own (first_written whole c.output t.first) low;
  reports = (record { in_order = reported.in_order; all = reported.all }, tt);
}
  where
    flow : model.Flow
    flow = model_flow c.state.config.peer_flow

    reported : ReportsSkips (connection_of c whole drained)
    reported = reports_first h c whole drained st t

    same : take (length c.accepted) c.accepted ≡ c.accepted
    same = take_all (length c.accepted) c.accepted (omega arith)

    images : (image : List InboxRecord) → IsImage (inbox_of c) (InboxRecord.apply m ∷ []) image
        → (j : ℕ) × GrownThrough flow (first_events j (c.accepted ∷ [])) c.start image × (length c.accepted ≤ j)
    images image i = image_of_one (λ image. (j : ℕ) × GrownThrough flow (first_events j (c.accepted ∷ [])) c.start image × (length c.accepted ≤ j)) (inbox_of c) (InboxRecord.apply m) image
        (grown_to flow c.accepted c.accepted (length c.accepted) (length c.accepted) c.start (inbox_of c) same (omega arith) st.grown)
        (grown_to flow c.accepted c.accepted (length c.accepted) (length c.accepted) c.start (inbox_of c ++ InboxRecord.apply m ∷ []) same (omega arith) (grown_held h c m st e).1)
        i

-- what was written before, of an outbox that has grown, and one connection behind it
true_longer : (h longer : List Entry) (earlier : List (List Event)) → IsPrefix h longer → AllByRecursion (λ es. TrueOfJournal h None es) earlier → AllByRecursion (λ es. TrueOfJournal longer None es) earlier
true_longer h longer earlier begins all = all_weaker (λ es. TrueOfJournal h None es) (λ es. TrueOfJournal longer None es) (λ es t. true_stays_true h longer None es begins t) earlier all

goes_on : (own : Flow) (opened h longer : List Entry) (before : ℕ) (f : Facts) (written first : List Event) (earlier : List (List Event)) → IsPrefix h longer → before ≤ length h → OwnFlow own longer before f written
    → (own ≡ flows.Unsequenced → length opened ≤ before) → IsPrefix first written → Writes (model_flow own) opened (sent_part (model_flow own) before h) earlier
    → Writes (model_flow own) opened (sent_part (model_flow own) f.recorded.sent longer) (earlier ++ first ∷ [])
goes_on flows.Recoverable opened h longer before f written first earlier begins few o low p w =
    all_append (λ es. TrueOfJournal longer None es) earlier (first ∷ []) (true_longer h longer earlier begins w) (first_true flows.Recoverable longer before f written first o p refl, tt)
goes_on flows.Idempotent opened h longer before f written first earlier begins few o low p w =
    all_append (λ es. TrueOfJournal longer None es) earlier (first ∷ []) (true_longer h longer earlier begins w) (first_true flows.Idempotent longer before f written first o p refl, tt)
goes_on flows.Unsequenced opened h longer before f written first earlier begins few o low p w =
    let sent : ℕ = f.recorded.sent in
    let count : length (take before h) ≡ before = simp length-take (omega arith) in
    let front : take before longer ≡ take before h = ap (λ es. take before es) (sym begins.1) ∙ take-append-le before h begins.0 few in
    let nested : IsPrefix (take before h) (take sent longer) = subst (λ k. IsPrefix k (take sent longer)) (take-take before sent longer (o.grows refl) ∙ front) (prefix_take before (take sent longer)) in
    let behind : Rising (take sent longer) (length (take before h)) (messages first) = subst (λ k. Rising (take sent longer) k (messages first)) (sym count) (first_rising flows.Unsequenced longer before f written first o p refl) in
    subst (λ ms. Rising (take sent longer) (length opened) ms) (sym (flat_map-append messages earlier (first ∷ []) ∙ ap (λ ms. flat_map messages earlier ++ ms) (append-nil (messages first))))
    (rising_goes_on (take before h) (take sent longer) (length opened) (flat_map messages earlier) (messages first) nested (let le = low refl in omega (arith, count, le)) w behind)
goes_on flows.None opened h longer before f written first earlier begins few o low p w =
    flat_map-append messages earlier (first ∷ []) ∙ (ap (λ ms. ms ++ (messages first ++ [])) w ∙ (append-nil (messages first) ∙ first_none flows.None longer before f written first o p refl))

pub writing_goes_on : WritingGoesOn
writing_goes_on opened h longer c whole earlier begins few st low p w =
    goes_on c.state.config.own_flow opened h longer c.sent_before c.state.facts (events_written c.output) (events_written whole) earlier begins few st.own low (first_written whole c.output p) w

pub part_is_written : PartIsWritten
part_is_written model.recoverable opened h n written w = w
part_is_written model.idempotent opened h n written w = w
part_is_written model.unsequenced opened h n written w = rising_stays_rising (take n h) h (length opened) (flat_map messages written) (prefix_take n h) w
part_is_written model.no_flow opened h n written w = w

pub connection_serves : ConnectionServes
connection_serves opened h s inbox now calls whole drained next enough low all t =
    let d : Course = course_after c calls in
    let k : Continues c d = calls_go_on h c calls all in
    subst (λ cfg. KeepsConnections (model_flow cfg.own_flow) (model_flow cfg.peer_flow) opened h (served_by d whole drained)) k.config
    (connection_kept opened h d whole drained (calls_keep h c calls (connection_begins h s inbox now next enough) all)
    (λ u. subst (λ n. length opened ≤ n) (sym k.sent_before) (low (ap (λ cfg. cfg.own_flow) (sym k.config) ∙ u))) t)
  where
    c : Course
    c = beginning s inbox now
