-- A range that is served has messages, and ends with what was sent: over any steps.
use Rattle.std.proofs.Common.{◌≡◌, ℕ, ◌+◌, ◌-◌, ◌≤◌, ◌==◌, ◌&&◌, ◌||◌, nat_lt, min, max, not, Bool, true, false, if◌then◌else◌, List, [], ◌∷◌, Option, Some, None, refl, sym, ap, subst, ◌∙◌, arith, true≢false}
use Rattle.std.specs.Prelude.{is_some, IfSome, unwrap_or, Result, Ok, Err}
use Rattle.std.proofs.lemmas.Bool.{ltb-false, eqb-false}
use Rattle.fixp_msgs.specs.declared.messages.Expected.{Expected}
use Rattle.fixp_msgs.specs.declared.numbering.Range.{Range}
use Rattle.fixp_msgs.specs.Message.{Message, negotiate, negotiation_response, negotiation_reject, establish, establishment_ack, establishment_reject, sequence, unsequenced_heartbeat, retransmit_request, retransmission, retransmit_reject, applied, not_applied, finished_sending, finished_receiving, terminate}
use Rattle.flow_recover.specs.declared.numbers.Seen.{Seen}
use Rattle.flow_recover.specs.declared.numbers.Seen.TheVariants.{Deliver, Hold, Gap, Repeat}
use Rattle.flow_recover.specs.Receiving as receiver_is
use Rattle.flow_retrans.specs.declared.requester.BadStart.{BadStart}
use Rattle.flow_retrans.specs.declared.judging.RetransmitCode.{RetransmitCode}
use Rattle.flow_retrans.specs.declared.judging.RetransmitCode.TheVariants.{OutOfRange, InvalidSession, RequestLimitExceeded}
use Rattle.flow_retrans.specs.Judging.{judged, request_limit}
use Rattle.flow_retrans.specs.Requests as request_is
use Rattle.fixp_shake.specs.declared.phase.Phase.TheVariants as phases
use Rattle.fixp_shake.specs.declared.violation.Violation.{Violation}
use Rattle.fixp_shake.specs.declared.violation.Violation.TheVariants.{AfterFinish}
use Rattle.fixp_shake.specs.Flows.{is_recoverable, is_idempotent}
use Rattle.fixp_shake.specs.Phases.{is_idle, is_negotiating, is_establishing, is_established, is_closing, is_shaken}
use Rattle.fixp_replies.specs.declared.act.Act.{Act}
use Rattle.fixp_replies.specs.declared.act.Act.TheVariants as acts
use Rattle.fixp_replies.specs.declared.act.Ending.TheVariants as endings
use Rattle.fixp_replies.specs.declared.facts.Facts.{Facts}
use Rattle.fixp_replies.specs.declared.facts.OwnFinish.TheVariants as own
use Rattle.fixp_replies.specs.declared.facts.PeerFinish.TheVariants as peer
use Rattle.fixp_replies.specs.Incoming.{Incoming, application, session, wrong_order, too_short, unknown}
use Rattle.fixp_replies.specs.Facts.{Around, is_initiator, is_own, in_phase, receiving, requesting, firm, serves, negotiated as as_negotiated, awaiting, awaits_gap, gap_of, gap_to_ask, having_asked, holding_too, peer_last}
use Rattle.fixp_replies.specs.Outcomes.{Outcome, Row, row, goes_on, accepts, ignores, ends, breaks, not_in_phase, skip_of, told_skip}
use Rattle.fixp_replies.specs.Announcing.{Announced, jumped_over, announced, refuses}
use Rattle.fixp_replies.specs.Expecting.{number_in, takes, returned, softened}
use Rattle.fixp_replies.specs.Handshake.{awaits_client, serves_client, established, acknowledges, establish_rows, established_again_rows, establish_rows_in, reached}
use Rattle.fixp_replies.specs.Flowing.{bad_retransmission, counted, taken_as, finish_act, peer_finished, answers_finish, is_filled, is_past_finish, sequence_taken, sequence_follows, restarted, finished_last, finish_fault, finished}
use Rattle.fixp_replies.specs.Serving.{request_answered, own_finishing}
use Rattle.fixp_replies.specs.Replies.{reply_of, template_of, rows_of, answer_of, terminates}
use Rattle.fixp_machine.proofs.Rows.{AllRows, by_row, all_rows, all_within, announced_rows, own_rows}
use Rattle.fixp_machine.proofs.Tests.{not_established, not_opened}
use Rattle.drain_steps.specs.Ranges.{InRange}

pub range_same : (f g : Facts) → g.connection.serving ≡ f.connection.serving → f.recorded.sent ≤ g.recorded.sent → InRange f → InRange g
range_same f g e more h = by_range f.connection.serving g.connection.serving e h
  where
    by_range : (o p : Option Range) → p ≡ o → IfSome o (λ r. (1 ≤ r.count) × (r.from + r.count ≤ f.recorded.sent + 1) × (1 ≤ r.from)) → IfSome p (λ r. (1 ≤ r.count) × (r.from + r.count ≤ g.recorded.sent + 1) × (1 ≤ r.from))
    by_range o None e h = tt
    by_range None (Some r) e h = absurd (cc e)
    by_range (Some q) (Some r) e h =
        let same : r ≡ q = cc e in
        let from = ap (λ (k : Range). k.from) same in
        let count = ap (λ (k : Range). k.count) same in
        let some = h.0 in
        let most = h.1 in
        let start = h.2 in
        (omega (arith, some, count), omega (arith, most, from, count, more), omega (arith, start, from))

pub no_range : (g : Facts) → g.connection.serving ≡ None → InRange g
no_range g e = subst (λ (o : Option Range). IfSome o (λ r. (1 ≤ r.count) × (r.from + r.count ≤ g.recorded.sent + 1) × (1 ≤ r.from))) (sym e) tt

abbrev Free : Facts → Type 0
Free f = is_shaken f.connection.phase ≡ false → f.connection.serving ≡ None

record Ranges (f : Facts) (o : Outcome) : Type 0 where
  keeps : Free f → InRange f → InRange o.next

resting : (f : Facts) (o : Outcome) → o.next ≡ f → Ranges f o
resting f o e = record { keeps = λ _ h. subst InRange (sym e) h }

asked_range : (g : Facts) (r : Option Range) → InRange g → InRange (having_asked g r)
asked_range g None h = h
asked_range g (Some r) h = h

onward : (x : Around) (f g : Facts) (act : Act) (ms : List Message) → (Free f → InRange f → InRange g) → Ranges f (goes_on x act ms g)
onward x f g act ms k = record { keeps = λ free h. asked_range g (gap_to_ask x g) (k free h) }

announced_range : (x : Around) (f : Facts) (next : Option ℕ) → InRange f → InRange (announced x f next).facts
announced_range x f next h = by_flow (is_recoverable x.config.peer_flow) (is_idempotent x.config.peer_flow)
  where
    chosen : Bool → Bool → Announced
    chosen r i =
        if r then record { facts = firm (receiving f (receiver_is.announced f.connection.receiver (unwrap_or next 0))); skipped = None }
        else if i then record { facts = awaiting f (unwrap_or next 0); skipped = jumped_over f.recorded.inbox_next (unwrap_or next 0) }
        else record { facts = f; skipped = None }

    by_flow : (r i : Bool) → InRange (chosen r i).facts
    by_flow true i = h
    by_flow false true = h
    by_flow false false = h

announced_free : (x : Around) (f : Facts) (next : Option ℕ) → (announced x f next).facts.connection.serving ≡ f.connection.serving
announced_free x f next = by_flow (is_recoverable x.config.peer_flow) (is_idempotent x.config.peer_flow)
  where
    chosen : Bool → Bool → Announced
    chosen r i =
        if r then record { facts = firm (receiving f (receiver_is.announced f.connection.receiver (unwrap_or next 0))); skipped = None }
        else if i then record { facts = awaiting f (unwrap_or next 0); skipped = jumped_over f.recorded.inbox_next (unwrap_or next 0) }
        else record { facts = f; skipped = None }

    by_flow : (r i : Bool) → (chosen r i).facts.connection.serving ≡ f.connection.serving
    by_flow true i = refl
    by_flow false true = refl
    by_flow false false = refl

returned_free : (x : Around) (f : Facts) (e : Expected) → (returned x f e).connection.serving ≡ f.connection.serving
returned_free x f e = by_test (takes x f e)
  where
    by_test : (b : Bool) → (if b then record f { recorded = record f.recorded { sent = number_in e - 1 } } else f).connection.serving ≡ f.connection.serving
    by_test true = refl
    by_test false = refl

-- the same of an outcome with these facts
onto : (x : Around) (f g : Facts) (o : Outcome) → o.next ≡ having_asked g (gap_to_ask x g) → (Free f → InRange f → InRange g) → Ranges f o
onto x f g o e k = record { keeps = λ free h. subst InRange (sym e) (asked_range g (gap_to_ask x g) (k free h)) }

-- the handshake is done: nothing was served before
opening : (x : Around) (f g : Facts) (o : Outcome) → o.next ≡ having_asked g (gap_to_ask x g) → is_shaken f.connection.phase ≡ false → g.connection.serving ≡ f.connection.serving → Ranges f o
opening x f g o e before same = onto x f g o e (λ free _. no_range g (same ∙ free before))

bad : (x : Around) (f : Facts) (b : Option BadStart) → Ranges f (bad_retransmission x f b)
bad x f None = resting f (ignores f) refl
bad x f (Some b) = resting f _ refl

refused : (x : Around) (f g : Facts) (v : Option Violation) → (InRange f → InRange g) → Ranges f (refuses x g v)
refused x f g None k = record { keeps = λ _ h. k h }
refused x f g (Some v) k = record { keeps = λ _ h. k h }

taking : (x : Around) (f : Facts) (s : Seen) → Ranges f (taken_as x (counted f) s)
taking x f (Deliver n) = onward x f (awaiting (counted f) (n + 1)) (acts.Apply n) [] (λ _ h. h)
taking x f (Hold n) = let k = onward (holding_too x n) f (counted f) acts.Nothing [] (λ _ h. h) in record { keeps = k.keeps }
taking x f (Gap n) = onward x f (counted f) acts.Nothing [] (λ _ h. h)
taking x f (Repeat n) = onward x f (counted f) acts.Nothing [] (λ _ h. h)

message_rows : (x : Around) (f : Facts) (p : List ℕ) → AllRows (Ranges f) (rows_of x f (application p))
message_rows x f p = all_within (Ranges f) (is_established f.connection.phase) _ (λ _. (
  λ _. resting f _ refl,
  λ _. (
    λ _. resting f _ refl,
    λ _. (
      λ _. resting f _ refl,
      λ _. (
        λ _. onward x f (awaiting f (f.recorded.inbox_next + 1)) (acts.Apply f.recorded.inbox_next) [] (λ _ h. h),
        λ _. (λ _. bad x f (request_is.message_fault f.connection.requester), λ _. (λ _. taking x f (receiver_is.seen f.connection.receiver), λ _. tt)),
      ),
    ),
  ),
))

-- a request that is granted
judged_in : (mine recoverable : Bool) (from count sent : ℕ) (range : Range) → judged mine recoverable from count sent ≡ Ok range → (1 ≤ range.count) × (range.from + range.count ≤ sent + 1) × (1 ≤ range.from)
judged_in mine recoverable from count sent range = by_tests mine recoverable (from == 0) (count == 0) (nat_lt (sent + 1) (from + count)) (nat_lt request_limit count) refl refl refl
  where
    by_tests : (m rec zero none outside many : Bool) → (from == 0) ≡ zero → (count == 0) ≡ none → nat_lt (sent + 1) (from + count) ≡ outside
        → (if not m then Err InvalidSession else if not rec || zero || none || outside then Err OutOfRange else if many then Err RequestLimitExceeded else Ok (record { from = from; count = count })) ≡ Ok range
        → (1 ≤ range.count) × (range.from + range.count ≤ sent + 1) × (1 ≤ range.from)
    by_tests false rec zero none outside many z p q e = absurd cc
    by_tests true false zero none outside many z p q e = absurd cc
    by_tests true true true none outside many z p q e = absurd cc
    by_tests true true false true outside many z p q e = absurd cc
    by_tests true true false false true many z p q e = absurd cc
    by_tests true true false false false true z p q e = absurd cc
    by_tests true true false false false false z p q e =
        let granted : Range = record { from = from; count = count } in
        let same : granted ≡ range = cc e in
        let start = eqb-false from 0 z in
        let some = eqb-false count 0 p in
        let within = ltb-false (sent + 1) (from + count) q in
        subst (λ (r : Range). (1 ≤ r.count) × (r.from + r.count ≤ sent + 1) × (1 ≤ r.from)) same (omega (arith, some), omega (arith, within), omega (arith, start))

requested : (x : Around) (f : Facts) (id : List ℕ) (timestamp : ℕ) (r : Result Range RetransmitCode) → ((range : Range) → r ≡ Ok range → (1 ≤ range.count) × (range.from + range.count ≤ f.recorded.sent + 1) × (1 ≤ range.from))
    → Ranges f (request_answered x f id timestamp r)
requested x f id timestamp (Ok range) is = onto x f (serves f (Some range)) _ refl (λ _ _. is range refl)
requested x f id timestamp (Err code) is = resting f _ refl

awaiting_client : (x : Around) (f : Facts) → awaits_client x f ≡ true → is_shaken f.connection.phase ≡ false
awaiting_client x f t = not_opened f.connection.phase (and_right (not (is_initiator x.config.role)) (is_idle f.connection.phase) t)
  where
    and_right : (a b : Bool) → (a && b) ≡ true → b ≡ true
    and_right true b e = e
    and_right false b e = absurd (true≢false (sym e))

establish_all : (x : Around) (f : Facts) (id : List ℕ) (timestamp keepalive : ℕ) (next : Option ℕ) (expected : Expected) (credentials : List ℕ) → AllRows (Ranges f) (establish_rows_in x f id timestamp keepalive next expected credentials)
establish_all x f id timestamp keepalive next expected credentials = by_place (awaits_client x f) (serves_client x f) refl
  where
    by_place : (p q : Bool) → awaits_client x f ≡ p → AllRows (Ranges f) (if p then establish_rows x f id timestamp keepalive next expected credentials else if q then established_again_rows x f id timestamp else [])
    by_place true q waits = (
      λ _. resting f _ refl,
      λ _. (
        λ _. resting f _ refl,
        λ _. (
          λ _. resting f _ refl,
          λ _. announced_rows (Ranges f) x f 4 next (acknowledges x timestamp keepalive expected) (λ v. refused x f f v (λ h. h))
              (λ _. opening x f (established (softened x expected (returned x (announced x f next).facts expected)) keepalive) _ refl (awaiting_client x f waits)
              (returned_free x (announced x f next).facts expected ∙ announced_free x f next)),
        ),
      ),
    )
    by_place false true waits = (λ _. resting f _ refl, λ _. (λ _. resting f _ refl, λ _. tt))
    by_place false false waits = tt

finishing : (x : Around) (f : Facts) (last : ℕ) → Ranges f (finished x f last)
finishing x f last = by_row (Ranges f) (is_some (gap_of x f)) (accepts x [] (peer_finished f (peer.Read last) f.recorded.peer_last)) (answers_finish x f last)
    (λ _. onward x f (peer_finished f (peer.Read last) f.recorded.peer_last) acts.Nothing [] (λ _ h. h))
    (λ _. onto x f (peer_finished f (peer.Exchanged last) (Some (unwrap_or f.recorded.peer_last last))) _ refl (λ _ h. h))

sequence_all : (x : Around) (f : Facts) (next : ℕ) → AllRows (Ranges f) (rows_of x f (session (sequence next)))
sequence_all x f next = all_within (Ranges f) (is_established f.connection.phase) _ (λ _. (
  λ _. bad x f (request_is.sequence_fault f.connection.requester),
  λ _. announced_rows (Ranges f) x g 7 (Some next) (sequence_follows x g next) (λ v. refused x f g v (λ h. h)) (λ _. follows),
))
  where
    g : Facts
    g = requesting f (request_is.after_sequence f.connection.requester)

    a : Announced
    a = announced x g (Some next)

    follows : Ranges f (sequence_follows x g next a)
    follows = by_row (Ranges f) (is_past_finish x g next) (breaks x g (AfterFinish (unwrap_or (peer_last g) 0) next)) (sequence_taken x a)
        (λ _. record { keeps = λ _ h. h })
        (λ _. by_row (Ranges f) (is_filled x a.facts) (answers_finish x a.facts (unwrap_or (awaits_gap a.facts.connection.peer_finish) 0)) (goes_on x (skip_of a.skipped) (told_skip a.skipped) a.facts)
        (λ _. onto x f (peer_finished a.facts (peer.Exchanged (unwrap_or (awaits_gap a.facts.connection.peer_finish) 0)) (Some (unwrap_or a.facts.recorded.peer_last (unwrap_or (awaits_gap a.facts.connection.peer_finish) 0)))) _ refl
        (λ _ h. announced_range x g (Some next) h))
        (λ _. onto x f a.facts _ refl (λ _ h. announced_range x g (Some next) h)))

session_rows : (x : Around) (f : Facts) (m : Message) → AllRows (Ranges f) (rows_of x f (session m))
session_rows x f (negotiate id timestamp flow credentials) = all_within (Ranges f) (awaits_client x f) _ (λ _. (
  λ _. resting f _ refl,
  λ _. (
    λ _. resting f _ refl,
    λ _. (λ _. resting f _ refl, λ _. (λ _. resting f _ refl, λ _. (λ _. onto x f (as_negotiated f) _ refl (λ _ h. h), λ _. tt))),
  ),
))
session_rows x f (negotiation_response id timestamp flow credentials) = own_rows (Ranges f) x f 2 id _ (λ e. resting f _ refl) (all_within (Ranges f) (is_negotiating f.connection.phase) _ (λ _. (
  λ _. resting f _ refl,
  λ _. (λ _. onto x f (in_phase (as_negotiated f) phases.Establishing) _ refl (λ _ h. h), λ _. tt),
)))
session_rows x f (negotiation_reject id timestamp code reason) = own_rows (Ranges f) x f 3 id _ (λ e. resting f _ refl) (all_within (Ranges f) (is_negotiating f.connection.phase) _ (λ _. (
  λ _. onto x f (in_phase (as_negotiated f) phases.Establishing) _ refl (λ _ h. h),
  λ _. (λ _. resting f _ refl, λ _. tt),
)))
session_rows x f (establish id timestamp keepalive next expected credentials) = establish_all x f id timestamp keepalive next expected credentials
session_rows x f (establishment_ack id timestamp keepalive next expected) = own_rows (Ranges f) x f 5 id _ (λ e. resting f _ refl) (all_within (Ranges f) (is_establishing f.connection.phase) _ (λ now.
    announced_rows (Ranges f) x f 5 next (reached x keepalive expected) (λ v. refused x f f v (λ h. h))
    (λ _. opening x f (established (returned x (announced x f next).facts expected) (min 60000 (max 100 keepalive))) _ refl (not_established f.connection.phase now)
    (returned_free x (announced x f next).facts expected ∙ announced_free x f next))))
session_rows x f (establishment_reject id timestamp code reason) = own_rows (Ranges f) x f 6 id _ (λ e. resting f _ refl) (all_within (Ranges f) (is_establishing f.connection.phase) _ (λ _. (
  λ _. onto x f (in_phase f phases.Negotiating) _ refl (λ _ h. h),
  λ _. (λ _. resting f _ refl, λ _. tt),
)))
session_rows x f (sequence next) = sequence_all x f next
session_rows x f unsequenced_heartbeat = (λ _. onward x f f acts.Nothing [] (λ _ h. h), λ _. tt)
session_rows x f (retransmit_request id timestamp first count) = all_within (Ranges f) (is_established f.connection.phase) _ (λ _. (
  λ _. resting f _ refl,
  λ _. (
    λ _. requested x f id timestamp (judged (is_own x id) (is_recoverable x.config.own_flow) first count f.recorded.sent)
        (λ range e. judged_in (is_own x id) (is_recoverable x.config.own_flow) first count f.recorded.sent range e),
    λ _. tt,
  ),
))
session_rows x f (retransmission id next timestamp count) = own_rows (Ranges f) x f 10 id _ (λ e. resting f _ refl) (all_within (Ranges f) (is_established f.connection.phase) _ (λ _. (
  λ _. bad x f (request_is.start_fault (request_is.outstanding f.connection.requester) next count),
  λ _. (λ _. onward x f (restarted f next count) acts.Nothing [] (λ _ h. h), λ _. tt),
)))
session_rows x f (retransmit_reject id timestamp code reason) = own_rows (Ranges f) x f 11 id _ (λ e. resting f _ refl) (all_within (Ranges f) (is_established f.connection.phase) _ (λ _. (λ _. resting f _ refl, λ _. tt)))
session_rows x f (applied first count) = (λ _. onward x f f acts.Nothing [] (λ _ h. h), λ _. tt)
session_rows x f (not_applied first count) = (λ _. onward x f f (acts.Told first count) [] (λ _ h. h), λ _. (λ _. onward x f f acts.Nothing [] (λ _ h. h), λ _. tt))
session_rows x f (finished_sending id last) = own_rows (Ranges f) x f 14 id _ (λ e. resting f _ refl) (all_within (Ranges f) (is_established f.connection.phase) _ (λ _. (
  λ _. refused x f f (finish_fault x f last) (λ h. h),
  λ _. (λ _. finishing x f (finished_last x last), λ _. tt),
)))
session_rows x f (finished_receiving id) = own_rows (Ranges f) x f 15 id _ (λ e. resting f _ refl) (all_within (Ranges f) (is_established f.connection.phase) _ (λ _. (
  λ _. onward x f (own_finishing f own.Exchanged) acts.Nothing [] (λ _ h. h),
  λ _. tt,
)))
session_rows x f (terminate id code reason) =
    let answer : Row = row true (ends x f 1 (endings.PeerTerminated code)) in
    own_rows (Ranges f) x f 16 id (answer ∷ []) (λ e. resting f _ refl) (λ _. resting f _ refl, λ _. tt)

each_row : (x : Around) (f : Facts) (i : Incoming) → AllRows (Ranges f) (rows_of x f i)
each_row x f (application p) = message_rows x f p
each_row x f (session m) = session_rows x f m
each_row x f wrong_order = (λ _. resting f _ refl, λ _. tt)
each_row x f too_short = (λ _. resting f _ refl, λ _. tt)
each_row x f (unknown template) = (λ _. resting f _ refl, λ _. tt)

-- each reply keeps it, where nothing is served before the handshake is done
pub reply_range : (x : Around) (f : Facts) (i : Incoming) → (is_shaken f.connection.phase ≡ false → f.connection.serving ≡ None) → InRange f → InRange (reply_of x f i).next
reply_range x f i = (by_row (Ranges f) (is_closing f.connection.phase && not (terminates x i)) (ignores f) (answer_of x f i)
    (λ _. resting f _ refl)
    (λ _. all_rows (Ranges f) (not_in_phase x f (template_of i)) (rows_of x f i) (resting f _ refl) (each_row x f i))).keeps
