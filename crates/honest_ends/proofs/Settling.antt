-- How a reply leaves an end, row by row: a gap is asked for at once, and what is recorded of a finish comes behind all of its flow.
use Rattle.std.proofs.Common.{◌||◌, ◌≡◌, ℕ, ◌+◌, ◌-◌, ◌≤◌, ◌==◌, ◌&&◌, min, max, not, Bool, true, false, if◌then◌else◌, List, [], ◌∷◌, ◌++◌, Option, Some, None, refl, sym, subst, ◌∙◌, arith, true≢false, eqb-true, ◌<◌, nat_lt, ap}
use Rattle.std.specs.Prelude.{is_some, is_none, unwrap_or, IfSome, Result, Ok, Err}
use Rattle.std.proofs.lemmas.Bool.{and_parts, ltb-false}
use Rattle.fixp_msgs.specs.declared.numbering.Range.{Range}
use Rattle.fixp_msgs.specs.declared.flow.Flow.{Flow}
use Rattle.fixp_msgs.specs.Flow.{flow_code}
use Rattle.fixp_msgs.specs.declared.messages.Expected.{Expected}
use Rattle.fixp_msgs.specs.Message.{Message, negotiate, negotiation_response, negotiation_reject, establish, establishment_ack, establishment_reject, sequence, unsequenced_heartbeat, retransmit_request, retransmission, retransmit_reject, applied, not_applied, finished_sending, finished_receiving, terminate}
use Rattle.flow_recover.specs.declared.numbers.Seen.{Seen}
use Rattle.flow_recover.specs.declared.numbers.Seen.TheVariants.{Deliver, Hold, Gap, Repeat}
use Rattle.flow_recover.specs.Receiving as receiver_is
use Rattle.flow_recover.specs.Receiving.{Receiving}
use Rattle.flow_retrans.specs.declared.requester.BadStart.{BadStart}
use Rattle.flow_retrans.specs.declared.judging.RetransmitCode.{RetransmitCode}
use Rattle.flow_retrans.specs.Judging.{judged}
use Rattle.flow_retrans.specs.Requests as request_is
use Rattle.fixp_shake.specs.declared.phase.Phase.TheVariants as phases
use Rattle.fixp_shake.specs.declared.violation.Violation.{Violation}
use Rattle.fixp_shake.specs.declared.violation.Violation.TheVariants.{FlowNone, MissingNext, AfterFinish}
use Rattle.fixp_shake.specs.Flows.{is_recoverable, is_idempotent, is_sequenced, is_absent}
use Rattle.fixp_shake.specs.Phases.{is_negotiating, is_establishing, is_established, is_closing}
use Rattle.fixp_replies.specs.declared.act.Act.{Act}
use Rattle.fixp_replies.specs.declared.act.Act.TheVariants as acts
use Rattle.fixp_replies.specs.declared.act.Ending.{Ending}
use Rattle.fixp_replies.specs.declared.act.Ending.TheVariants as endings
use Rattle.fixp_replies.specs.declared.facts.Facts.{Facts}
use Rattle.fixp_replies.specs.declared.facts.OwnFinish.TheVariants as own
use Rattle.fixp_replies.specs.declared.facts.PeerFinish.{PeerFinish}
use Rattle.fixp_replies.specs.declared.facts.PeerFinish.TheVariants as peer
use Rattle.fixp_replies.specs.Incoming.{Incoming, application, session, wrong_order, too_short, unknown}
use Rattle.fixp_replies.specs.Facts.{Around, is_own, in_phase, receiving, requesting, firm, serves, negotiated as as_negotiated, awaiting, gap_to_ask, having_asked, live_number, peer_last, last_among, awaits_gap, announced_number, peer_is_exchanged, gap_of, holding_too}
use Rattle.fixp_replies.specs.Outcomes.{Outcome, Row, row, within, goes_on, accepts, rejects, ignores, ends_with, ends, breaks, not_in_phase, skip_of, told_skip, opening_negotiate, opening_establish}
use Rattle.fixp_replies.specs.Announcing.{Announced, jumped_over, announced, announcement_fault, refuses}
use Rattle.fixp_replies.specs.Handshake.{awaits_client, serves_client, established, acknowledged_by, acknowledges, establish_rows, established_again_rows, establish_rows_in, shaken, reached}
use Rattle.fixp_replies.specs.Flowing.{bad_retransmission, counted, taken_as, finish_act, peer_finished, answers_finish, is_filled, is_past_finish, sequence_follows, sequence_taken, restarted, finished_last, finish_fault, finished, is_last}
use Rattle.fixp_replies.specs.Serving.{request_answered, own_finishing}
use Rattle.fixp_replies.specs.Replies.{of_session, reply_of, rows_of, terminates, template_of, answer_of}
use Rattle.fixp_replies.specs.Expecting.{number_in, answers_next, softened}
use Rattle.fixp_machine.proofs.Expecting.{returned_if}
use Rattle.honest_ends.proofs.Returning.{by_taking, by_reaching, starting, reaching, no_gap_live}
use Rattle.fixp_machine.proofs.Rows.{AllRows, by_row, all_rows, all_within, announced_rows, own_rows}
use Rattle.fixp_machine.proofs.Tests.{not_true, some-none, delivers}
use Rattle.fixp_machine.proofs.Keeping.{in_bounds, or_right, expected_as}
use Rattle.honest_ends.proofs.Lining.{other_sequenced}

-- The inbox has come past the last number that is recorded of a finish, where the flow has numbers, and a finish that is exchanged is recorded
pub record Ended (numbered : Bool) (last : Option ℕ) (inbox : ℕ) (finish : PeerFinish) : Type 0 where
  pub reached : numbered ≡ true → IfSome last (λ n. n + 1 ≤ inbox)
  pub recorded : peer_is_exchanged finish ≡ true → is_some last ≡ true

abbrev pub Ends : Flow → Facts → Type 0
Ends flow f = Ended (is_sequenced flow) f.recorded.peer_last f.recorded.inbox_next f.connection.peer_finish

-- a reader of a recoverable flow waits for what its inbox awaits, past which all lies that it holds
abbrev pub Waits : Around → Facts → Type 0
Waits x f = is_recoverable x.config.peer_flow ≡ true → (f.connection.receiver.next ≡ f.recorded.inbox_next) × IfSome x.held (λ n. f.recorded.inbox_next < n)

-- what stands around it, with the message that is held, if one is
abbrev pub holding_so : Around → Option ℕ → Around
holding_so x None = x
holding_so x (Some n) = holding_too x n

-- what an outcome keeps: where the connection goes on, no gap is left to be asked for
pub record Settles (x : Around) (f : Facts) (o : Outcome) : Type 0 where
  pub asked : gap_to_ask x f ≡ None → o.ending ≡ None → gap_to_ask (holding_so x o.holds) o.next ≡ None
  pub ends : Waits x f → Ends x.config.peer_flow f → Ends x.config.peer_flow o.next

pub rise : (t : Bool) (l : Option ℕ) (a b : ℕ) (q : PeerFinish) → a ≤ b → Ended t l a q → Ended t l b q
rise t l a b q h e = record { reached = λ s. more l (e.reached s); recorded = e.recorded }
  where
    more : (k : Option ℕ) → IfSome k (λ n. n + 1 ≤ a) → IfSome k (λ n. n + 1 ≤ b)
    more None g = tt
    more (Some n) g = omega (arith, g, h)

-- once it is asked for, a gap is not to be asked for
asked_once : (x : Around) (g : Facts) → gap_to_ask x (having_asked g (gap_to_ask x g)) ≡ None
asked_once x g = by_gap (gap_to_ask x g) refl
  where
    by_test : (b : Bool) → (if b || true then None else gap_of x g) ≡ None
    by_test true = refl
    by_test false = refl

    by_gap : (r : Option Range) → gap_to_ask x g ≡ r → gap_to_ask x (having_asked g r) ≡ None
    by_gap None e = e
    by_gap (Some r) e = by_test g.connection.soft

having_ends : (flow : Flow) (g : Facts) (r : Option Range) → Ends flow g → Ends flow (having_asked g r)
having_ends flow g None e = e
having_ends flow g (Some r) e = e

-- the connection goes on
going : (x : Around) (f g : Facts) (act : Act) (written : List Message)
    → (Waits x f → Ends x.config.peer_flow f → Ends x.config.peer_flow g) → Settles x f (goes_on x act written g)
going x f g act written h = record {
  asked = λ _ _. asked_once x g;
  ends = λ w e. having_ends x.config.peer_flow g (gap_to_ask x g) (h w e);
}

-- it stays as it was
staying : (x : Around) (f : Facts) (written : List Message) → Settles x f (rejects written f)
staying x f written = record { asked = λ a _. a; ends = λ _ e. e }

-- it ends
ending : (x : Around) (f g : Facts) (code : ℕ) (e : Ending) → (Ends x.config.peer_flow f → Ends x.config.peer_flow g) → Settles x f (ends x g code e)
ending x f g code e h = record { asked = λ _ over. absurd cc; ends = λ _ k. h k }

rejecting : (x : Around) (f : Facts) (e : Ending) → Settles x f (ends_with x f [] e)
rejecting x f e = record { asked = λ _ over. absurd cc; ends = λ _ k. k }

bad : (x : Around) (f : Facts) (b : Option BadStart) → Settles x f (bad_retransmission x f b)
bad x f None = staying x f []
bad x f (Some b) = ending x f f 2 _ (λ k. k)

refusing : (x : Around) (f : Facts) (v : Option Violation) → Settles x f (refuses x f v)
refusing x f None = staying x f []
refusing x f (Some v) = ending x f f 2 _ (λ k. k)

-- what an announcement makes of a recoverable flow, of an idempotent one, and of another
by_announced : (P : Announced → Type 0) (x : Around) (f : Facts) (next : Option ℕ)
    → (is_recoverable x.config.peer_flow ≡ true → P (record { facts = firm (receiving f (receiver_is.announced f.connection.receiver (unwrap_or next 0))); skipped = None }))
    → (is_recoverable x.config.peer_flow ≡ false → is_idempotent x.config.peer_flow ≡ true → P (record { facts = awaiting f (unwrap_or next 0); skipped = jumped_over f.recorded.inbox_next (unwrap_or next 0) }))
    → (is_recoverable x.config.peer_flow ≡ false → is_idempotent x.config.peer_flow ≡ false → P (record { facts = f; skipped = None }))
    → P (announced x f next)
by_announced P x f next waits jumps stays = by_flow (is_recoverable x.config.peer_flow) (is_idempotent x.config.peer_flow) refl refl
  where
    chosen : (r i : Bool) → Announced
    chosen r i = if r then record { facts = firm (receiving f (receiver_is.announced f.connection.receiver (unwrap_or next 0))); skipped = None }
        else if i then record { facts = awaiting f (unwrap_or next 0); skipped = jumped_over f.recorded.inbox_next (unwrap_or next 0) }
        else record { facts = f; skipped = None }

    by_flow : (r i : Bool) → is_recoverable x.config.peer_flow ≡ r → is_idempotent x.config.peer_flow ≡ i → P (chosen r i)
    by_flow true i rec idem = waits rec
    by_flow false true rec idem = jumps rec idem
    by_flow false false rec idem = stays rec idem

-- it never takes the inbox back
announced_ends : (x : Around) (f : Facts) (t : ℕ) (next : Option ℕ) → announcement_fault x f t next ≡ None → Ends x.config.peer_flow f → Ends x.config.peer_flow (announced x f next).facts
announced_ends x f t next none e = by_announced (λ a. Ends x.config.peer_flow a.facts) x f next (λ _. e)
    (λ rec idem. let b = in_bounds x f t next none (or_right (is_recoverable x.config.peer_flow) (is_idempotent x.config.peer_flow) idem) in
    rise (is_sequenced x.config.peer_flow) f.recorded.peer_last f.recorded.inbox_next (unwrap_or next 0) f.connection.peer_finish
    (subst (λ (r : Bool). expected_as f r ≤ unwrap_or next 0) rec b.0) e)
    (λ _ _. e)

-- a message of a recoverable flow
taking : (x : Around) (f : Facts) (s : Seen) → is_recoverable x.config.peer_flow ≡ true → receiver_is.seen f.connection.receiver ≡ s → Settles x f (taken_as x (counted f) s)
taking x f (Deliver n) rec is = going x f (awaiting (counted f) (n + 1)) (acts.Apply n) [] (λ w e.
    let d = delivers f.connection.receiver.next (receiver_is.number f.connection.receiver) n is in
    let d0 = d.0 in
    let d1 = d.1 in
    let waits = (w rec).0 in
    rise (is_sequenced x.config.peer_flow) f.recorded.peer_last f.recorded.inbox_next (n + 1) f.connection.peer_finish (omega (arith, d0, d1, waits)) e)
taking x f (Hold n) rec is = record {
  asked = λ _ _. asked_once (holding_too x n) (counted f);
  ends = λ _ e. having_ends x.config.peer_flow (counted f) (gap_to_ask (holding_too x n) (counted f)) e;
}
taking x f (Gap n) rec is = going x f (counted f) acts.Nothing [] (λ _ e. e)
taking x f (Repeat n) rec is = going x f (counted f) acts.Nothing [] (λ _ e. e)

-- the finish is answered where the inbox has come past its last number
answering : (x : Around) (f g : Facts) (last : ℕ) → (Waits x f → Ends x.config.peer_flow f → Ends x.config.peer_flow g)
    → (Waits x f → is_sequenced x.config.peer_flow ≡ true → last + 1 ≤ g.recorded.inbox_next) → Settles x f (answers_finish x g last)
answering x f g last h past = going x f (peer_finished g (peer.Exchanged last) (Some (unwrap_or g.recorded.peer_last last))) (finish_act g.recorded.peer_last last) (finished_receiving x.config.session ∷ []) (λ w e. let k = h w e in
    record { reached = λ t. recorded_as g.recorded.peer_last (k.reached t) (past w t); recorded = λ _. refl })
  where
    recorded_as : (l : Option ℕ) → IfSome l (λ n. n + 1 ≤ g.recorded.inbox_next) → last + 1 ≤ g.recorded.inbox_next → unwrap_or l last + 1 ≤ g.recorded.inbox_next
    recorded_as None a b = b
    recorded_as (Some n) a b = a

-- FinishedSending is answered at its last number, where no gap is left
last_is_live : (x : Around) (f : Facts) (last : Option ℕ) → is_some (finish_fault x f last) ≡ false → is_sequenced x.config.peer_flow ≡ true → finished_last x last + 1 ≡ live_number x f
last_is_live x f last none numbered =
    let n = finished_last x last in
    eqb-true (n + 1) (live_number x f) (and_parts (n + 1 == live_number x f) (n == unwrap_or (peer_last f) n) (by_tests (is_absent x.config.peer_flow) (is_sequenced x.config.peer_flow) (is_none last) (is_last x f n) numbered none)).0
  where
    by_tests : (absent s missing right : Bool) → s ≡ true
        → is_some (if absent then Some (FlowNone 14) else if s && missing then Some (MissingNext 14) else if s && not right then Some (AfterFinish (finished_last x last) (live_number x f)) else None) ≡ false
        → right ≡ true
    by_tests true s missing right t e = absurd (true≢false e)
    by_tests false true true right t e = absurd (true≢false e)
    by_tests false true false true t e = refl
    by_tests false true false false t e = absurd (true≢false e)
    by_tests false false missing right t e = absurd (true≢false (sym t))

-- no gap is left of a recoverable flow, where the number awaited is the live one
pub gap_reached : (h : Option ℕ) (r : Receiving) (inbox : ℕ) → r.next ≡ inbox → IfSome h (λ n. inbox < n) → receiver_is.gap h r ≡ None → r.live ≤ r.next
gap_reached None r inbox w held e = no_gap_live r e
gap_reached (Some n) r inbox w held e = by_test (nat_lt r.next n) refl e
  where
    missing : Range
    missing = record { from = r.next; count = n - r.next }

    by_test : (b : Bool) → nat_lt r.next n ≡ b → (if b then Some missing else None) ≡ None → r.live ≤ r.next
    by_test true t e = absurd cc
    by_test false t e = let low = ltb-false r.next n t in absurd (omega (arith, w, held, low))

pub recoverable_gap : (x : Around) (f : Facts) → is_recoverable x.config.peer_flow ≡ true → gap_of x f ≡ receiver_is.gap x.held f.connection.receiver
recoverable_gap x f rec = ap (λ (b : Bool). if b then receiver_is.gap x.held f.connection.receiver else None) rec

live_reached : (x : Around) (f : Facts) → gap_of x f ≡ None → Waits x f → live_number x f ≤ f.recorded.inbox_next
live_reached x f none waits = by_flow (is_recoverable x.config.peer_flow) refl
  where
    by_flow : (r : Bool) → is_recoverable x.config.peer_flow ≡ r → (if r then f.connection.receiver.live else f.recorded.inbox_next) ≤ f.recorded.inbox_next
    by_flow true rec =
        let w = waits rec in
        let same = w.0 in
        let low = gap_reached x.held f.connection.receiver f.recorded.inbox_next w.0 w.1 (sym (recoverable_gap x f rec) ∙ none) in
        omega (arith, low, same)
    by_flow false rec = omega arith

finishing : (x : Around) (f : Facts) (last : Option ℕ) → is_some (finish_fault x f last) ≡ false → Settles x f (finished x f (finished_last x last))
finishing x f last none =
    let n = finished_last x last in
    by_row (Settles x f) (is_some (gap_of x f)) (accepts x [] (peer_finished f (peer.Read n) f.recorded.peer_last)) (answers_finish x f n)
    (λ _. going x f (peer_finished f (peer.Read n) f.recorded.peer_last) acts.Nothing [] (λ _ e. record { reached = e.reached; recorded = λ t. absurd (true≢false (sym t)) }))
    (λ whole. answering x f f n (λ _ e. e) (λ w s. let is = last_is_live x f last none s in let low = live_reached x f (some-none (gap_of x f) whole) w in omega (arith, is, low)))

-- a Sequence that is not past a finish which waits announces the number behind its last one
not_past : (s : Bool) (recorded : Option ℕ) (q : PeerFinish) (next : ℕ) → s ≡ true → is_some (awaits_gap q) ≡ true
    → (s && is_some (last_among recorded q) && not (next == unwrap_or (last_among recorded q) 0 + 1)) ≡ false → next ≡ unwrap_or (awaits_gap q) 0 + 1
not_past false recorded q next t some e = absurd (true≢false (sym t))
not_past true recorded peer.Open next t some e = absurd (true≢false (sym some))
not_past true recorded (peer.Read last) next t some e = eqb-true next (last + 1) (not_true (next == last + 1) e)
not_past true recorded (peer.Exchanged last) next t some e = absurd (true≢false (sym some))

none_so : {A : Type 0} (o : Option A) → is_none o ≡ true → o ≡ None
none_so None e = refl
none_so (Some a) e = absurd (true≢false (sym e))

-- so the inbox has come past it, where the gap is filled
filled_past : (x : Around) (f : Facts) (next : ℕ) → Waits x f → is_past_finish x f next ≡ false → is_sequenced x.config.peer_flow ≡ true → is_filled x (announced x f (Some next)).facts ≡ true
    → unwrap_or (awaits_gap (announced x f (Some next)).facts.connection.peer_finish) 0 + 1 ≤ (announced x f (Some next)).facts.recorded.inbox_next
filled_past x f next waits early numbered filled =
    by_announced (λ a. is_filled x a.facts ≡ true → unwrap_or (awaits_gap a.facts.connection.peer_finish) 0 + 1 ≤ a.facts.recorded.inbox_next) x f (Some next)
    (λ rec full. let a : Facts = firm (receiving f (receiver_is.announced f.connection.receiver next)) in
    let two = and_parts (is_some (awaits_gap f.connection.peer_finish)) (is_none (gap_of x a)) full in
    let is = named two.0 in
    let w = waits rec in
    let same = w.0 in
    let low = gap_reached x.held (receiver_is.announced f.connection.receiver next) f.recorded.inbox_next w.0 w.1 (sym (recoverable_gap x a rec) ∙ none_so (gap_of x a) two.1) in
    omega (arith, is, low, same))
    (λ rec idem full. let is = named (and_parts (is_some (awaits_gap f.connection.peer_finish)) (is_none (gap_of x (awaiting f next))) full).0 in omega (arith, is))
    (λ rec idem full. absurd (true≢false (sym numbered ∙ other_sequenced x.config.peer_flow false rec idem)))
    filled
  where
    named : is_some (awaits_gap f.connection.peer_finish) ≡ true → next ≡ unwrap_or (awaits_gap f.connection.peer_finish) 0 + 1
    named some = not_past (is_sequenced x.config.peer_flow) f.recorded.peer_last f.connection.peer_finish next numbered some early

-- a Sequence ends the retransmission
abbrev behind : Facts → Facts
behind f = requesting f (request_is.after_sequence f.connection.requester)

following : (x : Around) (f : Facts) (next : ℕ) → announcement_fault x (behind f) 7 (Some next) ≡ None → Settles x f (sequence_follows x (behind f) next (announced x (behind f) (Some next)))
following x f next none =
    let g = behind f in
    let a = announced x g (Some next) in
    by_row (Settles x f) (is_past_finish x g next) (breaks x g (AfterFinish (unwrap_or (peer_last g) 0) next)) (sequence_taken x a)
    (λ _. ending x f g 2 _ (λ k. k))
    (λ early. by_row (Settles x f) (is_filled x a.facts) (answers_finish x a.facts (unwrap_or (awaits_gap a.facts.connection.peer_finish) 0)) (goes_on x (skip_of a.skipped) (told_skip a.skipped) a.facts)
    (λ filled. answering x f a.facts (unwrap_or (awaits_gap a.facts.connection.peer_finish) 0) (λ _ e. announced_ends x g 7 (Some next) none e) (λ w s. filled_past x g next w early s filled))
    (λ _. going x f a.facts (skip_of a.skipped) (told_skip a.skipped) (λ _ e. announced_ends x g 7 (Some next) none e)))

-- an announcement that breaks a rule ends the connection
refused : (x : Around) (f g : Facts) (v : Option Violation) → is_some v ≡ true → (Ends x.config.peer_flow f → Ends x.config.peer_flow g) → Settles x f (refuses x g v)
refused x f g None some h = absurd (true≢false (sym some))
refused x f g (Some v) some h = ending x f g 2 _ h

answered : (x : Around) (f : Facts) (id : List ℕ) (timestamp : ℕ) (r : Result Range RetransmitCode) → Settles x f (request_answered x f id timestamp r)
answered x f id timestamp (Ok range) = going x f (serves f (Some range)) acts.Nothing (retransmission x.config.session range.from timestamp range.count ∷ []) (λ _ e. e)
answered x f id timestamp (Err code) = staying x f _

-- an initiator goes on with the handshake
shaking : (x : Around) (f : Facts) → Settles x f (shaken x f)
shaking x f = going x f (in_phase (as_negotiated f) phases.Establishing) (if f.recorded.negotiated then acts.Nothing else acts.Negotiated) (opening_establish x f ∷ []) (λ _ e. e)

establish_all : (x : Around) (f : Facts) (id : List ℕ) (timestamp keepalive : ℕ) (next : Option ℕ) (expected : Expected) (credentials : List ℕ)
    → AllRows (Settles x f) (establish_rows_in x f id timestamp keepalive next expected credentials)
establish_all x f id timestamp keepalive next expected credentials = by_place (awaits_client x f) (serves_client x f)
  where
    a : Announced
    a = announced x f next

    acknowledged : announcement_fault x f 4 next ≡ None → Settles x f (acknowledges x timestamp keepalive expected a)
    acknowledged none = by_taking (λ g. Settles x f (acknowledged_by x timestamp keepalive expected a.skipped g)) x a.facts expected (λ _. writing (record a.facts { recorded = record a.facts.recorded { sent = number_in expected - 1 } }) (λ e. e)) (writing a.facts (λ e. e))
      where
        writing : (g : Facts) → (Ends x.config.peer_flow a.facts → Ends x.config.peer_flow (established (softened x expected g) keepalive)) → Settles x f (acknowledged_by x timestamp keepalive expected a.skipped g)
        writing g same = going x f (established (softened x expected g) keepalive) (skip_of a.skipped) (establishment_ack x.config.session timestamp x.config.keepalive (announced_number x g) (answers_next x expected g) ∷ told_skip a.skipped)
            (λ _ e. same (announced_ends x f 4 next none e))

    by_place : (a b : Bool) → AllRows (Settles x f) (if a then establish_rows x f id timestamp keepalive next expected credentials else if b then established_again_rows x f id timestamp else [])
    by_place true b = (
      λ _. staying x f _,
      λ _. (
        λ _. staying x f _,
        λ _. (
          λ _. staying x f _,
          λ _. announced_rows (Settles x f) x f 4 next (acknowledges x timestamp keepalive expected) (refusing x f) acknowledged,
        ),
      ),
    )
    by_place false true = (λ _. staying x f _, λ _. (λ _. staying x f _, λ _. tt))
    by_place false false = tt

-- an acknowledgement is read, whether its number is taken or not
reaching_on : (x : Around) (f : Facts) (next : Option ℕ) (e : Expected) (interval : ℕ) → announcement_fault x f 5 next ≡ None → (t same : Bool) → Settles x f (reaching x interval e (announced x f next) t same)
reaching_on x f next e interval none t same = by_test t
  where
    a : Announced
    a = announced x f next

    by_test : (b : Bool) → Settles x f (goes_on x (skip_of a.skipped) (told_skip a.skipped ++ starting t same e) (established (returned_if b a.facts e) interval))
    by_test true = going x f (established (returned_if true a.facts e) interval) (skip_of a.skipped) (told_skip a.skipped ++ starting t same e) (λ _ k. announced_ends x f 5 next none k)
    by_test false = going x f (established a.facts interval) (skip_of a.skipped) (told_skip a.skipped ++ starting t same e) (λ _ k. announced_ends x f 5 next none k)

-- the rows of one message of this session, under a condition
own_within : (x : Around) (f : Facts) (template : ℕ) (id : List ℕ) (condition : Bool) (rows : List Row) → AllRows (Settles x f) rows → AllRows (Settles x f) (of_session x f template id (within condition rows))
own_within x f template id condition rows all = own_rows (Settles x f) x f template id (within condition rows) (λ e. ending x f f 2 e (λ k. k)) (all_within (Settles x f) condition rows (λ _. all))

each_message : (x : Around) (f : Facts) (m : Message) → AllRows (Settles x f) (rows_of x f (session m))
each_message x f (negotiate id timestamp flow credentials) = all_within (Settles x f) (awaits_client x f) _ (λ _. (
  λ _. staying x f _,
  λ _. (
    λ _. staying x f _,
    λ _. (
      λ _. staying x f _,
      λ _. (
        λ _. staying x f _,
        λ _. (λ _. going x f (as_negotiated f) acts.Negotiated (negotiation_response x.config.session timestamp (flow_code x.config.own_flow) [] ∷ []) (λ _ e. e), λ _. tt),
      ),
    ),
  ),
))
each_message x f (negotiation_response id timestamp flow credentials) =
    own_within x f 2 id (is_negotiating f.connection.phase) _ (λ _. ending x f f 2 _ (λ k. k), λ _. (λ _. shaking x f, λ _. tt))
each_message x f (negotiation_reject id timestamp code reason) =
    own_within x f 3 id (is_negotiating f.connection.phase) _ (λ _. shaking x f, λ _. (λ _. rejecting x f _, λ _. tt))
each_message x f (establish id timestamp keepalive next expected credentials) = establish_all x f id timestamp keepalive next expected credentials
each_message x f (establishment_ack id timestamp keepalive next expected) =
    own_within x f 5 id (is_establishing f.connection.phase) _
    (announced_rows (Settles x f) x f 5 next (reached x keepalive expected) (refusing x f)
    (λ none. by_reaching (Settles x f) x keepalive expected (announced x f next) (λ t same _ _. reaching_on x f next expected (min 60000 (max 100 keepalive)) none t same)))
each_message x f (establishment_reject id timestamp code reason) =
    own_within x f 6 id (is_establishing f.connection.phase) _
    (λ _. going x f (in_phase f phases.Negotiating) acts.Nothing (opening_negotiate x ∷ []) (λ _ e. e), λ _. (λ _. rejecting x f _, λ _. tt))
each_message x f (sequence next) = all_within (Settles x f) (is_established f.connection.phase) _ (λ _. (
  λ _. bad x f (request_is.sequence_fault f.connection.requester),
  λ _. (
    λ broken. refused x f (behind f) (announcement_fault x (behind f) 7 (Some next)) broken (λ k. k),
    λ none. (λ _. following x f next (some-none (announcement_fault x (behind f) 7 (Some next)) none), λ _. tt),
  ),
))
each_message x f unsequenced_heartbeat = (λ _. going x f f acts.Nothing [] (λ _ e. e), λ _. tt)
each_message x f (retransmit_request id timestamp first count) = all_within (Settles x f) (is_established f.connection.phase) _ (λ _. (
  λ _. ending x f f 4 _ (λ k. k),
  λ _. (λ _. answered x f id timestamp (judged (is_own x id) (is_recoverable x.config.own_flow) first count f.recorded.sent), λ _. tt),
))
each_message x f (retransmission id next timestamp count) =
    own_within x f 10 id (is_established f.connection.phase) _ (
      λ _. bad x f (request_is.start_fault (request_is.outstanding f.connection.requester) next count),
      λ _. (λ _. going x f (restarted f next count) acts.Nothing [] (λ _ e. e), λ _. tt),
    )
each_message x f (retransmit_reject id timestamp code reason) = own_within x f 11 id (is_established f.connection.phase) _ (λ _. ending x f f 2 _ (λ k. k), λ _. tt)
each_message x f (applied first count) = (λ _. going x f f acts.Nothing [] (λ _ e. e), λ _. tt)
each_message x f (not_applied first count) = (λ _. going x f f (acts.Told first count) [] (λ _ e. e), λ _. (λ _. going x f f acts.Nothing [] (λ _ e. e), λ _. tt))
each_message x f (finished_sending id last) =
    own_within x f 14 id (is_established f.connection.phase) _ (λ _. refusing x f (finish_fault x f last), λ none. (λ _. finishing x f last none, λ _. tt))
each_message x f (finished_receiving id) =
    own_within x f 15 id (is_established f.connection.phase) _ (λ _. going x f (own_finishing f own.Exchanged) acts.Nothing [] (λ _ e. e), λ _. tt)
each_message x f (terminate id code reason) =
    own_rows (Settles x f) x f 16 id (row true (ends x f 1 (endings.PeerTerminated code)) ∷ []) (λ e. ending x f f 2 e (λ k. k)) (λ _. ending x f f 1 _ (λ k. k), λ _. tt)

each_row : (x : Around) (f : Facts) (i : Incoming) → AllRows (Settles x f) (rows_of x f i)
each_row x f (application payload) = all_within (Settles x f) (is_established f.connection.phase) _ (λ _. (
  λ _. ending x f f 2 _ (λ k. k),
  λ _. (
    λ _. ending x f f 2 _ (λ k. k),
    λ _. (
      λ _. ending x f f 2 _ (λ k. k),
      λ _. (
        λ _. going x f (awaiting f (f.recorded.inbox_next + 1)) (acts.Apply f.recorded.inbox_next) []
            (λ _ e. rise (is_sequenced x.config.peer_flow) f.recorded.peer_last f.recorded.inbox_next (f.recorded.inbox_next + 1) f.connection.peer_finish (omega arith) e),
        λ rec. (
          λ _. bad x f (request_is.message_fault f.connection.requester),
          λ _. (λ _. taking x f (receiver_is.seen f.connection.receiver) (not_true (is_recoverable x.config.peer_flow) rec) refl, λ _. tt),
        ),
      ),
    ),
  ),
))
each_row x f (session m) = each_message x f m
each_row x f wrong_order = (λ _. ending x f f 2 _ (λ k. k), λ _. tt)
each_row x f too_short = (λ _. ending x f f 2 _ (λ k. k), λ _. tt)
each_row x f (unknown template) = (λ _. ending x f f 2 _ (λ k. k), λ _. tt)

-- each reply
pub settles : (x : Around) (f : Facts) (i : Incoming) → Settles x f (reply_of x f i)
settles x f i =
    by_row (Settles x f) (is_closing f.connection.phase && not (terminates x i)) (ignores f) (answer_of x f i)
    (λ _. staying x f [])
    (λ _. all_rows (Settles x f) (not_in_phase x f (template_of i)) (rows_of x f i) (ending x f f 2 _ (λ k. k)) (each_row x f i))
