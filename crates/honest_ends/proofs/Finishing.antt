-- How a reply moves the finishes of both flows, row by row: each FinishedSending is read or answered once, only a finish that was told is
-- ended by its answer, the finish of the peer's is learned from its FinishedSending alone, and what comes behind it is refused by its row.
use Rattle.std.proofs.Common.{◌≡◌, ◌⊎◌, inl, inr, ℕ, ◌+◌, ◌-◌, ◌≤◌, ◌&&◌, min, max, nat_lt, not, Bool, true, false, if◌then◌else◌, List, [], ◌∷◌, ◌++◌, Option, Some, None, refl, sym, ap, subst, ◌∙◌, arith, true≢false}
use Rattle.std.specs.Prelude.{is_some, is_none, unwrap_or, Result, Ok, Err}
use Rattle.fixp_msgs.specs.declared.numbering.Range.{Range}
use Rattle.fixp_msgs.specs.Flow.{flow_code}
use Rattle.fixp_msgs.specs.declared.messages.Expected.{Expected}
use Rattle.fixp_msgs.specs.Message.{Message, negotiate, negotiation_response, negotiation_reject, establish, establishment_ack, establishment_reject, sequence, unsequenced_heartbeat, retransmit_request, retransmission, retransmit_reject, applied, not_applied, finished_sending, finished_receiving, terminate}
use Rattle.flow_recover.specs.declared.numbers.Seen.{Seen}
use Rattle.flow_recover.specs.declared.numbers.Seen.TheVariants.{Deliver, Hold, Gap, Repeat}
use Rattle.flow_recover.specs.Receiving as receiver_is
use Rattle.flow_retrans.specs.declared.requester.BadStart.{BadStart}
use Rattle.flow_retrans.specs.declared.judging.RetransmitCode.{RetransmitCode}
use Rattle.flow_retrans.specs.Judging.{judged}
use Rattle.flow_retrans.specs.Requests as request_is
use Rattle.fixp_shake.specs.declared.phase.Phase.TheVariants as phases
use Rattle.fixp_shake.specs.declared.violation.Violation.{Violation}
use Rattle.fixp_shake.specs.declared.violation.Violation.TheVariants.{NotInPhase, OtherSession, WentBack, MissingNext, NumberTooLarge, BadRetransmission, AfterFinish, FlowNone}
use Rattle.fixp_shake.specs.Flows.{is_recoverable, is_idempotent, is_sequenced, is_absent}
use Rattle.fixp_shake.specs.Phases.{is_negotiating, is_establishing, is_established, is_closing}
use Rattle.fixp_replies.specs.declared.act.Act.{Act}
use Rattle.fixp_replies.specs.declared.act.Act.TheVariants as acts
use Rattle.fixp_replies.specs.declared.act.Ending.{Ending}
use Rattle.fixp_replies.specs.declared.act.Ending.TheVariants as endings
use Rattle.fixp_replies.specs.declared.facts.Facts.{Facts}
use Rattle.fixp_replies.specs.declared.facts.OwnFinish.{OwnFinish}
use Rattle.fixp_replies.specs.declared.facts.OwnFinish.TheVariants as own
use Rattle.fixp_replies.specs.declared.facts.PeerFinish.{PeerFinish}
use Rattle.fixp_replies.specs.declared.facts.PeerFinish.TheVariants as peer
use Rattle.fixp_replies.specs.Incoming.{application, session}
use Rattle.fixp_replies.specs.Facts.{Around, is_own, in_phase, receiving, requesting, firm, serves, negotiated as as_negotiated, awaiting, gap_to_ask, having_asked, announced_number, peer_last, last_among, awaits_gap, is_told, expected_number, live_number, message_number, finishes_exchanged, gap_of, holding_too}
use Rattle.fixp_replies.specs.Outcomes.{Outcome, Row, row, goes_on, accepts, rejects, ignores, ends_with, ends, breaks, not_in_phase, request_for, skip_of, told_skip, opening_negotiate, opening_establish}
use Rattle.fixp_replies.specs.Announcing.{Announced, jumped_over, announced, announcement_fault, announcement_rows, refuses}
use Rattle.fixp_replies.specs.Handshake.{awaits_client, serves_client, established, acknowledges, negotiate_rows, establish_rows, established_again_rows, acknowledged_by, negotiation_response_rows, negotiation_reject_rows, establishment_ack_rows, reached, establishment_reject_rows}
use Rattle.fixp_replies.specs.Flowing.{bad_retransmission, counted, taken_as, finish_act, peer_finished, answers_finish, is_filled, is_after_finish, is_past_finish, is_last, sequence_follows, sequence_taken, restarted, first_asked, finished_last, finish_fault, finished, application_rows, sequence_rows, retransmission_rows, retransmit_reject_rows, finished_sending_rows}
use Rattle.fixp_replies.specs.Serving.{request_answered, own_finishing, retransmit_request_rows, finished_receiving_rows}
use Rattle.fixp_replies.specs.Replies.{reply_of, rows_of, answer_of, of_session, terminates, template_of}
use Rattle.fixp_replies.specs.Expecting.{number_in, answers_next, softened}
use Rattle.honest_ends.proofs.Returning.{by_taking, by_reaching, starting, reaching}
use Rattle.fixp_machine.proofs.Expecting.{returned_if}
use Rattle.fixp_machine.proofs.Rows.{AllRows, by_row, all_rows, all_within}
use Rattle.connection_laws.specs.Writing.{Piece, said, entry, said_all}
use Rattle.two_ends.specs.Reading.{incoming_of}
use Rattle.honest_ends.proofs.Deciding.{announced_all, ended_so}

-- how many FinishedSending and FinishedReceiving a message is
abbrev pub sending : Message → ℕ
sending (finished_sending id last) = 1
sending _ = 0

abbrev pub receiving_of : Message → ℕ
receiving_of (finished_receiving id) = 1
receiving_of _ = 0

abbrev pub sendings : Piece → ℕ
sendings (said m) = sending m
sendings (entry payload) = 0

abbrev pub answers : Piece → ℕ
answers (said m) = receiving_of m
answers (entry payload) = 0

-- how many some messages are together
abbrev pub total : (Piece → ℕ) → List Piece → ℕ
total k [] = 0
total k (p ∷ ps) = k p + total k ps

pub total_append : (k : Piece → ℕ) (ps qs : List Piece) → total k (ps ++ qs) ≡ total k ps + total k qs
total_append k [] qs = omega arith
total_append k (p ∷ ps) qs = let e = total_append k ps qs in omega (arith, e)

-- a finish of the peer's was read and waits for a gap, and one of the own flow awaits its answer
abbrev pub waiting : PeerFinish → ℕ
waiting peer.Open = 0
waiting (peer.Read last) = 1
waiting (peer.Exchanged last) = 0

abbrev pub awaited : OwnFinish → ℕ
awaited own.Open = 0
awaited own.Told = 1
awaited own.Exchanged = 0

abbrev pub reads : Facts → ℕ
reads f = waiting f.connection.peer_finish

abbrev pub tells : Facts → ℕ
tells f = awaited f.connection.own_finish

-- at a message that is so many of each: what waits or is answered was waiting or has come, a finish awaits its answer until that has come,
-- and none is told in reply
pub record Counts (f : Facts) (sent got : ℕ) (o : Outcome) : Type 0 where
  pub read : reads o.next + total answers (said_all o.written) ≤ reads f + sent
  pub told : tells f ≤ tells o.next + got
  pub quiet : total sendings (said_all o.written) ≡ 0

-- how far the finishes of both flows have come
pub record Finishes : Type 0 where
  pub theirs : PeerFinish
  pub own : OwnFinish
  pub peer_last : Option ℕ
  pub finish : Option ℕ

abbrev pub finishes : Facts → Finishes
finishes f = record { theirs = f.connection.peer_finish; own = f.connection.own_finish; peer_last = f.recorded.peer_last; finish = f.recorded.finish }

-- a finish of the peer's is known with this last number: it is recorded, or came on this connection
abbrev pub Learned : Finishes → ℕ → Type 0
Learned k n = (k.peer_last ≡ Some n) ⊎ (last_among None k.theirs ≡ Some n)

-- the last number that a message tells
abbrev pub last_in : Around → Piece → Option ℕ
last_in x (said (finished_sending id last)) = Some (finished_last x last)
last_in x _ = None

-- a message comes behind the finish
abbrev pub ComesLate : Around → Facts → Piece → Type 0
ComesLate x f (entry payload) = is_after_finish f ≡ true
ComesLate x f (said (sequence next)) = is_past_finish x f next ≡ true
ComesLate x f (said (finished_sending id last)) = (is_sequenced x.config.peer_flow && not (is_last x f (finished_last x last))) ≡ true
ComesLate x f (said _) = ⊥

-- in Established
abbrev pub IsLate : Around → Facts → Piece → Type 0
IsLate x f p = (is_established f.connection.phase ≡ true) × ComesLate x f p

-- An outcome moves the finishes so. Where it ends the connection by AfterFinish, the message comes behind the finish
pub record Moves (x : Around) (f : Facts) (p : Piece) (o : Outcome) : Type 0 where
  pub counts : Counts f (sendings p) (answers p) o
  pub learns : (n : ℕ) → Learned (finishes o.next) n → Learned (finishes f) n ⊎ (last_in x p ≡ Some n)
  pub late : (last found : ℕ) → o.ending ≡ Some (endings.Violation (AfterFinish last found)) → IsLate x f p
  pub finish : o.next.recorded.finish ≡ f.recorded.finish

asked_finishes : (g : Facts) (r : Option Range) → finishes (having_asked g r) ≡ finishes g
asked_finishes g None = refl
asked_finishes g (Some r) = refl

asking_answers : (x : Around) (ms : List Message) (r : Option Range) → total answers (said_all (ms ++ request_for x r)) ≡ total answers (said_all ms)
asking_answers x [] None = refl
asking_answers x [] (Some r) = refl
asking_answers x (m ∷ ms) r = ap (λ n. receiving_of m + n) (asking_answers x ms r)

asking_sends : (x : Around) (ms : List Message) (r : Option Range) → total sendings (said_all (ms ++ request_for x r)) ≡ total sendings (said_all ms)
asking_sends x [] None = refl
asking_sends x [] (Some r) = refl
asking_sends x (m ∷ ms) r = ap (λ n. sending m + n) (asking_sends x ms r)

-- the connection goes on, and finishes move
going : (x : Around) (f g : Facts) (act : Act) (written : List Message) {p : Piece} → reads g + total answers (said_all written) ≤ reads f + sendings p → tells f ≤ tells g + answers p
    → total sendings (said_all written) ≡ 0 → ((n : ℕ) → Learned (finishes g) n → Learned (finishes f) n ⊎ (last_in x p ≡ Some n))
    → g.recorded.finish ≡ f.recorded.finish → Moves x f p (goes_on x act written g)
going x f g act written {p = p} r t q learns finish =
    let same = asked_finishes g (gap_to_ask x g) in
    let e = ap (λ (k : Finishes). waiting k.theirs) same in
    let a = ap (λ (k : Finishes). awaited k.own) same in
    let n = asking_answers x written (gap_to_ask x g) in
    record {
      counts = record { read = omega (arith, e, n, r); told = omega (arith, a, t); quiet = asking_sends x written (gap_to_ask x g) ∙ q };
      learns = λ k l. learns k (subst (λ (s : Finishes). Learned s k) same l);
      late = λ last found e. absurd cc;
      finish = ap (λ (k : Finishes). k.finish) same ∙ finish;
    }

-- no finish moves
record Stays (x : Around) (f : Facts) (p : Piece) (g : Facts) : Type 0 where
  read : reads g ≡ reads f
  told : tells g ≡ tells f
  learns : (n : ℕ) → Learned (finishes g) n → Learned (finishes f) n ⊎ (last_in x p ≡ Some n)
  finish : g.recorded.finish ≡ f.recorded.finish

stays : (x : Around) (f g : Facts) {p : Piece} → finishes g ≡ finishes f → Stays x f p g
stays x f g same = record {
  read = ap (λ (k : Finishes). waiting k.theirs) same;
  told = ap (λ (k : Finishes). awaited k.own) same;
  learns = λ n l. inl (subst (λ (k : Finishes). Learned k n) same l);
  finish = ap (λ (k : Finishes). k.finish) same;
}

passing : (x : Around) (f g : Facts) (act : Act) (written : List Message) {p : Piece} → finishes g ≡ finishes f → total answers (said_all written) ≡ 0 → total sendings (said_all written) ≡ 0
    → Moves x f p (goes_on x act written g)
passing x f g act written {p = p} same a q =
    let s : Stays x f p g = stays x f g same in
    let r = s.read in
    let t = s.told in
    going x f g act written (omega (arith, r, a)) (omega (arith, t)) q s.learns s.finish

-- and the connection does not go on, or as it was
resting : (x : Around) (f : Facts) (o : Outcome) {p : Piece} → finishes o.next ≡ finishes f → total answers (said_all o.written) ≡ 0 → total sendings (said_all o.written) ≡ 0
    → ((last found : ℕ) → o.ending ≡ Some (endings.Violation (AfterFinish last found)) → IsLate x f p) → Moves x f p o
resting x f o {p = p} same a q late =
    let s : Stays x f p o.next = stays x f o.next same in
    let r = s.read in
    let t = s.told in
    record { counts = record { read = omega (arith, r, a); told = omega (arith, t); quiet = q }; learns = s.learns; late = late; finish = s.finish }

staying : (x : Around) (f : Facts) (m : Message) {p : Piece} → receiving_of m ≡ 0 → sending m ≡ 0 → Moves x f p (rejects (m ∷ []) f)
staying x f m a q = resting x f (rejects (m ∷ []) f) refl (omega (arith, a)) (omega (arith, q)) (λ last found e. absurd cc)

ignoring : (x : Around) (f g : Facts) {p : Piece} → finishes g ≡ finishes f → Moves x f p (ignores g)
ignoring x f g same = resting x f (ignores g) same refl refl (λ last found e. absurd cc)

ending : (x : Around) (f g : Facts) (code : ℕ) (e : Ending) {p : Piece} → finishes g ≡ finishes f → ((last found : ℕ) → e ≡ endings.Violation (AfterFinish last found) → IsLate x f p) → Moves x f p (ends x g code e)
ending x f g code e same late = resting x f (ends x g code e) same refl refl (λ last found is. late last found (ended_so (finishes_exchanged x g) e (AfterFinish last found) is))

rejecting : (x : Around) (f : Facts) (template code : ℕ) {p : Piece} → Moves x f p (ends_with x f [] (endings.Rejected template code))
rejecting x f template code = resting x f (ends_with x f [] (endings.Rejected template code)) refl refl refl (λ last found is. absurd (no_violation last found (ended_so (finishes_exchanged x f) (endings.Rejected template code) (AfterFinish last found) is)))
  where
    no_violation : (last found : ℕ) → endings.Rejected template code ≡ endings.Violation (AfterFinish last found) → ⊥
    no_violation last found e = cc e

bad : (x : Around) (f : Facts) (b : Option BadStart) {p : Piece} → Moves x f p (bad_retransmission x f b)
bad x f None = ignoring x f f refl
bad x f (Some b) = ending x f f 2 (endings.Violation (BadRetransmission b.expected b.found)) refl (λ last found e. absurd cc)

refusing : (x : Around) (f g : Facts) (v : Option Violation) {p : Piece} → finishes g ≡ finishes f → ((last found : ℕ) → v ≡ Some (AfterFinish last found) → IsLate x f p) → Moves x f p (refuses x g v)
refusing x f g None same late = ignoring x f g same
refusing x f g (Some v) same late = ending x f g 2 (endings.Violation v) same (λ last found e. late last found (ap (λ (w : Violation). Some w) (cc e)))

skip_answers : (s : Option Range) → total answers (said_all (told_skip s)) ≡ 0
skip_answers None = refl
skip_answers (Some s) = refl

skip_sends : (s : Option Range) → total sendings (said_all (told_skip s)) ≡ 0
skip_sends None = refl
skip_sends (Some s) = refl

abbrev chosen : Facts → ℕ → Bool → Bool → Announced
chosen f n recoverable idempotent =
    if recoverable then record { facts = firm (receiving f (receiver_is.announced f.connection.receiver n)); skipped = None }
    else if idempotent then record { facts = awaiting f n; skipped = jumped_over f.recorded.inbox_next n }
    else record { facts = f; skipped = None }

-- an announcement moves none
unmoved : (x : Around) (f : Facts) (next : Option ℕ) → finishes (announced x f next).facts ≡ finishes f
unmoved x f next = by_flow (is_recoverable x.config.peer_flow) (is_idempotent x.config.peer_flow)
  where
    by_flow : (r i : Bool) → finishes (chosen f (unwrap_or next 0) r i).facts ≡ finishes f
    by_flow true i = refl
    by_flow false true = refl
    by_flow false false = refl

-- and none that is refused comes behind a finish
announcement_early : (x : Around) (f : Facts) (t : ℕ) (next : Option ℕ) (last found : ℕ) → announcement_fault x f t next ≡ Some (AfterFinish last found) → ⊥
announcement_early x f t next last found e = by_tests (is_sequenced x.config.peer_flow) (is_none next) (nat_lt (x.most + 1) (unwrap_or next 0)) (nat_lt (unwrap_or next 0) (expected_number x f)) e
  where
    by_tests : (numbered missing large back : Bool)
        → (if not numbered then None else if missing then Some (MissingNext t) else if large then Some (NumberTooLarge (unwrap_or next 0))
        else if back then Some (WentBack (unwrap_or next 0) (expected_number x f)) else None) ≡ Some (AfterFinish last found)
        → ⊥
    by_tests false missing large back e = cc e
    by_tests true true large back e = cc e
    by_tests true false true back e = cc e
    by_tests true false false true e = cc e
    by_tests true false false false e = cc e

announcing : (x : Around) (f g : Facts) (t : ℕ) (next : Option ℕ) (follows : Announced → Outcome) {p : Piece} → finishes g ≡ finishes f → Moves x f p (follows (announced x g next))
    → AllRows (Moves x f p) (announcement_rows x g t next follows)
announcing x f g t next follows {p = p} same takes = announced_all (Moves x f p) x g t next follows
    (λ _. refusing x f g (announcement_fault x g t next) same (λ last found e. absurd (announcement_early x g t next last found e))) takes

taking : (x : Around) (f : Facts) (s : Seen) {p : Piece} → Moves x f p (taken_as x (counted f) s)
taking x f (Deliver n) = passing x f (awaiting (counted f) (n + 1)) (acts.Apply n) [] refl refl refl
taking x f (Hold n) {p = p} =
    let k = passing (holding_too x n) f (counted f) acts.Nothing [] {p = p} refl refl refl in
    record { counts = record { read = k.counts.read; told = k.counts.told; quiet = k.counts.quiet }; learns = k.learns; late = k.late; finish = k.finish }
taking x f (Gap n) = passing x f (counted f) acts.Nothing [] refl refl refl
taking x f (Repeat n) = passing x f (counted f) acts.Nothing [] refl refl refl

-- the finish that is answered is known: it is told by this message, or waited for a gap
recorded_as : (k : Option ℕ) (last n : ℕ) → Some (unwrap_or k last) ≡ Some n → (k ≡ Some n) ⊎ (last ≡ n)
recorded_as None last n e = inr (cc e)
recorded_as (Some m) last n e = inl e

-- a finish is answered that has come or waited
answering : (x : Around) (f g : Facts) (last : ℕ) {p : Piece} → 1 ≤ reads f + sendings p → finishes g ≡ finishes f → Learned (finishes f) last ⊎ (last_in x p ≡ Some last) → answers p ≡ 0 → Moves x f p (answers_finish x g last)
answering x f g last {p = p} r same known a =
    let s : Stays x f p g = stays x f g same in
    let t = s.told in
    going x f (peer_finished g (peer.Exchanged last) (Some (unwrap_or g.recorded.peer_last last))) (finish_act g.recorded.peer_last last) (finished_receiving x.config.session ∷ [])
    (omega (arith, r)) (omega (arith, t)) refl learns s.finish
  where
    at_last : (n : ℕ) → last ≡ n → Learned (finishes f) n ⊎ (last_in x p ≡ Some n)
    at_last n e = subst (λ (k : ℕ). Learned (finishes f) k ⊎ (last_in x p ≡ Some k)) e known

    from_record : (n : ℕ) → (g.recorded.peer_last ≡ Some n) ⊎ (last ≡ n) → Learned (finishes f) n ⊎ (last_in x p ≡ Some n)
    from_record n (inl e) = inl (inl (sym (ap (λ (k : Finishes). k.peer_last) same) ∙ e))
    from_record n (inr e) = at_last n e

    learns : (n : ℕ) → (Some (unwrap_or g.recorded.peer_last last) ≡ Some n) ⊎ (Some last ≡ Some n) → Learned (finishes f) n ⊎ (last_in x p ≡ Some n)
    learns n (inl e) = from_record n (recorded_as g.recorded.peer_last last n e)
    learns n (inr e) = at_last n (cc e)

waits : (q : PeerFinish) (b : Bool) → (is_some (awaits_gap q) && b) ≡ true → (waiting q ≡ 1) × (last_among None q ≡ Some (unwrap_or (awaits_gap q) 0))
waits peer.Open b e = absurd (true≢false (sym e))
waits (peer.Read last) b e = (refl, refl)
waits (peer.Exchanged last) b e = absurd (true≢false (sym e))

following : (x : Around) (f g : Facts) (next : ℕ) (a : Announced) → finishes g ≡ finishes f → finishes a.facts ≡ finishes f → (is_past_finish x g next ≡ true → IsLate x f (said (sequence next)))
    → Moves x f (said (sequence next)) (sequence_follows x g next a)
following x f g next a u v late =
    let P = Moves x f (said (sequence next)) in
    by_row P (is_past_finish x g next) (breaks x g (AfterFinish (unwrap_or (peer_last g) 0) next)) (sequence_taken x a)
    (λ past. ending x f g 2 (endings.Violation (AfterFinish (unwrap_or (peer_last g) 0) next)) u (λ _ _ _. late past))
    (λ _. by_row P (is_filled x a.facts) (answers_finish x a.facts (unwrap_or (awaits_gap a.facts.connection.peer_finish) 0)) (goes_on x (skip_of a.skipped) (told_skip a.skipped) a.facts)
    (λ filled. let one = waits a.facts.connection.peer_finish (is_none (gap_of x a.facts)) filled in
    let was = ap (λ (k : Finishes). waiting k.theirs) v in
    let first = one.0 in
    answering x f a.facts (unwrap_or (awaits_gap a.facts.connection.peer_finish) 0) (omega (arith, first, was)) v (inl (inr (sym (ap (λ (k : Finishes). last_among None k.theirs) v) ∙ one.1))) refl)
    (λ _. passing x f a.facts (skip_of a.skipped) (told_skip a.skipped) v (skip_answers a.skipped) (skip_sends a.skipped)))

requested : (x : Around) (f : Facts) (id : List ℕ) (timestamp : ℕ) (r : Result Range RetransmitCode) {p : Piece} → Moves x f p (request_answered x f id timestamp r)
requested x f id timestamp (Ok range) = passing x f (serves f (Some range)) acts.Nothing (retransmission x.config.session range.from timestamp range.count ∷ []) refl refl refl
requested x f id timestamp (Err code) = staying x f _ refl refl

told_is : (q : OwnFinish) → is_told q ≡ true → awaited q ≡ 1
told_is own.Open e = absurd (true≢false (sym e))
told_is own.Told e = refl
told_is own.Exchanged e = absurd (true≢false (sym e))

at_most_one : (q : OwnFinish) → awaited q ≤ 1
at_most_one own.Open = omega arith
at_most_one own.Told = omega arith
at_most_one own.Exchanged = omega arith

-- FinishedSending is refused where it is not the last number, or taken
finish_late : (x : Around) (f : Facts) (last : Option ℕ) (l found : ℕ) → finish_fault x f last ≡ Some (AfterFinish l found) → (is_sequenced x.config.peer_flow && not (is_last x f (finished_last x last))) ≡ true
finish_late x f last l found e = by_tests (is_absent x.config.peer_flow) (is_sequenced x.config.peer_flow && is_none last) (is_sequenced x.config.peer_flow && not (is_last x f (finished_last x last))) e
  where
    by_tests : (absent missing other : Bool)
        → (if absent then Some (FlowNone 14) else if missing then Some (MissingNext 14) else if other then Some (AfterFinish (finished_last x last) (live_number x f)) else None) ≡ Some (AfterFinish l found)
        → other ≡ true
    by_tests true missing other e = absurd cc
    by_tests false true other e = absurd cc
    by_tests false false true e = refl
    by_tests false false false e = absurd cc

finishing : (x : Around) (f : Facts) (id : List ℕ) (last : Option ℕ) → Moves x f (said (finished_sending id last)) (finished x f (finished_last x last))
finishing x f id last =
    by_row (Moves x f (said (finished_sending id last))) (is_some (gap_of x f)) (accepts x [] (peer_finished f (peer.Read (finished_last x last)) f.recorded.peer_last)) (answers_finish x f (finished_last x last))
    (λ _. going x f (peer_finished f (peer.Read (finished_last x last)) f.recorded.peer_last) acts.Nothing [] (omega arith) (omega arith) refl learns refl)
    (λ _. answering x f f (finished_last x last) (omega arith) refl (inr refl) refl)
  where
    learns : (n : ℕ) → (f.recorded.peer_last ≡ Some n) ⊎ (Some (finished_last x last) ≡ Some n) → Learned (finishes f) n ⊎ (Some (finished_last x last) ≡ Some n)
    learns n (inl e) = inl (inl e)
    learns n (inr e) = inr e

acknowledging : (x : Around) (f : Facts) (next : Option ℕ) (timestamp keepalive : ℕ) (e : Expected) {p : Piece} → Moves x f p (acknowledges x timestamp keepalive e (announced x f next))
acknowledging x f next timestamp keepalive e {p = p} =
    let a = announced x f next in
    let none = skip_answers a.skipped in
    let quiet = skip_sends a.skipped in
    by_taking (λ g. Moves x f p (acknowledged_by x timestamp keepalive e a.skipped g)) x a.facts e
    (λ _. let g : Facts = record a.facts { recorded = record a.facts.recorded { sent = number_in e - 1 } } in
    passing x f (established (softened x e g) keepalive) (skip_of a.skipped) (establishment_ack x.config.session timestamp x.config.keepalive (announced_number x g) (answers_next x e g) ∷ told_skip a.skipped) (unmoved x f next)
    (omega (arith, none)) (omega (arith, quiet)))
    (passing x f (established (softened x e a.facts) keepalive) (skip_of a.skipped) (establishment_ack x.config.session timestamp x.config.keepalive (announced_number x a.facts) (answers_next x e a.facts) ∷ told_skip a.skipped) (unmoved x f next)
    (omega (arith, none)) (omega (arith, quiet)))

-- an acknowledgement, whether its number is taken or not
reaching_on : (x : Around) (f : Facts) (next : Option ℕ) (interval : ℕ) (e : Expected) {p : Piece} (t same : Bool) → Moves x f p (reaching x interval e (announced x f next) t same)
reaching_on x f next interval e {p = p} t same =
    let a = announced x f next in
    let parts = starts_nothing a.skipped t same in
    by_test t parts.0 parts.1
  where
    starts_nothing : (s : Option Range) (t same : Bool) → (total answers (said_all (told_skip s ++ starting t same e)) ≡ 0) × (total sendings (said_all (told_skip s ++ starting t same e)) ≡ 0)
    starts_nothing None true true = (refl, refl)
    starts_nothing None true false = (refl, refl)
    starts_nothing None false same = (refl, refl)
    starts_nothing (Some s) true true = (refl, refl)
    starts_nothing (Some s) true false = (refl, refl)
    starts_nothing (Some s) false same = (refl, refl)

    by_test : (b : Bool) → total answers (said_all (told_skip (announced x f next).skipped ++ starting t same e)) ≡ 0 → total sendings (said_all (told_skip (announced x f next).skipped ++ starting t same e)) ≡ 0
        → Moves x f p (goes_on x (skip_of (announced x f next).skipped) (told_skip (announced x f next).skipped ++ starting t same e) (established (returned_if b (announced x f next).facts e) interval))
    by_test true none quiet = passing x f (established (returned_if true (announced x f next).facts e) interval) (skip_of (announced x f next).skipped) (told_skip (announced x f next).skipped ++ starting t same e) (unmoved x f next) none quiet
    by_test false none quiet = passing x f (established (announced x f next).facts interval) (skip_of (announced x f next).skipped) (told_skip (announced x f next).skipped ++ starting t same e) (unmoved x f next) none quiet

-- all rows of all messages
message_rows : (x : Around) (f : Facts) (payload : List ℕ) → AllRows (Moves x f (entry payload)) (rows_of x f (application payload))
message_rows x f payload = all_within (Moves x f (entry payload)) (is_established f.connection.phase) (application_rows x f) (λ now. (
  λ _. ending x f f 2 (endings.Violation (FlowNone 0)) refl (λ _ _ e. absurd cc),
  λ _. (
    λ late. ending x f f 2 _ refl (λ _ _ _. (now, late)),
    λ _. (
      λ _. ending x f f 2 (endings.Violation (NumberTooLarge (message_number x f))) refl (λ _ _ e. absurd cc),
      λ _. (
        λ _. passing x f (awaiting f (f.recorded.inbox_next + 1)) (acts.Apply f.recorded.inbox_next) [] refl refl refl,
        λ _. (
          λ _. bad x f (request_is.message_fault f.connection.requester),
          λ _. (λ _. taking x f (receiver_is.seen f.connection.receiver), λ _. tt),
        ),
      ),
    ),
  ),
))

in_session : (x : Around) (f : Facts) (p : Piece) (template : ℕ) (id : List ℕ) (rows : List Row) → AllRows (Moves x f p) rows → AllRows (Moves x f p) (of_session x f template id rows)
in_session x f p template id rows all = (λ _. ending x f f 2 (endings.Violation (OtherSession template)) refl (λ _ _ e. absurd cc), λ _. all)

choosing : (P : Outcome → Type 0) (b c : Bool) (first second : List Row) → AllRows P first → AllRows P second → AllRows P (if b then first else if c then second else [])
choosing P true c first second p q = p
choosing P false true first second p q = q
choosing P false false first second p q = tt

session_rows : (x : Around) (f : Facts) (m : Message) → AllRows (Moves x f (said m)) (rows_of x f (session m))
session_rows x f (negotiate id timestamp flow credentials) = all_within (Moves x f (said (negotiate id timestamp flow credentials))) (awaits_client x f) (negotiate_rows x f id timestamp flow credentials) (λ _. (
  λ _. staying x f _ refl refl,
  λ _. (
    λ _. staying x f _ refl refl,
    λ _. (
      λ _. staying x f _ refl refl,
      λ _. (
        λ _. staying x f _ refl refl,
        λ _. (λ _. passing x f (as_negotiated f) acts.Negotiated (negotiation_response x.config.session timestamp (flow_code x.config.own_flow) [] ∷ []) refl refl refl, λ _. tt),
      ),
    ),
  ),
))
session_rows x f (negotiation_response id timestamp flow credentials) =
    let p = said (negotiation_response id timestamp flow credentials) in
    in_session x f p 2 id _ (all_within (Moves x f p) (is_negotiating f.connection.phase) (negotiation_response_rows x f flow) (λ _. (
      λ _. ending x f f 2 (endings.Violation (OtherSession 2)) refl (λ _ _ e. absurd cc),
      λ _. (λ _. passing x f (in_phase (as_negotiated f) phases.Establishing) _ (opening_establish x f ∷ []) refl refl refl, λ _. tt),
    )))
session_rows x f (negotiation_reject id timestamp code reason) =
    let p = said (negotiation_reject id timestamp code reason) in
    in_session x f p 3 id _ (all_within (Moves x f p) (is_negotiating f.connection.phase) (negotiation_reject_rows x f code) (λ _. (
      λ _. passing x f (in_phase (as_negotiated f) phases.Establishing) _ (opening_establish x f ∷ []) refl refl refl,
      λ _. (λ _. rejecting x f 3 code, λ _. tt),
    )))
session_rows x f (establish id timestamp keepalive next expected credentials) =
    let P = Moves x f (said (establish id timestamp keepalive next expected credentials)) in
    choosing P (awaits_client x f) (serves_client x f) (establish_rows x f id timestamp keepalive next expected credentials) (established_again_rows x f id timestamp) (
      λ _. staying x f _ refl refl,
      λ _. (
        λ _. staying x f _ refl refl,
        λ _. (
          λ _. staying x f _ refl refl,
          λ _. announcing x f f 4 next (acknowledges x timestamp keepalive expected) refl (acknowledging x f next timestamp keepalive expected),
        ),
      ),
    )
    (λ _. staying x f _ refl refl, λ _. (λ _. staying x f _ refl refl, λ _. tt))
session_rows x f (establishment_ack id timestamp keepalive next expected) =
    let p = said (establishment_ack id timestamp keepalive next expected) in
    in_session x f p 5 id _ (all_within (Moves x f p) (is_establishing f.connection.phase) (establishment_ack_rows x f keepalive next expected) (λ _.
    announcing x f f 5 next (reached x keepalive expected) refl
    (by_reaching (Moves x f p) x keepalive expected (announced x f next) (λ t same _ _. reaching_on x f next (min 60000 (max 100 keepalive)) expected t same))))
session_rows x f (establishment_reject id timestamp code reason) =
    let p = said (establishment_reject id timestamp code reason) in
    in_session x f p 6 id _ (all_within (Moves x f p) (is_establishing f.connection.phase) (establishment_reject_rows x f code) (λ _. (
      λ _. passing x f (in_phase f phases.Negotiating) acts.Nothing (opening_negotiate x ∷ []) refl refl refl,
      λ _. (λ _. rejecting x f 6 code, λ _. tt),
    )))
session_rows x f (sequence next) =
    let p = said (sequence next) in
    let g : Facts = requesting f (request_is.after_sequence f.connection.requester) in
    all_within (Moves x f p) (is_established f.connection.phase) (sequence_rows x f next) (λ now. (
      λ _. bad x f (request_is.sequence_fault f.connection.requester),
      λ _. announcing x f g 7 (Some next) (sequence_follows x g next) refl (following x f g next (announced x g (Some next)) refl (unmoved x g (Some next)) (λ past. (now, past))),
    ))
session_rows x f unsequenced_heartbeat = (λ _. passing x f f acts.Nothing [] refl refl refl, λ _. tt)
session_rows x f (retransmit_request id timestamp first count) =
    all_within (Moves x f (said (retransmit_request id timestamp first count))) (is_established f.connection.phase) (retransmit_request_rows x f id timestamp first count) (λ _. (
      λ _. ending x f f 4 (endings.Violation (NotInPhase 9 f.connection.phase)) refl (λ _ _ e. absurd cc),
      λ _. (λ _. requested x f id timestamp (judged (is_own x id) (is_recoverable x.config.own_flow) first count f.recorded.sent), λ _. tt),
    ))
session_rows x f (retransmission id next timestamp count) =
    let p = said (retransmission id next timestamp count) in
    in_session x f p 10 id _ (all_within (Moves x f p) (is_established f.connection.phase) (retransmission_rows x f next count) (λ _. (
      λ _. bad x f (request_is.start_fault (request_is.outstanding f.connection.requester) next count),
      λ _. (λ _. passing x f (restarted f next count) acts.Nothing [] refl refl refl, λ _. tt),
    )))
session_rows x f (retransmit_reject id timestamp code reason) =
    let p = said (retransmit_reject id timestamp code reason) in
    in_session x f p 11 id _ (all_within (Moves x f p) (is_established f.connection.phase) (retransmit_reject_rows x f) (λ _. (
      λ _. ending x f f 2 (endings.Violation (BadRetransmission (first_asked (request_is.outstanding f.connection.requester)) 0)) refl (λ _ _ e. absurd cc),
      λ _. tt,
    )))
session_rows x f (applied first count) = (λ _. passing x f f acts.Nothing [] refl refl refl, λ _. tt)
session_rows x f (not_applied first count) = (λ _. passing x f f (acts.Told first count) [] refl refl refl, λ _. (λ _. passing x f f acts.Nothing [] refl refl refl, λ _. tt))
session_rows x f (finished_sending id last) =
    let p = said (finished_sending id last) in
    in_session x f p 14 id _ (all_within (Moves x f p) (is_established f.connection.phase) (finished_sending_rows x f last) (λ now. (
      λ _. refusing x f f (finish_fault x f last) refl (λ l found e. (now, finish_late x f last l found e)),
      λ _. (λ _. finishing x f id last, λ _. tt),
    )))
session_rows x f (finished_receiving id) =
    let p = said (finished_receiving id) in
    in_session x f p 15 id _ (all_within (Moves x f p) (is_established f.connection.phase) (finished_receiving_rows x f) (λ _. (
      λ _. let one = at_most_one f.connection.own_finish in going x f (own_finishing f own.Exchanged) acts.Nothing [] (omega arith) (omega (arith, one)) refl (λ n l. inl l) refl,
      λ _. tt,
    )))
session_rows x f (terminate id code reason) =
    in_session x f (said (terminate id code reason)) 16 id (row true (ends x f 1 (endings.PeerTerminated code)) ∷ []) (λ _. ending x f f 1 (endings.PeerTerminated code) refl (λ _ _ e. absurd cc), λ _. tt)

-- of each reply to a message that may be under way
pub moves : (x : Around) (f : Facts) (p : Piece) → Moves x f p (reply_of x f (incoming_of p))
moves x f p =
    by_row (Moves x f p) (is_closing f.connection.phase && not (terminates x (incoming_of p))) (ignores f) (answer_of x f (incoming_of p))
    (λ _. ignoring x f f refl)
    (λ _. all_rows (Moves x f p) (not_in_phase x f (template_of (incoming_of p))) (rows_of x f (incoming_of p))
    (ending x f f 2 (endings.Violation (NotInPhase (template_of (incoming_of p)) f.connection.phase)) refl (λ _ _ e. absurd cc)) (by_piece p))
  where
    by_piece : (q : Piece) → AllRows (Moves x f q) (rows_of x f (incoming_of q))
    by_piece (said m) = session_rows x f m
    by_piece (entry payload) = message_rows x f payload

pub counts : (x : Around) (f : Facts) (p : Piece) → Counts f (sendings p) (answers p) (reply_of x f (incoming_of p))
counts x f p = (moves x f p).counts
