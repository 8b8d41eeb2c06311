-- What a reply writes is legal, row by row.
use Rattle.std.proofs.Common.{◌≡◌, ◌≤◌, ◌<◌, ◌+◌, ◌-◌, ◌*◌, ◌^◌, ℕ, min, max, nat_lt, Bool, true, false, ◌&&◌, ◌||◌, ◌==◌, not, if◌then◌else◌, List, [], ◌∷◌, ◌++◌, length, Option, Some, None, IfSome, refl, sym, ap, subst, ◌∙◌, arith}
use Rattle.std.specs.Prelude.{is_some, is_none, unwrap_or, Ok, Err}
use Rattle.std.specs.List.{AllByRecursion}
use Rattle.std.proofs.Math.Nat.{min-le_left}
use Rattle.std.proofs.lemmas.Bool.{ltb-true}
use Rattle.session_model.proofs.Lists.{all_append}
use Rattle.fixp_msgs.specs.Canonical.{IsLegal, FitsField}
use Rattle.fixp_msgs.specs.Flow.{flow_code}
use Rattle.fixp_msgs.specs.declared.messages.Expected.{Expected}
use Rattle.fixp_msgs.specs.declared.messages.Expected.TheVariants.{Absent, Null, Number}
use Rattle.fixp_msgs.specs.Message.{Message, negotiate, negotiation_response, negotiation_reject, establish, establishment_ack, establishment_reject, sequence, unsequenced_heartbeat, retransmit_request, retransmission, retransmit_reject, applied, not_applied, finished_sending, finished_receiving, terminate}
use Rattle.fixp_msgs.specs.Table.{Field, null}
use Rattle.fixp_msgs.specs.declared.flow.Flow.{Flow}
use Rattle.fixp_msgs.specs.declared.flow.Flow.TheVariants as flows
use Rattle.fixp_msgs.specs.declared.numbering.Range.{Range}
use Rattle.flow_recover.specs.declared.numbers.Seen.{Seen}
use Rattle.flow_recover.specs.declared.numbers.Seen.TheVariants.{Deliver, Hold, Gap, Repeat}
use Rattle.flow_recover.specs.Receiving as receiver_is
use Rattle.flow_retrans.specs.declared.requester.BadStart.{BadStart}
use Rattle.flow_retrans.specs.declared.judging.RetransmitCode.{RetransmitCode}
use Rattle.flow_retrans.specs.declared.judging.RetransmitCode.TheVariants as codes
use Rattle.flow_retrans.specs.Judging.{request_limit, judged, is_outside, code_of}
use Rattle.flow_retrans.specs.Requests as request_is
use Rattle.fixp_shake.specs.declared.phase.Phase.TheVariants as phases
use Rattle.fixp_shake.specs.declared.violation.Violation.{Violation}
use Rattle.fixp_shake.specs.Flows.{is_recoverable, is_sequenced}
use Rattle.fixp_shake.specs.Phases.{is_negotiating, is_establishing, is_established, is_closing}
use Rattle.fixp_replies.specs.declared.act.Act.{Act}
use Rattle.fixp_replies.specs.declared.act.Act.TheVariants as acts
use Rattle.fixp_replies.specs.declared.act.Ending.{Ending}
use Rattle.fixp_replies.specs.declared.act.Ending.TheVariants as endings
use Rattle.fixp_replies.specs.declared.facts.EndState.{EndState}
use Rattle.fixp_replies.specs.declared.facts.Facts.{Facts}
use Rattle.fixp_replies.specs.declared.facts.PeerFinish.TheVariants as peer
use Rattle.fixp_replies.specs.declared.facts.OwnFinish.TheVariants as own
use Rattle.fixp_replies.specs.Incoming.{Incoming, application, session, wrong_order, too_short, unknown}
use Rattle.fixp_replies.specs.Facts.{Around, is_own, in_phase, requesting, serves, negotiated as as_negotiated, awaiting, gap_of, gap_to_ask, holding_too, having_asked, announced_number}
use Rattle.fixp_replies.specs.Outcomes.{Outcome, row, goes_on, accepts, ignores, ends, breaks, not_in_phase, request_for, skip_of, told_skip, opening_negotiate, opening_establish}
use Rattle.fixp_replies.specs.Announcing.{Announced, announced, refuses}
use Rattle.fixp_replies.specs.Handshake.{awaits_client, serves_client, rejects_negotiate, rejects_establish, established, acknowledges, establish_rows, established_again_rows, establish_rows_in, shaken, reached}
use Rattle.fixp_replies.specs.Expecting.{is_newer, is_present, number_in, told_next, answers_next, takes, returned, told_return, softened}
use Rattle.fixp_replies.specs.Flowing.{bad_retransmission, counted, taken_as, finish_act, peer_finished, restarted, answers_finish, is_filled, is_past_finish, sequence_taken, sequence_follows, finished_last, finish_fault}
use Rattle.fixp_replies.specs.Serving.{request_answered, own_finishing}
use Rattle.fixp_replies.specs.Replies.{template_of, rows_of, answer_of, terminates, reply_of}
use Rattle.fixp_machine.specs.Sound.{Sound, Advances, WithinMost, KeepsSound, HeldFits}
use Rattle.fixp_machine.proofs.Rows.{AllRows, by_row, all_rows, all_within, announced_rows, own_rows}
use Rattle.fixp_machine.proofs.Keeping.{sound_goes_on}
use Rattle.fixp_machine.proofs.Expecting.{taken}
use Rattle.connection_laws.specs.Ranges.{FitsMessage, FitsIncoming}
use Rattle.connection_laws.proofs.Replied.{untouched}

abbrev pub AllLegal : List Message → Type 0
AllLegal ms = AllByRecursion IsLegal ms

-- what stands around a reply is in range, and so are the facts that it depends on
pub record Ready (x : Around) (f : Facts) : Type 0 where
  pub session : length x.config.session ≡ 16
  pub keepalive : x.config.keepalive < 2 ^ 32
  pub credentials : length x.config.credentials ≤ 2048
  pub most : x.most + 1 < 2 ^ 32
  pub moment : x.moment < 2 ^ 44
  pub next : f.recorded.inbox_next ≤ x.most + 1
  pub sent : f.recorded.sent < 2 ^ 40

-- each message that a reply may write
pub legal_terminate : (id : List ℕ) (code : ℕ) → length id ≡ 16 → code < 2 ^ 8 → IsLegal (terminate id code [])
legal_terminate id code own small = record { fields = (own, (small, tt)); datum = omega arith }

pub fits_announced : (x : Around) (f : Facts) → f.recorded.sent < 2 ^ 40 → FitsField (Field.optional (announced_number x f))
fits_announced x f small = by_flow (is_sequenced x.config.own_flow)
  where
    by_flow : (b : Bool) → IfSome (if b then Some (f.recorded.sent + 1) else None) (λ k. k < null)
    by_flow true = omega (arith, small)
    by_flow false = tt

-- the number that it tells to expect
fits_told : (x : Around) (f : Facts) → f.recorded.inbox_next ≤ x.most + 1 → x.most + 1 < 2 ^ 32 → FitsField (Field.expected (told_next x f))
fits_told x f low small = by_tests (is_newer x.config) (is_recoverable x.config.peer_flow)
  where
    by_tests : (a b : Bool) → FitsField (Field.expected (if not a then Absent else if b then Number f.recorded.inbox_next else Null))
    by_tests false b = tt
    by_tests true true = omega (arith, low, small)
    by_tests true false = tt

fits_answer : (x : Around) (e : Expected) (f : Facts) → f.recorded.inbox_next ≤ x.most + 1 → x.most + 1 < 2 ^ 32 → FitsField (Field.expected (answers_next x e f))
fits_answer x e f low small = by_test (is_present e)
  where
    by_test : (b : Bool) → FitsField (Field.expected (if b then told_next x f else Absent))
    by_test true = fits_told x f low small
    by_test false = tt

fits_flow : (flow : Flow) → flow_code flow < 2 ^ 8
fits_flow flows.Recoverable = omega arith
fits_flow flows.Idempotent = omega arith
fits_flow flows.Unsequenced = omega arith
fits_flow flows.None = omega arith

fits_moment : (x : Around) (f : Facts) → Ready x f → x.moment * 1000000 < 2 ^ 64
fits_moment x f r = omega (arith, r.moment)

pub legal_negotiate : (x : Around) (f : Facts) → Ready x f → IsLegal (opening_negotiate x)
legal_negotiate x f r = record { fields = (r.session, (fits_moment x f r, (fits_flow x.config.own_flow, tt))); datum = r.credentials }

pub legal_establish : (x : Around) (f : Facts) → Ready x f → IsLegal (opening_establish x f)
legal_establish x f r = record { fields = (r.session, (fits_moment x f r, (r.keepalive, (fits_announced x f r.sent, (fits_told x f r.next r.most, tt))))); datum = r.credentials }

legal_skip : (x : Around) (f : Facts) (s : Option Range) → Ready x f → WithinMost x.most (skip_of s) → AllLegal (told_skip s)
legal_skip x f None r within = tt
legal_skip x f (Some s) r within = (record { fields = (omega (arith, within, r.most), (omega (arith, within, r.most), tt)); datum = tt }, tt)

-- where the act of an outcome is done, the inbox awaits a number in range still
pub advanced : (act : Act) (most before after : ℕ) → before ≤ most + 1 → Advances act before after → WithinMost most act → after ≤ most + 1
advanced acts.Nothing most before after low a w = omega (arith, low, a)
advanced (acts.Apply number) most before after low a w = omega (arith, a.1, w)
advanced (acts.Skip from count) most before after low a w = omega (arith, a.1, w)
advanced acts.Negotiated most before after low a w = omega (arith, low, a)
advanced (acts.PeerFinished last) most before after low a w = omega (arith, low, a)
advanced (acts.Told from count) most before after low a w = omega (arith, low, a)
advanced acts.Ended most before after low a w = omega (arith, low, a)

-- a gap that is asked for begins at the number that the inbox awaits
asked_receiver : (f : Facts) (g : Option Range) → (having_asked f g).connection.receiver ≡ f.connection.receiver
asked_receiver f None = refl
asked_receiver f (Some g) = refl

few_asked : (c : ℕ) → min request_limit c < 2 ^ 32
few_asked c = omega (arith, min-le_left 256 c)

legal_request : (x : Around) (f next : Facts) → Ready x f → Sound x.config (having_asked next (gap_to_ask x next)) → (having_asked next (gap_to_ask x next)).recorded.inbox_next ≤ x.most + 1
    → AllLegal (request_for x (gap_to_ask x next))
legal_request x f next r s bound =
    by_tests next.connection.soft (is_some (request_is.outstanding next.connection.requester)) (is_recoverable x.config.peer_flow) (nat_lt v.next (receiver_is.gap_end x.held v.live)) refl
  where
    v : receiver_is.Receiving
    v = next.connection.receiver

    asked : Facts
    asked = having_asked next (gap_to_ask x next)

    same : asked.connection.receiver ≡ v
    same = asked_receiver next (gap_to_ask x next)

    low : is_recoverable x.config.peer_flow ≡ true → v.next ≤ x.most + 1
    low rec = omega (arith, ap (λ (w : receiver_is.Receiving). w.next) (sym same) ∙ s.waits rec, bound)

    by_tests : (a b rec c : Bool) → is_recoverable x.config.peer_flow ≡ rec → AllLegal (request_for x (if a || b then None
        else if rec then (if c then Some (record { from = v.next; count = receiver_is.gap_end x.held v.live - v.next }) else None) else None))
    by_tests false false true true e = (record { fields = (r.session, (fits_moment x f r, (omega (arith, low e, r.most), (few_asked (receiver_is.gap_end x.held v.live - v.next), tt)))); datum = tt }, tt)
    by_tests false false true false e = tt
    by_tests false false false c e = tt
    by_tests false true rec c e = tt
    by_tests true b rec c e = tt

-- what an outcome writes is legal, where the law of sound facts holds of it
abbrev Legal : Around → Facts → Outcome → Type 0
Legal x f o = KeepsSound x.config x.most f o → AllLegal o.written

goes : (x : Around) (f : Facts) (act : Act) (written : List Message) (next : Facts) → Ready x f → (KeepsSound x.config x.most f (goes_on x act written next) → AllLegal written) → Legal x f (goes_on x act written next)
goes x f act written next r legal k =
    all_append IsLegal written (request_for x (gap_to_ask x next)) (legal k)
    (legal_request x f next r k.next (advanced act x.most f.recorded.inbox_next (having_asked next (gap_to_ask x next)).recorded.inbox_next r.next k.advances k.within))

quiet : (x : Around) (f : Facts) (act : Act) (next : Facts) → Ready x f → Legal x f (goes_on x act [] next)
quiet x f act next r = goes x f act [] next r (λ _. tt)

skipping : (x : Around) (f : Facts) (s : Option Range) (next : Facts) → Ready x f → Legal x f (goes_on x (skip_of s) (told_skip s) next)
skipping x f s next r = goes x f (skip_of s) (told_skip s) next r (λ k. legal_skip x f s r k.within)

ending : (x : Around) (f g : Facts) (code : ℕ) (e : Ending) → Ready x f → code < 2 ^ 8 → Legal x f (ends x g code e)
ending x f g code e r small k = (legal_terminate x.config.session code r.session small, tt)

breaking : (x : Around) (f g : Facts) (v : Violation) → Ready x f → Legal x f (breaks x g v)
breaking x f g v r = ending x f g 2 _ r (omega arith)

refusing : (x : Around) (f g : Facts) → Ready x f → (v : Option Violation) → Legal x f (refuses x g v)
refusing x f g r None = λ k. tt
refusing x f g r (Some v) = breaking x f g v r

bad : (x : Around) (f g : Facts) (b : Option BadStart) → Ready x f → Legal x f (bad_retransmission x g b)
bad x f g None r = λ k. tt
bad x f g (Some b) r = breaking x f g _ r

taking : (x : Around) (f g : Facts) (s : Seen) → Ready x f → Legal x f (taken_as x g s)
taking x f g (Deliver n) r = quiet x f (acts.Apply n) (awaiting g (n + 1)) r
taking x f g (Hold n) r = λ k. quiet (holding_too x n) f acts.Nothing g
    (record { session = r.session; keepalive = r.keepalive; credentials = r.credentials; most = r.most; moment = r.moment; next = r.next; sent = r.sent })
    (record { next = k.next; sent = k.sent; advances = k.advances; within = k.within; writes = k.writes })
taking x f g (Gap n) r = quiet x f acts.Nothing g r
taking x f g (Repeat n) r = quiet x f acts.Nothing g r

message_rows : (x : Around) (f : Facts) (p : List ℕ) → Ready x f → AllRows (Legal x f) (rows_of x f (application p))
message_rows x f p r = all_within (Legal x f) (is_established f.connection.phase) _ (λ _. (
  λ _. breaking x f f _ r,
  λ _. (
    λ _. breaking x f f _ r,
    λ _. (
      λ _. breaking x f f _ r,
      λ _. (λ _. quiet x f (acts.Apply f.recorded.inbox_next) (awaiting f (f.recorded.inbox_next + 1)) r, λ _. (λ _. bad x f f (request_is.message_fault f.connection.requester) r, λ _. (λ _. taking x f (counted f) (receiver_is.seen f.connection.receiver) r, λ _. tt))),
    ),
  ),
))

-- rejects carry what the message named
rejecting_negotiate : (x : Around) (f : Facts) (id : List ℕ) (timestamp code : ℕ) → length id ≡ 16 → timestamp < 2 ^ 64 → code < 2 ^ 8 → Legal x f (rejects_negotiate f id timestamp code)
rejecting_negotiate x f id timestamp code own time small k = (record { fields = (own, (time, (small, tt))); datum = omega arith }, tt)

rejecting_establish : (x : Around) (f : Facts) (id : List ℕ) (timestamp code : ℕ) → length id ≡ 16 → timestamp < 2 ^ 64 → code < 2 ^ 8 → Legal x f (rejects_establish f id timestamp code)
rejecting_establish x f id timestamp code own time small k = (record { fields = (own, (time, (small, tt))); datum = omega arith }, tt)

acknowledging : (x : Around) (f : Facts) (timestamp keepalive : ℕ) (e : Expected) (a : Announced) → Ready x f → timestamp < 2 ^ 64 → Legal x f (acknowledges x timestamp keepalive e a)
acknowledging x f timestamp keepalive e a r time =
    goes x f (skip_of a.skipped) (establishment_ack x.config.session timestamp x.config.keepalive (announced_number x g) (answers_next x e g) ∷ told_skip a.skipped) after r (λ k. (
      record { fields = (r.session, (time, (r.keepalive, (fits_announced x g (small k), (fits_answer x e g (low k) r.most, tt))))); datum = tt },
      legal_skip x f a.skipped r k.within,
    ))
  where
    g : Facts
    g = returned x a.facts e

    after : Facts
    after = established (softened x e g) keepalive

    asked_recorded : (q : Option Range) → (having_asked after q).recorded ≡ g.recorded
    asked_recorded None = refl
    asked_recorded (Some q) = refl

    small : KeepsSound x.config x.most f (acknowledges x timestamp keepalive e a) → g.recorded.sent < 2 ^ 40
    small k = subst (λ (s : EndState). s.sent < 2 ^ 40) (asked_recorded (gap_to_ask x after)) k.next.sent

    low : KeepsSound x.config x.most f (acknowledges x timestamp keepalive e a) → g.recorded.inbox_next ≤ x.most + 1
    low k = subst (λ (s : EndState). s.inbox_next ≤ x.most + 1) (asked_recorded (gap_to_ask x after))
        (advanced (skip_of a.skipped) x.most f.recorded.inbox_next (having_asked after (gap_to_ask x after)).recorded.inbox_next r.next k.advances k.within)

-- Establish was acknowledged: the number that the peer expects is one past what was sent at most
reaching : (x : Around) (f : Facts) (keepalive : ℕ) (e : Expected) (a : Announced) → Ready x f → a.facts.recorded.sent ≡ f.recorded.sent → Legal x f (reached x keepalive e a)
reaching x f keepalive e a r same =
    goes x f (skip_of a.skipped) (told_skip a.skipped ++ told_return x a.facts e) (established (returned x a.facts e) (min 60000 (max 100 keepalive))) r (λ k.
    all_append IsLegal (told_skip a.skipped) (told_return x a.facts e) (legal_skip x f a.skipped r k.within) (by_tests (takes x a.facts e) (number_in e == a.facts.recorded.sent + 1) refl))
  where
    by_tests : (t c : Bool) → takes x a.facts e ≡ t → AllLegal (if t && not c then sequence (number_in e) ∷ [] else [])
    by_tests true false is = (record { fields = (omega (arith, (taken x a.facts e is).high, same, r.sent), tt); datum = tt }, tt)
    by_tests true true is = tt
    by_tests false c is = tt

establish_all : (x : Around) (f : Facts) (id : List ℕ) (timestamp keepalive : ℕ) (next : Option ℕ) (expected : Expected) (credentials : List ℕ) → Ready x f → length id ≡ 16 → timestamp < 2 ^ 64
    → AllRows (Legal x f) (establish_rows_in x f id timestamp keepalive next expected credentials)
establish_all x f id timestamp keepalive next expected credentials r own time = by_place (awaits_client x f) (serves_client x f)
  where
    by_place : (a b : Bool)
        → AllRows (Legal x f) (if a then establish_rows x f id timestamp keepalive next expected credentials else if b then established_again_rows x f id timestamp else [])
    by_place true b = (
      λ _. rejecting_establish x f id timestamp 2 own time (omega arith),
      λ _. (
        λ _. rejecting_establish x f id timestamp 5 own time (omega arith),
        λ _. (
          λ _. rejecting_establish x f id timestamp 6 own time (omega arith),
          λ _. announced_rows (Legal x f) x f 4 next (acknowledges x timestamp keepalive expected) (refusing x f f r) (λ _. acknowledging x f timestamp keepalive expected (announced x f next) r time),
        ),
      ),
    )
    by_place false true = (λ _. rejecting_establish x f id timestamp 2 own time (omega arith), λ _. (λ _. rejecting_establish x f id timestamp 3 own time (omega arith), λ _. tt))
    by_place false false = tt

shaking : (x : Around) (f : Facts) → Ready x f → Legal x f (shaken x f)
shaking x f r = goes x f (if f.recorded.negotiated then acts.Nothing else acts.Negotiated) (opening_establish x f ∷ []) (in_phase (as_negotiated f) phases.Establishing) r (λ _. (legal_establish x f r, tt))

answering : (x : Around) (f g : Facts) (last : ℕ) → Ready x f → Legal x f (answers_finish x g last)
answering x f g last r = goes x f (finish_act g.recorded.peer_last last) (finished_receiving x.config.session ∷ []) (peer_finished g (peer.Exchanged last) (Some (unwrap_or g.recorded.peer_last last))) r (λ _. (record { fields = (r.session, tt); datum = tt }, tt))

following : (x : Around) (f ended : Facts) (next : ℕ) (a : Announced) → Ready x f → Legal x f (sequence_follows x ended next a)
following x f ended next a r =
    by_row (Legal x f) (is_past_finish x ended next) (breaks x ended _) (sequence_taken x a) (λ _. breaking x f ended _ r)
    (λ _. by_row (Legal x f) (is_filled x a.facts) (answers_finish x a.facts _) (goes_on x (skip_of a.skipped) (told_skip a.skipped) a.facts)
    (λ _. answering x f a.facts _ r) (λ _. skipping x f a.skipped a.facts r))

-- a range is sent again as it was asked for
answered : (x : Around) (f : Facts) (id : List ℕ) (timestamp first count : ℕ) (own recoverable : Bool) → Ready x f → length id ≡ 16 → timestamp < 2 ^ 64 → first < 2 ^ 64 → count < 2 ^ 32
    → Legal x f (request_answered x f id timestamp (judged own recoverable first count f.recorded.sent))
answered x f id timestamp first count own recoverable r sixteen time low few =
    by_tests own (is_outside recoverable first count f.recorded.sent) (nat_lt request_limit count)
  where
    rejected : (code : RetransmitCode) → code_of code < 2 ^ 8 → Legal x f (request_answered x f id timestamp (Err code))
    rejected code small k = (record { fields = (sixteen, (time, (small, tt))); datum = omega arith }, tt)

    by_tests : (a b c : Bool)
        → Legal x f (request_answered x f id timestamp (if not a then Err codes.InvalidSession else if b then Err codes.OutOfRange else if c then Err codes.RequestLimitExceeded else Ok (record { from = first; count = count })))
    by_tests false b c = rejected codes.InvalidSession (omega arith)
    by_tests true true c = rejected codes.OutOfRange (omega arith)
    by_tests true false true = rejected codes.RequestLimitExceeded (omega arith)
    by_tests true false false =
        goes x f acts.Nothing (retransmission x.config.session first timestamp count ∷ []) (serves f (Some (record { from = first; count = count }))) r (λ _. (record { fields = (r.session, (low, (time, (few, tt)))); datum = tt }, tt))

session_rows : (x : Around) (f : Facts) (m : Message) → Ready x f → FitsMessage m → AllRows (Legal x f) (rows_of x f (session m))
session_rows x f (negotiate id timestamp flow credentials) r m = all_within (Legal x f) (awaits_client x f) _ (λ _. (
  λ _. rejecting_negotiate x f id timestamp 1 m.0 m.1.0 (omega arith),
  λ _. (
    λ _. rejecting_negotiate x f id timestamp 2 m.0 m.1.0 (omega arith),
    λ _. (
      λ _. rejecting_negotiate x f id timestamp 3 m.0 m.1.0 (omega arith),
      λ _. (
        λ _. rejecting_negotiate x f id timestamp 4 m.0 m.1.0 (omega arith),
        λ _. (
          λ _. goes x f acts.Negotiated (negotiation_response x.config.session timestamp (flow_code x.config.own_flow) [] ∷ []) (as_negotiated f) r
              (λ _. (record { fields = (r.session, (m.1.0, (fits_flow x.config.own_flow, tt))); datum = omega arith }, tt)),
          λ _. tt,
        ),
      ),
    ),
  ),
))
session_rows x f (negotiation_response id timestamp flow credentials) r m =
    own_rows (Legal x f) x f 2 id _ (λ e. ending x f f 2 e r (omega arith)) (all_within (Legal x f) (is_negotiating f.connection.phase) _ (λ _. (λ _. breaking x f f _ r, λ _. (λ _. shaking x f r, λ _. tt))))
session_rows x f (negotiation_reject id timestamp code reason) r m =
    own_rows (Legal x f) x f 3 id _ (λ e. ending x f f 2 e r (omega arith)) (all_within (Legal x f) (is_negotiating f.connection.phase) _ (λ _. (λ _. shaking x f r, λ _. (λ _ _. tt, λ _. tt))))
session_rows x f (establish id timestamp keepalive next expected credentials) r m = establish_all x f id timestamp keepalive next expected credentials r m.0 m.1.0
session_rows x f (establishment_ack id timestamp keepalive next expected) r m =
    own_rows (Legal x f) x f 5 id _ (λ e. ending x f f 2 e r (omega arith)) (all_within (Legal x f) (is_establishing f.connection.phase) _ (λ _.
    announced_rows (Legal x f) x f 5 next (reached x keepalive expected) (refusing x f f r)
    (λ _. reaching x f keepalive expected (announced x f next) r (untouched x f next).sent)))
session_rows x f (establishment_reject id timestamp code reason) r m =
    own_rows (Legal x f) x f 6 id _ (λ e. ending x f f 2 e r (omega arith)) (all_within (Legal x f) (is_establishing f.connection.phase) _ (λ _. (
      λ _. goes x f acts.Nothing (opening_negotiate x ∷ []) (in_phase f phases.Negotiating) r (λ _. (legal_negotiate x f r, tt)),
      λ _. (λ _ _. tt, λ _. tt),
    )))
session_rows x f (sequence next) r m =
    let ended : Facts = requesting f (request_is.after_sequence f.connection.requester) in
    all_within (Legal x f) (is_established f.connection.phase) _ (λ _. (
      λ _. bad x f f (request_is.sequence_fault f.connection.requester) r,
      λ _. announced_rows (Legal x f) x ended 7 (Some next) (sequence_follows x ended next) (refusing x f ended r) (λ _. following x f ended next (announced x ended (Some next)) r),
    ))
session_rows x f unsequenced_heartbeat r m = (λ _. quiet x f acts.Nothing f r, λ _. tt)
session_rows x f (retransmit_request id timestamp first count) r m = all_within (Legal x f) (is_established f.connection.phase) _ (λ _. (
  λ _. ending x f f 4 _ r (omega arith),
  λ _. (λ _. answered x f id timestamp first count (is_own x id) (is_recoverable x.config.own_flow) r m.0 m.1.0 m.1.1.0 m.1.1.1.0, λ _. tt),
))
session_rows x f (retransmission id next timestamp count) r m =
    own_rows (Legal x f) x f 10 id _ (λ e. ending x f f 2 e r (omega arith)) (all_within (Legal x f) (is_established f.connection.phase) _ (λ _. (λ _. bad x f f (request_is.start_fault (request_is.outstanding f.connection.requester) next count) r, λ _. (λ _. quiet x f acts.Nothing (restarted f next count) r, λ _. tt))))
session_rows x f (retransmit_reject id timestamp code reason) r m =
    own_rows (Legal x f) x f 11 id _ (λ e. ending x f f 2 e r (omega arith)) (all_within (Legal x f) (is_established f.connection.phase) _ (λ _. (λ _. breaking x f f _ r, λ _. tt)))
session_rows x f (applied first count) r m = (λ _. quiet x f acts.Nothing f r, λ _. tt)
session_rows x f (not_applied first count) r m = (λ _. quiet x f (acts.Told first count) f r, λ _. (λ _. quiet x f acts.Nothing f r, λ _. tt))
session_rows x f (finished_sending id last) r m =
    own_rows (Legal x f) x f 14 id _ (λ e. ending x f f 2 e r (omega arith)) (all_within (Legal x f) (is_established f.connection.phase) _ (λ _. (
      λ _. refusing x f f r (finish_fault x f last),
      λ _. (
        λ _. by_row (Legal x f) (is_some (gap_of x f)) (accepts x [] (peer_finished f (peer.Read (finished_last x last)) f.recorded.peer_last)) (answers_finish x f (finished_last x last))
            (λ _. quiet x f acts.Nothing (peer_finished f (peer.Read (finished_last x last)) f.recorded.peer_last) r) (λ _. answering x f f (finished_last x last) r),
        λ _. tt,
      ),
    )))
session_rows x f (finished_receiving id) r m =
    own_rows (Legal x f) x f 15 id _ (λ e. ending x f f 2 e r (omega arith)) (all_within (Legal x f) (is_established f.connection.phase) _ (λ _. (λ _. quiet x f acts.Nothing (own_finishing f own.Exchanged) r, λ _. tt)))
session_rows x f (terminate id code reason) r m =
    own_rows (Legal x f) x f 16 id (row true (ends x f 1 (endings.PeerTerminated code)) ∷ []) (λ e. ending x f f 2 e r (omega arith)) (λ _. ending x f f 1 (endings.PeerTerminated code) r (omega arith), λ _. tt)

each_row : (x : Around) (f : Facts) (i : Incoming) → Ready x f → FitsIncoming i → AllRows (Legal x f) (rows_of x f i)
each_row x f (application p) r fits = message_rows x f p r
each_row x f (session m) r fits = session_rows x f m r fits
each_row x f wrong_order r fits = (λ _. breaking x f f _ r, λ _. tt)
each_row x f too_short r fits = (λ _. breaking x f f _ r, λ _. tt)
each_row x f (unknown template) r fits = (λ _. breaking x f f _ r, λ _. tt)

pub legal_reply : (x : Around) (f : Facts) (i : Incoming) → Ready x f → Sound x.config f → HeldFits x.held f → FitsIncoming i → AllLegal (reply_of x f i).written
legal_reply x f i r s held fits =
    by_row (Legal x f) (is_closing f.connection.phase && not (terminates x i)) (ignores f) (answer_of x f i)
    (λ _ _. tt)
    (λ _. all_rows (Legal x f) (not_in_phase x f (template_of i)) (rows_of x f i) (breaking x f f _ r) (each_row x f i r fits))
    (sound_goes_on x f i (omega (arith, r.most)) s held)
