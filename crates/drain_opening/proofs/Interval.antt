-- What a reply makes of the other end's interval once the handshake is done: it stays.
use Rattle.std.proofs.Common.{◌≡◌, ℕ, ◌+◌, ◌&&◌, not, Bool, true, false, if◌then◌else◌, List, [], ◌∷◌, Option, Some, None, refl, sym, ◌∙◌, true≢false}
use Rattle.std.specs.Prelude.{is_some, unwrap_or, Result, Ok, Err}
use Rattle.fixp_msgs.specs.declared.messages.Expected.{Expected}
use Rattle.fixp_msgs.specs.declared.numbering.Range.{Range}
use Rattle.fixp_msgs.specs.Message.{Message, negotiate, negotiation_response, negotiation_reject, establish, establishment_ack, establishment_reject, sequence, unsequenced_heartbeat, retransmit_request, retransmission, retransmit_reject, applied, not_applied, finished_sending, finished_receiving, terminate}
use Rattle.flow_recover.specs.declared.numbers.Seen.{Seen}
use Rattle.flow_recover.specs.declared.numbers.Seen.TheVariants.{Deliver, Hold, Gap, Repeat}
use Rattle.flow_recover.specs.Receiving as receiver_is
use Rattle.flow_retrans.specs.declared.requester.BadStart.{BadStart}
use Rattle.flow_retrans.specs.declared.judging.RetransmitCode.{RetransmitCode}
use Rattle.flow_retrans.specs.Judging.{judged}
use Rattle.flow_retrans.specs.Requests as request_is
use Rattle.fixp_shake.specs.declared.violation.Violation.{Violation}
use Rattle.fixp_shake.specs.declared.violation.Violation.TheVariants.{AfterFinish}
use Rattle.fixp_shake.specs.Flows.{is_recoverable, is_idempotent}
use Rattle.fixp_shake.specs.Phases.{is_idle, is_negotiating, is_establishing, is_established, is_closing, is_shaken}
use Rattle.fixp_replies.specs.declared.act.Act.{Act}
use Rattle.fixp_replies.specs.declared.act.Act.TheVariants as acts
use Rattle.fixp_replies.specs.declared.act.Ending.TheVariants as endings
use Rattle.fixp_replies.specs.declared.facts.Facts.{Facts}
use Rattle.fixp_replies.specs.declared.facts.OwnFinish.TheVariants as own
use Rattle.fixp_replies.specs.declared.facts.PeerFinish.TheVariants as peer
use Rattle.fixp_replies.specs.Incoming.{Incoming, application, session, wrong_order, too_short, unknown}
use Rattle.fixp_replies.specs.Facts.{Around, is_initiator, is_own, receiving, requesting, firm, serves, awaiting, awaits_gap, gap_of, gap_to_ask, having_asked, holding_too, peer_last}
use Rattle.fixp_replies.specs.Outcomes.{Outcome, Row, row, goes_on, accepts, ignores, ends, breaks, not_in_phase, skip_of, told_skip}
use Rattle.fixp_replies.specs.Announcing.{Announced, jumped_over, announced, announcement_fault, refuses}
use Rattle.fixp_replies.specs.Handshake.{awaits_client, serves_client, establish_rows, established_again_rows, establish_rows_in}
use Rattle.fixp_replies.specs.Flowing.{bad_retransmission, counted, taken_as, finish_act, peer_finished, answers_finish, is_filled, is_past_finish, sequence_taken, sequence_follows, restarted, finished_last, finish_fault, finished}
use Rattle.fixp_replies.specs.Serving.{request_answered, own_finishing}
use Rattle.fixp_replies.specs.Replies.{reply_of, template_of, rows_of, answer_of, terminates}
use Rattle.fixp_machine.proofs.Rows.{AllRows, by_row, all_rows, all_within, own_rows}
use Rattle.fixp_machine.proofs.Tests.{not_negotiated, not_established, not_opened}

-- the interval is the same behind it
abbrev pub Same : Facts → Outcome → Type 0
Same f o = o.next.connection.peer_interval ≡ f.connection.peer_interval

pub asked_interval : (g : Facts) (r : Option Range) → (having_asked g r).connection.peer_interval ≡ g.connection.peer_interval
asked_interval g None = refl
asked_interval g (Some r) = refl

going : (x : Around) (f g : Facts) (act : Act) (ms : List Message) → g.connection.peer_interval ≡ f.connection.peer_interval → Same f (goes_on x act ms g)
going x f g act ms e = asked_interval g (gap_to_ask x g) ∙ e

bad : (x : Around) (f : Facts) (b : Option BadStart) → Same f (bad_retransmission x f b)
bad x f None = refl
bad x f (Some b) = refl

refusing : (x : Around) (f g : Facts) (v : Option Violation) → g.connection.peer_interval ≡ f.connection.peer_interval → Same f (refuses x g v)
refusing x f g None e = e
refusing x f g (Some v) e = e

abbrev chosen : Facts → ℕ → Bool → Bool → Announced
chosen f n recoverable idempotent =
    if recoverable then record { facts = firm (receiving f (receiver_is.announced f.connection.receiver n)); skipped = None }
    else if idempotent then record { facts = awaiting f n; skipped = jumped_over f.recorded.inbox_next n }
    else record { facts = f; skipped = None }

announced_interval : (x : Around) (f : Facts) (next : Option ℕ) → (announced x f next).facts.connection.peer_interval ≡ f.connection.peer_interval
announced_interval x f next = by_flow (is_recoverable x.config.peer_flow) (is_idempotent x.config.peer_flow)
  where
    by_flow : (r i : Bool) → (chosen f (unwrap_or next 0) r i).facts.connection.peer_interval ≡ f.connection.peer_interval
    by_flow true i = refl
    by_flow false true = refl
    by_flow false false = refl

taking : (x : Around) (f : Facts) (s : Seen) → Same f (taken_as x (counted f) s)
taking x f (Deliver n) = going x f (awaiting (counted f) (n + 1)) (acts.Apply n) [] refl
taking x f (Hold n) = going (holding_too x n) f (counted f) acts.Nothing [] refl
taking x f (Gap n) = going x f (counted f) acts.Nothing [] refl
taking x f (Repeat n) = going x f (counted f) acts.Nothing [] refl

answering : (x : Around) (f g : Facts) (last : ℕ) → g.connection.peer_interval ≡ f.connection.peer_interval → Same f (answers_finish x g last)
answering x f g last e = going x f (peer_finished g (peer.Exchanged last) (Some (unwrap_or g.recorded.peer_last last))) (finish_act g.recorded.peer_last last) (finished_receiving x.config.session ∷ []) e

following : (x : Around) (f g : Facts) (next : ℕ) (a : Announced) → g.connection.peer_interval ≡ f.connection.peer_interval → a.facts.connection.peer_interval ≡ f.connection.peer_interval
    → Same f (sequence_follows x g next a)
following x f g next a e k =
    by_row (Same f) (is_past_finish x g next) (breaks x g (AfterFinish (unwrap_or (peer_last g) 0) next)) (sequence_taken x a)
    (λ _. e)
    (λ _. by_row (Same f) (is_filled x a.facts) (answers_finish x a.facts (unwrap_or (awaits_gap a.facts.connection.peer_finish) 0)) (goes_on x (skip_of a.skipped) (told_skip a.skipped) a.facts)
    (λ _. answering x f a.facts _ k)
    (λ _. going x f a.facts (skip_of a.skipped) (told_skip a.skipped) k))

requested : (x : Around) (f : Facts) (id : List ℕ) (timestamp : ℕ) (r : Result Range RetransmitCode) → Same f (request_answered x f id timestamp r)
requested x f id timestamp (Ok range) = going x f (serves f (Some range)) acts.Nothing (retransmission x.config.session range.from timestamp range.count ∷ []) refl
requested x f id timestamp (Err code) = refl

finishing : (x : Around) (f : Facts) (last : ℕ) → Same f (finished x f last)
finishing x f last =
    by_row (Same f) (is_some (gap_of x f)) (accepts x [] (peer_finished f (peer.Read last) f.recorded.peer_last)) (answers_finish x f last)
    (λ _. going x f (peer_finished f (peer.Read last) f.recorded.peer_last) acts.Nothing [] refl)
    (λ _. answering x f f last refl)

-- an end whose handshake is done awaits no message of one
awaits_not : (x : Around) (f : Facts) → is_shaken f.connection.phase ≡ true → awaits_client x f ≡ true → ⊥
awaits_not x f done t = true≢false (sym done ∙ not_opened f.connection.phase (second (is_initiator x.config.role) (is_idle f.connection.phase) t))
  where
    second : (a b : Bool) → (not a && b) ≡ true → b ≡ true
    second false true e = refl
    second false false e = absurd (true≢false (sym e))
    second true b e = absurd (true≢false (sym e))

establish_all : (x : Around) (f : Facts) (id : List ℕ) (timestamp keepalive : ℕ) (next : Option ℕ) (expected : Expected) (credentials : List ℕ) → is_shaken f.connection.phase ≡ true
    → AllRows (Same f) (establish_rows_in x f id timestamp keepalive next expected credentials)
establish_all x f id timestamp keepalive next expected credentials done = by_place (awaits_client x f) (serves_client x f) refl
  where
    by_place : (p q : Bool) → awaits_client x f ≡ p → AllRows (Same f) (if p then establish_rows x f id timestamp keepalive next expected credentials else if q then established_again_rows x f id timestamp else [])
    by_place true q waits = absurd (awaits_not x f done waits)
    by_place false true waits = (λ _. refl, λ _. (λ _. refl, λ _. tt))
    by_place false false waits = tt

session_rows : (x : Around) (f : Facts) (m : Message) → is_shaken f.connection.phase ≡ true → AllRows (Same f) (rows_of x f (session m))
session_rows x f (negotiate id timestamp flow credentials) done = all_within (Same f) (awaits_client x f) _ (λ waits. absurd (awaits_not x f done waits))
session_rows x f (negotiation_response id timestamp flow credentials) done =
    own_rows (Same f) x f 2 id _ (λ e. refl) (all_within (Same f) (is_negotiating f.connection.phase) _ (λ now. absurd (true≢false (sym done ∙ not_negotiated f.connection.phase now))))
session_rows x f (negotiation_reject id timestamp code reason) done =
    own_rows (Same f) x f 3 id _ (λ e. refl) (all_within (Same f) (is_negotiating f.connection.phase) _ (λ now. absurd (true≢false (sym done ∙ not_negotiated f.connection.phase now))))
session_rows x f (establish id timestamp keepalive next expected credentials) done = establish_all x f id timestamp keepalive next expected credentials done
session_rows x f (establishment_ack id timestamp keepalive next expected) done =
    own_rows (Same f) x f 5 id _ (λ e. refl) (all_within (Same f) (is_establishing f.connection.phase) _ (λ now. absurd (true≢false (sym done ∙ not_established f.connection.phase now))))
session_rows x f (establishment_reject id timestamp code reason) done =
    own_rows (Same f) x f 6 id _ (λ e. refl) (all_within (Same f) (is_establishing f.connection.phase) _ (λ now. absurd (true≢false (sym done ∙ not_established f.connection.phase now))))
session_rows x f (sequence next) done =
    let g : Facts = requesting f (request_is.after_sequence f.connection.requester) in
    all_within (Same f) (is_established f.connection.phase) _ (λ _. (
      λ _. bad x f (request_is.sequence_fault f.connection.requester),
      λ _. (λ _. refusing x f g (announcement_fault x g 7 (Some next)) refl, λ _. (λ _. following x f g next (announced x g (Some next)) refl (announced_interval x g (Some next)), λ _. tt)),
    ))
session_rows x f unsequenced_heartbeat done = (λ _. going x f f acts.Nothing [] refl, λ _. tt)
session_rows x f (retransmit_request id timestamp first count) done =
    all_within (Same f) (is_established f.connection.phase) _ (λ _. (
      λ _. refl,
      λ _. (λ _. requested x f id timestamp (judged (is_own x id) (is_recoverable x.config.own_flow) first count f.recorded.sent), λ _. tt),
    ))
session_rows x f (retransmission id next timestamp count) done =
    own_rows (Same f) x f 10 id _ (λ e. refl) (all_within (Same f) (is_established f.connection.phase) _ (λ _. (
      λ _. bad x f (request_is.start_fault (request_is.outstanding f.connection.requester) next count),
      λ _. (λ _. going x f (restarted f next count) acts.Nothing [] refl, λ _. tt),
    )))
session_rows x f (retransmit_reject id timestamp code reason) done =
    own_rows (Same f) x f 11 id _ (λ e. refl) (all_within (Same f) (is_established f.connection.phase) _ (λ _. (λ _. refl, λ _. tt)))
session_rows x f (applied first count) done = (λ _. going x f f acts.Nothing [] refl, λ _. tt)
session_rows x f (not_applied first count) done = (λ _. going x f f (acts.Told first count) [] refl, λ _. (λ _. going x f f acts.Nothing [] refl, λ _. tt))
session_rows x f (finished_sending id last) done =
    own_rows (Same f) x f 14 id _ (λ e. refl) (all_within (Same f) (is_established f.connection.phase) _ (λ _. (
      λ _. refusing x f f (finish_fault x f last) refl,
      λ _. (λ _. finishing x f (finished_last x last), λ _. tt),
    )))
session_rows x f (finished_receiving id) done =
    own_rows (Same f) x f 15 id _ (λ e. refl) (all_within (Same f) (is_established f.connection.phase) _ (λ _. (λ _. going x f (own_finishing f own.Exchanged) acts.Nothing [] refl, λ _. tt)))
session_rows x f (terminate id code reason) done =
    let answer : Row = row true (ends x f 1 (endings.PeerTerminated code)) in
    let rows : AllRows (Same f) (answer ∷ []) = (λ _. refl, λ _. tt) in
    own_rows (Same f) x f 16 id (answer ∷ []) (λ e. refl) rows

message_rows : (x : Around) (f : Facts) (payload : List ℕ) → AllRows (Same f) (rows_of x f (application payload))
message_rows x f payload =
    all_within (Same f) (is_established f.connection.phase) _ (λ _. (
      λ _. refl,
      λ _. (
        λ _. refl,
        λ _. (
          λ _. refl,
          λ _. (
            λ _. going x f (awaiting f (f.recorded.inbox_next + 1)) (acts.Apply f.recorded.inbox_next) [] refl,
            λ _. (λ _. bad x f (request_is.message_fault f.connection.requester), λ _. (λ _. taking x f (receiver_is.seen f.connection.receiver), λ _. tt)),
          ),
        ),
      ),
    ))

each_row : (x : Around) (f : Facts) (i : Incoming) → is_shaken f.connection.phase ≡ true → AllRows (Same f) (rows_of x f i)
each_row x f (application payload) done = message_rows x f payload
each_row x f (session m) done = session_rows x f m done
each_row x f wrong_order done = (λ _. refl, λ _. tt)
each_row x f too_short done = (λ _. refl, λ _. tt)
each_row x f (unknown template) done = (λ _. refl, λ _. tt)

pub interval_stays : (x : Around) (f : Facts) (i : Incoming) → is_shaken f.connection.phase ≡ true → Same f (reply_of x f i)
interval_stays x f i done =
    by_row (Same f) (is_closing f.connection.phase && not (terminates x i)) (ignores f) (answer_of x f i)
    (λ _. refl)
    (λ _. all_rows (Same f) (not_in_phase x f (template_of i)) (rows_of x f i) refl (each_row x f i done))
