-- What becomes of a connection at a frame that is not accepted, row by row.
use Rattle.std.proofs.Common.{◌≡◌, ℕ, ◌&&◌, not, Bool, true, false, if◌then◌else◌, List, [], ◌∷◌, Option, Some, None, refl, sym, ap, ◌∙◌, true≢false}
use Rattle.std.specs.Prelude.{is_some, unwrap_or}
use Rattle.std.specs.Cmp.{first_so}
use Rattle.flow_recover.specs.declared.numbers.Seen.{Seen}
use Rattle.flow_recover.specs.declared.numbers.Seen.TheVariants.{Deliver, Hold, Gap, Repeat}
use Rattle.flow_recover.specs.Receiving as receiver_is
use Rattle.flow_retrans.specs.declared.requester.BadStart.{BadStart}
use Rattle.flow_retrans.specs.Requests as request_is
use Rattle.fixp_msgs.specs.declared.messages.Expected.{Expected}
use Rattle.fixp_msgs.specs.Message.{Message, negotiate, negotiation_response, negotiation_reject, establish, establishment_ack, establishment_reject, sequence, unsequenced_heartbeat, retransmit_request, retransmission, retransmit_reject, applied, not_applied, finished_sending, finished_receiving, terminate}
use Rattle.fixp_shake.specs.declared.violation.Violation.{Violation}
use Rattle.fixp_shake.specs.Phases.{is_establishing, is_established, is_closing}
use Rattle.fixp_replies.specs.declared.facts.Facts.{Facts}
use Rattle.fixp_replies.specs.Incoming.{Incoming, application, session, wrong_order, too_short, unknown}
use Rattle.fixp_replies.specs.Facts.{Around, requesting, awaits_gap}
use Rattle.fixp_replies.specs.Outcomes.{Outcome, Row, goes_on, ignores, not_in_phase, skip_of, told_skip}
use Rattle.fixp_replies.specs.Announcing.{Announced, announced, announcement_fault, refuses, announcement_rows}
use Rattle.fixp_replies.specs.Handshake.{awaits_client, serves_client, acknowledges, establish_rows, established_again_rows, establish_rows_in, reached}
use Rattle.fixp_replies.specs.Flowing.{bad_retransmission, counted, taken_as, answers_finish, is_filled, is_past_finish, sequence_taken, sequence_follows}
use Rattle.fixp_replies.specs.Replies.{template_of, rows_of, answer_of, terminates}
use Rattle.fixp_machine.proofs.Rows.{AllRows, by_row, all_rows, all_within, own_rows}
use Rattle.fixp_machine.proofs.Tests.{not_true}
use Rattle.fixp_machine.specs.Accepting.{event_of}
use Rattle.two_ends.specs.Refusing.{Refusal, without_event, rejected, ended, closing, RefusalEnds, PassesBy, ClosingIsDeaf}

-- what holds of each outcome
abbrev Refuses : Facts → Incoming → Outcome → Type 0
Refuses f i o = o.accepted ≡ false → Refusal f i o

-- a frame that is accepted is not refused
takes : (f : Facts) (i : Incoming) (o : Outcome) → o.accepted ≡ true → Refuses f i o
takes f i o t out = absurd (true≢false (sym t ∙ out))

-- a rule that is broken ends the connection
bad : (x : Around) (f : Facts) (i : Incoming) (b : Option BadStart) → is_some b ≡ true → Refuses f i (bad_retransmission x f b)
bad x f i None broken out = absurd (true≢false (sym broken))
bad x f i (Some b) broken out = ended refl

refusing : (x : Around) (f g : Facts) (i : Incoming) (v : Option Violation) → is_some v ≡ true → Refuses f i (refuses x g v)
refusing x f g i None broken out = absurd (true≢false (sym broken))
refusing x f g i (Some v) broken out = ended refl

-- an announcement is refused where it breaks a rule
announcing : (x : Around) (f g : Facts) (i : Incoming) (template : ℕ) (next : Option ℕ) (follows : Announced → Outcome)
    → Refuses f i (follows (announced x g next)) → AllRows (Refuses f i) (announcement_rows x g template next follows)
announcing x f g i template next follows on = (λ broken. refusing x f g i (announcement_fault x g template next) broken, λ _. (λ _. on, λ _. tt))

establish_all : (x : Around) (f : Facts) (id : List ℕ) (timestamp keepalive : ℕ) (next : Option ℕ) (expected : Expected) (credentials : List ℕ)
    → AllRows (Refuses f (session (establish id timestamp keepalive next expected credentials))) (establish_rows_in x f id timestamp keepalive next expected credentials)
establish_all x f id timestamp keepalive next expected credentials = by_place (awaits_client x f) (serves_client x f)
  where
    i : Incoming
    i = session (establish id timestamp keepalive next expected credentials)

    by_place : (p q : Bool) → AllRows (Refuses f i) (if p then establish_rows x f id timestamp keepalive next expected credentials else if q then established_again_rows x f id timestamp else [])
    by_place true q = (
      λ _ _. rejected next refl refl refl,
      λ _. (
        λ _ _. rejected next refl refl refl,
        λ _. (
          λ _ _. rejected next refl refl refl,
          λ _. announcing x f f i 4 next (acknowledges x timestamp keepalive expected) (takes f i (acknowledges x timestamp keepalive expected (announced x f next)) refl),
        ),
      ),
    )
    by_place false true = (λ _ _. rejected next refl refl refl, λ _. (λ _ _. rejected next refl refl refl, λ _. tt))
    by_place false false = tt

sequence_all : (x : Around) (f g : Facts) (i : Incoming) (next : ℕ) (a : Announced) → Refuses f i (sequence_follows x g next a)
sequence_all x f g i next a =
    by_row (Refuses f i) (is_past_finish x g next) _ (sequence_taken x a) (λ _ _. ended refl)
    (λ _. by_row (Refuses f i) (is_filled x a.facts) (answers_finish x a.facts last) _ (λ _. takes f i (answers_finish x a.facts last) refl)
    (λ _. takes f i (goes_on x (skip_of a.skipped) (told_skip a.skipped) a.facts) refl))
  where
    last : ℕ
    last = unwrap_or (awaits_gap a.facts.connection.peer_finish) 0

taking : (x : Around) (f g : Facts) (i : Incoming) (s : Seen) → Refuses f i (taken_as x g s)
taking x f g i (Deliver n) out = absurd (true≢false out)
taking x f g i (Hold n) out = absurd (true≢false out)
taking x f g i (Gap n) out = absurd (true≢false out)
taking x f g i (Repeat n) out = absurd (true≢false out)

message_rows : (x : Around) (f : Facts) (p : List ℕ) → AllRows (Refuses f (application p)) (rows_of x f (application p))
message_rows x f p =
    all_within (Refuses f (application p)) (is_established f.connection.phase) _ (λ _. (
      λ _ _. ended refl,
      λ _. (
        λ _ _. ended refl,
        λ _. (
          λ _ _. ended refl,
          λ _. (
            λ _ out. absurd (true≢false out),
            λ _. (
              λ broken. bad x f (application p) (request_is.message_fault f.connection.requester) broken,
              λ _. (λ _. taking x f (counted f) (application p) (receiver_is.seen f.connection.receiver), λ _. tt),
            ),
          ),
        ),
      ),
    ))

-- a message without an event
none_all : (f : Facts) (i : Incoming) (rows : List Row) → event_of i ≡ None → AllRows (Refuses f i) rows
none_all f i [] none = tt
none_all f i (one ∷ rows) none = (λ _ _. without_event none, λ _. none_all f i rows none)

quiet : (x : Around) (f : Facts) (i : Incoming) → event_of i ≡ None → AllRows (Refuses f i) (rows_of x f i)
quiet x f i none = none_all f i (rows_of x f i) none

session_rows : (x : Around) (f : Facts) (m : Message) → AllRows (Refuses f (session m)) (rows_of x f (session m))
session_rows x f (establish id timestamp keepalive next expected credentials) = establish_all x f id timestamp keepalive next expected credentials
session_rows x f (establishment_ack id timestamp keepalive next expected) =
    let i : Incoming = session (establishment_ack id timestamp keepalive next expected) in
    own_rows (Refuses f i) x f 5 id _ (λ e _. ended refl) (all_within (Refuses f i) (is_establishing f.connection.phase) _ (λ _.
    announcing x f f i 5 next (reached x keepalive expected) (λ out. absurd (true≢false out))))
session_rows x f (sequence next) =
    let i : Incoming = session (sequence next) in
    let g : Facts = requesting f (request_is.after_sequence f.connection.requester) in
    all_within (Refuses f i) (is_established f.connection.phase) _ (λ _. (
      λ broken. bad x f i (request_is.sequence_fault f.connection.requester) broken,
      λ _. announcing x f g i 7 (Some next) (sequence_follows x g next) (sequence_all x f g i next (announced x g (Some next))),
    ))
session_rows x f (retransmission id next timestamp count) =
    let i : Incoming = session (retransmission id next timestamp count) in
    own_rows (Refuses f i) x f 10 id _ (λ e _. ended refl) (all_within (Refuses f i) (is_established f.connection.phase) _ (λ _. (
      λ broken. bad x f i (request_is.start_fault (request_is.outstanding f.connection.requester) next count) broken,
      λ _. (λ _ out. absurd (true≢false out), λ _. tt),
    )))
session_rows x f (negotiate id timestamp flow credentials) = quiet x f (session (negotiate id timestamp flow credentials)) refl
session_rows x f (negotiation_response id timestamp flow credentials) = quiet x f (session (negotiation_response id timestamp flow credentials)) refl
session_rows x f (negotiation_reject id timestamp code reason) = quiet x f (session (negotiation_reject id timestamp code reason)) refl
session_rows x f (establishment_reject id timestamp code reason) = quiet x f (session (establishment_reject id timestamp code reason)) refl
session_rows x f unsequenced_heartbeat = quiet x f (session unsequenced_heartbeat) refl
session_rows x f (retransmit_request id timestamp first count) = quiet x f (session (retransmit_request id timestamp first count)) refl
session_rows x f (retransmit_reject id timestamp code reason) = quiet x f (session (retransmit_reject id timestamp code reason)) refl
session_rows x f (applied first count) = quiet x f (session (applied first count)) refl
session_rows x f (not_applied first count) = quiet x f (session (not_applied first count)) refl
session_rows x f (finished_sending id last) = quiet x f (session (finished_sending id last)) refl
session_rows x f (finished_receiving id) = quiet x f (session (finished_receiving id)) refl
session_rows x f (terminate id code reason) = quiet x f (session (terminate id code reason)) refl

each_row : (x : Around) (f : Facts) (i : Incoming) → AllRows (Refuses f i) (rows_of x f i)
each_row x f (application p) = message_rows x f p
each_row x f (session m) = session_rows x f m
each_row x f wrong_order = quiet x f wrong_order refl
each_row x f too_short = quiet x f too_short refl
each_row x f (unknown template) = quiet x f (unknown template) refl

pub refusal_ends : RefusalEnds
refusal_ends x f i =
    by_row (Refuses f i) (is_closing f.connection.phase && not (terminates x i)) (ignores f) (answer_of x f i)
    (λ t _. closing (first_so (is_closing f.connection.phase) (not (terminates x i)) t))
    (λ _. all_rows (Refuses f i) (not_in_phase x f (template_of i)) (rows_of x f i) (λ _. ended refl) (each_row x f i))

-- in Closing nothing but the peer's Terminate is looked at, and that ends the connection
pub closing_is_deaf : ClosingIsDeaf
closing_is_deaf x f i c =
    by_row (PassesBy f) (is_closing f.connection.phase && not (terminates x i)) (ignores f) (answer_of x f i) (λ _. record { refused = refl; unrecorded = refl; next = refl })
    (λ n. ends_it i (not_true (terminates x i) (ap (λ b. b && not (terminates x i)) (sym c) ∙ n)))
  where
    ends_it : (i : Incoming) → terminates x i ≡ true → PassesBy f (answer_of x f i)
    ends_it (session (terminate id code reason)) t =
        all_rows (PassesBy f) (not_in_phase x f 16) (rows_of x f (session (terminate id code reason))) (record { refused = refl; unrecorded = refl; next = refl })
        (λ _. record { refused = refl; unrecorded = refl; next = refl }, λ _. (λ _. record { refused = refl; unrecorded = refl; next = refl }, λ _. tt))
    ends_it (session (negotiate _ _ _ _)) t = absurd (true≢false (sym t))
    ends_it (session (negotiation_response _ _ _ _)) t = absurd (true≢false (sym t))
    ends_it (session (negotiation_reject _ _ _ _)) t = absurd (true≢false (sym t))
    ends_it (session (establish _ _ _ _ _ _)) t = absurd (true≢false (sym t))
    ends_it (session (establishment_ack _ _ _ _ _)) t = absurd (true≢false (sym t))
    ends_it (session (establishment_reject _ _ _ _)) t = absurd (true≢false (sym t))
    ends_it (session (sequence _)) t = absurd (true≢false (sym t))
    ends_it (session unsequenced_heartbeat) t = absurd (true≢false (sym t))
    ends_it (session (retransmit_request _ _ _ _)) t = absurd (true≢false (sym t))
    ends_it (session (retransmission _ _ _ _)) t = absurd (true≢false (sym t))
    ends_it (session (retransmit_reject _ _ _ _)) t = absurd (true≢false (sym t))
    ends_it (session (applied _ _)) t = absurd (true≢false (sym t))
    ends_it (session (not_applied _ _)) t = absurd (true≢false (sym t))
    ends_it (session (finished_sending _ _)) t = absurd (true≢false (sym t))
    ends_it (session (finished_receiving _)) t = absurd (true≢false (sym t))
    ends_it (application _) t = absurd (true≢false (sym t))
    ends_it wrong_order t = absurd (true≢false (sym t))
    ends_it too_short t = absurd (true≢false (sym t))
    ends_it (unknown _) t = absurd (true≢false (sym t))
