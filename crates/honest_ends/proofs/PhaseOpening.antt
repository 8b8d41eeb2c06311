-- What an end replies before the handshake is done, to a peer that keeps to the rules.
use Rattle.std.proofs.Common.{◌≡◌, inl, inr, ℕ, ◌+◌, ◌≤◌, ◌==◌, ◌&&◌, ◌||◌, min, max, nat_lt, not, Bool, true, false, if◌then◌else◌, List, [], ◌∷◌, ◌++◌, Option, Some, None, refl, sym, ap, subst, ◌∙◌, arith, true≢false, eq-eqb}
use Rattle.std.specs.Prelude.{is_some, IsSome}
use Rattle.std.specs.List.{AllByRecursion}
use Rattle.std.specs.Str.{bytes_eq}
use Rattle.session_model.proofs.Lists.{all_append}
use Rattle.std.proofs.lemmas.Bool.Decides.{nat_tests}
use Rattle.fixp_msgs.specs.declared.messages.Expected.{Expected}
use Rattle.fixp_msgs.specs.declared.numbering.Range.{Range}
use Rattle.fixp_msgs.specs.Flow.{flow_code}
use Rattle.fixp_msgs.specs.Message.{Message, negotiate, negotiation_response, negotiation_reject, establish, establishment_ack, establishment_reject, sequence, unsequenced_heartbeat, retransmit_request, retransmission, retransmit_reject, applied, not_applied, finished_sending, finished_receiving, terminate}
use Rattle.flow_recover.specs.Receiving as receiver_is
use Rattle.flow_retrans.specs.Requests as request_is
use Rattle.fixp_shake.specs.declared.config.EndConfig.{EndConfig}
use Rattle.fixp_shake.specs.declared.phase.Phase.{Phase}
use Rattle.fixp_shake.specs.declared.phase.Phase.TheVariants as phases
use Rattle.fixp_shake.specs.declared.violation.Violation.{Violation}
use Rattle.fixp_shake.specs.Flows.{is_recoverable, is_idempotent, is_sequenced}
use Rattle.fixp_shake.specs.Phases.{is_negotiating, is_establishing, is_closing, is_shaken}
use Rattle.fixp_replies.specs.declared.act.Act.{Act}
use Rattle.fixp_replies.specs.declared.act.Act.TheVariants as acts
use Rattle.fixp_replies.specs.declared.facts.Facts.{Facts}
use Rattle.fixp_replies.specs.declared.facts.OwnFinish.TheVariants as own
use Rattle.fixp_replies.specs.Facts.{Around, is_own, in_phase, negotiated as as_negotiated, gap_to_ask, having_asked, finishes_exchanged, gap_of}
use Rattle.fixp_replies.specs.Incoming.{Incoming, session}
use Rattle.fixp_replies.specs.Outcomes.{Outcome, Row, goes_on, accepts, ignores, request_for, told_skip, opening_negotiate, opening_establish}
use Rattle.fixp_replies.specs.Announcing.{Announced, announced, announcement_fault, refuses}
use Rattle.fixp_replies.specs.Handshake.{awaits_client, established, acknowledges, negotiate_rows, establish_rows, shaken, negotiation_response_rows, negotiation_reject_rows, establishment_ack_rows, reached, establishment_reject_rows}
use Rattle.fixp_replies.specs.Replies.{reply_of, answer_of, terminates}
use Rattle.fixp_msgs.specs.declared.messages.Expected.TheVariants as expects
use Rattle.fixp_replies.specs.Expecting.{is_newer, is_present, told_next, number_in, takes, returned, softened, told_return}
use Rattle.honest_ends.proofs.Returning.{said_behind}
use Rattle.fixp_machine.proofs.Rows.{by_row}
use Rattle.connection_laws.specs.Writing.{Piece, said, entry, said_all}
use Rattle.two_ends.specs.Reading.{incoming_of}
use Rattle.honest_ends.specs.PhaseLaws.{IsLeft}
use Rattle.honest_ends.proofs.Shapes.{IsFree, IsAsk, IsAnswer, IsAck, OneAtMost, AckFirst}
use Rattle.honest_ends.proofs.Deciding.{Decides, decides_within, same_bytes, ended_by, never}
use Rattle.honest_ends.proofs.Replying.{Left, asked_phase, asked_flows, skip_flows, none_left, terminated_left, fault_left, announced_decides, foreign, heard}
use Rattle.honest_ends.specs.Numbers.{IsFlowing, Peer}

-- before the handshake is done nothing is asked for or sent again, and no finish was told
pub record Quiet (f : Facts) : Type 0 where
  pub even : receiver_is.gap None f.connection.receiver ≡ None
  pub free : f.connection.serving ≡ None
  pub untold : f.connection.own_finish ≡ own.Open

-- where there is no gap, none is to be asked for
pub asks_none : (x : Around) (f : Facts) → gap_of x f ≡ None → gap_to_ask x f ≡ None
asks_none x f e = by_tests f.connection.soft (is_some (request_is.outstanding f.connection.requester))
  where
    by_tests : (a b : Bool) → (if a || b then None else gap_of x f) ≡ None
    by_tests false false = e
    by_tests false true = refl
    by_tests true b = refl

-- nor where nothing is held, and the number awaited is the live one
pub asks_unheld : (x : Around) (f : Facts) → x.held ≡ None → receiver_is.gap None f.connection.receiver ≡ None → gap_to_ask x f ≡ None
asks_unheld x f none e = asks_none x f (by_flow (is_recoverable x.config.peer_flow))
  where
    by_flow : (b : Bool) → (if b then receiver_is.gap x.held f.connection.receiver else None) ≡ None
    by_flow true = ap (λ (h : Option ℕ). receiver_is.gap h f.connection.receiver) none ∙ e
    by_flow false = refl

pub quiet_same : (f g : Facts) → g.connection ≡ f.connection → Quiet f → Quiet g
quiet_same f g e q = record { even = ap (λ c. receiver_is.gap None c.receiver) e ∙ q.even; free = ap (λ c. c.serving) e ∙ q.free; untold = ap (λ c. c.own_finish) e ∙ q.untold }

-- nothing of the connection changes, and no message is written that some phase would not take
pub record Spares (cfg : EndConfig) (f : Facts) (o : Outcome) : Type 0 where
  pub same : o.next ≡ f
  pub writes : AllByRecursion (IsFree cfg) (said_all o.written)
  pub ends : Left o

sparing : (x : Around) (f : Facts) (act : Act) → gap_to_ask x f ≡ None → Spares x.config f (goes_on x act [] f)
sparing x f act none = record {
  same = ap (λ (g : Option Range). having_asked f g) none;
  writes = subst (λ (g : Option Range). AllByRecursion (IsFree x.config) (said_all (request_for x g))) (sym none) tt;
  ends = none_left;
}

answered_free : (x : Around) (f : Facts) (theirs : EndConfig) (p : Piece) → Peer x.config theirs → gap_to_ask x f ≡ None → IsFree theirs p → Spares x.config f (answer_of x f (incoming_of p))
answered_free x f theirs (entry payload) are even free = absurd free
answered_free x f theirs (said (negotiate id timestamp flow credentials)) are even free = absurd free
answered_free x f theirs (said (negotiation_response id timestamp flow credentials)) are even free = absurd free
answered_free x f theirs (said (negotiation_reject id timestamp code reason)) are even free = absurd free
answered_free x f theirs (said (establish id timestamp keepalive next expected credentials)) are even free = absurd free
answered_free x f theirs (said (establishment_ack id timestamp keepalive next expected)) are even free = absurd free
answered_free x f theirs (said (establishment_reject id timestamp code reason)) are even free = absurd free
answered_free x f theirs (said (sequence next)) are even free = absurd free
answered_free x f theirs (said unsequenced_heartbeat) are even free = sparing x f acts.Nothing even
answered_free x f theirs (said (retransmit_request id timestamp first count)) are even free = absurd free
answered_free x f theirs (said (retransmission id next timestamp count)) are even free = absurd free
answered_free x f theirs (said (retransmit_reject id timestamp code reason)) are even free = absurd free
answered_free x f theirs (said (applied first count)) are even free = sparing x f acts.Nothing even
answered_free x f theirs (said (not_applied first count)) are even free =
    by_row (Spares x.config f) (is_idempotent x.config.own_flow) (goes_on x (acts.Told first count) [] f) (accepts x [] f)
    (λ _. sparing x f (acts.Told first count) even) (λ _. sparing x f acts.Nothing even)
answered_free x f theirs (said (finished_sending id last)) are even free = absurd free
answered_free x f theirs (said (finished_receiving id)) are even free = absurd free
answered_free x f theirs (said (terminate id code reason)) are even free =
    heard (Spares x.config f) x f (session (terminate id code reason)) (foreign x id (free ∙ are.session), λ _. (λ _. record { same = refl; writes = (refl, tt); ends = λ w same. terminated_left (finishes_exchanged x f) code w same }, λ e. absurd (true≢false e)))

-- a free message, before the handshake is done
pub free_reply : (x : Around) (f : Facts) (theirs : EndConfig) (p : Piece) → Peer x.config theirs → x.held ≡ None → Quiet f → IsFree theirs p → Spares x.config f (reply_of x f (incoming_of p))
free_reply x f theirs p are none quiet free =
    by_row (Spares x.config f) (is_closing f.connection.phase && not (terminates x (incoming_of p))) (ignores f) (answer_of x f (incoming_of p))
    (λ _. record { same = refl; writes = tt; ends = none_left })
    (λ _. answered_free x f theirs p are (asks_unheld x f none quiet.even) free)

-- before the handshake is done nothing is ignored
open_before : (P : Outcome → Type 0) (x : Around) (f : Facts) (i : Incoming) → is_shaken f.connection.phase ≡ false → P (answer_of x f i) → P (reply_of x f i)
open_before P x f i before h =
    by_row P (is_closing f.connection.phase && not (terminates x i)) (ignores f) (answer_of x f i)
    (λ e. absurd (closes f.connection.phase (not (terminates x i)) before e))
    (λ _. h)
  where
    closes : (p : Phase) (b : Bool) → is_shaken p ≡ false → (is_closing p && b) ≡ true → ⊥
    closes phases.Idle b s e = true≢false (sym e)
    closes phases.Negotiating b s e = true≢false (sym e)
    closes phases.Establishing b s e = true≢false (sym e)
    closes phases.Established b s e = true≢false s
    closes phases.Closing b s e = true≢false s
    closes phases.Ended b s e = true≢false (sym e)

pub number_given : (b : Bool) (n : ℕ) → b ≡ true → is_some (if b then Some n else None) ≡ true
number_given true n e = refl
number_given false n e = absurd (true≢false (sym e))

-- what an acceptor makes of what an initiator asks for in this phase of its own: it answers, or it acknowledges
pub data Asked (cfg : EndConfig) (ph : Phase) (f : Facts) (o : Outcome) : Type 0 where
  answers : o.next.connection.phase ≡ f.connection.phase → Quiet o.next → OneAtMost cfg (IsAnswer cfg ph) (said_all o.written) → Left o → Asked cfg ph f o
  acknowledged : ph ≡ phases.Establishing → o.next.connection.phase ≡ phases.Established → AckFirst cfg (said_all o.written) → Left o → Asked cfg ph f o

-- the connection goes on, and this alone is written
writes_alone : (x : Around) (g : Facts) (P : Piece → Type 0) (m : Message) → x.held ≡ None → Quiet g → P (said m) → OneAtMost x.config P (said_all (m ∷ request_for x (gap_to_ask x g)))
writes_alone x g P m none quiet h = subst (λ (r : Option Range). OneAtMost x.config P (said_all (m ∷ request_for x r))) (sym (asks_unheld x g none quiet.even)) (inl (h, tt))

still_quiet : (x : Around) (g : Facts) → x.held ≡ None → Quiet g → Quiet (having_asked g (gap_to_ask x g))
still_quiet x g none quiet = subst (λ (r : Option Range). Quiet (having_asked g r)) (sym (asks_unheld x g none quiet.even)) quiet

-- where the handshake is answered by Establish and by Negotiate
negotiate_asked : (x : Around) (f : Facts) (theirs : EndConfig) (id : List ℕ) (timestamp flow : ℕ) (credentials : List ℕ) → Peer x.config theirs → theirs.credentials ≡ x.config.credentials → x.held ≡ None → Quiet f
    → IsAsk theirs phases.Negotiating (said (negotiate id timestamp flow credentials)) → Decides (Asked x.config phases.Negotiating f) (negotiate_rows x f id timestamp flow credentials)
negotiate_asked x f theirs id timestamp flow credentials are same none quiet asks = (
  λ n. never (is_own x id) (same_bytes id x.config.session (asks.0 ∙ are.session)) n,
  λ _. (
    λ n. never (bytes_eq credentials x.config.credentials) (same_bytes credentials x.config.credentials (asks.2 ∙ same)) n,
    λ _. (
      λ n. never (flow == flow_code x.config.peer_flow) (eq-eqb flow (flow_code x.config.peer_flow) (asks.1 ∙ ap (λ k. flow_code k) (sym are.flow))) n,
      λ _. (
        λ _. answers refl quiet (inl ((asks.0 ∙ are.session, refl), tt)) none_left,
        λ _. (
          λ _. answers (asked_phase g (gap_to_ask x g)) (still_quiet x g none (record { even = quiet.even; free = quiet.free; untold = quiet.untold }))
              (writes_alone x g (IsAnswer x.config phases.Negotiating) (negotiation_response x.config.session timestamp (flow_code x.config.own_flow) []) none (record { even = quiet.even; free = quiet.free; untold = quiet.untold }) (refl, refl)) none_left,
          λ e. absurd (true≢false e),
        ),
      ),
    ),
  ),
)
  where
    g : Facts
    g = as_negotiated f

in_range : (k : ℕ) → 100 ≤ k → k ≤ 60000 → (nat_lt k 100 || nat_lt 60000 k) ≡ false
in_range k low high = grind (arith, nat_tests)

establish_asked : (x : Around) (f : Facts) (theirs : EndConfig) (id : List ℕ) (timestamp keepalive : ℕ) (next : Option ℕ) (expected : Expected) (credentials : List ℕ)
    → Peer x.config theirs → theirs.credentials ≡ x.config.credentials → (100 ≤ theirs.keepalive) × (theirs.keepalive ≤ 60000) → Quiet f
    → IsAsk theirs phases.Establishing (said (establish id timestamp keepalive next expected credentials)) → Decides (Asked x.config phases.Establishing f) (establish_rows x f id timestamp keepalive next expected credentials)
establish_asked x f theirs id timestamp keepalive next expected credentials are same range quiet asks = (
  λ _. answers refl quiet (inl ((asks.0 ∙ are.session, refl), tt)) none_left,
  λ _. (
    λ out. absurd (true≢false (sym out ∙ in_range keepalive (subst (λ (k : ℕ). 100 ≤ k) (sym asks.1) range.0) (subst (λ (k : ℕ). k ≤ 60000) (sym asks.1) range.1))),
    λ _. (
      λ n. never (bytes_eq credentials x.config.credentials) (same_bytes credentials x.config.credentials (asks.3 ∙ same)) n,
      λ _. announced_decides (Asked x.config phases.Establishing f) x f 4 next (acknowledges x timestamp keepalive expected)
          (λ some. refused (announcement_fault x f 4 next) (fault_left x f 4 next (λ n. asks.2 (ap (λ k. is_sequenced k) (sym are.flow) ∙ n))))
          (acknowledging (announced x f next)),
    ),
  ),
)
  where
    refused : (v : Option Violation) → ((w : Violation) → v ≡ Some w → IsLeft w) → Asked x.config phases.Establishing f (refuses x f v)
    refused None h = answers refl quiet tt none_left
    refused (Some v) h = answers refl quiet (inr (refl, tt)) (λ w e. ended_by IsLeft (finishes_exchanged x f) v w e (h v refl))

    acknowledging : (a : Announced) → Asked x.config phases.Establishing f (acknowledges x timestamp keepalive expected a)
    acknowledging a =
        let k : Facts = returned x a.facts expected in
        let g : Facts = established (softened x expected k) keepalive in
        acknowledged refl (asked_phase g (gap_to_ask x g))
        (inl ((refl, λ n. number_given (is_sequenced x.config.own_flow) (k.recorded.sent + 1) n), asked_flows x (told_skip a.skipped) (gap_to_ask x g) (skip_flows x.config a.skipped)))
        none_left

decides_first : (P : Outcome → Type 0) (b : Bool) (first second : List Row) → b ≡ true → Decides P first → Decides P (if b then first else second)
decides_first P true first second e d = d
decides_first P false first second e d = absurd (true≢false (sym e))

-- an acceptor that waits for its client reads what this asks for
pub ask_reply : (x : Around) (f : Facts) (theirs : EndConfig) (ph : Phase) (p : Piece) → Peer x.config theirs → theirs.credentials ≡ x.config.credentials
    → (100 ≤ theirs.keepalive) × (theirs.keepalive ≤ 60000) → awaits_client x f ≡ true → is_shaken f.connection.phase ≡ false → x.held ≡ None → Quiet f → IsAsk theirs ph p → Asked x.config ph f (reply_of x f (incoming_of p))
ask_reply x f theirs phases.Negotiating (said (negotiate id timestamp flow credentials)) are same range waits before none quiet asks =
    open_before (Asked x.config phases.Negotiating f) x f (session (negotiate id timestamp flow credentials)) before (heard (Asked x.config phases.Negotiating f) x f (session (negotiate id timestamp flow credentials))
    (decides_within (Asked x.config phases.Negotiating f) (awaits_client x f) (negotiate_rows x f id timestamp flow credentials) waits (negotiate_asked x f theirs id timestamp flow credentials are same none quiet asks)))
ask_reply x f theirs phases.Establishing (said (establish id timestamp keepalive next expected credentials)) are same range waits before none quiet asks =
    open_before (Asked x.config phases.Establishing f) x f (session (establish id timestamp keepalive next expected credentials)) before (heard (Asked x.config phases.Establishing f) x f (session (establish id timestamp keepalive next expected credentials))
    (decides_first (Asked x.config phases.Establishing f) (awaits_client x f) (establish_rows x f id timestamp keepalive next expected credentials) _ waits
    (establish_asked x f theirs id timestamp keepalive next expected credentials are same range quiet asks)))
ask_reply x f theirs _ _ are same range waits before none quiet asks = absurd asks

-- what an initiator makes of an answer: it asks again, in this phase
pub record AsksAgain (cfg : EndConfig) (o : Outcome) : Type 0 where
  pub before : is_shaken o.next.connection.phase ≡ false
  pub quiet : Quiet o.next
  pub writes : OneAtMost cfg (IsAsk cfg o.next.connection.phase) (said_all o.written)
  pub ends : Left o

asking : (x : Around) (g : Facts) (act : Act) (m : Message) → is_shaken g.connection.phase ≡ false → x.held ≡ None → Quiet g → IsAsk x.config g.connection.phase (said m)
    → AsksAgain x.config (goes_on x act (m ∷ []) g)
asking x g act m before none quiet asks = record {
  before = ap (λ p. is_shaken p) (asked_phase g (gap_to_ask x g)) ∙ before;
  quiet = still_quiet x g none quiet;
  writes = subst (λ (p : Phase). OneAtMost x.config (IsAsk x.config p) (said_all (m ∷ request_for x (gap_to_ask x g)))) (sym (asked_phase g (gap_to_ask x g))) (writes_alone x g (IsAsk x.config g.connection.phase) m none quiet asks);
  ends = none_left;
}

-- an end that tells of the number that it expects has version 1
pub newer_tells : (x : Around) (f : Facts) → is_present (told_next x f) ≡ true → is_newer x.config ≡ true
newer_tells x f = by_test (is_newer x.config)
  where
    by_test : (b : Bool) → is_present (if not b then expects.Absent else if is_recoverable x.config.peer_flow then expects.Number f.recorded.inbox_next else expects.Null) ≡ true → b ≡ true
    by_test true e = refl
    by_test false e = absurd (true≢false (sym e))

establishing : (x : Around) (f : Facts) → x.held ≡ None → Quiet f → AsksAgain x.config (shaken x f)
establishing x f none quiet =
    asking x (in_phase (as_negotiated f) phases.Establishing) _ (opening_establish x f) refl none (record { even = quiet.even; free = quiet.free; untold = quiet.untold })
    (refl, refl, (λ n. number_given (is_sequenced x.config.own_flow) (f.recorded.sent + 1) n), refl, newer_tells x f)

negotiating : (p : Phase) → p ≡ phases.Negotiating → is_negotiating p ≡ true
negotiating p e = ap (λ q. is_negotiating q) e

is_it_establishing : (p : Phase) → p ≡ phases.Establishing → is_establishing p ≡ true
is_it_establishing p e = ap (λ q. is_establishing q) e

pub answer_reply : (x : Around) (f : Facts) (theirs : EndConfig) (ph : Phase) (p : Piece) → Peer x.config theirs → f.connection.phase ≡ ph → is_shaken f.connection.phase ≡ false → x.held ≡ None → Quiet f → IsAnswer theirs ph p
    → AsksAgain x.config (reply_of x f (incoming_of p))
answer_reply x f theirs phases.Negotiating (said (negotiation_response id timestamp flow credentials)) are is before none quiet answer =
    open_before (AsksAgain x.config) x f (session (negotiation_response id timestamp flow credentials)) before (heard (AsksAgain x.config) x f (session (negotiation_response id timestamp flow credentials)) (
      foreign x id (answer.0 ∙ are.session),
      λ _. (decides_within (AsksAgain x.config) (is_negotiating f.connection.phase) (negotiation_response_rows x f flow) (negotiating f.connection.phase is) (
        λ n. never (flow == flow_code x.config.peer_flow) (eq-eqb flow (flow_code x.config.peer_flow) (answer.1 ∙ ap (λ k. flow_code k) (sym are.flow))) n,
        λ _. (λ _. establishing x f none quiet, λ e. absurd (true≢false e)),
      )),
    ))
answer_reply x f theirs phases.Negotiating (said (negotiation_reject id timestamp code reason)) are is before none quiet answer =
    open_before (AsksAgain x.config) x f (session (negotiation_reject id timestamp code reason)) before (heard (AsksAgain x.config) x f (session (negotiation_reject id timestamp code reason)) (
      foreign x id (answer.0 ∙ are.session),
      λ _. (decides_within (AsksAgain x.config) (is_negotiating f.connection.phase) (negotiation_reject_rows x f code) (negotiating f.connection.phase is) (
        λ _. establishing x f none quiet,
        λ n. absurd (true≢false (sym (eq-eqb code 4 answer.1) ∙ n)),
      )),
    ))
answer_reply x f theirs phases.Establishing (said (establishment_reject id timestamp code reason)) are is before none quiet answer =
    open_before (AsksAgain x.config) x f (session (establishment_reject id timestamp code reason)) before (heard (AsksAgain x.config) x f (session (establishment_reject id timestamp code reason)) (
      foreign x id (answer.0 ∙ are.session),
      λ _. (decides_within (AsksAgain x.config) (is_establishing f.connection.phase) (establishment_reject_rows x f code) (is_it_establishing f.connection.phase is) (
        λ _. asking x (in_phase f phases.Negotiating) acts.Nothing (opening_negotiate x) refl none (record { even = quiet.even; free = quiet.free; untold = quiet.untold }) (refl, refl, refl),
        λ n. absurd (true≢false (sym (eq-eqb code 2 answer.1) ∙ n)),
      )),
    ))
answer_reply x f theirs _ _ are is before none quiet answer = absurd answer

-- what it makes of an acknowledgement: the handshake is done, or the announcement is refused
pub data Acknowledged (cfg : EndConfig) (f : Facts) (o : Outcome) : Type 0 where
  stands : o.next.connection.phase ≡ phases.Established → AllByRecursion (IsFlowing cfg) (said_all o.written) → Left o → Acknowledged cfg f o
  lost : IsSome o.ending → o.next ≡ f → AllByRecursion (IsFree cfg) (said_all o.written) → Left o → Acknowledged cfg f o

pub ack_reply : (x : Around) (f : Facts) (theirs : EndConfig) (p : Piece) → Peer x.config theirs → f.connection.phase ≡ phases.Establishing → is_shaken f.connection.phase ≡ false → IsAck theirs p
    → Acknowledged x.config f (reply_of x f (incoming_of p))
ack_reply x f theirs (said (establishment_ack id timestamp keepalive next expected)) are is before ack =
    open_before (Acknowledged x.config f) x f (session (establishment_ack id timestamp keepalive next expected)) before (heard (Acknowledged x.config f) x f (session (establishment_ack id timestamp keepalive next expected)) (
      foreign x id (ack.0 ∙ are.session),
      λ _. (decides_within (Acknowledged x.config f) (is_establishing f.connection.phase) (establishment_ack_rows x f keepalive next expected) (is_it_establishing f.connection.phase is)
          (announced_decides (Acknowledged x.config f) x f 5 next (reached x keepalive expected)
          (λ some. refused (announcement_fault x f 5 next) some (fault_left x f 5 next (λ n. ack.1 (ap (λ k. is_sequenced k) (sym are.flow) ∙ n))))
          (standing (announced x f next)))),
    ))
  where
    refused : (v : Option Violation) → is_some v ≡ true → ((w : Violation) → v ≡ Some w → IsLeft w) → Acknowledged x.config f (refuses x f v)
    refused None some h = absurd (true≢false (sym some))
    refused (Some v) some h = lost refl refl (refl, tt) (λ w e. ended_by IsLeft (finishes_exchanged x f) v w e (h v refl))

    starts_flow : (a : Announced) → AllByRecursion (IsFlowing x.config) (said_all (told_return x a.facts expected))
    starts_flow a = by_test (takes x a.facts expected && not (number_in expected == a.facts.recorded.sent + 1))
      where
        by_test : (b : Bool) → AllByRecursion (IsFlowing x.config) (said_all (if b then sequence (number_in expected) ∷ [] else []))
        by_test true = (tt, tt)
        by_test false = tt

    standing : (a : Announced) → Acknowledged x.config f (reached x keepalive expected a)
    standing a =
        let g : Facts = established (returned x a.facts expected) (min 60000 (max 100 keepalive)) in
        stands (asked_phase g (gap_to_ask x g)) (asked_flows x (told_skip a.skipped ++ told_return x a.facts expected) (gap_to_ask x g)
        (subst (λ (ps : List Piece). AllByRecursion (IsFlowing x.config) ps) (sym (said_behind (told_skip a.skipped) (told_return x a.facts expected)))
        (all_append (IsFlowing x.config) (said_all (told_skip a.skipped)) (said_all (told_return x a.facts expected)) (skip_flows x.config a.skipped) (starts_flow a)))) none_left
ack_reply x f theirs _ are is before ack = absurd ack
