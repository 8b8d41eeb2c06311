-- What each reply writes of the own flow, and what it hears of the peer's before the handshake is done, row by row.
use Rattle.std.proofs.Common.{◌≡◌, ◌≢◌, ℕ, ◌+◌, ◌-◌, ◌≤◌, ◌==◌, ◌&&◌, ◌||◌, max, min, nat_lt, not, IsTrue, Bool, true, false, if◌then◌else◌, List, [], ◌∷◌, ◌++◌, Option, Some, None, option_to_list, refl, sym, ap, subst, ◌∙◌, arith, append-nil, eqb-true, eq-eqb, true≢false}
use Rattle.std.specs.Prelude.{is_some, IsSome, unwrap_or, Result, Ok, Err}
use Rattle.std.proofs.lemmas.Bool.{ltb-false}
use Rattle.std.proofs.lemmas.Bool.Decides.{nat_tests}
use Rattle.std.proofs.lemmas.Grind.{flat_map-append}
use Rattle.session_model.specs.Events.{announce, handshake, in_flow, BeginsWithHandshake}
use Rattle.fixp_msgs.specs.declared.messages.Expected.{Expected}
use Rattle.fixp_msgs.specs.declared.numbering.Range.{Range}
use Rattle.fixp_msgs.specs.Flow.{flow_code}
use Rattle.fixp_msgs.specs.Message.{Message, negotiate, negotiation_response, negotiation_reject, establish, establishment_ack, establishment_reject, sequence, unsequenced_heartbeat, retransmit_request, retransmission, retransmit_reject, applied, not_applied, finished_sending, finished_receiving, terminate}
use Rattle.flow_recover.specs.declared.numbers.Seen.{Seen}
use Rattle.flow_recover.specs.declared.numbers.Seen.TheVariants.{Deliver, Hold, Gap, Repeat}
use Rattle.flow_recover.specs.Receiving as receiver_is
use Rattle.flow_retrans.specs.declared.requester.BadStart.{BadStart}
use Rattle.flow_retrans.specs.declared.judging.RetransmitCode.{RetransmitCode}
use Rattle.flow_retrans.specs.Judging.{judged, request_limit}
use Rattle.flow_retrans.specs.declared.judging.RetransmitCode.TheVariants.{OutOfRange, InvalidSession, RequestLimitExceeded}
use Rattle.flow_retrans.specs.Requests as request_is
use Rattle.fixp_shake.specs.declared.phase.Phase.{Phase}
use Rattle.fixp_shake.specs.declared.phase.Phase.TheVariants as phases
use Rattle.fixp_shake.specs.declared.violation.Violation.{Violation}
use Rattle.fixp_shake.specs.Flows.{is_recoverable, is_idempotent, is_sequenced}
use Rattle.fixp_shake.specs.Phases.{is_idle, is_negotiating, is_establishing, is_established, is_closing, is_shaken}
use Rattle.fixp_replies.specs.declared.act.Act.{Act}
use Rattle.fixp_replies.specs.declared.act.Act.TheVariants as acts
use Rattle.fixp_replies.specs.declared.act.Ending.TheVariants as endings
use Rattle.fixp_replies.specs.declared.facts.Facts.{Facts}
use Rattle.fixp_replies.specs.declared.facts.PeerFinish.TheVariants as peer
use Rattle.fixp_replies.specs.declared.facts.OwnFinish.TheVariants as own
use Rattle.fixp_replies.specs.Incoming.{Incoming, application, session, wrong_order, too_short, unknown}
use Rattle.fixp_replies.specs.Facts.{Around, is_initiator, is_own, in_phase, receiving, requesting, firm, serves, negotiated as as_negotiated, awaiting, awaits_gap, gap_of, gap_to_ask, holding_too, having_asked, announced_number}
use Rattle.fixp_replies.specs.Outcomes.{Outcome, Row, row, goes_on, accepts, ignores, ends, not_in_phase, request_for, skip_of, told_skip, opening_negotiate, opening_establish}
use Rattle.fixp_replies.specs.Announcing.{Announced, jumped_over, announced, refuses}
use Rattle.fixp_replies.specs.Handshake.{awaits_client, serves_client, established, acknowledges, establish_rows, established_again_rows, establish_rows_in, shaken, reached}
use Rattle.fixp_replies.specs.Expecting.{is_newer, number_in, answers_next, takes, returned, softened}
use Rattle.fixp_replies.specs.Flowing.{bad_retransmission, counted, taken_as, finish_act, peer_finished, answers_finish, is_filled, is_past_finish, sequence_taken, sequence_follows, restarted, finished_last, finish_fault, finished}
use Rattle.fixp_replies.specs.Serving.{request_answered, own_finishing}
use Rattle.fixp_replies.specs.Replies.{reply_of, template_of, rows_of, answer_of, terminates}
use Rattle.fixp_machine.proofs.Rows.{AllRows, by_row, all_rows, all_within, announced_rows, own_rows}
use Rattle.fixp_machine.proofs.Tests.{some-none, is_done, not_negotiated, not_established, not_opened}
use Rattle.fixp_machine.proofs.Expecting.{taken, returned_if, returned_stays, kept, returned_keeps}
use Rattle.fixp_machine.specs.Accepting.{event_of}
use Rattle.connection_laws.specs.Writing.{events_in, is_reached, SameOwn, WritesOwn, nothing, shakes, returns, resends, HearsHandshake, FrameWrites, FrameHears}

-- what holds of each reply
record Replies (x : Around) (f : Facts) (i : Incoming) (o : Outcome) : Type 0 where
  writes : WritesOwn x f o
  hears : HearsHandshake f i o

asks_nothing : (x : Around) (g : Option Range) → events_in (request_for x g) ≡ []
asks_nothing x None = refl
asks_nothing x (Some g) = refl

events_asking : (x : Around) (written : List Message) (g : Option Range) → events_in (written ++ request_for x g) ≡ events_in written
events_asking x written g = flat_map-append _ written (request_for x g) ∙ (ap (λ es. events_in written ++ es) (asks_nothing x g) ∙ append-nil (events_in written))

skip_says_nothing : (s : Option Range) → events_in (told_skip s) ≡ []
skip_says_nothing None = refl
skip_says_nothing (Some s) = refl

-- nothing has changed that the own flow and the handshake rest on
pub record Untouched (f g : Facts) : Type 0 where
  pub sent : g.recorded.sent ≡ f.recorded.sent
  pub serving : g.connection.serving ≡ f.connection.serving
  pub phase : g.connection.phase ≡ f.connection.phase

still : (f : Facts) → Untouched f f
still f = record { sent = refl; serving = refl; phase = refl }

untouched_own : (f g : Facts) → Untouched f g → SameOwn f g
untouched_own f g u = record { sent = u.sent; serving = u.serving; stays = λ t. ap (λ p. is_shaken p) u.phase ∙ t; reached = λ t. ap (λ p. is_reached p) (sym u.phase) ∙ t; idle = λ t. ap (λ p. is_idle p) (sym u.phase) ∙ t }

pub still_own : (f : Facts) → SameOwn f f
still_own f = untouched_own f f (still f)

asked_own : (f g : Facts) (r : Option Range) → SameOwn f g → SameOwn f (having_asked g r)
asked_own f g None s = s
asked_own f g (Some r) s = record { sent = s.sent; serving = s.serving; stays = s.stays; reached = s.reached; idle = s.idle }

asked_sent : (g : Facts) (r : Option Range) → (having_asked g r).recorded.sent ≡ g.recorded.sent
asked_sent g None = refl
asked_sent g (Some r) = refl

asked_serving : (g : Facts) (r : Option Range) → (having_asked g r).connection.serving ≡ g.connection.serving
asked_serving g None = refl
asked_serving g (Some r) = refl

asked_phase : (g : Facts) (r : Option Range) → (having_asked g r).connection.phase ≡ g.connection.phase
asked_phase g None = refl
asked_phase g (Some r) = refl

-- a message without an event of the peer's flow; a message once the handshake is done; and the handshake's announcement
hears_none : (f : Facts) (i : Incoming) (o : Outcome) → event_of i ≡ None → (is_shaken o.next.connection.phase ≡ true → is_shaken f.connection.phase ≡ true) → HearsHandshake f i o
hears_none f i o none from = record {
  opens = λ _ _. subst (λ e. BeginsWithHandshake (option_to_list e)) (sym none) tt;
  unheard = λ _ _. none;
  done = λ n t. absurd (true≢false (sym (from t) ∙ n));
}

hears_later : (f : Facts) (i : Incoming) (o : Outcome) → is_shaken f.connection.phase ≡ true → is_shaken o.next.connection.phase ≡ true → HearsHandshake f i o
hears_later f i o before now = record {
  opens = λ t n. absurd (true≢false (sym before ∙ n));
  unheard = λ t n. absurd (true≢false (sym now ∙ n));
  done = λ n t. absurd (true≢false (sym before ∙ n));
}

hears_handshake : (f : Facts) (i : Incoming) (o : Outcome) (n : Option ℕ) → event_of i ≡ Some (announce handshake n) → IsTrue o.accepted → is_shaken o.next.connection.phase ≡ true → HearsHandshake f i o
hears_handshake f i o n e a now = record {
  opens = λ _ _. subst (λ k. BeginsWithHandshake (option_to_list k)) (sym e) tt;
  unheard = λ _ k. absurd (true≢false (sym now ∙ k));
  done = λ _ _. (a, subst (λ k. IsSome k) (sym e) refl);
}

-- a frame that is not accepted
spares : (x : Around) (f : Facts) (i : Incoming) (o : Outcome) → o.accepted ≡ false → events_in o.written ≡ [] → Untouched f o.next → Replies x f i o
spares x f i o out none u = record {
  writes = nothing none (untouched_own f o.next u);
  hears = record {
    opens = λ t _. absurd (true≢false (sym t ∙ out));
    unheard = λ t _. absurd (true≢false (sym t ∙ out));
    done = λ n t. absurd (true≢false (sym t ∙ (ap (λ p. is_shaken p) u.phase ∙ n)));
  };
}

-- the connection goes on, and nothing is said of the own flow
goes : (x : Around) (f : Facts) (i : Incoming) (act : Act) (written : List Message) (g : Facts) → events_in written ≡ [] → SameOwn f g
    → HearsHandshake f i (goes_on x act written g) → Replies x f i (goes_on x act written g)
goes x f i act written g none same h = record { writes = nothing (events_asking x written (gap_to_ask x g) ∙ none) (asked_own f g (gap_to_ask x g) same); hears = h }

-- on a message that has no event
goes_unheard : (x : Around) (f : Facts) (i : Incoming) (act : Act) (written : List Message) (g : Facts) → events_in written ≡ [] → SameOwn f g
    → (is_shaken g.connection.phase ≡ true → is_shaken f.connection.phase ≡ true) → event_of i ≡ None → Replies x f i (goes_on x act written g)
goes_unheard x f i act written g none same from e =
    goes x f i act written g none same (hears_none f i (goes_on x act written g) e (λ t. from (ap (λ p. is_shaken p) (sym (asked_phase g (gap_to_ask x g))) ∙ t)))

passes_by : (x : Around) (f : Facts) (i : Incoming) (act : Act) (written : List Message) (g : Facts) → events_in written ≡ [] → Untouched f g → event_of i ≡ None → Replies x f i (goes_on x act written g)
passes_by x f i act written g none u e = goes_unheard x f i act written g none (untouched_own f g u) (λ t. ap (λ p. is_shaken p) (sym u.phase) ∙ t) e

-- once the handshake is done
goes_later : (x : Around) (f : Facts) (i : Incoming) (act : Act) (written : List Message) (g : Facts) → events_in written ≡ [] → Untouched f g → is_shaken f.connection.phase ≡ true → Replies x f i (goes_on x act written g)
goes_later x f i act written g none u done =
    goes x f i act written g none (untouched_own f g u) (hears_later f i (goes_on x act written g) done (ap (λ p. is_shaken p) (asked_phase g (gap_to_ask x g) ∙ u.phase) ∙ done))

bad : (x : Around) (f : Facts) (i : Incoming) (b : Option BadStart) → Replies x f i (bad_retransmission x f b)
bad x f i None = spares x f i (bad_retransmission x f None) refl refl (still f)
bad x f i (Some b) = spares x f i (bad_retransmission x f (Some b)) refl refl (still f)

refusing : (x : Around) (f g : Facts) (i : Incoming) → Untouched f g → (v : Option Violation) → Replies x f i (refuses x g v)
refusing x f g i same None = spares x f i (refuses x g None) refl refl same
refusing x f g i same (Some v) = spares x f i (refuses x g (Some v)) refl refl same

-- an announcement of the peer's leaves the own flow as it was
abbrev chosen : Facts → ℕ → Bool → Bool → Announced
chosen f n recoverable idempotent =
    if recoverable then record { facts = firm (receiving f (receiver_is.announced f.connection.receiver n)); skipped = None }
    else if idempotent then record { facts = awaiting f n; skipped = jumped_over f.recorded.inbox_next n }
    else record { facts = f; skipped = None }

pub untouched : (x : Around) (f : Facts) (next : Option ℕ) → Untouched f (announced x f next).facts
untouched x f next = by_flow (is_recoverable x.config.peer_flow) (is_idempotent x.config.peer_flow)
  where
    by_flow : (r i : Bool) → Untouched f (chosen f (unwrap_or next 0) r i).facts
    by_flow true i = record { sent = refl; serving = refl; phase = refl }
    by_flow false true = record { sent = refl; serving = refl; phase = refl }
    by_flow false false = record { sent = refl; serving = refl; phase = refl }

announced_same : (x : Around) (f g : Facts) → g.recorded.sent ≡ f.recorded.sent → announced_number x g ≡ announced_number x f
announced_same x f g e = ap (λ k. if is_sequenced x.config.own_flow then Some (k + 1) else None) e

last_of : (a b c d : Bool) → (a && b && c && d) ≡ true → d ≡ true
last_of true true true d t = t
last_of false b c d t = absurd (true≢false (sym t))
last_of true false c d t = absurd (true≢false (sym t))
last_of true true false d t = absurd (true≢false (sym t))

-- an initiator goes on with the handshake
shaking : (x : Around) (f : Facts) (i : Incoming) → event_of i ≡ None → is_shaken f.connection.phase ≡ false → Replies x f i (shaken x f)
shaking x f i none before =
    let g : Facts = in_phase (as_negotiated f) phases.Establishing in
    let next : Facts = having_asked g (gap_to_ask x g) in
    let open_still : is_shaken next.connection.phase ≡ false = ap (λ p. is_shaken p) (asked_phase g (gap_to_ask x g)) in
    record {
      writes = shakes (record {
        tells = events_asking x (opening_establish x f ∷ []) (gap_to_ask x g) ∙ ap (λ k. announce handshake k ∷ []) (sym (announced_same x f next (asked_sent g (gap_to_ask x g))));
        before = before;
        opened = ap (λ p. is_idle p) (asked_phase g (gap_to_ask x g));
        sent = kept x.config f next (asked_sent g (gap_to_ask x g));
        first = λ may. absurd (true≢false (sym (last_of (is_newer x.config) (is_recoverable x.config.own_flow) (not (is_shaken f.connection.phase)) (is_shaken next.connection.phase) may) ∙ open_still));
        serving = asked_serving g (gap_to_ask x g);
      });
      hears = hears_none f i (shaken x f) none (λ t. absurd (true≢false (sym t ∙ ap (λ p. is_shaken p) (asked_phase g (gap_to_ask x g)))));
    }

-- an acceptor waits for its client before anything is written
awaiting_client : (x : Around) (f : Facts) → awaits_client x f ≡ true → is_idle f.connection.phase ≡ true
awaiting_client x f t = and_right (not (is_initiator x.config.role)) (is_idle f.connection.phase) t
  where
    and_right : (a b : Bool) → (a && b) ≡ true → b ≡ true
    and_right true b e = e
    and_right false b e = absurd (true≢false (sym e))

-- Establish is acknowledged
acknowledging : (x : Around) (f : Facts) (i : Incoming) (timestamp keepalive : ℕ) (next : Option ℕ) (expected : Expected) (a : Announced) → Untouched f a.facts
    → event_of i ≡ Some (announce handshake next) → is_idle f.connection.phase ≡ true → Replies x f i (acknowledges x timestamp keepalive expected a)
acknowledging x f i timestamp keepalive next expected a u e idle =
    let r : Facts = returned x a.facts expected in
    let g : Facts = established (softened x expected r) keepalive in
    let after : Facts = having_asked g (gap_to_ask x g) in
    let ack : Message = establishment_ack x.config.session timestamp x.config.keepalive (announced_number x r) (answers_next x expected r) in
    let before : is_shaken f.connection.phase ≡ false = not_opened f.connection.phase idle in
    let done : is_shaken after.connection.phase ≡ true = ap (λ p. is_shaken p) (asked_phase g (gap_to_ask x g)) in
    record {
      writes = shakes (record {
        tells = events_asking x (ack ∷ told_skip a.skipped) (gap_to_ask x g)
            ∙ (ap (λ es. announce handshake (announced_number x r) ∷ es) (skip_says_nothing a.skipped)
            ∙ ap (λ k. announce handshake k ∷ []) (sym (announced_same x r after (asked_sent g (gap_to_ask x g)))));
        before = before;
        opened = ap (λ p. is_idle p) (asked_phase g (gap_to_ask x g));
        sent = returned_keeps x f a.facts after expected before done u.sent (asked_sent g (gap_to_ask x g));
        first = λ _. idle;
        serving = asked_serving g (gap_to_ask x g) ∙ (ap (λ c. c.serving) (returned_stays x a.facts expected).connection ∙ u.serving);
      });
      hears = hears_handshake f i (acknowledges x timestamp keepalive expected a) next e refl done;
    }

establish_all : (x : Around) (f : Facts) (id : List ℕ) (timestamp keepalive : ℕ) (next : Option ℕ) (expected : Expected) (credentials : List ℕ)
    → AllRows (Replies x f (session (establish id timestamp keepalive next expected credentials))) (establish_rows_in x f id timestamp keepalive next expected credentials)
establish_all x f id timestamp keepalive next expected credentials = by_place (awaits_client x f) (serves_client x f) refl
  where
    i : Incoming
    i = session (establish id timestamp keepalive next expected credentials)

    P : Outcome → Type 0
    P = Replies x f i

    by_place : (p q : Bool) → awaits_client x f ≡ p → AllRows P (if p then establish_rows x f id timestamp keepalive next expected credentials else if q then established_again_rows x f id timestamp else [])
    by_place true q waits = (
      λ _. spares x f i _ refl refl (still f),
      λ _. (
        λ _. spares x f i _ refl refl (still f),
        λ _. (
          λ _. spares x f i _ refl refl (still f),
          λ _. announced_rows P x f 4 next (acknowledges x timestamp keepalive expected) (refusing x f f i (still f))
              (λ _. acknowledging x f i timestamp keepalive next expected (announced x f next) (untouched x f next) refl (awaiting_client x f waits)),
        ),
      ),
    )
    by_place false true waits = (λ _. spares x f i _ refl refl (still f), λ _. (λ _. spares x f i _ refl refl (still f), λ _. tt))
    by_place false false waits = tt

-- the Sequence that tells where this end starts, by whether it is written
abbrev told_if : Bool → Expected → List Message
told_if b e = if b then sequence (number_in e) ∷ [] else []

-- Establish was acknowledged: nothing is said of the own flow, but where fewer entries count as sent
acknowledged : (x : Around) (f : Facts) (i : Incoming) (keepalive : ℕ) (next : Option ℕ) (expected : Expected) (a : Announced) → Untouched f a.facts → event_of i ≡ Some (announce handshake next)
    → is_establishing f.connection.phase ≡ true → Replies x f i (reached x keepalive expected a)
acknowledged x f i keepalive next expected a u e phase = by_tests (takes x a.facts expected) (number_in expected == a.facts.recorded.sent + 1) refl refl
  where
    interval : ℕ
    interval = min 60000 (max 100 keepalive)

    is_made : is_reached f.connection.phase ≡ true
    is_made = ap (λ b. b || is_shaken f.connection.phase) phase

    before : is_shaken f.connection.phase ≡ false
    before = not_established f.connection.phase phase

    told : Bool → Bool → List Message
    told t same = told_skip a.skipped ++ told_if (t && not same) expected

    after : Bool → Facts
    after t = established (returned_if t a.facts expected) interval

    hears : (t same : Bool) → HearsHandshake f i (goes_on x (skip_of a.skipped) (told t same) (after t))
    hears t same = hears_handshake f i (goes_on x (skip_of a.skipped) (told t same) (after t)) next e refl (ap (λ p. is_shaken p) (asked_phase (after t) (gap_to_ask x (after t))))

    quiet : (t same : Bool) → (t && not same) ≡ false → (after t).recorded.sent ≡ f.recorded.sent → (after t).connection.serving ≡ f.connection.serving
        → Replies x f i (goes_on x (skip_of a.skipped) (told t same) (after t))
    quiet t same none sent serving =
        goes x f i (skip_of a.skipped) (told t same) (after t)
        (flat_map-append _ (told_skip a.skipped) (told_if (t && not same) expected)
        ∙ (ap (λ es. es ++ events_in (told_if (t && not same) expected)) (skip_says_nothing a.skipped) ∙ ap (λ b. events_in (told_if b expected)) none))
        (record { sent = sent; serving = serving; stays = λ _. refl; reached = λ _. is_made; idle = λ t. absurd (true≢false (sym t)) })
        (hears t same)

    by_tests : (t same : Bool) → takes x a.facts expected ≡ t → (number_in expected == a.facts.recorded.sent + 1) ≡ same
        → Replies x f i (goes_on x (skip_of a.skipped) (told t same) (after t))
    by_tests false same is eq = quiet false same refl u.sent u.serving
    by_tests true true is eq = quiet true true refl (omega (arith, eqb-true (number_in expected) (a.facts.recorded.sent + 1) eq, u.sent)) u.serving
    by_tests true false is eq =
        let k = taken x a.facts expected is in
        let g : Facts = after true in
        let last : Facts = having_asked g (gap_to_ask x g) in
        let done : is_shaken last.connection.phase ≡ true = ap (λ p. is_shaken p) (asked_phase g (gap_to_ask x g)) in
        let sent : last.recorded.sent ≡ number_in expected - 1 = asked_sent g (gap_to_ask x g) in
        let number : number_in expected ≡ last.recorded.sent + 1 = omega (arith, sent, k.low) in
        let other : number_in expected ≢ a.facts.recorded.sent + 1 = λ same. true≢false (sym (eq-eqb (number_in expected) (a.facts.recorded.sent + 1) same) ∙ eq) in
        record {
          writes = returns (record {
            tells = events_asking x (told true false) (gap_to_ask x g)
                ∙ (flat_map-append _ (told_skip a.skipped) (sequence (number_in expected) ∷ [])
                ∙ (ap (λ es. es ++ announce in_flow (Some (number_in expected)) ∷ []) (skip_says_nothing a.skipped) ∙ ap (λ n. announce in_flow (Some n) ∷ []) number));
            may = ap (λ b. b && is_recoverable x.config.own_flow && not (is_shaken f.connection.phase) && is_shaken last.connection.phase) k.newer
                ∙ (ap (λ b. b && not (is_shaken f.connection.phase) && is_shaken last.connection.phase) k.own
                ∙ (ap (λ b. not b && is_shaken last.connection.phase) before ∙ done));
            reached = is_made;
            sent = omega (arith, number, k.high, other, u.sent);
            serving = asked_serving g (gap_to_ask x g) ∙ u.serving;
          });
          hears = hears true false;
        }

-- the peer's finish is answered
answered_facts : (f h : Facts) (last : ℕ) → Untouched f h → Untouched f (peer_finished h (peer.Exchanged last) (Some (unwrap_or h.recorded.peer_last last)))
answered_facts f h last u = record { sent = u.sent; serving = u.serving; phase = u.phase }

-- Sequence, where its announcement stands
sequence_all : (x : Around) (f ended : Facts) (i : Incoming) (next : ℕ) (a : Announced) → Untouched f ended → Untouched f a.facts → is_shaken f.connection.phase ≡ true → Replies x f i (sequence_follows x ended next a)
sequence_all x f ended i next a same far done =
    by_row (Replies x f i) (is_past_finish x ended next) _ (sequence_taken x a) (λ _. spares x f i _ refl refl same)
    (λ _. by_row (Replies x f i) (is_filled x a.facts) (answers_finish x a.facts last) _
    (λ _. goes_later x f i (finish_act a.facts.recorded.peer_last last) (finished_receiving x.config.session ∷ []) (peer_finished a.facts (peer.Exchanged last) (Some (unwrap_or a.facts.recorded.peer_last last))) refl (answered_facts f a.facts last far) done)
    (λ _. goes_later x f i (skip_of a.skipped) (told_skip a.skipped) a.facts (skip_says_nothing a.skipped) far done))
  where
    last : ℕ
    last = unwrap_or (awaits_gap a.facts.connection.peer_finish) 0

finishing : (x : Around) (f : Facts) (i : Incoming) (last : ℕ) → event_of i ≡ None → Replies x f i (finished x f last)
finishing x f i last none =
    by_row (Replies x f i) (is_some (gap_of x f)) (accepts x [] (peer_finished f (peer.Read last) f.recorded.peer_last)) (answers_finish x f last)
    (λ _. passes_by x f i acts.Nothing [] (peer_finished f (peer.Read last) f.recorded.peer_last) refl (record { sent = refl; serving = refl; phase = refl }) none)
    (λ _. passes_by x f i (finish_act f.recorded.peer_last last) (finished_receiving x.config.session ∷ []) (peer_finished f (peer.Exchanged last) (Some (unwrap_or f.recorded.peer_last last))) refl (answered_facts f f last (still f)) none)

-- a range that is served is one of entries that were sent, of a recoverable flow
record Judged (recoverable : Bool) (sent : ℕ) (range : Range) : Type 0 where
  recovers : recoverable ≡ true
  from_one : 1 ≤ range.from
  within : range.from ≤ sent

judged_within : (mine recoverable : Bool) (from count sent : ℕ) (range : Range) → judged mine recoverable from count sent ≡ Ok range → Judged recoverable sent range
judged_within mine recoverable from count sent range = by_tests mine recoverable (from == 0) (count == 0) (nat_lt (sent + 1) (from + count)) (nat_lt request_limit count) refl refl refl
  where
    by_tests : (m r zero_from zero_count past many : Bool) → (from == 0) ≡ zero_from → (count == 0) ≡ zero_count → nat_lt (sent + 1) (from + count) ≡ past
        → (if not m then Err InvalidSession else if not r || zero_from || zero_count || past then Err OutOfRange else if many then Err RequestLimitExceeded else Ok (record { from = from; count = count })) ≡ Ok range
        → Judged r sent range
    by_tests false r zf zc past many a b c e = absurd cc
    by_tests true false zf zc past many a b c e = absurd cc
    by_tests true true true zc past many a b c e = absurd cc
    by_tests true true false true past many a b c e = absurd cc
    by_tests true true false false true many a b c e = absurd cc
    by_tests true true false false false true a b c e = absurd cc
    by_tests true true false false false false a b c e =
        let made : Range = record { from = from; count = count } in
        let all : made ≡ range = cc e in
        let same : from ≡ range.from = ap (λ (k : Range). k.from) all in
        let low : 1 ≤ from = grind (arith, nat_tests) in
        let some : 1 ≤ count = grind (arith, nat_tests) in
        let high : from + count ≤ sent + 1 = ltb-false (sent + 1) (from + count) c in
        record { recovers = refl; from_one = omega (arith, same, low); within = omega (arith, same, some, high) }

answered : (x : Around) (f : Facts) (i : Incoming) (id : List ℕ) (timestamp : ℕ) (r : Result Range RetransmitCode) → event_of i ≡ None → is_shaken f.connection.phase ≡ true → f.connection.serving ≡ None
    → ((range : Range) → r ≡ Ok range → Judged (is_recoverable x.config.own_flow) f.recorded.sent range) → Replies x f i (request_answered x f id timestamp r)
answered x f i id timestamp (Ok range) none done free ok =
    let g : Facts = serves f (Some range) in
    let j = ok range refl in
    let o : Outcome = accepts x (retransmission x.config.session range.from timestamp range.count ∷ []) g in
    record {
      writes = resends (record {
        range = range;
        tells = events_asking x (retransmission x.config.session range.from timestamp range.count ∷ []) (gap_to_ask x g);
        own = j.recovers;
        free = free;
        done = done;
        stays = ap (λ p. is_shaken p) (asked_phase g (gap_to_ask x g)) ∙ done;
        sent = asked_sent g (gap_to_ask x g);
        serving = asked_serving g (gap_to_ask x g);
        from_one = j.from_one;
        within = j.within;
      });
      hears = hears_none f i o none (λ _. done);
    }
answered x f i id timestamp (Err code) none done free ok = spares x f i _ refl refl (still f)

-- a reply whose message is held writes and hears what it does otherwise
writes_held : (x : Around) (f : Facts) (n : ℕ) → WritesOwn (holding_too x n) f (accepts (holding_too x n) [] (counted f)) → WritesOwn x f (taken_as x (counted f) (Hold n))
writes_held x f n (nothing none same) = nothing none same
writes_held x f n (shakes s) = shakes (record { tells = s.tells; before = s.before; opened = s.opened; sent = s.sent; first = s.first; serving = s.serving })
writes_held x f n (returns r) = returns (record { tells = r.tells; may = r.may; reached = r.reached; sent = r.sent; serving = r.serving })
writes_held x f n (resends r) = resends (record {
  range = r.range;
  tells = r.tells;
  own = r.own;
  free = r.free;
  done = r.done;
  stays = r.stays;
  sent = r.sent;
  serving = r.serving;
  from_one = r.from_one;
  within = r.within;
})

-- a message of a recoverable flow
taking : (x : Around) (f : Facts) (i : Incoming) → is_shaken f.connection.phase ≡ true → (s : Seen) → Replies x f i (taken_as x (counted f) s)
taking x f i done (Deliver n) = goes_later x f i (acts.Apply n) [] (awaiting (counted f) (n + 1)) refl (record { sent = refl; serving = refl; phase = refl }) done
taking x f i done (Hold n) =
    let k = goes_later (holding_too x n) f i acts.Nothing [] (counted f) refl (record { sent = refl; serving = refl; phase = refl }) done in
    record { writes = writes_held x f n k.writes; hears = record { opens = k.hears.opens; unheard = k.hears.unheard; done = k.hears.done } }
taking x f i done (Gap n) = goes_later x f i acts.Nothing [] (counted f) refl (record { sent = refl; serving = refl; phase = refl }) done
taking x f i done (Repeat n) = goes_later x f i acts.Nothing [] (counted f) refl (record { sent = refl; serving = refl; phase = refl }) done

message_rows : (x : Around) (f : Facts) (p : List ℕ) → AllRows (Replies x f (application p)) (rows_of x f (application p))
message_rows x f p =
    let i = application p in
    all_within (Replies x f i) (is_established f.connection.phase) _ (λ done. (
      λ _. spares x f i _ refl refl (still f),
      λ _. (
        λ _. spares x f i _ refl refl (still f),
        λ _. (
          λ _. spares x f i _ refl refl (still f),
          λ _. (
            λ _. goes_later x f i (acts.Apply f.recorded.inbox_next) [] (awaiting f (f.recorded.inbox_next + 1)) refl (record { sent = refl; serving = refl; phase = refl }) (is_done f.connection.phase done),
            λ _. (
              λ _. bad x f i (request_is.message_fault f.connection.requester),
              λ _. (λ _. taking x f i (is_done f.connection.phase done) (receiver_is.seen f.connection.receiver), λ _. tt),
            ),
          ),
        ),
      ),
    ))

session_rows : (x : Around) (f : Facts) (m : Message) → AllRows (Replies x f (session m)) (rows_of x f (session m))
session_rows x f (negotiate id timestamp flow credentials) =
    let i = session (negotiate id timestamp flow credentials) in
    all_within (Replies x f i) (awaits_client x f) _ (λ _. (
      λ _. spares x f i _ refl refl (still f),
      λ _. (
        λ _. spares x f i _ refl refl (still f),
        λ _. (
          λ _. spares x f i _ refl refl (still f),
          λ _. (
            λ _. spares x f i _ refl refl (still f),
            λ _. (
              λ _. passes_by x f i acts.Negotiated (negotiation_response x.config.session timestamp (flow_code x.config.own_flow) [] ∷ []) (as_negotiated f) refl
                  (record { sent = refl; serving = refl; phase = refl }) refl,
              λ _. tt,
            ),
          ),
        ),
      ),
    ))
session_rows x f (negotiation_response id timestamp flow credentials) =
    let i = session (negotiation_response id timestamp flow credentials) in
    own_rows (Replies x f i) x f 2 id _ (λ e. spares x f i _ refl refl (still f)) (all_within (Replies x f i) (is_negotiating f.connection.phase) _ (λ n. (
      λ _. spares x f i _ refl refl (still f),
      λ _. (λ _. shaking x f i refl (not_negotiated f.connection.phase n), λ _. tt),
    )))
session_rows x f (negotiation_reject id timestamp code reason) =
    let i = session (negotiation_reject id timestamp code reason) in
    own_rows (Replies x f i) x f 3 id _ (λ e. spares x f i _ refl refl (still f)) (all_within (Replies x f i) (is_negotiating f.connection.phase) _ (λ n. (
      λ _. shaking x f i refl (not_negotiated f.connection.phase n),
      λ _. (λ _. spares x f i _ refl refl (still f), λ _. tt),
    )))
session_rows x f (establish id timestamp keepalive next expected credentials) = establish_all x f id timestamp keepalive next expected credentials
session_rows x f (establishment_ack id timestamp keepalive next expected) =
    let i = session (establishment_ack id timestamp keepalive next expected) in
    own_rows (Replies x f i) x f 5 id _ (λ e. spares x f i _ refl refl (still f)) (all_within (Replies x f i) (is_establishing f.connection.phase) _ (λ n.
    announced_rows (Replies x f i) x f 5 next (reached x keepalive expected) (refusing x f f i (still f))
    (λ _. acknowledged x f i keepalive next expected (announced x f next) (untouched x f next) refl n)))
session_rows x f (establishment_reject id timestamp code reason) =
    let i = session (establishment_reject id timestamp code reason) in
    own_rows (Replies x f i) x f 6 id _ (λ e. spares x f i _ refl refl (still f)) (all_within (Replies x f i) (is_establishing f.connection.phase) _ (λ n. (
      λ _. goes_unheard x f i acts.Nothing (opening_negotiate x ∷ []) (in_phase f phases.Negotiating) refl
          (record { sent = refl; serving = refl; stays = λ t. absurd (true≢false (sym t ∙ not_established f.connection.phase n)); reached = λ t. absurd (true≢false (sym t)); idle = λ t. absurd (true≢false (sym t)) })
          (λ t. absurd (true≢false (sym t))) refl,
      λ _. (λ _. spares x f i _ refl refl (still f), λ _. tt),
    )))
session_rows x f (sequence next) =
    let i = session (sequence next) in
    let ended : Facts = requesting f (request_is.after_sequence f.connection.requester) in
    let same : Untouched f ended = record { sent = refl; serving = refl; phase = refl } in
    let u = untouched x ended (Some next) in
    let far : Untouched f (announced x ended (Some next)).facts = record { sent = u.sent; serving = u.serving; phase = u.phase } in
    all_within (Replies x f i) (is_established f.connection.phase) _ (λ done. (
      λ _. bad x f i (request_is.sequence_fault f.connection.requester),
      λ _. announced_rows (Replies x f i) x ended 7 (Some next) (sequence_follows x ended next) (refusing x f ended i same)
          (λ _. sequence_all x f ended i next (announced x ended (Some next)) same far (is_done f.connection.phase done)),
    ))
session_rows x f unsequenced_heartbeat = (λ _. passes_by x f (session unsequenced_heartbeat) acts.Nothing [] f refl (still f) refl, λ _. tt)
session_rows x f (retransmit_request id timestamp first count) =
    let i = session (retransmit_request id timestamp first count) in
    all_within (Replies x f i) (is_established f.connection.phase) _ (λ done. (
      λ _. spares x f i _ refl refl (still f),
      λ free. (
        λ _. answered x f i id timestamp (judged (is_own x id) (is_recoverable x.config.own_flow) first count f.recorded.sent) refl (is_done f.connection.phase done)
            (some-none f.connection.serving free) (λ range e. judged_within (is_own x id) (is_recoverable x.config.own_flow) first count f.recorded.sent range e),
        λ _. tt,
      ),
    ))
session_rows x f (retransmission id next timestamp count) =
    let i = session (retransmission id next timestamp count) in
    own_rows (Replies x f i) x f 10 id _ (λ e. spares x f i _ refl refl (still f)) (all_within (Replies x f i) (is_established f.connection.phase) _ (λ done. (
      λ _. bad x f i (request_is.start_fault (request_is.outstanding f.connection.requester) next count),
      λ _. (
        λ _. goes_later x f i acts.Nothing [] (restarted f next count) refl (record { sent = refl; serving = refl; phase = refl }) (is_done f.connection.phase done),
        λ _. tt,
      ),
    )))
session_rows x f (retransmit_reject id timestamp code reason) =
    let i = session (retransmit_reject id timestamp code reason) in
    own_rows (Replies x f i) x f 11 id _ (λ e. spares x f i _ refl refl (still f)) (all_within (Replies x f i) (is_established f.connection.phase) _ (λ _.
    (λ _. spares x f i _ refl refl (still f), λ _. tt)))
session_rows x f (applied first count) = (λ _. passes_by x f (session (applied first count)) acts.Nothing [] f refl (still f) refl, λ _. tt)
session_rows x f (not_applied first count) =
    let i = session (not_applied first count) in (
      λ _. passes_by x f i (acts.Told first count) [] f refl (still f) refl,
      λ _. (λ _. passes_by x f i acts.Nothing [] f refl (still f) refl, λ _. tt),
    )
session_rows x f (finished_sending id last) =
    let i = session (finished_sending id last) in
    own_rows (Replies x f i) x f 14 id _ (λ e. spares x f i _ refl refl (still f)) (all_within (Replies x f i) (is_established f.connection.phase) _ (λ _. (
      λ _. refusing x f f i (still f) (finish_fault x f last),
      λ _. (λ _. finishing x f i (finished_last x last) refl, λ _. tt),
    )))
session_rows x f (finished_receiving id) =
    let i = session (finished_receiving id) in
    own_rows (Replies x f i) x f 15 id _ (λ e. spares x f i _ refl refl (still f)) (all_within (Replies x f i) (is_established f.connection.phase) _ (λ _. (
      λ _. passes_by x f i acts.Nothing [] (own_finishing f own.Exchanged) refl (record { sent = refl; serving = refl; phase = refl }) refl,
      λ _. tt,
    )))
session_rows x f (terminate id code reason) =
    let i = session (terminate id code reason) in
    let answer : Row = row true (ends x f 1 (endings.PeerTerminated code)) in
    let rest : AllRows (Replies x f i) (answer ∷ []) = (λ _. spares x f i answer.outcome refl refl (still f), λ _. tt) in
    own_rows (Replies x f i) x f 16 id (answer ∷ []) (λ e. spares x f i _ refl refl (still f)) rest

each_row : (x : Around) (f : Facts) (i : Incoming) → AllRows (Replies x f i) (rows_of x f i)
each_row x f (application p) = message_rows x f p
each_row x f (session m) = session_rows x f m
each_row x f wrong_order = (λ _. spares x f wrong_order _ refl refl (still f), λ _. tt)
each_row x f too_short = (λ _. spares x f too_short _ refl refl (still f), λ _. tt)
each_row x f (unknown template) = (λ _. spares x f (unknown template) _ refl refl (still f), λ _. tt)

replies : (x : Around) (f : Facts) (i : Incoming) → Replies x f i (reply_of x f i)
replies x f i =
    by_row (Replies x f i) (is_closing f.connection.phase && not (terminates x i)) (ignores f) (answer_of x f i)
    (λ _. spares x f i (ignores f) refl refl (still f))
    (λ _. all_rows (Replies x f i) (not_in_phase x f (template_of i)) (rows_of x f i) (spares x f i _ refl refl (still f)) (each_row x f i))

pub frame_writes : FrameWrites
frame_writes x f i = (replies x f i).writes

pub frame_hears : FrameHears
frame_hears x f i = (replies x f i).hears
