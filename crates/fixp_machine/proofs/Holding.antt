-- What each reply makes of what is held, row by row.
use Rattle.std.proofs.Common.{◌≡◌, ℕ, ◌+◌, ◌<◌, ◌≤◌, ◌==◌, ◌&&◌, ◌||◌, max, min, not, nat_lt, Bool, true, false, if◌then◌else◌, List, [], ◌∷◌, ◌++◌, Option, Some, None, IsSome, refl, sym, ap, subst, ◌∙◌, arith, true≢false}
use Rattle.std.specs.Prelude.{⊤, is_some, is_none, unwrap_or, Result, Ok, Err}
use Rattle.fixp_msgs.specs.declared.numbering.Range.{Range}
use Rattle.fixp_msgs.specs.Flow.{flow_code}
use Rattle.fixp_msgs.specs.declared.messages.Expected.{Expected}
use Rattle.fixp_msgs.specs.Message.{Message, negotiate, negotiation_response, negotiation_reject, establish, establishment_ack, establishment_reject, sequence, unsequenced_heartbeat, retransmit_request, retransmission, retransmit_reject, applied, not_applied, finished_sending, finished_receiving, terminate}
use Rattle.flow_recover.specs.declared.numbers.Seen.{Seen}
use Rattle.flow_recover.specs.declared.numbers.Seen.TheVariants.{Deliver, Hold, Gap, Repeat}
use Rattle.flow_recover.specs.Receiving as receiver_is
use Rattle.flow_retrans.specs.declared.requester.BadStart.{BadStart}
use Rattle.flow_retrans.specs.declared.request.Request.{Request}
use Rattle.flow_retrans.specs.declared.judging.RetransmitCode.{RetransmitCode}
use Rattle.flow_retrans.specs.Judging.{judged}
use Rattle.flow_retrans.specs.Requests as request_is
use Rattle.fixp_shake.specs.declared.phase.Phase.TheVariants as phases
use Rattle.fixp_shake.specs.declared.violation.Violation.{Violation}
use Rattle.fixp_shake.specs.declared.violation.Violation.TheVariants.{AfterFinish}
use Rattle.fixp_shake.specs.Flows.{is_recoverable, is_idempotent, is_sequenced}
use Rattle.fixp_shake.specs.Phases.{is_idle, is_negotiating, is_establishing, is_established, is_closing, is_shaken}
use Rattle.fixp_replies.specs.declared.act.Act.{Act}
use Rattle.fixp_replies.specs.declared.act.Act.TheVariants as acts
use Rattle.fixp_replies.specs.declared.act.Ending.{Ending}
use Rattle.fixp_replies.specs.declared.act.Ending.TheVariants as endings
use Rattle.fixp_replies.specs.declared.facts.Facts.{Facts}
use Rattle.fixp_replies.specs.declared.facts.PeerFinish.TheVariants as peer
use Rattle.fixp_replies.specs.declared.facts.OwnFinish.TheVariants as own
use Rattle.fixp_replies.specs.Incoming.{Incoming, application, session, wrong_order, too_short, unknown}
use Rattle.fixp_replies.specs.Facts.{Around, is_initiator, is_own, in_phase, receiving, requesting, firm, serves, negotiated as as_negotiated, awaiting, gap_of, gap_to_ask, holding_too, having_asked, announced_number, message_number, peer_last, awaits_gap}
use Rattle.fixp_replies.specs.Outcomes.{Outcome, Row, row, goes_on, accepts, rejects, ignores, ends_with, ends, not_in_phase, skip_of, told_skip, opening_negotiate, opening_establish}
use Rattle.fixp_replies.specs.Announcing.{Announced, jumped_over, announced, refuses, announcement_rows}
use Rattle.fixp_replies.specs.Handshake.{awaits_client, serves_client, established, acknowledges, establish_rows, established_again_rows, establish_rows_in, shaken, reached}
use Rattle.fixp_replies.specs.Expecting.{answers_next, returned, told_return, softened}
use Rattle.fixp_replies.specs.Flowing.{bad_retransmission, counted, taken_as, finish_act, peer_finished, answers_finish, is_filled, is_past_finish, sequence_taken, sequence_follows, restarted, finished_last, finish_fault, finished}
use Rattle.fixp_replies.specs.Serving.{request_answered, own_finishing}
use Rattle.fixp_replies.specs.Replies.{template_of, rows_of, answer_of, terminates, reply_of}
use Rattle.fixp_machine.specs.Fitting.{IsMessage}
use Rattle.std.proofs.lemmas.Option.{none-some}
use Rattle.std.proofs.lemmas.Bool.{false≢true}
use Rattle.fixp_machine.specs.Sound.{AwaitsSame, HeldFits, MayHold, KeepsHeld, HoldingGoesOn}
use Rattle.fixp_machine.proofs.Expecting.{returned_stays}
use Rattle.fixp_machine.proofs.Rows.{AllRows, by_row, all_rows, all_within, announced_rows, own_rows}
use Rattle.fixp_machine.proofs.Tests.{not_true, delivers, holds, is_done, not_negotiated, not_established, not_opened}
use Rattle.fixp_machine.proofs.Keeping.{number_of}

-- what was held fits facts that stand no earlier in the handshake, and that are not soft where these are not
abbrev FitsStill : (f g : Facts) → Type 0
FitsStill f g = (held : Option ℕ) → HeldFits held f → HeldFits held g

abbrev Steps : Around → (f g : Facts) → Type 0
Steps x f g = is_recoverable x.config.peer_flow ≡ true → (f.recorded.inbox_next ≤ g.recorded.inbox_next) × (g.recorded.inbox_next ≤ f.recorded.inbox_next + 1)

-- and nothing more is held
record Kept (x : Around) (f : Facts) (o : Outcome) : Type 0 where
  keeps : KeepsHeld x.config x.most f o
  none : o.holds ≡ None

-- the inbox stays, and so do the phase and softness
still : (x : Around) (f g : Facts) → g.recorded.inbox_next ≡ f.recorded.inbox_next → Steps x f g
still x f g e r = (omega (arith, e), omega (arith, e))

fits_still : (f g : Facts) → is_shaken g.connection.phase ≡ is_shaken f.connection.phase → g.connection.soft ≡ f.connection.soft → FitsStill f g
fits_still f g p s held k = record { opening = λ n. k.opening (sym p ∙ n); soft = λ t. k.soft (sym s ∙ t) }

-- a request that is made changes none of it
asked_steps : (x : Around) (f g : Facts) (r : Option Range) → Steps x f g → Steps x f (having_asked g r)
asked_steps x f g None s = s
asked_steps x f g (Some r) s = s

asked_fits : (f g : Facts) (r : Option Range) → FitsStill f g → FitsStill f (having_asked g r)
asked_fits f g None k = k
asked_fits f g (Some r) k = λ held h. let b = k held h in record { opening = b.opening; soft = b.soft }

going : (x : Around) (f g : Facts) (act : Act) (written : List Message) → Steps x f g → FitsStill f g → Kept x f (goes_on x act written g)
going x f g act written s k = record { keeps = record { steps = asked_steps x f g (gap_to_ask x g) s; fits = asked_fits f g (gap_to_ask x g) k; holds = tt }; none = refl }

-- nothing of it moves
staying : (x : Around) (f g : Facts) (act : Act) (written : List Message) → g.recorded.inbox_next ≡ f.recorded.inbox_next
    → is_shaken g.connection.phase ≡ is_shaken f.connection.phase → g.connection.soft ≡ f.connection.soft → Kept x f (goes_on x act written g)
staying x f g act written n p s = going x f g act written (still x f g n) (fits_still f g p s)

rejecting : (x : Around) (f : Facts) (written : List Message) → Kept x f (rejects written f)
rejecting x f written = record { keeps = record { steps = still x f f refl; fits = λ held k. k; holds = tt }; none = refl }

ending : (x : Around) (f : Facts) (written : List Message) (e : Ending) → Kept x f (ends_with x f written e)
ending x f written e = record { keeps = record { steps = still x f f refl; fits = λ held k. k; holds = tt }; none = refl }

-- the same of facts with other requests
ending_of : (x : Around) (f : Facts) (q : Request) (written : List Message) (e : Ending) → Kept x f (ends_with x (requesting f q) written e)
ending_of x f q written e = record { keeps = record { steps = still x f f refl; fits = λ held k. record { opening = k.opening; soft = k.soft }; holds = tt }; none = refl }

refusing : (x : Around) (f : Facts) (v : Option Violation) → Kept x f (refuses x f v)
refusing x f None = rejecting x f []
refusing x f (Some v) = ending x f _ _

refusing_of : (x : Around) (f : Facts) (q : Request) (v : Option Violation) → Kept x f (refuses x (requesting f q) v)
refusing_of x f q None = record { keeps = record { steps = still x f f refl; fits = λ held k. record { opening = k.opening; soft = k.soft }; holds = tt }; none = refl }
refusing_of x f q (Some v) = ending_of x f q _ _

bad : (x : Around) (f : Facts) (b : Option BadStart) → Kept x f (bad_retransmission x f b)
bad x f None = rejecting x f []
bad x f (Some b) = ending x f _ _

-- an announcement moves the inbox of no recoverable flow, leaves the phase, and makes nothing soft
record Announces (x : Around) (f : Facts) (a : Announced) : Type 0 where
  steps : is_recoverable x.config.peer_flow ≡ true → a.facts.recorded.inbox_next ≡ f.recorded.inbox_next
  phase : a.facts.connection.phase ≡ f.connection.phase
  soft : a.facts.connection.soft ≡ true → f.connection.soft ≡ true

announces : (x : Around) (f : Facts) (next : Option ℕ) → Announces x f (announced x f next)
announces x f next = by_flow (is_recoverable x.config.peer_flow) (is_idempotent x.config.peer_flow) refl
  where
    chosen : (r i : Bool) → Announced
    chosen r i =
        if r then record { facts = firm (receiving f (receiver_is.announced f.connection.receiver (unwrap_or next 0))); skipped = None }
        else if i then record { facts = awaiting f (unwrap_or next 0); skipped = jumped_over f.recorded.inbox_next (unwrap_or next 0) }
        else record { facts = f; skipped = None }

    by_flow : (r i : Bool) → is_recoverable x.config.peer_flow ≡ r → Announces x f (chosen r i)
    by_flow true i e = record { steps = λ _. refl; phase = refl; soft = λ t. absurd (true≢false (sym t)) }
    by_flow false true e = record { steps = λ t. absurd (true≢false (sym t ∙ e)); phase = refl; soft = λ t. t }
    by_flow false false e = record { steps = λ _. refl; phase = refl; soft = λ t. t }

-- the handshake is done
done : (x : Around) (f : Facts) (a : Announced) (e : Expected) (g : Facts) (act : Act) (written : List Message) → is_shaken f.connection.phase ≡ false → Announces x f a
    → g.recorded.inbox_next ≡ (returned x a.facts e).recorded.inbox_next → is_shaken g.connection.phase ≡ true → Kept x f (goes_on x act written g)
done x f a e g act written before is next shaken = going x f g act written
    (λ r. let same = next ∙ ((returned_stays x a.facts e).inbox_next ∙ is.steps r) in (omega (arith, same), omega (arith, same)))
    (λ held k. record { opening = λ n. absurd (true≢false (sym shaken ∙ n)); soft = λ _. k.opening before })

answering : (x : Around) (f g : Facts) (last : ℕ) → Steps x f g → FitsStill f g → Kept x f (answers_finish x g last)
answering x f g last s k = going x f (peer_finished g (peer.Exchanged last) (Some (unwrap_or g.recorded.peer_last last)))
    (finish_act g.recorded.peer_last last) (finished_receiving x.config.session ∷ [])
    s (λ held h. let b = k held h in record { opening = b.opening; soft = b.soft })

-- Sequence, where its announcement stands
following : (x : Around) (f : Facts) (q : Request) (next : ℕ) (a : Announced) → Announces x (requesting f q) a → Kept x f (sequence_follows x (requesting f q) next a)
following x f q next a is =
    by_row (Kept x f) (is_past_finish x (requesting f q) next) _ (sequence_taken x a)
    (λ _. ending_of x f q _ _)
    (λ _. by_row (Kept x f) (is_filled x a.facts) (answers_finish x a.facts (unwrap_or (awaits_gap a.facts.connection.peer_finish) 0)) (goes_on x (skip_of a.skipped) (told_skip a.skipped) a.facts)
    (λ _. answering x f a.facts (unwrap_or (awaits_gap a.facts.connection.peer_finish) 0) steps fits)
    (λ _. going x f a.facts (skip_of a.skipped) (told_skip a.skipped) steps fits))
  where
    steps : Steps x f a.facts
    steps r = let same = is.steps r in (omega (arith, same), omega (arith, same))

    fits : FitsStill f a.facts
    fits held k = record { opening = λ n. k.opening (ap (λ p. is_shaken p) (sym is.phase) ∙ n); soft = λ t. k.soft (is.soft t) }

-- a message of a recoverable flow
taking : (x : Around) (f : Facts) → is_recoverable x.config.peer_flow ≡ true → is_shaken f.connection.phase ≡ true → AwaitsSame x.config f
    → receiver_is.number f.connection.receiver ≤ x.most → (s : Seen) → receiver_is.seen f.connection.receiver ≡ s → KeepsHeld x.config x.most f (taken_as x (counted f) s)
taking x f rec shaken s top (Deliver n) is =
    let r = f.connection.receiver in
    let d = delivers r.next (receiver_is.number r) n is in
    let w = s rec in
    (going x f (awaiting (counted f) (n + 1)) (acts.Apply n) [] (λ _. (omega (arith, d.0, d.1, w), omega (arith, d.0, d.1, w))) (started f (awaiting (counted f) (n + 1)) refl refl)).keeps
  where
    started : (f g : Facts) → is_shaken g.connection.phase ≡ is_shaken f.connection.phase → g.connection.soft ≡ false → FitsStill f g
    started f g p s held k = record { opening = λ n. k.opening (sym p ∙ n); soft = λ t. absurd (true≢false (sym t ∙ s)) }
taking x f rec shaken s top (Hold n) is =
    let r = f.connection.receiver in
    let d = holds r.next (receiver_is.number r) n is in
    let w = s rec in
    let k = (going (holding_too x n) f (counted f) acts.Nothing [] (still (holding_too x n) f (counted f) refl)
    (λ held h. record { opening = h.opening; soft = λ t. absurd (true≢false (sym t)) })).keeps in
    record {
      steps = k.steps;
      fits = k.fits;
      holds = record {
        flow = rec;
        number = d.0;
        above = omega (arith, d.0, d.1, w);
        near = omega (arith, d.0, d.2, w);
        within = omega (arith, d.0, top);
        act = refl;
        goes_on = refl;
        accepted = refl;
        shaken = shaken;
        shaken_still = asked_shaken (gap_to_ask (holding_too x n) (counted f));
        firm = asked_firm (gap_to_ask (holding_too x n) (counted f));
      };
    }
  where
    asked_shaken : (g : Option Range) → is_shaken (having_asked (counted f) g).connection.phase ≡ true
    asked_shaken None = shaken
    asked_shaken (Some g) = shaken

    asked_firm : (g : Option Range) → (having_asked (counted f) g).connection.soft ≡ false
    asked_firm None = refl
    asked_firm (Some g) = refl
taking x f rec shaken s top (Gap n) is = (going x f (counted f) acts.Nothing [] (still x f (counted f) refl)
    (λ held h. record { opening = h.opening; soft = λ t. absurd (true≢false (sym t)) })).keeps
taking x f rec shaken s top (Repeat n) is = (going x f (counted f) acts.Nothing [] (still x f (counted f) refl)
    (λ held h. record { opening = h.opening; soft = λ t. absurd (true≢false (sym t)) })).keeps

message_rows : (x : Around) (f : Facts) (p : List ℕ) → AwaitsSame x.config f → AllRows (KeepsHeld x.config x.most f) (rows_of x f (application p))
message_rows x f p s = all_within (KeepsHeld x.config x.most f) (is_established f.connection.phase) _ (λ est. (
  λ _. (ending x f _ _).keeps,
  λ _. (
    λ _. (ending x f _ _).keeps,
    λ _. (
      λ _. (ending x f _ _).keeps,
      λ small. (
        λ e. (going x f (awaiting f (f.recorded.inbox_next + 1)) (acts.Apply f.recorded.inbox_next) [] (λ _. (omega arith, omega arith)) (λ held k. record { opening = k.opening; soft = k.soft })).keeps,
        λ e. (
          λ _. (bad x f (request_is.message_fault f.connection.requester)).keeps,
          λ _. (
            λ _. taking x f (not_true (is_recoverable x.config.peer_flow) e) (is_done f.connection.phase est) s (number_of x f (not_true (is_recoverable x.config.peer_flow) e) small) (receiver_is.seen f.connection.receiver) refl,
            λ _. tt,
          ),
        ),
      ),
    ),
  ),
))

-- an initiator goes on with the handshake
shaking : (x : Around) (f : Facts) → is_shaken f.connection.phase ≡ false → Kept x f (shaken x f)
shaking x f before = staying x f (in_phase (as_negotiated f) phases.Establishing) (if f.recorded.negotiated then acts.Nothing else acts.Negotiated) (opening_establish x f ∷ []) refl (sym before) refl

establish_all : (x : Around) (f : Facts) (id : List ℕ) (timestamp keepalive : ℕ) (next : Option ℕ) (expected : Expected) (credentials : List ℕ)
    → AllRows (Kept x f) (establish_rows_in x f id timestamp keepalive next expected credentials)
establish_all x f id timestamp keepalive next expected credentials = by_place (awaits_client x f) (serves_client x f) refl
  where
    idle : (i d : Bool) → (not i && d) ≡ true → d ≡ true
    idle false d t = t
    idle true d t = absurd (true≢false (sym t))

    acknowledged : awaits_client x f ≡ true → (a : Announced) → Announces x f a → Kept x f (acknowledges x timestamp keepalive expected a)
    acknowledged waits a is = done x f a expected (established (softened x expected (returned x a.facts expected)) keepalive) (skip_of a.skipped)
        (establishment_ack x.config.session timestamp x.config.keepalive (announced_number x (returned x a.facts expected)) (answers_next x expected (returned x a.facts expected)) ∷ told_skip a.skipped)
        (not_opened f.connection.phase (idle (is_initiator x.config.role) (is_idle f.connection.phase) waits)) is refl refl

    by_place : (a b : Bool) → awaits_client x f ≡ a
        → AllRows (Kept x f) (if a then establish_rows x f id timestamp keepalive next expected credentials else if b then established_again_rows x f id timestamp else [])
    by_place true b waits = (
      λ _. rejecting x f _,
      λ _. (
        λ _. rejecting x f _,
        λ _. (
          λ _. rejecting x f _,
          λ _. announced_rows (Kept x f) x f 4 next (acknowledges x timestamp keepalive expected) (refusing x f) (λ _. acknowledged waits (announced x f next) (announces x f next)),
        ),
      ),
    )
    by_place false true waits = (λ _. rejecting x f _, λ _. (λ _. rejecting x f _, λ _. tt))
    by_place false false waits = tt

answered : (x : Around) (f : Facts) (id : List ℕ) (timestamp : ℕ) (r : Result Range RetransmitCode) → Kept x f (request_answered x f id timestamp r)
answered x f id timestamp (Ok range) = staying x f (serves f (Some range)) acts.Nothing (retransmission x.config.session range.from timestamp range.count ∷ []) refl refl refl
answered x f id timestamp (Err code) = rejecting x f _

finishing : (x : Around) (f : Facts) (n : ℕ) → Kept x f (finished x f n)
finishing x f n = by_row (Kept x f) (is_some (gap_of x f)) (accepts x [] (peer_finished f (peer.Read n) f.recorded.peer_last)) (answers_finish x f n)
    (λ _. staying x f (peer_finished f (peer.Read n) f.recorded.peer_last) acts.Nothing [] refl refl refl)
    (λ _. answering x f f n (still x f f refl) (λ held k. k))

session_rows : (x : Around) (f : Facts) (m : Message) → AllRows (Kept x f) (rows_of x f (session m))
session_rows x f (negotiate id timestamp flow credentials) = all_within (Kept x f) (awaits_client x f) _ (λ _. (
  λ _. rejecting x f _,
  λ _. (
    λ _. rejecting x f _,
    λ _. (
      λ _. rejecting x f _,
      λ _. (
        λ _. rejecting x f _,
        λ _. (λ _. staying x f (as_negotiated f) acts.Negotiated (negotiation_response x.config.session timestamp (flow_code x.config.own_flow) [] ∷ []) refl refl refl, λ _. tt),
      ),
    ),
  ),
))
session_rows x f (negotiation_response id timestamp flow credentials) =
    own_rows (Kept x f) x f 2 id _ (λ e. ending x f _ e) (all_within (Kept x f) (is_negotiating f.connection.phase) _ (λ n. (
      λ _. ending x f _ _,
      λ _. (λ _. shaking x f (not_negotiated f.connection.phase n), λ _. tt),
    )))
session_rows x f (negotiation_reject id timestamp code reason) =
    own_rows (Kept x f) x f 3 id _ (λ e. ending x f _ e) (all_within (Kept x f) (is_negotiating f.connection.phase) _ (λ n. (
      λ _. shaking x f (not_negotiated f.connection.phase n),
      λ _. (λ _. ending x f _ _, λ _. tt),
    )))
session_rows x f (establish id timestamp keepalive next expected credentials) = establish_all x f id timestamp keepalive next expected credentials
session_rows x f (establishment_ack id timestamp keepalive next expected) =
    own_rows (Kept x f) x f 5 id _ (λ e. ending x f _ e) (all_within (Kept x f) (is_establishing f.connection.phase) _ (λ n.
    announced_rows (Kept x f) x f 5 next (reached x keepalive expected) (refusing x f)
    (λ _. done x f (announced x f next) expected (established (returned x (announced x f next).facts expected) (min 60000 (max 100 keepalive))) (skip_of (announced x f next).skipped) (told_skip (announced x f next).skipped ++ told_return x (announced x f next).facts expected)
    (not_established f.connection.phase n) (announces x f next) refl refl)))
session_rows x f (establishment_reject id timestamp code reason) =
    own_rows (Kept x f) x f 6 id _ (λ e. ending x f _ e) (all_within (Kept x f) (is_establishing f.connection.phase) _ (λ n. (
      λ _. staying x f (in_phase f phases.Negotiating) acts.Nothing (opening_negotiate x ∷ []) refl (sym (not_established f.connection.phase n)) refl,
      λ _. (λ _. ending x f _ _, λ _. tt),
    )))
session_rows x f (sequence next) = all_within (Kept x f) (is_established f.connection.phase) _ (λ _. (
  λ _. bad x f (request_is.sequence_fault f.connection.requester),
  λ _. let q = request_is.after_sequence f.connection.requester in
      announced_rows (Kept x f) x (requesting f q) 7 (Some next) (sequence_follows x (requesting f q) next) (refusing_of x f q)
      (λ _. following x f q next (announced x (requesting f q) (Some next)) (announces x (requesting f q) (Some next))),
))
session_rows x f unsequenced_heartbeat = (λ _. staying x f f acts.Nothing [] refl refl refl, λ _. tt)
session_rows x f (retransmit_request id timestamp first count) = all_within (Kept x f) (is_established f.connection.phase) _ (λ _. (
  λ _. ending x f _ _,
  λ _. (λ _. answered x f id timestamp (judged (is_own x id) (is_recoverable x.config.own_flow) first count f.recorded.sent), λ _. tt),
))
session_rows x f (retransmission id next timestamp count) =
    own_rows (Kept x f) x f 10 id _ (λ e. ending x f _ e) (all_within (Kept x f) (is_established f.connection.phase) _ (λ _. (
      λ _. bad x f (request_is.start_fault (request_is.outstanding f.connection.requester) next count),
      λ _. (λ _. staying x f (restarted f next count) acts.Nothing [] refl refl refl, λ _. tt),
    )))
session_rows x f (retransmit_reject id timestamp code reason) =
    own_rows (Kept x f) x f 11 id _ (λ e. ending x f _ e) (all_within (Kept x f) (is_established f.connection.phase) _ (λ _. (λ _. ending x f _ _, λ _. tt)))
session_rows x f (applied first count) = (λ _. staying x f f acts.Nothing [] refl refl refl, λ _. tt)
session_rows x f (not_applied first count) = (λ _. staying x f f (acts.Told first count) [] refl refl refl, λ _. (λ _. staying x f f acts.Nothing [] refl refl refl, λ _. tt))
session_rows x f (finished_sending id last) =
    own_rows (Kept x f) x f 14 id _ (λ e. ending x f _ e) (all_within (Kept x f) (is_established f.connection.phase) _ (λ _. (
      λ _. refusing x f (finish_fault x f last),
      λ _. (λ _. finishing x f (finished_last x last), λ _. tt),
    )))
session_rows x f (finished_receiving id) =
    own_rows (Kept x f) x f 15 id _ (λ e. ending x f _ e) (all_within (Kept x f) (is_established f.connection.phase) _ (λ _. (
      λ _. staying x f (own_finishing f own.Exchanged) acts.Nothing [] refl refl refl,
      λ _. tt,
    )))
session_rows x f (terminate id code reason) =
    let answer : Row = row true (ends x f 1 (endings.PeerTerminated code)) in
    let rest : AllRows (Kept x f) (answer ∷ []) = (λ _. ending x f _ _, λ _. tt) in
    own_rows (Kept x f) x f 16 id (answer ∷ []) (λ e. ending x f _ e) rest

-- the reply to anything but an application message has none held
quiet_reply : (x : Around) (f : Facts) (i : Incoming) → AllRows (Kept x f) (rows_of x f i) → Kept x f (reply_of x f i)
quiet_reply x f i all =
    by_row (Kept x f) (is_closing f.connection.phase && not (terminates x i)) (ignores f) (answer_of x f i)
    (λ _. rejecting x f [])
    (λ _. all_rows (Kept x f) (not_in_phase x f (template_of i)) (rows_of x f i) (ending x f _ _) all)

pub holding_goes_on : HoldingGoesOn
holding_goes_on x f (application p) s =
    let P : Outcome → Type 0 = KeepsHeld x.config x.most f in
    by_row P (is_closing f.connection.phase && not (terminates x (application p))) (ignores f) (answer_of x f (application p))
    (λ _. (rejecting x f []).keeps)
    (λ _. all_rows P (not_in_phase x f 0) (rows_of x f (application p)) (ending x f _ _).keeps (message_rows x f p s))
holding_goes_on x f (session m) s = (quiet_reply x f (session m) (session_rows x f m)).keeps
holding_goes_on x f wrong_order s = (quiet_reply x f wrong_order (λ _. ending x f _ _, λ _. tt)).keeps
holding_goes_on x f too_short s = (quiet_reply x f too_short (λ _. ending x f _ _, λ _. tt)).keeps
holding_goes_on x f (unknown template) s = (quiet_reply x f (unknown template) (λ _. ending x f _ _, λ _. tt)).keeps

-- only an application message is held
pub holds_messages : (x : Around) (f : Facts) (i : Incoming) (n : ℕ) → (reply_of x f i).holds ≡ Some n → IsMessage i
holds_messages x f (application p) n e = tt
holds_messages x f (session m) n e = none-some n (sym (quiet_reply x f (session m) (session_rows x f m)).none ∙ e)
holds_messages x f wrong_order n e = none-some n (sym (quiet_reply x f wrong_order (λ _. ending x f _ _, λ _. tt)).none ∙ e)
holds_messages x f too_short n e = none-some n (sym (quiet_reply x f too_short (λ _. ending x f _ _, λ _. tt)).none ∙ e)
holds_messages x f (unknown template) n e = none-some n (sym (quiet_reply x f (unknown template) (λ _. ending x f _ _, λ _. tt)).none ∙ e)

pub held_messages : (x : Around) (f : Facts) (i : Incoming) → IsSome (reply_of x f i).holds → IsMessage i
held_messages x f i some = by_number (reply_of x f i).holds refl some
  where
    by_number : (h : Option ℕ) → (reply_of x f i).holds ≡ h → IsSome h → IsMessage i
    by_number None e some = absurd (false≢true some)
    by_number (Some n) e some = holds_messages x f i n e
