-- What each reply makes of what is known of the negotiation, row by row of the reply table.
use Rattle.std.proofs.Common.{◌≡◌, ◌⊎◌, inl, inr, ℕ, ◌+◌, ◌≤◌, ◌==◌, ◌&&◌, ◌||◌, max, min, nat_lt, not, Bool, true, false, if◌then◌else◌, List, [], ◌∷◌, ◌++◌, Option, Some, None, refl, sym, ap, ◌∙◌, arith, eqb-true, true≢false}
use Rattle.std.specs.Prelude.{is_some, unwrap_or, Result, Ok, Err}
use Rattle.std.specs.List.{AllByRecursion}
use Rattle.std.specs.Str.{bytes_eq}
use Rattle.std.proofs.lemmas.Bool.Decides.{nat_tests}
use Rattle.std.proofs.lemmas.Slice.Eq.{bytes_eq-Decides}
use Rattle.session_model.proofs.Lists.{all_append}
use Rattle.fixp_msgs.specs.declared.messages.Expected.{Expected}
use Rattle.fixp_msgs.specs.declared.numbering.Range.{Range}
use Rattle.fixp_msgs.specs.Flow.{flow_code}
use Rattle.fixp_msgs.specs.Message.{Message, negotiate, negotiation_response, negotiation_reject, establish, establishment_ack, establishment_reject, sequence, unsequenced_heartbeat, retransmit_request, retransmission, retransmit_reject, applied, not_applied, finished_sending, finished_receiving, terminate}
use Rattle.flow_recover.specs.declared.numbers.Seen.{Seen}
use Rattle.flow_recover.specs.declared.numbers.Seen.TheVariants.{Deliver, Hold, Gap, Repeat}
use Rattle.flow_recover.specs.Receiving as receiver_is
use Rattle.flow_retrans.specs.declared.requester.BadStart.{BadStart}
use Rattle.flow_retrans.specs.declared.judging.RetransmitCode.{RetransmitCode}
use Rattle.flow_retrans.specs.Judging.{judged}
use Rattle.flow_retrans.specs.Requests as request_is
use Rattle.fixp_shake.specs.declared.phase.Phase.TheVariants as phases
use Rattle.fixp_shake.specs.declared.violation.Violation.{Violation}
use Rattle.fixp_shake.specs.declared.violation.Violation.TheVariants.{AfterFinish}
use Rattle.fixp_shake.specs.Flows.{is_recoverable, is_idempotent}
use Rattle.fixp_shake.specs.Phases.{is_negotiating, is_establishing, is_established, is_closing}
use Rattle.fixp_replies.specs.declared.act.Act.{Act}
use Rattle.fixp_replies.specs.declared.act.Act.TheVariants as acts
use Rattle.fixp_replies.specs.declared.act.Ending.{Ending}
use Rattle.fixp_replies.specs.declared.act.Ending.TheVariants as endings
use Rattle.fixp_replies.specs.declared.facts.Facts.{Facts}
use Rattle.fixp_replies.specs.declared.facts.OwnFinish.TheVariants as own
use Rattle.fixp_replies.specs.declared.facts.PeerFinish.TheVariants as peer
use Rattle.fixp_replies.specs.Incoming.{Incoming, application, session, wrong_order, too_short, unknown}
use Rattle.fixp_replies.specs.Facts.{Around, is_initiator, is_own, in_phase, receiving, requesting, firm, serves, negotiated as as_negotiated, awaiting, awaits_gap, gap_of, gap_to_ask, having_asked, holding_too, peer_last, announced_number}
use Rattle.fixp_replies.specs.Outcomes.{Outcome, Row, row, goes_on, accepts, rejects, ignores, ends_with, ends, breaks, not_in_phase, request_for, skip_of, told_skip, opening_negotiate, opening_establish}
use Rattle.fixp_replies.specs.Announcing.{Announced, jumped_over, announced, announcement_rows, refuses}
use Rattle.fixp_replies.specs.Expecting.{number_in, takes, answers_next, returned, softened, told_return}
use Rattle.fixp_replies.specs.Handshake.{awaits_client, serves_client, established, acknowledges, establish_rows, established_again_rows, establish_rows_in, shaken, reached}
use Rattle.fixp_replies.specs.Flowing.{bad_retransmission, counted, taken_as, finish_act, peer_finished, answers_finish, is_filled, is_past_finish, sequence_taken, sequence_follows, restarted, finished_last, finish_fault, finished}
use Rattle.fixp_replies.specs.Serving.{request_answered, own_finishing}
use Rattle.fixp_replies.specs.Replies.{template_of, rows_of, answer_of, terminates}
use Rattle.fixp_machine.proofs.Expecting.{returned_stays}
use Rattle.fixp_machine.proofs.Rows.{AllRows, by_row, all_rows, all_within, own_rows}
use Rattle.drain_laws.specs.Negotiating.{RestsOn, Vouches, VouchedIn, NoReject, IsGood, Says, Negotiates, RepliesNegotiate}

-- a message that says nothing of it
record Mute (m : Message) : Type 0 where
  rests : RestsOn m → ⊥
  vouches : Vouches m → ⊥
  rejects_none : NoReject m

mute_says : (g : Facts) (ms : List Message) → AllByRecursion Mute ms → AllByRecursion (Says g) ms
mute_says g [] a = tt
mute_says g (m ∷ ms) a = let k = a.0 in (record { rests = λ r. absurd (k.rests r); vouches = λ v. absurd (k.vouches v) }, mute_says g ms a.1)

mute_none : (ms : List Message) → AllByRecursion Mute ms → AllByRecursion NoReject ms
mute_none [] a = tt
mute_none (m ∷ ms) a = (a.0.rejects_none, mute_none ms a.1)

-- what is known behind it is what was known before
record Knows (f g : Facts) : Type 0 where
  same : g.recorded.negotiated ≡ f.recorded.negotiated

still : (f : Facts) → Knows f f
still f = record { same = refl }

ending : (x : Around) (f g : Facts) (i : Incoming) (ms : List Message) (e : Ending) → Knows f g → AllByRecursion Mute ms → Negotiates x f i (ends_with x g ms e)
ending x f g i ms e k a = record { grows = λ t. k.same ∙ t; learns = λ _ t. inl (sym k.same ∙ t); says = mute_says g ms a; accepts = λ _. mute_none ms a }

breaking : (x : Around) (f g : Facts) (i : Incoming) (code : ℕ) (e : Ending) → Knows f g → Negotiates x f i (ends x g code e)
breaking x f g i code e k = ending x f g i _ e k (record { rests = λ r. r; vouches = λ v. v; rejects_none = tt }, tt)

request_mute : (x : Around) (r : Option Range) → AllByRecursion Mute (request_for x r)
request_mute x None = tt
request_mute x (Some r) = (record { rests = λ r. r; vouches = λ v. v; rejects_none = tt }, tt)

skip_mute : (s : Option Range) → AllByRecursion Mute (told_skip s)
skip_mute None = tt
skip_mute (Some s) = (record { rests = λ r. r; vouches = λ v. v; rejects_none = tt }, tt)

return_mute : (x : Around) (f : Facts) (e : Expected) → AllByRecursion Mute (told_return x f e)
return_mute x f e = by_test (takes x f e && not (number_in e == f.recorded.sent + 1))
  where
    by_test : (b : Bool) → AllByRecursion Mute (if b then sequence (number_in e) ∷ [] else [])
    by_test true = (record { rests = λ r. r; vouches = λ v. v; rejects_none = tt }, tt)
    by_test false = tt

-- the connection goes on
record Goes (x : Around) (f : Facts) (i : Incoming) (g : Facts) (ms : List Message) : Type 0 where
  grows : f.recorded.negotiated ≡ true → g.recorded.negotiated ≡ true
  learns : is_initiator x.config.role ≡ true → g.recorded.negotiated ≡ true → (f.recorded.negotiated ≡ true) ⊎ VouchedIn i
  says : AllByRecursion (Says g) ms
  accepts : IsGood x f i → AllByRecursion NoReject ms

going : (x : Around) (f : Facts) (i : Incoming) (act : Act) (ms : List Message) (g : Facts) → Goes x f i g ms → Negotiates x f i (goes_on x act ms g)
going x f i act ms g e = by_gap (gap_to_ask x g)
  where
    by_gap : (r : Option Range) → Negotiates x f i (record { act = act; written = ms ++ request_for x r; next = having_asked g r; ending = None; accepted = true; holds = None })
    by_gap None = record {
      grows = e.grows;
      learns = e.learns;
      says = all_append (Says g) ms [] e.says tt;
      accepts = λ good. all_append NoReject ms [] (e.accepts good) tt;
    }
    by_gap (Some r) = record {
      grows = e.grows;
      learns = e.learns;
      says = all_append (Says (having_asked g (Some r))) ms (request_for x (Some r)) (so ms e.says) (mute_says (having_asked g (Some r)) (request_for x (Some r)) (request_mute x (Some r)));
      accepts = λ good. all_append NoReject ms (request_for x (Some r)) (e.accepts good) (mute_none (request_for x (Some r)) (request_mute x (Some r)));
    }
      where
        so : (ns : List Message) → AllByRecursion (Says g) ns → AllByRecursion (Says (having_asked g (Some r))) ns
        so [] a = tt
        so (n ∷ ns) a = let k = a.0 in (record { rests = k.rests; vouches = k.vouches }, so ns a.1)

passing : (x : Around) (f g : Facts) (i : Incoming) (act : Act) (ms : List Message) → Knows f g → AllByRecursion Mute ms → Negotiates x f i (goes_on x act ms g)
passing x f g i act ms k a = going x f i act ms g (record { grows = λ t. k.same ∙ t; learns = λ _ t. inl (sym k.same ∙ t); says = mute_says g ms a; accepts = λ _. mute_none ms a })

staying : (x : Around) (f : Facts) (i : Incoming) (ms : List Message) → AllByRecursion Mute ms → Negotiates x f i (rejects ms f)
staying x f i ms a = record { grows = λ t. t; learns = λ _ t. inl t; says = mute_says f ms a; accepts = λ _. mute_none ms a }

-- a Negotiate is rejected
rejecting : (x : Around) (f : Facts) (i : Incoming) (id : List ℕ) (timestamp code : ℕ) → (code ≡ 4 → f.recorded.negotiated ≡ true) → Negotiates x f i (rejects (negotiation_reject id timestamp code [] ∷ []) f)
rejecting x f i id timestamp code known = record { grows = λ t. t; learns = λ _ t. inl t; says = (record { rests = λ r. absurd r; vouches = known }, tt); accepts = λ _. (tt, tt) }

bad : (x : Around) (f : Facts) (i : Incoming) (b : Option BadStart) → Negotiates x f i (bad_retransmission x f b)
bad x f i None = staying x f i [] tt
bad x f i (Some b) = breaking x f f i 2 _ (still f)

refusing : (x : Around) (f g : Facts) (i : Incoming) (v : Option Violation) → Knows f g → Negotiates x f i (refuses x g v)
refusing x f g i None k = record { grows = λ t. k.same ∙ t; learns = λ _ t. inl (sym k.same ∙ t); says = tt; accepts = λ _. tt }
refusing x f g i (Some v) k = breaking x f g i 2 _ k

abbrev chosen : Facts → ℕ → Bool → Bool → Announced
chosen f n recoverable idempotent =
    if recoverable then record { facts = firm (receiving f (receiver_is.announced f.connection.receiver n)); skipped = None }
    else if idempotent then record { facts = awaiting f n; skipped = jumped_over f.recorded.inbox_next n }
    else record { facts = f; skipped = None }

announced_known : (x : Around) (f : Facts) (next : Option ℕ) → Knows f (announced x f next).facts
announced_known x f next = by_flow (is_recoverable x.config.peer_flow) (is_idempotent x.config.peer_flow)
  where
    by_flow : (r i : Bool) → Knows f (chosen f (unwrap_or next 0) r i).facts
    by_flow true i = record { same = refl }
    by_flow false true = record { same = refl }
    by_flow false false = record { same = refl }

returned_known : (x : Around) (f : Facts) (e : Expected) → Knows f (returned x f e)
returned_known x f e = record { same = ap (λ r. r.negotiated) (returned_stays x f e).recorded }

announcing : (x : Around) (f g : Facts) (i : Incoming) (template : ℕ) (next : Option ℕ) (follows : Announced → Outcome) → Knows f g
    → Negotiates x f i (follows (announced x g next)) → AllRows (Negotiates x f i) (announcement_rows x g template next follows)
announcing x f g i template next follows k takes = (λ _. refusing x f g i _ k, λ _. (λ _. takes, λ _. tt))

-- an initiator goes on with the handshake
shaking : (x : Around) (f : Facts) (i : Incoming) → VouchedIn i → Negotiates x f i (shaken x f)
shaking x f i vouched = going x f i (if f.recorded.negotiated then acts.Nothing else acts.Negotiated) (opening_establish x f ∷ []) (in_phase (as_negotiated f) phases.Establishing) (record {
  grows = λ _. refl;
  learns = λ _ _. inr vouched;
  says = (record { rests = λ _. refl; vouches = λ v. absurd v }, tt);
  accepts = λ _. (tt, tt);
})

-- an acceptor acknowledges
acknowledging : (x : Around) (f : Facts) (i : Incoming) (timestamp keepalive : ℕ) (next : Option ℕ) (e : Expected) → Negotiates x f i (acknowledges x timestamp keepalive e (announced x f next))
acknowledging x f i timestamp keepalive next e =
    let a : Announced = announced x f next in
    let r : Facts = returned x a.facts e in
    passing x f (established (softened x e r) keepalive) i (skip_of a.skipped) (establishment_ack x.config.session timestamp x.config.keepalive (announced_number x r) (answers_next x e r) ∷ told_skip a.skipped)
    (record { same = (returned_known x a.facts e).same ∙ (announced_known x f next).same }) (record { rests = λ r. r; vouches = λ v. v; rejects_none = tt }, skip_mute a.skipped)

acknowledged : (x : Around) (f : Facts) (i : Incoming) (keepalive : ℕ) (next : Option ℕ) (e : Expected) → Negotiates x f i (reached x keepalive e (announced x f next))
acknowledged x f i keepalive next e =
    let a : Announced = announced x f next in
    passing x f (established (returned x a.facts e) (min 60000 (max 100 keepalive))) i (skip_of a.skipped) (told_skip a.skipped ++ told_return x a.facts e)
    (record { same = (returned_known x a.facts e).same ∙ (announced_known x f next).same }) (all_append Mute (told_skip a.skipped) (told_return x a.facts e) (skip_mute a.skipped) (return_mute x a.facts e))

-- an Establish is rejected, which is none that an acceptor takes
refused : (x : Around) (f : Facts) (i : Incoming) (id : List ℕ) (timestamp code : ℕ) → (IsGood x f i → ⊥) → Negotiates x f i (rejects (establishment_reject id timestamp code [] ∷ []) f)
refused x f i id timestamp code never = record { grows = λ t. t; learns = λ _ t. inl t; says = (record { rests = λ r. absurd r; vouches = λ v. absurd v }, tt); accepts = λ good. absurd (never good) }

establish_all : (x : Around) (f : Facts) (id : List ℕ) (timestamp keepalive : ℕ) (next : Option ℕ) (expected : Expected) (credentials : List ℕ)
    → AllRows (Negotiates x f (session (establish id timestamp keepalive next expected credentials))) (establish_rows_in x f id timestamp keepalive next expected credentials)
establish_all x f id timestamp keepalive next expected credentials = by_place (awaits_client x f) (serves_client x f) refl
  where
    i : Incoming
    i = session (establish id timestamp keepalive next expected credentials)

    P : Outcome → Type 0
    P = Negotiates x f i

    neither : (a b : Bool) → (not a || not b) ≡ true → a ≡ true → b ≡ true → ⊥
    neither true true e p q = true≢false (sym e)
    neither false b e p q = true≢false (sym p)
    neither true false e p q = true≢false (sym q)

    ranged : (nat_lt keepalive 100 || nat_lt 60000 keepalive) ≡ true → 100 ≤ keepalive → keepalive ≤ 60000 → ⊥
    ranged e low high = by_tests (nat_lt keepalive 100) (nat_lt 60000 keepalive) refl refl e
      where
        by_tests : (a b : Bool) → nat_lt keepalive 100 ≡ a → nat_lt 60000 keepalive ≡ b → (a || b) ≡ true → ⊥
        by_tests true b p q e = grind (arith, nat_tests)
        by_tests false true p q e = grind (arith, nat_tests)
        by_tests false false p q e = true≢false (sym e)

    other_credentials : not (bytes_eq credentials x.config.credentials) ≡ true → credentials ≡ x.config.credentials → ⊥
    other_credentials e same = true≢false (sym e ∙ ap (λ b. not b) ((bytes_eq-Decides credentials x.config.credentials).1 same))

    by_place : (p q : Bool) → awaits_client x f ≡ p → AllRows P (if p then establish_rows x f id timestamp keepalive next expected credentials else if q then established_again_rows x f id timestamp else [])
    by_place true q waits = (
      λ e. refused x f i id timestamp 2 (λ good. neither (is_own x id) f.recorded.negotiated e good.2 good.1),
      λ _. (
        λ e. refused x f i id timestamp 5 (λ good. ranged e good.3.0 good.3.1),
        λ _. (
          λ e. refused x f i id timestamp 6 (λ good. other_credentials e good.4),
          λ _. announcing x f f i 4 next (acknowledges x timestamp keepalive expected) (still f) (acknowledging x f i timestamp keepalive next expected),
        ),
      ),
    )
    by_place false true waits = (
      λ _. refused x f i id timestamp 2 (λ good. true≢false (sym good.0 ∙ waits)),
      λ _. (λ _. refused x f i id timestamp 3 (λ good. true≢false (sym good.0 ∙ waits)), λ _. tt),
    )
    by_place false false waits = tt

taking : (x : Around) (f : Facts) (i : Incoming) (s : Seen) → Negotiates x f i (taken_as x (counted f) s)
taking x f i (Deliver n) = passing x f (awaiting (counted f) (n + 1)) i (acts.Apply n) [] (record { same = refl }) tt
taking x f i (Hold n) = held (passing (holding_too x n) f (counted f) i acts.Nothing [] (record { same = refl }) tt)
  where
    held : Negotiates (holding_too x n) f i (accepts (holding_too x n) [] (counted f)) → Negotiates x f i (taken_as x (counted f) (Hold n))
    held k = record { grows = k.grows; learns = k.learns; says = k.says; accepts = λ _. mute_none _ (request_mute (holding_too x n) (gap_to_ask (holding_too x n) (counted f))) }
taking x f i (Gap n) = passing x f (counted f) i acts.Nothing [] (record { same = refl }) tt
taking x f i (Repeat n) = passing x f (counted f) i acts.Nothing [] (record { same = refl }) tt

message_rows : (x : Around) (f : Facts) (payload : List ℕ) → AllRows (Negotiates x f (application payload)) (rows_of x f (application payload))
message_rows x f payload =
    let i = application payload in
    all_within (Negotiates x f i) (is_established f.connection.phase) _ (λ _. (
      λ _. breaking x f f i 2 _ (still f),
      λ _. (
        λ _. breaking x f f i 2 _ (still f),
        λ _. (
          λ _. breaking x f f i 2 _ (still f),
          λ _. (
            λ _. passing x f (awaiting f (f.recorded.inbox_next + 1)) i (acts.Apply f.recorded.inbox_next) [] (record { same = refl }) tt,
            λ _. (λ _. bad x f i (request_is.message_fault f.connection.requester), λ _. (λ _. taking x f i (receiver_is.seen f.connection.receiver), λ _. tt)),
          ),
        ),
      ),
    ))

answering : (x : Around) (f g : Facts) (i : Incoming) (last : ℕ) → Knows f g → Negotiates x f i (answers_finish x g last)
answering x f g i last k = passing x f (peer_finished g (peer.Exchanged last) (Some (unwrap_or g.recorded.peer_last last))) i (finish_act g.recorded.peer_last last) (finished_receiving x.config.session ∷ []) (record { same = k.same })
    (record { rests = λ r. r; vouches = λ v. v; rejects_none = tt }, tt)

following : (x : Around) (f g : Facts) (i : Incoming) (next : ℕ) (a : Announced) → Knows f g → Knows f a.facts → Negotiates x f i (sequence_follows x g next a)
following x f g i next a k l =
    by_row (Negotiates x f i) (is_past_finish x g next) (breaks x g (AfterFinish (unwrap_or (peer_last g) 0) next)) (sequence_taken x a)
    (λ _. breaking x f g i 2 _ k)
    (λ _. by_row (Negotiates x f i) (is_filled x a.facts) (answers_finish x a.facts (unwrap_or (awaits_gap a.facts.connection.peer_finish) 0)) (goes_on x (skip_of a.skipped) (told_skip a.skipped) a.facts)
    (λ _. answering x f a.facts i _ l)
    (λ _. passing x f a.facts i (skip_of a.skipped) (told_skip a.skipped) l (skip_mute a.skipped)))

requested : (x : Around) (f : Facts) (i : Incoming) (id : List ℕ) (timestamp : ℕ) (r : Result Range RetransmitCode) → Negotiates x f i (request_answered x f id timestamp r)
requested x f i id timestamp (Ok range) = passing x f (serves f (Some range)) i acts.Nothing (retransmission x.config.session range.from timestamp range.count ∷ []) (record { same = refl }) (record { rests = λ r. r; vouches = λ v. v; rejects_none = tt }, tt)
requested x f i id timestamp (Err code) = staying x f i _ (record { rests = λ r. r; vouches = λ v. v; rejects_none = tt }, tt)

finishing : (x : Around) (f : Facts) (i : Incoming) (last : ℕ) → Negotiates x f i (finished x f last)
finishing x f i last =
    by_row (Negotiates x f i) (is_some (gap_of x f)) (accepts x [] (peer_finished f (peer.Read last) f.recorded.peer_last)) (answers_finish x f last)
    (λ _. passing x f (peer_finished f (peer.Read last) f.recorded.peer_last) i acts.Nothing [] (record { same = refl }) tt)
    (λ _. answering x f f i last (still f))

session_rows : (x : Around) (f : Facts) (m : Message) → AllRows (Negotiates x f (session m)) (rows_of x f (session m))
session_rows x f (negotiate id timestamp flow credentials) =
    let i = session (negotiate id timestamp flow credentials) in
    all_within (Negotiates x f i) (awaits_client x f) _ (λ waits. (
      λ _. rejecting x f i id timestamp 1 (λ e. absurd (omega (arith, e))),
      λ _. (
        λ _. rejecting x f i id timestamp 2 (λ e. absurd (omega (arith, e))),
        λ _. (
          λ _. rejecting x f i id timestamp 3 (λ e. absurd (omega (arith, e))),
          λ _. (
            λ known. rejecting x f i id timestamp 4 (λ _. known),
            λ _. (
              λ _. going x f i acts.Negotiated (negotiation_response x.config.session timestamp (flow_code x.config.own_flow) [] ∷ []) (as_negotiated f) (record {
                grows = λ _. refl;
                learns = λ r _. absurd (true≢false (sym r ∙ accepts_only (is_initiator x.config.role) _ waits));
                says = (record { rests = λ r. absurd r; vouches = λ _. refl }, tt);
                accepts = λ _. (tt, tt);
              }),
              λ _. tt,
            ),
          ),
        ),
      ),
    ))
  where
    accepts_only : (a b : Bool) → (not a && b) ≡ true → a ≡ false
    accepts_only false b e = refl
    accepts_only true b e = absurd (true≢false (sym e))
session_rows x f (negotiation_response id timestamp flow credentials) =
    let i = session (negotiation_response id timestamp flow credentials) in
    own_rows (Negotiates x f i) x f 2 id _ (λ e. breaking x f f i 2 e (still f)) (all_within (Negotiates x f i) (is_negotiating f.connection.phase) _ (λ _. (
      λ _. breaking x f f i 2 _ (still f),
      λ _. (λ _. shaking x f i tt, λ _. tt),
    )))
session_rows x f (negotiation_reject id timestamp code reason) =
    let i = session (negotiation_reject id timestamp code reason) in
    own_rows (Negotiates x f i) x f 3 id _ (λ e. breaking x f f i 2 e (still f)) (all_within (Negotiates x f i) (is_negotiating f.connection.phase) _ (λ _. (
      λ four. shaking x f i (eqb-true code 4 four),
      λ _. (λ _. ending x f f i [] _ (still f) tt, λ _. tt),
    )))
session_rows x f (establish id timestamp keepalive next expected credentials) = establish_all x f id timestamp keepalive next expected credentials
session_rows x f (establishment_ack id timestamp keepalive next expected) =
    let i = session (establishment_ack id timestamp keepalive next expected) in
    own_rows (Negotiates x f i) x f 5 id _ (λ e. breaking x f f i 2 e (still f)) (all_within (Negotiates x f i) (is_establishing f.connection.phase) _ (λ _.
    announcing x f f i 5 next (reached x keepalive expected) (still f) (acknowledged x f i keepalive next expected)))
session_rows x f (establishment_reject id timestamp code reason) =
    let i = session (establishment_reject id timestamp code reason) in
    own_rows (Negotiates x f i) x f 6 id _ (λ e. breaking x f f i 2 e (still f)) (all_within (Negotiates x f i) (is_establishing f.connection.phase) _ (λ _. (
      λ _. passing x f (in_phase f phases.Negotiating) i acts.Nothing (opening_negotiate x ∷ []) (record { same = refl }) (record { rests = λ r. r; vouches = λ v. v; rejects_none = tt }, tt),
      λ _. (λ _. ending x f f i [] _ (still f) tt, λ _. tt),
    )))
session_rows x f (sequence next) =
    let i = session (sequence next) in
    let g : Facts = requesting f (request_is.after_sequence f.connection.requester) in
    all_within (Negotiates x f i) (is_established f.connection.phase) _ (λ _. (
      λ _. bad x f i (request_is.sequence_fault f.connection.requester),
      λ _. announcing x f g i 7 (Some next) (sequence_follows x g next) (record { same = refl })
          (following x f g i next (announced x g (Some next)) (record { same = refl }) (record { same = (announced_known x g (Some next)).same })),
    ))
session_rows x f unsequenced_heartbeat = (λ _. passing x f f (session unsequenced_heartbeat) acts.Nothing [] (still f) tt, λ _. tt)
session_rows x f (retransmit_request id timestamp first count) =
    let i = session (retransmit_request id timestamp first count) in
    all_within (Negotiates x f i) (is_established f.connection.phase) _ (λ _. (
      λ _. breaking x f f i 4 _ (still f),
      λ _. (λ _. requested x f i id timestamp (judged (is_own x id) (is_recoverable x.config.own_flow) first count f.recorded.sent), λ _. tt),
    ))
session_rows x f (retransmission id next timestamp count) =
    let i = session (retransmission id next timestamp count) in
    own_rows (Negotiates x f i) x f 10 id _ (λ e. breaking x f f i 2 e (still f)) (all_within (Negotiates x f i) (is_established f.connection.phase) _ (λ _. (
      λ _. bad x f i (request_is.start_fault (request_is.outstanding f.connection.requester) next count),
      λ _. (λ _. passing x f (restarted f next count) i acts.Nothing [] (record { same = refl }) tt, λ _. tt),
    )))
session_rows x f (retransmit_reject id timestamp code reason) =
    let i = session (retransmit_reject id timestamp code reason) in
    own_rows (Negotiates x f i) x f 11 id _ (λ e. breaking x f f i 2 e (still f)) (all_within (Negotiates x f i) (is_established f.connection.phase) _ (λ _. (λ _. breaking x f f i 2 _ (still f), λ _. tt)))
session_rows x f (applied first count) = (λ _. passing x f f (session (applied first count)) acts.Nothing [] (still f) tt, λ _. tt)
session_rows x f (not_applied first count) =
    let i = session (not_applied first count) in
    (λ _. passing x f f i (acts.Told first count) [] (still f) tt, λ _. (λ _. passing x f f i acts.Nothing [] (still f) tt, λ _. tt))
session_rows x f (finished_sending id last) =
    let i = session (finished_sending id last) in
    own_rows (Negotiates x f i) x f 14 id _ (λ e. breaking x f f i 2 e (still f)) (all_within (Negotiates x f i) (is_established f.connection.phase) _ (λ _. (
      λ _. refusing x f f i (finish_fault x f last) (still f),
      λ _. (λ _. finishing x f i (finished_last x last), λ _. tt),
    )))
session_rows x f (finished_receiving id) =
    let i = session (finished_receiving id) in
    own_rows (Negotiates x f i) x f 15 id _ (λ e. breaking x f f i 2 e (still f)) (all_within (Negotiates x f i) (is_established f.connection.phase) _ (λ _. (
      λ _. passing x f (own_finishing f own.Exchanged) i acts.Nothing [] (record { same = refl }) tt,
      λ _. tt,
    )))
session_rows x f (terminate id code reason) =
    let i = session (terminate id code reason) in
    let answer : Row = row true (ends x f 1 (endings.PeerTerminated code)) in
    let rows : AllRows (Negotiates x f i) (answer ∷ []) = (λ _. breaking x f f i 1 _ (still f), λ _. tt) in
    own_rows (Negotiates x f i) x f 16 id (answer ∷ []) (λ e. breaking x f f i 2 e (still f)) rows

each_row : (x : Around) (f : Facts) (i : Incoming) → AllRows (Negotiates x f i) (rows_of x f i)
each_row x f (application payload) = message_rows x f payload
each_row x f (session m) = session_rows x f m
each_row x f wrong_order = (λ _. breaking x f f wrong_order 2 _ (still f), λ _. tt)
each_row x f too_short = (λ _. breaking x f f too_short 2 _ (still f), λ _. tt)
each_row x f (unknown template) = (λ _. breaking x f f (unknown template) 2 _ (still f), λ _. tt)

pub replies_negotiate : RepliesNegotiate
replies_negotiate x f i =
    by_row (Negotiates x f i) (is_closing f.connection.phase && not (terminates x i)) (ignores f) (answer_of x f i)
    (λ _. staying x f i [] tt)
    (λ _. all_rows (Negotiates x f i) (not_in_phase x f (template_of i)) (rows_of x f i) (breaking x f f i 2 _ (still f)) (each_row x f i))
