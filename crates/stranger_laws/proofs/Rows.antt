-- What a reply makes of a message that does not open the session, row by row.
use Rattle.std.proofs.Common.{◌≡◌, ℕ, ◌&&◌, ◌||◌, not, Bool, true, false, if◌then◌else◌, List, [], ◌∷◌, Option, Some, None, option_to_list, refl, sym, ap, ◌∙◌, true≢false}
use Rattle.std.specs.Cmp.{first_so}
use Rattle.std.specs.Str.{bytes_eq}
use Rattle.fixp_msgs.specs.Flow.{flow_code}
use Rattle.fixp_msgs.specs.declared.messages.Expected.{Expected}
use Rattle.fixp_msgs.specs.declared.numbering.Range.{Range}
use Rattle.fixp_msgs.specs.Message.{Message, negotiate, negotiation_response, negotiation_reject, establish, establishment_ack, establishment_reject, sequence, unsequenced_heartbeat, retransmit_request, retransmission, retransmit_reject, applied, not_applied, finished_sending, finished_receiving, terminate}
use Rattle.fixp_shake.specs.declared.config.EndConfig.{EndConfig}
use Rattle.fixp_shake.specs.declared.phase.Phase.{Phase}
use Rattle.fixp_shake.specs.declared.phase.Phase.TheVariants as phases
use Rattle.fixp_shake.specs.declared.violation.Violation.{Violation}
use Rattle.fixp_shake.specs.Phases.{is_idle, is_negotiating, is_establishing, is_established, is_closing, is_shaken}
use Rattle.fixp_replies.specs.declared.act.Act.{Act}
use Rattle.fixp_replies.specs.declared.act.Act.TheVariants as acts
use Rattle.fixp_replies.specs.declared.facts.Facts.{Facts}
use Rattle.fixp_replies.specs.Acts.{is_record}
use Rattle.fixp_replies.specs.Facts.{Around, is_initiator, is_own, in_phase, negotiated, gap_to_ask, having_asked}
use Rattle.fixp_replies.specs.Incoming.{Incoming, application, session, wrong_order, too_short, unknown}
use Rattle.fixp_replies.specs.Outcomes.{Outcome, Row, within, goes_on, rejects, ignores, breaks, not_in_phase, opening_negotiate, opening_establish}
use Rattle.fixp_replies.specs.Handshake.{awaits_client, serves_client, establish_rows, established_again_rows, establish_rows_in, shaken}
use Rattle.fixp_replies.specs.Flowing.{application_rows, sequence_rows, retransmission_rows, retransmit_reject_rows, finished_sending_rows}
use Rattle.fixp_replies.specs.Serving.{retransmit_request_rows, finished_receiving_rows}
use Rattle.fixp_replies.specs.Replies.{template_of, rows_of, answer_of, terminates}
use Rattle.fixp_machine.specs.Accepting.{event_of}
use Rattle.fixp_machine.proofs.Rows.{AllRows, by_row, all_rows, all_within}
use Rattle.fixp_machine.proofs.Tests.{not_true}
use Rattle.stranger_laws.specs.Opening.{gives_both, names_session, opens, gives_keys}
use Rattle.stranger_laws.specs.Replied.{is_outside, StaysOutside, RecordsNothing, OutsideStays, KeylessRecordsNothing}

-- ---- the tests

both_so : (a b : Bool) → a ≡ true → b ≡ true → (a && b) ≡ true
both_so true true e f = refl
both_so true false e f = absurd (true≢false (sym f))
both_so false b e f = absurd (true≢false (sym e))

neither : (a b : Bool) → (a || b) ≡ false → a ≡ false
neither true b e = absurd (true≢false e)
neither false b e = refl

-- who gave all that is compared is no stranger
given_both : (cfg : EndConfig) (id credentials : List ℕ) → gives_both cfg id credentials ≡ false → not (is_initiator cfg.role) ≡ true → bytes_eq id cfg.session ≡ true → bytes_eq credentials cfg.credentials ≡ true → ⊥
given_both cfg id credentials k role own same = true≢false (sym (both_so _ _ role (both_so _ _ own same)) ∙ k)

named : (cfg : EndConfig) (id : List ℕ) → names_session cfg id ≡ false → is_initiator cfg.role ≡ true → bytes_eq id cfg.session ≡ true → ⊥
named cfg id k role own = true≢false (sym (both_so _ _ role own) ∙ k)

-- the phases in which the session is not open
pub unshaken_by : (b : Bool) (p : Phase) → (if b then not (is_shaken p) else is_idle p) ≡ true → is_shaken p ≡ false
unshaken_by b phases.Idle e = refl
unshaken_by b phases.Negotiating e = refl
unshaken_by b phases.Establishing e = refl
unshaken_by true phases.Established e = absurd (true≢false (sym e))
unshaken_by false phases.Established e = absurd (true≢false (sym e))
unshaken_by true phases.Closing e = absurd (true≢false (sym e))
unshaken_by false phases.Closing e = absurd (true≢false (sym e))
unshaken_by b phases.Ended e = refl

pub unestablished_by : (b : Bool) (p : Phase) → (if b then not (is_shaken p) else is_idle p) ≡ true → is_established p ≡ false
unestablished_by b phases.Idle e = refl
unestablished_by b phases.Negotiating e = refl
unestablished_by b phases.Establishing e = refl
unestablished_by true phases.Established e = absurd (true≢false (sym e))
unestablished_by false phases.Established e = absurd (true≢false (sym e))
unestablished_by b phases.Closing e = refl
unestablished_by b phases.Ended e = refl

initiates_by : (b : Bool) (p : Phase) → (if b then not (is_shaken p) else is_idle p) ≡ true → (is_negotiating p || is_establishing p) ≡ true → b ≡ true
initiates_by true p e f = refl
initiates_by false phases.Idle e f = absurd (true≢false (sym f))
initiates_by false phases.Negotiating e f = absurd (true≢false (sym e))
initiates_by false phases.Establishing e f = absurd (true≢false (sym e))
initiates_by false phases.Established e f = absurd (true≢false (sym e))
initiates_by false phases.Closing e f = absurd (true≢false (sym e))
initiates_by false phases.Ended e f = absurd (true≢false (sym e))

pub unestablished : (cfg : EndConfig) (f : Facts) → is_outside cfg f ≡ true → is_established f.connection.phase ≡ false
unestablished cfg f t = unestablished_by (is_initiator cfg.role) f.connection.phase t

pub unshaken : (cfg : EndConfig) (f : Facts) → is_outside cfg f ≡ true → is_shaken f.connection.phase ≡ false
unshaken cfg f t = unshaken_by (is_initiator cfg.role) f.connection.phase t

negotiates : (cfg : EndConfig) (f : Facts) → is_outside cfg f ≡ true → is_negotiating f.connection.phase ≡ true → is_initiator cfg.role ≡ true
negotiates cfg f t n = initiates_by (is_initiator cfg.role) f.connection.phase t (ap (λ (b : Bool). b || is_establishing f.connection.phase) n)

establishes : (cfg : EndConfig) (f : Facts) → is_outside cfg f ≡ true → is_establishing f.connection.phase ≡ true → is_initiator cfg.role ≡ true
establishes cfg f t e = initiates_by (is_initiator cfg.role) f.connection.phase t (or_true (is_negotiating f.connection.phase) e)
  where
    or_true : (a : Bool) {b : Bool} → b ≡ true → (a || b) ≡ true
    or_true true e = refl
    or_true false e = e

-- an initiator whose handshake is not done is outside
by_role : (cfg : EndConfig) (f : Facts) → is_initiator cfg.role ≡ true → is_shaken f.connection.phase ≡ false → is_outside cfg f ≡ true
by_role cfg f role e = ap (λ (b : Bool). if b then not (is_shaken f.connection.phase) else is_idle f.connection.phase) role ∙ ap not e

-- ---- what holds of each outcome

record Passes (x : Around) (f : Facts) (i : Incoming) (o : Outcome) : Type 0 where
  stays : StaysOutside x.config i o
  spares : gives_keys x.config i ≡ false → RecordsNothing f o

-- the frame is not accepted, and nothing changes
out : (x : Around) (f : Facts) (i : Incoming) (o : Outcome) → is_outside x.config f ≡ true → o.accepted ≡ false → o.next ≡ f → is_record o.act ≡ false → Passes x f i o
out x f i o t refused same none = record {
  stays = record { nothing = ap (λ (b : Bool). if b then option_to_list (event_of i) else []) refused; outside = ap (λ (g : Facts). is_outside x.config g) same ∙ t };
  spares = λ _. record { unrecorded = none; recorded = ap (λ (g : Facts). g.recorded) same };
}

broken : (x : Around) (f : Facts) (i : Incoming) (v : Violation) → is_outside x.config f ≡ true → Passes x f i (breaks x f v)
broken x f i v t = out x f i (breaks x f v) t refl refl refl

rejected : (x : Around) (f : Facts) (i : Incoming) (written : List Message) → is_outside x.config f ≡ true → Passes x f i (rejects written f)
rejected x f i written t = out x f i (rejects written f) t refl refl refl

asked_outside : (cfg : EndConfig) (f : Facts) (g : Option Range) → is_outside cfg (having_asked f g) ≡ is_outside cfg f
asked_outside cfg f None = refl
asked_outside cfg f (Some g) = refl

asked_recorded : (f : Facts) (g : Option Range) → (having_asked f g).recorded ≡ f.recorded
asked_recorded f None = refl
asked_recorded f (Some g) = refl

-- the connection goes on, and the message has no event
going : (x : Around) (f g : Facts) (i : Incoming) (act : Act) (written : List Message) → is_outside x.config g ≡ true → event_of i ≡ None
    → (gives_keys x.config i ≡ false → (is_record act ≡ false) × (g.recorded ≡ f.recorded)) → Passes x f i (goes_on x act written g)
going x f g i act written t none spares = record {
  stays = record { nothing = ap (λ e. option_to_list e) none; outside = asked_outside x.config g (gap_to_ask x g) ∙ t };
  spares = λ k. record { unrecorded = (spares k).0; recorded = asked_recorded g (gap_to_ask x g) ∙ (spares k).1 };
}

-- it goes on as it was
same : (x : Around) (f : Facts) (i : Incoming) (act : Act) → is_outside x.config f ≡ true → event_of i ≡ None → is_record act ≡ false → Passes x f i (goes_on x act [] f)
same x f i act t none unrecorded = going x f f i act [] t none (λ _. (unrecorded, refl))

-- ---- the rows

-- rows that are looked at where the handshake is done
never : (x : Around) (f : Facts) (i : Incoming) (rows : List Row) → is_outside x.config f ≡ true → AllRows (Passes x f i) (within (is_established f.connection.phase) rows)
never x f i rows t = all_within (Passes x f i) (is_established f.connection.phase) rows (λ e. absurd (true≢false (sym e ∙ unestablished x.config f t)))

negotiate_all : (x : Around) (f : Facts) (id : List ℕ) (timestamp flow : ℕ) (credentials : List ℕ) → is_outside x.config f ≡ true
    → AllRows (Passes x f (session (negotiate id timestamp flow credentials))) (rows_of x f (session (negotiate id timestamp flow credentials)))
negotiate_all x f id timestamp flow credentials t =
    let i : Incoming = session (negotiate id timestamp flow credentials) in
    all_within (Passes x f i) (awaits_client x f) _ (λ awaits. (
      λ _. rejected x f i _ t,
      λ own. (
        λ _. rejected x f i _ t,
        λ creds. (
          λ _. rejected x f i _ t,
          λ _. (
            λ _. rejected x f i _ t,
            λ _. (
              λ _. going x f (negotiated f) i acts.Negotiated (negotiation_response x.config.session timestamp (flow_code x.config.own_flow) [] ∷ []) t refl
                  (λ k. absurd (given_both x.config id credentials k (first_so (not (is_initiator x.config.role)) (is_idle f.connection.phase) awaits) (not_true (is_own x id) own) (not_true (bytes_eq credentials x.config.credentials) creds))),
              λ _. tt,
            ),
          ),
        ),
      ),
    ))

establish_all : (x : Around) (f : Facts) (id : List ℕ) (timestamp keepalive : ℕ) (next : Option ℕ) (expected : Expected) (credentials : List ℕ) → is_outside x.config f ≡ true → gives_both x.config id credentials ≡ false
    → AllRows (Passes x f (session (establish id timestamp keepalive next expected credentials))) (establish_rows_in x f id timestamp keepalive next expected credentials)
establish_all x f id timestamp keepalive next expected credentials t k = by_place (awaits_client x f) (serves_client x f) refl
  where
    i : Incoming
    i = session (establish id timestamp keepalive next expected credentials)

    by_place : (p q : Bool) → awaits_client x f ≡ p
        → AllRows (Passes x f i) (if p then establish_rows x f id timestamp keepalive next expected credentials else if q then established_again_rows x f id timestamp else [])
    by_place true q awaits = (
      λ _. rejected x f i _ t,
      λ own. (
        λ _. rejected x f i _ t,
        λ _. (
          λ _. rejected x f i _ t,
          λ creds. absurd (given_both x.config id credentials k (first_so (not (is_initiator x.config.role)) (is_idle f.connection.phase) awaits)
              (not_true (is_own x id) (neither (not (is_own x id)) (not f.recorded.negotiated) own)) (not_true (bytes_eq credentials x.config.credentials) creds)),
        ),
      ),
    )
    by_place false true awaits = (λ _. rejected x f i _ t, λ _. (λ _. rejected x f i _ t, λ _. tt))
    by_place false false awaits = tt

-- the session is negotiated, to an initiator
shaking : (x : Around) (f : Facts) (i : Incoming) (id : List ℕ) → is_outside x.config f ≡ true → is_negotiating f.connection.phase ≡ true → is_own x id ≡ true → event_of i ≡ None
    → gives_keys x.config i ≡ names_session x.config id → Passes x f i (shaken x f)
shaking x f i id t n own none keys =
    let role : is_initiator x.config.role ≡ true = negotiates x.config f t n in
    going x f (in_phase (negotiated f) phases.Establishing) i (if f.recorded.negotiated then acts.Nothing else acts.Negotiated) (opening_establish x f ∷ []) (by_role x.config (in_phase (negotiated f) phases.Establishing) role refl) none
    (λ k. absurd (named x.config id (sym keys ∙ k) role own))

session_rows : (x : Around) (f : Facts) (m : Message) → is_outside x.config f ≡ true → opens x.config (session m) ≡ false → AllRows (Passes x f (session m)) (rows_of x f (session m))
session_rows x f (negotiate id timestamp flow credentials) t k = negotiate_all x f id timestamp flow credentials t
session_rows x f (establish id timestamp keepalive next expected credentials) t k = establish_all x f id timestamp keepalive next expected credentials t k
session_rows x f (negotiation_response id timestamp flow credentials) t k =
    let i : Incoming = session (negotiation_response id timestamp flow credentials) in (
      λ _. broken x f i _ t,
      λ own. all_within (Passes x f i) (is_negotiating f.connection.phase) _ (λ n. (
        λ _. broken x f i _ t,
        λ _. (λ _. shaking x f i id t n (not_true (is_own x id) own) refl refl, λ _. tt),
      )),
    )
session_rows x f (negotiation_reject id timestamp code reason) t k =
    let i : Incoming = session (negotiation_reject id timestamp code reason) in (
      λ _. broken x f i _ t,
      λ own. all_within (Passes x f i) (is_negotiating f.connection.phase) _ (λ n. (
        λ _. shaking x f i id t n (not_true (is_own x id) own) refl refl,
        λ _. (λ _. out x f i _ t refl refl refl, λ _. tt),
      )),
    )
session_rows x f (establishment_ack id timestamp keepalive next expected) t k =
    let i : Incoming = session (establishment_ack id timestamp keepalive next expected) in (
      λ _. broken x f i _ t,
      λ own. all_within (Passes x f i) (is_establishing f.connection.phase) _ (λ e. absurd (named x.config id k (establishes x.config f t e) (not_true (is_own x id) own))),
    )
session_rows x f (establishment_reject id timestamp code reason) t k =
    let i : Incoming = session (establishment_reject id timestamp code reason) in (
      λ _. broken x f i _ t,
      λ _. all_within (Passes x f i) (is_establishing f.connection.phase) _ (λ e. (
        λ _. going x f (in_phase f phases.Negotiating) i acts.Nothing (opening_negotiate x ∷ []) (by_role x.config (in_phase f phases.Negotiating) (establishes x.config f t e) refl) refl (λ _. (refl, refl)),
        λ _. (λ _. out x f i _ t refl refl refl, λ _. tt),
      )),
    )
session_rows x f (sequence next) t k = never x f (session (sequence next)) (sequence_rows x f next) t
session_rows x f unsequenced_heartbeat t k = (λ _. same x f (session unsequenced_heartbeat) acts.Nothing t refl refl, λ _. tt)
session_rows x f (retransmit_request id timestamp first count) t k =
    never x f (session (retransmit_request id timestamp first count)) (retransmit_request_rows x f id timestamp first count) t
session_rows x f (retransmission id next timestamp count) t k =
    let i : Incoming = session (retransmission id next timestamp count) in
    (λ _. broken x f i _ t, λ _. never x f i (retransmission_rows x f next count) t)
session_rows x f (retransmit_reject id timestamp code reason) t k =
    let i : Incoming = session (retransmit_reject id timestamp code reason) in
    (λ _. broken x f i _ t, λ _. never x f i (retransmit_reject_rows x f) t)
session_rows x f (applied first count) t k = (λ _. same x f (session (applied first count)) acts.Nothing t refl refl, λ _. tt)
session_rows x f (not_applied first count) t k =
    let i : Incoming = session (not_applied first count) in
    (λ _. same x f i (acts.Told first count) t refl refl, λ _. (λ _. same x f i acts.Nothing t refl refl, λ _. tt))
session_rows x f (finished_sending id last) t k =
    let i : Incoming = session (finished_sending id last) in
    (λ _. broken x f i _ t, λ _. never x f i (finished_sending_rows x f last) t)
session_rows x f (finished_receiving id) t k =
    let i : Incoming = session (finished_receiving id) in
    (λ _. broken x f i _ t, λ _. never x f i (finished_receiving_rows x f) t)
session_rows x f (terminate id code reason) t k =
    let i : Incoming = session (terminate id code reason) in
    (λ _. broken x f i _ t, λ _. (λ _. out x f i _ t refl refl refl, λ _. tt))

each_row : (x : Around) (f : Facts) (i : Incoming) → is_outside x.config f ≡ true → opens x.config i ≡ false → AllRows (Passes x f i) (rows_of x f i)
each_row x f (application p) t k = never x f (application p) (application_rows x f) t
each_row x f (session m) t k = session_rows x f m t k
each_row x f wrong_order t k = (λ _. broken x f wrong_order _ t, λ _. tt)
each_row x f too_short t k = (λ _. broken x f too_short _ t, λ _. tt)
each_row x f (unknown template) t k = (λ _. broken x f (unknown template) _ t, λ _. tt)

passes : (x : Around) (f : Facts) (i : Incoming) → is_outside x.config f ≡ true → opens x.config i ≡ false
    → Passes x f i (if is_closing f.connection.phase && not (terminates x i) then ignores f else answer_of x f i)
passes x f i t k =
    by_row (Passes x f i) (is_closing f.connection.phase && not (terminates x i)) (ignores f) (answer_of x f i)
    (λ _. rejected x f i [] t)
    (λ _. all_rows (Passes x f i) (not_in_phase x f (template_of i)) (rows_of x f i) (broken x f i _ t) (each_row x f i t k))

-- ---- who gives no keys does not open the session

pub keyless : (cfg : EndConfig) (i : Incoming) → gives_keys cfg i ≡ false → opens cfg i ≡ false
keyless cfg (application p) k = refl
keyless cfg (session (negotiate _ _ _ _)) k = refl
keyless cfg (session (negotiation_response _ _ _ _)) k = refl
keyless cfg (session (negotiation_reject _ _ _ _)) k = refl
keyless cfg (session (establish _ _ _ _ _ _)) k = k
keyless cfg (session (establishment_ack _ _ _ _ _)) k = k
keyless cfg (session (establishment_reject _ _ _ _)) k = refl
keyless cfg (session (sequence _)) k = refl
keyless cfg (session unsequenced_heartbeat) k = refl
keyless cfg (session (retransmit_request _ _ _ _)) k = refl
keyless cfg (session (retransmission _ _ _ _)) k = refl
keyless cfg (session (retransmit_reject _ _ _ _)) k = refl
keyless cfg (session (applied _ _)) k = refl
keyless cfg (session (not_applied _ _)) k = refl
keyless cfg (session (finished_sending _ _)) k = refl
keyless cfg (session (finished_receiving _)) k = refl
keyless cfg (session (terminate _ _ _)) k = refl
keyless cfg wrong_order k = refl
keyless cfg too_short k = refl
keyless cfg (unknown _) k = refl

pub outside_stays : OutsideStays
outside_stays x f i t k = (passes x f i t k).stays

pub keyless_records_nothing : KeylessRecordsNothing
keyless_records_nothing x f i t k = (passes x f i t (keyless x.config i k)).spares k
