-- What an end replies to a message of a peer that keeps to the rules, and that no phase refuses it.
use Rattle.std.proofs.Common.{◌≡◌, ℕ, ◌+◌, ◌≤◌, ◌&&◌, nat_lt, not, Bool, true, false, if◌then◌else◌, List, [], ◌∷◌, ◌++◌, Option, Some, None, refl, sym, ap, subst, ◌∙◌, arith, true≢false}
use Rattle.std.specs.Prelude.{is_some, is_none, unwrap_or, Result, Ok, Err}
use Rattle.std.specs.List.{AllByRecursion}
use Rattle.fixp_msgs.specs.declared.numbering.Range.{Range}
use Rattle.fixp_msgs.specs.Message.{Message, negotiate, negotiation_response, negotiation_reject, establish, establishment_ack, establishment_reject, sequence, unsequenced_heartbeat, retransmit_request, retransmission, retransmit_reject, applied, not_applied, finished_sending, finished_receiving, terminate}
use Rattle.flow_recover.specs.declared.numbers.Seen.{Seen}
use Rattle.flow_recover.specs.declared.numbers.Seen.TheVariants.{Deliver, Hold, Gap, Repeat}
use Rattle.flow_recover.specs.Receiving as receiver_is
use Rattle.flow_retrans.specs.declared.requester.BadStart.{BadStart}
use Rattle.flow_retrans.specs.declared.judging.RetransmitCode.{RetransmitCode}
use Rattle.flow_retrans.specs.Judging.{judged}
use Rattle.flow_retrans.specs.Requests as request_is
use Rattle.fixp_shake.specs.declared.config.EndConfig.{EndConfig}
use Rattle.fixp_shake.specs.declared.phase.Phase.{Phase}
use Rattle.fixp_shake.specs.declared.phase.Phase.TheVariants as phases
use Rattle.fixp_shake.specs.declared.violation.Violation.{Violation}
use Rattle.fixp_shake.specs.declared.violation.Violation.TheVariants.{WentBack, MissingNext, NumberTooLarge, BadRetransmission, AfterFinish, FlowNone}
use Rattle.fixp_shake.specs.Flows.{is_recoverable, is_idempotent, is_sequenced, is_absent}
use Rattle.fixp_shake.specs.Phases.{is_established, is_closing, is_shaken}
use Rattle.fixp_replies.specs.declared.act.Act.{Act}
use Rattle.fixp_replies.specs.declared.act.Act.TheVariants as acts
use Rattle.fixp_replies.specs.declared.act.Ending.TheVariants as endings
use Rattle.fixp_replies.specs.declared.facts.Facts.{Facts}
use Rattle.fixp_replies.specs.declared.facts.PeerFinish.TheVariants as peer
use Rattle.fixp_replies.specs.declared.facts.OwnFinish.{OwnFinish}
use Rattle.fixp_replies.specs.declared.facts.OwnFinish.TheVariants as own
use Rattle.fixp_replies.specs.Incoming.{Incoming, application, session}
use Rattle.fixp_replies.specs.Facts.{Around, is_own, receiving, requesting, firm, serves, awaiting, gap_to_ask, having_asked, expected_number, peer_last, awaits_gap, finishes_exchanged, live_number, is_told, gap_of, holding_too}
use Rattle.fixp_replies.specs.Outcomes.{Outcome, goes_on, accepts, ignores, ends, breaks, not_in_phase, request_for, skip_of, told_skip}
use Rattle.fixp_replies.specs.Announcing.{Announced, jumped_over, announced, announcement_fault, refuses, announcement_rows}
use Rattle.fixp_replies.specs.Flowing.{bad_retransmission, counted, taken_as, finish_act, peer_finished, answers_finish, is_filled, is_past_finish, sequence_follows, sequence_taken, restarted, finished_last, finish_fault, finished, is_last, application_rows, sequence_rows, retransmission_rows, retransmit_reject_rows, finished_sending_rows}
use Rattle.fixp_replies.specs.Serving.{request_answered, own_finishing, retransmit_request_rows, finished_receiving_rows}
use Rattle.fixp_replies.specs.Replies.{reply_of, rows_of, answer_of, terminates, template_of}
use Rattle.fixp_machine.proofs.Rows.{by_row}
use Rattle.connection_laws.specs.Writing.{Piece, said, entry, said_all}
use Rattle.two_ends.specs.Reading.{incoming_of}
use Rattle.honest_ends.specs.PhaseLaws.{IsLeft}
use Rattle.honest_ends.proofs.Finishing.{answers, tells, awaited}
use Rattle.honest_ends.proofs.Asking.{asks, is_serving}
use Rattle.honest_ends.proofs.Deciding.{Decides, decided, decides_within, same_bytes, ended_by, never}
use Rattle.honest_ends.specs.Numbers.{IsFlowing, Peer}

-- where an outcome ends a connection by a violation, it is one of those left
abbrev pub Left : Outcome → Type 0
Left o = (v : Violation) → o.ending ≡ Some (endings.Violation v) → IsLeft v

-- what a reply is once the handshake is done
pub record Plain (cfg : EndConfig) (f : Facts) (o : Outcome) : Type 0 where
  pub phase : o.next.connection.phase ≡ f.connection.phase
  pub writes : AllByRecursion (IsFlowing cfg) (said_all o.written)
  pub ends : Left o

pub asked_phase : (g : Facts) (r : Option Range) → (having_asked g r).connection.phase ≡ g.connection.phase
asked_phase g None = refl
asked_phase g (Some r) = refl

pub asked_flows : (x : Around) (ms : List Message) (g : Option Range) → AllByRecursion (IsFlowing x.config) (said_all ms) → AllByRecursion (IsFlowing x.config) (said_all (ms ++ request_for x g))
asked_flows x [] None a = tt
asked_flows x [] (Some g) a = (refl, tt)
asked_flows x (m ∷ ms) g a = (a.0, asked_flows x ms g a.1)

pub skip_flows : (cfg : EndConfig) (s : Option Range) → AllByRecursion (IsFlowing cfg) (said_all (told_skip s))
skip_flows cfg None = tt
skip_flows cfg (Some s) = (tt, tt)

pub none_left : (v : Violation) → None ≡ Some (endings.Violation v) → IsLeft v
none_left v e = absurd cc

going : (x : Around) (f g : Facts) (act : Act) (written : List Message) → g.connection.phase ≡ f.connection.phase → AllByRecursion (IsFlowing x.config) (said_all written)
    → Plain x.config f (goes_on x act written g)
going x f g act written e a = record {
  phase = asked_phase g (gap_to_ask x g) ∙ e;
  writes = asked_flows x written (gap_to_ask x g) a;
  ends = none_left;
}

ignoring : (x : Around) (f g : Facts) → g.connection.phase ≡ f.connection.phase → Plain x.config f (ignores g)
ignoring x f g e = record { phase = e; writes = tt; ends = none_left }

pub terminated_left : (b : Bool) (code : ℕ) (w : Violation) → Some (if b then endings.Finished else endings.PeerTerminated code) ≡ Some (endings.Violation w) → IsLeft w
terminated_left true code w e = absurd cc
terminated_left false code w e = absurd cc

breaking : (x : Around) (f g : Facts) (code : ℕ) (v : Violation) → g.connection.phase ≡ f.connection.phase → IsLeft v → Plain x.config f (ends x g code (endings.Violation v))
breaking x f g code v e h = record { phase = e; writes = (refl, tt); ends = λ w same. ended_by IsLeft (finishes_exchanged x g) v w same h }

bad : (x : Around) (f : Facts) (b : Option BadStart) → Plain x.config f (bad_retransmission x f b)
bad x f None = ignoring x f f refl
bad x f (Some b) = breaking x f f 2 (BadRetransmission b.expected b.found) refl tt

refusing : (x : Around) (f g : Facts) (v : Option Violation) → g.connection.phase ≡ f.connection.phase → ((w : Violation) → v ≡ Some w → IsLeft w) → Plain x.config f (refuses x g v)
refusing x f g None e h = ignoring x f g e
refusing x f g (Some v) e h = breaking x f g 2 v e (h v refl)

there : {A : Type 0} (o : Option A) → is_some o ≡ true → is_none o ≡ false
there None e = absurd (true≢false (sym e))
there (Some a) e = refl

pub fault_left : (x : Around) (f : Facts) (t : ℕ) (next : Option ℕ) → (is_sequenced x.config.peer_flow ≡ true → is_some next ≡ true)
    → (v : Violation) → announcement_fault x f t next ≡ Some v → IsLeft v
fault_left x f t next given v e =
    by_tests (is_sequenced x.config.peer_flow) (is_none next) (nat_lt (x.most + 1) (unwrap_or next 0)) (nat_lt (unwrap_or next 0) (expected_number x f)) (λ n. there next (given n)) e
  where
    by_tests : (numbered missing large low : Bool) → (numbered ≡ true → missing ≡ false)
        → (if not numbered then None else if missing then Some (MissingNext t) else if large then Some (NumberTooLarge (unwrap_or next 0))
        else if low then Some (WentBack (unwrap_or next 0) (expected_number x f)) else None) ≡ Some v
        → IsLeft v
    by_tests false missing large low m e = absurd cc
    by_tests true true large low m e = absurd (true≢false (m refl))
    by_tests true false true low m e = let same : NumberTooLarge (unwrap_or next 0) ≡ v = cc e in subst (λ (u : Violation). IsLeft u) same tt
    by_tests true false false true m e = let same : WentBack (unwrap_or next 0) (expected_number x f) ≡ v = cc e in subst (λ (u : Violation). IsLeft u) same tt
    by_tests true false false false m e = absurd cc

pub announced_decides : (P : Outcome → Type 0) (x : Around) (f : Facts) (t : ℕ) (next : Option ℕ) (follows : Announced → Outcome)
    → (is_some (announcement_fault x f t next) ≡ true → P (refuses x f (announcement_fault x f t next)))
    → P (follows (announced x f next))
    → Decides P (announcement_rows x f t next follows)
announced_decides P x f t next follows refuse takes = (refuse, λ none. (λ _. takes, λ e. absurd (true≢false e)))

-- a message of this session is of no other
pub foreign : (x : Around) (id : List ℕ) {A : Type 0} → id ≡ x.config.session → not (is_own x id) ≡ true → A
foreign x id e n = never (is_own x id) (same_bytes id x.config.session e) n

-- the row that decides, among those of a message
pub heard : (P : Outcome → Type 0) (x : Around) (f : Facts) (i : Incoming) → Decides P (rows_of x f i) → P (answer_of x f i)
heard P x f i d = decided P (not_in_phase x f (template_of i)) (rows_of x f i) d

abbrev chosen : Facts → ℕ → Bool → Bool → Announced
chosen f n recoverable idempotent =
    if recoverable then record { facts = firm (receiving f (receiver_is.announced f.connection.receiver n)); skipped = None }
    else if idempotent then record { facts = awaiting f n; skipped = jumped_over f.recorded.inbox_next n }
    else record { facts = f; skipped = None }

pub announced_phase : (x : Around) (f : Facts) (next : Option ℕ) → (announced x f next).facts.connection.phase ≡ f.connection.phase
announced_phase x f next = by_flow (is_recoverable x.config.peer_flow) (is_idempotent x.config.peer_flow)
  where
    by_flow : (r i : Bool) → (chosen f (unwrap_or next 0) r i).facts.connection.phase ≡ f.connection.phase
    by_flow true i = refl
    by_flow false true = refl
    by_flow false false = refl

answering : (x : Around) (f g : Facts) (last : ℕ) → g.connection.phase ≡ f.connection.phase → Plain x.config f (answers_finish x g last)
answering x f g last e = going x f (peer_finished g (peer.Exchanged last) (Some (unwrap_or g.recorded.peer_last last))) (finish_act g.recorded.peer_last last) (finished_receiving x.config.session ∷ []) e (refl, tt)

taking : (x : Around) (f : Facts) (s : Seen) → Plain x.config f (taken_as x (counted f) s)
taking x f (Deliver n) = going x f (awaiting (counted f) (n + 1)) (acts.Apply n) [] refl tt
taking x f (Hold n) = let k = going (holding_too x n) f (counted f) acts.Nothing [] refl tt in record { phase = k.phase; writes = k.writes; ends = k.ends }
taking x f (Gap n) = going x f (counted f) acts.Nothing [] refl tt
taking x f (Repeat n) = going x f (counted f) acts.Nothing [] refl tt

following : (x : Around) (f g : Facts) (next : ℕ) (a : Announced) → g.connection.phase ≡ f.connection.phase → a.facts.connection.phase ≡ f.connection.phase → Plain x.config f (sequence_follows x g next a)
following x f g next a e same =
    by_row (Plain x.config f) (is_past_finish x g next) (breaks x g (AfterFinish (unwrap_or (peer_last g) 0) next)) (sequence_taken x a)
    (λ _. breaking x f g 2 (AfterFinish (unwrap_or (peer_last g) 0) next) e tt)
    (λ _. by_row (Plain x.config f) (is_filled x a.facts) (answers_finish x a.facts (unwrap_or (awaits_gap a.facts.connection.peer_finish) 0)) (goes_on x (skip_of a.skipped) (told_skip a.skipped) a.facts)
    (λ _. answering x f a.facts (unwrap_or (awaits_gap a.facts.connection.peer_finish) 0) same)
    (λ _. going x f a.facts (skip_of a.skipped) (told_skip a.skipped) same (skip_flows x.config a.skipped)))

requested : (x : Around) (f : Facts) (id : List ℕ) (timestamp : ℕ) (r : Result Range RetransmitCode) → id ≡ x.config.session → Plain x.config f (request_answered x f id timestamp r)
requested x f id timestamp (Ok range) e = going x f (serves f (Some range)) acts.Nothing (retransmission x.config.session range.from timestamp range.count ∷ []) refl (refl, tt)
requested x f id timestamp (Err code) e = record { phase = refl; writes = (e, tt); ends = none_left }

finish_left : (x : Around) (f : Facts) (last : Option ℕ) → is_absent x.config.peer_flow ≡ false → (is_sequenced x.config.peer_flow ≡ true → is_some last ≡ true)
    → (v : Violation) → finish_fault x f last ≡ Some v → IsLeft v
finish_left x f last flow given v e =
    by_tests (is_absent x.config.peer_flow) (is_sequenced x.config.peer_flow) (is_none last) (not (is_last x f (finished_last x last))) flow (λ n. there last (given n)) e
  where
    by_tests : (absent numbered missing other : Bool) → absent ≡ false → (numbered ≡ true → missing ≡ false)
        → (if absent then Some (FlowNone 14) else if numbered && missing then Some (MissingNext 14)
        else if numbered && other then Some (AfterFinish (finished_last x last) (live_number x f)) else None) ≡ Some v
        → IsLeft v
    by_tests true numbered missing other a m e = absurd (true≢false a)
    by_tests false true true other a m e = absurd (true≢false (m refl))
    by_tests false true false true a m e = let same : AfterFinish (finished_last x last) (live_number x f) ≡ v = cc e in subst (λ (u : Violation). IsLeft u) same tt
    by_tests false true false false a m e = absurd cc
    by_tests false false missing other a m e = absurd cc

finishing : (x : Around) (f : Facts) (n : ℕ) → Plain x.config f (finished x f n)
finishing x f n = by_row (Plain x.config f) (is_some (gap_of x f)) (accepts x [] (peer_finished f (peer.Read n) f.recorded.peer_last)) (answers_finish x f n)
    (λ _. going x f (peer_finished f (peer.Read n) f.recorded.peer_last) acts.Nothing [] refl tt)
    (λ _. answering x f f n refl)

application_plain : (x : Around) (f : Facts) → is_absent x.config.peer_flow ≡ false → Decides (Plain x.config f) (application_rows x f)
application_plain x f present = (
  λ absent. absurd (true≢false (sym absent ∙ present)),
  λ _. (
    λ _. breaking x f f 2 _ refl tt,
    λ _. (
      λ _. breaking x f f 2 _ refl tt,
      λ _. (
        λ _. going x f (awaiting f (f.recorded.inbox_next + 1)) (acts.Apply f.recorded.inbox_next) [] refl tt,
        λ _. (
          λ _. bad x f (request_is.message_fault f.connection.requester),
          λ _. (λ _. taking x f (receiver_is.seen f.connection.receiver), λ e. absurd (true≢false e)),
        ),
      ),
    ),
  ),
)

sequence_plain : (x : Around) (f : Facts) (next : ℕ) → Decides (Plain x.config f) (sequence_rows x f next)
sequence_plain x f next =
    let g : Facts = requesting f (request_is.after_sequence f.connection.requester) in (
      λ _. bad x f (request_is.sequence_fault f.connection.requester),
      λ _. announced_decides (Plain x.config f) x g 7 (Some next) (sequence_follows x g next)
          (λ _. refusing x f g (announcement_fault x g 7 (Some next)) refl (fault_left x g 7 (Some next) (λ _. refl)))
          (following x f g next (announced x g (Some next)) refl (announced_phase x g (Some next))),
    )

untold : (q : OwnFinish) → is_told q ≡ false → 1 ≤ awaited q → ⊥
untold own.Open e one = omega (arith, one)
untold own.Told e one = true≢false e
untold own.Exchanged e one = omega (arith, one)

-- the reply to a Terminate, in any phase
terminating : (x : Around) (f : Facts) (theirs : EndConfig) (id : List ℕ) (code : ℕ) (reason : List ℕ) → Peer x.config theirs → id ≡ theirs.session → Plain x.config f (answer_of x f (session (terminate id code reason)))
terminating x f theirs id code reason are flows =
    heard (Plain x.config f) x f (session (terminate id code reason)) (foreign x id (flows ∙ are.session), λ _. (λ _. record { phase = refl; writes = (refl, tt); ends = λ w same. terminated_left (finishes_exchanged x f) code w same }, λ e. absurd (true≢false e)))

-- the reply to a message that is written once the handshake is done, in Established
answered : (x : Around) (f : Facts) (theirs : EndConfig) (p : Piece) → Peer x.config theirs → answers p ≤ tells f → (1 ≤ asks p → is_serving f ≡ false) → is_established f.connection.phase ≡ true → IsFlowing theirs p → Plain x.config f (answer_of x f (incoming_of p))
answered x f theirs (entry payload) are told free here flows =
    heard (Plain x.config f) x f (application payload) (decides_within (Plain x.config f) (is_established f.connection.phase) (application_rows x f) here
    (application_plain x f (ap (λ flow. is_absent flow) are.flow ∙ flows)))
answered x f theirs (said (negotiate id timestamp flow credentials)) are told free here flows = absurd flows
answered x f theirs (said (negotiation_response id timestamp flow credentials)) are told free here flows = absurd flows
answered x f theirs (said (negotiation_reject id timestamp code reason)) are told free here flows = absurd flows
answered x f theirs (said (establish id timestamp keepalive next expected credentials)) are told free here flows = absurd flows
answered x f theirs (said (establishment_ack id timestamp keepalive next expected)) are told free here flows = absurd flows
answered x f theirs (said (establishment_reject id timestamp code reason)) are told free here flows = absurd flows
answered x f theirs (said (sequence next)) are told free here flows =
    heard (Plain x.config f) x f (session (sequence next)) (decides_within (Plain x.config f) (is_established f.connection.phase) (sequence_rows x f next) here (sequence_plain x f next))
answered x f theirs (said unsequenced_heartbeat) are told free here flows = going x f f acts.Nothing [] refl tt
answered x f theirs (said (retransmit_request id timestamp first count)) are told free here flows =
    heard (Plain x.config f) x f (session (retransmit_request id timestamp first count)) (decides_within (Plain x.config f) (is_established f.connection.phase) (retransmit_request_rows x f id timestamp first count) here (
      λ busy. absurd (true≢false (sym busy ∙ free (omega arith))),
      λ _. (λ _. requested x f id timestamp (judged (is_own x id) (is_recoverable x.config.own_flow) first count f.recorded.sent) (flows ∙ are.session), λ e. absurd (true≢false e)),
    ))
answered x f theirs (said (retransmission id next timestamp count)) are told free here flows =
    heard (Plain x.config f) x f (session (retransmission id next timestamp count)) (
      foreign x id (flows ∙ are.session),
      λ _. (decides_within (Plain x.config f) (is_established f.connection.phase) (retransmission_rows x f next count) here (
        λ _. bad x f (request_is.start_fault (request_is.outstanding f.connection.requester) next count),
        λ _. (λ _. going x f (restarted f next count) acts.Nothing [] refl tt, λ e. absurd (true≢false e)),
      )),
    )
answered x f theirs (said (retransmit_reject id timestamp code reason)) are told free here flows =
    heard (Plain x.config f) x f (session (retransmit_reject id timestamp code reason)) (
      foreign x id (flows ∙ are.session),
      λ _. (decides_within (Plain x.config f) (is_established f.connection.phase) (retransmit_reject_rows x f) here (
        λ _. breaking x f f 2 _ refl tt,
        λ e. absurd (true≢false e),
      )),
    )
answered x f theirs (said (applied first count)) are told free here flows = going x f f acts.Nothing [] refl tt
answered x f theirs (said (not_applied first count)) are told free here flows =
    by_row (Plain x.config f) (is_idempotent x.config.own_flow) (goes_on x (acts.Told first count) [] f) (accepts x [] f)
    (λ _. going x f f (acts.Told first count) [] refl tt) (λ _. going x f f acts.Nothing [] refl tt)
answered x f theirs (said (finished_sending id last)) are told free here flows =
    heard (Plain x.config f) x f (session (finished_sending id last)) (
      foreign x id (flows.0 ∙ are.session),
      λ _. (decides_within (Plain x.config f) (is_established f.connection.phase) (finished_sending_rows x f last) here (
        λ _. refusing x f f (finish_fault x f last) refl (finish_left x f last (ap (λ flow. is_absent flow) are.flow ∙ flows.1) (λ n. flows.2 (ap (λ flow. is_sequenced flow) (sym are.flow) ∙ n))),
        λ _. (λ _. finishing x f (finished_last x last), λ e. absurd (true≢false e)),
      )),
    )
answered x f theirs (said (finished_receiving id)) are told free here flows =
    heard (Plain x.config f) x f (session (finished_receiving id)) (
      foreign x id (flows ∙ are.session),
      λ _.
          decides_within (Plain x.config f) (is_established f.connection.phase) (finished_receiving_rows x f) here
          (λ _. going x f (own_finishing f own.Exchanged) acts.Nothing [] refl tt, λ n. absurd (untold f.connection.own_finish n told)),
    )
answered x f theirs (said (terminate id code reason)) are told free here flows = terminating x f theirs id code reason are flows

-- the reply to it once the handshake is done: an initiator that has written its Terminate ignores all but one
pub shaken_reply : (x : Around) (f : Facts) (theirs : EndConfig) (p : Piece) → Peer x.config theirs → answers p ≤ tells f → (1 ≤ asks p → is_serving f ≡ false) → is_shaken f.connection.phase ≡ true → IsFlowing theirs p → Plain x.config f (reply_of x f (incoming_of p))
shaken_reply x f theirs p are due free done flows =
    by_row (Plain x.config f) (is_closing f.connection.phase && not (terminates x (incoming_of p))) (ignores f) (answer_of x f (incoming_of p))
    (λ _. ignoring x f f refl)
    (λ e. hears p flows due free e)
  where
    stands : (q : Phase) → is_shaken q ≡ true → (is_closing q && true) ≡ false → is_established q ≡ true
    stands phases.Idle s e = absurd (true≢false (sym s))
    stands phases.Negotiating s e = absurd (true≢false (sym s))
    stands phases.Establishing s e = absurd (true≢false (sym s))
    stands phases.Established s e = refl
    stands phases.Closing s e = absurd (true≢false e)
    stands phases.Ended s e = absurd (true≢false (sym s))

    hears : (q : Piece) → IsFlowing theirs q → answers q ≤ tells f → (1 ≤ asks q → is_serving f ≡ false) → (is_closing f.connection.phase && not (terminates x (incoming_of q))) ≡ false → Plain x.config f (answer_of x f (incoming_of q))
    hears (entry payload) w d n e = answered x f theirs (entry payload) are d n (stands f.connection.phase done e) w
    hears (said (negotiate id timestamp flow credentials)) w d n e = absurd w
    hears (said (negotiation_response id timestamp flow credentials)) w d n e = absurd w
    hears (said (negotiation_reject id timestamp code reason)) w d n e = absurd w
    hears (said (establish id timestamp keepalive next expected credentials)) w d n e = absurd w
    hears (said (establishment_ack id timestamp keepalive next expected)) w d n e = absurd w
    hears (said (establishment_reject id timestamp code reason)) w d n e = absurd w
    hears (said (sequence next)) w d n e = answered x f theirs (said (sequence next)) are d n (stands f.connection.phase done e) w
    hears (said unsequenced_heartbeat) w d n e = answered x f theirs (said unsequenced_heartbeat) are d n (stands f.connection.phase done e) w
    hears (said (retransmit_request id timestamp first count)) w d n e = answered x f theirs (said (retransmit_request id timestamp first count)) are d n (stands f.connection.phase done e) w
    hears (said (retransmission id next timestamp count)) w d n e = answered x f theirs (said (retransmission id next timestamp count)) are d n (stands f.connection.phase done e) w
    hears (said (retransmit_reject id timestamp code reason)) w d n e = answered x f theirs (said (retransmit_reject id timestamp code reason)) are d n (stands f.connection.phase done e) w
    hears (said (applied first count)) w d n e = answered x f theirs (said (applied first count)) are d n (stands f.connection.phase done e) w
    hears (said (not_applied first count)) w d n e = answered x f theirs (said (not_applied first count)) are d n (stands f.connection.phase done e) w
    hears (said (finished_sending id last)) w d n e = answered x f theirs (said (finished_sending id last)) are d n (stands f.connection.phase done e) w
    hears (said (finished_receiving id)) w d n e = answered x f theirs (said (finished_receiving id)) are d n (stands f.connection.phase done e) w
    hears (said (terminate id code reason)) w d n e = terminating x f theirs id code reason are w
