-- That what ends or closes a connection writes a Terminate: replies row by row of the reply table, and the other calls.
use Rattle.std.proofs.Common.{◌≡◌, ◌⊎◌, inl, inr, ℕ, ◌+◌, ◌≤◌, ◌&&◌, not, Bool, true, false, if◌then◌else◌, List, [], ◌∷◌, ◌++◌, Option, Some, None, refl, sym, ap, ◌∙◌, arith, eq-eqb, true≢false}
use Rattle.std.specs.Prelude.{is_some, unwrap_or, IsSome, Result, Ok, Err}
use Rattle.session_model.specs.Inbox.{Numbered}
use Rattle.fixp_msgs.specs.declared.messages.Expected.{Expected}
use Rattle.fixp_msgs.specs.declared.numbering.Range.{Range}
use Rattle.fixp_msgs.specs.Message.{Message, negotiate, negotiation_response, negotiation_reject, establish, establishment_ack, establishment_reject, sequence, unsequenced_heartbeat, retransmit_request, retransmission, retransmit_reject, applied, not_applied, finished_sending, finished_receiving, terminate}
use Rattle.flow_recover.specs.declared.numbers.Seen.{Seen}
use Rattle.flow_recover.specs.declared.numbers.Seen.TheVariants.{Deliver, Hold, Gap, Repeat}
use Rattle.flow_recover.specs.Receiving as receiver_is
use Rattle.flow_retrans.specs.declared.requester.BadStart.{BadStart}
use Rattle.flow_retrans.specs.declared.judging.RetransmitCode.{RetransmitCode}
use Rattle.flow_retrans.specs.Judging.{judged}
use Rattle.flow_retrans.specs.Requests as request_is
use Rattle.flow_idem.specs.Runs.{runs_of}
use Rattle.fixp_shake.specs.declared.phase.Phase.TheVariants as phases
use Rattle.fixp_shake.specs.declared.violation.Violation.{Violation}
use Rattle.fixp_shake.specs.declared.violation.Violation.TheVariants.{AfterFinish, OtherSession}
use Rattle.fixp_shake.specs.Flows.{is_recoverable, is_sequenced}
use Rattle.fixp_shake.specs.Phases.{is_negotiating, is_establishing, is_established, is_closing}
use Rattle.fixp_replies.specs.declared.act.Act.{Act}
use Rattle.fixp_replies.specs.declared.act.Act.TheVariants as acts
use Rattle.fixp_replies.specs.declared.act.Ending.{Ending}
use Rattle.fixp_replies.specs.declared.act.Ending.TheVariants as endings
use Rattle.fixp_replies.specs.declared.facts.Facts.{Facts}
use Rattle.fixp_replies.specs.declared.facts.OwnFinish.TheVariants as own
use Rattle.fixp_replies.specs.declared.facts.PeerFinish.TheVariants as peer
use Rattle.fixp_replies.specs.Incoming.{Incoming, application, session, wrong_order, too_short, unknown}
use Rattle.fixp_replies.specs.Facts.{Around, is_own, in_phase, requesting, awaits_gap, gap_of, peer_last}
use Rattle.fixp_replies.specs.Outcomes.{Outcome, Row, row, goes_on, accepts, rejects, ignores, ends, breaks, not_in_phase, skip_of, told_skip}
use Rattle.fixp_replies.specs.Announcing.{Announced, announced, announcement_rows, refuses}
use Rattle.fixp_replies.specs.Handshake.{awaits_client, serves_client, acknowledges, establish_rows, established_again_rows, establish_rows_in, reached}
use Rattle.fixp_replies.specs.Flowing.{bad_retransmission, counted, taken_as, peer_finished, answers_finish, is_filled, is_past_finish, sequence_taken, sequence_follows, finished_last, finish_fault, finished}
use Rattle.fixp_replies.specs.Serving.{request_answered, own_finishing}
use Rattle.fixp_replies.specs.Replies.{reply_of, template_of, rows_of, answer_of, terminates}
use Rattle.fixp_replies.specs.Events.{Made, heartbeats, lateness, applied_runs, closes, turn_ended, outbox_finished, tells_finish, finish_told}
use Rattle.fixp_machine.specs.Machine.{State, begin, frame, bad_frame, did, tick, turn_done, closed, link_end, live, again, taken, reserve, held_done, around, bytes_of, wrote, made, broken_by, served_again, front_of, held_applied, step}
use Rattle.fixp_machine.proofs.Rows.{AllRows, by_row, all_rows, all_within, announced_rows, own_rows}
use Rattle.connection_laws.specs.Writing.{said_all, said_breaking, writes}
use Rattle.drain_laws.specs.Counts.{shutting, among, in_frame, under_way}
use Rattle.drain_ends.specs.Shutting.{GoesOn, RepliesShut, IsOver, CallsShut}
use Rattle.drain_laws.proofs.Counting.{among_append}

-- what is said counts as it does among what is written
pub said_counts : (kind : Message → ℕ) (ms : List Message) → under_way kind (said_all ms) ≡ among kind ms
said_counts kind [] = refl
said_counts kind (m ∷ ms) = ap (λ k. kind m + k) (said_counts kind ms)

-- an outcome that ends the connection writes a Terminate
record Shuts (o : Outcome) : Type 0 where
  shuts : is_some o.ending ≡ true → 1 ≤ among shutting o.written

goes : (x : Around) (act : Act) (ms : List Message) (g : Facts) → Shuts (goes_on x act ms g)
goes x act ms g = record { shuts = λ e. absurd (true≢false (sym e)) }

stays : (ms : List Message) (f : Facts) → Shuts (rejects ms f)
stays ms f = record { shuts = λ e. absurd (true≢false (sym e)) }

stops : (x : Around) (g : Facts) (code : ℕ) (e : Ending) → Shuts (ends x g code e)
stops x g code e = record { shuts = λ _. omega arith }

bad : (x : Around) (f : Facts) (b : Option BadStart) → Shuts (bad_retransmission x f b)
bad x f None = stays [] f
bad x f (Some b) = stops x f 2 _

refusing : (x : Around) (f : Facts) (v : Option Violation) → Shuts (refuses x f v)
refusing x f None = stays [] f
refusing x f (Some v) = stops x f 2 _

announcing : (x : Around) (f : Facts) (template : ℕ) (next : Option ℕ) (follows : Announced → Outcome) → Shuts (follows (announced x f next)) → AllRows Shuts (announcement_rows x f template next follows)
announcing x f template next follows takes = announced_rows Shuts x f template next follows (λ v. refusing x f v) (λ _. takes)

acknowledging : (x : Around) (timestamp keepalive : ℕ) (e : Expected) (a : Announced) → Shuts (acknowledges x timestamp keepalive e a)
acknowledging x timestamp keepalive e a = record { shuts = λ t. absurd (true≢false (sym t)) }

acknowledged : (x : Around) (keepalive : ℕ) (e : Expected) (a : Announced) → Shuts (reached x keepalive e a)
acknowledged x keepalive e a = record { shuts = λ t. absurd (true≢false (sym t)) }

establish_all : (x : Around) (f : Facts) (id : List ℕ) (timestamp keepalive : ℕ) (next : Option ℕ) (expected : Expected) (credentials : List ℕ)
    → AllRows Shuts (establish_rows_in x f id timestamp keepalive next expected credentials)
establish_all x f id timestamp keepalive next expected credentials = by_place (awaits_client x f) (serves_client x f)
  where
    by_place : (p q : Bool) → AllRows Shuts (if p then establish_rows x f id timestamp keepalive next expected credentials else if q then established_again_rows x f id timestamp else [])
    by_place true q = (
      λ _. stays _ f,
      λ _. (
        λ _. stays _ f,
        λ _. (
          λ _. stays _ f,
          λ _. announcing x f 4 next (acknowledges x timestamp keepalive expected) (acknowledging x timestamp keepalive expected (announced x f next)),
        ),
      ),
    )
    by_place false true = (λ _. stays _ f, λ _. (λ _. stays _ f, λ _. tt))
    by_place false false = tt

taking : (x : Around) (f : Facts) (s : Seen) → Shuts (taken_as x f s)
taking x f (Deliver n) = goes x (acts.Apply n) [] _
taking x f (Hold n) = record { shuts = λ e. absurd (true≢false (sym e)) }
taking x f (Gap n) = goes x acts.Nothing [] f
taking x f (Repeat n) = goes x acts.Nothing [] f

message_rows : (x : Around) (f : Facts) (payload : List ℕ) → AllRows Shuts (rows_of x f (application payload))
message_rows x f payload =
    all_within Shuts (is_established f.connection.phase) _ (λ _. (
      λ _. stops x f 2 _,
      λ _. (
        λ _. stops x f 2 _,
        λ _. (
          λ _. stops x f 2 _,
          λ _. (
            λ _. goes x (acts.Apply f.recorded.inbox_next) [] _,
            λ _. (λ _. bad x f (request_is.message_fault f.connection.requester), λ _. (λ _. taking x (counted f) (receiver_is.seen f.connection.receiver), λ _. tt)),
          ),
        ),
      ),
    ))

answering : (x : Around) (g : Facts) (last : ℕ) → Shuts (answers_finish x g last)
answering x g last = record { shuts = λ e. absurd (true≢false (sym e)) }

following : (x : Around) (g : Facts) (next : ℕ) (a : Announced) → Shuts (sequence_follows x g next a)
following x g next a =
    by_row Shuts (is_past_finish x g next) (breaks x g (AfterFinish (unwrap_or (peer_last g) 0) next)) (sequence_taken x a)
    (λ _. stops x g 2 _)
    (λ _. by_row Shuts (is_filled x a.facts) (answers_finish x a.facts (unwrap_or (awaits_gap a.facts.connection.peer_finish) 0)) (goes_on x (skip_of a.skipped) (told_skip a.skipped) a.facts)
    (λ _. answering x a.facts _)
    (λ _. goes x (skip_of a.skipped) (told_skip a.skipped) a.facts))

requested : (x : Around) (f : Facts) (id : List ℕ) (timestamp : ℕ) (r : Result Range RetransmitCode) → Shuts (request_answered x f id timestamp r)
requested x f id timestamp (Ok range) = record { shuts = λ e. absurd (true≢false (sym e)) }
requested x f id timestamp (Err code) = record { shuts = λ e. absurd (true≢false (sym e)) }

finishing : (x : Around) (f : Facts) (last : ℕ) → Shuts (finished x f last)
finishing x f last =
    by_row Shuts (is_some (gap_of x f)) (accepts x [] (peer_finished f (peer.Read last) f.recorded.peer_last)) (answers_finish x f last)
    (λ _. goes x acts.Nothing [] _)
    (λ _. answering x f last)

session_rows : (x : Around) (f : Facts) (m : Message) → GoesOn (session m) → AllRows Shuts (rows_of x f (session m))
session_rows x f (negotiate id timestamp flow credentials) on =
    all_within Shuts (awaits_client x f) _ (λ _. (λ _. stays _ f, λ _. (λ _. stays _ f, λ _. (λ _. stays _ f, λ _. (λ _. stays _ f, λ _. (λ _. record { shuts = λ e. absurd (true≢false (sym e)) }, λ _. tt))))))
session_rows x f (negotiation_response id timestamp flow credentials) on =
    own_rows Shuts x f 2 id _ (λ e. stops x f 2 e) (all_within Shuts (is_negotiating f.connection.phase) _ (λ _. (λ _. stops x f 2 _, λ _. (λ _. record { shuts = λ e. absurd (true≢false (sym e)) }, λ _. tt))))
session_rows x f (negotiation_reject id timestamp code reason) on =
    own_rows Shuts x f 3 id _ (λ e. stops x f 2 e) (all_within Shuts (is_negotiating f.connection.phase) _ (λ _. (
      λ _. record { shuts = λ e. absurd (true≢false (sym e)) },
      λ other. absurd (true≢false (sym (eq-eqb code 4 on) ∙ other)),
    )))
session_rows x f (establish id timestamp keepalive next expected credentials) on = establish_all x f id timestamp keepalive next expected credentials
session_rows x f (establishment_ack id timestamp keepalive next expected) on =
    own_rows Shuts x f 5 id _ (λ e. stops x f 2 e) (all_within Shuts (is_establishing f.connection.phase) _ (λ _.
    announcing x f 5 next (reached x keepalive expected) (acknowledged x keepalive expected (announced x f next))))
session_rows x f (establishment_reject id timestamp code reason) on =
    own_rows Shuts x f 6 id _ (λ e. stops x f 2 e) (all_within Shuts (is_establishing f.connection.phase) _ (λ _. (
      λ _. record { shuts = λ e. absurd (true≢false (sym e)) },
      λ other. absurd (true≢false (sym (eq-eqb code 2 on) ∙ other)),
    )))
session_rows x f (sequence next) on =
    let g : Facts = requesting f (request_is.after_sequence f.connection.requester) in
    all_within Shuts (is_established f.connection.phase) _ (λ _. (
      λ _. bad x f (request_is.sequence_fault f.connection.requester),
      λ _. announcing x g 7 (Some next) (sequence_follows x g next) (following x g next (announced x g (Some next))),
    ))
session_rows x f unsequenced_heartbeat on = (λ _. goes x acts.Nothing [] f, λ _. tt)
session_rows x f (retransmit_request id timestamp first count) on =
    all_within Shuts (is_established f.connection.phase) _ (λ _. (
      λ _. stops x f 4 _,
      λ _. (λ _. requested x f id timestamp (judged (is_own x id) (is_recoverable x.config.own_flow) first count f.recorded.sent), λ _. tt),
    ))
session_rows x f (retransmission id next timestamp count) on =
    own_rows Shuts x f 10 id _ (λ e. stops x f 2 e) (all_within Shuts (is_established f.connection.phase) _ (λ _. (
      λ _. bad x f (request_is.start_fault (request_is.outstanding f.connection.requester) next count),
      λ _. (λ _. goes x acts.Nothing [] _, λ _. tt),
    )))
session_rows x f (retransmit_reject id timestamp code reason) on =
    own_rows Shuts x f 11 id _ (λ e. stops x f 2 e) (all_within Shuts (is_established f.connection.phase) _ (λ _. (λ _. stops x f 2 _, λ _. tt)))
session_rows x f (applied first count) on = (λ _. goes x acts.Nothing [] f, λ _. tt)
session_rows x f (not_applied first count) on = (λ _. goes x (acts.Told first count) [] f, λ _. (λ _. goes x acts.Nothing [] f, λ _. tt))
session_rows x f (finished_sending id last) on =
    own_rows Shuts x f 14 id _ (λ e. stops x f 2 e) (all_within Shuts (is_established f.connection.phase) _ (λ _. (
      λ _. refusing x f (finish_fault x f last),
      λ _. (λ _. finishing x f (finished_last x last), λ _. tt),
    )))
session_rows x f (finished_receiving id) on =
    own_rows Shuts x f 15 id _ (λ e. stops x f 2 e) (all_within Shuts (is_established f.connection.phase) _ (λ _. (λ _. goes x acts.Nothing [] _, λ _. tt)))
session_rows x f (terminate id code reason) on =
    let answer : Row = row true (ends x f 1 (endings.PeerTerminated code)) in
    let rows : AllRows Shuts (answer ∷ []) = (λ _. stops x f 1 _, λ _. tt) in
    own_rows Shuts x f 16 id (answer ∷ []) (λ e. stops x f 2 e) rows

each_row : (x : Around) (f : Facts) (i : Incoming) → GoesOn i → AllRows Shuts (rows_of x f i)
each_row x f (application payload) on = message_rows x f payload
each_row x f (session m) on = session_rows x f m on
each_row x f wrong_order on = (λ _. stops x f 2 _, λ _. tt)
each_row x f too_short on = (λ _. stops x f 2 _, λ _. tt)
each_row x f (unknown template) on = (λ _. stops x f 2 _, λ _. tt)

reply_shuts : (x : Around) (f : Facts) (i : Incoming) → GoesOn i → Shuts (reply_of x f i)
reply_shuts x f i on =
    by_row Shuts (is_closing f.connection.phase && not (terminates x i)) (ignores f) (answer_of x f i)
    (λ _. stays [] f)
    (λ _. all_rows Shuts (not_in_phase x f (template_of i)) (rows_of x f i) (stops x f 2 _) (each_row x f i on))

-- with a Terminate the connection ends
abbrev Stopped : Outcome → Type 0
Stopped o = is_some o.ending ≡ true

terminated : (x : Around) (f : Facts) (m : Message) → 1 ≤ shutting m → Stopped (answer_of x f (session m))
terminated x f (terminate id code reason) one =
    by_row Stopped (not (is_own x id)) (breaks x f (OtherSession 16)) (ends x f 1 (endings.PeerTerminated code)) (λ _. refl) (λ _. refl)
terminated x f (negotiate id timestamp flow credentials) one = absurd (omega (arith, one))
terminated x f (negotiation_response id timestamp flow credentials) one = absurd (omega (arith, one))
terminated x f (negotiation_reject id timestamp code reason) one = absurd (omega (arith, one))
terminated x f (establish id timestamp keepalive next expected credentials) one = absurd (omega (arith, one))
terminated x f (establishment_ack id timestamp keepalive next expected) one = absurd (omega (arith, one))
terminated x f (establishment_reject id timestamp code reason) one = absurd (omega (arith, one))
terminated x f (sequence next) one = absurd (omega (arith, one))
terminated x f unsequenced_heartbeat one = absurd (omega (arith, one))
terminated x f (retransmit_request id timestamp first count) one = absurd (omega (arith, one))
terminated x f (retransmission id next timestamp count) one = absurd (omega (arith, one))
terminated x f (retransmit_reject id timestamp code reason) one = absurd (omega (arith, one))
terminated x f (applied first count) one = absurd (omega (arith, one))
terminated x f (not_applied first count) one = absurd (omega (arith, one))
terminated x f (finished_sending id last) one = absurd (omega (arith, one))
terminated x f (finished_receiving id) one = absurd (omega (arith, one))

not_deaf : (closing own : Bool) → (closing ≡ false) ⊎ (own ≡ true) → (closing && not own) ≡ true → ⊥
not_deaf false own h e = true≢false (sym e)
not_deaf true true h e = true≢false (sym e)
not_deaf true false (inl before) e = true≢false before
not_deaf true false (inr other) e = true≢false (sym other)

ended_by_it : (x : Around) (f : Facts) (i : Incoming) → 1 ≤ in_frame shutting i → (is_closing f.connection.phase ≡ false) ⊎ (terminates x i ≡ true) → Stopped (reply_of x f i)
ended_by_it x f (session m) one h =
    by_row Stopped (is_closing f.connection.phase && not (terminates x (session m))) (ignores f) (answer_of x f (session m))
    (λ deaf. absurd (not_deaf (is_closing f.connection.phase) (terminates x (session m)) h deaf))
    (λ _. terminated x f m one)
ended_by_it x f (application payload) one h = absurd (omega (arith, one))
ended_by_it x f wrong_order one h = absurd (omega (arith, one))
ended_by_it x f too_short one h = absurd (omega (arith, one))
ended_by_it x f (unknown template) one h = absurd (omega (arith, one))

pub replies_shut : RepliesShut
replies_shut = record {
  writes_one = λ x f i on e. (reply_shuts x f i on).shuts e;
  ends_with_one = ended_by_it;
}

-- a connection that went on goes on
never : (ending : Option Ending) (closing : Bool) → ending ≡ None → closing ≡ false → IsSome ending ⊎ (closing ≡ true) → ⊥
never None closing going yet (inl over) = true≢false (sym over)
never (Some e) closing going yet over = absurd cc
never None closing going yet (inr over) = true≢false (sym over ∙ yet)

not_ended : (e : Option Ending) → e ≡ None → is_some e ≡ true → ⊥
not_ended None e t = true≢false (sym t)
not_ended (Some ending) e t = absurd cc

ticks : (s : State) (now : ℕ) → s.ending ≡ None → is_closing s.facts.connection.phase ≡ false → IsOver (step s (tick now)) → 1 ≤ under_way shutting (writes s (tick now))
ticks s now going yet over = by_end (is_some s.ending) refl over
  where
    x : Around
    x = around s 0 now

    hb : List Message
    hb = heartbeats x s.facts s.last_sent s.unsent

    beat : State
    beat = wrote (record s { moment = now }) (bytes_of hb) now

    by_fault : (v : Option Violation) → IsOver (broken_by beat v now) → 1 ≤ under_way shutting (said_all (hb ++ said_breaking s v now))
    by_fault None late = absurd (never s.ending (is_closing s.facts.connection.phase) going yet late)
    by_fault (Some v) late =
        let w = said_counts shutting (hb ++ terminate s.config.session 2 [] ∷ []) in
        let a = among_append shutting hb (terminate s.config.session 2 [] ∷ []) in
        omega (arith, w, a)

    by_end : (b : Bool) → is_some s.ending ≡ b → IsOver (if b then record s { moment = now } else broken_by beat (lateness x s.facts s.start s.last_received) now)
        → 1 ≤ under_way shutting (if b then [] else said_all (hb ++ said_breaking s (lateness x s.facts s.start s.last_received) now))
    by_end true t late = absurd (not_ended s.ending going t)
    by_end false t late = by_fault (lateness x s.facts s.start s.last_received) late

abbrev ended_if : Bool → Around → Facts → List Range → Made
ended_if b x f runs =
    if b then record { written = applied_runs runs ++ terminate x.config.session 1 [] ∷ []; next = in_phase f phases.Closing }
    else record { written = applied_runs runs; next = f }

turns : (s : State) (now : ℕ) → s.ending ≡ None → is_closing s.facts.connection.phase ≡ false → IsOver (step s (turn_done now)) → 1 ≤ under_way shutting (writes s (turn_done now))
turns s now going yet over = by_end (is_some s.ending) refl over
  where
    x : Around
    x = around s 0 now

    runs : List Range
    runs = runs_of s.untold

    behind : Made → State
    behind o = record (made (record s { moment = now }) o now) { untold = [] }

    by_test : (b : Bool) → IsOver (behind (ended_if b x s.facts runs)) → 1 ≤ under_way shutting (said_all (ended_if b x s.facts runs).written)
    by_test true late =
        let w = said_counts shutting (applied_runs runs ++ terminate s.config.session 1 [] ∷ []) in
        let a = among_append shutting (applied_runs runs) (terminate s.config.session 1 [] ∷ []) in
        omega (arith, w, a)
    by_test false late = absurd (never s.ending (is_closing s.facts.connection.phase) going yet late)

    by_end : (b : Bool) → is_some s.ending ≡ b → IsOver (if b then record s { moment = now } else behind (turn_ended x s.facts runs))
        → 1 ≤ under_way shutting (if b then [] else said_all (turn_ended x s.facts runs).written)
    by_end true t late = absurd (not_ended s.ending going t)
    by_end false t late = by_test (closes x s.facts) late

-- what is told, sent again or applied ends and closes nothing
abbrev told_if : Bool → Around → Facts → (last : ℕ) → Made
told_if b x f last =
    if b then record {
      written = finished_sending x.config.session (if is_sequenced x.config.own_flow then Some last else None) ∷ [];
      next = own_finishing (outbox_finished f last) own.Told;
    }
    else record { written = []; next = outbox_finished f last }

told_on : (s : State) (last now : ℕ) → s.ending ≡ None → is_closing s.facts.connection.phase ≡ false → IsOver (step s (closed last now)) → ⊥
told_on s last now going yet over = by_end (is_some s.ending) refl over
  where
    x : Around
    x = around s 0 now

    by_test : (b : Bool) → IsOver (made (record s { moment = now }) (told_if b x s.facts last) now) → ⊥
    by_test true late = never s.ending (is_closing s.facts.connection.phase) going yet late
    by_test false late = never s.ending (is_closing s.facts.connection.phase) going yet late

    by_end : (b : Bool) → is_some s.ending ≡ b → IsOver (if b then record s { moment = now; facts = outbox_finished s.facts last } else made (record s { moment = now }) (finish_told x s.facts last) now) → ⊥
    by_end true t late = not_ended s.ending going t
    by_end false t late = by_test (tells_finish x s.facts last) late

again_on : (s : State) (r : Option Range) (payloads : List (List ℕ)) (now : ℕ) → s.ending ≡ None → is_closing s.facts.connection.phase ≡ false → IsOver (served_again s r payloads now) → ⊥
again_on s None payloads now going yet over = never s.ending (is_closing s.facts.connection.phase) going yet over
again_on s (Some r) payloads now going yet over = never s.ending (is_closing s.facts.connection.phase) going yet over

held_on : (s : State) (m : Option Numbered) → s.ending ≡ None → is_closing s.facts.connection.phase ≡ false → IsOver (held_applied s m) → ⊥
held_on s None going yet over = never s.ending (is_closing s.facts.connection.phase) going yet over
held_on s (Some m) going yet over = never s.ending (is_closing s.facts.connection.phase) going yet over

pub calls_shut : CallsShut
calls_shut s (begin now) is going yet over = absurd is
calls_shut s (frame incoming at now) is going yet over = absurd is
calls_shut s (bad_frame at now) is going yet over = absurd is
calls_shut s (did now) is going yet over = absurd is
calls_shut s (tick now) is going yet over = ticks s now going yet over
calls_shut s (turn_done now) is going yet over = turns s now going yet over
calls_shut s (closed last now) is going yet over = absurd (told_on s last now going yet over)
calls_shut s link_end is going yet over = absurd is
calls_shut s (live payloads now) is going yet over = absurd (never s.ending (is_closing s.facts.connection.phase) going yet over)
calls_shut s (again payloads now) is going yet over = absurd (again_on s s.facts.connection.serving payloads now going yet over)
calls_shut s (taken count) is going yet over = absurd (never s.ending (is_closing s.facts.connection.phase) going yet over)
calls_shut s reserve is going yet over = absurd (never s.ending (is_closing s.facts.connection.phase) going yet over)
calls_shut s held_done is going yet over = absurd (held_on s (front_of s) going yet over)
