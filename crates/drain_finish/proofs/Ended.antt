-- How a reply ends a connection, row by row of the reply table.
use Rattle.std.proofs.Common.{◌≡◌, ◌⊎◌, inl, inr, ℕ, ◌+◌, ◌≤◌, ◌&&◌, not, Bool, true, false, if◌then◌else◌, List, [], ◌∷◌, Option, Some, None, refl, sym, ap, ◌∙◌, arith, subst, true≢false}
use Rattle.std.specs.Prelude.{is_some, is_none, unwrap_or, Result, Ok, Err}
use Rattle.fixp_msgs.specs.declared.messages.Expected.{Expected}
use Rattle.fixp_msgs.specs.declared.numbering.Range.{Range}
use Rattle.fixp_msgs.specs.Message.{Message, negotiate, negotiation_response, negotiation_reject, establish, establishment_ack, establishment_reject, sequence, unsequenced_heartbeat, retransmit_request, retransmission, retransmit_reject, applied, not_applied, finished_sending, finished_receiving, terminate}
use Rattle.flow_recover.specs.declared.numbers.Seen.{Seen}
use Rattle.flow_recover.specs.declared.numbers.Seen.TheVariants.{Deliver, Hold, Gap, Repeat}
use Rattle.flow_recover.specs.Receiving as receiver_is
use Rattle.flow_retrans.specs.declared.requester.BadStart.{BadStart}
use Rattle.flow_retrans.specs.declared.judging.RetransmitCode.{RetransmitCode}
use Rattle.flow_retrans.specs.Judging.{judged}
use Rattle.flow_retrans.specs.Requests as request_is
use Rattle.fixp_shake.specs.declared.violation.Violation.{Violation}
use Rattle.fixp_shake.specs.declared.violation.Violation.TheVariants.{AfterFinish, FlowNone, MissingNext, NotInPhase, OtherSession}
use Rattle.fixp_shake.specs.Flows.{is_absent, is_recoverable, is_sequenced}
use Rattle.fixp_shake.specs.Phases.{is_negotiating, is_establishing, is_established, is_closing}
use Rattle.fixp_replies.specs.declared.act.Act.{Act}
use Rattle.fixp_replies.specs.declared.act.Act.TheVariants as acts
use Rattle.fixp_replies.specs.declared.act.Ending.{Ending}
use Rattle.fixp_replies.specs.declared.act.Ending.TheVariants as endings
use Rattle.fixp_replies.specs.declared.facts.Facts.{Facts}
use Rattle.fixp_replies.specs.declared.facts.PeerFinish.TheVariants as peer
use Rattle.fixp_replies.specs.Incoming.{Incoming, application, session, wrong_order, too_short, unknown}
use Rattle.fixp_replies.specs.Facts.{Around, is_own, requesting, awaits_gap, gap_of, live_number, peer_last, finishes_exchanged}
use Rattle.fixp_replies.specs.Outcomes.{Outcome, Row, row, goes_on, accepts, rejects, ignores, ends, breaks, not_in_phase, skip_of, told_skip}
use Rattle.fixp_replies.specs.Announcing.{Announced, announced, announcement_fault, announcement_rows, refuses}
use Rattle.fixp_replies.specs.Handshake.{awaits_client, serves_client, acknowledges, establish_rows, established_again_rows, establish_rows_in, reached, rejected}
use Rattle.fixp_replies.specs.Flowing.{bad_retransmission, counted, taken_as, peer_finished, answers_finish, is_filled, is_last, is_past_finish, sequence_taken, sequence_follows, finished_last, finish_fault, finished}
use Rattle.fixp_replies.specs.Serving.{request_answered}
use Rattle.fixp_replies.specs.Replies.{reply_of, template_of, rows_of, answer_of, of_session, terminates}
use Rattle.fixp_machine.proofs.Rows.{AllRows, by_row, all_rows, all_within}
use Rattle.honest_ends.specs.PhaseLaws.{IsOfTime}
use Rattle.drain_laws.specs.Counts.{finish, shutting, among, in_frame}
use Rattle.drain_opening.proofs.Answered.{fault_not_of_time}

-- An ending at a frame that is so many Terminates: as finished where both finishes were exchanged before it; else by a violation that is no matter of time, by a Terminate, or,
-- in the midst of a handshake, by a reject
pub data EndsAs (x : Around) (f : Facts) (shut : ℕ) (e : Ending) : Type 0 where
  as_finished : finishes_exchanged x f ≡ true → e ≡ endings.Finished → EndsAs x f shut e
  as_broken : (v : Violation) → e ≡ endings.Violation v → (IsOfTime v → ⊥) → EndsAs x f shut e
  as_terminated : 1 ≤ shut → (finishes_exchanged x f ≡ true → e ≡ endings.Finished) → EndsAs x f shut e
  as_rejected : (is_negotiating f.connection.phase ≡ true) ⊎ (is_establishing f.connection.phase ≡ true) → EndsAs x f shut e

-- so an outcome ends the connection, where it does; it moves neither finish nor phase then, and writes no finish
pub record Ends (x : Around) (f : Facts) (shut : ℕ) (o : Outcome) : Type 0 where
  pub so : (e : Ending) → o.ending ≡ Some e → EndsAs x f shut e
  pub same : is_some o.ending ≡ true → (finishes_exchanged x o.next ≡ finishes_exchanged x f) × (o.next.connection.phase ≡ f.connection.phase)
  pub quiet : is_some o.ending ≡ true → among finish o.written ≡ 0

module _ (x : Around) (f : Facts) (shut : ℕ) where
  goes : (act : Act) (ms : List Message) (g : Facts) → Ends x f shut (goes_on x act ms g)
  goes act ms g = record { so = λ e is. absurd cc; same = λ e. absurd (true≢false (sym e)); quiet = λ e. absurd (true≢false (sym e)) }

  unended : {o : Outcome} → o.ending ≡ None → Ends x f shut o
  unended {o} none = record { so = λ e is. absurd (cc (none, is)); same = λ e. absurd (true≢false (sym e ∙ ap (λ (k : Option Ending). is_some k) none)); quiet = λ e. absurd (true≢false (sym e ∙ ap (λ (k : Option Ending). is_some k) none)) }

  stays : (ms : List Message) (g : Facts) → Ends x f shut (rejects ms g)
  stays ms g = record { so = λ e is. absurd cc; same = λ e. absurd (true≢false (sym e)); quiet = λ e. absurd (true≢false (sym e)) }

  stops : (g : Facts) (code : ℕ) (v : Violation) → finishes_exchanged x g ≡ finishes_exchanged x f → g.connection.phase ≡ f.connection.phase → (IsOfTime v → ⊥) → Ends x f shut (ends x g code (endings.Violation v))
  stops g code v same phase other = record { so = λ e is. by_case e (finishes_exchanged x g) same is; same = λ _. (same, phase); quiet = λ _. refl }
    where
      by_case : (e : Ending) (b : Bool) → b ≡ finishes_exchanged x f → Some (if b then endings.Finished else endings.Violation v) ≡ Some e → EndsAs x f shut e
      by_case e true here is = let same : endings.Finished ≡ e = cc is in as_finished (sym here) (sym same)
      by_case e false here is = let same : endings.Violation v ≡ e = cc is in as_broken v (sym same) other

  rejecting : (template code : ℕ) → (is_negotiating f.connection.phase ≡ true) ⊎ (is_establishing f.connection.phase ≡ true) → Ends x f shut (rejected x f template code)
  rejecting template code opening = record { so = λ e is. by_case e (finishes_exchanged x f) refl is; same = λ _. (refl, refl); quiet = λ _. refl }
    where
      by_case : (e : Ending) (b : Bool) → b ≡ finishes_exchanged x f → Some (if b then endings.Finished else endings.Rejected template code) ≡ Some e → EndsAs x f shut e
      by_case e true here is = let same : endings.Finished ≡ e = cc is in as_finished (sym here) (sym same)
      by_case e false here is = as_rejected opening

  bad : (b : Option BadStart) → Ends x f shut (bad_retransmission x f b)
  bad None = stays [] f
  bad (Some b) = stops f 2 _ refl refl (λ t. t)

  refusing : (g : Facts) (v : Option Violation) → finishes_exchanged x g ≡ finishes_exchanged x f → g.connection.phase ≡ f.connection.phase → ((w : Violation) → v ≡ Some w → IsOfTime w → ⊥) → Ends x f shut (refuses x g v)
  refusing g None same phase other = stays [] g
  refusing g (Some v) same phase other = stops g 2 v same phase (other v refl)

  announcing : (g : Facts) (template : ℕ) (next : Option ℕ) (follows : Announced → Outcome) → finishes_exchanged x g ≡ finishes_exchanged x f → g.connection.phase ≡ f.connection.phase
      → Ends x f shut (follows (announced x g next))
      → AllRows (Ends x f shut) (announcement_rows x g template next follows)
  announcing g template next follows same phase takes =
      (λ _. refusing g (announcement_fault x g template next) same phase (λ w is. fault_not_of_time x g template next w is), λ _. (λ _. takes, λ _. tt))

  own : (template : ℕ) (id : List ℕ) (rows : List Row) → AllRows (Ends x f shut) rows → AllRows (Ends x f shut) (of_session x f template id rows)
  own template id rows all = (λ _. stops f 2 (OtherSession template) refl refl (λ t. t), λ _. all)

  establish_all : (id : List ℕ) (timestamp keepalive : ℕ) (next : Option ℕ) (expected : Expected) (credentials : List ℕ) → AllRows (Ends x f shut) (establish_rows_in x f id timestamp keepalive next expected credentials)
  establish_all id timestamp keepalive next expected credentials = by_place (awaits_client x f) (serves_client x f)
    where
      by_place : (p q : Bool) → AllRows (Ends x f shut) (if p then establish_rows x f id timestamp keepalive next expected credentials else if q then established_again_rows x f id timestamp else [])
      by_place true q = (
        λ _. stays _ f,
        λ _. (
          λ _. stays _ f,
          λ _. (
            λ _. stays _ f,
            λ _. announcing f 4 next (acknowledges x timestamp keepalive expected) refl refl (unended refl),
          ),
        ),
      )
      by_place false true = (λ _. stays _ f, λ _. (λ _. stays _ f, λ _. tt))
      by_place false false = tt

  taking : (g : Facts) (s : Seen) → Ends x f shut (taken_as x g s)
  taking g (Deliver n) = goes (acts.Apply n) [] _
  taking g (Hold n) = unended refl
  taking g (Gap n) = goes acts.Nothing [] g
  taking g (Repeat n) = goes acts.Nothing [] g

  message_rows : (payload : List ℕ) → AllRows (Ends x f shut) (rows_of x f (application payload))
  message_rows payload =
      all_within (Ends x f shut) (is_established f.connection.phase) _ (λ _. (
        λ _. stops f 2 _ refl refl (λ t. t),
        λ _. (
          λ _. stops f 2 _ refl refl (λ t. t),
          λ _. (
            λ _. stops f 2 _ refl refl (λ t. t),
            λ _. (
              λ _. goes (acts.Apply f.recorded.inbox_next) [] _,
              λ _. (λ _. bad (request_is.message_fault f.connection.requester), λ _. (λ _. taking (counted f) (receiver_is.seen f.connection.receiver), λ _. tt)),
            ),
          ),
        ),
      ))

  answering : (g : Facts) (last : ℕ) → Ends x f shut (answers_finish x g last)
  answering g last = unended refl

  following : (g : Facts) (next : ℕ) (a : Announced) → finishes_exchanged x g ≡ finishes_exchanged x f → g.connection.phase ≡ f.connection.phase → Ends x f shut (sequence_follows x g next a)
  following g next a same phase =
      by_row (Ends x f shut) (is_past_finish x g next) (breaks x g (AfterFinish (unwrap_or (peer_last g) 0) next)) (sequence_taken x a)
      (λ _. stops g 2 _ same phase (λ t. t))
      (λ _. by_row (Ends x f shut) (is_filled x a.facts) (answers_finish x a.facts (unwrap_or (awaits_gap a.facts.connection.peer_finish) 0)) (goes_on x (skip_of a.skipped) (told_skip a.skipped) a.facts)
      (λ _. answering a.facts _)
      (λ _. goes (skip_of a.skipped) (told_skip a.skipped) a.facts))

  requested : (id : List ℕ) (timestamp : ℕ) (r : Result Range RetransmitCode) → Ends x f shut (request_answered x f id timestamp r)
  requested id timestamp (Ok range) = unended refl
  requested id timestamp (Err code) = unended refl

  -- a finish that is refused is no matter of time
  finish_not_of_time : (last : Option ℕ) (v : Violation) → finish_fault x f last ≡ Some v → IsOfTime v → ⊥
  finish_not_of_time last v e of_time =
      by_tests (is_absent x.config.peer_flow) (is_sequenced x.config.peer_flow && is_none last) (is_sequenced x.config.peer_flow && not (is_last x f (finished_last x last))) e
    where
      by_tests : (absent missing other : Bool) → (if absent then Some (FlowNone 14) else if missing then Some (MissingNext 14) else if other then Some (AfterFinish (finished_last x last) (live_number x f)) else None) ≡ Some v → ⊥
      by_tests true missing other e = let same : FlowNone 14 ≡ v = cc e in subst (λ (u : Violation). IsOfTime u) (sym same) of_time
      by_tests false true other e = let same : MissingNext 14 ≡ v = cc e in subst (λ (u : Violation). IsOfTime u) (sym same) of_time
      by_tests false false true e = let same : AfterFinish (finished_last x last) (live_number x f) ≡ v = cc e in subst (λ (u : Violation). IsOfTime u) (sym same) of_time
      by_tests false false false e = absurd cc

  finishing : (last : ℕ) → Ends x f shut (finished x f last)
  finishing last =
      by_row (Ends x f shut) (is_some (gap_of x f)) (accepts x [] (peer_finished f (peer.Read last) f.recorded.peer_last)) (answers_finish x f last)
      (λ _. goes acts.Nothing [] _)
      (λ _. answering f last)

  session_rows : (m : Message) → shutting m ≤ shut → AllRows (Ends x f shut) (rows_of x f (session m))
  session_rows (negotiate id timestamp flow credentials) many =
      all_within (Ends x f shut) (awaits_client x f) _ (λ _. (λ _. stays _ f, λ _. (λ _. stays _ f, λ _. (λ _. stays _ f, λ _. (λ _. stays _ f, λ _. (λ _. unended refl, λ _. tt))))))
  session_rows (negotiation_response id timestamp flow credentials) many =
      own 2 id _ (all_within (Ends x f shut) (is_negotiating f.connection.phase) _ (λ _. (λ _. stops f 2 _ refl refl (λ t. t), λ _. (λ _. unended refl, λ _. tt))))
  session_rows (negotiation_reject id timestamp code reason) many =
      own 3 id _ (all_within (Ends x f shut) (is_negotiating f.connection.phase) _ (λ phase. (λ _. unended refl, λ _. (λ _. rejecting 3 code (inl phase), λ _. tt))))
  session_rows (establish id timestamp keepalive next expected credentials) many = establish_all id timestamp keepalive next expected credentials
  session_rows (establishment_ack id timestamp keepalive next expected) many =
      own 5 id _ (all_within (Ends x f shut) (is_establishing f.connection.phase) _ (λ _.
      announcing f 5 next (reached x keepalive expected) refl refl (unended refl)))
  session_rows (establishment_reject id timestamp code reason) many =
      own 6 id _ (all_within (Ends x f shut) (is_establishing f.connection.phase) _ (λ phase. (λ _. unended refl, λ _. (λ _. rejecting 6 code (inr phase), λ _. tt))))
  session_rows (sequence next) many =
      let g : Facts = requesting f (request_is.after_sequence f.connection.requester) in
      all_within (Ends x f shut) (is_established f.connection.phase) _ (λ _. (
        λ _. bad (request_is.sequence_fault f.connection.requester),
        λ _. announcing g 7 (Some next) (sequence_follows x g next) refl refl (following g next (announced x g (Some next)) refl refl),
      ))
  session_rows unsequenced_heartbeat many = (λ _. goes acts.Nothing [] f, λ _. tt)
  session_rows (retransmit_request id timestamp first count) many =
      all_within (Ends x f shut) (is_established f.connection.phase) _ (λ _. (
        λ _. stops f 4 (NotInPhase 9 f.connection.phase) refl refl (λ t. t),
        λ _. (λ _. requested id timestamp (judged (is_own x id) (is_recoverable x.config.own_flow) first count f.recorded.sent), λ _. tt),
      ))
  session_rows (retransmission id next timestamp count) many =
      own 10 id _ (all_within (Ends x f shut) (is_established f.connection.phase) _ (λ _. (
        λ _. bad (request_is.start_fault (request_is.outstanding f.connection.requester) next count),
        λ _. (λ _. goes acts.Nothing [] _, λ _. tt),
      )))
  session_rows (retransmit_reject id timestamp code reason) many =
      own 11 id _ (all_within (Ends x f shut) (is_established f.connection.phase) _ (λ _. (λ _. stops f 2 _ refl refl (λ t. t), λ _. tt)))
  session_rows (applied first count) many = (λ _. goes acts.Nothing [] f, λ _. tt)
  session_rows (not_applied first count) many = (λ _. goes (acts.Told first count) [] f, λ _. (λ _. goes acts.Nothing [] f, λ _. tt))
  session_rows (finished_sending id last) many =
      own 14 id _ (all_within (Ends x f shut) (is_established f.connection.phase) _ (λ _. (
        λ _. refusing f (finish_fault x f last) refl refl (λ w is. finish_not_of_time last w is),
        λ _. (λ _. finishing (finished_last x last), λ _. tt),
      )))
  session_rows (finished_receiving id) many =
      own 15 id _ (all_within (Ends x f shut) (is_established f.connection.phase) _ (λ _. (λ _. goes acts.Nothing [] _, λ _. tt)))
  session_rows (terminate id code reason) many =
      let answer : Row = row true (ends x f 1 (endings.PeerTerminated code)) in
      let rows : AllRows (Ends x f shut) (answer ∷ []) = (λ _. shuts, λ _. tt) in
      own 16 id (answer ∷ []) rows
    where
      by_case : (e : Ending) (b : Bool) → b ≡ finishes_exchanged x f → Some (if b then endings.Finished else endings.PeerTerminated code) ≡ Some e → EndsAs x f shut e
      by_case e true here is = let same : endings.Finished ≡ e = cc is in as_finished (sym here) (sym same)
      by_case e false here is = as_terminated many (λ done. absurd (true≢false (sym (here ∙ done))))

      shuts : Ends x f shut (ends x f 1 (endings.PeerTerminated code))
      shuts = record { so = λ e is. by_case e (finishes_exchanged x f) refl is; same = λ _. (refl, refl); quiet = λ _. refl }

  each_row : (i : Incoming) → in_frame shutting i ≤ shut → AllRows (Ends x f shut) (rows_of x f i)
  each_row (application payload) many = message_rows payload
  each_row (session m) many = session_rows m many
  each_row wrong_order many = (λ _. stops f 2 _ refl refl (λ t. t), λ _. tt)
  each_row too_short many = (λ _. stops f 2 _ refl refl (λ t. t), λ _. tt)
  each_row (unknown template) many = (λ _. stops f 2 _ refl refl (λ t. t), λ _. tt)

pub reply_ends : (x : Around) (f : Facts) (i : Incoming) → Ends x f (in_frame shutting i) (reply_of x f i)
reply_ends x f i =
    by_row (Ends x f (in_frame shutting i)) (is_closing f.connection.phase && not (terminates x i)) (ignores f) (answer_of x f i)
    (λ _. stays x f (in_frame shutting i) [] f)
    (λ _. all_rows (Ends x f (in_frame shutting i)) (not_in_phase x f (template_of i)) (rows_of x f i)
    (stops x f (in_frame shutting i) f 2 (NotInPhase (template_of i) f.connection.phase) refl refl (λ t. t)) (each_row x f (in_frame shutting i) i (omega arith)))
