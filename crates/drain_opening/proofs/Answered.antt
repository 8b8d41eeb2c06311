-- What two ends of one session reply to the messages of a handshake, exactly.
use Rattle.std.proofs.Common.{◌≡◌, ℕ, ◌+◌, ◌≤◌, ◌==◌, ◌&&◌, ◌||◌, min, max, nat_lt, not, Bool, true, false, if◌then◌else◌, List, [], ◌∷◌, ◌++◌, Option, Some, None, refl, sym, ap, subst, ◌∙◌, arith, true≢false, eq-eqb}
use Rattle.std.specs.Prelude.{is_some, is_none, unwrap_or}
use Rattle.std.specs.Str.{bytes_eq}
use Rattle.std.proofs.lemmas.Bool.Decides.{nat_tests}
use Rattle.fixp_msgs.specs.declared.messages.Expected.{Expected}
use Rattle.fixp_msgs.specs.declared.numbering.Range.{Range}
use Rattle.fixp_msgs.specs.Flow.{flow_code}
use Rattle.fixp_msgs.specs.Message.{Message, negotiate, negotiation_response, negotiation_reject, establish, establishment_ack, establishment_reject}
use Rattle.fixp_shake.specs.declared.config.EndConfig.{EndConfig}
use Rattle.fixp_shake.specs.declared.phase.Phase.{Phase}
use Rattle.fixp_shake.specs.declared.phase.Phase.TheVariants as phases
use Rattle.fixp_shake.specs.declared.violation.Violation.{Violation}
use Rattle.fixp_shake.specs.declared.violation.Violation.TheVariants.{WentBack, MissingNext, NumberTooLarge}
use Rattle.fixp_shake.specs.Flows.{is_sequenced, is_absent}
use Rattle.fixp_shake.specs.Phases.{is_negotiating, is_establishing, is_closing, is_shaken}
use Rattle.fixp_replies.specs.declared.act.Act.TheVariants as acts
use Rattle.fixp_replies.specs.declared.act.Ending.TheVariants as endings
use Rattle.fixp_replies.specs.declared.facts.Facts.{Facts}
use Rattle.fixp_replies.specs.Facts.{Around, is_own, in_phase, negotiated as as_negotiated, gap_to_ask, finishes_exchanged, own_is_exchanged, peer_is_exchanged, expected_number, announced_number}
use Rattle.fixp_replies.specs.Incoming.{Incoming, session}
use Rattle.fixp_replies.specs.Outcomes.{Outcome, Row, ignores, request_for, told_skip, opening_establish}
use Rattle.fixp_replies.specs.Announcing.{Announced, announced, announcement_fault, refuses}
use Rattle.fixp_replies.specs.Expecting.{answers_next, returned, softened}
use Rattle.fixp_replies.specs.Handshake.{awaits_client, established, acknowledges, negotiate_rows, establish_rows, shaken, negotiation_response_rows, negotiation_reject_rows, establishment_ack_rows, reached}
use Rattle.fixp_replies.specs.Replies.{reply_of, answer_of, terminates}
use Rattle.fixp_machine.specs.Machine.{to_tell}
use Rattle.fixp_machine.proofs.Rows.{by_row}
use Rattle.connection_laws.specs.Writing.{said}
use Rattle.honest_ends.specs.Numbers.{Peer}
use Rattle.honest_ends.specs.PhaseLaws.{IsOfTime}
use Rattle.honest_ends.proofs.Shapes.{IsAsk, IsAnswer, IsAck}
use Rattle.honest_ends.proofs.Deciding.{Decides, decides_within, same_bytes, never}
use Rattle.honest_ends.proofs.Replying.{asked_phase, announced_decides, foreign, heard}
use Rattle.honest_ends.proofs.PhaseOpening.{Quiet, asks_unheld, number_given, newer_tells}
use Rattle.drain_laws.specs.Negotiating.{NoReject}
use Rattle.drain_opening.specs.Opening.{to_come}
use Rattle.drain_opening.proofs.Interval.{asked_interval}

-- before the handshake is done nothing is ignored
heard_before : (P : Outcome → Type 0) (x : Around) (f : Facts) (i : Incoming) → is_shaken f.connection.phase ≡ false → P (answer_of x f i) → P (reply_of x f i)
heard_before P x f i before h =
    by_row P (is_closing f.connection.phase && not (terminates x i)) (ignores f) (answer_of x f i)
    (λ e. absurd (true≢false (sym (shaken_too f.connection.phase (left (is_closing f.connection.phase) (not (terminates x i)) e)) ∙ before)))
    (λ _. h)
  where
    left : (a b : Bool) → (a && b) ≡ true → a ≡ true
    left true b e = refl
    left false b e = absurd (true≢false (sym e))

    shaken_too : (p : Phase) → is_closing p ≡ true → is_shaken p ≡ true
    shaken_too phases.Idle e = absurd (true≢false (sym e))
    shaken_too phases.Negotiating e = absurd (true≢false (sym e))
    shaken_too phases.Establishing e = absurd (true≢false (sym e))
    shaken_too phases.Established e = refl
    shaken_too phases.Closing e = refl
    shaken_too phases.Ended e = absurd (true≢false (sym e))

-- nor are both finishes exchanged
unfinished : (x : Around) (f : Facts) → is_shaken f.connection.phase ≡ false → Quiet f → finishes_exchanged x f ≡ false
unfinished x f before quiet =
    both_false (own_is_exchanged f.connection.own_finish) (is_absent x.config.own_flow) (is_shaken f.connection.phase)
    (peer_is_exchanged f.connection.peer_finish || (is_absent x.config.peer_flow && is_shaken f.connection.phase)) (ap own_is_exchanged quiet.untold) before
  where
    both_false : (a b c d : Bool) → a ≡ false → c ≡ false → ((a || (b && c)) && d) ≡ false
    both_false false true false d e k = refl
    both_false false false false d e k = refl
    both_false true b c d e k = absurd (true≢false e)
    both_false false true true d e k = absurd (true≢false k)
    both_false false false true d e k = absurd (true≢false k)

-- an announcement that is refused is no matter of time
pub fault_not_of_time : (x : Around) (f : Facts) (t : ℕ) (next : Option ℕ) (v : Violation) → announcement_fault x f t next ≡ Some v → IsOfTime v → ⊥
fault_not_of_time x f t next v e of_time =
    by_tests (is_sequenced x.config.peer_flow) (is_none next) (nat_lt (x.most + 1) (unwrap_or next 0)) (nat_lt (unwrap_or next 0) (expected_number x f)) e
  where
    by_tests : (numbered missing large low : Bool)
        → (if not numbered then None else if missing then Some (MissingNext t) else if large then Some (NumberTooLarge (unwrap_or next 0))
        else if low then Some (WentBack (unwrap_or next 0) (expected_number x f)) else None) ≡ Some v
        → ⊥
    by_tests false missing large low e = absurd cc
    by_tests true true large low e = let same : MissingNext t ≡ v = cc e in subst (λ (u : Violation). IsOfTime u) (sym same) of_time
    by_tests true false true low e = let same : NumberTooLarge (unwrap_or next 0) ≡ v = cc e in subst (λ (u : Violation). IsOfTime u) (sym same) of_time
    by_tests true false false true e = let same : WentBack (unwrap_or next 0) (expected_number x f) ≡ v = cc e in subst (λ (u : Violation). IsOfTime u) (sym same) of_time
    by_tests true false false false e = absurd cc

-- it ends the connection by a violation that is none of time
pub record Refused (o : Outcome) : Type 0 where
  pub violation : Violation
  pub ends : o.ending ≡ Some (endings.Violation violation)
  pub other : IsOfTime violation → ⊥

refused : (x : Around) (f : Facts) (t : ℕ) (next : Option ℕ) → is_shaken f.connection.phase ≡ false → Quiet f → is_some (announcement_fault x f t next) ≡ true → Refused (refuses x f (announcement_fault x f t next))
refused x f t next before quiet some = by_fault (announcement_fault x f t next) some (fault_not_of_time x f t next)
  where
    by_fault : (v : Option Violation) → is_some v ≡ true → ((w : Violation) → v ≡ Some w → IsOfTime w → ⊥) → Refused (refuses x f v)
    by_fault None some h = absurd (true≢false (sym some))
    by_fault (Some v) some h = record { violation = v; ends = ap (λ (b : Bool). Some (if b then endings.Finished else endings.Violation v)) (unfinished x f before quiet); other = h v refl }

-- where nothing is asked for behind it, one message alone is written
alone : (x : Around) (g : Facts) (m : Message) → x.held ≡ None → Quiet g → (m ∷ []) ++ request_for x (gap_to_ask x g) ≡ m ∷ []
alone x g m none quiet = ap (λ (r : Option Range). m ∷ request_for x r) (asks_unheld x g none quiet.even)

-- an acknowledgement tells the own interval
abbrev pub IsAckOf : EndConfig → Message → Type 0
IsAckOf cfg (establishment_ack id timestamp keepalive next expected) = IsAck cfg (said (establishment_ack id timestamp keepalive next expected)) × (keepalive ≡ cfg.keepalive)
IsAckOf cfg m = ⊥

-- An acceptor answers what an initiator asks for in this phase of its own, by one message; or it acknowledges, where the other's interval is this; or it refuses. So many messages were to come
pub data Answers (cfg : EndConfig) (ph : Phase) (interval : ℕ) (f : Facts) (left : ℕ) (o : Outcome) : Type 0 where
  answers : (n : Message) → o.written ≡ n ∷ [] → IsAnswer cfg ph (said n) → to_come n + 1 ≡ left → 1 ≤ to_come n → o.next.connection.phase ≡ f.connection.phase → o.ending ≡ None → to_tell cfg o.act ≡ []
      → Answers cfg ph interval f left o
  acknowledges_it : (n : Message) (more : List Message) → o.written ≡ n ∷ more → IsAckOf cfg n → to_come n + 1 ≡ left → 1 ≤ to_come n → ph ≡ phases.Establishing → o.next.connection.phase ≡ phases.Established
      → o.next.connection.peer_interval ≡ interval → o.ending ≡ None → Answers cfg ph interval f left o
  refuses_it : Refused o → Answers cfg ph interval f left o

negotiate_answered : (x : Around) (f : Facts) (theirs : EndConfig) (id : List ℕ) (timestamp flow : ℕ) (credentials : List ℕ) → Peer x.config theirs → theirs.credentials ≡ x.config.credentials → x.held ≡ None → Quiet f
    → IsAsk theirs phases.Negotiating (said (negotiate id timestamp flow credentials)) → Decides (Answers x.config phases.Negotiating theirs.keepalive f 4) (negotiate_rows x f id timestamp flow credentials)
negotiate_answered x f theirs id timestamp flow credentials are same none quiet asks = (
  λ n. never (is_own x id) (same_bytes id x.config.session (asks.0 ∙ are.session)) n,
  λ _. (
    λ n. never (bytes_eq credentials x.config.credentials) (same_bytes credentials x.config.credentials (asks.2 ∙ same)) n,
    λ _. (
      λ n. never (flow == flow_code x.config.peer_flow) (eq-eqb flow (flow_code x.config.peer_flow) (asks.1 ∙ ap (λ k. flow_code k) (sym are.flow))) n,
      λ _. (
        λ _. answers (negotiation_reject id timestamp 4 []) refl (asks.0 ∙ are.session, refl) refl (omega arith) refl refl refl,
        λ _. (
          λ _. answers response (alone x g response none quiet_then) (refl, refl) refl (omega arith) (asked_phase g (gap_to_ask x g)) refl refl,
          λ e. absurd (true≢false e),
        ),
      ),
    ),
  ),
)
  where
    g : Facts
    g = as_negotiated f

    quiet_then : Quiet g
    quiet_then = record { even = quiet.even; free = quiet.free; untold = quiet.untold }

    response : Message
    response = negotiation_response x.config.session timestamp (flow_code x.config.own_flow) []

in_range : (k : ℕ) → 100 ≤ k → k ≤ 60000 → (nat_lt k 100 || nat_lt 60000 k) ≡ false
in_range k low high = grind (arith, nat_tests)

establish_answered : (x : Around) (f : Facts) (theirs : EndConfig) (id : List ℕ) (timestamp keepalive : ℕ) (next : Option ℕ) (expected : Expected) (credentials : List ℕ)
    → Peer x.config theirs → theirs.credentials ≡ x.config.credentials → (100 ≤ theirs.keepalive) × (theirs.keepalive ≤ 60000) → is_shaken f.connection.phase ≡ false → Quiet f → f.recorded.negotiated ≡ true
    → IsAsk theirs phases.Establishing (said (establish id timestamp keepalive next expected credentials))
    → Decides (Answers x.config phases.Establishing theirs.keepalive f 2) (establish_rows x f id timestamp keepalive next expected credentials)
establish_answered x f theirs id timestamp keepalive next expected credentials are same range before quiet known asks = (
  λ n. absurd (neither (is_own x id) f.recorded.negotiated (same_bytes id x.config.session (asks.0 ∙ are.session)) known n),
  λ _. (
    λ out. absurd (true≢false (sym out ∙ in_range keepalive (subst (λ (k : ℕ). 100 ≤ k) (sym asks.1) range.0) (subst (λ (k : ℕ). k ≤ 60000) (sym asks.1) range.1))),
    λ _. (
      λ n. never (bytes_eq credentials x.config.credentials) (same_bytes credentials x.config.credentials (asks.3 ∙ same)) n,
      λ _. announced_decides (Answers x.config phases.Establishing theirs.keepalive f 2) x f 4 next (acknowledges x timestamp keepalive expected)
          (λ some. refuses_it (refused x f 4 next before quiet some))
          (acknowledging (announced x f next)),
    ),
  ),
)
  where
    neither : (a b : Bool) → a ≡ true → b ≡ true → (not a || not b) ≡ true → ⊥
    neither true true p q e = true≢false (sym e)
    neither false b p q e = true≢false (sym p)
    neither true false p q e = true≢false (sym q)

    acknowledging : (a : Announced) → Answers x.config phases.Establishing theirs.keepalive f 2 (acknowledges x timestamp keepalive expected a)
    acknowledging a =
        let k : Facts = returned x a.facts expected in
        let g : Facts = established (softened x expected k) keepalive in
        acknowledges_it (establishment_ack x.config.session timestamp x.config.keepalive (announced_number x k) (answers_next x expected k)) (told_skip a.skipped ++ request_for x (gap_to_ask x g)) refl
        ((refl, λ n. number_given (is_sequenced x.config.own_flow) (k.recorded.sent + 1) n), refl) refl (omega arith) refl (asked_phase g (gap_to_ask x g)) (asked_interval g (gap_to_ask x g) ∙ asks.1) refl

decides_first : (P : Outcome → Type 0) (b : Bool) (first second : List Row) → b ≡ true → Decides P first → Decides P (if b then first else second)
decides_first P true first second e d = d
decides_first P false first second e d = absurd (true≢false (sym e))

-- so an acceptor that waits for its client answers what this asks for, where it knows of the negotiation that an Establish rests on
pub ask_answered : (x : Around) (f : Facts) (theirs : EndConfig) (ph : Phase) (m : Message) → Peer x.config theirs → theirs.credentials ≡ x.config.credentials
    → (100 ≤ theirs.keepalive) × (theirs.keepalive ≤ 60000) → awaits_client x f ≡ true → is_shaken f.connection.phase ≡ false → x.held ≡ None → Quiet f → (ph ≡ phases.Establishing → f.recorded.negotiated ≡ true)
    → IsAsk theirs ph (said m) → Answers x.config ph theirs.keepalive f (to_come m) (reply_of x f (session m))
ask_answered x f theirs phases.Negotiating (negotiate id timestamp flow credentials) are same range waits before none quiet known asks =
    heard_before (Answers x.config phases.Negotiating theirs.keepalive f 4) x f (session (negotiate id timestamp flow credentials)) before
    (heard (Answers x.config phases.Negotiating theirs.keepalive f 4) x f (session (negotiate id timestamp flow credentials))
    (decides_within (Answers x.config phases.Negotiating theirs.keepalive f 4) (awaits_client x f) (negotiate_rows x f id timestamp flow credentials) waits (negotiate_answered x f theirs id timestamp flow credentials are same none quiet asks)))
ask_answered x f theirs phases.Establishing (establish id timestamp keepalive next expected credentials) are same range waits before none quiet known asks =
    heard_before (Answers x.config phases.Establishing theirs.keepalive f 2) x f (session (establish id timestamp keepalive next expected credentials)) before
    (heard (Answers x.config phases.Establishing theirs.keepalive f 2) x f (session (establish id timestamp keepalive next expected credentials))
    (decides_first (Answers x.config phases.Establishing theirs.keepalive f 2) (awaits_client x f) (establish_rows x f id timestamp keepalive next expected credentials) _ waits
    (establish_answered x f theirs id timestamp keepalive next expected credentials are same range before quiet (known refl) asks)))
ask_answered x f theirs _ _ are same range waits before none quiet known asks = absurd asks

-- an initiator asks again, in this phase
pub record AsksOn (cfg : EndConfig) (left : ℕ) (o : Outcome) : Type 0 where
  pub message : Message
  pub written : o.written ≡ message ∷ []
  pub asks : IsAsk cfg o.next.connection.phase (said message)
  pub less : to_come message + 1 ≡ left
  pub some : 1 ≤ to_come message
  pub before : is_shaken o.next.connection.phase ≡ false
  pub going : o.ending ≡ None
  pub told : to_tell cfg o.act ≡ []

establishing : (x : Around) (f : Facts) → x.held ≡ None → Quiet f → AsksOn x.config 3 (shaken x f)
establishing x f none quiet = record {
  message = opening_establish x f;
  written = alone x g (opening_establish x f) none (record { even = quiet.even; free = quiet.free; untold = quiet.untold });
  asks = subst (λ (p : Phase). IsAsk x.config p (said (opening_establish x f))) (sym (asked_phase g (gap_to_ask x g)))
      (refl, refl, (λ n. number_given (is_sequenced x.config.own_flow) (f.recorded.sent + 1) n), refl, newer_tells x f);
  less = refl;
  some = omega arith;
  before = ap (λ p. is_shaken p) (asked_phase g (gap_to_ask x g));
  going = refl;
  told = by_known f.recorded.negotiated;
}
  where
    g : Facts
    g = in_phase (as_negotiated f) phases.Establishing

    by_known : (b : Bool) → to_tell x.config (if b then acts.Nothing else acts.Negotiated) ≡ []
    by_known true = refl
    by_known false = refl

pub answer_asked : (x : Around) (f : Facts) (theirs : EndConfig) (ph : Phase) (m : Message) → Peer x.config theirs → f.connection.phase ≡ ph → is_shaken f.connection.phase ≡ false → x.held ≡ None → Quiet f
    → IsAnswer theirs ph (said m) → NoReject m → AsksOn x.config (to_come m) (reply_of x f (session m))
answer_asked x f theirs phases.Negotiating (negotiation_response id timestamp flow credentials) are is before none quiet answer good =
    heard_before (AsksOn x.config 3) x f (session (negotiation_response id timestamp flow credentials)) before (heard (AsksOn x.config 3) x f (session (negotiation_response id timestamp flow credentials)) (
      foreign x id (answer.0 ∙ are.session),
      λ _. (decides_within (AsksOn x.config 3) (is_negotiating f.connection.phase) (negotiation_response_rows x f flow) (ap (λ q. is_negotiating q) is) (
        λ n. never (flow == flow_code x.config.peer_flow) (eq-eqb flow (flow_code x.config.peer_flow) (answer.1 ∙ ap (λ k. flow_code k) (sym are.flow))) n,
        λ _. (λ _. establishing x f none quiet, λ e. absurd (true≢false e)),
      )),
    ))
answer_asked x f theirs phases.Negotiating (negotiation_reject id timestamp code reason) are is before none quiet answer good =
    heard_before (AsksOn x.config 3) x f (session (negotiation_reject id timestamp code reason)) before (heard (AsksOn x.config 3) x f (session (negotiation_reject id timestamp code reason)) (
      foreign x id (answer.0 ∙ are.session),
      λ _. (decides_within (AsksOn x.config 3) (is_negotiating f.connection.phase) (negotiation_reject_rows x f code) (ap (λ q. is_negotiating q) is) (
        λ _. establishing x f none quiet,
        λ n. absurd (true≢false (sym (eq-eqb code 4 answer.1) ∙ n)),
      )),
    ))
answer_asked x f theirs phases.Establishing (establishment_reject id timestamp code reason) are is before none quiet answer good = absurd good
answer_asked x f theirs _ _ are is before none quiet answer good = absurd answer

-- the handshake is done with an acknowledgement, which tells an interval; or the announcement is refused
pub data Acked (interval : ℕ) (o : Outcome) : Type 0 where
  is_done : o.next.connection.phase ≡ phases.Established → o.next.connection.peer_interval ≡ interval → Acked interval o
  refuses_ack : Refused o → Acked interval o

pub ack_taken : (x : Around) (f : Facts) (theirs : EndConfig) (m : Message) → Peer x.config theirs → f.connection.phase ≡ phases.Establishing → is_shaken f.connection.phase ≡ false → Quiet f → IsAckOf theirs m
    → Acked (min 60000 (max 100 theirs.keepalive)) (reply_of x f (session m))
ack_taken x f theirs (establishment_ack id timestamp keepalive next expected) are is before quiet ack =
    heard_before (Acked interval) x f (session (establishment_ack id timestamp keepalive next expected)) before (heard (Acked interval) x f (session (establishment_ack id timestamp keepalive next expected)) (
      foreign x id (ack.0.0 ∙ are.session),
      λ _. (decides_within (Acked interval) (is_establishing f.connection.phase) (establishment_ack_rows x f keepalive next expected) (ap (λ q. is_establishing q) is)
          (announced_decides (Acked interval) x f 5 next (reached x keepalive expected)
          (λ some. refuses_ack (refused x f 5 next before quiet some))
          (standing (announced x f next)))),
    ))
  where
    interval : ℕ
    interval = min 60000 (max 100 theirs.keepalive)

    standing : (a : Announced) → Acked interval (reached x keepalive expected a)
    standing a =
        let g : Facts = established (returned x a.facts expected) (min 60000 (max 100 keepalive)) in
        is_done (asked_phase g (gap_to_ask x g)) (asked_interval g (gap_to_ask x g) ∙ ap (λ (k : ℕ). min 60000 (max 100 k)) ack.1)
ack_taken x f theirs _ are is before quiet ack = absurd ack
