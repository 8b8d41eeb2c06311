-- That an end is told where the other ends the connection, or closes it.
use Rattle.std.proofs.Common.{◌≡◌, ◌⊎◌, inl, inr, ℕ, ◌≤◌, ◌||◌, nat_lt, Bool, true, false, List, [], ◌∷◌, ◌++◌, length, take, Option, Some, None, refl, sym, ap, subst, ◌∙◌, arith, true≢false}
use Rattle.std.specs.Prelude.{is_some, IsSome}
use Rattle.std.specs.List.{AllByRecursion}
use Rattle.std.proofs.lemmas.Bool.{ltb-true, ltb-false}
use Rattle.std.proofs.lemmas.List.{take_all}
use Rattle.std.proofs.lemmas.Slice.Eq.{bytes_eq-Decides}
use Rattle.session_model.specs.Journal.{Entry}
use Rattle.fixp_msgs.specs.Message.{Message, negotiate, negotiation_response, negotiation_reject, establish, establishment_ack, establishment_reject, sequence, unsequenced_heartbeat, retransmit_request, retransmission, retransmit_reject, applied, not_applied, finished_sending, finished_receiving, terminate}
use Rattle.fixp_shake.specs.declared.config.EndConfig.{EndConfig}
use Rattle.fixp_shake.specs.declared.phase.Phase.{Phase}
use Rattle.fixp_shake.specs.declared.phase.Phase.TheVariants as phases
use Rattle.fixp_shake.specs.Phases.{is_established, is_closing, is_shaken}
use Rattle.fixp_replies.specs.declared.act.Ending.{Ending}
use Rattle.fixp_replies.specs.declared.facts.EndState.{EndState}
use Rattle.fixp_replies.specs.declared.facts.Facts.{Facts}
use Rattle.fixp_replies.specs.Incoming.{session}
use Rattle.fixp_replies.specs.Facts.{Around, is_initiator}
use Rattle.fixp_replies.specs.Events.{begun}
use Rattle.fixp_replies.specs.Outcomes.{Outcome}
use Rattle.fixp_replies.specs.Replies.{reply_of, terminates}
use Rattle.fixp_machine.specs.Machine.{State, Call, begin, around, run, step}
use Rattle.connection_laws.specs.Writing.{Piece, said, entry, said_all, writes}
use Rattle.two_ends.specs.Reading.{incoming_of}
use Rattle.honest_ends.specs.Worlds.{World, Step, meets, initiator_reads, acceptor_reads, initiator_does, acceptor_does, reading, written, initiator_read, acceptor_read, after, world_after, MayRead, MayStep, AllMayStep}
use Rattle.honest_ends.specs.Numbers.{IsFlowing}
use Rattle.honest_ends.proofs.Shapes.{IsFree, IsAsk, IsAnswer, IsAck}
use Rattle.honest_ends.proofs.Serving.{by_bool}
use Rattle.honest_ends.proofs.Standing.{initiator_flows, acceptor_flows}
use Rattle.honest_ends.proofs.Moving.{Reads, reads_as, does_as}
use Rattle.honest_ends.proofs.Phased as phased
use Rattle.honest_ends.proofs.Phased.{Shaking, begun_as}
use Rattle.honest_ends.proofs.Numbering.{Counted, counted_step, counted_at_first}
use Rattle.drain_laws.specs.Counts.{shutting, in_piece, under_way}
use Rattle.drain_laws.proofs.Evened.{replies_even}
use Rattle.drain_ends.specs.Shutting.{GoesOn, IsCall, IsOver}
use Rattle.drain_ends.specs.Closing.{KeepsLink, IsTold, BothTold, EndsAreTold, ClosingToDo}
use Rattle.drain_ends.specs.Acting.{all_beats, Acts, BeatsFirst, HasToDo}
use Rattle.drain_ends.specs.Acting as acts
use Rattle.drain_ends.proofs.Shut.{said_counts, replies_shut, calls_shut}
use Rattle.drain_ends.proofs.Stood.{way_append, in_so, acceptor_phase}
use Rattle.drain_ends.proofs.Doing.{beats_none, by_length}

-- a message that rejects no handshake for good
goes_unless : (m : Message) → ((id : List ℕ) (timestamp code : ℕ) (reason : List ℕ) → m ≡ negotiation_reject id timestamp code reason → code ≡ 4)
    → ((id : List ℕ) (timestamp code : ℕ) (reason : List ℕ) → m ≡ establishment_reject id timestamp code reason → code ≡ 2) → GoesOn (session m)
goes_unless (negotiation_reject id timestamp code reason) four two = four id timestamp code reason refl
goes_unless (establishment_reject id timestamp code reason) four two = two id timestamp code reason refl
goes_unless (negotiate id timestamp flow credentials) four two = tt
goes_unless (negotiation_response id timestamp flow credentials) four two = tt
goes_unless (establish id timestamp keepalive next expected credentials) four two = tt
goes_unless (establishment_ack id timestamp keepalive next expected) four two = tt
goes_unless (sequence next) four two = tt
goes_unless unsequenced_heartbeat four two = tt
goes_unless (retransmit_request id timestamp first count) four two = tt
goes_unless (retransmission id next timestamp count) four two = tt
goes_unless (retransmit_reject id timestamp code reason) four two = tt
goes_unless (applied first count) four two = tt
goes_unless (not_applied first count) four two = tt
goes_unless (finished_sending id last) four two = tt
goes_unless (finished_receiving id) four two = tt
goes_unless (terminate id code reason) four two = tt

-- pieces of a kind in which each reject has its code let the handshake go on
piece_on : (P : Piece → Type 0) (p : Piece) → P p → ((id : List ℕ) (timestamp code : ℕ) (reason : List ℕ) → P (said (negotiation_reject id timestamp code reason)) → code ≡ 4)
    → ((id : List ℕ) (timestamp code : ℕ) (reason : List ℕ) → P (said (establishment_reject id timestamp code reason)) → code ≡ 2) → GoesOn (incoming_of p)
piece_on P (entry payload) is four two = tt
piece_on P (said m) is four two = goes_unless m
    (λ id timestamp code reason e. four id timestamp code reason (subst (λ (k : Message). P (said k)) e is))
    (λ id timestamp code reason e. two id timestamp code reason (subst (λ (k : Message). P (said k)) e is))

free_on : (cfg : EndConfig) (p : Piece) → IsFree cfg p → GoesOn (incoming_of p)
free_on cfg p free = piece_on (IsFree cfg) p free (λ _ _ _ _ no. absurd no) (λ _ _ _ _ no. absurd no)

flowing_on : (cfg : EndConfig) (p : Piece) → IsFlowing cfg p → GoesOn (incoming_of p)
flowing_on cfg p flows = piece_on (IsFlowing cfg) p flows (λ _ _ _ _ no. absurd no) (λ _ _ _ _ no. absurd no)

ack_on : (cfg : EndConfig) (p : Piece) → IsAck cfg p → GoesOn (incoming_of p)
ack_on cfg p ack = piece_on (IsAck cfg) p ack (λ _ _ _ _ no. absurd no) (λ _ _ _ _ no. absurd no)

ask_on : (cfg : EndConfig) (ph : Phase) (p : Piece) → IsAsk cfg ph p → GoesOn (incoming_of p)
ask_on cfg ph p ask = piece_on (IsAsk cfg ph) p ask (λ id timestamp code reason is. absurd (no_negotiation ph id timestamp code reason is)) (λ id timestamp code reason is. absurd (no_establishment ph id timestamp code reason is))
  where
    no_negotiation : (ph : Phase) (id : List ℕ) (timestamp code : ℕ) (reason : List ℕ) → IsAsk cfg ph (said (negotiation_reject id timestamp code reason)) → ⊥
    no_negotiation phases.Idle id timestamp code reason is = is
    no_negotiation phases.Negotiating id timestamp code reason is = is
    no_negotiation phases.Establishing id timestamp code reason is = is
    no_negotiation phases.Established id timestamp code reason is = is
    no_negotiation phases.Closing id timestamp code reason is = is
    no_negotiation phases.Ended id timestamp code reason is = is

    no_establishment : (ph : Phase) (id : List ℕ) (timestamp code : ℕ) (reason : List ℕ) → IsAsk cfg ph (said (establishment_reject id timestamp code reason)) → ⊥
    no_establishment phases.Idle id timestamp code reason is = is
    no_establishment phases.Negotiating id timestamp code reason is = is
    no_establishment phases.Establishing id timestamp code reason is = is
    no_establishment phases.Established id timestamp code reason is = is
    no_establishment phases.Closing id timestamp code reason is = is
    no_establishment phases.Ended id timestamp code reason is = is

answer_on : (cfg : EndConfig) (ph : Phase) (p : Piece) → IsAnswer cfg ph p → GoesOn (incoming_of p)
answer_on cfg ph p answer = piece_on (IsAnswer cfg ph) p answer (λ id timestamp code reason is. four ph id timestamp code reason is) (λ id timestamp code reason is. two ph id timestamp code reason is)
  where
    four : (ph : Phase) (id : List ℕ) (timestamp code : ℕ) (reason : List ℕ) → IsAnswer cfg ph (said (negotiation_reject id timestamp code reason)) → code ≡ 4
    four phases.Negotiating id timestamp code reason is = is.1
    four phases.Idle id timestamp code reason is = absurd is
    four phases.Establishing id timestamp code reason is = absurd is
    four phases.Established id timestamp code reason is = absurd is
    four phases.Closing id timestamp code reason is = absurd is
    four phases.Ended id timestamp code reason is = absurd is

    two : (ph : Phase) (id : List ℕ) (timestamp code : ℕ) (reason : List ℕ) → IsAnswer cfg ph (said (establishment_reject id timestamp code reason)) → code ≡ 2
    two phases.Establishing id timestamp code reason is = is.1
    two phases.Idle id timestamp code reason is = absurd is
    two phases.Negotiating id timestamp code reason is = absurd is
    two phases.Established id timestamp code reason is = absurd is
    two phases.Closing id timestamp code reason is = absurd is
    two phases.Ended id timestamp code reason is = absurd is

-- what comes to an end lets the handshake go on
initiator_on : (ci ca : EndConfig) (fi : Facts) (ei : Option Ending) (fa : Facts) (p : Piece) (outward left : List Piece) → Shaking ci ca fi ei fa outward (p ∷ left) → ei ≡ None → is_shaken fi.connection.phase ≡ false → GoesOn (incoming_of p)
initiator_on ci ca fi ei fa p outward left (phased.opens before qi idle qa one free) going b = free_on ca p free.0
initiator_on ci ca fi ei fa p outward left (phased.answering before qi idle qa free (inl one)) going b = answer_on ca fi.connection.phase p one.0
initiator_on ci ca fi ei fa p outward left (phased.answering before qi idle qa free (inr more)) going b = free_on ca p more.0
initiator_on ci ca fi ei fa p outward left (phased.acknowledging e qi est free (inl first)) going b = ack_on ca p first.0
initiator_on ci ca fi ei fa p outward left (phased.acknowledging e qi est free (inr more)) going b = free_on ca p more.0
initiator_on ci ca fi ei fa p outward left (phased.standing done est out home) going b = absurd (true≢false (sym done ∙ b))
initiator_on ci ca fi ei fa p outward left (phased.refusing over before qi est free) going b = absurd (true≢false (sym over ∙ ap (λ (e : Option Ending). is_some e) going))

acceptor_on : (ci ca : EndConfig) (fi : Facts) (ei : Option Ending) (fa : Facts) (p : Piece) (left homeward : List Piece) → Shaking ci ca fi ei fa (p ∷ left) homeward → is_shaken fa.connection.phase ≡ false → GoesOn (incoming_of p)
acceptor_on ci ca fi ei fa p left homeward (phased.opens before qi idle qa (inl one) free) b = ask_on ci fi.connection.phase p one.0
acceptor_on ci ca fi ei fa p left homeward (phased.opens before qi idle qa (inr more) free) b = free_on ci p more.0
acceptor_on ci ca fi ei fa p left homeward (phased.answering before qi idle qa free one) b = free_on ci p free.0
acceptor_on ci ca fi ei fa p left homeward (phased.acknowledging e qi est free first) b = absurd (true≢false (sym (ap (λ q. is_shaken q) est) ∙ b))
acceptor_on ci ca fi ei fa p left homeward (phased.standing done est out home) b = absurd (true≢false (sym (ap (λ q. is_shaken q) est) ∙ b))
acceptor_on ci ca fi ei fa p left homeward (phased.refusing over before qi est free) b = absurd (true≢false (sym (ap (λ q. is_shaken q) est) ∙ b))

-- a Terminate of a flowing connection is of its session
shut_is : (m : Message) → 1 ≤ shutting m → (P : Message → Type 0) → ((id : List ℕ) (code : ℕ) (reason : List ℕ) → P (terminate id code reason)) → P m
shut_is (terminate id code reason) one P is = is id code reason
shut_is (negotiate id timestamp flow credentials) one P is = absurd (omega (arith, one))
shut_is (negotiation_response id timestamp flow credentials) one P is = absurd (omega (arith, one))
shut_is (negotiation_reject id timestamp code reason) one P is = absurd (omega (arith, one))
shut_is (establish id timestamp keepalive next expected credentials) one P is = absurd (omega (arith, one))
shut_is (establishment_ack id timestamp keepalive next expected) one P is = absurd (omega (arith, one))
shut_is (establishment_reject id timestamp code reason) one P is = absurd (omega (arith, one))
shut_is (sequence next) one P is = absurd (omega (arith, one))
shut_is unsequenced_heartbeat one P is = absurd (omega (arith, one))
shut_is (retransmit_request id timestamp first count) one P is = absurd (omega (arith, one))
shut_is (retransmission id next timestamp count) one P is = absurd (omega (arith, one))
shut_is (retransmit_reject id timestamp code reason) one P is = absurd (omega (arith, one))
shut_is (applied first count) one P is = absurd (omega (arith, one))
shut_is (not_applied first count) one P is = absurd (omega (arith, one))
shut_is (finished_sending id last) one P is = absurd (omega (arith, one))
shut_is (finished_receiving id) one P is = absurd (omega (arith, one))

own_terminate : (x : Around) (theirs : EndConfig) (p : Piece) → theirs.session ≡ x.config.session → 1 ≤ in_piece shutting p → IsFlowing theirs p → terminates x (incoming_of p) ≡ true
own_terminate x theirs (entry payload) same one flows = absurd (omega (arith, one))
own_terminate x theirs (said m) same one flows =
    shut_is m one (λ k. IsFlowing theirs (said k) → terminates x (session k) ≡ true) (λ id code reason is. (bytes_eq-Decides id x.config.session).1 (is ∙ same)) flows

-- more under way
more : (way out : List Piece) (e : Option Ending) → (1 ≤ under_way shutting way) ⊎ IsSome e → (1 ≤ under_way shutting (way ++ out)) ⊎ IsSome e
more way out e (inl one) = let a = way_append shutting way out in inl (omega (arith, one, a))
more way out e (inr over) = inr over

none_is : {A : Type 0} (o : Option A) → is_some o ≡ false → o ≡ None
none_is None e = refl
none_is (Some a) e = absurd (true≢false e)

-- an end replies
told_reply : (s reader : State) (p : Piece) (way : List Piece) (at now : ℕ) → GoesOn (incoming_of p) → IsTold s reader way → IsTold (run s (reading p at now)) reader (way ++ written s (reading p at now))
told_reply s reader p way at now on told over = by_bool _ (is_closing s.facts.connection.phase) (λ closing. more way (written s (reading p at now)) reader.ending (told (inr closing))) (λ yet. by_bool _ (is_some o.ending) some (λ none. absurd (goes yet none over)))
  where
    x : Around
    x = around s at now

    o : Outcome
    o = reply_of x s.facts (incoming_of p)

    rd : Reads s (incoming_of p) o (run s (reading p at now)) (written s (reading p at now))
    rd = reads_as s p at now

    some : is_some o.ending ≡ true → (1 ≤ under_way shutting (way ++ written s (reading p at now))) ⊎ IsSome reader.ending
    some e =
        let one = replies_shut.writes_one x s.facts (incoming_of p) on e in
        let c = said_counts shutting o.written in
        let a = way_append shutting way (said_all o.written) in
        inl (subst (λ (out : List Piece). 1 ≤ under_way shutting (way ++ out)) (sym rd.writes) (omega (arith, one, c, a)))

    goes : is_closing s.facts.connection.phase ≡ false → is_some o.ending ≡ false → IsOver (run s (reading p at now)) → ⊥
    goes yet none (inl ended) = true≢false (sym ended ∙ (ap (λ (e : Option Ending). is_some e) rd.ending ∙ none))
    goes yet none (inr closing) =
        true≢false (sym closing ∙ (ap (λ (f : Facts). is_closing f.connection.phase) rd.facts ∙ (replies_even x s.facts (incoming_of p) yet (none_is o.ending none)).0.opens.closing))

-- an end reads
told_read : (writer s : State) (p : Piece) (left : List Piece) (at now : ℕ) → s.ending ≡ None
    → (1 ≤ in_piece shutting p → (is_closing s.facts.connection.phase ≡ false) ⊎ (terminates (around s at now) (incoming_of p) ≡ true))
    → IsTold writer s (p ∷ left) → IsTold writer (run s (reading p at now)) left
told_read writer s p left at now going own told over = by_told (told over)
  where
    o : Outcome
    o = reply_of (around s at now) s.facts (incoming_of p)

    rd : Reads s (incoming_of p) o (run s (reading p at now)) (written s (reading p at now))
    rd = reads_as s p at now

    ends : 1 ≤ in_piece shutting p → IsSome (run s (reading p at now)).ending
    ends one = let same = in_so shutting p in ap (λ (e : Option Ending). is_some e) rd.ending ∙ replies_shut.ends_with_one (around s at now) s.facts (incoming_of p) (omega (arith, one, same)) (own one)

    by_told : (1 ≤ under_way shutting (p ∷ left)) ⊎ IsSome s.ending → (1 ≤ under_way shutting left) ⊎ IsSome (run s (reading p at now)).ending
    by_told (inl one) = by_bool _ (nat_lt 0 (in_piece shutting p))
        (λ t. inr (ends (let h = ltb-true 0 (in_piece shutting p) t in omega (arith, h))))
        (λ t. inl (let h = ltb-false 0 (in_piece shutting p) t in omega (arith, one, h)))
    by_told (inr ended) = absurd (true≢false (sym ended ∙ ap (λ (e : Option Ending). is_some e) going))

-- any other call of an end, and of its reader
told_call : (s reader : State) (call : Call) (way : List Piece) → IsCall call → IsTold s reader way → IsTold (step s call) reader (way ++ written s (call ∷ []))
told_call s reader call way is told over =
    by_bool _ (is_some s.ending) (λ ended. more way (written s (call ∷ [])) reader.ending (told (inl ended))) (λ none.
    by_bool _ (is_closing s.facts.connection.phase) (λ closing. more way (written s (call ∷ [])) reader.ending (told (inr closing))) (λ yet.
    let one = calls_shut s call is (none_is s.ending none) yet over in
    let a = way_append shutting way (written s (call ∷ [])) in
    let b = way_append shutting (writes s call) [] in
    inl (omega (arith, one, a, b))))

told_still : (writer s t : State) (way : List Piece) → (IsSome s.ending → IsSome t.ending) → IsTold writer s way → IsTold writer t way
told_still writer s t way over told ended = by_told (told ended)
  where
    by_told : (1 ≤ under_way shutting way) ⊎ IsSome s.ending → (1 ≤ under_way shutting way) ⊎ IsSome t.ending
    by_told (inl one) = inl one
    by_told (inr e) = inr (over e)

-- the initiator reads, and the acceptor
initiator_reading : (hi ha : List Entry) (w : World) (way : List Piece) (at now : ℕ) → w.homeward ≡ way → Counted hi ha w → MayRead w.initiator → BothTold w → BothTold (initiator_read w way at now)
initiator_reading hi ha w [] at now e n may b = b
initiator_reading hi ha w (p ∷ left) at now e n may b = record {
  outward = told_reply s w.acceptor p w.outward at now on b.outward;
  homeward = told_read w.acceptor s p left at now may.0.going own (subst (λ (ps : List Piece). IsTold w.acceptor s ps) e b.homeward);
}
  where
    s : State
    s = w.initiator

    sh : Shaking s.config w.acceptor.config s.facts s.ending w.acceptor.facts w.outward (p ∷ left)
    sh = subst (λ (ps : List Piece). Shaking s.config w.acceptor.config s.facts s.ending w.acceptor.facts w.outward ps) e n.holds.shaking

    flows : is_shaken s.facts.connection.phase ≡ true → IsFlowing w.acceptor.config p
    flows done = (initiator_flows s.config w.acceptor.config s.facts s.ending w.acceptor.facts w.outward (p ∷ left) sh done).0

    on : GoesOn (incoming_of p)
    on = by_bool _ (is_shaken s.facts.connection.phase) (λ done. flowing_on w.acceptor.config p (flows done)) (λ before. initiator_on s.config w.acceptor.config s.facts s.ending w.acceptor.facts p w.outward left sh may.0.going before)

    closing_done : (a b : Bool) → b ≡ true → (a || b) ≡ true
    closing_done true b t = refl
    closing_done false b t = t

    own : 1 ≤ in_piece shutting p → (is_closing s.facts.connection.phase ≡ false) ⊎ (terminates (around s at now) (incoming_of p) ≡ true)
    own one = by_bool _ (is_closing s.facts.connection.phase)
        (λ closing. inr (own_terminate (around s at now) w.acceptor.config p n.holds.matches.session one (flows (closing_done (is_established s.facts.connection.phase) (is_closing s.facts.connection.phase) closing))))
        (λ yet. inl yet)

acceptor_reading : (hi ha : List Entry) (w : World) (way : List Piece) (at now : ℕ) → w.outward ≡ way → Counted hi ha w → MayRead w.acceptor → BothTold w → BothTold (acceptor_read w way at now)
acceptor_reading hi ha w [] at now e n may b = b
acceptor_reading hi ha w (p ∷ left) at now e n may b = record {
  outward = told_read w.initiator s p left at now may.0.going (λ _. inl yet) (subst (λ (ps : List Piece). IsTold w.initiator s ps) e b.outward);
  homeward = told_reply s w.initiator p w.homeward at now on b.homeward;
}
  where
    s : State
    s = w.acceptor

    sh : Shaking w.initiator.config s.config w.initiator.facts w.initiator.ending s.facts (p ∷ left) w.homeward
    sh = subst (λ (ps : List Piece). Shaking w.initiator.config s.config w.initiator.facts w.initiator.ending s.facts ps w.homeward) e n.holds.shaking

    yet : is_closing s.facts.connection.phase ≡ false
    yet = (acceptor_phase w.initiator.config s.config w.initiator.facts w.initiator.ending s.facts (p ∷ left) w.homeward sh).1

    on : GoesOn (incoming_of p)
    on = by_bool _ (is_shaken s.facts.connection.phase)
        (λ done. flowing_on w.initiator.config p (acceptor_flows w.initiator.config s.config w.initiator.facts w.initiator.ending s.facts (p ∷ left) w.homeward sh done).0)
        (λ before. acceptor_on w.initiator.config s.config w.initiator.facts w.initiator.ending s.facts p left w.homeward sh before)

told_step : (hi ha : List Entry) (w : World) (s : Step) → Counted hi ha w → MayStep hi ha w s → KeepsLink s → BothTold w → BothTold (after w s)
told_step hi ha w (meets now_i now_a) n may keeps b = absurd keeps
told_step hi ha w (initiator_reads at now) n may keeps b = initiator_reading hi ha w w.homeward at now refl n may b
told_step hi ha w (acceptor_reads at now) n may keeps b = acceptor_reading hi ha w w.outward at now refl n may b
told_step hi ha w (initiator_does call) n may keeps b = record {
  outward = told_call w.initiator w.acceptor call w.outward keeps b.outward;
  homeward = told_still w.acceptor w.initiator (step w.initiator call) w.homeward (does_as hi w.initiator call may.0 may.1 n.holds.initiator.serves n.holds.initiator_window.opening).over b.homeward;
}
told_step hi ha w (acceptor_does call) n may keeps b = record {
  outward = told_still w.initiator w.acceptor (step w.acceptor call) w.outward (does_as ha w.acceptor call may.0 may.1 n.holds.acceptor.serves n.holds.acceptor_window.opening).over b.outward;
  homeward = told_call w.acceptor w.initiator call w.homeward keeps b.homeward;
}

told_behind : (hi ha : List Entry) (w : World) (later : List Step) → Counted hi ha w → AllMayStep hi ha w later → AllByRecursion KeepsLink later → BothTold w → BothTold (world_after w later)
told_behind hi ha w [] n may keeps b = b
told_behind hi ha w (s ∷ later) n may keeps b = told_behind hi ha (after w s) later (counted_step hi ha w s n may.0) may.1 keeps.1 (told_step hi ha w s n may.0 keeps.0 b)

-- a connection that begins goes on
begun_goes : (x : Around) (recorded : EndState) → is_closing (begun x recorded).next.connection.phase ≡ false
begun_goes x recorded = by_case (is_initiator x.config.role) recorded.negotiated
  where
    by_case : (i n : Bool) → is_closing (begun_as x recorded i n).next.connection.phase ≡ false
    by_case true true = refl
    by_case true false = refl
    by_case false n = refl

not_over : (s : State) (now : ℕ) → IsOver (step s (begin now)) → ⊥
not_over s now (inl ended) = true≢false (sym ended)
not_over s now (inr closing) = true≢false (sym closing ∙ begun_goes (around s 0 now) s.facts.recorded)

told_from : (hi ha : List Entry) (w : World) (before later : List Step) (now_i now_a : ℕ) → Counted hi ha w → AllMayStep hi ha w (before ++ meets now_i now_a ∷ later) → AllByRecursion KeepsLink later
    → BothTold (world_after w (before ++ meets now_i now_a ∷ later))
told_from hi ha w [] later now_i now_a n may keeps =
    told_behind hi ha (after w (meets now_i now_a)) later (counted_step hi ha w (meets now_i now_a) n may.0) may.1 keeps
    (record { outward = λ over. absurd (not_over w.initiator now_i over); homeward = λ over. absurd (not_over w.acceptor now_a over) })
told_from hi ha w (s ∷ before) later now_i now_a n may keeps = told_from hi ha (after w s) before later now_i now_a (counted_step hi ha w s n may.0) may.1 keeps

pub ends_are_told : EndsAreTold
ends_are_told hi ha w before later now_i now_a known may keeps = told_from hi ha w before later now_i now_a (counted_at_first hi ha w known) may keeps

-- a Terminate is among what a turn reads, or heartbeats stand before it
reads_it : (P : Type 0) (per_turn : ℕ) (way : List Piece) → 1 ≤ under_way shutting way → (all_beats (take per_turn way) ≡ false → P) → (BeatsFirst per_turn way → P) → P
reads_it P per_turn way one reads beats =
    by_bool _ (all_beats (take per_turn way))
    (λ first. by_length _ per_turn (length way) (λ many. beats (record { many = many; beats = first }))
    (λ few. let none = (beats_none way (subst (λ (ps : List Piece). all_beats ps ≡ true) (take_all per_turn way few) first)).shuttings in absurd (omega (arith, one, none))))
    (λ other. reads other)

some_none : (e : Option Ending) → e ≡ None → IsSome e → ⊥
some_none e none some = true≢false (sym some ∙ ap (λ (k : Option Ending). is_some k) none)

pub closing_to_do : ClosingToDo
closing_to_do most_i most_a seen_i seen_a w b over one_goes =
    by_bool _ (is_some w.initiator.ending)
    (λ ended. outward (acceptor_goes ended one_goes) (b.outward (inl ended)))
    (λ none_i. by_bool _ (is_some w.acceptor.ending)
    (λ ended. homeward (none_is w.initiator.ending none_i) (b.homeward (inl ended)))
    (λ none_a. by_over (none_is w.initiator.ending none_i) (none_is w.acceptor.ending none_a) over))
  where
    homeward : w.initiator.ending ≡ None → (1 ≤ under_way shutting w.homeward) ⊎ IsSome w.initiator.ending → HasToDo most_i most_a seen_i seen_a w
    homeward going (inl one) = reads_it _ most_i w.homeward one (λ other. acts.at_initiator going (acts.reads other)) (λ first. acts.homeward_beats going first)
    homeward going (inr ended) = absurd (some_none w.initiator.ending going ended)

    outward : w.acceptor.ending ≡ None → (1 ≤ under_way shutting w.outward) ⊎ IsSome w.acceptor.ending → HasToDo most_i most_a seen_i seen_a w
    outward going (inl one) = reads_it _ most_a w.outward one (λ other. acts.at_acceptor going (acts.reads other)) (λ first. acts.outward_beats going first)
    outward going (inr ended) = absurd (some_none w.acceptor.ending going ended)

    acceptor_goes : IsSome w.initiator.ending → (w.initiator.ending ≡ None) ⊎ (w.acceptor.ending ≡ None) → w.acceptor.ending ≡ None
    acceptor_goes ended (inl none) = absurd (some_none w.initiator.ending none ended)
    acceptor_goes ended (inr none) = none

    by_over : w.initiator.ending ≡ None → w.acceptor.ending ≡ None → IsOver w.initiator ⊎ IsOver w.acceptor → HasToDo most_i most_a seen_i seen_a w
    by_over none_i none_a (inl i) = outward none_a (b.outward i)
    by_over none_i none_a (inr a) = homeward none_i (b.homeward a)
