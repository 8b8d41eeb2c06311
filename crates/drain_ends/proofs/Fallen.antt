-- That each step of two ends lowers what is still to do, but a heartbeat.
use Rattle.std.proofs.Common.{◌≡◌, inl, inr, ℕ, ◌+◌, ◌-◌, ◌*◌, ◌≤◌, ◌&&◌, ◌||◌, nat_lt, Bool, true, false, if◌then◌else◌, List, [], ◌∷◌, ◌++◌, length, Option, Some, None, refl, sym, ap, subst, ◌∙◌, arith, append-nil, length-append, true≢false}
use Rattle.std.specs.Prelude.{is_some, is_none, IfSome}
use Rattle.std.specs.List.{AllByRecursion}
use Rattle.std.proofs.lemmas.Bool.Decides.{nat_tests}
use Rattle.session_model.specs.Journal.{Entry}
use Rattle.fixp_msgs.specs.declared.numbering.Range.{Range}
use Rattle.fixp_msgs.specs.declared.flow.Flow.{Flow}
use Rattle.fixp_msgs.specs.declared.flow.Flow.TheVariants as flows
use Rattle.fixp_msgs.specs.Message.{negotiate, negotiation_response, negotiation_reject, establish, establishment_ack, establishment_reject, sequence, unsequenced_heartbeat, retransmit_request, retransmission, retransmit_reject, applied, not_applied, finished_sending, finished_receiving, terminate}
use Rattle.flow_recover.specs.Receiving as receiver_is
use Rattle.flow_recover.specs.Receiving.{Receiving}
use Rattle.flow_retrans.specs.declared.request.Request.{Request}
use Rattle.flow_retrans.specs.declared.request.Request.TheVariants as requests
use Rattle.fixp_shake.specs.declared.config.EndConfig.{EndConfig}
use Rattle.fixp_shake.specs.declared.phase.Phase.{Phase}
use Rattle.fixp_shake.specs.declared.phase.Phase.TheVariants as phases
use Rattle.fixp_shake.specs.Flows.{is_recoverable, is_idempotent, is_sequenced}
use Rattle.fixp_shake.specs.Phases.{is_closing, is_shaken}
use Rattle.fixp_replies.specs.declared.act.Ending.{Ending}
use Rattle.fixp_replies.specs.declared.facts.Facts.{Facts}
use Rattle.fixp_replies.specs.Acts.{is_record}
use Rattle.fixp_replies.specs.Incoming.{Incoming, payload_in}
use Rattle.fixp_replies.specs.Facts.{Around, is_initiator, receiving, firm, awaiting}
use Rattle.fixp_replies.specs.Announcing.{Announced, jumped_over}
use Rattle.fixp_replies.specs.Outcomes.{Outcome}
use Rattle.fixp_replies.specs.Events.{tells_finish, closes}
use Rattle.fixp_replies.specs.Replies.{reply_of}
use Rattle.fixp_machine.specs.Machine.{State, Call, begin, frame, bad_frame, did, tick, turn_done, closed, link_end, live, again, taken, reserve, held_done, around, to_tell, done_pending, reply_applied, held_with, run, step}
use Rattle.fixp_machine.specs.Sound.{Matches}
use Rattle.fixp_machine.proofs.Tests.{is_done}
use Rattle.connection_laws.specs.Writing.{Piece, said, entry, writes}
use Rattle.connection_laws.specs.Standing.{MayStand}
use Rattle.connection_laws.proofs.Owned.{entries_reach}
use Rattle.two_ends.specs.Reading.{incoming_of}
use Rattle.honest_ends.specs.Worlds.{World, initiator_reads, acceptor_reads, reading, written, initiator_read, acceptor_read, world_after, IsOther, MayRead}
use Rattle.honest_ends.specs.Numbers as numbers
use Rattle.honest_ends.specs.Numbers.{Awaited, exactly, Allows, announces, Fits, Line, Idle, IsFlowing, to_come, goes_softly, served}
use Rattle.honest_ends.specs.Numbered.{awaits, awaited, next_live}
use Rattle.honest_ends.proofs.Serving.{by_bool}
use Rattle.honest_ends.proofs.Shapes.{IsFree, IsAsk, IsAnswer, IsAck}
use Rattle.honest_ends.proofs.Standing.{initiator_flows, acceptor_flows}
use Rattle.honest_ends.proofs.Moving.{Reads, reads_as, does_as}
use Rattle.honest_ends.proofs.Phased as phased
use Rattle.honest_ends.proofs.Phased.{Shaking}
use Rattle.honest_ends.proofs.Awaiting.{Ready, ready_live, live_is, inbox_of, not_softly, awaited_then}
use Rattle.honest_ends.proofs.Numbering.{Counted, Flowing, counted_step, counted_at_first, counted_after}
use Rattle.drain_laws.specs.Weights.{weights, entry_weight, weight_in}
use Rattle.drain_laws.specs.Loads.{end_of, asked, load, load_at}
use Rattle.drain_laws.specs.Frames as frames
use Rattle.drain_laws.specs.Frames.{Fills, IsHonest, falls}
use Rattle.drain_laws.specs.Calls.{weight_out, weights_out, beats_at, Falls}
use Rattle.drain_laws.proofs.Framed.{frames_fall, closing_falls}
use Rattle.drain_laws.proofs.Called as called
use Rattle.drain_laws.proofs.Begun.{begins_fall}
use Rattle.drain_laws.proofs.Evened.{replies_even}
use Rattle.drain_ends.specs.Agreeing.{IsNoReject, Agreed}
use Rattle.drain_ends.specs.Falling.{measure, beat_of, call_lowers, HasSome, StepsFall, MeetsFall}
use Rattle.drain_ends.proofs.Stood.{acceptor_phase}
use Rattle.drain_ends.proofs.Filled.{Filled, filled_holds}
use Rattle.drain_ends.proofs.Agreed.{agreed_holds}

-- no number is asked for past the last one of the writer's outbox
matches_end : (r : Receiving) (q : Request) → Matches r q → end_of q ≤ r.live
matches_end r requests.Nothing m = omega arith
matches_end r (requests.Asked range) m = m.1
matches_end r (requests.Coming range next left) m = m.1

asked_most : (h : List Entry) (writer reader : State) (way back : List Piece) → Flowing h writer reader way back → reader.ending ≡ None → is_closing reader.facts.connection.phase ≡ false → is_recoverable reader.config.peer_flow ≡ true
    → asked reader.facts ≤ length h + 1
asked_most h writer reader way back b none yet rec = by_soft (goes_softly reader.facts) refl
  where
    f : Facts
    f = reader.facts

    ready : Ready reader.config f way (writer.facts.recorded.sent + 1) (served writer.facts.connection.serving)
    ready = (b.goes none yet).0

    line : Line f
    line = ready.line rec

    soft_first : (s t : Bool) → (s && t) ≡ true → s ≡ true
    soft_first true t e = refl
    soft_first false t e = absurd (true≢false (sym e))

    by_soft : (t : Bool) → goes_softly f ≡ t → asked f ≤ length h + 1
    by_soft true soft =
        let waits = line.waits in
        let next = b.next in
        let sent = b.sent in
        let end = ap end_of (line.unasked (soft_first f.connection.soft (nat_lt f.connection.receiver.next f.connection.receiver.live) soft)) in
        omega (arith, waits, next, sent, end)
    by_soft false firm =
        let waits = line.waits in
        let next = b.next in
        let sent = b.sent in
        let live = ready_live reader.config f way (writer.facts.recorded.sent + 1) (served writer.facts.connection.serving) firm ready in
        let same = live_is reader.config f rec in
        let end = matches_end f.connection.receiver f.connection.requester line.matches in
        omega (arith, waits, next, sent, live, same, end)

-- what comes before the handshake is done is honest
free_honest : (x : Around) (f : Facts) (theirs : EndConfig) (p : Piece) → IsFree theirs p → IsHonest x f (incoming_of p)
free_honest x f theirs (said unsequenced_heartbeat) free = tt
free_honest x f theirs (said (applied first count)) free = tt
free_honest x f theirs (said (not_applied first count)) free = tt
free_honest x f theirs (said (terminate id code reason)) free = tt
free_honest x f theirs (said (negotiate id timestamp flow credentials)) free = absurd free
free_honest x f theirs (said (negotiation_response id timestamp flow credentials)) free = absurd free
free_honest x f theirs (said (negotiation_reject id timestamp code reason)) free = absurd free
free_honest x f theirs (said (establish id timestamp keepalive next expected credentials)) free = absurd free
free_honest x f theirs (said (establishment_ack id timestamp keepalive next expected)) free = absurd free
free_honest x f theirs (said (establishment_reject id timestamp code reason)) free = absurd free
free_honest x f theirs (said (sequence next)) free = absurd free
free_honest x f theirs (said (retransmit_request id timestamp first count)) free = absurd free
free_honest x f theirs (said (retransmission id next timestamp count)) free = absurd free
free_honest x f theirs (said (retransmit_reject id timestamp code reason)) free = absurd free
free_honest x f theirs (said (finished_sending id last)) free = absurd free
free_honest x f theirs (said (finished_receiving id)) free = absurd free
free_honest x f theirs (entry payload) free = absurd free

ask_honest : (x : Around) (f : Facts) (theirs : EndConfig) (ph : Phase) (p : Piece) → IsAsk theirs ph p → IsHonest x f (incoming_of p)
ask_honest x f theirs phases.Negotiating (said (negotiate id timestamp flow credentials)) ask = tt
ask_honest x f theirs phases.Establishing (said (establish id timestamp keepalive next expected credentials)) ask = tt
ask_honest x f theirs phases.Idle p ask = absurd ask
ask_honest x f theirs phases.Negotiating _ ask = absurd ask
ask_honest x f theirs phases.Establishing _ ask = absurd ask
ask_honest x f theirs phases.Established p ask = absurd ask
ask_honest x f theirs phases.Closing p ask = absurd ask
ask_honest x f theirs phases.Ended p ask = absurd ask

answer_honest : (x : Around) (f : Facts) (theirs : EndConfig) (ph : Phase) (p : Piece) → IsAnswer theirs ph p → IsNoReject p → IsHonest x f (incoming_of p)
answer_honest x f theirs phases.Negotiating (said (negotiation_response id timestamp flow credentials)) a n = tt
answer_honest x f theirs phases.Negotiating (said (negotiation_reject id timestamp code reason)) a n = tt
answer_honest x f theirs phases.Establishing (said (establishment_reject id timestamp code reason)) a n = absurd n
answer_honest x f theirs phases.Idle p a n = absurd a
answer_honest x f theirs phases.Negotiating _ a n = absurd a
answer_honest x f theirs phases.Establishing _ a n = absurd a
answer_honest x f theirs phases.Established p a n = absurd a
answer_honest x f theirs phases.Closing p a n = absurd a
answer_honest x f theirs phases.Ended p a n = absurd a

ack_honest : (x : Around) (f : Facts) (theirs : EndConfig) (p : Piece) → IsAck theirs p → IsHonest x f (incoming_of p)
ack_honest x f theirs (said (establishment_ack id timestamp keepalive next expected)) a = tt
ack_honest x f theirs (said (negotiate id timestamp flow credentials)) a = absurd a
ack_honest x f theirs (said (negotiation_response id timestamp flow credentials)) a = absurd a
ack_honest x f theirs (said (negotiation_reject id timestamp code reason)) a = absurd a
ack_honest x f theirs (said (establish id timestamp keepalive next expected credentials)) a = absurd a
ack_honest x f theirs (said (establishment_reject id timestamp code reason)) a = absurd a
ack_honest x f theirs (said (sequence next)) a = absurd a
ack_honest x f theirs (said unsequenced_heartbeat) a = absurd a
ack_honest x f theirs (said (retransmit_request id timestamp first count)) a = absurd a
ack_honest x f theirs (said (retransmission id next timestamp count)) a = absurd a
ack_honest x f theirs (said (retransmit_reject id timestamp code reason)) a = absurd a
ack_honest x f theirs (said (applied first count)) a = absurd a
ack_honest x f theirs (said (not_applied first count)) a = absurd a
ack_honest x f theirs (said (finished_sending id last)) a = absurd a
ack_honest x f theirs (said (finished_receiving id)) a = absurd a
ack_honest x f theirs (said (terminate id code reason)) a = absurd a
ack_honest x f theirs (entry payload) a = absurd a

-- and so is what comes then: a Sequence ends a retransmission that is whole, and announces the number that is awaited
whole_so : (q : Request) → numbers.IsWhole (to_come q) → frames.IsWhole q
whole_so requests.Nothing w = tt
whole_so (requests.Asked range) w = tt
whole_so (requests.Coming range next left) w = w

abbrev chosen : Facts → ℕ → Bool → Bool → Announced
chosen f n recoverable idempotent =
    if recoverable then record { facts = firm (receiving f (receiver_is.announced f.connection.receiver n)); skipped = None }
    else if idempotent then record { facts = awaiting f n; skipped = jumped_over f.recorded.inbox_next n }
    else record { facts = f; skipped = None }

no_jump : (k n : ℕ) → k ≡ n → jumped_over k n ≡ None
no_jump k n e = by_test (nat_lt k n) refl
  where
    skipped : Range
    skipped = record { from = k; count = n - k }

    by_test : (b : Bool) → nat_lt k n ≡ b → (if b then Some skipped else None) ≡ None
    by_test true t = absurd (grind (arith, nat_tests))
    by_test false t = refl

told_number : (b : Bool) (n : ℕ) (P : ℕ → Type 0) → b ≡ true → IfSome (if b then Some n else None) P → P n
told_number true n P e h = h
told_number false n P e h = absurd (true≢false (sym e))

sequence_honest : (x : Around) (f : Facts) (next k : ℕ) (left : List Piece) (m : Option ℕ) → is_shaken f.connection.phase ≡ true → Ready x.config f (said (sequence next) ∷ left) k m → IsHonest x f (incoming_of (said (sequence next)))
sequence_honest x f next k left m done ready = (whole_so f.connection.requester ready.runs.0.1, by_flow (is_recoverable x.config.peer_flow) (is_idempotent x.config.peer_flow) refl refl)
  where
    by_flow : (r i : Bool) → is_recoverable x.config.peer_flow ≡ r → is_idempotent x.config.peer_flow ≡ i → (chosen f next r i).skipped ≡ None
    by_flow true i rec idem = refl
    by_flow false false rec idem = refl
    by_flow false true rec idem =
        let numbered : is_sequenced x.config.peer_flow ≡ true = ap (λ b. b || is_idempotent x.config.peer_flow) rec ∙ idem in
        let at : awaited x.config f ≡ exactly (next_live x.config f) = awaited_then x.config f (not_softly f (ready.idle rec).firm) done ∙ ap (λ b. awaits b (next_live x.config f)) numbered in
        let allowed : Allows (awaited x.config f) next = told_number (is_sequenced x.config.peer_flow) next (λ n. Allows (awaited x.config f) n) numbered ready.runs.0.0 in
        let here : next_live x.config f ≡ next = subst (λ (a : Awaited). Allows a next) at allowed in
        no_jump f.recorded.inbox_next next (sym (inbox_of x.config f rec) ∙ here)

flowing_honest : (x : Around) (f : Facts) (theirs : EndConfig) (p : Piece) (left : List Piece) (k : ℕ) (m : Option ℕ) → is_shaken f.connection.phase ≡ true → IsFlowing theirs p → Ready x.config f (p ∷ left) k m → IsHonest x f (incoming_of p)
flowing_honest x f theirs (said (sequence next)) left k m done flows ready = sequence_honest x f next k left m done ready
flowing_honest x f theirs (said (establishment_reject id timestamp code reason)) left k m done flows ready = absurd flows
flowing_honest x f theirs (said (negotiate id timestamp flow credentials)) left k m done flows ready = absurd flows
flowing_honest x f theirs (said (negotiation_response id timestamp flow credentials)) left k m done flows ready = absurd flows
flowing_honest x f theirs (said (negotiation_reject id timestamp code reason)) left k m done flows ready = absurd flows
flowing_honest x f theirs (said (establish id timestamp keepalive next expected credentials)) left k m done flows ready = absurd flows
flowing_honest x f theirs (said (establishment_ack id timestamp keepalive next expected)) left k m done flows ready = absurd flows
flowing_honest x f theirs (said unsequenced_heartbeat) left k m done flows ready = tt
flowing_honest x f theirs (said (retransmit_request id timestamp first count)) left k m done flows ready = tt
flowing_honest x f theirs (said (retransmission id next timestamp count)) left k m done flows ready = tt
flowing_honest x f theirs (said (retransmit_reject id timestamp code reason)) left k m done flows ready = tt
flowing_honest x f theirs (said (applied first count)) left k m done flows ready = tt
flowing_honest x f theirs (said (not_applied first count)) left k m done flows ready = tt
flowing_honest x f theirs (said (finished_sending id last)) left k m done flows ready = tt
flowing_honest x f theirs (said (finished_receiving id)) left k m done flows ready = tt
flowing_honest x f theirs (said (terminate id code reason)) left k m done flows ready = tt
flowing_honest x f theirs (entry payload) left k m done flows ready = tt

initiator_before : (x : Around) (ca : EndConfig) (fi : Facts) (ei : Option Ending) (fa : Facts) (p : Piece) (outward left : List Piece) → Shaking x.config ca fi ei fa outward (p ∷ left) → ei ≡ None → is_shaken fi.connection.phase ≡ false → IsNoReject p → IsHonest x fi (incoming_of p)
initiator_before x ca fi ei fa p outward left (phased.opens before qi idle qa one free) going b n = free_honest x fi ca p free.0
initiator_before x ca fi ei fa p outward left (phased.answering before qi idle qa free (inl one)) going b n = answer_honest x fi ca fi.connection.phase p one.0 n
initiator_before x ca fi ei fa p outward left (phased.answering before qi idle qa free (inr more)) going b n = free_honest x fi ca p more.0
initiator_before x ca fi ei fa p outward left (phased.acknowledging e qi est free (inl first)) going b n = ack_honest x fi ca p first.0
initiator_before x ca fi ei fa p outward left (phased.acknowledging e qi est free (inr more)) going b n = free_honest x fi ca p more.0
initiator_before x ca fi ei fa p outward left (phased.standing done est out home) going b n = absurd (true≢false (sym done ∙ b))
initiator_before x ca fi ei fa p outward left (phased.refusing over before qi est free) going b n = absurd (true≢false (sym over ∙ ap (λ (e : Option Ending). is_some e) going))

acceptor_before : (ci : EndConfig) (x : Around) (fi : Facts) (ei : Option Ending) (fa : Facts) (p : Piece) (left homeward : List Piece) → Shaking ci x.config fi ei fa (p ∷ left) homeward → is_shaken fa.connection.phase ≡ false → IsHonest x fa (incoming_of p)
acceptor_before ci x fi ei fa p left homeward (phased.opens before qi idle qa (inl one) free) b = ask_honest x fa ci fi.connection.phase p one.0
acceptor_before ci x fi ei fa p left homeward (phased.opens before qi idle qa (inr more) free) b = free_honest x fa ci p more.0
acceptor_before ci x fi ei fa p left homeward (phased.answering before qi idle qa free one) b = free_honest x fa ci p free.0
acceptor_before ci x fi ei fa p left homeward (phased.acknowledging e qi est free first) b = absurd (true≢false (sym (ap (λ q. is_shaken q) est) ∙ b))
acceptor_before ci x fi ei fa p left homeward (phased.standing done est out home) b = absurd (true≢false (sym (ap (λ q. is_shaken q) est) ∙ b))
acceptor_before ci x fi ei fa p left homeward (phased.refusing over before qi est free) b = absurd (true≢false (sym (ap (λ q. is_shaken q) est) ∙ b))

-- what is left to be told behind a message
abbrev framed : Bool → State → Incoming → Outcome → ℕ → State
framed b s i o now =
    if b then record s { moment = now; last_received = now; room = s.room - 1; pending = Some o }
    else reply_applied (record s { moment = now; last_received = now; room = s.room - 1; held = held_with o.holds (payload_in i) s.held }) o now

reads_untold : (s : State) (p : Piece) (at now : ℕ) → (run s (reading p at now)).untold ≡ s.untold ++ to_tell s.config (reply_of (around s at now) s.facts (incoming_of p)).act
reads_untold s p at now = by_case (is_record o.act)
  where
    i : Incoming
    i = incoming_of p

    o : Outcome
    o = reply_of (around s at now) s.facts i

    by_case : (b : Bool) → (done_pending (framed b s i o now) (framed b s i o now).pending now).untold ≡ s.untold ++ to_tell s.config o.act
    by_case true = refl
    by_case false = refl

-- a message weighs the same to its writer and to its reader
same_weight : (writer reader : EndConfig) (p : Piece) → reader.peer_flow ≡ writer.own_flow → weight_out writer p ≡ weight_in reader (incoming_of p)
same_weight writer reader (said m) e = refl
same_weight writer reader (entry payload) e = ap (λ (f : Flow). entry_weight (is_idempotent f)) (sym e)

-- an end reads: its load falls by more than what it wrote weighs
record Lifts (m n : ℕ) (s t : State) (out : List Piece) (w k : ℕ) : Type 0 where
  falls : weights_out t.config out + load_at m n t + k ≤ w + load_at m n s
  config : t.config ≡ s.config

abbrev Lowered : (m n : ℕ) → State → Piece → (at now : ℕ) → Type 0
Lowered m n s p at now =
    weights (reply_of (around s at now) s.facts (incoming_of p)).written + 4 * length (to_tell s.config (reply_of (around s at now) s.facts (incoming_of p)).act)
    + load s.config m n (reply_of (around s at now) s.facts (incoming_of p)).next (reply_of (around s at now) s.facts (incoming_of p)).ending + falls s.facts (incoming_of p)
    ≤ weight_in s.config (incoming_of p) + load s.config m n s.facts None

lifts : (m n : ℕ) (s : State) (p : Piece) (at now : ℕ) → s.ending ≡ None → Lowered m n s p at now
    → Lifts m n s (run s (reading p at now)) (written s (reading p at now)) (weight_in s.config (incoming_of p)) (falls s.facts (incoming_of p))
lifts m n s p at now going low =
    let now_load : load t.config m n t.facts t.ending ≡ load s.config m n o.next o.ending = ap (λ (c : EndConfig). load c m n t.facts t.ending) rd.config ∙ (ap (λ (f : Facts). load s.config m n f t.ending) rd.facts ∙ ap (λ (e : Option Ending). load s.config m n o.next e) rd.ending) in
    let was_load : load s.config m n s.facts s.ending ≡ load s.config m n s.facts None = ap (λ (e : Option Ending). load s.config m n s.facts e) going in
    let told = ap length (reads_untold s p at now) ∙ length-append s.untold (to_tell s.config o.act) in
    let out = ap (λ (c : EndConfig). weights_out c (written s (reading p at now))) rd.config ∙ (ap (λ ps. weights_out s.config ps) rd.writes ∙ called.said_weighs s.config o.written) in
    record {
      falls = by_numbers (weights o.written) (length (to_tell s.config o.act)) (load s.config m n o.next o.ending) (falls s.facts (incoming_of p)) (weight_in s.config (incoming_of p)) (load s.config m n s.facts None)
          (weights_out t.config (written s (reading p at now))) (load t.config m n t.facts t.ending) (length t.untold) (load s.config m n s.facts s.ending) (length s.untold) low now_load was_load told out;
      config = rd.config;
    }
  where
    x : Around
    x = around s at now

    o : Outcome
    o = reply_of x s.facts (incoming_of p)

    t : State
    t = run s (reading p at now)

    rd : Reads s (incoming_of p) o t (written s (reading p at now))
    rd = reads_as s p at now

    by_numbers : (ws tl l k w f out lt ut ls us : ℕ) → ws + 4 * tl + l + k ≤ w + f → lt ≡ l → ls ≡ f → ut ≡ us + tl → out ≡ ws → out + (lt + 4 * ut) + k ≤ w + (ls + 4 * us)
    by_numbers ws tl l k w f out lt ut ls us low a b c d = omega arith

-- the weights behind what was under way
out_behind : (c d : EndConfig) (ps qs : List Piece) → d ≡ c → weights_out d (ps ++ qs) ≡ weights_out c ps + weights_out d qs
out_behind c d ps qs e = ap (λ (k : EndConfig). weights_out k (ps ++ qs)) e ∙ (called.out_append c ps qs ∙ ap (λ (k : EndConfig). weights_out c ps + weights_out k qs) (sym e))

-- where an end does not close, what it asks for is known
honest_lifts : (m n : ℕ) (s : State) (p : Piece) (at now : ℕ) → s.ending ≡ None → Fills s.facts.connection.receiver.next s.facts.connection.requester → IsHonest (around s at now) s.facts (incoming_of p)
    → ((run s (reading p at now)).ending ≡ None → is_recoverable (run s (reading p at now)).config.peer_flow ≡ true → asked (run s (reading p at now)).facts ≤ n + 1)
    → Lifts m n s (run s (reading p at now)) (written s (reading p at now)) (weight_in s.config (incoming_of p)) (falls s.facts (incoming_of p))
honest_lifts m n s p at now going fills honest most =
    let rd = reads_as s p at now in
    lifts m n s p at now going
    (frames_fall (around s at now) m n s.facts (incoming_of p) fills honest
    (λ none rec. subst (λ (f : Facts). asked f ≤ n + 1) rd.facts (most (rd.ending ∙ none) (ap (λ (c : EndConfig). is_recoverable c.peer_flow) rd.config ∙ rec))))

initiator_reading : (hi ha : List Entry) (w : World) (p : Piece) (left : List Piece) (at now : ℕ) → w.homeward ≡ p ∷ left → Counted hi ha w → Filled w → Agreed w → MayRead w.initiator
    → measure hi ha (initiator_read w (p ∷ left) at now) + falls w.initiator.facts (incoming_of p) ≤ measure hi ha w
initiator_reading hi ha w p left at now e n fl ag may =
    let m = length hi in
    let k = length ha in
    let a = lift.falls in
    let out = out_behind s.config t.config w.outward (written s (reading p at now)) lift.config in
    let way : weights_out w.acceptor.config w.homeward ≡ weight_in s.config (incoming_of p) + weights_out w.acceptor.config left = ap (λ ps. weights_out w.acceptor.config ps) e ∙ ap (λ v. v + weights_out w.acceptor.config left) (same_weight w.acceptor.config s.config p n.holds.matches.homeward) in
    by_numbers (load_at m k s) (load_at m k t) (weights_out t.config (written s (reading p at now))) (load_at k m w.acceptor) (weights_out s.config w.outward) (weights_out w.acceptor.config left) (weight_in s.config (incoming_of p)) (falls s.facts (incoming_of p))
    (weights_out t.config (w.outward ++ written s (reading p at now))) (weights_out w.acceptor.config w.homeward) a out way
  where
    s : State
    s = w.initiator

    t : State
    t = run s (reading p at now)

    by_numbers : (a b c d e f v k out way : ℕ) → c + b + k ≤ v + a → out ≡ e + c → way ≡ v + f → (b + d) + (out + f) + k ≤ (a + d) + (e + way)
    by_numbers a b c d e f v k out way h g i = omega arith

    sh : Shaking s.config w.acceptor.config s.facts s.ending w.acceptor.facts w.outward (p ∷ left)
    sh = subst (λ (ps : List Piece). Shaking s.config w.acceptor.config s.facts s.ending w.acceptor.facts w.outward ps) e n.holds.shaking

    then_counted : Counted hi ha (initiator_read w (p ∷ left) at now)
    then_counted = subst (λ (ps : List Piece). Counted hi ha (initiator_read w ps at now)) e (counted_step hi ha w (initiator_reads at now) n may)

    rd : Reads s (incoming_of p) (reply_of (around s at now) s.facts (incoming_of p)) t (written s (reading p at now))
    rd = reads_as s p at now

    -- an initiator that closes is deaf: what it asked for stays as it was
    lift : Lifts (length hi) (length ha) s t (written s (reading p at now)) (weight_in s.config (incoming_of p)) (falls s.facts (incoming_of p))
    lift = by_bool _ (is_closing s.facts.connection.phase)
        (λ closing. lifts (length hi) (length ha) s p at now may.0.going (closing_falls (around s at now) (length hi) (length ha) s.facts (incoming_of p) closing))
        (λ yet. honest_lifts (length hi) (length ha) s p at now may.0.going (fl.initiator may.0.going yet) (honest yet)
        (λ none rec. asked_most ha w.acceptor t left (w.outward ++ written s (reading p at now)) then_counted.homeward none
        (ap (λ (f : Facts). is_closing f.connection.phase) rd.facts ∙ (replies_even (around s at now) s.facts (incoming_of p) yet (sym rd.ending ∙ none)).0.opens.closing) rec))
      where
        honest : is_closing s.facts.connection.phase ≡ false → IsHonest (around s at now) s.facts (incoming_of p)
        honest yet =
            let ready : Ready s.config s.facts (p ∷ left) (w.acceptor.facts.recorded.sent + 1) (served w.acceptor.facts.connection.serving) =
            subst (λ (ps : List Piece). Ready s.config s.facts ps (w.acceptor.facts.recorded.sent + 1) (served w.acceptor.facts.connection.serving)) e (n.homeward.goes may.0.going yet).0 in
            by_bool _ (is_shaken s.facts.connection.phase)
            (λ done. flowing_honest (around s at now) s.facts w.acceptor.config p left _ _ done (initiator_flows s.config w.acceptor.config s.facts s.ending w.acceptor.facts w.outward (p ∷ left) sh done).0 ready)
            (λ before. initiator_before (around s at now) w.acceptor.config s.facts s.ending w.acceptor.facts p w.outward left sh may.0.going before (subst (λ (ps : List Piece). AllByRecursion IsNoReject ps) e ag.accepted).0)

acceptor_reading : (hi ha : List Entry) (w : World) (p : Piece) (left : List Piece) (at now : ℕ) → w.outward ≡ p ∷ left → Counted hi ha w → Filled w → MayRead w.acceptor
    → measure hi ha (acceptor_read w (p ∷ left) at now) + falls w.acceptor.facts (incoming_of p) ≤ measure hi ha w
acceptor_reading hi ha w p left at now e n fl may =
    let m = length hi in
    let k = length ha in
    let a = lift.falls in
    let out = out_behind s.config t.config w.homeward (written s (reading p at now)) lift.config in
    let way : weights_out w.initiator.config w.outward ≡ weight_in s.config (incoming_of p) + weights_out w.initiator.config left = ap (λ ps. weights_out w.initiator.config ps) e ∙ ap (λ v. v + weights_out w.initiator.config left) (same_weight w.initiator.config s.config p n.holds.matches.outward) in
    by_numbers (load_at k m s) (load_at k m t) (weights_out t.config (written s (reading p at now))) (load_at m k w.initiator) (weights_out s.config w.homeward) (weights_out w.initiator.config left) (weight_in s.config (incoming_of p)) (falls s.facts (incoming_of p))
    (weights_out t.config (w.homeward ++ written s (reading p at now))) (weights_out w.initiator.config w.outward) a out way
  where
    s : State
    s = w.acceptor

    t : State
    t = run s (reading p at now)

    by_numbers : (a b c d e f v k out way : ℕ) → c + b + k ≤ v + a → out ≡ e + c → way ≡ v + f → (d + b) + (f + out) + k ≤ (d + a) + (way + e)
    by_numbers a b c d e f v k out way h g i = omega arith

    sh : Shaking w.initiator.config s.config w.initiator.facts w.initiator.ending s.facts (p ∷ left) w.homeward
    sh = subst (λ (ps : List Piece). Shaking w.initiator.config s.config w.initiator.facts w.initiator.ending s.facts ps w.homeward) e n.holds.shaking

    yet : is_closing s.facts.connection.phase ≡ false
    yet = (acceptor_phase w.initiator.config s.config w.initiator.facts w.initiator.ending s.facts (p ∷ left) w.homeward sh).1

    ready : Ready s.config s.facts (p ∷ left) (w.initiator.facts.recorded.sent + 1) (served w.initiator.facts.connection.serving)
    ready = subst (λ (ps : List Piece). Ready s.config s.facts ps (w.initiator.facts.recorded.sent + 1) (served w.initiator.facts.connection.serving)) e (n.outward.goes may.0.going yet).0

    honest : IsHonest (around s at now) s.facts (incoming_of p)
    honest = by_bool _ (is_shaken s.facts.connection.phase)
        (λ done. flowing_honest (around s at now) s.facts w.initiator.config p left _ _ done (acceptor_flows w.initiator.config s.config w.initiator.facts w.initiator.ending s.facts (p ∷ left) w.homeward sh done).0 ready)
        (λ before. acceptor_before w.initiator.config (around s at now) w.initiator.facts w.initiator.ending s.facts p left w.homeward sh before)

    then_counted : Counted hi ha (acceptor_read w (p ∷ left) at now)
    then_counted = subst (λ (ps : List Piece). Counted hi ha (acceptor_read w ps at now)) e (counted_step hi ha w (acceptor_reads at now) n may)

    rd : Reads s (incoming_of p) (reply_of (around s at now) s.facts (incoming_of p)) t (written s (reading p at now))
    rd = reads_as s p at now

    lift : Lifts (length ha) (length hi) s t (written s (reading p at now)) (weight_in s.config (incoming_of p)) (falls s.facts (incoming_of p))
    lift = honest_lifts (length ha) (length hi) s p at now may.0.going (fl.acceptor may.0.going) honest
        (λ none rec. asked_most hi w.initiator t left (w.homeward ++ written s (reading p at now)) then_counted.outward none
        (ap (λ (f : Facts). is_closing f.connection.phase) rd.facts ∙ (replies_even (around s at now) s.facts (incoming_of p) yet (sym rd.ending ∙ none)).0.opens.closing) rec)

-- any other call that may come
call_numbers : (m n : ℕ) (s : State) (call : Call) (k : ℕ) → Falls m n s call k → weights_out s.config (writes s call) + load_at m n (step s call) + k ≤ load_at m n s + 0
call_numbers m n s call k h = omega (arith, h)

turn_numbers : (m n : ℕ) (s : State) (now : ℕ) (e : Option Ending) → s.ending ≡ e → (b : Bool) → closes (around s 0 now) s.facts ≡ b
    → weights_out s.config (writes s (turn_done now)) + load_at m n (step s (turn_done now)) + (if is_none e && b then 4 else 0) ≤ load_at m n s + 0
turn_numbers m n s now None going true t = call_numbers m n s (turn_done now) 4 (called.calls_fall.shuts m n s now going t)
turn_numbers m n s now None going false t = call_numbers m n s (turn_done now) 0 (called.calls_fall.ends_turn m n s now)
turn_numbers m n s now (Some x) over b t = call_numbers m n s (turn_done now) 0 (called.calls_fall.ends_turn m n s now)

closed_numbers : (m n : ℕ) (s : State) (last now : ℕ) (e : Option Ending) → s.ending ≡ e → (b : Bool) → tells_finish (around s 0 now) s.facts last ≡ b
    → weights_out s.config (writes s (closed last now)) + load_at m n (step s (closed last now)) + (if is_none e && b then 4 else 0) ≤ load_at m n s + 0
closed_numbers m n s last now None going true t = call_numbers m n s (closed last now) 4 (called.calls_fall.tells m n s last now going t)
closed_numbers m n s last now None going false t = call_numbers m n s (closed last now) 0 (called.calls_fall.finishes m n s last now)
closed_numbers m n s last now (Some x) over b t = call_numbers m n s (closed last now) 0 (called.calls_fall.finishes m n s last now)

tick_numbers : (m n : ℕ) (s : State) (now : ℕ) → weights_out s.config (writes s (tick now)) + load_at m n (step s (tick now)) + 0 ≤ load_at m n s + beats_at s now
tick_numbers m n s now = let h = called.calls_fall.beats m n s now in omega (arith, h)

recoverable_only : (f : Flow) → (is_recoverable f ≡ false → ⊥) → is_idempotent f ≡ false
recoverable_only flows.Recoverable never = refl
recoverable_only flows.Idempotent never = absurd (never refl)
recoverable_only flows.Unsequenced never = refl
recoverable_only flows.None never = refl

call_falls : (h : List Entry) (n : ℕ) (s : State) (call : Call) → IsOther h call → MayStand h s call → HasSome call → s.facts.recorded.sent ≤ length h → (is_recoverable s.config.own_flow ≡ false → s.facts.connection.serving ≡ None)
    → weights_out s.config (writes s call) + load_at (length h) n (step s call) + call_lowers s call ≤ load_at (length h) n s + beat_of s call
call_falls h n s (begin now) other may some sent serves = absurd other
call_falls h n s (frame incoming at now) other may some sent serves = absurd other
call_falls h n s (bad_frame at now) other may some sent serves = absurd other
call_falls h n s (did now) other may some sent serves = absurd other
call_falls h n s (tick now) other may some sent serves = tick_numbers (length h) n s now
call_falls h n s (turn_done now) other may some sent serves = turn_numbers (length h) n s now s.ending refl (closes (around s 0 now) s.facts) refl
call_falls h n s (closed last now) other may some sent serves = closed_numbers (length h) n s last now s.ending refl (tells_finish (around s 0 now) s.facts last) refl
call_falls h n s link_end other may some sent serves = call_numbers (length h) n s link_end 0 (called.calls_fall.cuts (length h) n s)
call_falls h n s (live payloads now) other may some sent serves =
    call_numbers (length h) n s (live payloads now) (4 * length payloads) (called.calls_fall.sends (length h) n s payloads now (is_done s.facts.connection.phase may.comes.established) (entries_reach h s.facts.recorded.sent payloads sent may.comes.entries))
call_falls h n s (again payloads now) other may some sent serves =
    call_numbers (length h) n s (again payloads now) (4 * length payloads) (called.calls_fall.resends (length h) n s may.comes.range payloads now (recoverable_only s.config.own_flow (λ never. absurd (cc (serves never, may.comes.serves)))) may.comes.serves some may.comes.within)
call_falls h n s (taken count) other may some sent serves = call_numbers (length h) n s (taken count) 0 (called.calls_fall.takes (length h) n s count)
call_falls h n s reserve other may some sent serves = call_numbers (length h) n s reserve 0 (called.calls_fall.reserves (length h) n s)
call_falls h n s held_done other may some sent serves = call_numbers (length h) n s held_done 0 (called.calls_fall.holds (length h) n s)

pub steps_fall : StepsFall
steps_fall hi ha w steps known agreed may = record {
  at_initiator = λ p left at now e here. subst (λ (ps : List Piece). measure hi ha (initiator_read v ps at now) + falls v.initiator.facts (incoming_of p) ≤ measure hi ha v) (sym e) (initiator_reading hi ha v p left at now e n fl ag here);
  at_acceptor = λ p left at now e here. subst (λ (ps : List Piece). measure hi ha (acceptor_read v ps at now) + falls v.acceptor.facts (incoming_of p) ≤ measure hi ha v) (sym e) (acceptor_reading hi ha v p left at now e n fl here);
  by_initiator = λ call some here.
      let s = v.initiator in
      let d = does_as hi s call here.0 here.1 n.holds.initiator.serves n.holds.initiator_window.opening in
      let f = call_falls hi (length ha) s call here.0 here.1 some n.outward.sent n.holds.initiator.serves in
      let out = out_behind s.config (step s call).config v.outward (written s (call ∷ [])) d.config in
      let same = ap (λ (c : EndConfig). weights_out c (written s (call ∷ []))) d.config ∙ ap (λ ps. weights_out s.config ps) (append-nil (writes s call)) in
      first_numbers (weights_out s.config (writes s call)) (load_at (length hi) (length ha) (step s call)) (load_at (length hi) (length ha) s) (beat_of s call) (call_lowers s call) (load_at (length ha) (length hi) v.acceptor) (weights_out s.config v.outward) (weights_out v.acceptor.config v.homeward) (weights_out (step s call).config (v.outward ++ written s (call ∷ []))) (weights_out (step s call).config (written s (call ∷ []))) f out same;
  by_acceptor = λ call some here.
      let s = v.acceptor in
      let d = does_as ha s call here.0 here.1 n.holds.acceptor.serves n.holds.acceptor_window.opening in
      let f = call_falls ha (length hi) s call here.0 here.1 some n.homeward.sent n.holds.acceptor.serves in
      let out = out_behind s.config (step s call).config v.homeward (written s (call ∷ [])) d.config in
      let same = ap (λ (c : EndConfig). weights_out c (written s (call ∷ []))) d.config ∙ ap (λ ps. weights_out s.config ps) (append-nil (writes s call)) in
      second_numbers (weights_out s.config (writes s call)) (load_at (length ha) (length hi) (step s call)) (load_at (length ha) (length hi) s) (beat_of s call) (call_lowers s call) (load_at (length hi) (length ha) v.initiator) (weights_out s.config v.homeward) (weights_out v.initiator.config v.outward) (weights_out (step s call).config (v.homeward ++ written s (call ∷ []))) (weights_out (step s call).config (written s (call ∷ []))) f out same;
}
  where
    v : World
    v = world_after w steps

    n : Counted hi ha v
    n = counted_after hi ha w steps (counted_at_first hi ha w known) may

    fl : Filled v
    fl = filled_holds hi ha w steps known may

    ag : Agreed v
    ag = agreed_holds hi ha w steps known.0 agreed may

    first_numbers : (ws b a k l d e f out sw : ℕ) → ws + b + l ≤ a + k → out ≡ e + sw → sw ≡ ws → (b + d) + (out + f) + l ≤ (a + d) + (e + f) + k
    first_numbers ws b a k l d e f out sw h g i = omega arith

    second_numbers : (ws b a k l d e f out sw : ℕ) → ws + b + l ≤ a + k → out ≡ e + sw → sw ≡ ws → (d + b) + (f + out) + l ≤ (d + a) + (f + e) + k
    second_numbers ws b a k l d e f out sw h g i = omega arith

pub meets_fall : MeetsFall
meets_fall hi ha w now_i now_a matches =
    let h = begins_fall (length hi) (length ha) w.initiator w.acceptor now_i now_a (ap (λ r. is_initiator r) matches.initiates) (ap (λ r. is_initiator r) matches.accepts) in omega (arith, h)
