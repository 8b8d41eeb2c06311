-- Two ends that end their connections: each only once both finishes are exchanged, step by step.
use Rattle.std.proofs.Common.{◌≡◌, ◌⊎◌, inl, inr, ℕ, zero, suc, ◌+◌, ◌≤◌, ◌<◌, ◌&&◌, ◌||◌, not, nat_lt, Bool, true, false, if◌then◌else◌, List, [], ◌∷◌, ◌++◌, length, Option, Some, None, refl, sym, ap, subst, ◌∙◌, arith, true≢false, append-nil}
use Rattle.std.specs.Prelude.{is_some, is_none, IsSome}
use Rattle.std.specs.List.{AllByRecursion}
use Rattle.std.proofs.lemmas.Bool.{ltb-true, ltb-false}
use Rattle.session_model.specs.Journal.{Entry}
use Rattle.fixp_msgs.specs.declared.flow.Flow.{Flow}
use Rattle.fixp_msgs.specs.declared.numbering.Range.{Range}
use Rattle.fixp_msgs.specs.Message.{Message, negotiate, negotiation_response, negotiation_reject, establish, establishment_ack, establishment_reject, sequence, unsequenced_heartbeat, retransmit_request, retransmission, retransmit_reject, applied, not_applied, finished_sending, finished_receiving, terminate}
use Rattle.fixp_shake.specs.declared.config.EndConfig.{EndConfig}
use Rattle.fixp_shake.specs.declared.phase.Phase.{Phase}
use Rattle.fixp_shake.specs.declared.phase.Phase.TheVariants as phases
use Rattle.fixp_shake.specs.declared.violation.Violation.{Violation}
use Rattle.fixp_shake.specs.Flows.{is_absent}
use Rattle.fixp_shake.specs.Phases.{is_negotiating, is_establishing, is_established, is_closing, is_shaken}
use Rattle.fixp_replies.specs.declared.act.Ending.{Ending}
use Rattle.fixp_replies.specs.declared.act.Ending.TheVariants as endings
use Rattle.fixp_replies.specs.declared.facts.Facts.{Facts}
use Rattle.fixp_replies.specs.declared.facts.OwnFinish.{OwnFinish}
use Rattle.fixp_replies.specs.declared.facts.OwnFinish.TheVariants as own
use Rattle.fixp_replies.specs.declared.facts.PeerFinish.{PeerFinish}
use Rattle.fixp_replies.specs.declared.facts.PeerFinish.TheVariants as peer
use Rattle.fixp_replies.specs.Facts.{is_initiator, own_is_exchanged, peer_is_exchanged, finishes_exchanged}
use Rattle.fixp_replies.specs.Outcomes.{Outcome}
use Rattle.fixp_replies.specs.Replies.{reply_of}
use Rattle.fixp_machine.specs.Machine.{State, Call, around, step, run}
use Rattle.connection_laws.specs.Writing.{Piece, said, entry, writes}
use Rattle.connection_laws.specs.Standing.{MayStand}
use Rattle.two_ends.specs.Reading.{incoming_of}
use Rattle.two_ends.proofs.Refused.{closing_is_deaf}
use Rattle.honest_ends.specs.PhaseLaws.{IsOfTime, EndsBy}
use Rattle.honest_ends.specs.Worlds.{World, Step, meets, initiator_reads, acceptor_reads, initiator_does, acceptor_does, reading, written, initiator_read, acceptor_read, after, world_after, IsOther, MayRead, MayStep, AllMayStep}
use Rattle.honest_ends.specs.Numbers.{IsFlowing}
use Rattle.honest_ends.proofs.FinishLaws.{only_time_ends}
use Rattle.honest_ends.proofs.Serving.{by_bool}
use Rattle.honest_ends.proofs.Windowing.{stays_shaken}
use Rattle.honest_ends.proofs.Moving.{Reads, reads_as, does_as}
use Rattle.honest_ends.proofs.Phased as phased
use Rattle.honest_ends.proofs.Phased.{Shaking, begun_as, initiator_quiet}
use Rattle.honest_ends.proofs.Standing.{initiator_flows}
use Rattle.honest_ends.proofs.Numbering.{Counted, counted_step, counted_at_first}
use Rattle.drain_laws.specs.Counts.{finish, answer, shutting, among, in_frame, in_piece, under_way, answered_of, told_of, exchanged_of, answered, exchanged, told}
use Rattle.drain_laws.specs.Evens.{Evens, StaysEven}
use Rattle.drain_laws.proofs.Evened.{replies_even}
use Rattle.drain_ends.specs.Closing.{KeepsLink}
use Rattle.drain_ends.specs.Shutting.{IsCall, IsOver}
use Rattle.drain_ends.specs.Standing.{BothGo, Exact, Standing}
use Rattle.drain_ends.proofs.Shut.{said_counts}
use Rattle.drain_ends.proofs.Stood.{way_append, in_so, told_once, acceptor_phase, stays_even, standing_holds}
use Rattle.drain_opening.specs.Opening.{InTime, StepInTime, AllInTime, Opening, Opened}
use Rattle.drain_opening.proofs.Opened.{opening_holds}
use Rattle.drain_finish.specs.Finishing.{GoesOrFinished, EndsFinished}
use Rattle.drain_finish.proofs.Calls.{are_done, call_config, call_ends, call_over, call_keeps, call_stays_over, deaf_silent, over_quiet}
use Rattle.drain_finish.proofs.Ended.{EndsAs, as_finished, as_broken, as_terminated, as_rejected, Ends, reply_ends}

none_is : {A : Type 0} (o : Option A) → is_some o ≡ false → o ≡ None
none_is None e = refl
none_is (Some a) e = absurd (true≢false e)

some_is : {A : Type 0} (o : Option A) → is_some o ≡ true → (a : A) × (o ≡ Some a)
some_is None e = absurd (true≢false (sym e))
some_is (Some a) e = (a, refl)

never_both : {A : Type 0} (o : Option A) {B : Type 0} → o ≡ None → is_some o ≡ true → B
never_both o none some = absurd (true≢false (sym some ∙ ap (λ k. is_some k) none))

-- ---- finishes

answered_once : (q : PeerFinish) → answered_of q ≤ 1
answered_once peer.Open = omega arith
answered_once (peer.Read last) = omega arith
answered_once (peer.Exchanged last) = omega arith

own_counted : (q : OwnFinish) → own_is_exchanged q ≡ true → exchanged_of q ≡ 1
own_counted own.Open e = absurd (true≢false (sym e))
own_counted own.Told e = absurd (true≢false (sym e))
own_counted own.Exchanged e = refl

own_known : (q : OwnFinish) → exchanged_of q ≡ 1 → own_is_exchanged q ≡ true
own_known own.Open e = absurd (omega (arith, e))
own_known own.Told e = absurd (omega (arith, e))
own_known own.Exchanged e = refl

peer_counted : (q : PeerFinish) → peer_is_exchanged q ≡ true → answered_of q ≡ 1
peer_counted peer.Open e = absurd (true≢false (sym e))
peer_counted (peer.Read last) e = absurd (true≢false (sym e))
peer_counted (peer.Exchanged last) e = refl

peer_known : (q : PeerFinish) → answered_of q ≡ 1 → peer_is_exchanged q ≡ true
peer_known peer.Open e = absurd (omega (arith, e))
peer_known (peer.Read last) e = absurd (omega (arith, e))
peer_known (peer.Exchanged last) e = refl

-- both finishes of an end are exchanged, or its flows are absent
done_parts : (s : State) → are_done s ≡ true
    → ((exchanged s.facts ≡ 1) ⊎ (is_absent s.config.own_flow ≡ true)) × ((answered s.facts ≡ 1) ⊎ (is_absent s.config.peer_flow ≡ true))
done_parts s e =
    let two = both (own_is_exchanged s.facts.connection.own_finish || (is_absent s.config.own_flow && is_shaken s.facts.connection.phase)) _ e in (
      one (own_is_exchanged s.facts.connection.own_finish) (is_absent s.config.own_flow) (is_shaken s.facts.connection.phase) (own_counted s.facts.connection.own_finish) two.0,
      one (peer_is_exchanged s.facts.connection.peer_finish) (is_absent s.config.peer_flow) (is_shaken s.facts.connection.phase) (peer_counted s.facts.connection.peer_finish) two.1,
    )
  where
    both : (a b : Bool) → (a && b) ≡ true → (a ≡ true) × (b ≡ true)
    both true b e = (refl, e)
    both false b e = absurd (true≢false (sym e))

    one : {P : Type 0} (a b c : Bool) → (a ≡ true → P) → (a || (b && c)) ≡ true → P ⊎ (b ≡ true)
    one true b c f e = inl (f refl)
    one false true c f e = inr refl
    one false false c f e = absurd (true≢false (sym e))

done_by : (s : State) → is_shaken s.facts.connection.phase ≡ true → (exchanged s.facts ≡ 1) ⊎ (is_absent s.config.own_flow ≡ true) → (answered s.facts ≡ 1) ⊎ (is_absent s.config.peer_flow ≡ true)
    → are_done s ≡ true
done_by s shaken mine theirs =
    both (own_is_exchanged s.facts.connection.own_finish || (is_absent s.config.own_flow && is_shaken s.facts.connection.phase)) _
    (one (own_is_exchanged s.facts.connection.own_finish) (is_absent s.config.own_flow) (is_shaken s.facts.connection.phase) shaken (own_known s.facts.connection.own_finish) mine)
    (one (peer_is_exchanged s.facts.connection.peer_finish) (is_absent s.config.peer_flow) (is_shaken s.facts.connection.phase) shaken (peer_known s.facts.connection.peer_finish) theirs)
  where
    both : (a b : Bool) → a ≡ true → b ≡ true → (a && b) ≡ true
    both true b x y = y
    both false b x y = absurd (true≢false (sym x))

    one : {P : Type 0} (a b c : Bool) → c ≡ true → (P → a ≡ true) → P ⊎ (b ≡ true) → (a || (b && c)) ≡ true
    one true b c z f e = refl
    one false b c z f (inl p) = absurd (true≢false (sym (f p)))
    one false true c z f (inr e) = z
    one false false c z f (inr e) = absurd (true≢false (sym e))

-- ---- what is under way

-- the answer to a finish is among what comes before a Terminate
abbrev AnsweredIn : List Piece → Type 0
AnsweredIn [] = ⊥
AnsweredIn (p ∷ later) = (1 ≤ in_piece answer p) ⊎ ((in_piece shutting p ≡ 0) × AnsweredIn later)

answered_in : (ps : List Piece) → 1 ≤ under_way answer ps → under_way shutting ps ≡ 0 → AnsweredIn ps
answered_in [] one none = omega (arith, one)
answered_in (p ∷ later) one none = by_bool _ (nat_lt 0 (in_piece answer p))
    (λ t. inl (let h = ltb-true 0 (in_piece answer p) t in omega (arith, h)))
    (λ t. inr (omega (arith, none), answered_in later (let h = ltb-false 0 (in_piece answer p) t in omega (arith, one, h)) (omega (arith, none))))

answered_more : (ps qs : List Piece) → AnsweredIn ps → AnsweredIn (ps ++ qs)
answered_more [] qs a = absurd a
answered_more (p ∷ later) qs (inl one) = inl one
answered_more (p ∷ later) qs (inr (none, a)) = inr (none, answered_more later qs a)

-- no message is both
answer_or_shut : (p : Piece) → in_piece answer p + in_piece shutting p ≤ 1
answer_or_shut (entry payload) = omega arith
answer_or_shut (said (negotiate id timestamp flow credentials)) = omega arith
answer_or_shut (said (negotiation_response id timestamp flow credentials)) = omega arith
answer_or_shut (said (negotiation_reject id timestamp code reason)) = omega arith
answer_or_shut (said (establish id timestamp keepalive next expected credentials)) = omega arith
answer_or_shut (said (establishment_ack id timestamp keepalive next expected)) = omega arith
answer_or_shut (said (establishment_reject id timestamp code reason)) = omega arith
answer_or_shut (said (sequence next)) = omega arith
answer_or_shut (said unsequenced_heartbeat) = omega arith
answer_or_shut (said (retransmit_request id timestamp first count)) = omega arith
answer_or_shut (said (retransmission id next timestamp count)) = omega arith
answer_or_shut (said (retransmit_reject id timestamp code reason)) = omega arith
answer_or_shut (said (applied first count)) = omega arith
answer_or_shut (said (not_applied first count)) = omega arith
answer_or_shut (said (finished_sending id last)) = omega arith
answer_or_shut (said (finished_receiving id)) = omega arith
answer_or_shut (said (terminate id code reason)) = omega arith

-- a flow that is absent tells no finish
unfinished_way : (c : EndConfig) (ps : List Piece) → is_absent c.own_flow ≡ true → AllByRecursion (IsFlowing c) ps → under_way finish ps ≡ 0
unfinished_way c [] absent all = refl
unfinished_way c (p ∷ later) absent all = let a = one p all.0 in let b = unfinished_way c later absent all.1 in omega (arith, a, b)
  where
    one : (p : Piece) → IsFlowing c p → in_piece finish p ≡ 0
    one (entry payload) is = refl
    one (said (finished_sending id last)) is = absurd (true≢false (sym absent ∙ is.1))
    one (said (negotiate id timestamp flow credentials)) is = absurd is
    one (said (negotiation_response id timestamp flow credentials)) is = absurd is
    one (said (negotiation_reject id timestamp code reason)) is = absurd is
    one (said (establish id timestamp keepalive next expected credentials)) is = absurd is
    one (said (establishment_ack id timestamp keepalive next expected)) is = absurd is
    one (said (establishment_reject id timestamp code reason)) is = absurd is
    one (said (sequence next)) is = refl
    one (said unsequenced_heartbeat) is = refl
    one (said (retransmit_request id timestamp first count)) is = refl
    one (said (retransmission id next timestamp count)) is = refl
    one (said (retransmit_reject id timestamp code reason)) is = refl
    one (said (applied first count)) is = refl
    one (said (not_applied first count)) is = refl
    one (said (finished_receiving id)) is = refl
    one (said (terminate id code reason)) is = refl

-- ---- an end to which a Terminate is under way

-- both finishes are exchanged at it before it reads that, and no more finishes come to it
record SealedIn (s : State) (way : List Piece) : Type 0 where
  shaken : is_shaken s.facts.connection.phase ≡ true
  theirs : (answered s.facts ≡ 1) ⊎ (is_absent s.config.peer_flow ≡ true)
  mine : ((exchanged s.facts ≡ 1) ⊎ (is_absent s.config.own_flow ≡ true)) ⊎ AnsweredIn way
  none : under_way finish way ≡ 0

-- or it closes its connection itself
abbrev Sealed : State → List Piece → Type 0
Sealed s way = (is_closing s.facts.connection.phase ≡ true) ⊎ SealedIn s way

sealed_more : (s : State) (way out : List Piece) → under_way finish out ≡ 0 → Sealed s way → Sealed s (way ++ out)
sealed_more s way out quiet (inl closing) = inl closing
sealed_more s way out quiet (inr k) = inr (record { shaken = k.shaken; theirs = k.theirs; mine = more k.mine; none = let a = way_append finish way out in let n = k.none in omega (arith, a, n, quiet) })
  where
    more : ((exchanged s.facts ≡ 1) ⊎ (is_absent s.config.own_flow ≡ true)) ⊎ AnsweredIn way → ((exchanged s.facts ≡ 1) ⊎ (is_absent s.config.own_flow ≡ true)) ⊎ AnsweredIn (way ++ out)
    more (inl is) = inl is
    more (inr a) = inr (answered_more way out a)

-- an end: it goes on, or has ended as finished; and where it has ended, or closes its connection, both finishes were exchanged
record Ended (s : State) : Type 0 where
  so : GoesOrFinished s
  done : IsOver s → are_done s ≡ true

-- what an end wrote: a Terminate only where its connection is over; and then the other is sealed
record Sealing (writer reader : State) (way : List Piece) : Type 0 where
  shut : 1 ≤ under_way shutting way → IsOver writer
  sealed : IsOver writer → reader.ending ≡ None → Sealed reader way

record Seals (w : World) : Type 0 where
  initiator : Ended w.initiator
  acceptor : Ended w.acceptor
  outward : Sealing w.initiator w.acceptor w.outward
  homeward : Sealing w.acceptor w.initiator w.homeward

-- of two flows that are exact, an end whose finishes are exchanged has sealed the other
seal_from : (s t : State) (back way : List Piece) → Exact s t back way → Exact t s way back → under_way shutting back ≡ 0 → is_shaken t.facts.connection.phase ≡ true
    → t.config.peer_flow ≡ s.config.own_flow → s.config.peer_flow ≡ t.config.own_flow → (is_absent s.config.own_flow ≡ true → under_way finish back ≡ 0) → are_done s ≡ true → SealedIn t back
seal_from s t back way a b unshut shaken same other absent done =
    let parts = done_parts s done in
    record { shaken = shaken; theirs = theirs parts.0; mine = mine parts.1; none = none parts.0 }
  where
    theirs : (exchanged s.facts ≡ 1) ⊎ (is_absent s.config.own_flow ≡ true) → (answered t.facts ≡ 1) ⊎ (is_absent t.config.peer_flow ≡ true)
    theirs (inl one) = let e = a.exchanged in let l = answered_once t.facts.connection.peer_finish in inl (omega (arith, e, one, l))
    theirs (inr is) = inr (ap (λ (f : Flow). is_absent f) same ∙ is)

    none : (exchanged s.facts ≡ 1) ⊎ (is_absent s.config.own_flow ≡ true) → under_way finish back ≡ 0
    none (inl one) = let e = a.finish in let l = told_once s.facts.connection.own_finish in omega (arith, e, one, l)
    none (inr is) = absent is

    mine : (answered s.facts ≡ 1) ⊎ (is_absent s.config.peer_flow ≡ true) → ((exchanged t.facts ≡ 1) ⊎ (is_absent t.config.own_flow ≡ true)) ⊎ AnsweredIn back
    mine (inl one) = by_bool _ (nat_lt 0 (under_way answer back))
        (λ some. inr (answered_in back (let h = ltb-true 0 (under_way answer back) some in omega (arith, h)) unshut))
        (λ no. inl (inl (let e = b.exchanged in let h = ltb-false 0 (under_way answer back) no in omega (arith, e, one, h))))
    mine (inr is) = inl (inr (sym (ap (λ (f : Flow). is_absent f) other) ∙ is))

-- ---- an end reads

-- s reads p, which t wrote; left is still to be read, and back is what s wrote
module _ (s t : State) (p : Piece) (left back : List Piece) (at now : ℕ) (going : s.ending ≡ None) where
  abbrev then_is : State
  then_is = run s (reading p at now)

  abbrev reply : Outcome
  reply = reply_of (around s at now) s.facts (incoming_of p)

  rd : Reads s (incoming_of p) reply then_is (written s (reading p at now))
  rd = reads_as s p at now

  re : Ends (around s at now) s.facts (in_frame shutting (incoming_of p)) reply
  re = reply_ends (around s at now) s.facts (incoming_of p)

  -- an end that closes looks at nothing but a Terminate
  deaf : is_closing s.facts.connection.phase ≡ true → reply.next ≡ s.facts
  deaf closing = (closing_is_deaf (around s at now) s.facts (incoming_of p) closing).next

  still_closing : is_closing s.facts.connection.phase ≡ true → is_closing then_is.facts.connection.phase ≡ true
  still_closing closing = ap (λ (f : Facts). is_closing f.connection.phase) (rd.facts ∙ deaf closing) ∙ closing

  still_over : IsOver s → IsOver then_is
  still_over (inl ended) = never_both s.ending going ended
  still_over (inr closing) = inr (still_closing closing)

  module _ (ended : Ended s) (in_ : Sealing t s (p ∷ left)) (out_ : Sealing s t back) (times : EndsBy IsOfTime then_is)
      (unrejected : is_some reply.ending ≡ true → (is_negotiating s.facts.connection.phase ≡ true) ⊎ (is_establishing s.facts.connection.phase ≡ true) → ⊥)
      (fresh : is_closing s.facts.connection.phase ≡ false → t.ending ≡ None → is_closing t.facts.connection.phase ≡ false → are_done s ≡ true → SealedIn t back) where
    -- where its connection ends, both finishes were exchanged
    finished_by : (e : Ending) → reply.ending ≡ Some e → EndsAs (around s at now) s.facts (in_frame shutting (incoming_of p)) e → (are_done s ≡ true) × (e ≡ endings.Finished)
    finished_by e is (as_finished done same) = (done, same)
    finished_by e is (as_broken v same other) = absurd (other (times v (rd.ending ∙ (is ∙ ap (λ k. Some k) same))))
    finished_by e is (as_rejected opening) = absurd (unrejected (ap (λ (k : Option Ending). is_some k) is) opening)
    finished_by e is (as_terminated one same) = by_seal (in_.sealed (in_.shut (let n = in_so shutting p in omega (arith, one, n))) going)
      where
        by_seal : Sealed s (p ∷ left) → (are_done s ≡ true) × (e ≡ endings.Finished)
        by_seal (inl closing) = let done = ended.done (inr closing) in (done, same done)
        by_seal (inr k) = by_mine k.mine
          where
            by_mine : ((exchanged s.facts ≡ 1) ⊎ (is_absent s.config.own_flow ≡ true)) ⊎ AnsweredIn (p ∷ left) → (are_done s ≡ true) × (e ≡ endings.Finished)
            by_mine (inl mine) = let done = done_by s k.shaken mine k.theirs in (done, same done)
            by_mine (inr (inl other)) = let n = in_so shutting p in let l = answer_or_shut p in absurd (omega (arith, one, n, l, other))
            by_mine (inr (inr (none, later))) = let n = in_so shutting p in absurd (omega (arith, one, n, none))

    finished : is_some reply.ending ≡ true → (are_done s ≡ true) × (reply.ending ≡ Some endings.Finished)
    finished some =
        let it = some_is reply.ending some in
        let k = finished_by it.0 it.1 (re.so it.0 it.1) in
        (k.0, it.1 ∙ ap (λ (e : Ending). Some e) k.1)

    -- it goes on or has ended as finished
    ended_then : Ended then_is
    ended_then = record {
      so = by_bool _ (is_some reply.ending) (λ some. inr (rd.ending ∙ (finished some).1)) (λ none. inl (rd.ending ∙ none_is reply.ending none));
      done = done_then;
    }
      where
        done_config : are_done then_is ≡ finishes_exchanged (around s at now) then_is.facts
        done_config = ap (λ (c : EndConfig). finishes_exchanged (record { config = c; most = 0; at = 0; moment = 0; held = None }) then_is.facts) rd.config

        done_then : IsOver then_is → are_done then_is ≡ true
        done_then (inl some) = done_config ∙ by_some (sym (ap (λ (e : Option Ending). is_some e) rd.ending) ∙ some)
          where
            by_some : is_some reply.ending ≡ true → finishes_exchanged (around s at now) then_is.facts ≡ true
            by_some some = ap (λ (f : Facts). finishes_exchanged (around s at now) f) rd.facts ∙ ((re.same some).0 ∙ (finished some).0)
        done_then (inr closing) = by_bool _ (is_closing s.facts.connection.phase)
            (λ was. done_config ∙ (ap (λ (f : Facts). finishes_exchanged (around s at now) f) (rd.facts ∙ deaf was) ∙ ended.done (inr was)))
            (λ yet. by_bool _ (is_some reply.ending)
            (λ some. done_config ∙ (ap (λ (f : Facts). finishes_exchanged (around s at now) f) rd.facts ∙ ((re.same some).0 ∙ (finished some).0)))
            (λ none. absurd (true≢false (sym closing ∙ (ap (λ (f : Facts). is_closing f.connection.phase) rd.facts ∙ (replies_even (around s at now) s.facts (incoming_of p) yet (none_is reply.ending none)).0.opens.closing)))))

    -- what it has still to read
    reads_on : Sealing t then_is left
    reads_on = record {
      shut = λ one. in_.shut (omega (arith, one));
      sealed = λ over none. by_bool _ (is_closing s.facts.connection.phase)
          (λ closing. inl (still_closing closing))
          (λ yet. by_seal yet (sym rd.ending ∙ none) (in_.sealed over going));
    }
      where
        by_seal : is_closing s.facts.connection.phase ≡ false → reply.ending ≡ None → Sealed s (p ∷ left) → Sealed then_is left
        by_seal yet none (inl closing) = absurd (true≢false (sym closing ∙ yet))
        by_seal yet none (inr k) = inr (record {
          shaken = ap (λ (f : Facts). is_shaken f.connection.phase) rd.facts ∙ stays_shaken (around s at now) s.facts p k.shaken;
          theirs = theirs k.theirs;
          mine = mine k.mine;
          none = let n = k.none in omega (arith, n);
        })
          where
            ev : Evens (is_initiator s.config.role) s.facts (incoming_of p) reply.next reply.written
            ev = (replies_even (around s at now) s.facts (incoming_of p) yet none).0

            theirs : (answered s.facts ≡ 1) ⊎ (is_absent s.config.peer_flow ≡ true) → (answered then_is.facts ≡ 1) ⊎ (is_absent then_is.config.peer_flow ≡ true)
            theirs (inl one) =
                let n = k.none in
                let c = in_so finish p in
                let e = ev.finishes.answered (omega (arith, one, n, c)) in
                let l = answered_once reply.next.connection.peer_finish in
                let f = ap (λ (f : Facts). answered f) rd.facts in
                inl (omega (arith, one, e, l, f))
            theirs (inr is) = inr (ap (λ (c : EndConfig). is_absent c.peer_flow) rd.config ∙ is)

            read_one : 1 ≤ exchanged s.facts + in_frame answer (incoming_of p) → exchanged then_is.facts ≡ 1
            read_one one =
                let e = ev.finishes.exchanged in
                let l = told_once reply.next.connection.own_finish in
                let f = ap (λ (f : Facts). exchanged f) rd.facts in
                omega (arith, one, e, l, f)

            mine : ((exchanged s.facts ≡ 1) ⊎ (is_absent s.config.own_flow ≡ true)) ⊎ AnsweredIn (p ∷ left) → ((exchanged then_is.facts ≡ 1) ⊎ (is_absent then_is.config.own_flow ≡ true)) ⊎ AnsweredIn left
            mine (inl (inl one)) = inl (inl (read_one (omega (arith, one))))
            mine (inl (inr is)) = inl (inr (ap (λ (c : EndConfig). is_absent c.own_flow) rd.config ∙ is))
            mine (inr (inl one)) = inl (inl (read_one (let n = in_so answer p in omega (arith, one, n))))
            mine (inr (inr (none, later))) = inr later

    -- and what it has written
    writes_on : Sealing then_is t (back ++ written s (reading p at now))
    writes_on = record { shut = shut; sealed = sealed }
      where
        out : List Piece
        out = written s (reading p at now)

        counts : (kind : Message → ℕ) → under_way kind out ≡ among kind reply.written
        counts kind = ap (λ (ps : List Piece). under_way kind ps) rd.writes ∙ said_counts kind reply.written

        ends_it : is_some reply.ending ≡ true → IsOver then_is
        ends_it some = inl (ap (λ (e : Option Ending). is_some e) rd.ending ∙ some)

        by_count : (n : ℕ) → under_way shutting back ≡ n → 1 ≤ under_way shutting (back ++ out) → IsOver then_is
        by_count (suc n) is one = still_over (out_.shut (omega (arith, is)))
        by_count zero is one = by_bool _ (is_some reply.ending) ends_it (λ none. by_bool _ (is_closing s.facts.connection.phase)
            (λ closing. inr (still_closing closing))
            (λ yet.
            let e = (replies_even (around s at now) s.facts (incoming_of p) yet (none_is reply.ending none)).0.opens.shuts in
            let a = way_append shutting back out in
            let c = counts shutting in
            absurd (omega (arith, one, is, e, a, c))))

        shut : 1 ≤ under_way shutting (back ++ out) → IsOver then_is
        shut one = by_count (under_way shutting back) refl one

        -- no finish is written by an end whose connection is over then
        quiet : IsOver then_is → under_way finish out ≡ 0
        quiet over = counts finish ∙ by_bool _ (is_some reply.ending) (λ some. re.quiet some) (λ none. by_bool _ (is_closing s.facts.connection.phase)
            (λ closing. deaf_quiet closing none)
            (λ yet. (replies_even (around s at now) s.facts (incoming_of p) yet (none_is reply.ending none)).0.finishes.quiet))
          where
            deaf_quiet : is_closing s.facts.connection.phase ≡ true → is_some reply.ending ≡ false → among finish reply.written ≡ 0
            deaf_quiet closing none = deaf_silent (around s at now) s.facts (incoming_of p) closing

        sealed : IsOver then_is → t.ending ≡ None → Sealed t (back ++ out)
        sealed over none = by_bool _ (is_closing s.facts.connection.phase)
            (λ closing. sealed_more t back out (quiet over) (out_.sealed (inr closing) none))
            (λ yet. by_bool _ (is_closing t.facts.connection.phase) (λ closing. inl closing)
            (λ unclosed. sealed_more t back out (quiet over) (inr (fresh yet none unclosed (done_of yet over)))))
          where
            done_of : is_closing s.facts.connection.phase ≡ false → IsOver then_is → are_done s ≡ true
            done_of yet over = by_bool _ (is_some reply.ending) (λ some. (finished some).0) (λ none. absurd (goes_on_then yet none over))
              where
                goes_on_then : is_closing s.facts.connection.phase ≡ false → is_some reply.ending ≡ false → IsOver then_is → ⊥
                goes_on_then yet none (inl some) = true≢false (sym some ∙ (ap (λ (e : Option Ending). is_some e) rd.ending ∙ none))
                goes_on_then yet none (inr closing) =
                    true≢false (sym closing ∙ (ap (λ (f : Facts). is_closing f.connection.phase) rd.facts ∙ (replies_even (around s at now) s.facts (incoming_of p) yet (none_is reply.ending none)).0.opens.closing))

-- ---- another call of an end

module _ (h : List Entry) (s t : State) (call : Call) (back way : List Piece) (other : IsOther h call) (may : MayStand h s call) (is : IsCall call) (timely : InTime s call) where
  abbrev called : State
  called = step s call

  abbrev wrote_then : List Piece
  wrote_then = written s (call ∷ [])

  out_is : wrote_then ≡ writes s call
  out_is = append-nil (writes s call)

  module _ (ended : Ended s) (in_ : Sealing t s way) (out_ : Sealing s t back)
      (fresh : s.ending ≡ None → is_closing s.facts.connection.phase ≡ false → t.ending ≡ None → is_closing t.facts.connection.phase ≡ false → are_done s ≡ true → SealedIn t back) where
    ended_called : Ended called
    ended_called = record {
      so = by_so ended.so;
      done = λ over. by_over (call_over s call is timely over);
    }
      where
        by_so : GoesOrFinished s → GoesOrFinished called
        by_so (inl none) = inl (call_ends s call is timely ∙ none)
        by_so (inr finished) = inr (call_ends s call is timely ∙ finished)

        by_over : IsOver s ⊎ (are_done s ≡ true) → are_done called ≡ true
        by_over (inl over) = call_keeps s call is timely (ended.done over)
        by_over (inr done) = call_keeps s call is timely done

    -- a call behind which its connection goes on
    even : called.ending ≡ None → is_closing called.facts.connection.phase ≡ false → StaysEven s called wrote_then
    even none yet = stays_even h s call other none yet

    called_reads : Sealing t called way
    called_reads = record {
      shut = in_.shut;
      sealed = λ over none. by_bool _ (is_closing called.facts.connection.phase) (λ closing. inl closing)
          (λ yet. by_seal yet none (in_.sealed over (sym (call_ends s call is timely) ∙ none)));
    }
      where
        by_seal : is_closing called.facts.connection.phase ≡ false → called.ending ≡ None → Sealed s way → Sealed called way
        by_seal yet none (inl closing) = absurd (true≢false (sym closing ∙ (ap (λ (p : Phase). is_closing p) (sym (even none yet).phase) ∙ yet)))
        by_seal yet none (inr k) =
            let e = even none yet in
            inr (record {
              shaken = ap (λ (p : Phase). is_shaken p) e.phase ∙ k.shaken;
              theirs = theirs e k.theirs;
              mine = mine e k.mine;
              none = k.none;
            })
          where
            config : called.config ≡ s.config
            config = call_config s call is timely

            theirs : StaysEven s called wrote_then → (answered s.facts ≡ 1) ⊎ (is_absent s.config.peer_flow ≡ true) → (answered called.facts ≡ 1) ⊎ (is_absent called.config.peer_flow ≡ true)
            theirs e (inl one) = inl (ap answered_of e.theirs ∙ one)
            theirs e (inr is) = inr (ap (λ (c : EndConfig). is_absent c.peer_flow) config ∙ is)

            mine : StaysEven s called wrote_then → ((exchanged s.facts ≡ 1) ⊎ (is_absent s.config.own_flow ≡ true)) ⊎ AnsweredIn way → ((exchanged called.facts ≡ 1) ⊎ (is_absent called.config.own_flow ≡ true)) ⊎ AnsweredIn way
            mine e (inl (inl one)) = inl (inl (e.exchanged ∙ one))
            mine e (inl (inr is)) = inl (inr (ap (λ (c : EndConfig). is_absent c.own_flow) config ∙ is))
            mine e (inr a) = inr a

    called_writes : Sealing called t (back ++ wrote_then)
    called_writes = record { shut = shut; sealed = sealed }
      where
        by_count : (n : ℕ) → under_way shutting back ≡ n → 1 ≤ under_way shutting (back ++ wrote_then) → IsOver called
        by_count (suc n) is_n one = call_stays_over s call is timely (out_.shut (omega (arith, is_n)))
        by_count zero is_n one = by_bool _ (is_some called.ending) (λ some. inl some) (λ none. by_bool _ (is_closing called.facts.connection.phase) (λ closing. inr closing)
            (λ yet.
            let e = (even (none_is called.ending none) yet).closings in
            let a = way_append shutting back wrote_then in
            absurd (omega (arith, one, is_n, e, a))))

        shut : 1 ≤ under_way shutting (back ++ wrote_then) → IsOver called
        shut one = by_count (under_way shutting back) refl one

        quiet : IsOver called → under_way finish wrote_then ≡ 0
        quiet over = ap (λ (ps : List Piece). under_way finish ps) out_is ∙ over_quiet s call is timely over

        sealed : IsOver called → t.ending ≡ None → Sealed t (back ++ wrote_then)
        sealed over none = by_bool _ (is_some s.ending)
            (λ some. sealed_more t back wrote_then (quiet over) (out_.sealed (inl some) none))
            (λ going. by_bool _ (is_closing s.facts.connection.phase)
            (λ closing. sealed_more t back wrote_then (quiet over) (out_.sealed (inr closing) none))
            (λ yet. by_bool _ (is_closing t.facts.connection.phase) (λ closing. inl closing)
            (λ unclosed. sealed_more t back wrote_then (quiet over) (inr (fresh (none_is s.ending going) yet none unclosed (done_of going yet (call_over s call is timely over)))))))
          where
            done_of : is_some s.ending ≡ false → is_closing s.facts.connection.phase ≡ false → IsOver s ⊎ (are_done s ≡ true) → are_done s ≡ true
            done_of going yet (inl (inl some)) = absurd (true≢false (sym some ∙ going))
            done_of going yet (inl (inr closing)) = absurd (true≢false (sym closing ∙ yet))
            done_of going yet (inr done) = done

-- ---- both ends

-- what is known of each world to which steps lead
record Known (hi ha : List Entry) (w : World) : Type 0 where
  counted : Counted hi ha w
  times : EndsBy IsOfTime w.initiator × EndsBy IsOfTime w.acceptor
  standing : BothGo w → Standing w
  opening : ((left : ℕ) × Opening w left) ⊎ Opened w
  sends : is_absent w.initiator.config.own_flow ≡ false

module _ (hi ha : List Entry) (w : World) (k : Known hi ha w) where
  shaking : Shaking w.initiator.config w.acceptor.config w.initiator.facts w.initiator.ending w.acceptor.facts w.outward w.homeward
  shaking = k.counted.holds.shaking

  -- an acceptor waits for its client, or is established
  accepts : ((is_negotiating w.acceptor.facts.connection.phase || is_establishing w.acceptor.facts.connection.phase) ≡ false) × (is_closing w.acceptor.facts.connection.phase ≡ false)
  accepts = acceptor_phase w.initiator.config w.acceptor.config w.initiator.facts w.initiator.ending w.acceptor.facts w.outward w.homeward shaking

  -- where the initiator's handshake is done so is the acceptor's
  accepted : (p : Shaking w.initiator.config w.acceptor.config w.initiator.facts w.initiator.ending w.acceptor.facts w.outward w.homeward) → is_shaken w.initiator.facts.connection.phase ≡ true
      → is_shaken w.acceptor.facts.connection.phase ≡ true
  accepted (phased.opens before qi idle qa one free) done = absurd (true≢false (sym done ∙ before))
  accepted (phased.answering before qi idle qa free one) done = absurd (true≢false (sym done ∙ before))
  accepted (phased.acknowledging e qi est free first) done = absurd (true≢false (sym done ∙ ap (λ p. is_shaken p) e))
  accepted (phased.standing shaken est out home) done = ap (λ p. is_shaken p) est
  accepted (phased.refusing ended before qi est free) done = absurd (true≢false (sym done ∙ before))

  -- before its handshake is done an initiator has told no finish
  untold : is_shaken w.initiator.facts.connection.phase ≡ false → w.initiator.facts.connection.own_finish ≡ own.Open
  untold before = (initiator_quiet w.initiator.config w.acceptor.config w.initiator.facts w.initiator.ending w.acceptor.facts w.outward w.homeward shaking before).untold

  -- where both go on: the initiator's finishes are exchanged, or the acceptor's
  module _ (go : BothGo w) where
    st : Standing w
    st = k.standing go

    present : {P : Type 0} → (exchanged w.initiator.facts ≡ 1) ⊎ (is_absent w.initiator.config.own_flow ≡ true) → (exchanged w.initiator.facts ≡ 1 → P) → P
    present (inl one) f = f one
    present (inr absent) f = absurd (true≢false (sym absent ∙ k.sends))

    initiator_seals : are_done w.initiator ≡ true → SealedIn w.acceptor w.outward
    initiator_seals done = by_bool _ (is_shaken w.initiator.facts.connection.phase)
        (λ shaken. seal_from w.initiator w.acceptor w.outward w.homeward st.outward st.homeward st.shuts.0 (accepted shaking shaken) k.counted.holds.matches.outward k.counted.holds.matches.homeward
        (λ absent. absurd (true≢false (sym absent ∙ k.sends))) done)
        (λ before. present (done_parts w.initiator done).0 (λ one. let z = ap exchanged_of (untold before) in absurd (omega (arith, one, z))))

    acceptor_seals : are_done w.acceptor ≡ true → SealedIn w.initiator w.homeward
    acceptor_seals done = by_bool _ (is_shaken w.initiator.facts.connection.phase)
        (λ shaken. seal_from w.acceptor w.initiator w.homeward w.outward st.homeward st.outward st.shuts.1 shaken k.counted.holds.matches.homeward k.counted.holds.matches.outward
        (λ absent. unfinished_way w.acceptor.config w.homeward absent
        (initiator_flows w.initiator.config w.acceptor.config w.initiator.facts w.initiator.ending w.acceptor.facts w.outward w.homeward shaking shaken)) done)
        (λ before. by_theirs before (done_parts w.acceptor done).1)
      where
        by_theirs : is_shaken w.initiator.facts.connection.phase ≡ false → (answered w.acceptor.facts ≡ 1) ⊎ (is_absent w.acceptor.config.peer_flow ≡ true) → SealedIn w.initiator w.homeward
        by_theirs before (inl one) =
            let z = ap told_of (untold before) in
            let y = ap exchanged_of (untold before) in
            let a = st.outward.finish in
            let b = st.outward.exchanged in
            absurd (omega (arith, one, z, y, a, b))
        by_theirs before (inr absent) = absurd (true≢false (sym absent ∙ (ap (λ (f : Flow). is_absent f) k.counted.holds.matches.outward ∙ k.sends)))

    -- nothing is over then
    seals_going : Seals w
    seals_going = record {
      initiator = record { so = inl go.initiator; done = λ over. absurd (none_i over) };
      acceptor = record { so = inl go.acceptor; done = λ over. absurd (none_a over) };
      outward = record { shut = λ one. let z = st.shuts.0 in absurd (omega (arith, one, z)); sealed = λ over. absurd (none_i over) };
      homeward = record { shut = λ one. let z = st.shuts.1 in absurd (omega (arith, one, z)); sealed = λ over. absurd (none_a over) };
    }
      where
        none_i : IsOver w.initiator → ⊥
        none_i (inl some) = never_both w.initiator.ending go.initiator some
        none_i (inr closing) = true≢false (sym closing ∙ go.yet)

        none_a : IsOver w.acceptor → ⊥
        none_a (inl some) = never_both w.acceptor.ending go.acceptor some
        none_a (inr closing) = true≢false (sym closing ∙ accepts.1)

  -- before the handshake is done both go on
  opening_goes : (left : ℕ) → Opening w left → BothGo w
  opening_goes left o = record { initiator = o.initiator; acceptor = o.acceptor; yet = shaken_first (is_established w.initiator.facts.connection.phase) (is_closing w.initiator.facts.connection.phase) o.unshaken }
    where
      shaken_first : (a b : Bool) → (a || b) ≡ false → b ≡ false
      shaken_first true b e = absurd (true≢false e)
      shaken_first false b e = e

-- one step
module _ (hi ha : List Entry) (w : World) (k : Known hi ha w) (b : Seals w) where
  initiator_reading : (way : List Piece) (at now : ℕ) → w.homeward ≡ way → MayRead w.initiator → Known hi ha (initiator_read w way at now) → Seals (initiator_read w way at now)
  initiator_reading [] at now e may then_ = b
  initiator_reading (p ∷ left) at now e may then_ =
      let s = w.initiator in
      let in_ : Sealing w.acceptor s (p ∷ left) = subst (λ (ps : List Piece). Sealing w.acceptor s ps) e b.homeward in
      let fresh : is_closing s.facts.connection.phase ≡ false → w.acceptor.ending ≡ None → is_closing w.acceptor.facts.connection.phase ≡ false → are_done s ≡ true → SealedIn w.acceptor w.outward
      = λ yet none unclosed done. initiator_seals hi ha w k (record { initiator = may.0.going; acceptor = none; yet = yet }) done in
      record {
        initiator = ended_then s w.acceptor p left w.outward at now may.0.going b.initiator in_ b.outward then_.times.0 unrejected fresh;
        acceptor = b.acceptor;
        outward = writes_on s w.acceptor p left w.outward at now may.0.going b.initiator in_ b.outward then_.times.0 unrejected fresh;
        homeward = reads_on s w.acceptor p left w.outward at now may.0.going b.initiator in_ b.outward then_.times.0 unrejected fresh;
      }
    where
      o : Outcome
      o = reply_of (around w.initiator at now) w.initiator.facts (incoming_of p)

      v : World
      v = initiator_read w (p ∷ left) at now

      r : Reads w.initiator (incoming_of p) o v.initiator (written w.initiator (reading p at now))
      r = reads_as w.initiator p at now

      unshaken_is : (q : Phase) → (is_negotiating q ≡ true) ⊎ (is_establishing q ≡ true) → is_shaken q ≡ false
      unshaken_is phases.Idle x = refl
      unshaken_is phases.Negotiating x = refl
      unshaken_is phases.Establishing x = refl
      unshaken_is phases.Established (inl x) = absurd (true≢false (sym x))
      unshaken_is phases.Established (inr x) = absurd (true≢false (sym x))
      unshaken_is phases.Closing (inl x) = absurd (true≢false (sym x))
      unshaken_is phases.Closing (inr x) = absurd (true≢false (sym x))
      unshaken_is phases.Ended x = refl

      -- a connection does not end in the midst of the handshake
      unrejected : is_some o.ending ≡ true → (is_negotiating w.initiator.facts.connection.phase ≡ true) ⊎ (is_establishing w.initiator.facts.connection.phase ≡ true) → ⊥
      unrejected some phase = by_opening then_.opening
        where
          by_opening : ((l : ℕ) × Opening v l) ⊎ Opened v → ⊥
          by_opening (inl x) = never_both v.initiator.ending x.1.initiator (ap (λ (e : Option Ending). is_some e) r.ending ∙ some)
          by_opening (inr x) =
              true≢false (sym x.initiator ∙ (ap (λ (f : Facts). is_shaken f.connection.phase) r.facts
              ∙ (ap (λ (q : Phase). is_shaken q) ((reply_ends (around w.initiator at now) w.initiator.facts (incoming_of p)).same some).1 ∙ unshaken_is w.initiator.facts.connection.phase phase)))

  acceptor_reading : (way : List Piece) (at now : ℕ) → w.outward ≡ way → MayRead w.acceptor → Known hi ha (acceptor_read w way at now) → Seals (acceptor_read w way at now)
  acceptor_reading [] at now e may then_ = b
  acceptor_reading (p ∷ left) at now e may then_ =
      let s = w.acceptor in
      let in_ : Sealing w.initiator s (p ∷ left) = subst (λ (ps : List Piece). Sealing w.initiator s ps) e b.outward in
      let fresh : is_closing s.facts.connection.phase ≡ false → w.initiator.ending ≡ None → is_closing w.initiator.facts.connection.phase ≡ false → are_done s ≡ true → SealedIn w.initiator w.homeward
      = λ yet none unclosed done. acceptor_seals hi ha w k (record { initiator = none; acceptor = may.0.going; yet = unclosed }) done in
      record {
        initiator = b.initiator;
        acceptor = ended_then s w.initiator p left w.homeward at now may.0.going b.acceptor in_ b.homeward then_.times.1 unrejected fresh;
        outward = reads_on s w.initiator p left w.homeward at now may.0.going b.acceptor in_ b.homeward then_.times.1 unrejected fresh;
        homeward = writes_on s w.initiator p left w.homeward at now may.0.going b.acceptor in_ b.homeward then_.times.1 unrejected fresh;
      }
    where
      unrejected : is_some (reply_of (around w.acceptor at now) w.acceptor.facts (incoming_of p)).ending ≡ true
          → (is_negotiating w.acceptor.facts.connection.phase ≡ true) ⊎ (is_establishing w.acceptor.facts.connection.phase ≡ true) → ⊥
      unrejected some phase = neither (is_negotiating w.acceptor.facts.connection.phase) (is_establishing w.acceptor.facts.connection.phase) (accepts hi ha w k).0 phase
        where
          neither : (a b : Bool) → (a || b) ≡ false → (a ≡ true) ⊎ (b ≡ true) → ⊥
          neither true b e x = true≢false e
          neither false true e x = true≢false e
          neither false false e (inl x) = true≢false (sym x)
          neither false false e (inr x) = true≢false (sym x)

  seals_step : (step : Step) → MayStep hi ha w step → KeepsLink step → StepInTime w step → Known hi ha (after w step) → Seals (after w step)
  seals_step (meets now_i now_a) may keeps timely then_ = absurd keeps
  seals_step (initiator_reads at now) may keeps timely then_ = initiator_reading w.homeward at now refl may then_
  seals_step (acceptor_reads at now) may keeps timely then_ = acceptor_reading w.outward at now refl may then_
  seals_step (initiator_does call) may keeps timely then_ =
      let fresh = λ (going : w.initiator.ending ≡ None) (yet : is_closing w.initiator.facts.connection.phase ≡ false) (none : w.acceptor.ending ≡ None) (unclosed : is_closing w.acceptor.facts.connection.phase ≡ false) (done : are_done w.initiator ≡ true).
      initiator_seals hi ha w k (record { initiator = going; acceptor = none; yet = yet }) done in
      record {
        initiator = ended_called hi w.initiator w.acceptor call w.outward w.homeward may.0 may.1 keeps timely b.initiator b.homeward b.outward fresh;
        acceptor = b.acceptor;
        outward = called_writes hi w.initiator w.acceptor call w.outward w.homeward may.0 may.1 keeps timely b.initiator b.homeward b.outward fresh;
        homeward = called_reads hi w.initiator w.acceptor call w.outward w.homeward may.0 may.1 keeps timely b.initiator b.homeward b.outward fresh;
      }
  seals_step (acceptor_does call) may keeps timely then_ =
      let fresh = λ (going : w.acceptor.ending ≡ None) (yet : is_closing w.acceptor.facts.connection.phase ≡ false) (none : w.initiator.ending ≡ None) (unclosed : is_closing w.initiator.facts.connection.phase ≡ false) (done : are_done w.acceptor ≡ true).
      acceptor_seals hi ha w k (record { initiator = none; acceptor = going; yet = unclosed }) done in
      record {
        initiator = b.initiator;
        acceptor = ended_called ha w.acceptor w.initiator call w.homeward w.outward may.0 may.1 keeps timely b.acceptor b.outward b.homeward fresh;
        outward = called_reads ha w.acceptor w.initiator call w.homeward w.outward may.0 may.1 keeps timely b.acceptor b.outward b.homeward fresh;
        homeward = called_writes ha w.acceptor w.initiator call w.homeward w.outward may.0 may.1 keeps timely b.acceptor b.outward b.homeward fresh;
      }

-- each world to which steps in time lead from here is known
abbrev Knowns : List Entry → List Entry → World → Type 0
Knowns hi ha w = (steps : List Step) → AllMayStep hi ha w steps → AllByRecursion KeepsLink steps → AllInTime w steps → Known hi ha (world_after w steps)

seals_along : (hi ha : List Entry) (w : World) (steps : List Step) → Seals w → Knowns hi ha w → AllMayStep hi ha w steps → AllByRecursion KeepsLink steps → AllInTime w steps → Seals (world_after w steps)
seals_along hi ha w [] b knowns may keeps timely = b
seals_along hi ha w (s ∷ later) b knowns may keeps timely =
    seals_along hi ha (after w s) later (seals_step hi ha w (knowns [] tt tt tt) b s may.0 keeps.0 timely.0 (knowns (s ∷ []) (may.0, tt) (keeps.0, tt) (timely.0, tt)))
    (λ steps more keeps' timely'. knowns (s ∷ steps) (may.0, more) (keeps.0, keeps') (timely.0, timely')) may.1 keeps.1 timely.1

counted_after : (hi ha : List Entry) (w : World) (steps : List Step) → Counted hi ha w → AllMayStep hi ha w steps → Counted hi ha (world_after w steps)
counted_after hi ha w [] n may = n
counted_after hi ha w (s ∷ later) n may = counted_after hi ha (after w s) later (counted_step hi ha w s n may.0) may.1

-- no step changes a configuration
sends_step : (hi ha : List Entry) (w : World) (s : Step) → Counted hi ha w → MayStep hi ha w s → is_absent w.initiator.config.own_flow ≡ false → is_absent (after w s).initiator.config.own_flow ≡ false
sends_step hi ha w (meets now_i now_a) n may sends = sends
sends_step hi ha w (initiator_reads at now) n may sends = by_way w.homeward
  where
    by_way : (way : List Piece) → is_absent (initiator_read w way at now).initiator.config.own_flow ≡ false
    by_way [] = sends
    by_way (p ∷ left) = ap (λ (c : EndConfig). is_absent c.own_flow) (reads_as w.initiator p at now).config ∙ sends
sends_step hi ha w (acceptor_reads at now) n may sends = by_way w.outward
  where
    by_way : (way : List Piece) → is_absent (acceptor_read w way at now).initiator.config.own_flow ≡ false
    by_way [] = sends
    by_way (p ∷ left) = sends
sends_step hi ha w (initiator_does call) n may sends =
    ap (λ (c : EndConfig). is_absent c.own_flow) (does_as hi w.initiator call may.0 may.1 n.holds.initiator.serves n.holds.initiator_window.opening).config ∙ sends
sends_step hi ha w (acceptor_does call) n may sends = sends

sends_after : (hi ha : List Entry) (w : World) (steps : List Step) → Counted hi ha w → AllMayStep hi ha w steps → is_absent w.initiator.config.own_flow ≡ false → is_absent (world_after w steps).initiator.config.own_flow ≡ false
sends_after hi ha w [] n may sends = sends
sends_after hi ha w (s ∷ later) n may sends = sends_after hi ha (after w s) later (counted_step hi ha w s n may.0) may.1 (sends_step hi ha w s n may.0 sends)

pub ends_finished : EndsFinished
ends_finished hi ha w now_i now_a later known agreed sends may keeps timely =
    let b = seals_along hi ha v later first knowns may.1 keeps timely in
    (b.initiator.so, b.acceptor.so)
  where
    v : World
    v = after w (meets now_i now_a)

    n : Counted hi ha w
    n = counted_at_first hi ha w known

    knowns : Knowns hi ha v
    knowns steps more keeps timely =
        let all : AllMayStep hi ha w (meets now_i now_a ∷ steps) = (tt, more) in
        record {
          counted = counted_after hi ha w (meets now_i now_a ∷ steps) n all;
          times = only_time_ends hi ha w (meets now_i now_a ∷ steps) known all;
          standing = λ go. standing_holds hi ha w (meets now_i now_a ∷ steps) known all go;
          opening = by_opening (opening_holds hi ha w now_i now_a steps known agreed all keeps timely);
          sends = sends_after hi ha w (meets now_i now_a ∷ steps) n all sends;
        }
      where
        by_opening : {B C : ℕ → Type 0} {D : Type 0} → ((left : ℕ) × B left × C left) ⊎ D → ((left : ℕ) × B left) ⊎ D
        by_opening (inl x) = inl (x.0, x.1)
        by_opening (inr d) = inr d

    -- a connection that begins has no handshake behind it
    begun_unshaken : is_shaken v.initiator.facts.connection.phase ≡ false
    begun_unshaken = by_case (is_initiator w.initiator.config.role) w.initiator.facts.recorded.negotiated
      where
        by_case : (i n : Bool) → is_shaken (begun_as (around w.initiator 0 now_i) w.initiator.facts.recorded i n).next.connection.phase ≡ false
        by_case true true = refl
        by_case true false = refl
        by_case false n = refl

    first : Seals v
    first = by_opening (knowns [] tt tt tt).opening
      where
        by_opening : ((left : ℕ) × Opening v left) ⊎ Opened v → Seals v
        by_opening (inl x) = seals_going hi ha v (knowns [] tt tt tt) (opening_goes hi ha v (knowns [] tt tt tt) x.0 x.1)
        by_opening (inr o) = absurd (true≢false (sym o.initiator ∙ begun_unshaken))
