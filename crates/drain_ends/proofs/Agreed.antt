-- What two ends know of the negotiation, over any steps.
use Rattle.std.proofs.Common.{◌≡◌, ◌⊎◌, inl, inr, ℕ, ◌&&◌, not, Bool, true, false, if◌then◌else◌, List, [], ◌∷◌, Option, Some, None, refl, sym, ap, subst, ◌∙◌, arith, true≢false}
use Rattle.std.specs.Prelude.{is_some}
use Rattle.std.specs.List.{AllByRecursion}
use Rattle.std.proofs.lemmas.Slice.Eq.{bytes_eq-Decides}
use Rattle.session_model.specs.Journal.{Entry}
use Rattle.session_model.specs.Inbox.{Numbered as Held}
use Rattle.session_model.proofs.Lists.{all_append, all_weaker}
use Rattle.fixp_msgs.specs.declared.numbering.Range.{Range}
use Rattle.fixp_msgs.specs.Message.{Message, negotiate, negotiation_response, negotiation_reject, establish, establishment_ack, establishment_reject, sequence, unsequenced_heartbeat, retransmit_request, retransmission, retransmit_reject, applied, not_applied, finished_sending, finished_receiving, terminate}
use Rattle.flow_idem.specs.Runs.{runs_of}
use Rattle.fixp_shake.specs.declared.config.Role.{Role}
use Rattle.fixp_shake.specs.declared.config.EndConfig.{EndConfig}
use Rattle.fixp_shake.specs.declared.phase.Phase.{Phase}
use Rattle.fixp_shake.specs.declared.phase.Phase.TheVariants as phases
use Rattle.fixp_shake.specs.declared.violation.Violation.{Violation}
use Rattle.fixp_shake.specs.Phases.{is_idle, is_shaken}
use Rattle.fixp_replies.specs.declared.act.Ending.{Ending}
use Rattle.fixp_replies.specs.declared.facts.EndState.{EndState}
use Rattle.fixp_replies.specs.declared.facts.Facts.{Facts}
use Rattle.fixp_replies.specs.Events.{Made, begun, heartbeats, lateness, closes, turn_ended, outbox_finished, tells_finish, finish_told, link_ending}
use Rattle.fixp_replies.specs.Facts.{Around, is_initiator}
use Rattle.fixp_replies.specs.Outcomes.{Outcome}
use Rattle.fixp_replies.specs.Replies.{reply_of}
use Rattle.fixp_machine.specs.Machine.{State, Call, begin, frame, bad_frame, did, tick, turn_done, closed, link_end, live, again, taken, reserve, held_done, around, bytes_of, wrote, made, broken_by, served_again, run, step, held_applied, front_of}
use Rattle.connection_laws.specs.Writing.{Piece, said, entry, said_all}
use Rattle.connection_laws.specs.Standing.{MayStand}
use Rattle.two_ends.specs.Reading.{incoming_of}
use Rattle.honest_ends.specs.Worlds.{World, Step, meets, initiator_reads, acceptor_reads, initiator_does, acceptor_does, reading, written, initiator_read, acceptor_read, after, world_after, IsOther, MayStep, AllMayStep, Match}
use Rattle.honest_ends.specs.Numbers.{IsFlowing}
use Rattle.honest_ends.proofs.Serving.{by_bool}
use Rattle.honest_ends.proofs.Shapes.{IsAsk, all_free_flow}
use Rattle.honest_ends.proofs.Moving.{Reads, reads_as, Does, does_as, turned, told}
use Rattle.honest_ends.proofs.PhaseOpening.{Quiet}
use Rattle.honest_ends.proofs.Phased as phased
use Rattle.honest_ends.proofs.Phased.{Shaking, Holds, holds_step, holds_at_first, initiator_quiet, acceptor_quiet, begun_as}
use Rattle.drain_laws.specs.Negotiating.{VouchedIn, NoReject, IsGood, Says, Negotiates}
use Rattle.drain_laws.proofs.Negotiated.{replies_negotiate}
use Rattle.drain_ends.specs.Agreeing.{SaysSo, IsNoReject, Agreed, AgreedHolds}

-- what is written once the handshake is done, and what any phase takes, says nothing of it
flowing_says : (cfg : EndConfig) (g : Facts) (p : Piece) → IsFlowing cfg p → SaysSo g p
flowing_says cfg g (entry payload) f = tt
flowing_says cfg g (said (negotiate id timestamp flow credentials)) f = absurd f
flowing_says cfg g (said (negotiation_response id timestamp flow credentials)) f = absurd f
flowing_says cfg g (said (negotiation_reject id timestamp code reason)) f = absurd f
flowing_says cfg g (said (establish id timestamp keepalive next expected credentials)) f = absurd f
flowing_says cfg g (said (establishment_ack id timestamp keepalive next expected)) f = absurd f
flowing_says cfg g (said (establishment_reject id timestamp code reason)) f = absurd f
flowing_says cfg g (said (sequence next)) f = record { rests = λ r. absurd r; vouches = λ v. absurd v }
flowing_says cfg g (said unsequenced_heartbeat) f = record { rests = λ r. absurd r; vouches = λ v. absurd v }
flowing_says cfg g (said (retransmit_request id timestamp first count)) f = record { rests = λ r. absurd r; vouches = λ v. absurd v }
flowing_says cfg g (said (retransmission id next timestamp count)) f = record { rests = λ r. absurd r; vouches = λ v. absurd v }
flowing_says cfg g (said (retransmit_reject id timestamp code reason)) f = record { rests = λ r. absurd r; vouches = λ v. absurd v }
flowing_says cfg g (said (applied first count)) f = record { rests = λ r. absurd r; vouches = λ v. absurd v }
flowing_says cfg g (said (not_applied first count)) f = record { rests = λ r. absurd r; vouches = λ v. absurd v }
flowing_says cfg g (said (finished_sending id last)) f = record { rests = λ r. absurd r; vouches = λ v. absurd v }
flowing_says cfg g (said (finished_receiving id)) f = record { rests = λ r. absurd r; vouches = λ v. absurd v }
flowing_says cfg g (said (terminate id code reason)) f = record { rests = λ r. absurd r; vouches = λ v. absurd v }

flowing_accepts : (cfg : EndConfig) (p : Piece) → IsFlowing cfg p → IsNoReject p
flowing_accepts cfg (said (establishment_reject id timestamp code reason)) f = f
flowing_accepts cfg (said (negotiate id timestamp flow credentials)) f = tt
flowing_accepts cfg (said (negotiation_response id timestamp flow credentials)) f = tt
flowing_accepts cfg (said (negotiation_reject id timestamp code reason)) f = tt
flowing_accepts cfg (said (establish id timestamp keepalive next expected credentials)) f = tt
flowing_accepts cfg (said (establishment_ack id timestamp keepalive next expected)) f = tt
flowing_accepts cfg (said (sequence next)) f = tt
flowing_accepts cfg (said unsequenced_heartbeat) f = tt
flowing_accepts cfg (said (retransmit_request id timestamp first count)) f = tt
flowing_accepts cfg (said (retransmission id next timestamp count)) f = tt
flowing_accepts cfg (said (retransmit_reject id timestamp code reason)) f = tt
flowing_accepts cfg (said (applied first count)) f = tt
flowing_accepts cfg (said (not_applied first count)) f = tt
flowing_accepts cfg (said (finished_sending id last)) f = tt
flowing_accepts cfg (said (finished_receiving id)) f = tt
flowing_accepts cfg (said (terminate id code reason)) f = tt
flowing_accepts cfg (entry payload) f = tt

-- what one end says another knows, where that knows what this one does
says_more : (f g : Facts) → (f.recorded.negotiated ≡ true → g.recorded.negotiated ≡ true) → (p : Piece) → SaysSo f p → SaysSo g p
says_more f g more (said m) s = record { rests = λ r. more (s.rests r); vouches = λ v. more (s.vouches v) }
says_more f g more (entry payload) s = tt

said_says : (g : Facts) (ms : List Message) → AllByRecursion (Says g) ms → AllByRecursion (SaysSo g) (said_all ms)
said_says g [] a = tt
said_says g (m ∷ ms) a = (a.0, said_says g ms a.1)

said_accepts : (ms : List Message) → AllByRecursion NoReject ms → AllByRecursion IsNoReject (said_all ms)
said_accepts [] a = tt
said_accepts (m ∷ ms) a = (a.0, said_accepts ms a.1)

vouched_in : (g : Facts) (p : Piece) → SaysSo g p → VouchedIn (incoming_of p) → g.recorded.negotiated ≡ true
vouched_in g (said m) s v = s.vouches v
vouched_in g (entry payload) s v = absurd v

-- an Establish that comes to an acceptor is one that it takes
good : (ci : EndConfig) (x : Around) (fi : Facts) (ei : Option Ending) (fa : Facts) (p : Piece) (left homeward : List Piece) → Match ci x.config → Shaking ci x.config fi ei fa (p ∷ left) homeward → SaysSo fa p → IsGood x fa (incoming_of p)
good ci x fi ei fa (said (establish id timestamp keepalive next expected credentials)) left homeward m (phased.opens before qi idle qa (inl one) free) s = asked fi.connection.phase one.0
  where
    waits : (r : Role) (q : Phase) → is_initiator r ≡ false → q ≡ phases.Idle → (not (is_initiator r) && is_idle q) ≡ true
    waits r q a b = ap (λ t. not t && is_idle q) a ∙ ap (λ t. is_idle t) b

    asked : (q : Phase) → IsAsk ci q (said (establish id timestamp keepalive next expected credentials)) → IsGood x fa (incoming_of (said (establish id timestamp keepalive next expected credentials)))
    asked phases.Establishing a =
        let low = m.keepalive.0 in
        let high = m.keepalive.1 in
        let is = a.1 in (
          waits x.config.role fa.connection.phase (ap (λ r. is_initiator r) m.accepts) idle,
          s.rests tt,
          (bytes_eq-Decides id x.config.session).1 (a.0 ∙ sym m.session),
          (omega (arith, low, is), omega (arith, high, is)),
          a.3 ∙ sym m.credentials,
        )
    asked phases.Idle a = absurd a
    asked phases.Negotiating a = absurd a
    asked phases.Established a = absurd a
    asked phases.Closing a = absurd a
    asked phases.Ended a = absurd a
good ci x fi ei fa (said (establish id timestamp keepalive next expected credentials)) left homeward m (phased.opens before qi idle qa (inr more) free) s = absurd more.0
good ci x fi ei fa (said (establish id timestamp keepalive next expected credentials)) left homeward m (phased.answering before qi idle qa free one) s = absurd free.0
good ci x fi ei fa (said (establish id timestamp keepalive next expected credentials)) left homeward m (phased.acknowledging e qi est free first) s = absurd free.0
good ci x fi ei fa (said (establish id timestamp keepalive next expected credentials)) left homeward m (phased.standing done est out home) s = absurd out.0
good ci x fi ei fa (said (establish id timestamp keepalive next expected credentials)) left homeward m (phased.refusing over before qi est free) s = absurd free.0
good ci x fi ei fa (said (negotiate id timestamp flow credentials)) left homeward m sh s = tt
good ci x fi ei fa (said (negotiation_response id timestamp flow credentials)) left homeward m sh s = tt
good ci x fi ei fa (said (negotiation_reject id timestamp code reason)) left homeward m sh s = tt
good ci x fi ei fa (said (establishment_ack id timestamp keepalive next expected)) left homeward m sh s = tt
good ci x fi ei fa (said (establishment_reject id timestamp code reason)) left homeward m sh s = tt
good ci x fi ei fa (said (sequence next)) left homeward m sh s = tt
good ci x fi ei fa (said unsequenced_heartbeat) left homeward m sh s = tt
good ci x fi ei fa (said (retransmit_request id timestamp first count)) left homeward m sh s = tt
good ci x fi ei fa (said (retransmission id next timestamp count)) left homeward m sh s = tt
good ci x fi ei fa (said (retransmit_reject id timestamp code reason)) left homeward m sh s = tt
good ci x fi ei fa (said (applied first count)) left homeward m sh s = tt
good ci x fi ei fa (said (not_applied first count)) left homeward m sh s = tt
good ci x fi ei fa (said (finished_sending id last)) left homeward m sh s = tt
good ci x fi ei fa (said (finished_receiving id)) left homeward m sh s = tt
good ci x fi ei fa (said (terminate id code reason)) left homeward m sh s = tt
good ci x fi ei fa (entry payload) left homeward m sh s = tt

initiator_reading : (w : World) (way : List Piece) (at now : ℕ) → w.homeward ≡ way → Holds w → Agreed w → Agreed (initiator_read w way at now)
initiator_reading w [] at now e h a = a
initiator_reading w (p ∷ left) at now e h a = record {
  known = λ t. knows (ap (λ (f : Facts). f.recorded.negotiated) (sym rd.facts) ∙ t);
  outward = all_append (SaysSo w.acceptor.facts) w.outward (written s (reading p at now)) a.outward
      (subst (λ (out : List Piece). AllByRecursion (SaysSo w.acceptor.facts) out) (sym rd.writes) (all_weaker (SaysSo o.next) (SaysSo w.acceptor.facts) (says_more o.next w.acceptor.facts knows) (said_all o.written) (said_says o.next o.written k.says)));
  homeward = here.1;
  accepted = (subst (λ (ps : List Piece). AllByRecursion IsNoReject ps) e a.accepted).1;
}
  where
    s : State
    s = w.initiator

    o : Outcome
    o = reply_of (around s at now) s.facts (incoming_of p)

    rd : Reads s (incoming_of p) o (run s (reading p at now)) (written s (reading p at now))
    rd = reads_as s p at now

    k : Negotiates (around s at now) s.facts (incoming_of p) o
    k = replies_negotiate (around s at now) s.facts (incoming_of p)

    here : AllByRecursion (SaysSo w.acceptor.facts) (p ∷ left)
    here = subst (λ (ps : List Piece). AllByRecursion (SaysSo w.acceptor.facts) ps) e a.homeward

    by_cause : (s.facts.recorded.negotiated ≡ true) ⊎ VouchedIn (incoming_of p) → w.acceptor.facts.recorded.negotiated ≡ true
    by_cause (inl before) = a.known before
    by_cause (inr vouched) = vouched_in w.acceptor.facts p here.0 vouched

    knows : o.next.recorded.negotiated ≡ true → w.acceptor.facts.recorded.negotiated ≡ true
    knows t = by_cause (k.learns (ap (λ r. is_initiator r) h.matches.initiates) t)

acceptor_reading : (w : World) (way : List Piece) (at now : ℕ) → w.outward ≡ way → Holds w → Agreed w → Agreed (acceptor_read w way at now)
acceptor_reading w [] at now e h a = a
acceptor_reading w (p ∷ left) at now e h a = record {
  known = λ t. more (a.known t);
  outward = all_weaker (SaysSo s.facts) (SaysSo t.facts) (says_more s.facts t.facts more) left here.1;
  homeward = all_append (SaysSo t.facts) w.homeward (written s (reading p at now)) (all_weaker (SaysSo s.facts) (SaysSo t.facts) (says_more s.facts t.facts more) w.homeward a.homeward)
      (subst (λ (f : Facts). AllByRecursion (SaysSo f) (written s (reading p at now))) (sym rd.facts) (subst (λ (out : List Piece). AllByRecursion (SaysSo o.next) out) (sym rd.writes) (said_says o.next o.written k.says)));
  accepted = all_append IsNoReject w.homeward (written s (reading p at now)) a.accepted
      (subst (λ (out : List Piece). AllByRecursion IsNoReject out) (sym rd.writes) (said_accepts o.written (k.accepts
      (good w.initiator.config x w.initiator.facts w.initiator.ending s.facts p left w.homeward h.matches (subst (λ (ps : List Piece). Shaking w.initiator.config s.config w.initiator.facts w.initiator.ending s.facts ps w.homeward) e h.shaking) here.0))));
}
  where
    s : State
    s = w.acceptor

    t : State
    t = run s (reading p at now)

    x : Around
    x = around s at now

    o : Outcome
    o = reply_of x s.facts (incoming_of p)

    rd : Reads s (incoming_of p) o t (written s (reading p at now))
    rd = reads_as s p at now

    k : Negotiates x s.facts (incoming_of p) o
    k = replies_negotiate x s.facts (incoming_of p)

    here : AllByRecursion (SaysSo s.facts) (p ∷ left)
    here = subst (λ (ps : List Piece). AllByRecursion (SaysSo s.facts) ps) e a.outward

    more : s.facts.recorded.negotiated ≡ true → t.facts.recorded.negotiated ≡ true
    more known = ap (λ (f : Facts). f.recorded.negotiated) rd.facts ∙ k.grows known

-- no other call moves what is known
abbrev Same : State → State → Type 0
Same s t = t.facts.recorded.negotiated ≡ s.facts.recorded.negotiated

ticking : (s : State) (now : ℕ) → Same s (step s (tick now))
ticking s now = by_end (is_some s.ending)
  where
    beat : State
    beat = wrote (record s { moment = now }) (bytes_of (heartbeats (around s 0 now) s.facts s.last_sent s.unsent)) now

    by_fault : (v : Option Violation) → Same s (broken_by beat v now)
    by_fault None = refl
    by_fault (Some v) = refl

    by_end : (b : Bool) → Same s (if b then record s { moment = now } else broken_by beat (lateness (around s 0 now) s.facts s.start s.last_received) now)
    by_end true = refl
    by_end false = by_fault (lateness (around s 0 now) s.facts s.start s.last_received)

turning : (s : State) (now : ℕ) → Same s (step s (turn_done now))
turning s now = by_end (is_some s.ending)
  where
    x : Around
    x = around s 0 now

    behind : Made → State
    behind m = record (made (record s { moment = now }) m now) { untold = [] }

    by_close : (b : Bool) → Same s (behind (turned b x s.facts (runs_of s.untold)))
    by_close true = refl
    by_close false = refl

    by_end : (b : Bool) → Same s (if b then record s { moment = now } else behind (turn_ended x s.facts (runs_of s.untold)))
    by_end true = refl
    by_end false = by_close (closes x s.facts)

closing : (s : State) (last now : ℕ) → Same s (step s (closed last now))
closing s last now = by_end (is_some s.ending)
  where
    x : Around
    x = around s 0 now

    behind : Made → State
    behind m = made (record s { moment = now }) m now

    by_test : (b : Bool) → Same s (behind (told b x s.facts last))
    by_test true = refl
    by_test false = refl

    by_end : (b : Bool) → Same s (if b then record s { moment = now; facts = outbox_finished s.facts last } else behind (finish_told x s.facts last))
    by_end true = refl
    by_end false = by_test (tells_finish x s.facts last)

cutting : (s : State) → Same s (step s link_end)
cutting s = by_end (is_some s.ending)
  where
    by_end : (b : Bool) → Same s (if b then s else record s { ending = Some (link_ending (around s 0 s.moment) s.facts); pending = None; held = [] })
    by_end true = refl
    by_end false = refl

resending : (s : State) (r : Option Range) (payloads : List (List ℕ)) (now : ℕ) → Same s (served_again s r payloads now)
resending s None payloads now = refl
resending s (Some r) payloads now = refl

applying : (s : State) (m : Option Held) → Same s (held_applied s m)
applying s None = refl
applying s (Some m) = refl

call_same : (h : List Entry) (s : State) (call : Call) → IsOther h call → Same s (step s call)
call_same h s (begin now) other = absurd other
call_same h s (frame incoming at now) other = absurd other
call_same h s (bad_frame at now) other = absurd other
call_same h s (did now) other = absurd other
call_same h s (tick now) other = ticking s now
call_same h s (turn_done now) other = turning s now
call_same h s (closed last now) other = closing s last now
call_same h s link_end other = cutting s
call_same h s (live payloads now) other = refl
call_same h s (again payloads now) other = resending s s.facts.connection.serving payloads now
call_same h s (taken count) other = refl
call_same h s reserve other = refl
call_same h s held_done other = applying s (front_of s)

-- and what it writes says nothing of it
does_flow : (s t : State) (out : List Piece) → Does s t out → (is_shaken s.facts.connection.phase ≡ false → Quiet s.facts) → AllByRecursion (IsFlowing s.config) out
does_flow s t out d quiet = by_bool (AllByRecursion (IsFlowing s.config) out) (is_shaken s.facts.connection.phase) (λ done. (d.done done).1) (λ before. all_free_flow s.config out (d.before before (quiet before)).1)

initiator_doing : (hi : List Entry) (w : World) (call : Call) → Holds w → IsOther hi call → MayStand hi w.initiator call → Agreed w → Agreed (after w (initiator_does call))
initiator_doing hi w call h other may a =
    let s = w.initiator in
    let out = written s (call ∷ []) in
    let d = does_as hi s call other may h.initiator.serves h.initiator_window.opening in
    let f = does_flow s (step s call) out d (initiator_quiet s.config w.acceptor.config s.facts s.ending w.acceptor.facts w.outward w.homeward h.shaking) in
    record {
      known = λ t. a.known (sym (call_same hi s call other) ∙ t);
      outward = all_append (SaysSo w.acceptor.facts) w.outward out a.outward (all_weaker (IsFlowing s.config) (SaysSo w.acceptor.facts) (flowing_says s.config w.acceptor.facts) out f);
      homeward = a.homeward;
      accepted = a.accepted;
    }

acceptor_doing : (ha : List Entry) (w : World) (call : Call) → Holds w → IsOther ha call → MayStand ha w.acceptor call → Agreed w → Agreed (after w (acceptor_does call))
acceptor_doing ha w call h other may a = record {
  known = λ t. more (a.known t);
  outward = all_weaker (SaysSo s.facts) (SaysSo (step s call).facts) (says_more s.facts (step s call).facts more) w.outward a.outward;
  homeward = all_append (SaysSo (step s call).facts) w.homeward out (all_weaker (SaysSo s.facts) (SaysSo (step s call).facts) (says_more s.facts (step s call).facts more) w.homeward a.homeward)
      (all_weaker (IsFlowing s.config) (SaysSo (step s call).facts) (flowing_says s.config (step s call).facts) out f);
  accepted = all_append IsNoReject w.homeward out a.accepted (all_weaker (IsFlowing s.config) IsNoReject (flowing_accepts s.config) out f);
}
  where
    s : State
    s = w.acceptor

    out : List Piece
    out = written s (call ∷ [])

    d : Does s (step s call) out
    d = does_as ha s call other may h.acceptor.serves h.acceptor_window.opening

    f : AllByRecursion (IsFlowing s.config) out
    f = does_flow s (step s call) out d (acceptor_quiet w.initiator.config s.config w.initiator.facts w.initiator.ending s.facts w.outward w.homeward h.shaking)

    more : s.facts.recorded.negotiated ≡ true → (step s call).facts.recorded.negotiated ≡ true
    more known = call_same ha s call other ∙ known

-- a connection begins: what is recorded stays, and an Establish rests on it
record Begins (initiates : Bool) (recorded : EndState) (g : Facts) (ms : List Message) : Type 0 where
  same : g.recorded ≡ recorded
  says : AllByRecursion (Says g) ms
  waits : initiates ≡ false → ms ≡ []

begins : (x : Around) (recorded : EndState) → Begins (is_initiator x.config.role) recorded (begun x recorded).next (begun x recorded).written
begins x recorded = by_case (is_initiator x.config.role) recorded.negotiated refl
  where
    by_case : (i n : Bool) → recorded.negotiated ≡ n → Begins i recorded (begun_as x recorded i n).next (begun_as x recorded i n).written
    by_case true true known = record { same = refl; says = (record { rests = λ _. known; vouches = λ v. absurd v }, tt); waits = λ e. absurd (true≢false e) }
    by_case true false known = record { same = refl; says = (record { rests = λ r. absurd r; vouches = λ v. absurd v }, tt); waits = λ e. absurd (true≢false e) }
    by_case false n known = record { same = refl; says = tt; waits = λ _. refl }

meeting : (w : World) (now_i now_a : ℕ) → Holds w → Agreed w → Agreed (after w (meets now_i now_a))
meeting w now_i now_a h a = record {
  known = knows;
  outward = all_weaker (SaysSo i.initiator.facts) (SaysSo i.acceptor.facts) (says_more i.initiator.facts i.acceptor.facts knows) i.outward (said_says i.initiator.facts (begun (around w.initiator 0 now_i) w.initiator.facts.recorded).written b.says);
  homeward = subst (λ (ms : List Message). AllByRecursion (SaysSo i.acceptor.facts) (said_all ms)) (sym none) tt;
  accepted = subst (λ (ms : List Message). AllByRecursion IsNoReject (said_all ms)) (sym none) tt;
}
  where
    i : World
    i = after w (meets now_i now_a)

    b : Begins (is_initiator w.initiator.config.role) w.initiator.facts.recorded i.initiator.facts (begun (around w.initiator 0 now_i) w.initiator.facts.recorded).written
    b = begins (around w.initiator 0 now_i) w.initiator.facts.recorded

    c : Begins (is_initiator w.acceptor.config.role) w.acceptor.facts.recorded i.acceptor.facts (begun (around w.acceptor 0 now_a) w.acceptor.facts.recorded).written
    c = begins (around w.acceptor 0 now_a) w.acceptor.facts.recorded

    none : (begun (around w.acceptor 0 now_a) w.acceptor.facts.recorded).written ≡ []
    none = c.waits (ap (λ r. is_initiator r) h.matches.accepts)

    knows : i.initiator.facts.recorded.negotiated ≡ true → i.acceptor.facts.recorded.negotiated ≡ true
    knows t = ap (λ (r : EndState). r.negotiated) c.same ∙ a.known (sym (ap (λ (r : EndState). r.negotiated) b.same) ∙ t)

agreed_step : (hi ha : List Entry) (w : World) (s : Step) → Holds w → MayStep hi ha w s → Agreed w → Agreed (after w s)
agreed_step hi ha w (meets now_i now_a) h may a = meeting w now_i now_a h a
agreed_step hi ha w (initiator_reads at now) h may a = initiator_reading w w.homeward at now refl h a
agreed_step hi ha w (acceptor_reads at now) h may a = acceptor_reading w w.outward at now refl h a
agreed_step hi ha w (initiator_does call) h may a = initiator_doing hi w call h may.0 may.1 a
agreed_step hi ha w (acceptor_does call) h may a = acceptor_doing ha w call h may.0 may.1 a

agreed_after : (hi ha : List Entry) (w : World) (steps : List Step) → Holds w → Agreed w → AllMayStep hi ha w steps → Agreed (world_after w steps)
agreed_after hi ha w [] h a may = a
agreed_after hi ha w (s ∷ later) h a may = agreed_after hi ha (after w s) later (holds_step hi ha w s h may.0) (agreed_step hi ha w s h may.0 a) may.1

pub agreed_holds : AgreedHolds
agreed_holds hi ha w steps st known may = agreed_after hi ha w steps (holds_at_first w st) (record {
  known = known;
  outward = subst (λ (ps : List Piece). AllByRecursion (SaysSo w.acceptor.facts) ps) (sym st.outward) tt;
  homeward = subst (λ (ps : List Piece). AllByRecursion (SaysSo w.acceptor.facts) ps) (sym st.homeward) tt;
  accepted = subst (λ (ps : List Piece). AllByRecursion IsNoReject ps) (sym st.homeward) tt;
}) may
