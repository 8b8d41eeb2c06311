-- What is under way between two ends is what they wait for, over any steps.
use Rattle.std.proofs.Common.{◌≡◌, inl, inr, ℕ, ◌+◌, ◌-◌, ◌≤◌, ◌&&◌, ◌||◌, nat_lt, Bool, true, false, if◌then◌else◌, List, [], ◌∷◌, ◌++◌, Option, Some, None, refl, sym, ap, subst, ◌∙◌, arith, append-nil, true≢false}
use Rattle.std.specs.Prelude.{is_some, IsSome}
use Rattle.std.specs.List.{AllByRecursion}
use Rattle.session_model.specs.Journal.{Entry}
use Rattle.session_model.specs.Inbox.{Numbered as Held}
use Rattle.fixp_msgs.specs.Message.{Message, negotiate, negotiation_response, negotiation_reject, establish, establishment_ack, establishment_reject, sequence, unsequenced_heartbeat, retransmit_request, retransmission, retransmit_reject, applied, not_applied, finished_sending, finished_receiving, terminate}
use Rattle.fixp_msgs.specs.declared.numbering.Range.{Range}
use Rattle.flow_recover.specs.Receiving as receiver_is
use Rattle.flow_recover.specs.Receiving.{Receiving, gap_end}
use Rattle.flow_window.specs.Window.{least}
use Rattle.flow_retrans.specs.declared.request.Request.{Request}
use Rattle.flow_retrans.specs.declared.request.Request.TheVariants as requests
use Rattle.flow_retrans.specs.Requests as request_is
use Rattle.fixp_shake.specs.declared.config.EndConfig.{EndConfig}
use Rattle.fixp_shake.specs.declared.phase.Phase.TheVariants as phases
use Rattle.fixp_shake.specs.Flows.{is_recoverable}
use Rattle.fixp_shake.specs.Phases.{is_idle, is_negotiating, is_establishing, is_closing, is_shaken}
use Rattle.fixp_replies.specs.declared.act.Ending.{Ending}
use Rattle.fixp_replies.specs.declared.facts.EndState.{EndState}
use Rattle.fixp_replies.specs.declared.facts.Facts.{Facts}
use Rattle.fixp_replies.specs.declared.facts.OwnFinish.{OwnFinish}
use Rattle.fixp_replies.specs.declared.facts.OwnFinish.TheVariants as own
use Rattle.fixp_replies.specs.Events.{begun}
use Rattle.fixp_replies.specs.Facts.{Around, is_initiator, connecting, gap_of}
use Rattle.fixp_replies.specs.Outcomes.{Outcome}
use Rattle.fixp_replies.specs.Replies.{reply_of}
use Rattle.fixp_machine.specs.Machine.{State, Call, begin, frame, bad_frame, did, tick, turn_done, closed, link_end, live, again, taken, reserve, held_done, around, run, step, fresh, front_of}
use Rattle.fixp_machine.specs.Sound.{Matches}
use Rattle.fixp_machine.proofs.Tests.{no_gap}
use Rattle.connection_laws.specs.Writing.{Piece, said, entry, said_all, writes}
use Rattle.connection_laws.specs.Standing.{MayStand}
use Rattle.two_ends.specs.Reading.{incoming_of}
use Rattle.two_ends.proofs.Refused.{closing_is_deaf}
use Rattle.honest_ends.specs.Worlds.{World, Step, meets, initiator_reads, acceptor_reads, initiator_does, acceptor_does, reading, written, initiator_read, acceptor_read, after, world_after, IsOther, MayRead, MayStep, AllMayStep}
use Rattle.honest_ends.specs.Knowing.{StartsKnown}
use Rattle.honest_ends.specs.Numbers.{Answers, goes_softly}
use Rattle.honest_ends.specs.Numbered.{Follows, ReturnsFirst}
use Rattle.honest_ends.proofs.Serving.{by_bool, was_none}
use Rattle.honest_ends.proofs.Moving.{Reads, reads_as, Does, does_as}
use Rattle.honest_ends.proofs.Phased as phased
use Rattle.honest_ends.proofs.Phased.{Shaking, begun_as, initiator_quiet, acceptor_quiet}
use Rattle.honest_ends.proofs.PhaseOpening.{asks_unheld}
use Rattle.honest_ends.proofs.Past.{Lies}
use Rattle.honest_ends.proofs.Numbering.{Counted, counted_step, counted_at_first, numbered_of}
use Rattle.honest_ends.proofs.RestStepping.{gap_in, keep_after}
use Rattle.drain_laws.specs.Counts.{finish, answer, request, restart, opening, shutting, among, in_frame, in_piece, under_way, read_of, answered_of, told_of, exchanged_of, unanswered_of, unshaken_of, read, answered, told, exchanged, unanswered, unshaken}
use Rattle.drain_laws.specs.Frames.{Fills}
use Rattle.drain_laws.specs.Evens.{ComesBy, IsAnswer, Evens, HasRequest, WaitsOn, IsBeside, StaysEven}
use Rattle.drain_laws.proofs.Evened.{replies_even}
use Rattle.drain_laws.proofs.Beside.{calls_even}
use Rattle.drain_ends.proofs.Shut.{said_counts}
use Rattle.drain_ends.specs.Standing.{BothGo, Exact, StandingHolds}

pub way_append : (kind : Message → ℕ) (ps qs : List Piece) → under_way kind (ps ++ qs) ≡ under_way kind ps + under_way kind qs
way_append kind [] qs = omega arith
way_append kind (p ∷ ps) qs = let e = way_append kind ps qs in omega (arith, e)

pub in_so : (kind : Message → ℕ) (p : Piece) → in_piece kind p ≡ in_frame kind (incoming_of p)
in_so kind (said m) = refl
in_so kind (entry payload) = refl

pub told_once : (q : OwnFinish) → told_of q + exchanged_of q ≤ 1
told_once own.Open = omega arith
told_once own.Told = omega arith
told_once own.Exchanged = omega arith

-- what holds of one flow, but for the gap
record Even (writer reader : Facts) (way back : List Piece) : Type 0 where
  finish : under_way finish way + read reader + under_way answer back ≡ told writer
  exchanged : answered reader ≡ under_way answer back + exchanged writer
  request : under_way request back + under_way restart way ≡ unanswered reader
  fills : Fills reader.connection.receiver.next reader.connection.requester
  waits : read reader ≡ 1 → HasRequest reader

-- the reader replies to a message
even_read : (initiates : Bool) (writer f g : Facts) (p : Piece) (left back : List Piece) (ms : List Message) → Evens initiates f (incoming_of p) g ms → ComesBy f.connection.receiver f.connection.requester → IsAnswer f (incoming_of p)
    → ((read f ≡ 1 → HasRequest f) → read g ≡ 1 → HasRequest g) → Even writer f (p ∷ left) back → Even writer g left (back ++ said_all ms)
even_read initiates writer f g p left back ms e comes is waits b =
    let once = told_once writer.connection.own_finish in
    let fi = b.finish in
    let ex = b.exchanged in
    let re = b.request in
    let pf = in_so finish p in
    let pr = in_so restart p in
    let rd : read g + among answer ms ≡ read f + in_frame finish (incoming_of p) = e.finishes.read (omega (arith, once, fi, pf)) in
    let an : answered g ≡ answered f + among answer ms = e.finishes.answered (omega (arith, once, fi, ex, pf)) in
    let on : unanswered g + in_frame restart (incoming_of p) ≡ unanswered f + among request ms = e.asks.once (omega (arith, re, pr)) in
    let aa = way_append answer back (said_all ms) in
    let ar = way_append request back (said_all ms) in
    let sa = said_counts answer ms in
    let sr = said_counts request ms in
    record {
      finish = omega (arith, fi, pf, rd, aa, sa);
      exchanged = omega (arith, ex, an, aa, sa);
      request = omega (arith, re, pr, on, ar, sr);
      fills = e.fills b.fills comes is;
      waits = waits b.waits;
    }

-- the writer replies to a message that came back
even_answered : (initiates : Bool) (f g reader : Facts) (p : Piece) (way left : List Piece) (ms : List Message) → Evens initiates f (incoming_of p) g ms → Even f reader way (p ∷ left) → Even g reader (way ++ said_all ms) left
even_answered initiates f g reader p way left ms e b =
    let fi = b.finish in
    let ex = b.exchanged in
    let re = b.request in
    let pa = in_so answer p in
    let pq = in_so request p in
    let to = e.finishes.told in
    let qu = e.finishes.quiet in
    let xc = e.finishes.exchanged in
    let se = e.asks.served in
    let af = way_append finish way (said_all ms) in
    let ar = way_append restart way (said_all ms) in
    let sf = said_counts finish ms in
    let sr = said_counts restart ms in
    record {
      finish = omega (arith, fi, pa, to, qu, af, sf);
      exchanged = omega (arith, ex, pa, xc);
      request = omega (arith, re, pq, se, ar, sr);
      fills = b.fills;
      waits = b.waits;
    }

-- any other call of the writer, and of the reader
even_told : (s t : State) (reader : Facts) (way back out : List Piece) → StaysEven s t out → Even s.facts reader way back → Even t.facts reader (way ++ out) back
even_told s t reader way back out e b =
    let fi = b.finish in
    let ex = b.exchanged in
    let re = b.request in
    let to = e.told in
    let xc = e.exchanged in
    let no = e.restarts in
    let af = way_append finish way out in
    let ar = way_append restart way out in
    record { finish = omega (arith, fi, to, af); exchanged = omega (arith, ex, xc); request = omega (arith, re, no, ar); fills = b.fills; waits = b.waits }

even_still : (writer : Facts) (s t : State) (way back out : List Piece) → StaysEven s t out → (IsSome (front_of s) → request_is.is_coming s.facts.connection.requester ≡ true) → Even writer s.facts way back → Even writer t.facts way (back ++ out)
even_still writer s t way back out e comes b =
    let fi = b.finish in
    let ex = b.exchanged in
    let re = b.request in
    let rd = ap read_of e.theirs in
    let an = ap answered_of e.theirs in
    let un = ap unanswered_of e.requester in
    let na = e.answers in
    let nq = e.requests in
    let aa = way_append answer back out in
    let ar = way_append request back out in
    record {
      finish = omega (arith, fi, rd, na, aa);
      exchanged = omega (arith, ex, an, na, aa);
      request = omega (arith, re, un, nq, ar);
      fills = e.fills comes b.fills;
      waits = λ now. ap (λ q. is_some (request_is.outstanding q)) e.requester ∙ b.waits (sym rd ∙ now);
    }

-- both flows, and the handshake and the closing
record Evenly (w : World) : Type 0 where
  outward : Even w.initiator.facts w.acceptor.facts w.outward w.homeward
  homeward : Even w.acceptor.facts w.initiator.facts w.homeward w.outward
  opens : is_idle w.initiator.facts.connection.phase ≡ false → under_way opening w.outward + under_way opening w.homeward ≡ unshaken w.initiator.facts
  shuts : (under_way shutting w.outward ≡ 0) × (under_way shutting w.homeward ≡ 0)

abbrev WhileGoing : World → Type 0
WhileGoing w = BothGo w → Evenly w

-- an acceptor waits for its client, or is established
pub acceptor_phase : (ci ca : EndConfig) (fi : Facts) (ei : Option Ending) (fa : Facts) (outward homeward : List Piece) → Shaking ci ca fi ei fa outward homeward
    → ((is_negotiating fa.connection.phase || is_establishing fa.connection.phase) ≡ false) × (is_closing fa.connection.phase ≡ false)
acceptor_phase ci ca fi ei fa outward homeward (phased.opens bi qi idle qa one free) = (ap (λ p. is_negotiating p || is_establishing p) idle, ap (λ p. is_closing p) idle)
acceptor_phase ci ca fi ei fa outward homeward (phased.answering bi qi idle qa free one) = (ap (λ p. is_negotiating p || is_establishing p) idle, ap (λ p. is_closing p) idle)
acceptor_phase ci ca fi ei fa outward homeward (phased.acknowledging e qi est free first) = (ap (λ p. is_negotiating p || is_establishing p) est, ap (λ p. is_closing p) est)
acceptor_phase ci ca fi ei fa outward homeward (phased.standing shaken est out home) = (ap (λ p. is_negotiating p || is_establishing p) est, ap (λ p. is_closing p) est)
acceptor_phase ci ca fi ei fa outward homeward (phased.refusing over bi qi est free) = (ap (λ p. is_negotiating p || is_establishing p) est, ap (λ p. is_closing p) est)

-- what is asked for and comes in, of a reader that follows
comes_matching : (r : Receiving) (q : Request) → Matches r q → ComesBy r q
comes_matching r requests.Nothing m = tt
comes_matching r (requests.Asked range) m = m
comes_matching r (requests.Coming range next left) m = m.0

pub comes_by : (h : List Entry) (writer reader : State) (way back : List Piece) → Follows h writer reader way back → reader.ending ≡ None → is_closing reader.facts.connection.phase ≡ false → ComesBy reader.facts.connection.receiver reader.facts.connection.requester
comes_by h writer reader way back f none yet = by_bool _ (is_recoverable reader.config.peer_flow)
    (λ rec. comes_matching reader.facts.connection.receiver reader.facts.connection.requester ((f.expects none yet).line rec).matches)
    (λ other. subst (λ (q : Request). ComesBy reader.facts.connection.receiver q) (sym ((f.expects none yet).idle other).none) tt)

pub is_answer : (f : Facts) (p : Piece) → Answers f.connection.requester p → IsAnswer f (incoming_of p)
is_answer f (said (retransmission id next timestamp count)) a = a.0
is_answer f (said (retransmit_reject id timestamp code reason)) a = tt
is_answer f (said (negotiate id timestamp flow credentials)) a = tt
is_answer f (said (negotiation_response id timestamp flow credentials)) a = tt
is_answer f (said (negotiation_reject id timestamp code reason)) a = tt
is_answer f (said (establish id timestamp keepalive next expected credentials)) a = tt
is_answer f (said (establishment_ack id timestamp keepalive next expected)) a = tt
is_answer f (said (establishment_reject id timestamp code reason)) a = tt
is_answer f (said (sequence next)) a = tt
is_answer f (said unsequenced_heartbeat) a = tt
is_answer f (said (retransmit_request id timestamp first count)) a = tt
is_answer f (said (applied first count)) a = tt
is_answer f (said (not_applied first count)) a = tt
is_answer f (said (finished_sending id last)) a = tt
is_answer f (said (finished_receiving id)) a = tt
is_answer f (said (terminate id code reason)) a = tt
is_answer f (entry payload) a = tt

-- an end whose connection goes on behind a message went on before it
pub yet_before : (x : Around) (f : Facts) (p : Piece) → is_closing (reply_of x f (incoming_of p)).next.connection.phase ≡ false → is_closing f.connection.phase ≡ false
yet_before x f p yet = by_bool _ (is_closing f.connection.phase)
    (λ closing. absurd (true≢false (sym closing ∙ (ap (λ (g : Facts). is_closing g.connection.phase) (sym (closing_is_deaf x f (incoming_of p) closing).next) ∙ yet)))) (λ e. e)

-- where a finish comes to a soft reader, it has no gap: its writer would have begun with the number that it was told
comes_first : (n : ℕ) (p : Piece) (left : List Piece) → in_frame finish (incoming_of p) ≡ 1 → ReturnsFirst n (p ∷ left) → ⊥
comes_first n (said (finished_sending id last)) left one (inl is) = absurd cc
comes_first n (said (finished_sending id last)) left one (inr spare) = spare.0
comes_first n (said (negotiate id timestamp flow credentials)) left one r = omega (arith, one)
comes_first n (said (negotiation_response id timestamp flow credentials)) left one r = omega (arith, one)
comes_first n (said (negotiation_reject id timestamp code reason)) left one r = omega (arith, one)
comes_first n (said (establish id timestamp keepalive next expected credentials)) left one r = omega (arith, one)
comes_first n (said (establishment_ack id timestamp keepalive next expected)) left one r = omega (arith, one)
comes_first n (said (establishment_reject id timestamp code reason)) left one r = omega (arith, one)
comes_first n (said (sequence next)) left one r = omega (arith, one)
comes_first n (said unsequenced_heartbeat) left one r = omega (arith, one)
comes_first n (said (retransmit_request id timestamp first count)) left one r = omega (arith, one)
comes_first n (said (retransmission id next timestamp count)) left one r = omega (arith, one)
comes_first n (said (retransmit_reject id timestamp code reason)) left one r = omega (arith, one)
comes_first n (said (applied first count)) left one r = omega (arith, one)
comes_first n (said (not_applied first count)) left one r = omega (arith, one)
comes_first n (said (finished_receiving id)) left one r = omega (arith, one)
comes_first n (said (terminate id code reason)) left one r = omega (arith, one)
comes_first n (entry payload) left one r = omega (arith, one)

soft_gap : (h : List Entry) (writer reader : State) (p : Piece) (left back : List Piece) (at now : ℕ) → Follows h writer reader (p ∷ left) back → Lies reader.facts reader.held → reader.ending ≡ None → is_closing reader.facts.connection.phase ≡ false
    → (is_shaken writer.facts.connection.phase ≡ false → writer.facts.connection.own_finish ≡ own.Open) → Even writer.facts reader.facts (p ∷ left) back
    → in_frame finish (incoming_of p) ≡ 1 → reader.facts.connection.soft ≡ true → gap_of (around reader at now) reader.facts ≡ None
soft_gap h writer reader p left back at now f lies none yet untold b comes soft = by_flow (is_recoverable reader.config.peer_flow)
  where
    r : Receiving
    r = reader.facts.connection.receiver

    shaken : is_shaken writer.facts.connection.phase ≡ true
    shaken = by_bool _ (is_shaken writer.facts.connection.phase) (λ t. t)
        (λ before. let nothing = ap told_of (untold before) in let fi = b.finish in let one = in_so finish p in absurd (omega (arith, nothing, fi, one, comes)))

    firm : goes_softly reader.facts ≡ false
    firm = by_bool _ (goes_softly reader.facts) (λ softly. absurd (comes_first r.next p left comes ((f.expects none yet).restarts softly shaken))) (λ t. t)

    no_more : nat_lt r.next r.live ≡ false
    no_more = ap (λ s. s && nat_lt r.next r.live) (sym soft) ∙ firm

    unheld : gap_end (least reader.held) r.live ≡ r.live
    unheld = ap (λ (ms : List Held). gap_end (least ms) r.live) (lies.soft soft)

    past : nat_lt r.next (gap_end (least reader.held) r.live) ≡ false
    past = ap (λ (k : ℕ). nat_lt r.next k) unheld ∙ no_more

    whole : Range
    whole = record { from = r.next; count = gap_end (least reader.held) r.live - r.next }

    by_flow : (rec : Bool) → (if rec then receiver_is.gap (least reader.held) r else None) ≡ None
    by_flow true = ap (λ (t : Bool). if t then Some whole else None) past
    by_flow false = refl

-- the initiator reads
initiator_reading : (hi ha : List Entry) (w : World) (way : List Piece) (at now : ℕ) → w.homeward ≡ way → Counted hi ha w → MayRead w.initiator → WhileGoing w → WhileGoing (initiator_read w way at now)
initiator_reading hi ha w [] at now e n may b go = b go
initiator_reading hi ha w (p ∷ left) at now e n may b go = record {
  outward = subst (λ (f : Facts). Even f w.acceptor.facts (w.outward ++ written s (reading p at now)) left) (sym rd.facts)
      (subst (λ (out : List Piece). Even o.next w.acceptor.facts (w.outward ++ out) left) (sym rd.writes)
      (even_answered (is_initiator s.config.role) s.facts o.next w.acceptor.facts p w.outward left o.written ev (subst (λ (ps : List Piece). Even s.facts w.acceptor.facts w.outward ps) e before.outward)));
  homeward = subst (λ (f : Facts). Even w.acceptor.facts f left (w.outward ++ written s (reading p at now))) (sym rd.facts)
      (subst (λ (out : List Piece). Even w.acceptor.facts o.next left (w.outward ++ out)) (sym rd.writes)
      (even_read (is_initiator s.config.role) w.acceptor.facts s.facts o.next p left w.outward o.written ev
      (comes_by ha w.acceptor s w.homeward w.outward (numbered_of hi ha w n).homeward may.0.going yet)
      (is_answer s.facts p (subst (λ (ps : List Piece). AllByRecursion (Answers s.facts.connection.requester) ps) e ((numbered_of hi ha w n).homeward.expects may.0.going yet).answers).0)
      (both.1 early)
      (subst (λ (ps : List Piece). Even w.acceptor.facts s.facts ps w.outward) e before.homeward)));
  opens = λ begun. opening_now (sym (ap (λ (f : Facts). is_idle f.connection.phase) rd.facts) ∙ begun);
  shuts = (
    let ap1 = way_append shutting w.outward (said_all o.written) in
        let sa = said_counts shutting o.written in
        let no = ev.opens.shuts in
        let z = before.shuts.0 in
        subst (λ (out : List Piece). under_way shutting (w.outward ++ out) ≡ 0) (sym rd.writes) (omega (arith, ap1, sa, no, z)),
    let z : under_way shutting (p ∷ left) ≡ 0 = subst (λ (ps : List Piece). under_way shutting ps ≡ 0) e before.shuts.1 in
        omega (arith, z),
  );
}
  where
    s : State
    s = w.initiator

    x : Around
    x = around s at now

    o : Outcome
    o = reply_of x s.facts (incoming_of p)

    rd : Reads s (incoming_of p) o (run s (reading p at now)) (written s (reading p at now))
    rd = reads_as s p at now

    yet : is_closing s.facts.connection.phase ≡ false
    yet = yet_before x s.facts p (ap (λ (f : Facts). is_closing f.connection.phase) (sym rd.facts) ∙ go.yet)

    before : Evenly w
    before = b (record { initiator = may.0.going; acceptor = go.acceptor; yet = yet })

    both : Evens (is_initiator s.config.role) s.facts (incoming_of p) o.next o.written × WaitsOn x s.facts (incoming_of p) o.next
    both = replies_even x s.facts (incoming_of p) yet (sym rd.ending ∙ go.initiator)

    ev : Evens (is_initiator s.config.role) s.facts (incoming_of p) o.next o.written
    ev = both.0

    early : in_frame finish (incoming_of p) ≡ 1 → s.facts.connection.soft ≡ true → gap_of x s.facts ≡ None
    early comes soft = soft_gap ha w.acceptor s p left w.outward at now (subst (λ (ps : List Piece). Follows ha w.acceptor s ps w.outward) e (numbered_of hi ha w n).homeward) (n.initiator_lies may.0.going yet) may.0.going yet
        (λ before_it. (acceptor_quiet s.config w.acceptor.config s.facts s.ending w.acceptor.facts w.outward w.homeward n.holds.shaking before_it).untold)
        (subst (λ (ps : List Piece). Even w.acceptor.facts s.facts ps w.outward) e before.homeward) comes soft

    role : is_initiator s.config.role ≡ true
    role = ap (λ r. is_initiator r) n.holds.matches.initiates

    opening_now : is_idle o.next.connection.phase ≡ false → under_way opening (w.outward ++ written s (reading p at now)) + under_way opening left ≡ unshaken (run s (reading p at now)).facts
    opening_now begun =
        let was : is_idle s.facts.connection.phase ≡ false = by_bool _ (is_idle s.facts.connection.phase) (λ idle. absurd (true≢false (sym (ev.opens.idle role idle) ∙ begun))) (λ k. k) in
        let z : under_way opening w.outward + under_way opening (p ∷ left) ≡ unshaken s.facts = subst (λ (ps : List Piece). under_way opening w.outward + under_way opening ps ≡ unshaken s.facts) e (before.opens was) in
        let po = in_so opening p in
        let a = way_append opening w.outward (said_all o.written) in
        let sa = said_counts opening o.written in
        let eq = ev.opens.initiator role in
        subst (λ (f : Facts). under_way opening (w.outward ++ written s (reading p at now)) + under_way opening left ≡ unshaken f) (sym rd.facts)
        (subst (λ (out : List Piece). under_way opening (w.outward ++ out) + under_way opening left ≡ unshaken o.next) (sym rd.writes) (omega (arith, z, po, a, sa, eq)))

-- the acceptor reads
acceptor_reading : (hi ha : List Entry) (w : World) (way : List Piece) (at now : ℕ) → w.outward ≡ way → Counted hi ha w → MayRead w.acceptor → WhileGoing w → WhileGoing (acceptor_read w way at now)
acceptor_reading hi ha w [] at now e n may b go = b go
acceptor_reading hi ha w (p ∷ left) at now e n may b go = record {
  homeward = subst (λ (f : Facts). Even f w.initiator.facts (w.homeward ++ written s (reading p at now)) left) (sym rd.facts)
      (subst (λ (out : List Piece). Even o.next w.initiator.facts (w.homeward ++ out) left) (sym rd.writes)
      (even_answered (is_initiator s.config.role) s.facts o.next w.initiator.facts p w.homeward left o.written ev (subst (λ (ps : List Piece). Even s.facts w.initiator.facts w.homeward ps) e before.homeward)));
  outward = subst (λ (f : Facts). Even w.initiator.facts f left (w.homeward ++ written s (reading p at now))) (sym rd.facts)
      (subst (λ (out : List Piece). Even w.initiator.facts o.next left (w.homeward ++ out)) (sym rd.writes)
      (even_read (is_initiator s.config.role) w.initiator.facts s.facts o.next p left w.homeward o.written ev
      (comes_by hi w.initiator s w.outward w.homeward (numbered_of hi ha w n).outward may.0.going yet.1)
      (is_answer s.facts p (subst (λ (ps : List Piece). AllByRecursion (Answers s.facts.connection.requester) ps) e ((numbered_of hi ha w n).outward.expects may.0.going yet.1).answers).0)
      (both.1 early)
      (subst (λ (ps : List Piece). Even w.initiator.facts s.facts ps w.homeward) e before.outward)));
  opens = λ begun.
      (let z : under_way opening (p ∷ left) + under_way opening w.homeward ≡ unshaken w.initiator.facts = subst (λ (ps : List Piece). under_way opening ps + under_way opening w.homeward ≡ unshaken w.initiator.facts) e (before.opens begun) in
      let po = in_so opening p in
      let a = way_append opening w.homeward (said_all o.written) in
      let sa = said_counts opening o.written in
      let eq = ev.opens.acceptor role yet.0 in
      subst (λ (out : List Piece). under_way opening left + under_way opening (w.homeward ++ out) ≡ unshaken w.initiator.facts) (sym rd.writes) (omega (arith, z, po, a, sa, eq)));
  shuts = (
    let z : under_way shutting (p ∷ left) ≡ 0 = subst (λ (ps : List Piece). under_way shutting ps ≡ 0) e before.shuts.0 in
        omega (arith, z),
    let ap1 = way_append shutting w.homeward (said_all o.written) in
        let sa = said_counts shutting o.written in
        let no = ev.opens.shuts in
        let z = before.shuts.1 in
        subst (λ (out : List Piece). under_way shutting (w.homeward ++ out) ≡ 0) (sym rd.writes) (omega (arith, ap1, sa, no, z)),
  );
}
  where
    s : State
    s = w.acceptor

    x : Around
    x = around s at now

    o : Outcome
    o = reply_of x s.facts (incoming_of p)

    rd : Reads s (incoming_of p) o (run s (reading p at now)) (written s (reading p at now))
    rd = reads_as s p at now

    yet : ((is_negotiating s.facts.connection.phase || is_establishing s.facts.connection.phase) ≡ false) × (is_closing s.facts.connection.phase ≡ false)
    yet = acceptor_phase w.initiator.config s.config w.initiator.facts w.initiator.ending s.facts w.outward w.homeward n.holds.shaking

    before : Evenly w
    before = b (record { initiator = go.initiator; acceptor = may.0.going; yet = go.yet })

    both : Evens (is_initiator s.config.role) s.facts (incoming_of p) o.next o.written × WaitsOn x s.facts (incoming_of p) o.next
    both = replies_even x s.facts (incoming_of p) yet.1 (sym rd.ending ∙ go.acceptor)

    ev : Evens (is_initiator s.config.role) s.facts (incoming_of p) o.next o.written
    ev = both.0

    early : in_frame finish (incoming_of p) ≡ 1 → s.facts.connection.soft ≡ true → gap_of x s.facts ≡ None
    early comes soft = soft_gap hi w.initiator s p left w.homeward at now (subst (λ (ps : List Piece). Follows hi w.initiator s ps w.homeward) e (numbered_of hi ha w n).outward) (n.acceptor_lies may.0.going yet.1) may.0.going yet.1
        (λ before_it. (initiator_quiet w.initiator.config s.config w.initiator.facts w.initiator.ending s.facts w.outward w.homeward n.holds.shaking before_it).untold)
        (subst (λ (ps : List Piece). Even w.initiator.facts s.facts ps w.homeward) e before.outward) comes soft

    role : is_initiator s.config.role ≡ false
    role = ap (λ r. is_initiator r) n.holds.matches.accepts

-- a call that may come is none that begins a connection or reads
other_beside : (h : List Entry) (call : Call) → IsOther h call → IsBeside call
other_beside h (begin now) other = absurd other
other_beside h (frame incoming at now) other = absurd other
other_beside h (bad_frame at now) other = absurd other
other_beside h (did now) other = absurd other
other_beside h (tick now) other = tt
other_beside h (turn_done now) other = tt
other_beside h (closed last now) other = tt
other_beside h link_end other = tt
other_beside h (live payloads now) other = tt
other_beside h (again payloads now) other = tt
other_beside h (taken count) other = tt
other_beside h reserve other = tt
other_beside h held_done other = tt

-- what a call makes of an end that goes on behind it
pub stays_even : (h : List Entry) (s : State) (call : Call) → IsOther h call → (step s call).ending ≡ None → is_closing (step s call).facts.connection.phase ≡ false → StaysEven s (run s (call ∷ [])) (written s (call ∷ []))
stays_even h s call other none yet = subst (λ (out : List Piece). StaysEven s (step s call) out) (sym (append-nil (writes s call))) (calls_even s call (other_beside h call other) none yet)

initiator_doing : (hi ha : List Entry) (w : World) (call : Call) → Counted hi ha w → IsOther hi call → MayStand hi w.initiator call → WhileGoing w → WhileGoing (after w (initiator_does call))
initiator_doing hi ha w call n other may b go = record {
  outward = even_told s (step s call) w.acceptor.facts w.outward w.homeward out k before.outward;
  homeward = even_still w.acceptor.facts s (step s call) w.homeward w.outward out k (n.initiator_lies going yet).coming before.homeward;
  opens = λ begun.
      (let z = before.opens (sym (ap (λ p. is_idle p) k.phase) ∙ begun) in
      let a = way_append opening w.outward out in
      let no = k.openings in
      let u = ap (λ p. unshaken_of (is_shaken p)) k.phase in
      omega (arith, z, a, no, u));
  shuts = (let a = way_append shutting w.outward out in let z = before.shuts.0 in let no = k.closings in omega (arith, a, z, no), before.shuts.1);
}
  where
    s : State
    s = w.initiator

    out : List Piece
    out = written s (call ∷ [])

    k : StaysEven s (step s call) out
    k = stays_even hi s call other go.initiator go.yet

    going : s.ending ≡ None
    going = was_none s.ending (step s call).ending (does_as hi s call other may n.holds.initiator.serves n.holds.initiator_window.opening).over go.initiator

    yet : is_closing s.facts.connection.phase ≡ false
    yet = ap (λ p. is_closing p) (sym k.phase) ∙ go.yet

    before : Evenly w
    before = b (record { initiator = going; acceptor = go.acceptor; yet = yet })

acceptor_doing : (hi ha : List Entry) (w : World) (call : Call) → Counted hi ha w → IsOther ha call → MayStand ha w.acceptor call → WhileGoing w → WhileGoing (after w (acceptor_does call))
acceptor_doing hi ha w call n other may b go = record {
  homeward = even_told s (step s call) w.initiator.facts w.homeward w.outward out k before.homeward;
  outward = even_still w.initiator.facts s (step s call) w.outward w.homeward out k (n.acceptor_lies going yet).coming before.outward;
  opens = λ begun. let z = before.opens begun in let a = way_append opening w.homeward out in let no = k.openings in omega (arith, z, a, no);
  shuts = (before.shuts.0, let a = way_append shutting w.homeward out in let z = before.shuts.1 in let no = k.closings in omega (arith, a, z, no));
}
  where
    s : State
    s = w.acceptor

    out : List Piece
    out = written s (call ∷ [])

    d : Does s (step s call) out
    d = does_as ha s call other may n.holds.acceptor.serves n.holds.acceptor_window.opening

    yet : is_closing s.facts.connection.phase ≡ false
    yet = (acceptor_phase w.initiator.config s.config w.initiator.facts w.initiator.ending s.facts w.outward w.homeward n.holds.shaking).1

    k : StaysEven s (step s call) out
    k = stays_even ha s call other go.acceptor (ap (λ p. is_closing p) (d.accepts (ap (λ r. is_initiator r) n.holds.matches.accepts)) ∙ yet)

    going : s.ending ≡ None
    going = was_none s.ending (step s call).ending d.over go.acceptor

    before : Evenly w
    before = b (record { initiator = go.initiator; acceptor = going; yet = go.yet })

-- a connection begins
record Begins (initiates : Bool) (f : Facts) (ms : List Message) : Type 0 where
  finishes : under_way finish (said_all ms) ≡ 0
  answers : under_way answer (said_all ms) ≡ 0
  requests : under_way request (said_all ms) ≡ 0
  restarts : under_way restart (said_all ms) ≡ 0
  shuts : under_way shutting (said_all ms) ≡ 0
  opens : initiates ≡ true → under_way opening (said_all ms) ≡ unshaken f
  waits : initiates ≡ false → under_way opening (said_all ms) ≡ 0
  read : read f ≡ 0
  answered : answered f ≡ 0
  told : told f ≡ 0
  exchanged : exchanged f ≡ 0
  unanswered : unanswered f ≡ 0
  fills : Fills f.connection.receiver.next f.connection.requester

begins : (x : Around) (recorded : EndState) → Begins (is_initiator x.config.role) (begun x recorded).next (begun x recorded).written
begins x recorded = by_case (is_initiator x.config.role) recorded.negotiated
  where
    by_case : (i n : Bool) → Begins i (begun_as x recorded i n).next (begun_as x recorded i n).written
    by_case true true = record { finishes = refl; answers = refl; requests = refl; restarts = refl; shuts = refl; opens = λ _. refl; waits = λ e. absurd (true≢false e); read = refl; answered = refl; told = refl; exchanged = refl; unanswered = refl; fills = tt }
    by_case true false = record { finishes = refl; answers = refl; requests = refl; restarts = refl; shuts = refl; opens = λ _. refl; waits = λ e. absurd (true≢false e); read = refl; answered = refl; told = refl; exchanged = refl; unanswered = refl; fills = tt }
    by_case false n = record { finishes = refl; answers = refl; requests = refl; restarts = refl; shuts = refl; opens = λ e. absurd (true≢false (sym e)); waits = λ _. refl; read = refl; answered = refl; told = refl; exchanged = refl; unanswered = refl; fills = tt }

-- nothing is asked for then
pub begins_filled : (x : Around) (recorded : EndState) → Fills (begun x recorded).next.connection.receiver.next (begun x recorded).next.connection.requester
begins_filled x recorded = (begins x recorded).fills

first_even : {i j : Bool} (f g : Facts) (ms ns : List Message) → Begins i f ms → Begins j g ns → Even f g (said_all ms) (said_all ns)
first_even f g ms ns a b =
    let fi = a.finishes in
    let re = a.restarts in
    let to = a.told in
    let xc = a.exchanged in
    let rd = b.read in
    let an = b.answered in
    let na = b.answers in
    let nq = b.requests in
    let un = b.unanswered in
    record { finish = omega (arith, fi, rd, na, to); exchanged = omega (arith, an, na, xc); request = omega (arith, nq, re, un); fills = b.fills; waits = λ now. absurd (omega (arith, rd, now)) }

meeting : (hi ha : List Entry) (w : World) (now_i now_a : ℕ) → Counted hi ha w → WhileGoing (after w (meets now_i now_a))
meeting hi ha w now_i now_a n go =
    let a = begins (around w.initiator 0 now_i) w.initiator.facts.recorded in
    let b = begins (around w.acceptor 0 now_a) w.acceptor.facts.recorded in
    let i : World = after w (meets now_i now_a) in
    record {
      outward = first_even i.initiator.facts i.acceptor.facts _ _ a b;
      homeward = first_even i.acceptor.facts i.initiator.facts _ _ b a;
      opens = λ _. let one = a.opens (ap (λ r. is_initiator r) n.holds.matches.initiates) in let none = b.waits (ap (λ r. is_initiator r) n.holds.matches.accepts) in omega (arith, one, none);
      shuts = (a.shuts, b.shuts);
    }

even_step : (hi ha : List Entry) (w : World) (s : Step) → Counted hi ha w → MayStep hi ha w s → WhileGoing w → WhileGoing (after w s)
even_step hi ha w (meets now_i now_a) n may b = meeting hi ha w now_i now_a n
even_step hi ha w (initiator_reads at now) n may b = initiator_reading hi ha w w.homeward at now refl n may b
even_step hi ha w (acceptor_reads at now) n may b = acceptor_reading hi ha w w.outward at now refl n may b
even_step hi ha w (initiator_does call) n may b = initiator_doing hi ha w call n may.0 may.1 b
even_step hi ha w (acceptor_does call) n may b = acceptor_doing hi ha w call n may.0 may.1 b

even_after : (hi ha : List Entry) (w : World) (steps : List Step) → Counted hi ha w → AllMayStep hi ha w steps → WhileGoing w → WhileGoing (world_after w steps)
even_after hi ha w [] n may b = b
even_after hi ha w (s ∷ later) n may b = even_after hi ha (after w s) later (counted_step hi ha w s n may.0) may.1 (even_step hi ha w s n may.0 b)

-- at the beginning nothing is under way, and nothing is waited for
fresh_even : (i a : State) (outward homeward : List Piece) → i ≡ fresh i.config i.facts.recorded i.most → a ≡ fresh a.config a.facts.recorded a.most → outward ≡ [] → homeward ≡ [] → Even i.facts a.facts outward homeward
fresh_even i a outward homeward new_i new_a none_out none_home =
    let fi = ap (λ ps. under_way finish ps) none_out in
    let re = ap (λ ps. under_way restart ps) none_out in
    let na = ap (λ ps. under_way answer ps) none_home in
    let nq = ap (λ ps. under_way request ps) none_home in
    let to = ap (λ (s : State). told s.facts) new_i in
    let xc = ap (λ (s : State). exchanged s.facts) new_i in
    let rd = ap (λ (s : State). read s.facts) new_a in
    let an = ap (λ (s : State). answered s.facts) new_a in
    let un = ap (λ (s : State). unanswered s.facts) new_a in
    record {
      finish = omega (arith, fi, rd, na, to);
      exchanged = omega (arith, an, na, xc);
      request = omega (arith, nq, re, un);
      fills = subst (λ (q : Request). Fills a.facts.connection.receiver.next q) (sym (ap (λ (s : State). s.facts.connection.requester) new_a)) tt;
      waits = λ now. absurd (omega (arith, rd, now));
    }

even_at_first : (hi ha : List Entry) (w : World) → StartsKnown hi ha w → WhileGoing w
even_at_first hi ha w st go =
    let start = st.0 in
    record {
      outward = fresh_even w.initiator w.acceptor w.outward w.homeward start.initiator start.acceptor start.outward start.homeward;
      homeward = fresh_even w.acceptor w.initiator w.homeward w.outward start.acceptor start.initiator start.homeward start.outward;
      opens = λ begun. absurd (true≢false (sym (ap (λ (s : State). is_idle s.facts.connection.phase) start.initiator) ∙ begun));
      shuts = (ap (λ ps. under_way shutting ps) start.outward, ap (λ ps. under_way shutting ps) start.homeward);
    }

-- a machine that is fresh has no gap
first_gap : (s : State) → s ≡ fresh s.config s.facts.recorded s.most → gap_in s ≡ None
first_gap s new = ap (λ (t : State). gap_in t) new ∙ asks_unheld (around (fresh s.config s.facts.recorded s.most) 0 0) (connecting s.facts.recorded phases.Idle) refl (no_gap s.facts.recorded.inbox_next s.facts.recorded.inbox_next refl)

exact : (writer reader : State) (way back : List Piece) → Even writer.facts reader.facts way back → gap_in reader ≡ None → Exact writer reader way back
exact writer reader way back e gap = record { finish = e.finish; exchanged = e.exchanged; request = e.request; fills = e.fills; asks = gap; waits = e.waits }

pub standing_holds : StandingHolds
standing_holds hi ha w steps st may go =
    let n = counted_at_first hi ha w st in
    let b = even_after hi ha w steps n may (even_at_first hi ha w st) go in
    let k = keep_after hi ha w steps n may in
    let now : World = world_after w steps in
    record {
      outward = exact now.initiator now.acceptor now.outward now.homeward b.outward (k.acceptor.asked (λ _. first_gap w.acceptor st.0.acceptor) go.acceptor);
      homeward = exact now.acceptor now.initiator now.homeward now.outward b.homeward (k.initiator.asked (λ _. first_gap w.initiator st.0.initiator) go.initiator);
      opens = b.opens;
      shuts = b.shuts;
    }
