-- That one of two ends has something to do.
use Rattle.std.proofs.Common.{◌≡◌, ◌⊎◌, inl, inr, ℕ, ◌≤◌, ◌==◌, ◌&&◌, ◌||◌, nat_lt, not, Bool, true, false, List, [], ◌∷◌, length, take, Option, Some, None, refl, sym, ap, subst, ◌∙◌, arith, eq-eqb, true≢false}
use Rattle.std.specs.Prelude.{is_some, is_none}
use Rattle.std.proofs.lemmas.Bool.{ltb-true, ltb-false}
use Rattle.std.proofs.lemmas.List.{take_all}
use Rattle.session_model.specs.Journal.{Entry, History}
use Rattle.fixp_msgs.specs.declared.numbering.Range.{Range}
use Rattle.fixp_msgs.specs.Message.{negotiate, negotiation_response, negotiation_reject, establish, establishment_ack, establishment_reject, sequence, unsequenced_heartbeat, retransmit_request, retransmission, retransmit_reject, applied, not_applied, finished_sending, finished_receiving, terminate}
use Rattle.flow_retrans.specs.declared.request.Request.{Request}
use Rattle.flow_retrans.specs.declared.request.Request.TheVariants as requests
use Rattle.flow_retrans.specs.Requests as request_is
use Rattle.fixp_shake.specs.declared.config.EndConfig.{EndConfig}
use Rattle.fixp_msgs.specs.declared.flow.Flow.{Flow}
use Rattle.fixp_shake.specs.declared.phase.Phase.{Phase}
use Rattle.fixp_shake.specs.declared.phase.Phase.TheVariants as phases
use Rattle.fixp_shake.specs.Flows.{is_absent}
use Rattle.fixp_shake.specs.Phases.{is_established, is_closing, is_shaken}
use Rattle.fixp_replies.specs.declared.act.Ending.{Ending}
use Rattle.fixp_replies.specs.declared.facts.Facts.{Facts}
use Rattle.fixp_replies.specs.declared.facts.OwnFinish.{OwnFinish}
use Rattle.fixp_replies.specs.declared.facts.OwnFinish.TheVariants as own
use Rattle.fixp_replies.specs.declared.facts.PeerFinish.{PeerFinish}
use Rattle.fixp_replies.specs.declared.facts.PeerFinish.TheVariants as peer
use Rattle.fixp_replies.specs.Facts.{is_initiator, is_open, own_is_exchanged, peer_is_exchanged, finishes_exchanged}
use Rattle.fixp_machine.specs.Machine.{State, around}
use Rattle.connection_laws.specs.Writing.{Piece, said, entry}
use Rattle.honest_ends.specs.Worlds.{World, world_after}
use Rattle.honest_ends.proofs.Asking.{turns, inside, coming, is_serving}
use Rattle.honest_ends.proofs.Phased as phased
use Rattle.honest_ends.proofs.Phased.{Shaking}
use Rattle.honest_ends.proofs.Numbering.{Counted, counted_at_first, counted_after, numbered_of}
use Rattle.drain_laws.specs.Counts.{finish, answer, request, restart, opening, shutting, under_way, in_piece, read_of, answered_of, told_of, exchanged_of, unanswered_of, unshaken_of, read, answered, told, exchanged, unshaken}
use Rattle.drain_ends.specs.Standing.{BothGo, Exact, Standing}
use Rattle.drain_ends.specs.Acting.{is_beat_of, is_beat, all_beats, is_sequence_of, is_sequence, has_sequence, Acts, BeatsFirst, HasToDo, IsWhole, SomethingToDo}
use Rattle.drain_ends.specs.Acting as acts
use Rattle.honest_ends.proofs.Serving.{by_bool}
use Rattle.drain_ends.proofs.Stood.{standing_holds, acceptor_phase}

-- of heartbeats alone none is counted
pub record NotCounted (ps : List Piece) : Type 0 where
  pub finishes : under_way finish ps ≡ 0
  pub answers : under_way answer ps ≡ 0
  pub requests : under_way request ps ≡ 0
  pub restarts : under_way restart ps ≡ 0
  pub openings : under_way opening ps ≡ 0
  pub shuttings : under_way shutting ps ≡ 0

record NotOne (p : Piece) : Type 0 where
  no_finish : in_piece finish p ≡ 0
  no_answer : in_piece answer p ≡ 0
  no_request : in_piece request p ≡ 0
  no_restart : in_piece restart p ≡ 0
  no_opening : in_piece opening p ≡ 0
  no_shutting : in_piece shutting p ≡ 0

beat_is_none : (p : Piece) → is_beat p ≡ true → NotOne p
beat_is_none (said (sequence next)) e = record { no_finish = refl; no_answer = refl; no_request = refl; no_restart = refl; no_opening = refl; no_shutting = refl }
beat_is_none (said unsequenced_heartbeat) e = record { no_finish = refl; no_answer = refl; no_request = refl; no_restart = refl; no_opening = refl; no_shutting = refl }
beat_is_none (said (negotiate id timestamp flow credentials)) e = absurd (true≢false (sym e))
beat_is_none (said (negotiation_response id timestamp flow credentials)) e = absurd (true≢false (sym e))
beat_is_none (said (negotiation_reject id timestamp code reason)) e = absurd (true≢false (sym e))
beat_is_none (said (establish id timestamp keepalive next expected credentials)) e = absurd (true≢false (sym e))
beat_is_none (said (establishment_ack id timestamp keepalive next expected)) e = absurd (true≢false (sym e))
beat_is_none (said (establishment_reject id timestamp code reason)) e = absurd (true≢false (sym e))
beat_is_none (said (retransmit_request id timestamp first count)) e = absurd (true≢false (sym e))
beat_is_none (said (retransmission id next timestamp count)) e = absurd (true≢false (sym e))
beat_is_none (said (retransmit_reject id timestamp code reason)) e = absurd (true≢false (sym e))
beat_is_none (said (applied first count)) e = absurd (true≢false (sym e))
beat_is_none (said (not_applied first count)) e = absurd (true≢false (sym e))
beat_is_none (said (finished_sending id last)) e = absurd (true≢false (sym e))
beat_is_none (said (finished_receiving id)) e = absurd (true≢false (sym e))
beat_is_none (said (terminate id code reason)) e = absurd (true≢false (sym e))
beat_is_none (entry payload) e = absurd (true≢false (sym e))

both_true : (a b : Bool) → (a && b) ≡ true → (a ≡ true) × (b ≡ true)
both_true true true e = (refl, refl)
both_true true false e = absurd (true≢false (sym e))
both_true false b e = absurd (true≢false (sym e))

pub beats_none : (ps : List Piece) → all_beats ps ≡ true → NotCounted ps
beats_none [] e = record { finishes = refl; answers = refl; requests = refl; restarts = refl; openings = refl; shuttings = refl }
beats_none (p ∷ ps) e =
    let both = both_true (is_beat p) (all_beats ps) e in
    let one = beat_is_none p both.0 in
    let later = beats_none ps both.1 in
    let a = one.no_finish in
    let b = one.no_answer in
    let c = one.no_request in
    let d = one.no_restart in
    let o = one.no_opening in
    let s = one.no_shutting in
    let f = later.finishes in
    let g = later.answers in
    let h = later.requests in
    let r = later.restarts in
    let q = later.openings in
    let t = later.shuttings in
    record { finishes = omega (arith, a, f); answers = omega (arith, b, g); requests = omega (arith, c, h); restarts = omega (arith, d, r); openings = omega (arith, o, q); shuttings = omega (arith, s, t) }

-- where the initiator's handshake is done, so is the acceptor's
acceptor_done : (ci ca : EndConfig) (fi : Facts) (ei : Option Ending) (fa : Facts) (outward homeward : List Piece) → Shaking ci ca fi ei fa outward homeward → is_shaken fi.connection.phase ≡ true → is_established fa.connection.phase ≡ true
acceptor_done ci ca fi ei fa outward homeward (phased.opens before qi idle qa one free) done = absurd (true≢false (sym done ∙ before))
acceptor_done ci ca fi ei fa outward homeward (phased.answering before qi idle qa free one) done = absurd (true≢false (sym done ∙ before))
acceptor_done ci ca fi ei fa outward homeward (phased.acknowledging e qi est free first) done = absurd (true≢false (sym done ∙ ap (λ p. is_shaken p) e))
acceptor_done ci ca fi ei fa outward homeward (phased.standing shaken est out home) done = ap (λ p. is_established p) est
acceptor_done ci ca fi ei fa outward homeward (phased.refusing over before qi est free) done = absurd (true≢false (sym done ∙ before))

shaken_open : (p : Phase) → unshaken_of (is_shaken p) ≡ 0 → is_closing p ≡ false → is_established p ≡ true
shaken_open phases.Idle u yet = absurd (omega (arith, u))
shaken_open phases.Negotiating u yet = absurd (omega (arith, u))
shaken_open phases.Establishing u yet = absurd (omega (arith, u))
shaken_open phases.Established u yet = refl
shaken_open phases.Closing u yet = absurd (true≢false yet)
shaken_open phases.Ended u yet = absurd (omega (arith, u))

-- nothing is asked for where no answer is awaited and none comes in
unasked : (q : Request) → unanswered_of q ≡ 0 → request_is.is_coming q ≡ false → q ≡ requests.Nothing
unasked requests.Nothing u c = refl
unasked (requests.Asked range) u c = absurd (omega (arith, u))
unasked (requests.Coming range next left) u c = absurd (true≢false c)

read_not : (p : PeerFinish) → (read_of p ≡ 1 → ⊥) → read_of p ≡ 0
read_not peer.Open never = refl
read_not (peer.Read last) never = absurd (never refl)
read_not (peer.Exchanged last) never = refl

-- an own finish that is neither open nor awaits its answer
data Finish (q : OwnFinish) : Type 0 where
  open_yet : is_open q ≡ true → Finish q
  awaits : told_of q ≡ 1 → Finish q
  done : own_is_exchanged q ≡ true → exchanged_of q ≡ 1 → Finish q

finish_is : (q : OwnFinish) → Finish q
finish_is own.Open = open_yet refl
finish_is own.Told = awaits refl
finish_is own.Exchanged = done refl refl

answered_is : (p : PeerFinish) → answered_of p ≡ 1 → peer_is_exchanged p ≡ true
answered_is peer.Open e = absurd (omega (arith, e))
answered_is (peer.Read last) e = absurd (omega (arith, e))
answered_is (peer.Exchanged last) e = refl

five_true : (a b c d e : Bool) → a ≡ false → b ≡ true → c ≡ true → d ≡ true → e ≡ true → (not a && b && c && d && e) ≡ true
five_true false true true true true p q r s t = refl
five_true true b c d e p q r s t = absurd (true≢false p)
five_true false false c d e p q r s t = absurd (true≢false (sym q))
five_true false true false d e p q r s t = absurd (true≢false (sym r))
five_true false true true false e p q r s t = absurd (true≢false (sym s))
five_true false true true true false p q r s t = absurd (true≢false (sym t))

four_true : (a b c d : Bool) → a ≡ true → b ≡ true → c ≡ true → d ≡ true → (a && b && c && d) ≡ true
four_true true true true true p q r s = refl
four_true false b c d p q r s = absurd (true≢false (sym p))
four_true true false c d p q r s = absurd (true≢false (sym q))
four_true true true false d p q r s = absurd (true≢false (sym r))
four_true true true true false p q r s = absurd (true≢false (sym s))

none_serves : (s : Option Range) → is_some s ≡ false → is_none s ≡ true
none_serves None e = refl
none_serves (Some r) e = absurd (true≢false e)

two_true : (a b : Bool) → a ≡ true → b ≡ true → (a && b) ≡ true
two_true true true p q = refl
two_true false b p q = absurd (true≢false (sym p))
two_true true false p q = absurd (true≢false (sym q))

or_last : (a b c : Bool) → b ≡ true → c ≡ true → (a || (b && c)) ≡ true
or_last true b c p q = refl
or_last false true true p q = refl
or_last false false c p q = absurd (true≢false (sym p))
or_last false true false p q = absurd (true≢false (sym q))

-- one end, at rest but for its own flow: it has something to do, or its own finish is exchanged, or it has no own flow
abbrev OwnDone : State → Type 0
OwnDone s = ((own_is_exchanged s.facts.connection.own_finish ≡ true) × (exchanged s.facts ≡ 1)) ⊎ (is_absent s.config.own_flow ≡ true)

own_flow : (per_turn : ℕ) (h : List Entry) (seen : History) (s : State) (way : List Piece) → is_established s.facts.connection.phase ≡ true → is_some s.facts.connection.serving ≡ false → told s.facts ≡ 0 → s.facts.recorded.sent ≤ length seen.made → IsWhole h seen
    → Acts per_turn seen s way ⊎ OwnDone s
own_flow per_turn h seen s way est free none sent all = by_absent (is_absent s.config.own_flow) refl
  where
    by_finish : Finish s.facts.connection.own_finish → is_absent s.config.own_flow ≡ false → s.facts.recorded.sent ≡ length seen.made → Acts per_turn seen s way ⊎ OwnDone s
    by_finish (open_yet o) present whole =
        inl (acts.tells all.finished (five_true (is_absent s.config.own_flow) (is_established s.facts.connection.phase) (is_open s.facts.connection.own_finish) (s.facts.recorded.sent == length seen.made) (is_none s.facts.connection.serving)
        present est o (eq-eqb s.facts.recorded.sent (length seen.made) whole) (none_serves s.facts.connection.serving free)))
    by_finish (awaits one) present whole = absurd (omega (arith, one, none))
    by_finish (done e one) present whole = inr (inl (e, one))

    by_sent : (b : Bool) → nat_lt s.facts.recorded.sent (length seen.made) ≡ b → is_absent s.config.own_flow ≡ false → Acts per_turn seen s way ⊎ OwnDone s
    by_sent true t present = inl (acts.sends est present (ltb-true s.facts.recorded.sent (length seen.made) t))
    by_sent false t present = let low = ltb-false s.facts.recorded.sent (length seen.made) t in by_finish (finish_is s.facts.connection.own_finish) present (omega (arith, low, sent))

    by_absent : (b : Bool) → is_absent s.config.own_flow ≡ b → Acts per_turn seen s way ⊎ OwnDone s
    by_absent true t = inr (inr t)
    by_absent false t = by_sent (nat_lt s.facts.recorded.sent (length seen.made)) refl t

-- so many messages, or fewer
pub by_length : (P : Type 0) (n k : ℕ) → (n ≤ k → P) → (k ≤ n → P) → P
by_length P n k more few = by_bool P (nat_lt k n) (λ t. let h = ltb-true k n t in few (omega (arith, h))) (λ t. more (ltb-false k n t))

-- a retransmission that comes in, and no longer, has its Sequence among what is under way
turned_off : (p : Piece) → (is_sequence p ≡ true) ⊎ (turns p true ≡ true)
turned_off (said (sequence next)) = inl refl
turned_off (said unsequenced_heartbeat) = inr refl
turned_off (said (negotiate id timestamp flow credentials)) = inr refl
turned_off (said (negotiation_response id timestamp flow credentials)) = inr refl
turned_off (said (negotiation_reject id timestamp code reason)) = inr refl
turned_off (said (establish id timestamp keepalive next expected credentials)) = inr refl
turned_off (said (establishment_ack id timestamp keepalive next expected)) = inr refl
turned_off (said (establishment_reject id timestamp code reason)) = inr refl
turned_off (said (retransmit_request id timestamp first count)) = inr refl
turned_off (said (retransmission id next timestamp count)) = inr refl
turned_off (said (retransmit_reject id timestamp code reason)) = inr refl
turned_off (said (applied first count)) = inr refl
turned_off (said (not_applied first count)) = inr refl
turned_off (said (finished_sending id last)) = inr refl
turned_off (said (finished_receiving id)) = inr refl
turned_off (said (terminate id code reason)) = inr refl
turned_off (entry payload) = inr refl

sequence_in : (way : List Piece) → inside true way ≡ false → has_sequence way ≡ true
sequence_in [] none = absurd (true≢false none)
sequence_in (p ∷ later) none = by_turn (λ on. sequence_in later (ap (λ b. inside b later) (sym on) ∙ none)) (turned_off p)
  where
    or_second : (a b : Bool) → b ≡ true → (a || b) ≡ true
    or_second true b e = refl
    or_second false b e = e

    by_turn : (turns p true ≡ true → has_sequence later ≡ true) → (is_sequence p ≡ true) ⊎ (turns p true ≡ true) → (is_sequence p || has_sequence later) ≡ true
    by_turn more (inl is) = ap (λ b. b || has_sequence later) is
    by_turn more (inr on) = or_second (is_sequence p) (has_sequence later) (more on)

-- both ends, with nothing but heartbeats under way
at_rest : (most_i most_a : ℕ) (hi ha : List Entry) (w : World) (seen_i seen_a : History) → Counted hi ha w → Standing w → BothGo w → unshaken w.initiator.facts ≡ 0 → IsWhole hi seen_i → w.acceptor.facts.recorded.sent ≤ length seen_a.made
    → ((answered w.acceptor.facts ≡ 1) ⊎ (is_absent w.acceptor.config.peer_flow ≡ true) → IsWhole ha seen_a)
    → is_some w.initiator.facts.connection.serving ≡ false → is_some w.acceptor.facts.connection.serving ≡ false
    → NotCounted w.outward → NotCounted w.homeward → read w.initiator.facts ≡ 0 → read w.acceptor.facts ≡ 0 → HasToDo most_i most_a seen_i seen_a w
at_rest most_i most_a hi ha w seen_i seen_a n st go shaken whole sent marked free_i free_a out home unread_i unread_a = by_initiator (own_flow most_i hi seen_i w.initiator w.homeward est_i free_i told_i (let all = whole.all in let most = (numbered_of hi ha w n).outward.sent in omega (arith, all, most)) whole)
  where
    i : Facts
    i = w.initiator.facts

    a : Facts
    a = w.acceptor.facts

    est_i : is_established i.connection.phase ≡ true
    est_i = shaken_open i.connection.phase shaken go.yet

    done_i : is_shaken i.connection.phase ≡ true
    done_i = ap (λ b. b || is_closing i.connection.phase) est_i

    est_a : is_established a.connection.phase ≡ true
    est_a = acceptor_done w.initiator.config w.acceptor.config i w.initiator.ending a w.outward w.homeward n.holds.shaking done_i

    told_i : told i ≡ 0
    told_i = let e = st.outward.finish in let x = out.finishes in let y = home.answers in let z = unread_a in omega (arith, e, x, y, z)

    told_a : told a ≡ 0
    told_a = let e = st.homeward.finish in let x = home.finishes in let y = out.answers in let z = unread_i in omega (arith, e, x, y, z)

    -- a finish that is exchanged at its writer is answered at its reader
    answered_a : exchanged i ≡ 1 → answered a ≡ 1
    answered_a one = let e = st.outward.exchanged in let y = home.answers in omega (arith, e, y, one)

    answered_i : exchanged a ≡ 1 → answered i ≡ 1
    answered_i one = let e = st.homeward.exchanged in let y = out.answers in omega (arith, e, y, one)

    mark : OwnDone w.initiator → (answered a ≡ 1) ⊎ (is_absent w.acceptor.config.peer_flow ≡ true)
    mark (inl d) = inl (answered_a d.1)
    mark (inr absent) = inr (ap (λ (f : Flow). is_absent f) n.holds.matches.outward ∙ absent)

    own_part : OwnDone w.initiator → (own_is_exchanged i.connection.own_finish || (is_absent w.initiator.config.own_flow && is_shaken i.connection.phase)) ≡ true
    own_part (inl d) = ap (λ b. b || (is_absent w.initiator.config.own_flow && is_shaken i.connection.phase)) d.0
    own_part (inr absent) = or_last (own_is_exchanged i.connection.own_finish) (is_absent w.initiator.config.own_flow) (is_shaken i.connection.phase) absent done_i

    peer_part : OwnDone w.acceptor → (peer_is_exchanged i.connection.peer_finish || (is_absent w.initiator.config.peer_flow && is_shaken i.connection.phase)) ≡ true
    peer_part (inl d) = ap (λ b. b || (is_absent w.initiator.config.peer_flow && is_shaken i.connection.phase)) (answered_is i.connection.peer_finish (answered_i d.1))
    peer_part (inr absent) = or_last (peer_is_exchanged i.connection.peer_finish) (is_absent w.initiator.config.peer_flow) (is_shaken i.connection.phase) (ap (λ (f : Flow). is_absent f) n.holds.matches.homeward ∙ absent) done_i

    by_acceptor : OwnDone w.initiator → Acts most_a seen_a w.acceptor w.outward ⊎ OwnDone w.acceptor → HasToDo most_i most_a seen_i seen_a w
    by_acceptor mine (inl act) = acts.at_acceptor go.acceptor act
    by_acceptor mine (inr theirs) = acts.at_initiator go.initiator (acts.shuts (four_true (is_initiator w.initiator.config.role) (is_established i.connection.phase) (finishes_exchanged (around w.initiator 0 0) i) (is_none i.connection.serving)
        (ap (λ r. is_initiator r) n.holds.matches.initiates) est_i (two_true _ _ (own_part mine) (peer_part theirs)) (none_serves i.connection.serving free_i)))

    by_initiator : Acts most_i seen_i w.initiator w.homeward ⊎ OwnDone w.initiator → HasToDo most_i most_a seen_i seen_a w
    by_initiator (inl act) = acts.at_initiator go.initiator act
    by_initiator (inr mine) = by_acceptor mine (own_flow most_a ha seen_a w.acceptor w.outward est_a free_a told_a sent (marked (mark mine)))

pub something_to_do : SomethingToDo
something_to_do most_i most_a hi ha w steps seen_i seen_a known may go begun whole sent marked =
    by_bool _ (is_some i.connection.serving) (λ t. acts.at_initiator go.initiator (acts.serves t)) (λ free_i.
    by_bool _ (is_some a.connection.serving) (λ t. acts.at_acceptor go.acceptor (acts.serves t)) (λ free_a.
    by_bool _ (all_beats (take most_a now.outward)) (λ out_first.
    by_bool _ (all_beats (take most_i now.homeward)) (λ home_first.
    by_length _ most_a (length now.outward) (λ many. acts.outward_beats go.acceptor (record { many = many; beats = out_first })) (λ out_few.
    by_length _ most_i (length now.homeward) (λ many. acts.homeward_beats go.initiator (record { many = many; beats = home_first })) (λ home_few.
    quiet free_i free_a out_few home_few
    (subst (λ (ps : List Piece). all_beats ps ≡ true) (take_all most_a now.outward out_few) out_first)
    (subst (λ (ps : List Piece). all_beats ps ≡ true) (take_all most_i now.homeward home_few) home_first))))
    (λ other. acts.at_initiator go.initiator (acts.reads other))) (λ other. acts.at_acceptor go.acceptor (acts.reads other))))
  where
    now : World
    now = world_after w steps

    i : Facts
    i = now.initiator.facts

    a : Facts
    a = now.acceptor.facts

    n : Counted hi ha now
    n = counted_after hi ha w steps (counted_at_first hi ha w known) may

    st : Standing now
    st = standing_holds hi ha w steps known may go

    yet_a : is_closing a.connection.phase ≡ false
    yet_a = (acceptor_phase now.initiator.config now.acceptor.config i now.initiator.ending a now.outward now.homeward n.holds.shaking).1

    -- what comes in to an end has its Sequence under way, where nothing is served
    nothing_comes : (per_turn : ℕ) (writer reader : Facts) (way : List Piece) → inside (coming reader) way ≡ is_serving writer → is_serving writer ≡ false → coming reader ≡ true → length way ≤ per_turn → has_sequence (take per_turn way) ≡ true
    nothing_comes per_turn writer reader way even free comes few =
        subst (λ (ps : List Piece). has_sequence ps ≡ true) (sym (take_all per_turn way few)) (sequence_in way (ap (λ b. inside b way) (sym comes) ∙ (even ∙ free)))

    quiet : is_some i.connection.serving ≡ false → is_some a.connection.serving ≡ false → length now.outward ≤ most_a → length now.homeward ≤ most_i → all_beats now.outward ≡ true → all_beats now.homeward ≡ true → HasToDo most_i most_a seen_i seen_a now
    quiet free_i free_a out_few home_few out home =
        by_bool _ (request_is.is_coming a.connection.requester)
        (λ comes. acts.at_acceptor go.acceptor (acts.ends_range (est_a out home) comes (nothing_comes most_a i a now.outward (n.holds.outward_requests.even go.acceptor yet_a) free_i comes out_few)))
        (λ none_a. by_bool _ (request_is.is_coming i.connection.requester)
        (λ comes. acts.at_initiator go.initiator (acts.ends_range (est_i out home) comes (nothing_comes most_i a i now.homeward (n.holds.homeward_requests.even go.initiator go.yet) free_a comes home_few)))
        (λ none_i. at_rest most_i most_a hi ha now seen_i seen_a n st go (shaken_now out home) whole sent marked free_i free_a (beats_none now.outward out) (beats_none now.homeward home)
        (unread now.acceptor now.initiator now.homeward now.outward st.homeward (beats_none now.homeward home) (beats_none now.outward out) none_i)
        (unread now.initiator now.acceptor now.outward now.homeward st.outward (beats_none now.outward out) (beats_none now.homeward home) none_a)))
      where
        shaken_now : all_beats now.outward ≡ true → all_beats now.homeward ≡ true → unshaken i ≡ 0
        shaken_now out home = let e = st.opens begun in let x = (beats_none now.outward out).openings in let y = (beats_none now.homeward home).openings in omega (arith, e, x, y)

        est_i : all_beats now.outward ≡ true → all_beats now.homeward ≡ true → is_established i.connection.phase ≡ true
        est_i out home = shaken_open i.connection.phase (shaken_now out home) go.yet

        est_a : all_beats now.outward ≡ true → all_beats now.homeward ≡ true → is_established a.connection.phase ≡ true
        est_a out home = acceptor_done now.initiator.config now.acceptor.config i now.initiator.ending a now.outward now.homeward n.holds.shaking (ap (λ b. b || is_closing i.connection.phase) (est_i out home))

        unread : (writer reader : State) (way back : List Piece) → Exact writer reader way back → NotCounted way → NotCounted back → request_is.is_coming reader.facts.connection.requester ≡ false → read reader.facts ≡ 0
        unread writer reader way back e out home none =
            let r = e.request in
            let x = home.requests in
            let y = out.restarts in
            let idle = unasked reader.facts.connection.requester (omega (arith, r, x, y)) none in
            read_not reader.facts.connection.peer_finish (λ one. true≢false (sym (e.waits one) ∙ ap (λ q. is_some (request_is.outstanding q)) idle))
