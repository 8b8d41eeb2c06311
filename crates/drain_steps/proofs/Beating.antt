-- Messages that an end reads in a turn: what they lower the measure by, and that heartbeats among them leave what the end has to do.
use Rattle.std.proofs.Common.{◌≡◌, ◌⊎◌, inl, inr, ℕ, ◌+◌, ◌≤◌, ◌&&◌, ◌||◌, Bool, true, false, not, if◌then◌else◌, List, [], ◌∷◌, ◌++◌, length, Option, Some, None, refl, sym, ap, subst, ◌∙◌, arith, zero, suc, true≢false}
use Rattle.std.specs.Prelude.{is_some, replicate}
use Rattle.session_model.specs.Journal.{Entry}
use Rattle.session_model.specs.Inbox.{Numbered}
use Rattle.fixp_msgs.specs.declared.numbering.Range.{Range}
use Rattle.fixp_msgs.specs.Message.{negotiate, negotiation_response, negotiation_reject, establish, establishment_ack, establishment_reject, sequence, unsequenced_heartbeat, retransmit_request, retransmission, retransmit_reject, applied, not_applied, finished_sending, finished_receiving, terminate}
use Rattle.flow_retrans.specs.declared.request.Request.{Request}
use Rattle.flow_retrans.specs.declared.request.Request.TheVariants as requests
use Rattle.flow_retrans.specs.Requests as request_is
use Rattle.fixp_shake.specs.declared.config.EndConfig.{EndConfig}
use Rattle.fixp_shake.specs.declared.phase.Phase.{Phase}
use Rattle.fixp_shake.specs.declared.phase.Phase.TheVariants as phases
use Rattle.fixp_shake.specs.Flows.{is_absent}
use Rattle.fixp_shake.specs.Phases.{is_established, is_closing, is_shaken}
use Rattle.fixp_replies.specs.declared.facts.Facts.{Facts}
use Rattle.fixp_replies.specs.declared.facts.OwnFinish.{OwnFinish}
use Rattle.fixp_replies.specs.declared.facts.OwnFinish.TheVariants as own
use Rattle.fixp_replies.specs.declared.facts.PeerFinish.{PeerFinish}
use Rattle.fixp_replies.specs.declared.facts.PeerFinish.TheVariants as peer
use Rattle.fixp_replies.specs.Incoming.{Incoming, session}
use Rattle.fixp_replies.specs.Facts.{Around, is_initiator, is_open, own_is_exchanged, peer_is_exchanged, finishes_exchanged, gap_of, gap_to_ask, having_asked}
use Rattle.fixp_replies.specs.Outcomes.{Outcome, ignores}
use Rattle.fixp_replies.specs.Replies.{answer_of, reply_of, terminates}
use Rattle.fixp_machine.specs.Machine.{State, Call, held_done, around, step, run, front_of, held_applied}
use Rattle.conn_turns.specs.Lines.{TakenFrame}
use Rattle.connection_laws.specs.Writing.{Piece, said, entry, WritesOwn, nothing, shakes, returns, resends}
use Rattle.connection_laws.proofs.Replied.{frame_writes}
use Rattle.two_ends.specs.Reading.{incoming_of}
use Rattle.honest_ends.specs.Worlds.{World, Step, initiator_reads, initiator_read, initiator_calls, reading, written, after, world_after, AllMayStep}
use Rattle.honest_ends.proofs.Serving.{by_bool}
use Rattle.honest_ends.proofs.Moving.{Reads, reads_as}
use Rattle.honest_turns.specs.Steps.{does_all, frame_steps, frames_steps}
use Rattle.drain_laws.specs.Counts.{answer, finish, in_frame, answered_of, told_of, exchanged_of, answered, told, exchanged}
use Rattle.drain_laws.specs.Frames.{falls}
use Rattle.drain_laws.specs.Evens.{Evens}
use Rattle.drain_laws.proofs.Evened.{replies_even}
use Rattle.drain_ends.specs.Acting.{is_beat, all_beats, is_sequence, has_sequence}
use Rattle.drain_steps.proofs.Stepping.{read_lowers, low, low_append, world_append, does_end, does_home}

-- a message lowers the measure by 1 at least, and one that is no heartbeat by 4
sequence_least : (b : Bool) → 1 ≤ (if b then 4 else 1)
sequence_least true = omega arith
sequence_least false = omega arith

falls_least : (f : Facts) (p : Piece) → (1 ≤ falls f (incoming_of p)) × (is_beat p ≡ false → 4 ≤ falls f (incoming_of p))
falls_least f (said (sequence next)) = (sequence_least (is_established f.connection.phase && request_is.is_coming f.connection.requester), λ e. absurd (true≢false e))
falls_least f (said unsequenced_heartbeat) = (omega arith, λ e. absurd (true≢false e))
falls_least f (said (negotiate id timestamp flow credentials)) = (omega arith, λ _. omega arith)
falls_least f (said (negotiation_response id timestamp flow credentials)) = (omega arith, λ _. omega arith)
falls_least f (said (negotiation_reject id timestamp code reason)) = (omega arith, λ _. omega arith)
falls_least f (said (establish id timestamp keepalive next expected credentials)) = (omega arith, λ _. omega arith)
falls_least f (said (establishment_ack id timestamp keepalive next expected)) = (omega arith, λ _. omega arith)
falls_least f (said (establishment_reject id timestamp code reason)) = (omega arith, λ _. omega arith)
falls_least f (said (retransmit_request id timestamp first count)) = (omega arith, λ _. omega arith)
falls_least f (said (retransmission id next timestamp count)) = (omega arith, λ _. omega arith)
falls_least f (said (retransmit_reject id timestamp code reason)) = (omega arith, λ _. omega arith)
falls_least f (said (applied first count)) = (omega arith, λ _. omega arith)
falls_least f (said (not_applied first count)) = (omega arith, λ _. omega arith)
falls_least f (said (finished_sending id last)) = (omega arith, λ _. omega arith)
falls_least f (said (finished_receiving id)) = (omega arith, λ _. omega arith)
falls_least f (said (terminate id code reason)) = (omega arith, λ _. omega arith)
falls_least f (entry payload) = (omega arith, λ _. omega arith)

-- the world once the first message was read, and the held messages behind it were applied
pub record FrameRead (w : World) (now : ℕ) (t : TakenFrame) (p : Piece) (left : List Piece) : Type 0 where
  pub world : World
  pub there : world_after w (frame_steps now t) ≡ world
  pub end : world.initiator ≡ run (run w.initiator (reading p t.at now)) (replicate t.helds held_done)
  pub home : world.homeward ≡ left
  pub low : falls w.initiator.facts (incoming_of p) ≤ low w (frame_steps now t)

pub frame_read : (w : World) (now : ℕ) (t : TakenFrame) (p : Piece) (left : List Piece) → w.homeward ≡ p ∷ left → FrameRead w now t p left
frame_read w now t p left e = record {
  world = world_after v (does_all helds);
  there = refl;
  end = does_end v helds ∙ ap (λ (u : World). run u.initiator helds) first;
  home = does_home v helds ∙ ap (λ (u : World). u.homeward) first;
  low = by_numbers (read_lowers w.initiator.facts w.homeward) (falls w.initiator.facts (incoming_of p)) (low v (does_all helds)) (ap (λ (ps : List Piece). read_lowers w.initiator.facts ps) e);
}
  where
    helds : List Call
    helds = replicate t.helds held_done

    v : World
    v = after w (initiator_reads t.at now)

    first : v ≡ initiator_calls w left (reading p t.at now)
    first = ap (λ (ps : List Piece). initiator_read w ps t.at now) e

    by_numbers : (a b c : ℕ) → a ≡ b → b ≤ a + c
    by_numbers a b c e = omega arith

-- frames are read one behind another: each lowers the measure, and one that is no heartbeat by 4
both_true : (a b : Bool) → (a && b) ≡ true → (a ≡ true) × (b ≡ true)
both_true true b e = (refl, e)
both_true false b e = absurd (true≢false (sym e))

later_false : (a b : Bool) → a ≡ true → (a && b) ≡ false → b ≡ false
later_false true b p e = e
later_false false b p e = absurd (true≢false (sym p))

pub frames_low : (w : World) (now : ℕ) (frames : List TakenFrame) (read rest : List Piece) → w.homeward ≡ read ++ rest → length read ≡ length frames → length read ≤ low w (frames_steps now frames)
frames_low w now [] [] rest e same = omega arith
frames_low w now [] (p ∷ read) rest e same = absurd (omega (arith, same))
frames_low w now (t ∷ later) [] rest e same = absurd (omega (arith, same))
frames_low w now (t ∷ later) (p ∷ read) rest e same =
    let x : FrameRead w now t p (read ++ rest) = frame_read w now t p (read ++ rest) e in
    let one = (falls_least w.initiator.facts p).0 in
    let low_one = x.low in
    let more = frames_low x.world now later read rest x.home (omega (arith, same)) in
    let all = low_append w (frame_steps now t) (frames_steps now later) in
    let at = ap (λ (v : World). low v (frames_steps now later)) x.there in
    by_numbers (falls w.initiator.facts (incoming_of p)) (low w (frame_steps now t)) (low x.world (frames_steps now later)) (low (world_after w (frame_steps now t)) (frames_steps now later)) (low w (frames_steps now (t ∷ later))) (length read) one low_one more all at
  where
    by_numbers : (f a b c d n : ℕ) → 1 ≤ f → f ≤ a → n ≤ b → d ≡ a + c → c ≡ b → suc n ≤ d
    by_numbers f a b c d n g h i j k = omega arith

pub frames_low_four : (w : World) (now : ℕ) (frames : List TakenFrame) (read rest : List Piece) → w.homeward ≡ read ++ rest → length read ≡ length frames → all_beats read ≡ false → 4 ≤ low w (frames_steps now frames)
frames_low_four w now [] [] rest e same other = absurd (true≢false other)
frames_low_four w now [] (p ∷ read) rest e same other = absurd (omega (arith, same))
frames_low_four w now (t ∷ later) [] rest e same other = absurd (omega (arith, same))
frames_low_four w now (t ∷ later) (p ∷ read) rest e same other =
    by_bool _ (is_beat p)
    (λ beat. let more = frames_low_four x.world now later read rest x.home (omega (arith, same)) (later_false (is_beat p) (all_beats read) beat other) in
    behind (low w (frame_steps now t)) (low x.world (frames_steps now later)) (low (world_after w (frame_steps now t)) (frames_steps now later)) (low w (frames_steps now (t ∷ later))) more all at)
    (λ none. let one = (falls_least w.initiator.facts p).1 none in let low_one = x.low in
    here (falls w.initiator.facts (incoming_of p)) (low w (frame_steps now t)) (low (world_after w (frame_steps now t)) (frames_steps now later)) (low w (frames_steps now (t ∷ later))) one low_one all)
  where
    x : FrameRead w now t p (read ++ rest)
    x = frame_read w now t p (read ++ rest) e

    all : low w (frames_steps now (t ∷ later)) ≡ low w (frame_steps now t) + low (world_after w (frame_steps now t)) (frames_steps now later)
    all = low_append w (frame_steps now t) (frames_steps now later)

    at : low (world_after w (frame_steps now t)) (frames_steps now later) ≡ low x.world (frames_steps now later)
    at = ap (λ (v : World). low v (frames_steps now later)) x.there

    behind : (a b c d : ℕ) → 4 ≤ b → d ≡ a + c → c ≡ b → 4 ≤ d
    behind a b c d g h i = omega arith

    here : (f a c d : ℕ) → 4 ≤ f → f ≤ a → d ≡ a + c → 4 ≤ d
    here f a c d g h i = omega arith

-- What an end that is established has to do stays so: it is established, it has sent no more, its finish is open where it was, both finishes are exchanged where they
-- were, and a range is served where one was
pub record Stays (s t : State) : Type 0 where
  pub config : t.config ≡ s.config
  pub established : is_established t.facts.connection.phase ≡ true
  pub sent : t.facts.recorded.sent ≤ s.facts.recorded.sent
  pub open_yet : is_open s.facts.connection.own_finish ≡ true → is_open t.facts.connection.own_finish ≡ true
  pub exchanged : finishes_exchanged (around s 0 0) s.facts ≡ true → finishes_exchanged (around t 0 0) t.facts ≡ true
  pub serves : is_some s.facts.connection.serving ≡ true → is_some t.facts.connection.serving ≡ true

pub stays_same : (s : State) → is_established s.facts.connection.phase ≡ true → Stays s s
stays_same s est = record { config = refl; established = est; sent = omega arith; open_yet = λ t. t; exchanged = λ t. t; serves = λ t. t }

pub stays_on : (s t u : State) → Stays s t → Stays t u → Stays s u
stays_on s t u a b = record {
  config = b.config ∙ a.config;
  established = b.established;
  sent = let g = a.sent in let h = b.sent in omega (arith, g, h);
  open_yet = λ e. b.open_yet (a.open_yet e);
  exchanged = λ e. b.exchanged (a.exchanged e);
  serves = λ e. b.serves (a.serves e);
}

-- held messages that are applied change none of it
helds_stay : (n : ℕ) (s : State) → is_established s.facts.connection.phase ≡ true → Stays s (run s (replicate n held_done))
helds_stay zero s est = stays_same s est
helds_stay (suc n) s est = stays_on s (step s held_done) (run (step s held_done) (replicate n held_done)) one (helds_stay n (step s held_done) one.established)
  where
    by_front : (m : Option Numbered) → Stays s (held_applied s m)
    by_front None = stays_same s est
    by_front (Some m) = record { config = refl; established = est; sent = omega arith; open_yet = λ t. t; exchanged = λ t. t; serves = λ t. t }

    one : Stays s (step s held_done)
    one = by_front (front_of s)

-- nor does their ending
helds_end : (n : ℕ) (s : State) → (run s (replicate n held_done)).ending ≡ s.ending
helds_end zero s = refl
helds_end (suc n) s = helds_end n (step s held_done) ∙ by_front (front_of s)
  where
    by_front : (m : Option Numbered) → (held_applied s m).ending ≡ s.ending
    by_front None = refl
    by_front (Some m) = refl

-- a heartbeat is none of a finish or its answer
beat_counts : (p : Piece) → is_beat p ≡ true → (in_frame answer (incoming_of p) ≡ 0) × (in_frame finish (incoming_of p) ≡ 0)
beat_counts (said (sequence next)) e = (refl, refl)
beat_counts (said unsequenced_heartbeat) e = (refl, refl)
beat_counts (said (negotiate id timestamp flow credentials)) e = absurd (true≢false (sym e))
beat_counts (said (negotiation_response id timestamp flow credentials)) e = absurd (true≢false (sym e))
beat_counts (said (negotiation_reject id timestamp code reason)) e = absurd (true≢false (sym e))
beat_counts (said (establish id timestamp keepalive next expected credentials)) e = absurd (true≢false (sym e))
beat_counts (said (establishment_ack id timestamp keepalive next expected)) e = absurd (true≢false (sym e))
beat_counts (said (establishment_reject id timestamp code reason)) e = absurd (true≢false (sym e))
beat_counts (said (retransmit_request id timestamp first count)) e = absurd (true≢false (sym e))
beat_counts (said (retransmission id next timestamp count)) e = absurd (true≢false (sym e))
beat_counts (said (retransmit_reject id timestamp code reason)) e = absurd (true≢false (sym e))
beat_counts (said (applied first count)) e = absurd (true≢false (sym e))
beat_counts (said (not_applied first count)) e = absurd (true≢false (sym e))
beat_counts (said (finished_sending id last)) e = absurd (true≢false (sym e))
beat_counts (said (finished_receiving id)) e = absurd (true≢false (sym e))
beat_counts (said (terminate id code reason)) e = absurd (true≢false (sym e))
beat_counts (entry payload) e = absurd (true≢false (sym e))

pub is_yet : (p : Phase) → is_established p ≡ true → is_closing p ≡ false
is_yet phases.Idle e = refl
is_yet phases.Negotiating e = refl
is_yet phases.Establishing e = refl
is_yet phases.Established e = refl
is_yet phases.Closing e = absurd (true≢false (sym e))
is_yet phases.Ended e = refl

pub is_shaken_then : (p : Phase) → is_established p ≡ true → is_shaken p ≡ true
is_shaken_then p e = ap (λ b. b || is_closing p) e

opened : (a b : Bool) → (a || b) ≡ true → b ≡ false → a ≡ true
opened true b e f = refl
opened false b e f = absurd (true≢false (sym e ∙ f))

open_is : (q r : OwnFinish) → is_open q ≡ true → told_of r ≡ told_of q → exchanged_of r ≡ exchanged_of q → is_open r ≡ true
open_is own.Open own.Open e t x = refl
open_is own.Open own.Told e t x = absurd (omega (arith, t))
open_is own.Open own.Exchanged e t x = absurd (omega (arith, x))
open_is own.Told r e t x = absurd (true≢false (sym e))
open_is own.Exchanged r e t x = absurd (true≢false (sym e))

own_still : (q r : OwnFinish) → exchanged_of r ≡ exchanged_of q → own_is_exchanged q ≡ true → own_is_exchanged r ≡ true
own_still own.Exchanged own.Exchanged x e = refl
own_still own.Exchanged own.Open x e = absurd (omega (arith, x))
own_still own.Exchanged own.Told x e = absurd (omega (arith, x))
own_still own.Open r x e = absurd (true≢false (sym e))
own_still own.Told r x e = absurd (true≢false (sym e))

peer_still : (q r : PeerFinish) → answered_of q ≤ answered_of r → peer_is_exchanged q ≡ true → peer_is_exchanged r ≡ true
peer_still (peer.Exchanged last) (peer.Exchanged other) x e = refl
peer_still (peer.Exchanged last) peer.Open x e = absurd (omega (arith, x))
peer_still (peer.Exchanged last) (peer.Read other) x e = absurd (omega (arith, x))
peer_still peer.Open r x e = absurd (true≢false (sym e))
peer_still (peer.Read last) r x e = absurd (true≢false (sym e))

answered_once : (q : PeerFinish) → answered_of q ≤ 1
answered_once peer.Open = omega arith
answered_once (peer.Read last) = omega arith
answered_once (peer.Exchanged last) = omega arith

or_on : (a b absent done : Bool) → (a ≡ true → b ≡ true) → done ≡ true → (before : Bool) → (a || (absent && before)) ≡ true → (b || (absent && done)) ≡ true
or_on true b absent done keeps d before e = ap (λ x. x || (absent && done)) (keeps refl)
or_on false true absent done keeps d before e = refl
or_on false false true true keeps d before e = refl
or_on false false true false keeps d before e = absurd (true≢false (sym d))
or_on false false false done keeps d before e = absurd (true≢false (sym e))

exchanged_on : (c : EndConfig) (f g : Facts) → is_shaken g.connection.phase ≡ true → exchanged_of g.connection.own_finish ≡ exchanged_of f.connection.own_finish → answered_of f.connection.peer_finish ≤ answered_of g.connection.peer_finish
    → ((own_is_exchanged f.connection.own_finish || (is_absent c.own_flow && is_shaken f.connection.phase)) && (peer_is_exchanged f.connection.peer_finish || (is_absent c.peer_flow && is_shaken f.connection.phase))) ≡ true
    → ((own_is_exchanged g.connection.own_finish || (is_absent c.own_flow && is_shaken g.connection.phase)) && (peer_is_exchanged g.connection.peer_finish || (is_absent c.peer_flow && is_shaken g.connection.phase))) ≡ true
exchanged_on c f g done mine theirs e =
    let parts = both_true (own_is_exchanged f.connection.own_finish || (is_absent c.own_flow && is_shaken f.connection.phase)) (peer_is_exchanged f.connection.peer_finish || (is_absent c.peer_flow && is_shaken f.connection.phase)) e in
    two (own_is_exchanged g.connection.own_finish || (is_absent c.own_flow && is_shaken g.connection.phase)) (peer_is_exchanged g.connection.peer_finish || (is_absent c.peer_flow && is_shaken g.connection.phase))
    (or_on (own_is_exchanged f.connection.own_finish) (own_is_exchanged g.connection.own_finish) (is_absent c.own_flow) (is_shaken g.connection.phase) (own_still f.connection.own_finish g.connection.own_finish mine) done (is_shaken f.connection.phase) parts.0)
    (or_on (peer_is_exchanged f.connection.peer_finish) (peer_is_exchanged g.connection.peer_finish) (is_absent c.peer_flow) (is_shaken g.connection.phase) (peer_still f.connection.peer_finish g.connection.peer_finish theirs) done (is_shaken f.connection.phase) parts.1)
  where
    two : (a b : Bool) → a ≡ true → b ≡ true → (a && b) ≡ true
    two true true p q = refl
    two true false p q = absurd (true≢false (sym q))
    two false b p q = absurd (true≢false (sym p))

-- a range that is served is served still, whatever is read
pub serves_on : (x : Around) (f : Facts) (i : Incoming) → is_some f.connection.serving ≡ true → is_some (reply_of x f i).next.connection.serving ≡ true
serves_on x f i e = by_writing (frame_writes x f i)
  where
    same : (o : Option Range) → o ≡ f.connection.serving → is_some o ≡ true
    same o is = ap (λ (k : Option Range). is_some k) is ∙ e

    by_writing : WritesOwn x f (reply_of x f i) → is_some (reply_of x f i).next.connection.serving ≡ true
    by_writing (nothing none own) = same (reply_of x f i).next.connection.serving own.serving
    by_writing (shakes k) = same (reply_of x f i).next.connection.serving k.serving
    by_writing (returns k) = same (reply_of x f i).next.connection.serving k.serving
    by_writing (resends k) = ap (λ (o : Option Range). is_some o) k.serving

sends_less : (x : Around) (f : Facts) (i : Incoming) → is_shaken f.connection.phase ≡ true → (reply_of x f i).next.recorded.sent ≤ f.recorded.sent
sends_less x f i done = by_writing (frame_writes x f i)
  where
    by_writing : WritesOwn x f (reply_of x f i) → (reply_of x f i).next.recorded.sent ≤ f.recorded.sent
    by_writing (nothing none own) = let e = own.sent in omega (arith, e)
    by_writing (shakes k) = absurd (true≢false (sym done ∙ k.before))
    by_writing (returns k) = let e = k.sent in omega (arith, e)
    by_writing (resends k) = let e = k.sent in omega (arith, e)

-- a heartbeat leaves what the end has to do, where it goes on
beat_stays : (s : State) (p : Piece) (at now : ℕ) → is_beat p ≡ true → is_established s.facts.connection.phase ≡ true → (run s (reading p at now)).ending ≡ None → Stays s (run s (reading p at now))
beat_stays s p at now beat est none = record {
  config = rd.config;
  established = ap (λ (f : Facts). is_established f.connection.phase) rd.facts ∙ then_est;
  sent = let e = ap (λ (f : Facts). f.recorded.sent) rd.facts in let less = sends_less x s.facts i (is_shaken_then s.facts.connection.phase est) in omega (arith, e, less);
  open_yet = λ t. ap (λ (f : Facts). is_open f.connection.own_finish) rd.facts ∙ open_is s.facts.connection.own_finish o.next.connection.own_finish t told_same exchanged_same;
  exchanged = λ t. by_end (exchanged_on s.config s.facts o.next then_shaken exchanged_same answered_more t);
  serves = λ t. ap (λ (f : Facts). is_some f.connection.serving) rd.facts ∙ serves_on x s.facts i t;
}
  where
    i : Incoming
    i = incoming_of p

    x : Around
    x = around s at now

    o : Outcome
    o = reply_of x s.facts i

    rd : Reads s i o (run s (reading p at now)) (written s (reading p at now))
    rd = reads_as s p at now

    ev : Evens (is_initiator s.config.role) s.facts i o.next o.written
    ev = (replies_even x s.facts i (is_yet s.facts.connection.phase est) (sym rd.ending ∙ none)).0

    then_shaken : is_shaken o.next.connection.phase ≡ true
    then_shaken = ev.opens.stays (is_shaken_then s.facts.connection.phase est)

    then_est : is_established o.next.connection.phase ≡ true
    then_est = opened (is_established o.next.connection.phase) (is_closing o.next.connection.phase) then_shaken ev.opens.closing

    told_same : told o.next ≡ told s.facts
    told_same = let e = ev.finishes.told in let z = (beat_counts p beat).0 in omega (arith, e, z)

    exchanged_same : exchanged o.next ≡ exchanged s.facts
    exchanged_same = let e = ev.finishes.exchanged in let z = (beat_counts p beat).0 in omega (arith, e, z)

    answered_more : answered s.facts ≤ answered o.next
    answered_more = let z = (beat_counts p beat).1 in let once = answered_once s.facts.connection.peer_finish in let e = ev.finishes.answered (omega (arith, z, once)) in omega (arith, e)

    by_end : finishes_exchanged (around s 0 0) o.next ≡ true → finishes_exchanged (around (run s (reading p at now)) 0 0) (run s (reading p at now)).facts ≡ true
    by_end e = ap (λ (c : EndConfig). finishes_exchanged (record (around s 0 0) { config = c }) (run s (reading p at now)).facts) rd.config
        ∙ (ap (λ (f : Facts). finishes_exchanged (around s 0 0) f) rd.facts ∙ e)

-- steps behind others may come where those have led
pub second_may : (hi ha : List Entry) (w : World) (first later : List Step) → AllMayStep hi ha w (first ++ later) → AllMayStep hi ha (world_after w first) later
second_may hi ha w [] later may = may
second_may hi ha w (s ∷ first) later may = second_may hi ha (after w s) first later may.1

pub first_may : (hi ha : List Entry) (w : World) (first later : List Step) → AllMayStep hi ha w (first ++ later) → AllMayStep hi ha w first
first_may hi ha w [] later may = tt
first_may hi ha w (s ∷ first) later may = (may.0, first_may hi ha (after w s) first later may.1)

-- where frames are taken, or the connection goes on behind none, it went on before them
goes_before : (hi ha : List Entry) (w : World) (now : ℕ) (frames : List TakenFrame) → AllMayStep hi ha w (frames_steps now frames) → (world_after w (frames_steps now frames)).initiator.ending ≡ None → w.initiator.ending ≡ None
goes_before hi ha w now [] may none = none
goes_before hi ha w now (t ∷ later) may none = may.0.0.going

-- so do heartbeats, one behind another
pub beats_stay : (hi ha : List Entry) (w : World) (now : ℕ) (frames : List TakenFrame) (read rest : List Piece) → AllMayStep hi ha w (frames_steps now frames) → w.homeward ≡ read ++ rest → length read ≡ length frames
    → all_beats read ≡ true → is_established w.initiator.facts.connection.phase ≡ true → (world_after w (frames_steps now frames)).initiator.ending ≡ None → Stays w.initiator (world_after w (frames_steps now frames)).initiator
beats_stay hi ha w now [] [] rest may e same beats est none = stays_same w.initiator est
beats_stay hi ha w now [] (p ∷ read) rest may e same beats est none = absurd (omega (arith, same))
beats_stay hi ha w now (t ∷ later) [] rest may e same beats est none = absurd (omega (arith, same))
beats_stay hi ha w now (t ∷ later) (p ∷ read) rest may e same beats est none =
    subst (λ (v : World). Stays w.initiator v.initiator) (sym along)
    (stays_on w.initiator x.world.initiator (world_after x.world (frames_steps now later)).initiator
    (subst (λ (s : State). Stays w.initiator s) (sym x.end) (stays_on w.initiator s1 (run s1 helds) first (helds_stay t.helds s1 first.established)))
    (beats_stay hi ha x.world now later read rest later_may x.home (omega (arith, same)) parts.1 there_est (ap (λ (v : World). v.initiator.ending) (sym along) ∙ none)))
  where
    x : FrameRead w now t p (read ++ rest)
    x = frame_read w now t p (read ++ rest) e

    helds : List Call
    helds = replicate t.helds held_done

    s1 : State
    s1 = run w.initiator (reading p t.at now)

    parts : (is_beat p ≡ true) × (all_beats read ≡ true)
    parts = both_true (is_beat p) (all_beats read) beats

    along : world_after w (frames_steps now (t ∷ later)) ≡ world_after x.world (frames_steps now later)
    along = world_append w (frame_steps now t) (frames_steps now later) ∙ ap (λ (v : World). world_after v (frames_steps now later)) x.there

    later_may : AllMayStep hi ha x.world (frames_steps now later)
    later_may = subst (λ (v : World). AllMayStep hi ha v (frames_steps now later)) x.there (second_may hi ha w (frame_steps now t) (frames_steps now later) may)

    -- it goes on behind the first
    going : x.world.initiator.ending ≡ None
    going = goes_before hi ha x.world now later later_may (ap (λ (v : World). v.initiator.ending) (sym along) ∙ none)

    first_none : s1.ending ≡ None
    first_none = sym (helds_end t.helds s1) ∙ (ap (λ (s : State). s.ending) (sym x.end) ∙ going)

    first : Stays w.initiator s1
    first = beat_stays w.initiator p t.at now parts.0 est first_none

    there_est : is_established x.world.initiator.facts.connection.phase ≡ true
    there_est = subst (λ (s : State). is_established s.facts.connection.phase ≡ true) (sym x.end) (helds_stay t.helds s1 first.established).established

-- whatever is read, the end has sent no more, and serves a range where it did
sends_no_more : (x : Around) (f : Facts) (i : Incoming) → (reply_of x f i).next.recorded.sent ≤ f.recorded.sent
sends_no_more x f i = by_writing (frame_writes x f i)
  where
    by_writing : WritesOwn x f (reply_of x f i) → (reply_of x f i).next.recorded.sent ≤ f.recorded.sent
    by_writing (nothing none own) = let e = own.sent in omega (arith, e)
    by_writing (shakes k) = k.sent.most
    by_writing (returns k) = let e = k.sent in omega (arith, e)
    by_writing (resends k) = let e = k.sent in omega (arith, e)

pub record Keeps (s t : State) : Type 0 where
  pub sent : t.facts.recorded.sent ≤ s.facts.recorded.sent
  pub serves : is_some s.facts.connection.serving ≡ true → is_some t.facts.connection.serving ≡ true

helds_keep : (n : ℕ) (s : State) → Keeps s (run s (replicate n held_done))
helds_keep zero s = record { sent = omega arith; serves = λ t. t }
helds_keep (suc n) s =
    let more = helds_keep n (step s held_done) in
    let one = by_front (front_of s) in
    let a = one.sent in
    let b = more.sent in
    record { sent = omega (arith, a, b); serves = λ t. more.serves (one.serves t) }
  where
    by_front : (m : Option Numbered) → Keeps s (held_applied s m)
    by_front None = record { sent = omega arith; serves = λ t. t }
    by_front (Some m) = record { sent = omega arith; serves = λ t. t }

read_keeps : (s : State) (p : Piece) (at now : ℕ) → Keeps s (run s (reading p at now))
read_keeps s p at now =
    let rd = reads_as s p at now in
    let e = ap (λ (f : Facts). f.recorded.sent) rd.facts in
    let less = sends_no_more (around s at now) s.facts (incoming_of p) in
    record { sent = omega (arith, e, less); serves = λ t. ap (λ (f : Facts). is_some f.connection.serving) rd.facts ∙ serves_on (around s at now) s.facts (incoming_of p) t }

pub frames_keep : (w : World) (now : ℕ) (frames : List TakenFrame) (read rest : List Piece) → w.homeward ≡ read ++ rest → length read ≡ length frames → Keeps w.initiator (world_after w (frames_steps now frames)).initiator
frames_keep w now [] [] rest e same = record { sent = omega arith; serves = λ t. t }
frames_keep w now [] (p ∷ read) rest e same = absurd (omega (arith, same))
frames_keep w now (t ∷ later) [] rest e same = absurd (omega (arith, same))
frames_keep w now (t ∷ later) (p ∷ read) rest e same =
    let x : FrameRead w now t p (read ++ rest) = frame_read w now t p (read ++ rest) e in
    let along = world_append w (frame_steps now t) (frames_steps now later) ∙ ap (λ (v : World). world_after v (frames_steps now later)) x.there in
    let one = read_keeps w.initiator p t.at now in
    let two = helds_keep t.helds (run w.initiator (reading p t.at now)) in
    let more = frames_keep x.world now later read rest x.home (omega (arith, same)) in
    let a = one.sent in
    let b = two.sent in
    let c = more.sent in
    let at = ap (λ (s : State). s.facts.recorded.sent) x.end in
    let there = ap (λ (v : World). v.initiator.facts.recorded.sent) along in
    record {
      sent = omega (arith, a, b, c, at, there);
      serves = λ s. ap (λ (v : World). is_some v.initiator.facts.connection.serving) along
          ∙ more.serves (ap (λ (u : State). is_some u.facts.connection.serving) x.end ∙ two.serves (one.serves s));
    }

-- A retransmission that comes in: an unsequenced heartbeat leaves it so, and so do held messages that are applied
coming_asks : (q : Request) → request_is.is_coming q ≡ true → is_some (request_is.outstanding q) ≡ true
coming_asks requests.Nothing e = absurd (true≢false (sym e))
coming_asks (requests.Asked range) e = refl
coming_asks (requests.Coming range next left) e = refl

or_true : (a b : Bool) → b ≡ true → (a || b) ≡ true
or_true true b e = refl
or_true false b e = e

record Comes (s : State) : Type 0 where
  established : is_established s.facts.connection.phase ≡ true
  coming : request_is.is_coming s.facts.connection.requester ≡ true

quiet_comes : (s : State) (at now : ℕ) → Comes s → Comes (run s (reading (said unsequenced_heartbeat) at now))
quiet_comes s at now c = record {
  established = ap (λ (f : Facts). is_established f.connection.phase) (rd.facts ∙ same) ∙ c.established;
  coming = ap (λ (f : Facts). request_is.is_coming f.connection.requester) (rd.facts ∙ same) ∙ c.coming;
}
  where
    x : Around
    x = around s at now

    rd : Reads s (session unsequenced_heartbeat) (reply_of x s.facts (session unsequenced_heartbeat)) (run s (reading (said unsequenced_heartbeat) at now)) (written s (reading (said unsequenced_heartbeat) at now))
    rd = reads_as s (said unsequenced_heartbeat) at now

    none_asked : gap_to_ask x s.facts ≡ None
    none_asked = ap (λ (b : Bool). if b then None else gap_of x s.facts) (or_true s.facts.connection.soft (is_some (request_is.outstanding s.facts.connection.requester)) (coming_asks s.facts.connection.requester c.coming))

    by_closing : (b : Bool) → (if b && not (terminates x (session unsequenced_heartbeat)) then ignores s.facts else answer_of x s.facts (session unsequenced_heartbeat)).next ≡ s.facts
    by_closing true = refl
    by_closing false = ap (λ (r : Option Range). having_asked s.facts r) none_asked

    same : (reply_of x s.facts (session unsequenced_heartbeat)).next ≡ s.facts
    same = by_closing (is_closing s.facts.connection.phase)

helds_come : (n : ℕ) (s : State) → Comes s → Comes (run s (replicate n held_done))
helds_come zero s c = c
helds_come (suc n) s c = helds_come n (step s held_done) (by_front (front_of s))
  where
    by_front : (m : Option Numbered) → Comes (held_applied s m)
    by_front None = c
    by_front (Some m) = record { established = c.established; coming = c.coming }

-- so where its Sequence is among what is read, that lowers the measure by 4, unless another message does
beat_or : (p : Piece) → (is_beat p ≡ false) ⊎ ((is_sequence p ≡ true) ⊎ (p ≡ said unsequenced_heartbeat))
beat_or (said (sequence next)) = inr (inl refl)
beat_or (said unsequenced_heartbeat) = inr (inr refl)
beat_or (said (negotiate id timestamp flow credentials)) = inl refl
beat_or (said (negotiation_response id timestamp flow credentials)) = inl refl
beat_or (said (negotiation_reject id timestamp code reason)) = inl refl
beat_or (said (establish id timestamp keepalive next expected credentials)) = inl refl
beat_or (said (establishment_ack id timestamp keepalive next expected)) = inl refl
beat_or (said (establishment_reject id timestamp code reason)) = inl refl
beat_or (said (retransmit_request id timestamp first count)) = inl refl
beat_or (said (retransmission id next timestamp count)) = inl refl
beat_or (said (retransmit_reject id timestamp code reason)) = inl refl
beat_or (said (applied first count)) = inl refl
beat_or (said (not_applied first count)) = inl refl
beat_or (said (finished_sending id last)) = inl refl
beat_or (said (finished_receiving id)) = inl refl
beat_or (said (terminate id code reason)) = inl refl
beat_or (entry payload) = inl refl

sequence_falls : (f : Facts) (p : Piece) → is_established f.connection.phase ≡ true → request_is.is_coming f.connection.requester ≡ true → is_sequence p ≡ true → 4 ≤ falls f (incoming_of p)
sequence_falls f (said (sequence next)) est coming is = by_tests (is_established f.connection.phase) (request_is.is_coming f.connection.requester) est coming
  where
    by_tests : (a b : Bool) → a ≡ true → b ≡ true → 4 ≤ (if a && b then 4 else 1)
    by_tests true true p q = omega arith
    by_tests true false p q = absurd (true≢false (sym q))
    by_tests false b p q = absurd (true≢false (sym p))
sequence_falls f (said unsequenced_heartbeat) est coming is = absurd (true≢false (sym is))
sequence_falls f (said (negotiate id timestamp flow credentials)) est coming is = absurd (true≢false (sym is))
sequence_falls f (said (negotiation_response id timestamp flow credentials)) est coming is = absurd (true≢false (sym is))
sequence_falls f (said (negotiation_reject id timestamp code reason)) est coming is = absurd (true≢false (sym is))
sequence_falls f (said (establish id timestamp keepalive next expected credentials)) est coming is = absurd (true≢false (sym is))
sequence_falls f (said (establishment_ack id timestamp keepalive next expected)) est coming is = absurd (true≢false (sym is))
sequence_falls f (said (establishment_reject id timestamp code reason)) est coming is = absurd (true≢false (sym is))
sequence_falls f (said (retransmit_request id timestamp first count)) est coming is = absurd (true≢false (sym is))
sequence_falls f (said (retransmission id next timestamp count)) est coming is = absurd (true≢false (sym is))
sequence_falls f (said (retransmit_reject id timestamp code reason)) est coming is = absurd (true≢false (sym is))
sequence_falls f (said (applied first count)) est coming is = absurd (true≢false (sym is))
sequence_falls f (said (not_applied first count)) est coming is = absurd (true≢false (sym is))
sequence_falls f (said (finished_sending id last)) est coming is = absurd (true≢false (sym is))
sequence_falls f (said (finished_receiving id)) est coming is = absurd (true≢false (sym is))
sequence_falls f (said (terminate id code reason)) est coming is = absurd (true≢false (sym is))
sequence_falls f (entry payload) est coming is = absurd (true≢false (sym is))

second_true : (a b : Bool) → a ≡ false → (a || b) ≡ true → b ≡ true
second_true false b p e = e
second_true true b p e = absurd (true≢false p)

pub comes_low : (w : World) (now : ℕ) (frames : List TakenFrame) (read rest : List Piece) → w.homeward ≡ read ++ rest → length read ≡ length frames → has_sequence read ≡ true
    → is_established w.initiator.facts.connection.phase ≡ true → request_is.is_coming w.initiator.facts.connection.requester ≡ true → 4 ≤ low w (frames_steps now frames)
comes_low w now [] [] rest e same has est coming = absurd (true≢false (sym has))
comes_low w now [] (p ∷ read) rest e same has est coming = absurd (omega (arith, same))
comes_low w now (t ∷ later) [] rest e same has est coming = absurd (omega (arith, same))
comes_low w now (t ∷ later) (p ∷ read) rest e same has est coming =
    by_kind (λ there c. comes_low x.world now later read rest x.home (omega (arith, same)) there c.established c.coming) (beat_or p)
  where
    x : FrameRead w now t p (read ++ rest)
    x = frame_read w now t p (read ++ rest) e

    all : low w (frames_steps now (t ∷ later)) ≡ low w (frame_steps now t) + low (world_after w (frame_steps now t)) (frames_steps now later)
    all = low_append w (frame_steps now t) (frames_steps now later)

    here : 4 ≤ falls w.initiator.facts (incoming_of p) → 4 ≤ low w (frames_steps now (t ∷ later))
    here four = let low_one = x.low in by_numbers (falls w.initiator.facts (incoming_of p)) (low w (frame_steps now t)) (low (world_after w (frame_steps now t)) (frames_steps now later)) (low w (frames_steps now (t ∷ later))) four low_one all
      where
        by_numbers : (f a c d : ℕ) → 4 ≤ f → f ≤ a → d ≡ a + c → 4 ≤ d
        by_numbers f a c d g h i = omega arith

    behind : (has_sequence read ≡ true → Comes x.world.initiator → 4 ≤ low x.world (frames_steps now later)) → is_sequence p ≡ false → p ≡ said unsequenced_heartbeat → 4 ≤ low w (frames_steps now (t ∷ later))
    behind later_low other is =
        let c : Comes (run w.initiator (reading p t.at now)) = subst (λ (q : Piece). Comes (run w.initiator (reading q t.at now))) (sym is) (quiet_comes w.initiator t.at now (record { established = est; coming = coming })) in
        let d : Comes x.world.initiator = subst Comes (sym x.end) (helds_come t.helds (run w.initiator (reading p t.at now)) c) in
        let more = later_low (second_true (is_sequence p) (has_sequence read) other has) d in
        by_numbers (low w (frame_steps now t)) (low x.world (frames_steps now later)) (low (world_after w (frame_steps now t)) (frames_steps now later)) (low w (frames_steps now (t ∷ later))) more all (ap (λ (v : World). low v (frames_steps now later)) x.there)
      where
        by_numbers : (a b c d : ℕ) → 4 ≤ b → d ≡ a + c → c ≡ b → 4 ≤ d
        by_numbers a b c d g h i = omega arith

    by_kind : (has_sequence read ≡ true → Comes x.world.initiator → 4 ≤ low x.world (frames_steps now later)) → (is_beat p ≡ false) ⊎ ((is_sequence p ≡ true) ⊎ (p ≡ said unsequenced_heartbeat))
        → 4 ≤ low w (frames_steps now (t ∷ later))
    by_kind later_low (inl other) = here ((falls_least w.initiator.facts p).1 other)
    by_kind later_low (inr (inl is)) = here (sequence_falls w.initiator.facts p est coming is)
    by_kind later_low (inr (inr is)) = behind later_low (ap (λ (q : Piece). is_sequence q) is) is
