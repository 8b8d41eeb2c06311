-- What the other calls of an end make of the measure.
use Rattle.std.proofs.Common.{◌≡◌, ℕ, suc, ◌+◌, ◌-◌, ◌*◌, ◌≤◌, ◌==◌, ◌&&◌, ◌||◌, max, not, Bool, true, false, if◌then◌else◌, List, [], ◌∷◌, ◌++◌, length, Option, Some, None, refl, sym, ap, ◌∙◌, arith, length-append, eqb-true, true≢false}
use Rattle.std.specs.Prelude.{is_some, is_none}
use Rattle.session_model.specs.Inbox.{Numbered}
use Rattle.fixp_msgs.specs.declared.numbering.Range.{Range}
use Rattle.fixp_msgs.specs.Message.{Message, sequence, unsequenced_heartbeat, finished_sending, terminate}
use Rattle.flow_idem.specs.Runs.{joined, runs_of}
use Rattle.fixp_shake.specs.declared.config.EndConfig.{EndConfig}
use Rattle.fixp_shake.specs.declared.phase.Phase.{Phase}
use Rattle.fixp_shake.specs.declared.phase.Phase.TheVariants as phases
use Rattle.fixp_shake.specs.declared.violation.Violation.{Violation}
use Rattle.fixp_shake.specs.Flows.{is_recoverable, is_idempotent, is_sequenced, is_absent}
use Rattle.fixp_shake.specs.Phases.{is_established, is_closing, is_shaken}
use Rattle.fixp_replies.specs.declared.act.Ending.{Ending}
use Rattle.fixp_replies.specs.declared.facts.Facts.{Facts}
use Rattle.fixp_replies.specs.declared.facts.OwnFinish.{OwnFinish}
use Rattle.fixp_replies.specs.declared.facts.OwnFinish.TheVariants as own
use Rattle.fixp_replies.specs.Facts.{Around, is_initiator, in_phase, finishes_exchanged, is_open}
use Rattle.fixp_replies.specs.Events.{Made, heartbeat, heartbeats, is_due, lateness, applied_runs, closes, turn_ended, outbox_finished, tells_finish, finish_told, link_ending}
use Rattle.fixp_replies.specs.Serving.{own_finishing}
use Rattle.fixp_machine.specs.Machine.{State, tick, turn_done, closed, link_end, live, again, taken, reserve, held_done, around, bytes_of, wrote, made, broken_by, served_again, rest_of, step, held_applied, front_of}
use Rattle.connection_laws.specs.Writing.{Piece, said_all, entries, said_breaking, range_closed, written_again, writes}
use Rattle.drain_laws.specs.Weights.{weight_of, weights, entry_weight}
use Rattle.drain_laws.specs.Loads.{unsent, sent_load, served_load, told_load, end_of, closing_load, close_load, load_at}
use Rattle.drain_laws.specs.Calls.{weights_out, beats_at, Falls, CallsFall}
use Rattle.drain_laws.proofs.Lifting.{weights_append, close_least, loses_less}

pub said_weighs : (c : EndConfig) (ms : List Message) → weights_out c (said_all ms) ≡ weights ms
said_weighs c [] = refl
said_weighs c (m ∷ ms) = ap (λ k. weight_of m + k) (said_weighs c ms)

pub out_append : (c : EndConfig) (ps qs : List Piece) → weights_out c (ps ++ qs) ≡ weights_out c ps + weights_out c qs
out_append c [] qs = omega arith
out_append c (p ∷ ps) qs = let e = out_append c ps qs in omega (arith, e)

-- so many entries weigh so much
abbrev cost : (idempotent : Bool) → ℕ → ℕ
cost true k = 8 * k
cost false k = 4 * k

one_more : (idempotent : Bool) (k : ℕ) → entry_weight idempotent + cost idempotent k ≡ cost idempotent (suc k)
one_more true k = omega arith
one_more false k = omega arith

none_cost : (idempotent : Bool) → 0 ≡ cost idempotent 0
none_cost true = refl
none_cost false = refl

entries_weigh : (c : EndConfig) (payloads : List (List ℕ)) → weights_out c (entries payloads) ≡ cost (is_idempotent c.own_flow) (length payloads)
entries_weigh c [] = none_cost (is_idempotent c.own_flow)
entries_weigh c (payload ∷ later) = ap (λ k. entry_weight (is_idempotent c.own_flow) + k) (entries_weigh c later) ∙ one_more (is_idempotent c.own_flow) (length later)

sent_falls : (idempotent shaken : Bool) (m sent l : ℕ) → shaken ≡ true → sent + l ≤ m
    → cost idempotent l + sent_load idempotent (unsent shaken m (sent + l)) + 4 * l ≤ sent_load idempotent (unsent shaken m sent)
sent_falls true true m sent l e most = omega arith
sent_falls false true m sent l e most = omega arith
sent_falls idempotent false m sent l e most = absurd (true≢false (sym e))

sends : (m n : ℕ) (s : State) (payloads : List (List ℕ)) (now : ℕ) → is_shaken s.facts.connection.phase ≡ true
    → s.facts.recorded.sent + length payloads ≤ m → Falls m n s (live payloads now) (4 * length payloads)
sends m n s payloads now done most =
    let e = entries_weigh s.config payloads in
    let f = sent_falls (is_idempotent s.config.own_flow) (is_shaken s.facts.connection.phase) m s.facts.recorded.sent (length payloads) done most in
    omega (arith, e, f)

cost_other : (idempotent : Bool) (k : ℕ) → idempotent ≡ false → cost idempotent k ≡ 4 * k
cost_other true k e = absurd (true≢false e)
cost_other false k e = refl

-- what of a range is left weighs as its rest does, or as the Sequence behind it
range_falls : (c : EndConfig) (f : Facts) (r : Range) (l : ℕ) → 1 ≤ l → l ≤ r.count → weights_out c (range_closed f (rest_of r l)) + served_load (rest_of r l) + 8 * l ≤ 9 * r.count
range_falls c f r l some within = by_test (r.count == l) refl
  where
    by_test : (b : Bool) → (r.count == l) ≡ b
        → weights_out c (range_closed f (if b then None else Some (record { from = r.from + l; count = r.count - l })))
        + served_load (if b then None else Some (record { from = r.from + l; count = r.count - l })) + 8 * l ≤ 9 * r.count
    by_test true e = let all = eqb-true r.count l e in omega (arith, all)
    by_test false e = omega arith

resends : (m n : ℕ) (s : State) (range : Range) (payloads : List (List ℕ)) (now : ℕ) → is_idempotent s.config.own_flow ≡ false
    → s.facts.connection.serving ≡ Some range → 1 ≤ length payloads → length payloads ≤ range.count
    → Falls m n s (again payloads now) (4 * length payloads)
resends m n s range payloads now other serving some within = by_serving s.facts.connection.serving refl
  where
    by_serving : (o : Option Range) → s.facts.connection.serving ≡ o
        → weights_out s.config (written_again s.facts o payloads) + load_at m n (served_again s o payloads now) + 4 * length payloads ≤ load_at m n s
    by_serving None e = let same : None ≡ Some range = sym e ∙ serving in absurd cc
    by_serving (Some r) e =
        let same : r ≡ range = cc (sym e ∙ serving) in
        let count = ap (λ (k : Range). k.count) same in
        let served = ap served_load e in
        let both = out_append s.config (entries payloads) (range_closed s.facts (rest_of r (length payloads))) in
        let w = entries_weigh s.config payloads ∙ cost_other (is_idempotent s.config.own_flow) (length payloads) other in
        let f = range_falls s.config s.facts r (length payloads) some (omega (arith, within, count)) in
        omega (arith, served, both, w, f)

-- an end that is told that its outbox is finished
open_is : (q : OwnFinish) → is_open q ≡ true → told_load q ≡ 16
open_is own.Open e = refl
open_is own.Told e = absurd (true≢false (sym e))
open_is own.Exchanged e = absurd (true≢false (sym e))

is_open_in : (a b c d e : Bool) → (not a && b && c && d && e) ≡ true → c ≡ true
is_open_in false true true d e t = refl
is_open_in false true false d e t = absurd (true≢false (sym t))
is_open_in false false c d e t = absurd (true≢false (sym t))
is_open_in true b c d e t = absurd (true≢false (sym t))

abbrev told_if : Bool → Around → Facts → (last : ℕ) → Made
told_if b x f last =
    if b then record {
      written = finished_sending x.config.session (if is_sequenced x.config.own_flow then Some last else None) ∷ [];
      next = own_finishing (outbox_finished f last) own.Told;
    }
    else record { written = []; next = outbox_finished f last }

-- by whether the connection has ended, and whether the finish is told
closing_by : (m n : ℕ) (s : State) (last now k : ℕ) → (is_some s.ending ≡ true → k ≡ 0) → (tells_finish (around s 0 now) s.facts last ≡ false → k ≡ 0) → k ≤ 4 → Falls m n s (closed last now) k
closing_by m n s last now k over none few = by_end (is_some s.ending) refl
  where
    x : Around
    x = around s 0 now

    behind : Made → State
    behind o = made (record s { moment = now }) o now

    by_test : (b : Bool) → tells_finish x s.facts last ≡ b
        → weights_out s.config (said_all (told_if b x s.facts last).written) + load_at m n (behind (told_if b x s.facts last)) + k ≤ load_at m n s
    by_test true t =
        let sixteen = open_is s.facts.connection.own_finish (is_open_in (is_absent s.config.own_flow) (is_established s.facts.connection.phase) (is_open s.facts.connection.own_finish) (s.facts.recorded.sent == last) (is_none s.facts.connection.serving) t) in
        omega (arith, sixteen, few)
    by_test false t = let zero = none t in omega (arith, zero)

    by_end : (b : Bool) → is_some s.ending ≡ b
        → weights_out s.config (if b then [] else said_all (finish_told x s.facts last).written)
        + load_at m n (if b then record s { moment = now; facts = outbox_finished s.facts last } else behind (finish_told x s.facts last)) + k ≤ load_at m n s
    by_end true t = let zero = over t in omega (arith, zero)
    by_end false t = by_test (tells_finish x s.facts last) refl

not_ended : (e : Option Ending) → e ≡ None → is_some e ≡ true → ⊥
not_ended None e t = true≢false (sym t)
not_ended (Some ending) e t = absurd cc

tells : (m n : ℕ) (s : State) (last now : ℕ) → s.ending ≡ None → tells_finish (around s 0 now) s.facts last ≡ true → Falls m n s (closed last now) 4
tells m n s last now going t = closing_by m n s last now 4 (λ over. absurd (not_ended s.ending going over)) (λ no. absurd (true≢false (sym t ∙ no))) (omega arith)

finishes : (m n : ℕ) (s : State) (last now : ℕ) → Falls m n s (closed last now) 0
finishes m n s last now = closing_by m n s last now 0 (λ _. refl) (λ _. refl) (omega arith)

-- there are no more runs than numbers
joined_few : (n : ℕ) (rs : List Range) → length (joined n rs) ≤ length rs + 1
joined_few n [] = omega arith
joined_few n (r ∷ rs) = by_test (r.from == n + 1)
  where
    by_test : (b : Bool) → length (if b then record { from = n; count = r.count + 1 } ∷ rs else record { from = n; count = 1 } ∷ r ∷ rs) ≤ length (r ∷ rs) + 1
    by_test true = omega arith
    by_test false = omega arith

runs_few : (ns : List ℕ) → length (runs_of ns) ≤ length ns
runs_few [] = omega arith
runs_few (n ∷ ns) = let e = runs_few ns in let h = joined_few n (runs_of ns) in omega (arith, e, h)

runs_weigh : (rs : List Range) → weights (applied_runs rs) ≡ 4 * length rs
runs_weigh [] = refl
runs_weigh (r ∷ rs) = let e = runs_weigh rs in omega (arith, e)

-- an initiator that closes
closes_parts : (a b c d : Bool) → (a && b && c && d) ≡ true → (a ≡ true) × (b ≡ true)
closes_parts true true c d t = (refl, refl)
closes_parts true false c d t = absurd (true≢false (sym t))
closes_parts false b c d t = absurd (true≢false (sym t))

established_not_closing : (p : Phase) → is_established p ≡ true → is_closing p ≡ false
established_not_closing phases.Idle e = refl
established_not_closing phases.Negotiating e = refl
established_not_closing phases.Establishing e = refl
established_not_closing phases.Established e = refl
established_not_closing phases.Closing e = absurd (true≢false (sym e))
established_not_closing phases.Ended e = refl

-- the closing of an initiator, where the connection has not ended
close_falls : (c : EndConfig) (p : Phase) (ending : Option Ending) → is_initiator c.role ≡ true → is_established p ≡ true → is_some ending ≡ false
    → 8 + close_load c phases.Closing ending ≤ close_load c p ending
close_falls c p None starts e going =
    let before = ap (λ b. closing_load b (is_closing p)) starts ∙ ap (λ b. closing_load true b) (established_not_closing p e) in
    let after = ap (λ b. closing_load b true) starts in
    omega (arith, before, after)
close_falls c p (Some ending) starts e going = absurd (true≢false going)

abbrev ended_if : Bool → Around → Facts → List Range → Made
ended_if b x f runs =
    if b then record { written = applied_runs runs ++ terminate x.config.session 1 [] ∷ []; next = in_phase f phases.Closing }
    else record { written = applied_runs runs; next = f }

turning_by : (m n : ℕ) (s : State) (now k : ℕ) → (is_some s.ending ≡ true → k ≡ 0) → (closes (around s 0 now) s.facts ≡ false → k ≡ 0) → k ≤ 4 → Falls m n s (turn_done now) k
turning_by m n s now k over none few = by_end (is_some s.ending) refl
  where
    x : Around
    x = around s 0 now

    runs : List Range
    runs = runs_of s.untold

    behind : Made → State
    behind o = record (made (record s { moment = now }) o now) { untold = [] }

    told : weights (applied_runs runs) ≤ 4 * length s.untold
    told = let e = runs_weigh runs in let h = runs_few s.untold in omega (arith, e, h)

    by_test : (b : Bool) → is_some s.ending ≡ false → closes x s.facts ≡ b
        → weights_out s.config (said_all (ended_if b x s.facts runs).written) + load_at m n (behind (ended_if b x s.facts runs)) + k ≤ load_at m n s
    by_test true going t =
        let parts = closes_parts (is_initiator s.config.role) (is_established s.facts.connection.phase) (finishes_exchanged x s.facts) (is_none s.facts.connection.serving) t in
        let w = said_weighs s.config (applied_runs runs ++ terminate s.config.session 1 [] ∷ []) ∙ weights_append (applied_runs runs) (terminate s.config.session 1 [] ∷ []) in
        let h = told in
        let c = close_falls s.config s.facts.connection.phase s.ending parts.0 parts.1 going in
        let same = ap (λ b. sent_load (is_idempotent s.config.own_flow) (unsent (b || is_closing s.facts.connection.phase) m s.facts.recorded.sent)) parts.1 in
        omega (arith, w, h, c, same, few)
    by_test false going t =
        let w = said_weighs s.config (applied_runs runs) in
        let h = told in
        let zero = none t in
        omega (arith, w, h, zero)

    by_end : (b : Bool) → is_some s.ending ≡ b
        → weights_out s.config (if b then [] else said_all (turn_ended x s.facts runs).written)
        + load_at m n (if b then record s { moment = now } else behind (turn_ended x s.facts runs)) + k ≤ load_at m n s
    by_end true t = let zero = over t in omega (arith, zero)
    by_end false t = by_test (closes x s.facts) t refl

shuts : (m n : ℕ) (s : State) (now : ℕ) → s.ending ≡ None → closes (around s 0 now) s.facts ≡ true → Falls m n s (turn_done now) 4
shuts m n s now going t = turning_by m n s now 4 (λ over. absurd (not_ended s.ending going over)) (λ no. absurd (true≢false (sym t ∙ no))) (omega arith)

ends_turn : (m n : ℕ) (s : State) (now : ℕ) → Falls m n s (turn_done now) 0
ends_turn m n s now = turning_by m n s now 0 (λ _. refl) (λ _. refl) (omega arith)

-- a held message is applied
holds : (m n : ℕ) (s : State) → Falls m n s held_done 0
holds m n s = by_front (front_of s)
  where
    by_front : (o : Option Numbered) → weights_out s.config [] + load_at m n (held_applied s o) + 0 ≤ load_at m n s
    by_front None = omega arith
    by_front (Some message) =
        let lost = loses_less (is_recoverable s.config.peer_flow) n (max s.facts.connection.receiver.next (end_of s.facts.connection.requester)) (max (s.facts.connection.receiver.next + 1) (end_of s.facts.connection.requester)) (omega arith) in
        omega (arith, lost)

-- the link's end
cuts : (m n : ℕ) (s : State) → Falls m n s link_end 0
cuts m n s = by_end (is_some s.ending)
  where
    by_end : (b : Bool) → weights_out s.config [] + load_at m n (if b then s else record s { ending = Some (link_ending (around s 0 s.moment) s.facts); pending = None; held = [] }) + 0 ≤ load_at m n s
    by_end true = omega arith
    by_end false = omega arith

takes : (m n : ℕ) (s : State) (count : ℕ) → Falls m n s (taken count) 0
takes m n s count = omega arith

reserves : (m n : ℕ) (s : State) → Falls m n s reserve 0
reserves m n s = omega arith

-- a heartbeat weighs 1
beat_weighs : (x : Around) (f : Facts) (last : ℕ) (unsent : List ℕ) → weights (heartbeats x f last unsent) ≡ length (heartbeats x f last unsent)
beat_weighs x f last (b ∷ unsent) = refl
beat_weighs x f last [] = by_test (is_established f.connection.phase && is_none f.connection.serving && is_due x last)
  where
    by_flow : (b : Bool) → weights ((if b then sequence (f.recorded.sent + 1) else unsequenced_heartbeat) ∷ []) ≡ 1
    by_flow true = refl
    by_flow false = refl

    by_test : (b : Bool) → weights (if b then heartbeat x f ∷ [] else []) ≡ length (if b then heartbeat x f ∷ [] else [])
    by_test true = by_flow (is_sequenced x.config.own_flow)
    by_test false = refl

-- a connection that ends has nothing to close any more
going_least : (c : EndConfig) (p : Phase) (ending : Option Ending) → is_some ending ≡ false → 4 ≤ close_load c p ending
going_least c p None e = close_least (is_initiator c.role) (is_closing p)
going_least c p (Some ending) e = absurd (true≢false e)

beats : (m n : ℕ) (s : State) (now : ℕ) → weights_out s.config (writes s (tick now)) + load_at m n (step s (tick now)) ≤ load_at m n s + beats_at s now
beats m n s now = by_end (is_some s.ending) refl
  where
    x : Around
    x = around s 0 now

    hb : List Message
    hb = heartbeats x s.facts s.last_sent s.unsent

    beat : State
    beat = wrote (record s { moment = now }) (bytes_of hb) now

    by_fault : (v : Option Violation) → is_some s.ending ≡ false → weights_out s.config (said_all (hb ++ said_breaking s v now)) + load_at m n (broken_by beat v now) ≤ load_at m n s + length hb
    by_fault None going =
        let w = said_weighs s.config (hb ++ []) ∙ weights_append hb [] in
        let one = beat_weighs x s.facts s.last_sent s.unsent in
        omega (arith, w, one)
    by_fault (Some v) going =
        let w = said_weighs s.config (hb ++ terminate s.config.session 2 [] ∷ []) ∙ weights_append hb (terminate s.config.session 2 [] ∷ []) in
        let one = beat_weighs x s.facts s.last_sent s.unsent in
        let c = going_least s.config s.facts.connection.phase s.ending going in
        let none = length-append s.untold [] in
        omega (arith, w, one, c, none)

    by_end : (b : Bool) → is_some s.ending ≡ b
        → weights_out s.config (if b then [] else said_all (hb ++ said_breaking s (lateness x s.facts s.start s.last_received) now))
        + load_at m n (if b then record s { moment = now } else broken_by beat (lateness x s.facts s.start s.last_received) now) ≤ load_at m n s + (if b then 0 else length hb)
    by_end true t = omega arith
    by_end false t = by_fault (lateness x s.facts s.start s.last_received) t

pub calls_fall : CallsFall
calls_fall = record {
  sends = sends;
  resends = resends;
  tells = tells;
  shuts = shuts;
  finishes = finishes;
  ends_turn = ends_turn;
  holds = holds;
  cuts = cuts;
  takes = takes;
  reserves = reserves;
  beats = beats;
}
