-- What the other calls make of what is counted.
use Rattle.std.proofs.Common.{◌≡◌, ℕ, ◌+◌, ◌==◌, ◌&&◌, not, Bool, true, false, if◌then◌else◌, List, [], ◌∷◌, ◌++◌, length, Option, Some, None, refl, sym, ap, ◌∙◌, arith, true≢false}
use Rattle.std.specs.Prelude.{is_some, is_none}
use Rattle.session_model.specs.Inbox.{Numbered}
use Rattle.fixp_msgs.specs.declared.numbering.Range.{Range}
use Rattle.fixp_msgs.specs.Message.{Message, sequence, unsequenced_heartbeat, finished_sending, terminate}
use Rattle.flow_idem.specs.Runs.{runs_of}
use Rattle.flow_retrans.specs.declared.request.Request.{Request}
use Rattle.flow_retrans.specs.declared.request.Request.TheVariants as requests
use Rattle.flow_retrans.specs.Requests.{is_coming}
use Rattle.fixp_shake.specs.declared.phase.Phase.TheVariants as phases
use Rattle.fixp_shake.specs.declared.violation.Violation.{Violation}
use Rattle.fixp_shake.specs.Flows.{is_sequenced, is_absent}
use Rattle.fixp_shake.specs.Phases.{is_established, is_closing}
use Rattle.fixp_replies.specs.declared.facts.Facts.{Facts}
use Rattle.fixp_replies.specs.declared.facts.OwnFinish.{OwnFinish}
use Rattle.fixp_replies.specs.declared.facts.OwnFinish.TheVariants as own
use Rattle.fixp_replies.specs.Facts.{Around, in_phase, is_open}
use Rattle.fixp_replies.specs.Events.{Made, heartbeat, heartbeats, is_due, lateness, applied_runs, closes, turn_ended, outbox_finished, tells_finish, finish_told, link_ending}
use Rattle.fixp_replies.specs.Serving.{own_finishing}
use Rattle.fixp_machine.specs.Machine.{State, begin, frame, bad_frame, did, tick, turn_done, closed, link_end, live, again, taken, reserve, held_done, around, bytes_of, wrote, made, broken_by, served_again, rest_of, step, held_applied, front_of}
use Rattle.connection_laws.specs.Writing.{Piece, said_all, entries, said_breaking, range_closed, written_again, writes}
use Rattle.drain_laws.specs.Counts.{finish, answer, request, restart, opening, shutting, among, under_way, told_of, exchanged_of}
use Rattle.drain_laws.specs.Frames.{Fills}
use Rattle.drain_laws.specs.Evens.{StaysEven, CallsEven}
use Rattle.drain_laws.proofs.Counting.{Silent, none_silent, silent_both}

said_counts : (kind : Message → ℕ) (ms : List Message) → under_way kind (said_all ms) ≡ among kind ms
said_counts kind [] = refl
said_counts kind (m ∷ ms) = ap (λ k. kind m + k) (said_counts kind ms)

-- pieces of no kind that is counted
record Mute (out : List Piece) : Type 0 where
  finishes : under_way finish out ≡ 0
  answers : under_way answer out ≡ 0
  requests : under_way request out ≡ 0
  restarts : under_way restart out ≡ 0
  openings : under_way opening out ≡ 0
  closings : under_way shutting out ≡ 0

none_mute : Mute []
none_mute = record { finishes = refl; answers = refl; requests = refl; restarts = refl; openings = refl; closings = refl }

said_mute : (ms : List Message) → Silent ms → Mute (said_all ms)
said_mute ms s = record {
  finishes = said_counts finish ms ∙ s.no_finish;
  answers = said_counts answer ms ∙ s.no_answer;
  requests = said_counts request ms ∙ s.no_request;
  restarts = said_counts restart ms ∙ s.no_restart;
  openings = said_counts opening ms ∙ s.no_opening;
  closings = said_counts shutting ms ∙ s.no_shutting;
}

-- entries, and what stands behind them
entries_mute : (payloads : List (List ℕ)) (later : List Piece) → Mute later → Mute (entries payloads ++ later)
entries_mute [] later m = m
entries_mute (payload ∷ payloads) later m =
    let e = entries_mute payloads later m in
    let a = e.finishes in
    let b = e.answers in
    let c = e.requests in
    let d = e.restarts in
    let o = e.openings in
    let s = e.closings in
    record { finishes = omega (arith, a); answers = omega (arith, b); requests = omega (arith, c); restarts = omega (arith, d); openings = omega (arith, o); closings = omega (arith, s) }

only_entries : (payloads : List (List ℕ)) → Mute (entries payloads)
only_entries [] = none_mute
only_entries (payload ∷ payloads) =
    let e = only_entries payloads in
    let a = e.finishes in
    let b = e.answers in
    let c = e.requests in
    let d = e.restarts in
    let o = e.openings in
    let s = e.closings in
    record { finishes = omega (arith, a); answers = omega (arith, b); requests = omega (arith, c); restarts = omega (arith, d); openings = omega (arith, o); closings = omega (arith, s) }

closed_mute : (f : Facts) (r : Option Range) → Mute (range_closed f r)
closed_mute f None = record { finishes = refl; answers = refl; requests = refl; restarts = refl; openings = refl; closings = refl }
closed_mute f (Some r) = none_mute

-- no fact that is counted moves
muted : (s t : State) (out : List Piece) → t.facts.connection.own_finish ≡ s.facts.connection.own_finish → t.facts.connection.peer_finish ≡ s.facts.connection.peer_finish → t.facts.connection.requester ≡ s.facts.connection.requester
    → t.facts.connection.phase ≡ s.facts.connection.phase → (Fills s.facts.connection.receiver.next s.facts.connection.requester → Fills t.facts.connection.receiver.next t.facts.connection.requester)
    → Mute out → StaysEven s t out
muted s t out mine theirs requester phase fills m =
    let a = ap told_of mine in
    let none = m.finishes in
    record {
      told = omega (arith, a, none);
      exchanged = ap exchanged_of mine;
      theirs = theirs;
      requester = requester;
      phase = phase;
      answers = m.answers;
      requests = m.requests;
      restarts = m.restarts;
      openings = m.openings;
      closings = m.closings;
      fills = λ _ h. fills h;
    }

heartbeat_silent : (x : Around) (f : Facts) → Silent (heartbeat x f ∷ [])
heartbeat_silent x f = by_flow (is_sequenced x.config.own_flow)
  where
    by_flow : (b : Bool) → Silent ((if b then sequence (f.recorded.sent + 1) else unsequenced_heartbeat) ∷ [])
    by_flow true = record { no_finish = refl; no_answer = refl; no_request = refl; no_restart = refl; no_opening = refl; no_shutting = refl }
    by_flow false = record { no_finish = refl; no_answer = refl; no_request = refl; no_restart = refl; no_opening = refl; no_shutting = refl }

beats_silent : (x : Around) (f : Facts) (last : ℕ) (unsent : List ℕ) → Silent (heartbeats x f last unsent)
beats_silent x f last (b ∷ unsent) = none_silent
beats_silent x f last [] = by_test (is_established f.connection.phase && is_none f.connection.serving && is_due x last)
  where
    by_test : (b : Bool) → Silent (if b then heartbeat x f ∷ [] else [])
    by_test true = heartbeat_silent x f
    by_test false = none_silent

ticking : (s : State) (now : ℕ) → (step s (tick now)).ending ≡ None → StaysEven s (step s (tick now)) (writes s (tick now))
ticking s now = by_end (is_some s.ending)
  where
    x : Around
    x = around s 0 now

    hb : List Message
    hb = heartbeats x s.facts s.last_sent s.unsent

    beat : State
    beat = wrote (record s { moment = now }) (bytes_of hb) now

    by_fault : (v : Option Violation) → (broken_by beat v now).ending ≡ None → StaysEven s (broken_by beat v now) (said_all (hb ++ said_breaking s v now))
    by_fault None none = muted s (broken_by beat None now) _ refl refl refl refl (λ h. h) (said_mute (hb ++ []) (silent_both hb [] (beats_silent x s.facts s.last_sent s.unsent) none_silent))
    by_fault (Some v) none = absurd cc

    by_end : (b : Bool) → (if b then record s { moment = now } else broken_by beat (lateness x s.facts s.start s.last_received) now).ending ≡ None
        → StaysEven s (if b then record s { moment = now } else broken_by beat (lateness x s.facts s.start s.last_received) now) (if b then [] else said_all (hb ++ said_breaking s (lateness x s.facts s.start s.last_received) now))
    by_end true none = muted s (record s { moment = now }) [] refl refl refl refl (λ h. h) none_mute
    by_end false none = by_fault (lateness x s.facts s.start s.last_received) none

runs_silent : (rs : List Range) → Silent (applied_runs rs)
runs_silent [] = none_silent
runs_silent (r ∷ rs) =
    let e = runs_silent rs in
    let a = e.no_finish in
    let b = e.no_answer in
    let c = e.no_request in
    let d = e.no_restart in
    let o = e.no_opening in
    let s = e.no_shutting in
    record { no_finish = omega (arith, a); no_answer = omega (arith, b); no_request = omega (arith, c); no_restart = omega (arith, d); no_opening = omega (arith, o); no_shutting = omega (arith, s) }

abbrev ended_if : Bool → Around → Facts → List Range → Made
ended_if b x f runs =
    if b then record { written = applied_runs runs ++ terminate x.config.session 1 [] ∷ []; next = in_phase f phases.Closing }
    else record { written = applied_runs runs; next = f }

turning : (s : State) (now : ℕ) → is_closing (step s (turn_done now)).facts.connection.phase ≡ false → StaysEven s (step s (turn_done now)) (writes s (turn_done now))
turning s now = by_end (is_some s.ending)
  where
    x : Around
    x = around s 0 now

    runs : List Range
    runs = runs_of s.untold

    behind : Made → State
    behind o = record (made (record s { moment = now }) o now) { untold = [] }

    by_test : (b : Bool) → is_closing (behind (ended_if b x s.facts runs)).facts.connection.phase ≡ false → StaysEven s (behind (ended_if b x s.facts runs)) (said_all (ended_if b x s.facts runs).written)
    by_test true yet = absurd (true≢false yet)
    by_test false yet = muted s (behind (ended_if false x s.facts runs)) _ refl refl refl refl (λ h. h) (said_mute (applied_runs runs) (runs_silent runs))

    by_end : (b : Bool) → is_closing (if b then record s { moment = now } else behind (turn_ended x s.facts runs)).facts.connection.phase ≡ false
        → StaysEven s (if b then record s { moment = now } else behind (turn_ended x s.facts runs)) (if b then [] else said_all (turn_ended x s.facts runs).written)
    by_end true yet = muted s (record s { moment = now }) [] refl refl refl refl (λ h. h) none_mute
    by_end false yet = by_test (closes x s.facts) yet

-- the finish is told where it was open
open_is : (q : OwnFinish) → is_open q ≡ true → (told_of q ≡ 0) × (exchanged_of q ≡ 0)
open_is own.Open e = (refl, refl)
open_is own.Told e = absurd (true≢false (sym e))
open_is own.Exchanged e = absurd (true≢false (sym e))

is_open_in : (a b c d e : Bool) → (not a && b && c && d && e) ≡ true → c ≡ true
is_open_in false true true d e t = refl
is_open_in false true false d e t = absurd (true≢false (sym t))
is_open_in false false c d e t = absurd (true≢false (sym t))
is_open_in true b c d e t = absurd (true≢false (sym t))

abbrev told_if : Bool → Around → Facts → (last : ℕ) → Made
told_if b x f last =
    if b then record {
      written = finished_sending x.config.session (if is_sequenced x.config.own_flow then Some last else None) ∷ [];
      next = own_finishing (outbox_finished f last) own.Told;
    }
    else record { written = []; next = outbox_finished f last }

finishing : (s : State) (last now : ℕ) → StaysEven s (step s (closed last now)) (writes s (closed last now))
finishing s last now = by_end (is_some s.ending)
  where
    x : Around
    x = around s 0 now

    behind : Made → State
    behind o = made (record s { moment = now }) o now

    by_test : (b : Bool) → tells_finish x s.facts last ≡ b → StaysEven s (behind (told_if b x s.facts last)) (said_all (told_if b x s.facts last).written)
    by_test true t =
        let o = open_is s.facts.connection.own_finish (is_open_in (is_absent s.config.own_flow) (is_established s.facts.connection.phase) (is_open s.facts.connection.own_finish) (s.facts.recorded.sent == last) (is_none s.facts.connection.serving) t) in
        let none = o.0 in
        let yet = o.1 in
        record {
          told = omega (arith, none);
          exchanged = omega (arith, yet);
          theirs = refl;
          requester = refl;
          phase = refl;
          answers = refl;
          requests = refl;
          restarts = refl;
          openings = refl;
          closings = refl;
          fills = λ _ h. h;
        }
    by_test false t = muted s (behind (told_if false x s.facts last)) [] refl refl refl refl (λ h. h) none_mute

    by_end : (b : Bool) → StaysEven s (if b then record s { moment = now; facts = outbox_finished s.facts last } else behind (finish_told x s.facts last)) (if b then [] else said_all (finish_told x s.facts last).written)
    by_end true = muted s (record s { moment = now; facts = outbox_finished s.facts last }) [] refl refl refl refl (λ h. h) none_mute
    by_end false = by_test (tells_finish x s.facts last) refl

cutting : (s : State) → (step s link_end).ending ≡ None → StaysEven s (step s link_end) []
cutting s = by_end (is_some s.ending)
  where
    by_end : (b : Bool) → (if b then s else record s { ending = Some (link_ending (around s 0 s.moment) s.facts); pending = None; held = [] }).ending ≡ None
        → StaysEven s (if b then s else record s { ending = Some (link_ending (around s 0 s.moment) s.facts); pending = None; held = [] }) []
    by_end true none = muted s s [] refl refl refl refl (λ h. h) none_mute
    by_end false none = absurd cc

resending : (s : State) (r : Option Range) (payloads : List (List ℕ)) (now : ℕ) → StaysEven s (served_again s r payloads now) (written_again s.facts r payloads)
resending s None payloads now = muted s s [] refl refl refl refl (λ h. h) none_mute
resending s (Some r) payloads now = muted s (served_again s (Some r) payloads now) _ refl refl refl refl (λ h. h) (entries_mute payloads (range_closed s.facts (rest_of r (length payloads))) (closed_mute s.facts (rest_of r (length payloads))))

-- a held message is applied
later_fills : (next : ℕ) (q : Request) → is_coming q ≡ true → Fills next q → Fills (next + 1) q
later_fills next requests.Nothing coming h = tt
later_fills next (requests.Asked range) coming h = absurd (true≢false (sym coming))
later_fills next (requests.Coming range number left) coming h = let low = h.1 in (h.0, omega (arith, low))

applying : (s : State) → StaysEven s (step s held_done) []
applying s = by_front (front_of s) refl
  where
    by_front : (o : Option Numbered) → front_of s ≡ o → StaysEven s (held_applied s o) []
    by_front None e = muted s s [] refl refl refl refl (λ h. h) none_mute
    by_front (Some m) e = record {
      told = omega arith;
      exchanged = refl;
      theirs = refl;
      requester = refl;
      phase = refl;
      answers = refl;
      requests = refl;
      restarts = refl;
      openings = refl;
      closings = refl;
      fills = λ comes h. later_fills s.facts.connection.receiver.next s.facts.connection.requester (comes (ap is_some e)) h;
    }

pub calls_even : CallsEven
calls_even s (begin now) beside none yet = absurd beside
calls_even s (frame incoming at now) beside none yet = absurd beside
calls_even s (bad_frame at now) beside none yet = absurd beside
calls_even s (did now) beside none yet = absurd beside
calls_even s (tick now) beside none yet = ticking s now none
calls_even s (turn_done now) beside none yet = turning s now yet
calls_even s (closed last now) beside none yet = finishing s last now
calls_even s link_end beside none yet = cutting s none
calls_even s (live payloads now) beside none yet = muted s (step s (live payloads now)) (entries payloads) refl refl refl refl (λ h. h) (only_entries payloads)
calls_even s (again payloads now) beside none yet = resending s s.facts.connection.serving payloads now
calls_even s (taken count) beside none yet = muted s (step s (taken count)) [] refl refl refl refl (λ h. h) none_mute
calls_even s reserve beside none yet = muted s (step s reserve) [] refl refl refl refl (λ h. h) none_mute
calls_even s held_done beside none yet = applying s
