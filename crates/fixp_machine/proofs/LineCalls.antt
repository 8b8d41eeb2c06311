-- Each call leaves the reader of a connection that goes on in line.
use Rattle.std.proofs.Common.{◌≡◌, ℕ, ◌+◌, ◌-◌, ◌<◌, ◌≤◌, Bool, true, false, if◌then◌else◌, List, [], ◌∷◌, length, drop, Option, Some, None, IsSome, refl, sym, ap, subst, ◌∙◌, arith, true≢false}
use Rattle.std.specs.Prelude.{⊤, is_some, IfSome}
use Rattle.std.specs.List.{AllByRecursion}
use Rattle.std.proofs.lemmas.Bool.{false≢true}
use Rattle.session_model.specs.Inbox.{Numbered, numbers_of}
use Rattle.fixp_msgs.specs.declared.numbering.Range.{Range}
use Rattle.flow_recover.specs.Receiving.{Receiving, past}
use Rattle.flow_retrans.specs.declared.request.Request.{Request}
use Rattle.flow_retrans.specs.declared.request.Request.TheVariants as requests
use Rattle.flow_retrans.specs.Requests.{is_coming}
use Rattle.flow_idem.specs.Runs.{runs_of}
use Rattle.flow_window.specs.Window.{front}
use Rattle.fixp_shake.specs.declared.config.EndConfig.{EndConfig}
use Rattle.fixp_shake.specs.declared.phase.Phase.TheVariants as phases
use Rattle.fixp_shake.specs.declared.violation.Violation.{Violation}
use Rattle.fixp_shake.specs.Flows.{is_recoverable}
use Rattle.fixp_replies.specs.declared.act.Act.{Act}
use Rattle.fixp_replies.specs.declared.act.Ending.{Ending}
use Rattle.fixp_replies.specs.declared.facts.EndState.{EndState}
use Rattle.fixp_replies.specs.declared.facts.Facts.{Facts}
use Rattle.fixp_replies.specs.declared.facts.OwnFinish.TheVariants as own
use Rattle.fixp_replies.specs.Acts.{is_record}
use Rattle.fixp_replies.specs.Facts.{Around, is_initiator, in_phase, serves}
use Rattle.fixp_replies.specs.Incoming.{payload_in}
use Rattle.fixp_replies.specs.Outcomes.{Outcome}
use Rattle.fixp_replies.specs.Replies.{reply_of}
use Rattle.fixp_replies.specs.Events.{Made, begun, turn_ended, closes, outbox_finished, tells_finish, finish_told, lateness, heartbeats, link_ending}
use Rattle.fixp_replies.specs.Serving.{own_finishing}
use Rattle.fixp_machine.specs.Sound.{MayHold, KeepsHeld, Matches, InLine}
use Rattle.fixp_machine.specs.Machine.{State, around, bytes_of, wrote, made, connected, reply_applied, after_frame, after_bad_frame, after_act, broken_by, begin, frame, bad_frame, did, tick, turn_done, closed, link_end, live, again, taken, reserve, held_done, done_pending, served_again, rest_of, counted_sent, held_until, held_with, held_applied, past_held, front_of, step, StaysSound, StaysInLine, CallsKeepLine}
use Rattle.fixp_machine.proofs.Holding.{holding_goes_on}
use Rattle.fixp_machine.proofs.Windowing.{IsFront, front_there}
use Rattle.fixp_machine.proofs.Lining.{same_line, line_goes_on}
use Rattle.fixp_machine.proofs.Calls.{begun_as, either, one_made}

-- a connection begins
begun_line : (x : Around) (recorded : EndState) → InLine (begun x recorded).next []
begun_line x recorded = by_case (is_initiator x.config.role) recorded.negotiated
  where
    by_case : (i n : Bool) → InLine (begun_as x recorded i n).next []
    by_case false n = record { low = omega arith; matches = refl; below = tt; coming = λ some. absurd (false≢true some) }
    by_case true true = record { low = omega arith; matches = refl; below = tt; coming = λ some. absurd (false≢true some) }
    by_case true false = record { low = omega arith; matches = refl; below = tt; coming = λ some. absurd (false≢true some) }

-- where a connection goes on, what is held stays
until_none : (f : Facts) (ending : Option Ending) (held : List Numbered) → ending ≡ None → InLine f held → InLine f (held_until ending held)
until_none f ending held none l = subst (λ (e : Option Ending). InLine f (held_until e held)) (sym none) l

-- a record holds no message
record_holds_none : (cfg : EndConfig) (most : ℕ) (f : Facts) (o : Outcome) → KeepsHeld cfg most f o → is_record o.act ≡ true → o.holds ≡ None
record_holds_none cfg most f o k is = by_number o.holds refl k.holds
  where
    by_number : (h : Option ℕ) → o.holds ≡ h → IfSome h (λ n. MayHold cfg most f o n) → o.holds ≡ None
    by_number None e m = e
    by_number (Some n) e m = absurd (true≢false (sym is ∙ ap (λ (a : Act). is_record a) m.act))

done_line : (s : State) (p : Option Outcome) (now : ℕ) → StaysInLine s
    → (is_recoverable s.config.peer_flow ≡ true → IfSome p (λ o. o.ending ≡ None → InLine o.next s.held)) → StaysInLine (done_pending s p now)
done_line s None now l k = l
done_line s (Some o) now l k = record { line = λ rec none. until_none o.next o.ending s.held none (k rec none); line_then = λ _. tt }

broken_line : (s : State) (v : Option Violation) (now : ℕ) → StaysInLine s → StaysInLine (broken_by s v now)
broken_line s None now l = l
broken_line s (Some v) now l = record { line = λ _ none. absurd cc; line_then = λ _. tt }

again_line : (s : State) (r : Option Range) (payloads : List (List ℕ)) (now : ℕ) → StaysInLine s → StaysInLine (served_again s r payloads now)
again_line s None payloads now l = l
again_line s (Some r) payloads now l = record {
  line = λ rec none. same_line s.facts (serves s.facts (rest_of r (length payloads))) s.held refl refl refl (l.line rec none);
  line_then = l.line_then;
}

-- the held message that the inbox awaits was applied
past_matches : (r : Receiving) (q : Request) → Matches r q → Matches (past r) q
past_matches r requests.Nothing m = m
past_matches r (requests.Asked range) m = m
past_matches r (requests.Coming range next left) m = m

past_line : (f : Facts) (held : List Numbered) → f.connection.receiver.next ≡ f.recorded.inbox_next → IsSome (front f.recorded.inbox_next held) → InLine f held
    → (k : IsFront f.recorded.inbox_next held) → InLine (past_held f k.first) (drop 1 held)
past_line f held waits some l k =
    let below : AllByRecursion (λ n. n < f.connection.receiver.live) (numbers_of (k.first ∷ k.later)) =
    subst (λ (ms : List Numbered). AllByRecursion (λ n. n < f.connection.receiver.live) (numbers_of ms)) k.held_is l.below in
    let now_coming = l.coming some in
    subst (λ (ms : List Numbered). InLine (past_held f k.first) ms) (sym (ap (λ (ms : List Numbered). drop 1 ms) k.held_is)) (record {
      low = omega (arith, waits, k.number, below.0);
      matches = past_matches f.connection.receiver f.connection.requester l.matches;
      below = below.1;
      coming = λ _. now_coming;
    })

pub calls_keep_line : CallsKeepLine
calls_keep_line s (begin now) h l may at = record { line = λ _ _. begun_line (around s 0 now) s.facts.recorded; line_then = λ _. tt }
calls_keep_line s (frame incoming at_place now) h l may at =
    let x : Around = around s at_place now in
    let o : Outcome = reply_of x s.facts incoming in
    let k : KeepsHeld s.config s.most s.facts o = holding_goes_on x s.facts incoming h.facts.waits in
    let more : List Numbered = held_with o.holds (payload_in incoming) s.held in
    either StaysInLine (is_record o.act) (record s { moment = now; last_received = now; room = s.room - 1; pending = Some o })
    (reply_applied (record s { moment = now; last_received = now; room = s.room - 1; held = more }) o now)
    (λ is. record {
      line = l.line;
      line_then = λ rec none. subst (λ (n : Option ℕ). InLine o.next (held_with n (payload_in incoming) s.held)) (record_holds_none s.config s.most s.facts o k is)
          (line_goes_on x s.facts incoming s.ending s.held h.facts refl h.windowed may.1 rec (l.line rec at) none);
    })
    (λ _. record {
      line = λ rec none. until_none o.next o.ending more none (line_goes_on x s.facts incoming s.ending s.held h.facts refl h.windowed may.1 rec (l.line rec at) none);
      line_then = λ _. tt;
    })
calls_keep_line s (bad_frame at_place now) h l may at = record { line = λ _ none. absurd cc; line_then = λ _. tt }
calls_keep_line s (did now) h l may at = done_line s s.pending now l l.line_then
calls_keep_line s (tick now) h l may at =
    let x : Around = around s 0 now in
    let beat : State = wrote (record s { moment = now }) (bytes_of (heartbeats x s.facts s.last_sent s.unsent)) now in
    either StaysInLine (is_some s.ending) (record s { moment = now }) (broken_by beat (lateness x s.facts s.start s.last_received) now)
    (λ _. record { line = l.line; line_then = l.line_then })
    (λ _. broken_line beat (lateness x s.facts s.start s.last_received) now (record { line = l.line; line_then = l.line_then }))
calls_keep_line s (turn_done now) h l may at =
    let x : Around = around s 0 now in
    let m : Made = turn_ended x s.facts (runs_of s.untold) in
    either StaysInLine (is_some s.ending) (record s { moment = now }) (record (made (record s { moment = now }) m now) { untold = [] })
    (λ _. record { line = l.line; line_then = l.line_then })
    (λ _. record {
      line = λ rec none. one_made (λ f. InLine f s.held) (closes x s.facts) _ _ (same_line s.facts (in_phase s.facts phases.Closing) s.held refl refl refl (l.line rec none)) (l.line rec none);
      line_then = l.line_then;
    })
calls_keep_line s (closed last now) h l may at =
    let x : Around = around s 0 now in
    let m : Made = finish_told x s.facts last in
    either StaysInLine (is_some s.ending) (record s { moment = now; facts = outbox_finished s.facts last }) (made (record s { moment = now }) m now)
    (λ _. record { line = λ rec none. same_line s.facts (outbox_finished s.facts last) s.held refl refl refl (l.line rec none); line_then = l.line_then })
    (λ _. record {
      line = λ rec none. one_made (λ f. InLine f s.held) (tells_finish x s.facts last) _ _
          (same_line s.facts (own_finishing (outbox_finished s.facts last) own.Told) s.held refl refl refl (l.line rec none))
          (same_line s.facts (outbox_finished s.facts last) s.held refl refl refl (l.line rec none));
      line_then = l.line_then;
    })
calls_keep_line s link_end h l may at =
    either StaysInLine (is_some s.ending) s (record s { ending = Some (link_ending (around s 0 s.moment) s.facts); pending = None; held = [] })
    (λ _. l) (λ _. record { line = λ _ none. absurd cc; line_then = λ _. tt })
calls_keep_line s (live payloads now) h l may at =
    record { line = λ rec none. same_line s.facts (counted_sent s.facts (length payloads)) s.held refl refl refl (l.line rec none); line_then = l.line_then }
calls_keep_line s (again payloads now) h l may at = again_line s s.facts.connection.serving payloads now l
calls_keep_line s (taken count) h l may at = record { line = l.line; line_then = l.line_then }
calls_keep_line s reserve h l may at = record { line = l.line; line_then = l.line_then }
calls_keep_line s held_done h l may at =
    let k = front_there s.facts.recorded.inbox_next s.held may.1 in
    subst (λ (m : Option Numbered). StaysInLine (held_applied s m)) (sym k.front_is) (record {
      line = λ rec none. past_line s.facts s.held (h.facts.waits rec) may.1 (l.line rec none) k;
      line_then = λ _. subst (λ (p : Option Outcome). IfSome p (λ o. o.ending ≡ None → InLine o.next (drop 1 s.held))) (sym may.0) tt;
    })
