-- Behind which calls no held message is to be applied, and held messages that are applied one after another.
use Rattle.conn_turns.specs.Refusals.{IsAwaited}
use Rattle.std.proofs.Common.{◌≡◌, ◌-◌, ◌+◌, ◌≤◌, ℕ, zero, suc, Bool, true, false, if◌then◌else◌, List, [], ◌∷◌, ◌++◌, length, Option, Some, None, refl, sym, ap, subst, ◌∙◌, arith, true≢false}
use Rattle.std.specs.Prelude.{replicate, is_some, IsSome}
use Rattle.session_model.specs.Inbox.{Numbered}
use Rattle.flow_window.specs.Window.{front}
use Rattle.fixp_msgs.specs.declared.numbering.Range.{Range}
use Rattle.fixp_shake.specs.declared.violation.Violation.{Violation}
use Rattle.fixp_replies.specs.Acts.{is_record}
use Rattle.fixp_replies.specs.declared.act.Ending.{Ending}
use Rattle.fixp_replies.specs.Incoming.{payload_in}
use Rattle.fixp_replies.specs.Outcomes.{Outcome}
use Rattle.fixp_replies.specs.Events.{heartbeats, lateness, closes, turn_ended, outbox_finished, tells_finish, finish_told, link_ending}
use Rattle.flow_idem.specs.Runs.{runs_of}
use Rattle.fixp_machine.specs.Machine.{State, turn_done, reserve, held_done, around, bytes_of, wrote, made, reply_applied, broken_by, ticked, after_turn, after_closed, link_ended, served_again, held_until, held_with, held_applied, front_of, IsDrained, step, run}
use Rattle.fixp_machine.specs.Machine as calls
use Rattle.fixp_replies.specs.Facts.{Around}
use Rattle.fixp_machine.proofs.Calls.{either, one_made}
use Rattle.conn_turns.specs.Lines.{Line, TakenFrame, reply_at, act_calls, ready_in, ready_behind, IsTaken, line_after, lines_after, AreTaken}
use Rattle.conn_turns.specs.Turns.{first_calls, bad_calls, end_calls, again_calls, live_calls, finish_calls, sending_calls}
use Rattle.conn_turns.proofs.Taking.{run_append}
use Rattle.conn_steps.proofs.Holding.{ready_held, ready_none}

-- one call
tick_drained : (s : State) (now : ℕ) → IsDrained s → IsDrained (ticked s now)
tick_drained s now d = by_test (is_some s.ending) (lateness (around s 0 now) s.facts s.start s.last_received)
  where
    by_test : (b : Bool) (v : Option Violation) → IsDrained (if b then record s { moment = now } else broken_by (wrote (record s { moment = now }) (bytes_of (heartbeats (around s 0 now) s.facts s.last_sent s.unsent)) now) v now)
    by_test true v = d
    by_test false None = d
    by_test false (Some v) = refl

turn_drained : (s : State) (now : ℕ) → IsDrained s → IsDrained (after_turn s now)
turn_drained s now d =
    let x : Around = around s 0 now in
    either IsDrained (is_some s.ending) (record s { moment = now }) (record (made (record s { moment = now }) (turn_ended x s.facts (runs_of s.untold)) now) { untold = [] })
    (λ _. d) (λ _. one_made (λ f. front f.recorded.inbox_next s.held ≡ None) (closes x s.facts) _ _ d d)

finish_drained : (s : State) (last now : ℕ) → IsDrained s → IsDrained (after_closed s last now)
finish_drained s last now d =
    let x : Around = around s 0 now in
    either IsDrained (is_some s.ending) (record s { moment = now; facts = outbox_finished s.facts last }) (made (record s { moment = now }) (finish_told x s.facts last) now)
    (λ _. d) (λ _. one_made (λ f. front f.recorded.inbox_next s.held ≡ None) (tells_finish x s.facts last) _ _ d d)

pub link_drained : (s : State) → IsDrained s → IsDrained (link_ended s)
link_drained s d = by_test (is_some s.ending)
  where
    by_test : (b : Bool) → IsDrained (if b then s else record s { ending = Some (link_ending (around s 0 s.moment) s.facts); pending = None; held = [] })
    by_test true = d
    by_test false = refl

again_drained : (s : State) (r : Option Range) (payloads : List (List ℕ)) (now : ℕ) → IsDrained s → IsDrained (served_again s r payloads now)
again_drained s None payloads now d = d
again_drained s (Some r) payloads now d = d

-- before the frames of a turn, and what ends them, its outbox and what it sends
pub first_drained : (s : State) (now : ℕ) → IsDrained s → IsDrained (run s (first_calls now))
first_drained s now d = tick_drained (step s reserve) now d

pub closing_drained : (s : State) (now : ℕ) (broken : Option ℕ) (over : Bool) → IsDrained s → IsDrained (run s (bad_calls now broken ++ (end_calls over ++ turn_done now ∷ [])))
closing_drained s now None true d = turn_drained (link_ended s) now (link_drained s d)
closing_drained s now None false d = turn_drained s now d
closing_drained s now (Some at) true d = turn_drained (link_ended (step s (calls.bad_frame at now))) now (link_drained (step s (calls.bad_frame at now)) refl)
closing_drained s now (Some at) false d = turn_drained (step s (calls.bad_frame at now)) now refl

pub again_calls_drained : (s : State) (now : ℕ) (sent : Option (List (List ℕ))) → IsDrained s → IsDrained (run s (again_calls now sent))
again_calls_drained s now None d = d
again_calls_drained s now (Some sent) d = again_drained s s.facts.connection.serving sent now d

pub live_calls_drained : (s : State) (now : ℕ) (sent : Option (List (List ℕ))) → IsDrained s → IsDrained (run s (live_calls now sent))
live_calls_drained s now None d = d
live_calls_drained s now (Some sent) d = d

pub finish_calls_drained : (s : State) (now : ℕ) (last : Option ℕ) → IsDrained s → IsDrained (run s (finish_calls now last))
finish_calls_drained s now None d = d
finish_calls_drained s now (Some last) d = finish_drained s last now d

pub sending_drained : (s : State) (sent : List ℕ) (lost : Bool) → IsDrained s → IsDrained (run s (sending_calls sent lost))
sending_drained s sent true d = link_drained s d
sending_drained s sent false d = d

-- where some are ready, the first of them is awaited
pub record Awaited (m : State) : Type 0 where
  pub first : Numbered
  pub front_is : front_of m ≡ Some first
  pub ready_is : ready_in m ≡ first ∷ ready_in (step m held_done)

pub awaited_in : (m : State) (k : ℕ) → suc k ≤ length (ready_in m) → Awaited m
awaited_in m k some = by_front (front_of m) refl
  where
    by_front : (o : Option Numbered) → front_of m ≡ o → Awaited m
    by_front None e = absurd (let none = ap (λ (ms : List Numbered). length ms) (ready_none m e) in omega (arith, some, none))
    by_front (Some first) e = record { first = first; front_is = e; ready_is = ready_held m first e }

pub fewer : (m : State) (k : ℕ) → (a : Awaited m) → suc k ≤ length (ready_in m) → k ≤ length (ready_in (step m held_done))
fewer m k a some = let is = ap (λ (ms : List Numbered). length ms) a.ready_is in omega (arith, is, some)

-- behind all of them none is awaited
pub all_drained : (m : State) (k : ℕ) → k ≡ length (ready_in m) → IsDrained (run m (replicate k held_done))
all_drained m zero all = by_front (front_of m) refl
  where
    by_front : (o : Option Numbered) → front_of m ≡ o → front_of m ≡ None
    by_front None e = e
    by_front (Some first) e = absurd (let is = ap (λ (ms : List Numbered). length ms) (ready_held m first e) in omega (arith, all, is))
all_drained m (suc k) all =
    let a = awaited_in m k (omega (arith, all)) in
    let is = ap (λ (ms : List Numbered). length ms) a.ready_is in
    all_drained (step m held_done) k (omega (arith, all, is))

-- and where one is awaited behind some, these were ready
stuck : (m : State) (k : ℕ) → front_of m ≡ None → front_of (run m (replicate k held_done)) ≡ None
stuck m zero none = none
stuck m (suc k) none = stuck (step m held_done) k (ap (λ (o : Option Numbered). front_of (held_applied m o)) none ∙ none)

pub were_ready : (m : State) (k : ℕ) (next : Numbered) → front_of (run m (replicate k held_done)) ≡ Some next → k ≤ length (ready_in m)
were_ready m zero next awaits = omega arith
were_ready m (suc k) next awaits = by_front (were_ready (step m held_done) k next awaits) (front_of m) refl
  where
    by_front : k ≤ length (ready_in (step m held_done)) → (o : Option Numbered) → front_of m ≡ o → suc k ≤ length (ready_in m)
    by_front rest None e = absurd (cc (stuck m (suc k) e, awaits))
    by_front rest (Some first) e = let is = ap (λ (ms : List Numbered). length ms) (ready_held m first e) in omega (arith, is, rest)

-- where none is awaited, none is ready
pub none_ready : (m : State) → front_of m ≡ None → 0 ≡ length (ready_in m)
none_ready m none = sym (ap (λ (ms : List Numbered). length ms) (ready_none m none))

-- where one is awaited behind some, and none behind one more, these were all that were ready
pub all_ready : (m : State) (n : ℕ) (next : Numbered) → front_of (run m (replicate n held_done)) ≡ Some next → front_of (step (run m (replicate n held_done)) held_done) ≡ None → n + 1 ≡ length (ready_in m)
all_ready m zero next awaits none = sym (ap (λ (ms : List Numbered). length ms) (ready_held m next awaits) ∙ ap (λ (ms : List Numbered). suc (length ms)) (ready_none (step m held_done) none))
all_ready m (suc n) next awaits none =
    let few = were_ready m (suc n) next awaits in
    let a = awaited_in m n (omega (arith, few)) in
    let is = ap (λ (ms : List Numbered). length ms) a.ready_is in
    let rest = all_ready (step m held_done) n next awaits none in
    omega (arith, is, rest)

-- an act with which a connection ends leaves none awaited
pub act_open : (now : ℕ) (l : Line) (t : TakenFrame) → t.recorded ≡ is_record (reply_at now l t).act → IsSome (front_of (run l.machine (act_calls now t))) → (run l.machine (act_calls now t)).ending ≡ None
act_open now l t recorded some = by_record t.recorded recorded some
  where
    o : Outcome
    o = reply_at now l t

    got : State
    got = record l.machine { moment = now; last_received = now; room = l.machine.room - 1 }

    more : State
    more = record got { held = held_with o.holds (payload_in t.incoming) l.machine.held }

    by_ending : (s : State) (e : Option Ending) → o.ending ≡ e → IsSome (front_of (reply_applied s o now)) → (reply_applied s o now).ending ≡ None
    by_ending s None is some = is
    by_ending s (Some e) is some = absurd (true≢false (sym some ∙ ap (λ (k : Option Ending). is_some (front o.next.recorded.inbox_next (held_until k s.held))) is))

    framed : Bool → State
    framed b = if b then record got { pending = Some o } else reply_applied more o now

    by_record : (b : Bool) → b ≡ is_record o.act → IsSome (front_of (run l.machine (calls.frame t.incoming t.at now ∷ (if b then calls.did now ∷ [] else []))))
        → (run l.machine (calls.frame t.incoming t.at now ∷ (if b then calls.did now ∷ [] else []))).ending ≡ None
    by_record true e some =
        ap (λ (a : Bool). (step (framed a) (calls.did now)).ending) (sym e)
        ∙ by_ending (record got { pending = Some o }) o.ending refl (subst (λ (a : Bool). IsSome (front_of (step (framed a) (calls.did now)))) (sym e) some)
    by_record false e some =
        ap (λ (a : Bool). (framed a).ending) (sym e) ∙ by_ending more o.ending refl (subst (λ (a : Bool). IsSome (front_of (framed a))) (sym e) some)

-- behind the frames of a turn
pub frame_drained : (now : ℕ) (l : Line) (t : TakenFrame) → IsTaken now l t → IsDrained (line_after now l t).machine
unfolding line_after
frame_drained now l t k = ap (λ (s : State). front_of s) (run_append l.machine (act_calls now t) (replicate t.helds held_done))
    ∙ all_drained (run l.machine (act_calls now t)) t.helds k.helds

pub frames_drained : (now : ℕ) (l : Line) (frames : List TakenFrame) → IsDrained l.machine → AreTaken now l frames → IsDrained (lines_after now l frames).machine
frames_drained now l [] d k = d
frames_drained now l (t ∷ later) d k = frames_drained now (line_after now l t) later (frame_drained now l t k.0) k.1

-- what was applied behind a frame was ready, where the inbox then awaits a held message
pub helds_ready : (now : ℕ) (l : Line) (t : TakenFrame) (m : Numbered) → IsAwaited now l t m → t.helds ≤ length (ready_behind now l t)
helds_ready now l t m k = were_ready (run l.machine (act_calls now t)) t.helds m (ap (λ (s : State). front_of s) (sym (run_append l.machine (act_calls now t) (replicate t.helds held_done))) ∙ k.awaits)
