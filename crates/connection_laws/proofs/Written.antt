-- All that a machine in range writes on a connection is legal.
use Rattle.std.proofs.Common.{◌≡◌, ◌≤◌, ◌<◌, ◌+◌, ◌^◌, ℕ, Bool, true, false, if◌then◌else◌, List, [], ◌∷◌, ◌++◌, Option, Some, None, refl, sym, subst, arith, true≢false}
use Rattle.std.specs.List.{AllByRecursion}
use Rattle.std.proofs.lemmas.Bool.{false≢true}
use Rattle.session_model.specs.Journal.{Entry}
use Rattle.session_model.specs.Inbox.{Numbered}
use Rattle.session_model.proofs.Lists.{all_append}
use Rattle.fixp_shake.specs.declared.phase.Phase.TheVariants as phases
use Rattle.fixp_replies.specs.Acts.{is_record}
use Rattle.fixp_replies.specs.Facts.{Around, is_initiator, connecting}
use Rattle.fixp_replies.specs.Outcomes.{Outcome}
use Rattle.fixp_replies.specs.Replies.{reply_of}
use Rattle.fixp_machine.specs.Sound.{Sound}
use Rattle.fixp_machine.specs.Machine.{State, Call, begin, frame, bad_frame, did, tick, turn_done, closed, link_end, live, again, taken, reserve, held_done, front_of, around, connected, step, StaysSound}
use Rattle.fixp_machine.proofs.Calls.{begun_as, calls_keep_sound}
use Rattle.fixp_machine.proofs.Windowing.{windowed_empty}
use Rattle.connection_laws.specs.Framed.{IsLegalPiece}
use Rattle.connection_laws.specs.Writing.{said_all, writes}
use Rattle.connection_laws.specs.Courses.{Waiting, Course, beginning, counting, called, next_done, next_held, next_course, course_after}
use Rattle.connection_laws.specs.Standing.{MayStand, AllMayStand}
use Rattle.connection_laws.proofs.Continuing.{state_is_run}
use Rattle.connection_laws.specs.Ranges.{IsInRange, IsInTime, FitsCall}
use Rattle.connection_laws.specs.LegalLaws.{StaysLegal, WrittenIsLegal}
use Rattle.connection_laws.proofs.LegalReplied.{Ready, legal_negotiate, legal_establish}
use Rattle.connection_laws.proofs.Called.{IsPayload, Ranged, in_range, legal_writes, ranged_step}

-- what a call writes stands behind what was written
output_of : (h : List Entry) (c : Course) (call : Call) → MayStand h c.state call → (next_course c call).output ≡ c.output ++ writes c.state call
output_of h c (begin now) may = absurd may.comes
output_of h c (frame incoming at now) may = by_record (is_record (reply_of (around c.state at now) c.state.facts incoming).act) (called c (frame incoming at now))
  where
    by_record : (b : Bool) (k : Course) → (if b then record k { waiting = Some (record { incoming = incoming; at = at; moment = now }) } else counting k (reply_of (around c.state at now) c.state.facts incoming) incoming).output ≡ k.output
    by_record true k = refl
    by_record false k = refl
output_of h c (bad_frame at now) may = refl
output_of h c (did now) may = by_pending c.state.pending c.waiting (called c (did now))
  where
    by_pending : (p : Option Outcome) (w : Option Waiting) (k : Course) → (next_done k p w).output ≡ k.output
    by_pending None w k = refl
    by_pending (Some o) None k = refl
    by_pending (Some o) (Some w) k = refl
output_of h c (tick now) may = refl
output_of h c (turn_done now) may = refl
output_of h c (closed last now) may = refl
output_of h c link_end may = refl
output_of h c (live ps now) may = refl
output_of h c (again ps now) may = refl
output_of h c (taken count) may = refl
output_of h c reserve may = refl
output_of h c held_done may = by_front (front_of c.state) (called c held_done)
  where
    by_front : (m : Option Numbered) (k : Course) → (next_held k m).output ≡ k.output
    by_front None k = refl
    by_front (Some m) k = refl

legal_calls : (h : List Entry) (c : Course) (calls : List Call) → AllByRecursion IsPayload h → StaysSound c.state → Ranged c.state → AllByRecursion IsLegalPiece c.output
    → AllMayStand h c calls → AllByRecursion FitsCall calls → StaysLegal (course_after c calls)
legal_calls h c [] payloads sound r legal all fits = record { legal = legal; range = r.range }
legal_calls h c (call ∷ later) payloads sound r legal all fits =
    let stepped : (next_course c call).state ≡ step c.state call = state_is_run c (call ∷ []) in
    legal_calls h (next_course c call) later payloads
    (subst StaysSound (sym stepped) (calls_keep_sound c.state call sound all.0.may_call))
    (subst Ranged (sym stepped) (ranged_step h c.state call sound r all.0 fits.0))
    (subst (λ ps. AllByRecursion IsLegalPiece ps) (sym (output_of h c call all.0))
    (all_append IsLegalPiece c.output (writes c.state call) legal (legal_writes h c.state call payloads sound r all.0 fits.0)))
    all.1 fits.1

-- a connection that begins
begun_sound : (s : State) (now : ℕ) → IsInRange s → s.facts.recorded.sent < 2 ^ 40 → StaysSound (connected s now)
begun_sound s now r small =
    let idle : Sound s.config (connecting s.facts.recorded phases.Idle) =
    record {
      waits = λ _. refl;
      even = λ _. refl;
      unread = λ _. refl;
      credentials = r.credentials;
      sent = small;
      next = λ _. omega (arith, r.next, r.most);
      opening = λ _. record { no_request = refl; no_gap = refl; no_range = refl; firm = refl };
      soft = λ t. absurd (true≢false (sym t));
      role = λ _. refl;
    } in
    calls_keep_sound (record s { facts = connecting s.facts.recorded phases.Idle; pending = None; held = [] }) (begin now) (record {
      most = omega (arith, r.most);
      facts = idle;
      windowed = windowed_empty s.config s.most (connecting s.facts.recorded phases.Idle) s.ending;
      pending = tt;
      holding = tt;
      waits = λ some. absurd (false≢true some);
    }) tt

begun_ranged : (s : State) (now : ℕ) → IsInRange s → Ranged (connected s now)
begun_ranged s now r = record { range = in_range s (connected s now) refl refl r (by_case (is_initiator s.config.role) s.facts.recorded.negotiated); untold = tt; pending = tt }
  where
    by_case : (i n : Bool) → (begun_as (around s 0 now) s.facts.recorded i n).next.recorded.inbox_next ≤ s.most + 1
    by_case false n = r.next
    by_case true true = r.next
    by_case true false = r.next

begun_legal : (s : State) (now : ℕ) → IsInRange s → s.facts.recorded.sent < 2 ^ 40 → IsInTime now → AllByRecursion IsLegalPiece (writes s (begin now))
begun_legal s now r small time = by_case (is_initiator s.config.role) s.facts.recorded.negotiated
  where
    x : Around
    x = around s 0 now

    ready : (phase : _) → Ready x (connecting s.facts.recorded phase)
    ready phase = record { session = r.session; keepalive = r.keepalive; credentials = r.credentials; most = r.most; moment = time; next = r.next; sent = small }

    by_case : (i n : Bool) → AllByRecursion IsLegalPiece (said_all (begun_as x s.facts.recorded i n).written)
    by_case false n = tt
    by_case true true = (legal_establish x (connecting s.facts.recorded phases.Establishing) (ready phases.Establishing), tt)
    by_case true false = (legal_negotiate x (connecting s.facts.recorded phases.Negotiating) (ready phases.Negotiating), tt)

pub written_is_legal : WrittenIsLegal
written_is_legal h s inbox now calls r enough outbox time all fits =
    let small : s.facts.recorded.sent < 2 ^ 40 = omega (arith, enough, outbox.few) in
    legal_calls h (beginning s inbox now) calls outbox.payloads (begun_sound s now r small) (begun_ranged s now r) (begun_legal s now r small time) all fits
