-- Calls of an end on its connection as steps of a world.
use Rattle.std.proofs.Common.{◌≡◌, List, [], ◌∷◌, ◌++◌, Bool, true, false, if◌then◌else◌, Option, Some, None, refl, sym, ap, subst, ◌∙◌, append-nil, append_assoc}
use Rattle.std.specs.List.{AllByRecursion}
use Rattle.session_model.specs.Journal.{Entry}
use Rattle.session_model.specs.Inbox.{Numbered}
use Rattle.fixp_replies.specs.Acts.{is_record}
use Rattle.fixp_replies.specs.Outcomes.{Outcome}
use Rattle.fixp_replies.specs.Replies.{reply_of}
use Rattle.fixp_machine.specs.Machine.{State, Call, begin, frame, bad_frame, did, tick, turn_done, closed, link_end, live, again, taken, reserve, around, step, run, held_done, front_of}
use Rattle.conn_turns.proofs.Taking.{run_append}
use Rattle.connection_laws.specs.Writing.{Piece, writes}
use Rattle.connection_laws.specs.Courses.{Waiting, Course, counting, called, next_done, next_course, course_after, next_held}
use Rattle.connection_laws.specs.Standing.{MayStand, AllMayStand}
use Rattle.connection_laws.proofs.Continuing.{state_is_run}
use Rattle.honest_ends.specs.Worlds.{World, Step, initiator_does, written, initiator_calls, IsOther}
use Rattle.honest_turns.specs.Steps.{does_all}
use Rattle.honest_turns.proofs.Reaching.{Reaches, stays, one, and_then, leads}

pub written_append : (s : State) (first later : List Call) → written s (first ++ later) ≡ written s first ++ written (run s first) later
written_append s [] later = refl
written_append s (call ∷ first) later =
    ap (λ (ps : List Piece). writes s call ++ ps) (written_append (step s call) first later)
    ∙ sym (append_assoc (writes s call) (written (step s call) first) (written (run (step s call) first) later))

pub calls_join : (w : World) (one two : List Piece) (first later : List Call) → initiator_calls (initiator_calls w one first) two later ≡ initiator_calls w two (first ++ later)
calls_join w one two first later =
    let s : State = w.initiator in
    let more : List Piece = written (run s first) later in
    ap (λ (m : State). record w { initiator = m; outward = (w.outward ++ written s first) ++ more; homeward = two }) (sym (run_append s first later))
    ∙ ap (λ (ps : List Piece). record w { initiator = run s (first ++ later); outward = ps; homeward = two })
    (append_assoc w.outward (written s first) more ∙ ap (λ (ps : List Piece). w.outward ++ ps) (sym (written_append s first later)))

abbrev pub no_calls : (hi ha : List Entry) (w : World) → Reaches hi ha w (initiator_calls w w.homeward [])
no_calls hi ha w = leads hi ha w w (initiator_calls w w.homeward []) (stays hi ha w) (ap (λ (ps : List Piece). record w { outward = ps }) (sym (append-nil w.outward)))

-- calls, and then further ones
abbrev pub calls_then : (hi ha : List Entry) (w : World) (one two : List Piece) (first later : List Call) → Reaches hi ha w (initiator_calls w one first)
    → Reaches hi ha (initiator_calls w one first) (initiator_calls (initiator_calls w one first) two later) → Reaches hi ha w (initiator_calls w two (first ++ later))
calls_then hi ha w one two first later x y =
    leads hi ha w (initiator_calls (initiator_calls w one first) two later) (initiator_calls w two (first ++ later))
    (and_then hi ha w (initiator_calls w one first) (initiator_calls (initiator_calls w one first) two later) x y) (calls_join w one two first later)

-- the state of a connection behind calls
pub state_then : (c : Course) (s : State) (cs : List Call) → c.state ≡ s → (course_after c cs).state ≡ run s cs
state_then c s cs is = state_is_run c cs ∙ ap (λ (x : State). run x cs) is

-- calls other than those of frames
abbrev pub others : (hi ha : List Entry) (w : World) (c : Course) (cs : List Call) → c.state ≡ w.initiator → AllMayStand hi c cs → AllByRecursion (IsOther hi) cs → Reaches hi ha w (initiator_calls w w.homeward cs)
others hi ha w c [] is may other = no_calls hi ha w
others hi ha w c (call ∷ later) is may other =
    calls_then hi ha w w.homeward w.homeward (call ∷ []) later (one hi ha w (initiator_does call) (other.0, subst (λ (s : State). MayStand hi s call) is may.0))
    (others hi ha (initiator_calls w w.homeward (call ∷ [])) (next_course c call) later (state_then c w.initiator (call ∷ []) is) may.1 other.1)

-- each is a step
pub others_by : (hi ha : List Entry) (w : World) (c : Course) (cs : List Call) (is : c.state ≡ w.initiator) (may : AllMayStand hi c cs) (other : AllByRecursion (IsOther hi) cs) → (others hi ha w c cs is may other).steps ≡ does_all cs
others_by hi ha w c [] is may other = refl
others_by hi ha w c (call ∷ later) is may other =
    ap (λ (ss : List Step). initiator_does call ∷ ss) (others_by hi ha (initiator_calls w w.homeward (call ∷ [])) (next_course c call) later (state_then c w.initiator (call ∷ []) is) may.1 other.1)

pub may_first : (h : List Entry) (c : Course) (first later : List Call) → AllMayStand h c (first ++ later) → AllMayStand h c first
may_first h c [] later may = tt
may_first h c (call ∷ first) later may = (may.0, may_first h (next_course c call) first later may.1)

pub may_second : (h : List Entry) (c : Course) (first later : List Call) → AllMayStand h c (first ++ later) → AllMayStand h (course_after c first) later
may_second h c [] later may = may
may_second h c (call ∷ first) later may = may_second h (next_course c call) first later may.1

-- what a call writes stands behind what was written
output_one : (h : List Entry) (c : Course) (call : Call) → MayStand h c.state call → (next_course c call).output ≡ c.output ++ writes c.state call
output_one h c (begin now) may = absurd may.comes
output_one h c (frame incoming at now) may = by_record (is_record (reply_of (around c.state at now) c.state.facts incoming).act) (called c (frame incoming at now))
  where
    by_record : (b : Bool) (k : Course) → (if b then record k { waiting = Some (record { incoming = incoming; at = at; moment = now }) } else counting k (reply_of (around c.state at now) c.state.facts incoming) incoming).output ≡ k.output
    by_record true k = refl
    by_record false k = refl
output_one h c (bad_frame at now) may = refl
output_one h c (did now) may = by_pending c.state.pending c.waiting (called c (did now))
  where
    by_pending : (p : Option Outcome) (w : Option Waiting) (k : Course) → (next_done k p w).output ≡ k.output
    by_pending None w k = refl
    by_pending (Some o) None k = refl
    by_pending (Some o) (Some w) k = refl
output_one h c (tick now) may = refl
output_one h c (turn_done now) may = refl
output_one h c (closed last now) may = refl
output_one h c link_end may = refl
output_one h c (live ps now) may = refl
output_one h c (again ps now) may = refl
output_one h c (taken count) may = refl
output_one h c reserve may = refl
output_one h c held_done may = by_front (front_of c.state) (called c held_done)
  where
    by_front : (m : Option Numbered) (k : Course) → (next_held k m).output ≡ k.output
    by_front None k = refl
    by_front (Some m) k = refl

pub output_after : (h : List Entry) (c : Course) (cs : List Call) → AllMayStand h c cs → (course_after c cs).output ≡ c.output ++ written c.state cs
output_after h c [] may = sym (append-nil c.output)
output_after h c (call ∷ later) may =
    let d : Course = next_course c call in
    output_after h d later may.1
    ∙ (ap (λ (ps : List Piece). ps ++ written d.state later) (output_one h c call may.0)
    ∙ (append_assoc c.output (writes c.state call) (written d.state later)
    ∙ ap (λ (s : State). c.output ++ (writes c.state call ++ written s later)) (state_then c c.state (call ∷ []) refl)))
