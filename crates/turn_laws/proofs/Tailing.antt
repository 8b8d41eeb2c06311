-- What calls may still come behind a turn that was cut short: those of the frames that it had taken, as far as they add what was tried.
use Rattle.std.proofs.Common.{◌≡◌, ◌⊎◌, inl, inr, ℕ, ◌+◌, ◌-◌, ◌≤◌, List, [], ◌∷◌, ◌++◌, Option, Some, None, length, refl, sym, ap, subst, ◌∙◌, arith, append_assoc, append-nil, if◌then◌else◌}
use Rattle.std.specs.Prelude.{replicate, IfSome}
use Rattle.std.proofs.lemmas.List.{replicate-append-replicate}
use Rattle.std.proofs.lemmas.Grind.{flat_map-append}
use Rattle.session_model.specs.Journal.{Entry}
use Rattle.session_model.specs.Inbox.{InboxRecord, Numbered}
use Rattle.fixp_machine.specs.Machine.{Call, did, held_done}
use Rattle.conn_turns.specs.Lines.{Line, TakenFrame, AreTaken, IsTaken, act_calls, frame_calls, ready_behind, line_after, lines_after}
use Rattle.conn_turns.specs.Frames.{added}
use Rattle.conn_turns.specs.Turns.{Turn, Refusal, of_act, of_held, cut_short, first_calls, calls_of, calls_of_frames, refused_calls}
use Rattle.conn_turns.specs.Refusals.{IsRefused, IsOfFirst, IsTried, stood_of}
use Rattle.conn_turns.specs.declared.answer.TurnFault.{TurnFault}
use Rattle.conn_turns.specs.declared.answer.TurnFault.TheVariants as faults
use Rattle.conn_steps.specs.Taking.{refused_by}
use Rattle.connection_laws.specs.Courses.{Course, course_after, next_course}
use Rattle.connection_laws.specs.Standing.{AllMayStand}
use Rattle.connection_laws.specs.Connections.{AddsBehind}
use Rattle.connection_laws.proofs.Tailing.{UpTo, up_to}
use Rattle.turn_laws.specs.Turns.{line_received, IsCutShort, adds_cut}
use Rattle.turn_laws.specs.Standing.{StandsAt}
use Rattle.turn_laws.specs.Legs.{FurtherCalls, TriedAdds}
use Rattle.turn_laws.proofs.Adding.{cut_adds}
use Rattle.turn_laws.proofs.Draining.{helds_ready}
use Rattle.turn_laws.proofs.Going.{after_append}
use Rattle.turn_laws.proofs.Working.{cut_may_stand}

-- the calls of frames that were taken, behind what was told up to the refusal
abbrev back_of : ℕ → Option Refusal → List TakenFrame → List Call
back_of now None later = calls_of_frames now later
back_of now (Some (of_act t)) [] = []
back_of now (Some (of_act t)) (x ∷ later) = ((if x.recorded then did now ∷ [] else []) ++ replicate x.helds held_done) ++ calls_of_frames now later
back_of now (Some (of_held t m)) [] = []
back_of now (Some (of_held t m)) (x ∷ later) = replicate (x.helds - t.helds) held_done ++ calls_of_frames now later

taken_behind : (now : ℕ) (l : Line) (frames later : List TakenFrame) → AreTaken now l (frames ++ later) → AreTaken now (lines_after now l frames) later
taken_behind now l [] later all = all
taken_behind now l (t ∷ frames) later all = taken_behind now (line_after now l t) frames later all.1

-- no more held messages were applied than are ready
abbrev few_helds : (now : ℕ) (l : Line) (r : Option Refusal) (later : List TakenFrame) → Type 0
few_helds now l None later = Unit {0}
few_helds now l (Some (of_act t)) later = Unit {0}
few_helds now l (Some (of_held t m)) [] = Unit {0}
few_helds now l (Some (of_held t m)) (x ∷ later) = t.helds ≤ x.helds

are_few : (now : ℕ) (l : Line) (r : Option Refusal) (later : List TakenFrame) → IfSome r (IsRefused now l) → IfSome r (λ x. IsOfFirst x later) → AreTaken now l later → few_helds now l r later
are_few now l None later k first taken = tt
are_few now l (Some (of_act t)) later k first taken = tt
are_few now l (Some (of_held t m)) [] k first taken = tt
are_few now l (Some (of_held t m)) (x ∷ later) k first taken =
    let ready : length (ready_behind now l t) ≡ length (ready_behind now l x) = ap (λ (y : TakenFrame). length (ready_behind now l y)) first in
    omega (arith, helds_ready now l t m k, ready, taken.0.helds)

joined : (now : ℕ) (l : Line) (received : List ℕ) (frames : List TakenFrame) (r : Option Refusal) (later : List TakenFrame) → IfSome r (λ x. IsOfFirst x later) → few_helds now l r later
    → calls_of (cut_short now received frames r) ++ back_of now r later ≡ calls_of (cut_short now received (frames ++ later) None)
joined now l received frames None later first few =
    append_assoc (first_calls now) (calls_of_frames now frames) (calls_of_frames now later)
    ∙ ap (λ (cs : List Call). first_calls now ++ cs) (sym (flat_map-append (frame_calls now) frames later))
joined now l received frames (Some (of_act t)) [] first few = absurd first
joined now l received frames (Some (of_act t)) (x ∷ later) first few =
    let back : List Call = back_of now (Some (of_act t)) (x ∷ later) in
    append_assoc (first_calls now) (calls_of_frames now frames ++ refused_calls now (of_act t)) back
    ∙ (ap (λ (cs : List Call). first_calls now ++ cs) (append_assoc (calls_of_frames now frames) (refused_calls now (of_act t)) back
    ∙ (ap (λ (y : TakenFrame). calls_of_frames now frames ++ (refused_calls now (of_act y) ++ back)) (sym first) ∙ sym (flat_map-append (frame_calls now) frames (x ∷ later)))))
joined now l received frames (Some (of_held t m)) [] first few = absurd first
joined now l received frames (Some (of_held t m)) (x ∷ later) first few =
    let back : List Call = back_of now (Some (of_held t m)) (x ∷ later) in
    let helds : t.helds + (x.helds - t.helds) ≡ x.helds = omega (arith, few) in
    let calls : frame_calls now t ++ replicate (x.helds - t.helds) held_done ≡ frame_calls now x =
    append_assoc (act_calls now t) (replicate t.helds held_done) (replicate (x.helds - t.helds) held_done)
    ∙ (ap (λ (cs : List Call). act_calls now t ++ cs) (replicate-append-replicate t.helds (x.helds - t.helds) held_done ∙ ap (λ (n : ℕ). replicate n held_done) helds)
    ∙ ap (λ (y : TakenFrame). act_calls now y ++ replicate x.helds held_done) first) in
    append_assoc (first_calls now) (calls_of_frames now frames ++ frame_calls now t) back
    ∙ (ap (λ (cs : List Call). first_calls now ++ cs) (append_assoc (calls_of_frames now frames) (frame_calls now t) back
    ∙ (ap (λ (cs : List Call). calls_of_frames now frames ++ cs) (sym (append_assoc (frame_calls now t) (replicate (x.helds - t.helds) held_done) (calls_of_frames now later))
    ∙ ap (λ (cs : List Call). cs ++ calls_of_frames now later) calls) ∙ sym (flat_map-append (frame_calls now) frames (x ∷ later)))))

may_second : (h : List Entry) (c : Course) (front back : List Call) → AllMayStand h c (front ++ back) → AllMayStand h (course_after c front) back
may_second h c [] back all = all
may_second h c (call ∷ front) back all = may_second h (next_course c call) front back all.1

pub tried_adds : TriedAdds
tried_adds h old c now received frames r tried s k i = by_tried tried refl
  where
    l : Line
    l = line_received old now received k.got

    behind : Line
    behind = lines_after now l frames

    d : Course
    d = course_after c (calls_of (cut_short now received frames r))

    back : List Call
    back = back_of now r i.later

    whole : IsCutShort now received (frames ++ i.later) None old
    whole = record { got = k.got; taken = i.taken; is = tt }

    joins : calls_of (cut_short now received frames r) ++ back ≡ calls_of (cut_short now received (frames ++ i.later) None)
    joins = joined now behind received frames r i.later i.next (are_few now behind r i.later k.is i.next (taken_behind now l frames i.later i.taken))

    may : AllMayStand h d back
    may = may_second h c (calls_of (cut_short now received frames r)) back
        (subst (λ (cs : List Call). AllMayStand h c cs) (sym joins) (cut_may_stand h old (cut_short now received (frames ++ i.later) None) c s whole))

    adds : (course_after d back).added ≡ d.added ++ (tried ++ i.untried)
    adds =
        ap (λ (e : Course). e.added) (sym (after_append c (calls_of (cut_short now received frames r)) back) ∙ ap (λ (cs : List Call). course_after c cs) joins)
        ∙ (cut_adds h old now received (frames ++ i.later) None c s whole
        ∙ (ap (λ (rs : List InboxRecord). c.added ++ rs) (append-nil (added now l (frames ++ i.later)) ∙ i.adds)
        ∙ (sym (append_assoc c.added (adds_cut now l frames r) (tried ++ i.untried))
        ∙ ap (λ (rs : List InboxRecord). rs ++ (tried ++ i.untried)) (sym (cut_adds h old now received frames r c s k)))))

    by_tried : (ts : List InboxRecord) → tried ≡ ts → FurtherCalls h c (cut_short now received frames r) (cut_short now received (frames ++ i.later) None) tried
    by_tried [] e = record {
      calls = [];
      adds = record { may = tt; added = sym (append-nil d.added) ∙ ap (λ (rs : List InboxRecord). d.added ++ rs) (sym e); none = λ _. refl };
      within = (back, ap (λ (cs : List Call). cs ++ back) (append-nil (calls_of (cut_short now received frames r))) ∙ joins);
    }
    by_tried (x ∷ ts) e =
        let u : UpTo h d back tried = up_to h d back tried i.untried may adds in
        record {
          calls = u.front;
          adds = record { may = u.may; added = u.added; none = λ none. absurd (cc (e, none)) };
          within = (
            u.back,
            append_assoc (calls_of (cut_short now received frames r)) u.front u.back
                ∙ (ap (λ (cs : List Call). calls_of (cut_short now received frames r) ++ cs) (sym u.are) ∙ joins),
          );
        }

-- behind a failed call of the inbox's disk all that it tried may be left, and behind another fault nothing
pub left_is : (fault : TurnFault) (tried refused : List InboxRecord) → refused ≡ refused_by fault tried → (refused ≡ []) ⊎ (refused ≡ tried)
left_is faults.Link tried refused is = inl is
left_is faults.Inbox tried refused is = inr is
left_is faults.Outbox tried refused is = inl is
left_is (faults.Changed at) tried refused is = inl is
left_is faults.Broken tried refused is = inl is
left_is (faults.Full entries bytes) tried refused is = inl is
left_is faults.Memory tried refused is = inl is
