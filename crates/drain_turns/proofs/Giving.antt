-- The calls and steps of a turn over a link that neither fails nor ends, and the bytes that it took.
use Rattle.std.proofs.Common.{◌≡◌, ℕ, ◌+◌, ◌≤◌, Bool, false, List, [], ◌∷◌, ◌++◌, length, take, Option, Some, None, refl, sym, ap, ◌∙◌, arith, zero, suc}
use Rattle.std.specs.Prelude.{IfSome, replicate}
use Rattle.std.specs.List.{AllByRecursion}
use Rattle.std.proofs.Math.Seq.{take-append_seam}
use mathlib.Core.List.{IsPrefix}
use Rattle.session_model.proofs.Lists.{all_append}
use Rattle.fixp_machine.specs.Machine.{State, Call, turn_done, taken, held_done, step, run}
use Rattle.conn_turns.specs.Lines.{TakenFrame}
use Rattle.conn_turns.specs.Turns.{Work, works, first_calls, calls_of_frames, bad_calls, end_calls, again_calls, live_calls, finish_calls, outbox_calls, sending_calls, calls_of}
use Rattle.connection_laws.specs.Courses.{Course, course_after}
use Rattle.connection_laws.proofs.Continuing.{state_is_run}
use Rattle.turn_laws.proofs.Going.{after_append}
use Rattle.honest_ends.specs.Worlds.{World, Step, initiator_reads, after, world_after}
use Rattle.honest_turns.specs.Steps.{does_all, frame_steps, frames_steps, initiator_steps}
use Rattle.honest_turns.proofs.Stopping.{frames_taken}
use Rattle.drain_ends.specs.Closing.{KeepsLink}
use Rattle.drain_steps.proofs.Stepping.{IsOwn, high, call_high, high_append, does_high}
use Rattle.drain_turns.proofs.Resting.{rest_calls}

-- the calls of a turn that worked
abbrev work_calls : Work → Option ℕ → Bool → Bool → List Call
work_calls w broken over lost = first_calls w.now ++ (calls_of_frames w.now w.frames ++ ((bad_calls w.now broken ++ (end_calls over ++ turn_done w.now ∷ [])) ++ (outbox_calls w ++ sending_calls w.sent lost)))

pub works_calls : (w : Work) → w.broken ≡ None → w.link_over ≡ false → w.lost ≡ false
    → calls_of (works w) ≡ first_calls w.now ++ (calls_of_frames w.now w.frames ++ rest_calls w.now w.again w.live w.finish w.sent)
works_calls w broken over lost =
    ap (λ (o : Option ℕ). work_calls w o w.link_over w.lost) broken ∙ (ap (λ (b : Bool). work_calls w None b w.lost) over ∙ ap (λ (b : Bool). work_calls w None false b) lost)

abbrev work_steps : Work → Option ℕ → Bool → Bool → List Step
work_steps w broken over lost = does_all (first_calls w.now) ++ (frames_steps w.now w.frames ++ does_all ((bad_calls w.now broken ++ (end_calls over ++ turn_done w.now ∷ [])) ++ (outbox_calls w ++ sending_calls w.sent lost)))

pub works_steps : (w : Work) → w.broken ≡ None → w.link_over ≡ false → w.lost ≡ false
    → initiator_steps (works w) ≡ does_all (first_calls w.now) ++ (frames_steps w.now w.frames ++ does_all (rest_calls w.now w.again w.live w.finish w.sent))
works_steps w broken over lost =
    ap (λ (o : Option ℕ). work_steps w o w.link_over w.lost) broken ∙ (ap (λ (b : Bool). work_steps w None b w.lost) over ∙ ap (λ (b : Bool). work_steps w None false b) lost)

-- the steps of such a turn leave the link standing
helds_keep : (n : ℕ) → AllByRecursion KeepsLink (does_all (replicate n held_done))
helds_keep zero = tt
helds_keep (suc n) = (tt, helds_keep n)

frames_keep : (now : ℕ) (frames : List TakenFrame) → AllByRecursion KeepsLink (frames_steps now frames)
frames_keep now [] = tt
frames_keep now (t ∷ later) = all_append KeepsLink (frame_steps now t) (frames_steps now later) (tt, helds_keep t.helds) (frames_keep now later)

rest_keeps : (now : ℕ) (agains lives : Option (List (List ℕ))) (finish : Option ℕ) (sent : List ℕ) → AllByRecursion KeepsLink (does_all (rest_calls now agains lives finish sent))
rest_keeps now None None None sent = (tt, (tt, tt))
rest_keeps now None None (Some n) sent = (tt, (tt, (tt, tt)))
rest_keeps now None (Some l) None sent = (tt, (tt, (tt, tt)))
rest_keeps now None (Some l) (Some n) sent = (tt, (tt, (tt, (tt, tt))))
rest_keeps now (Some a) None None sent = (tt, (tt, (tt, tt)))
rest_keeps now (Some a) None (Some n) sent = (tt, (tt, (tt, (tt, tt))))
rest_keeps now (Some a) (Some l) None sent = (tt, (tt, (tt, (tt, tt))))
rest_keeps now (Some a) (Some l) (Some n) sent = (tt, (tt, (tt, (tt, (tt, tt)))))

pub works_keep : (now : ℕ) (frames : List TakenFrame) (agains lives : Option (List (List ℕ))) (finish : Option ℕ) (sent : List ℕ)
    → AllByRecursion KeepsLink (does_all (first_calls now) ++ (frames_steps now frames ++ does_all (rest_calls now agains lives finish sent)))
works_keep now frames agains lives finish sent =
    (tt, (tt, all_append KeepsLink (frames_steps now frames) (does_all (rest_calls now agains lives finish sent)) (frames_keep now frames) (rest_keeps now agains lives finish sent)))

-- they are this end's, where messages that go again are some
helds_own : (n : ℕ) → AllByRecursion IsOwn (does_all (replicate n held_done))
helds_own zero = tt
helds_own (suc n) = (tt, helds_own n)

frames_own : (now : ℕ) (frames : List TakenFrame) → AllByRecursion IsOwn (frames_steps now frames)
frames_own now [] = tt
frames_own now (t ∷ later) = all_append IsOwn (frame_steps now t) (frames_steps now later) (tt, helds_own t.helds) (frames_own now later)

rest_own : (now : ℕ) (agains lives : Option (List (List ℕ))) (finish : Option ℕ) (sent : List ℕ) → IfSome agains (λ p. 1 ≤ length p) → AllByRecursion IsOwn (does_all (rest_calls now agains lives finish sent))
rest_own now None None None sent some = (tt, (tt, tt))
rest_own now None None (Some n) sent some = (tt, (tt, (tt, tt)))
rest_own now None (Some l) None sent some = (tt, (tt, (tt, tt)))
rest_own now None (Some l) (Some n) sent some = (tt, (tt, (tt, (tt, tt))))
rest_own now (Some a) None None sent some = (tt, (some, (tt, tt)))
rest_own now (Some a) None (Some n) sent some = (tt, (some, (tt, (tt, tt))))
rest_own now (Some a) (Some l) None sent some = (tt, (some, (tt, (tt, tt))))
rest_own now (Some a) (Some l) (Some n) sent some = (tt, (some, (tt, (tt, (tt, tt)))))

pub works_own : (now : ℕ) (frames : List TakenFrame) (agains lives : Option (List (List ℕ))) (finish : Option ℕ) (sent : List ℕ) → IfSome agains (λ p. 1 ≤ length p)
    → AllByRecursion IsOwn (does_all (first_calls now) ++ (frames_steps now frames ++ does_all (rest_calls now agains lives finish sent)))
works_own now frames agains lives finish sent some =
    (tt, (tt, all_append IsOwn (frames_steps now frames) (does_all (rest_calls now agains lives finish sent)) (frames_own now frames) (rest_own now agains lives finish sent some)))

-- the tick alone raises the measure
none_more : (a : ℕ) → a ≡ 0 → 0 + a ≡ 0
none_more a e = omega (arith, e)

helds_high : (n : ℕ) (s : State) → call_high s (replicate n held_done) ≡ 0
helds_high zero s = refl
helds_high (suc n) s = none_more (call_high (step s held_done) (replicate n held_done)) (helds_high n (step s held_done))

frames_high : (w : World) (now : ℕ) (frames : List TakenFrame) → high w (frames_steps now frames) ≡ 0
frames_high w now [] = refl
frames_high w now (t ∷ later) =
    let one = does_high (after w (initiator_reads t.at now)) (replicate t.helds held_done) ∙ helds_high t.helds (after w (initiator_reads t.at now)).initiator in
    let more = frames_high (world_after w (frame_steps now t)) now later in
    let both = high_append w (frame_steps now t) (frames_steps now later) in
    by_numbers (high (after w (initiator_reads t.at now)) (does_all (replicate t.helds held_done))) (high (world_after w (frame_steps now t)) (frames_steps now later)) (high w (frames_steps now (t ∷ later))) one more both
  where
    by_numbers : (a b c : ℕ) → a ≡ 0 → b ≡ 0 → c ≡ (0 + a) + b → c ≡ 0
    by_numbers a b c e f g = omega arith

rest_high : (s : State) (now : ℕ) (agains lives : Option (List (List ℕ))) (finish : Option ℕ) (sent : List ℕ) → call_high s (rest_calls now agains lives finish sent) ≡ 0
rest_high s now None None None sent = refl
rest_high s now None None (Some n) sent = refl
rest_high s now None (Some l) None sent = refl
rest_high s now None (Some l) (Some n) sent = refl
rest_high s now (Some a) None None sent = refl
rest_high s now (Some a) None (Some n) sent = refl
rest_high s now (Some a) (Some l) None sent = refl
rest_high s now (Some a) (Some l) (Some n) sent = refl

pub works_high : (w : World) (now : ℕ) (frames : List TakenFrame) (agains lives : Option (List (List ℕ))) (finish : Option ℕ) (sent : List ℕ)
    → high w (does_all (first_calls now) ++ (frames_steps now frames ++ does_all (rest_calls now agains lives finish sent))) ≡ call_high w.initiator (first_calls now)
works_high w now frames agains lives finish sent =
    let rest = does_all (rest_calls now agains lives finish sent) in
    let v = world_after w (does_all (first_calls now)) in
    let a = high_append w (does_all (first_calls now)) (frames_steps now frames ++ rest) in
    let b = high_append v (frames_steps now frames) rest in
    let c = frames_high v now frames in
    let d = does_high (world_after v (frames_steps now frames)) (rest_calls now agains lives finish sent) ∙ rest_high (world_after v (frames_steps now frames)).initiator now agains lives finish sent in
    let e = does_high w (first_calls now) in
    by_numbers (high w (does_all (first_calls now) ++ (frames_steps now frames ++ rest))) (high w (does_all (first_calls now))) (high v (frames_steps now frames ++ rest)) (high v (frames_steps now frames)) (high (world_after v (frames_steps now frames)) rest) (call_high w.initiator (first_calls now)) a b c d e
  where
    by_numbers : (all first more frames rest calls : ℕ) → all ≡ first + more → more ≡ frames + rest → frames ≡ 0 → rest ≡ 0 → first ≡ calls → all ≡ calls
    by_numbers all first more frames rest calls a b c d e = omega arith

-- what the link took of the bytes that were to be sent
seam : (sent unsent : List ℕ) → IsPrefix sent unsent → take (length sent) unsent ≡ sent
seam sent unsent p = ap (λ (bs : List ℕ). take (length sent) bs) (sym p.1) ∙ take-append_seam sent p.0

pub sends_taken : (c : Course) (now : ℕ) (sent : List ℕ) → IsPrefix sent (run c.state (first_calls now)).unsent → (course_after c (first_calls now ++ taken (length sent) ∷ [])).taken ≡ c.taken ++ sent
sends_taken c now sent front = ap (λ (bs : List ℕ). c.taken ++ bs) (seam sent (run c.state (first_calls now)).unsent front)

rest_taken : (e : Course) (now : ℕ) (agains lives : Option (List (List ℕ))) (finish : Option ℕ) (sent : List ℕ)
    → (course_after e (rest_calls now agains lives finish sent)).taken
    ≡ e.taken ++ take (length sent) (course_after e (turn_done now ∷ (again_calls now agains ++ (live_calls now lives ++ finish_calls now finish)))).state.unsent
rest_taken e now None None None sent = refl
rest_taken e now None None (Some n) sent = refl
rest_taken e now None (Some l) None sent = refl
rest_taken e now None (Some l) (Some n) sent = refl
rest_taken e now (Some a) None None sent = refl
rest_taken e now (Some a) None (Some n) sent = refl
rest_taken e now (Some a) (Some l) None sent = refl
rest_taken e now (Some a) (Some l) (Some n) sent = refl

pub works_taken : (c : Course) (now : ℕ) (frames : List TakenFrame) (agains lives : Option (List (List ℕ))) (finish : Option ℕ) (sent : List ℕ)
    → IsPrefix sent (run c.state (first_calls now ++ (calls_of_frames now frames ++ (turn_done now ∷ (again_calls now agains ++ (live_calls now lives ++ finish_calls now finish)))))).unsent
    → (course_after c (first_calls now ++ (calls_of_frames now frames ++ rest_calls now agains lives finish sent))).taken ≡ c.taken ++ sent
works_taken c now frames agains lives finish sent front =
    ap (λ (d : Course). d.taken) (after_append c first (took ++ rest) ∙ after_append (course_after c first) took rest)
    ∙ (rest_taken e now agains lives finish sent ∙ (ap (λ (bs : List ℕ). bs ++ take (length sent) (course_after e outbox).state.unsent) (frames_taken (course_after c first) now frames)
    ∙ ap (λ (bs : List ℕ). c.taken ++ bs) (ap (λ (s : State). take (length sent) s.unsent) at ∙ seam sent (run c.state (first ++ (took ++ outbox))).unsent front)))
  where
    first : List Call
    first = first_calls now

    took : List Call
    took = calls_of_frames now frames

    rest : List Call
    rest = rest_calls now agains lives finish sent

    outbox : List Call
    outbox = turn_done now ∷ (again_calls now agains ++ (live_calls now lives ++ finish_calls now finish))

    e : Course
    e = course_after (course_after c first) took

    at : (course_after e outbox).state ≡ run c.state (first ++ (took ++ outbox))
    at = ap (λ (d : Course). d.state) (sym (after_append (course_after c first) took outbox) ∙ sym (after_append c first (took ++ outbox))) ∙ state_is_run c (first ++ (took ++ outbox))
