-- Frames that are taken one after another: what they make of the line, and what one more adds.
use Rattle.std.proofs.Common.{◌≡◌, ℕ, Bool, true, false, if◌then◌else◌, Option, None, subst, List, [], ◌∷◌, ◌++◌, length, refl, sym, ap, ◌∙◌, arith, append_assoc, append-nil, length-append}
use Rattle.sofh_frame.specs.Framing.{Frame, header_of, spelled}
use Rattle.sofh_frame.specs.Splits.{spelled_all}
use Rattle.fixp_machine.specs.Machine.{State, Call, step, run}
use Rattle.conn_turns.specs.Lines.{Line, TakenFrame, size_of, frame_calls, IsTaken, line_after, lines_after, AreTaken}
use Rattle.conn_turns.specs.Frames.{adds, tells, added, told}
use Rattle.session_model.specs.Journal.{History}
use Rattle.conn_turns.specs.Turns.{Work, works, first_calls, closing_calls, outbox_calls, sending_calls, calls_of, calls_of_frames}
use Rattle.conn_turns.specs.Exact.{Served, line_sent, unless_waits}
use Rattle.conn_turns.specs.Laws.{frames_in, Joins}

pub run_append : (m : State) (first later : List Call) → run m (first ++ later) ≡ run (run m first) later
run_append m [] later = refl
run_append m (call ∷ first) later = run_append (step m call) first later

length-spelled : (f : Frame) → length (spelled f) ≡ size_of f
unfolding header_of
length-spelled f = length-append (header_of f) f.message

pub frames_join : (now : ℕ) (l : Line) (frames : List TakenFrame) → AreTaken now l frames → Joins l frames (lines_after now l frames)
unfolding line_after
frames_join now l [] next = record { bytes = refl; each = tt; place = omega arith; over = refl }
frames_join now l (t ∷ later) next =
    let behind : Joins (line_after now l t) later (lines_after now (line_after now l t) later) = frames_join now (line_after now l t) later next.1 in
    record {
      bytes = next.0.next.begins.spells ∙ (ap (λ bytes. spelled t.frame ++ bytes) behind.bytes ∙ sym (append_assoc (spelled t.frame) (spelled_all (frames_in later)) _));
      each = (next.0.next.begins.admissible, behind.each);
      place = omega (arith, behind.place, length-append (spelled t.frame) (spelled_all (frames_in later)), length-spelled t.frame);
      over = behind.over;
    }

pub frames_make_calls : (now : ℕ) (l : Line) (frames : List TakenFrame) → (lines_after now l frames).machine ≡ run l.machine (calls_of_frames now frames)
unfolding line_after
frames_make_calls now l [] = refl
frames_make_calls now l (t ∷ later) =
    frames_make_calls now (line_after now l t) later ∙ sym (run_append l.machine (frame_calls now t) (calls_of_frames now later))

-- one more frame
pub lines_more : (now : ℕ) (l : Line) (frames : List TakenFrame) (t : TakenFrame) → lines_after now l (frames ++ t ∷ []) ≡ line_after now (lines_after now l frames) t
lines_more now l [] t = refl
lines_more now l (x ∷ later) t = lines_more now (line_after now l x) later t

pub taken_more : (now : ℕ) (l : Line) (frames : List TakenFrame) (t : TakenFrame) → AreTaken now l frames → IsTaken now (lines_after now l frames) t → AreTaken now l (frames ++ t ∷ [])
taken_more now l [] t next here = (here, tt)
taken_more now l (x ∷ later) t next here = (next.0, taken_more now (line_after now l x) later t next.1 here)

pub added_more : (now : ℕ) (l : Line) (frames : List TakenFrame) (t : TakenFrame) → added now l (frames ++ t ∷ []) ≡ added now l frames ++ adds now (lines_after now l frames) t
added_more now l [] t = append-nil (adds now l t)
added_more now l (x ∷ later) t =
    ap (λ rs. adds now l x ++ rs) (added_more now (line_after now l x) later t) ∙ sym (append_assoc (adds now l x) (added now (line_after now l x) later) _)

pub told_more : (now : ℕ) (l : Line) (frames : List TakenFrame) (t : TakenFrame) → told now l (frames ++ t ∷ []) ≡ told now l frames ++ tells now (lines_after now l frames) t
told_more now l [] t = append-nil (tells now l t)
told_more now l (x ∷ later) t =
    ap (λ ns. tells now l x ++ ns) (told_more now (line_after now l x) later t) ∙ sym (append_assoc (tells now l x) (told now (line_after now l x) later) _)

pub work_makes_calls : (before seen : History) (old l behind new : Line) (w : Work) → l.machine ≡ run old.machine (first_calls w.now) → Served before seen l behind w
    → new ≡ line_sent behind w.sent w.lost → new.machine ≡ run old.machine (calls_of (works w))
work_makes_calls before seen old l behind new w start s sends =
    let first : List Call = first_calls w.now in
    let frames : List Call = calls_of_frames w.now w.frames in
    let closing : List Call = closing_calls w in
    let outbox : List Call = outbox_calls w in
    let sending : List Call = sending_calls w.sent w.lost in
    let m : State = run old.machine first in
    ap (λ (x : Line). x.machine) sends
    ∙ (ap (λ (x : State). run x sending) s.machine
    ∙ (ap (λ (x : State). run (run x (frames ++ (closing ++ outbox))) sending) start
    ∙ (sym (run_append m (frames ++ (closing ++ outbox)) sending)
    ∙ (ap (λ (cs : List Call). run m cs) (append_assoc frames (closing ++ outbox) sending ∙ ap (λ (cs : List Call). frames ++ cs) (append_assoc closing outbox sending))
    ∙ sym (run_append old.machine first (frames ++ (closing ++ (outbox ++ sending))))))))

-- frames leave whether the turn began with output unsent
pub after_waits : (now : ℕ) (l : Line) (t : TakenFrame) → (line_after now l t).waits ≡ l.waits
unfolding line_after
after_waits now l t = refl

pub lines_wait : (now : ℕ) (l : Line) (frames : List TakenFrame) → (lines_after now l frames).waits ≡ l.waits
lines_wait now l [] = refl
lines_wait now l (t ∷ later) = lines_wait now (line_after now l t) later ∙ after_waits now l t

-- nor how many of them a turn takes
pub after_number : (now : ℕ) (l : Line) (t : TakenFrame) → (line_after now l t).per_turn ≡ l.per_turn
unfolding line_after
after_number now l t = refl

pub lines_number : (now : ℕ) (l : Line) (frames : List TakenFrame) → (lines_after now l frames).per_turn ≡ l.per_turn
lines_number now l [] = refl
lines_number now l (t ∷ later) = lines_number now (line_after now l t) later ∙ after_number now l t

-- the same is due of lines of which both waits are the same
pub unless_same : {A : Type 0} (a b : Line) (x y : Option A) → a.waits ≡ b.waits → x ≡ y → unless_waits a x ≡ unless_waits b y
unless_same {A} a b x y waits is = ap (λ (w : Bool). if w then None else x) waits ∙ ap (λ (o : Option A). if b.waits then None else o) is

-- of what a turn sends or tells of the outbox: as much as is due, or nothing where the turn began with output unsent
pub due_unless : {A : Type 0} (l : Line) (due told : Option A) (P : Option A → Type 0) → told ≡ unless_waits l due → P None → P due → P told
due_unless {A} l due told P is none some = subst P (sym is) (by_test l.waits)
  where
    by_test : (b : Bool) → P (if b then None else due)
    by_test true = none
    by_test false = some
