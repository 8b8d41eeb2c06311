-- Frames that a turn took of what the other end wrote, as messages that it read.
use Rattle.std.proofs.Common.{◌≡◌, ◌-◌, Bool, true, false, if◌then◌else◌, ℕ, List, [], ◌∷◌, ◌++◌, drop, Option, Some, None, refl, sym, ap, subst, ◌∙◌, append_assoc, ◌≤◌, zero, suc, length, arith}
use Rattle.std.specs.Prelude.{replicate}
use Rattle.std.specs.List.{AllByRecursion, AllZip}
use Rattle.std.proofs.lemmas.List.{append_cancel_left}
use Rattle.sofh_frame.specs.Framing.{Frame, IsFrame, spelled, First, frame, rest, bad_length, bad_encoding, first_of}
use Rattle.sofh_frame.specs.Splits.{IsNoFrame, frames_of}
use Rattle.sofh_frame.proofs.FramingLemmas.{bad_length-append, bad_encoding-append}
use Rattle.sofh_frame.proofs.SplitLemmas.{frames_of-front, frames_of-none}
use Rattle.session_model.specs.Journal.{Entry}
use Rattle.session_model.proofs.Lists.{all_append}
use Rattle.fixp_replies.specs.Acts.{is_record}
use Rattle.fixp_replies.specs.Incoming.{Incoming, payload_in}
use Rattle.fixp_replies.specs.Outcomes.{Outcome}
use Rattle.fixp_replies.specs.Replies.{reply_of}
use Rattle.fixp_machine.specs.Machine.{State, Call, did, around, reply_applied, done_pending, step, run, held_done, held_with, IsDrained}
use Rattle.fixp_machine.specs.Machine as calls
use Rattle.conn_turns.specs.Lines.{Line, TakenFrame, size_of, frame_calls, line_after, lines_after, AreTaken, IsNext, reply_at, act_calls, ready_behind}
use Rattle.conn_turns.specs.Frames.{is_bad}
use Rattle.conn_turns.specs.Turns.{calls_of_frames}
use Rattle.connection_laws.specs.Writing.{Piece, said, entry, said_all, said_with, writes, bytes_written}
use Rattle.connection_laws.specs.Framed.{IsLegalPiece}
use Rattle.connection_laws.specs.Courses.{Course, course_after}
use Rattle.connection_laws.specs.Standing.{IsOpen, AllMayStand}
use Rattle.connection_laws.specs.Ranges.{IsInTime, FitsIncoming, FitsCall}
use Rattle.turn_laws.proofs.Draining.{frame_drained}
use Rattle.turn_laws.proofs.Going.{Steady, Goes, nothing, and_then, partly_goes}
use Rattle.two_ends.specs.Reading.{incoming_of, ReadsAs}
use Rattle.two_ends.proofs.Cutting.{all_is_read}
use Rattle.honest_ends.specs.Worlds.{World, Step, initiator_reads, initiator_read, initiator_calls, IsOther}
use Rattle.honest_turns.specs.Steps.{frame_steps, frames_steps}
use Rattle.honest_turns.proofs.Reaching.{Reaches, one, leads}
use Rattle.honest_turns.proofs.Calling.{no_calls, calls_then, state_then, may_second, others, others_by, may_first}

-- a frame stands at the front of what was written: it is the first message of it
record Front (pieces : List Piece) (f : Frame) (behind : List ℕ) : Type 0 where
  piece : Piece
  later : List Piece
  is : pieces ≡ piece ∷ later
  reads : ReadsAs piece f
  behind_is : behind ≡ bytes_written later

front : (pieces : List Piece) (f : Frame) (behind : List ℕ) → AllByRecursion IsLegalPiece pieces → IsFrame f → spelled f ++ behind ≡ bytes_written pieces → Front pieces f behind
front [] f behind legal admissible e =
    absurd (subst (λ (fs : List Frame). AllZip ReadsAs [] fs) (ap (λ (bs : List ℕ). frames_of bs) (sym e) ∙ frames_of-front f behind admissible) (all_is_read [] tt))
front (p ∷ later) f behind legal admissible e =
    let zip : AllZip ReadsAs (p ∷ later) (f ∷ frames_of behind) =
    subst (λ (fs : List Frame). AllZip ReadsAs (p ∷ later) fs) (ap (λ (bs : List ℕ). frames_of bs) (sym e) ∙ frames_of-front f behind admissible) (all_is_read (p ∷ later) legal) in
    record {
      piece = p;
      later = later;
      is = refl;
      reads = zip.0;
      behind_is = append_cancel_left (spelled f) behind (bytes_written later) (e ∙ ap (λ (bs : List ℕ). bs ++ bytes_written later) (sym zip.0.bytes));
    }

-- at the front of what was written stands no bad header
good : (pieces : List Piece) (k : First) → AllByRecursion IsLegalPiece pieces → first_of (bytes_written pieces) ≡ k → IsNoFrame k → is_bad k ≡ false
good [] k legal e none = ap is_bad (sym e)
good (p ∷ later) k legal e none =
    absurd (subst (λ (fs : List Frame). AllZip ReadsAs (p ∷ later) fs) (frames_of-none (bytes_written (p ∷ later)) (subst IsNoFrame (sym e) none)) (all_is_read (p ∷ later) legal))

pub not_bad : (pieces : List Piece) (bytes tail : List ℕ) → AllByRecursion IsLegalPiece pieces → bytes ++ tail ≡ bytes_written pieces → is_bad (first_of bytes) ≡ false
not_bad pieces bytes tail legal e = by_first (first_of bytes) refl
  where
    whole : (k : First) → first_of (bytes ++ tail) ≡ k → first_of (bytes_written pieces) ≡ k
    whole k f = ap (λ (bs : List ℕ). first_of bs) (sym e) ∙ f

    by_first : (k : First) → first_of bytes ≡ k → is_bad k ≡ false
    by_first (frame order message size) found = refl
    by_first rest found = refl
    by_first (bad_length n) found = good pieces (bad_length n) legal (whole (bad_length n) (bad_length-append bytes tail n found)) tt
    by_first (bad_encoding n) found = good pieces (bad_encoding n) legal (whole (bad_encoding n) (bad_encoding-append bytes tail n found)) tt

-- an act that is no record needs no `did`
act_done : (w : World) (left : List Piece) (now : ℕ) (t : TakenFrame) (recorded : Bool)
    → recorded ≡ is_record (reply_of (around w.initiator t.at now) w.initiator.facts t.incoming).act
    → initiator_calls w left (calls.frame t.incoming t.at now ∷ did now ∷ []) ≡ initiator_calls w left (calls.frame t.incoming t.at now ∷ (if recorded then did now ∷ [] else []))
act_done w left now t true e = refl
act_done w left now t false e =
    ap (λ (p : Option Outcome). record w { initiator = done_pending got p now; outward = w.outward ++ (writes s call ++ (said_all (said_with p) ++ [])); homeward = left }) none
  where
    s : State
    s = w.initiator

    call : Call
    call = calls.frame t.incoming t.at now

    got : State
    got = step s call

    o : Outcome
    o = reply_of (around s t.at now) s.facts t.incoming

    before : State
    before = record s { moment = now; last_received = now; room = s.room - 1 }

    more : State
    more = record before { held = held_with o.holds (payload_in t.incoming) s.held }

    none : got.pending ≡ None
    none = ap (λ (b : Bool). (if b then record before { pending = Some o } else reply_applied more o now).pending) (sym e)

legal_fits : (p : Piece) → IsLegalPiece p → FitsIncoming (incoming_of p)
legal_fits (said m) legal = legal.fields
legal_fits (entry payload) legal = tt

-- what is left to read once some frames were taken, of which this line was left
record Read (hi ha : List Entry) (w : World) (cs : List Call) (steps : List Step) (held left_held : List ℕ) : Type 0 where
  left : List Piece
  reaches : Reaches hi ha w (initiator_calls w left cs)
  by : reaches.steps ≡ steps
  read : Piece
  joins : w.homeward ≡ read ∷ left
  goes_on : (tail : List ℕ) → held ++ tail ≡ bytes_written w.homeward → left_held ++ tail ≡ bytes_written left
  legal : AllByRecursion IsLegalPiece left
  fits : AllByRecursion FitsCall cs

-- held messages that are applied are calls other than those of frames, and come without numbers
helds_other : (h : List Entry) (n : ℕ) → AllByRecursion (IsOther h) (replicate n held_done)
helds_other h zero = tt
helds_other h (suc n) = (tt, helds_other h n)

helds_fit : (n : ℕ) → AllByRecursion FitsCall (replicate n held_done)
helds_fit zero = tt
helds_fit (suc n) = (tt, helds_fit n)

-- A frame is heard: it is the next one, of a machine with no held message to be applied; its act is done where it is a record, and some of the
-- held messages that are ready behind it are applied
pub record IsHeard (now : ℕ) (l : Line) (t : TakenFrame) : Type 0 where
  pub drained : IsDrained l.machine
  pub next : IsNext l t
  pub recorded : t.recorded ≡ is_record (reply_at now l t).act
  pub helds : t.helds ≤ length (ready_behind now l t)

abbrev pub AreHeard : ℕ → Line → List TakenFrame → Type 0
AreHeard now l [] = Unit {0}
AreHeard now l (t ∷ later) = IsHeard now l t × AreHeard now (line_after now l t) later

pub heard_of_taken : (now : ℕ) (l : Line) (frames : List TakenFrame) → IsDrained l.machine → AreTaken now l frames → AreHeard now l frames
heard_of_taken now l [] drained k = tt
heard_of_taken now l (t ∷ later) drained k = (
  record { drained = drained; next = k.0.next; recorded = k.0.recorded; helds = let all = k.0.helds in omega (arith, all) },
  heard_of_taken now (line_after now l t) later (frame_drained now l t k.0) k.1,
)

pub heard_more : (now : ℕ) (l : Line) (frames : List TakenFrame) (t : TakenFrame) → AreHeard now l frames → IsHeard now (lines_after now l frames) t → AreHeard now l (frames ++ t ∷ [])
heard_more now l [] t k here = (here, tt)
heard_more now l (x ∷ later) t k here = (k.0, heard_more now (line_after now l x) later t k.1 here)

pub heard_go : (h : List Entry) (now : ℕ) (l : Line) (frames : List TakenFrame) (c : Course) → Steady h c l.machine → AreHeard now l frames → Goes h c l.machine (calls_of_frames now frames)
unfolding line_after
heard_go h now l [] c s k = nothing h c l.machine s
heard_go h now l (t ∷ later) c s k =
    let x : Goes h c l.machine (frame_calls now t) = partly_goes h now c l t s k.0.drained k.0.next k.0.recorded k.0.helds in
    and_then h c l.machine (frame_calls now t) (calls_of_frames now later) x (heard_go h now (line_after now l t) later (course_after c (frame_calls now t)) x.after k.1)

frame_read : (hi ha : List Entry) (w : World) (c : Course) (now : ℕ) (l : Line) (t : TakenFrame) (tail : List ℕ) → c.state ≡ w.initiator → w.initiator ≡ l.machine → AllMayStand hi c (frame_calls now t) → IsHeard now l t
    → IsInTime now → AllByRecursion IsLegalPiece w.homeward → l.held ++ tail ≡ bytes_written w.homeward → Read hi ha w (frame_calls now t) (frame_steps now t) l.held (drop (size_of t.frame) l.held)
frame_read hi ha w c now l t tail at is may k time legal e = record {
  left = x.later;
  reaches = calls_then hi ha w x.later x.later act helds
      (leads hi ha w (initiator_read w w.homeward t.at now) (initiator_calls w x.later act) (one hi ha w (initiator_reads t.at now) (subst IsOpen at may.0.comes, subst IsDrained (sym is) k.drained)) there)
      (others hi ha (initiator_calls w x.later act) (course_after c act) helds (state_then c w.initiator act at) (may_second hi c act helds may) (helds_other hi t.helds));
  read = x.piece;
  joins = x.is;
  by = ap (λ (ss : List Step). initiator_reads t.at now ∷ ss)
      (others_by hi ha (initiator_calls w x.later act) (course_after c act) helds (state_then c w.initiator act at) (may_second hi c act helds may) (helds_other hi t.helds));
  goes_on = λ more here.
      append_cancel_left (spelled t.frame) (behind ++ more) (bytes_written x.later)
      (spells more here ∙ (ap (λ (ps : List Piece). bytes_written ps) x.is ∙ ap (λ (bs : List ℕ). bs ++ bytes_written x.later) (sym x.reads.bytes)));
  legal = all.1;
  fits = all_append FitsCall act helds (by_recorded t.recorded) (helds_fit t.helds);
}
  where
    act : List Call
    act = act_calls now t

    helds : List Call
    helds = replicate t.helds held_done

    behind : List ℕ
    behind = drop (size_of t.frame) l.held

    spells : (more : List ℕ) → l.held ++ more ≡ bytes_written w.homeward → spelled t.frame ++ (behind ++ more) ≡ bytes_written w.homeward
    spells more here = sym (append_assoc (spelled t.frame) behind more) ∙ (ap (λ (bs : List ℕ). bs ++ more) (sym k.next.begins.spells) ∙ here)

    x : Front w.homeward t.frame (behind ++ tail)
    x = front w.homeward t.frame (behind ++ tail) legal k.next.begins.admissible (spells tail e)

    same : t.incoming ≡ incoming_of x.piece
    same = x.reads.only t.incoming k.next.is

    all : AllByRecursion IsLegalPiece (x.piece ∷ x.later)
    all = subst (λ (ps : List Piece). AllByRecursion IsLegalPiece ps) x.is legal

    fits : FitsIncoming t.incoming
    fits = subst FitsIncoming (sym same) (legal_fits x.piece all.0)

    by_recorded : (b : Bool) → AllByRecursion FitsCall (calls.frame t.incoming t.at now ∷ (if b then did now ∷ [] else []))
    by_recorded true = ((fits, time), (tt, tt))
    by_recorded false = ((fits, time), tt)

    there : initiator_read w w.homeward t.at now ≡ initiator_calls w x.later act
    there = ap (λ (ps : List Piece). initiator_read w ps t.at now) x.is
        ∙ (ap (λ (i : Incoming). initiator_calls w x.later (calls.frame i t.at now ∷ did now ∷ [])) (sym same)
        ∙ act_done w x.later now t t.recorded (k.recorded ∙ ap (λ (s : State). is_record (reply_of (around s t.at now) s.facts t.incoming).act) (sym is)))

pub record FramesRead (hi ha : List Entry) (w : World) (cs : List Call) (steps : List Step) (count : ℕ) (held left_held : List ℕ) : Type 0 where
  pub left : List Piece
  pub reaches : Reaches hi ha w (initiator_calls w left cs)
  pub by : reaches.steps ≡ steps
  pub read : List Piece
  pub joins : w.homeward ≡ read ++ left
  pub counts : length read ≡ count
  pub goes_on : (tail : List ℕ) → held ++ tail ≡ bytes_written w.homeward → left_held ++ tail ≡ bytes_written left
  pub legal : AllByRecursion IsLegalPiece left
  pub fits : AllByRecursion FitsCall cs

pub frames_read : (hi ha : List Entry) (w : World) (c : Course) (now : ℕ) (l : Line) (frames : List TakenFrame) (tail : List ℕ) → c.state ≡ w.initiator → w.initiator ≡ l.machine
    → AllMayStand hi c (calls_of_frames now frames) → AreHeard now l frames → IsInTime now → AllByRecursion IsLegalPiece w.homeward → l.held ++ tail ≡ bytes_written w.homeward
    → FramesRead hi ha w (calls_of_frames now frames) (frames_steps now frames) (length frames) l.held (lines_after now l frames).held
unfolding line_after
frames_read hi ha w c now l [] tail at is may k time legal e = record { left = w.homeward; reaches = no_calls hi ha w; by = refl; read = []; joins = refl; counts = refl; goes_on = λ more here. here; legal = legal; fits = tt }
frames_read hi ha w c now l (t ∷ later) tail at is may k time legal e =
    let first : List Call = frame_calls now t in
    let more : List Call = calls_of_frames now later in
    let x : Read hi ha w first (frame_steps now t) l.held (drop (size_of t.frame) l.held) = frame_read hi ha w c now l t tail at is (may_first hi c first more may) k.0 time legal e in
    let v : World = initiator_calls w x.left first in
    let y : FramesRead hi ha v more (frames_steps now later) (length later) (drop (size_of t.frame) l.held) (lines_after now (line_after now l t) later).held =
    frames_read hi ha v (course_after c first) now (line_after now l t) later tail (state_then c w.initiator first at) (ap (λ (s : State). run s first) is) (may_second hi c first more may) k.1 time x.legal (x.goes_on tail e) in
    record {
      left = y.left;
      reaches = calls_then hi ha w x.left y.left first more x.reaches y.reaches;
      by = ap (λ (ss : List Step). ss ++ y.reaches.steps) x.by ∙ ap (λ (ss : List Step). frame_steps now t ++ ss) y.by;
      read = x.read ∷ y.read;
      joins = x.joins ∙ ap (λ (ps : List Piece). x.read ∷ ps) y.joins;
      counts = ap (λ (n : ℕ). suc n) y.counts;
      goes_on = λ rest here. y.goes_on rest (x.goes_on rest here);
      legal = y.legal;
      fits = all_append FitsCall first more x.fits y.fits;
    }
