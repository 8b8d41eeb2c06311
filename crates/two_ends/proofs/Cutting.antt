-- Bytes that begin those of legal frames are split into the first of them.
use Rattle.std.proofs.Common.{◌≡◌, ℕ, ◌+◌, ◌<◌, ◌≤◌, List, [], ◌∷◌, ◌++◌, length, drop, refl, sym, ap, subst, ◌∙◌, arith, append-nil, append_assoc, length-append, true≢false}
use Rattle.std.proofs.lemmas.List.Elements.{All-drop}
use Rattle.std.specs.List.{AllZip}
use Rattle.sbe_prim.specs.declared.Order.{Order}
use Rattle.sbe_prim.specs.declared.Order.TheVariants.{Little}
use Rattle.sofh_frame.specs.Framing.{Frame, IsFrame, IsBytes, spelled, First, frame, rest, bad_length, bad_encoding, first_of}
use Rattle.sofh_frame.specs.Splits.{IsNoFrame, frames_of}
use Rattle.sofh_frame.proofs.FramingLemmas.{begins-frame, frame-begins}
use Rattle.sofh_frame.proofs.SplitLemmas.{length-spelled, drop-spelled, frames_of-front, frames_of-none}
use Rattle.fixp_msgs.specs.declared.frames.FrameKind.TheVariants.{App, Session}
use Rattle.fixp_msgs.specs.Canonical.{message_bytes}
use Rattle.fixp_msgs.specs.Grammar.{Spells}
use Rattle.fixp_msgs.specs.Header.{kind_of}
use Rattle.fixp_msgs.specs.Message.{Message}
use Rattle.fixp_msgs.specs.Numbering.{payload_of}
use Rattle.fixp_msgs.specs.Table.{is_template}
use Rattle.fixp_msgs.proofs.Rows.{at_most_one, is_template-row}
use Rattle.fixp_msgs.proofs.Written.{message_spells}
use Rattle.fixp_replies.specs.Incoming.{Incoming, application, session, wrong_order, too_short, unknown, IsIncoming}
use Rattle.connection_laws.specs.Writing.{Piece, said, entry, bytes_of_piece, bytes_written}
use Rattle.connection_laws.specs.Framed.{IsLegalPiece}
use Rattle.connection_laws.proofs.Framing.{is_session, frame_of_message, frame_of_entry}
use Rattle.two_ends.specs.Reading.{ReadsAs, AreRead, WrittenIsRead, AllIsRead, EventIsCarried}

-- a session message that is spelled is no other incoming message
session_only : (order : Order) (message : List ℕ) (m : Message) → kind_of order message ≡ Session → Spells message m → (i : Incoming) → IsIncoming order message i → i ≡ session m
session_only order message m k spells (application a) q = let j = q.0 in cc
session_only order message m k spells (session n) q = ap session (at_most_one message n m q.1 spells)
session_only order message m k spells wrong_order q = cc
session_only order message m k spells too_short q = absurd (q.2 m spells)
session_only order message m k spells (unknown id) q = absurd (true≢false (sym (is_template-row m) ∙ (ap is_template (sym spells.template ∙ q.1) ∙ q.2)))

-- nor is an application message
application_only : (order : Order) (message payload : List ℕ) → kind_of order message ≡ App → payload_of (record { order = order; message = message }) ≡ payload
    → (i : Incoming) → IsIncoming order message i → i ≡ application payload
application_only order message payload k same (application a) q = ap application (q.1 ∙ same)
application_only order message payload k same (session n) q = let j = q.0 in cc
application_only order message payload k same wrong_order q = cc
application_only order message payload k same too_short q = let j = q.0 in cc
application_only order message payload k same (unknown id) q = let j = q.0 in cc

-- the frame of a piece
record HasFrame (p : Piece) : Type 0 where
  frame : Frame
  admissible : IsFrame frame
  reads : ReadsAs p frame

has_frame : (p : Piece) → IsLegalPiece p → HasFrame p
has_frame (said m) legal =
    let there = frame_of_message m legal in
    let spells : Spells (message_bytes m) m = message_spells m legal in
    record {
      frame = record { order = Little; message = message_bytes m };
      admissible = there.admissible;
      reads = record { bytes = there.bytes; incoming = (is_session m legal, spells); only = session_only Little (message_bytes m) m (is_session m legal) spells };
    }
has_frame (entry payload) a =
    let there = frame_of_entry payload a in
    record {
      frame = a.frame;
      admissible = there.admissible;
      reads = record { bytes = there.bytes; incoming = (a.application, sym a.spelled); only = application_only a.frame.order a.frame.message payload a.application a.spelled };
    }

-- of two lists that go on to the same one, either begins the other, the second all of the first, or not all of it
data Cut (xs front behind later : List ℕ) : Type 0 where
  past : (more : List ℕ) → front ++ more ≡ xs → more ++ later ≡ behind → Cut xs front behind later
  short : (missing : List ℕ) → xs ++ missing ≡ front → 1 ≤ length missing → Cut xs front behind later

cut : (xs front behind later : List ℕ) → xs ++ later ≡ front ++ behind → Cut xs front behind later
cut xs [] behind later e = past xs refl e
cut [] (a ∷ front) behind later e = short (a ∷ front) refl (omega arith)
cut (x ∷ xs) (a ∷ front) behind later e = onward (cut xs front behind later (cc e))
  where
    onward : Cut xs front behind later → Cut (x ∷ xs) (a ∷ front) behind later
    onward (past more p q) = past more (let h : a ≡ x = cc e in cc) q
    onward (short missing p l) = short missing (let h : a ≡ x = cc e in cc) l

-- in less than a frame stands none
less_than_frame : (f : Frame) (bytes missing : List ℕ) → IsFrame f → IsBytes bytes → bytes ++ missing ≡ spelled f → 1 ≤ length missing → IsNoFrame (first_of bytes)
less_than_frame f bytes missing admissible are_bytes e some = none (first_of bytes) refl
  where
    none : (k : First) → first_of bytes ≡ k → IsNoFrame k
    none (frame order message size) found =
        let g : Frame = record { order = order; message = message } in
        let begins = begins-frame bytes g size are_bytes found in
        let behind : List ℕ = drop size bytes in
        let joined : spelled f ++ [] ≡ spelled g ++ (behind ++ missing) =
        append-nil (spelled f) ∙ (sym e ∙ (ap (λ (bs : List ℕ). bs ++ missing) begins.spells ∙ append_assoc (spelled g) behind missing)) in
        let one : frame f.order f.message (6 + length f.message) ≡ frame order message (6 + length message) =
        sym (frame-begins f [] admissible) ∙ (ap first_of joined ∙ frame-begins g (behind ++ missing) begins.admissible) in
        let same : 6 + length f.message ≡ 6 + length message = cc one in
        absurd (omega (arith, same, some, ap length e, ap length begins.spells, length-append bytes missing, length-append (spelled g) behind, length-spelled f, length-spelled g))
    none rest found = tt
    none (bad_length n) found = tt
    none (bad_encoding encoding) found = tt

-- nothing is read of bytes in which no frame stands
reads_none : (pieces : List Piece) (bytes : List ℕ) → IsNoFrame (first_of bytes) → (read : List Piece) × AreRead pieces bytes read
reads_none pieces bytes none =
    ([], record { first = (pieces, refl); whole = (bytes, refl); frames = subst (λ fs. AllZip ReadsAs [] fs) (sym (frames_of-none bytes none)) tt })

-- a frame is read, and what is read behind it
reads_on : (p : Piece) (later : List Piece) (f : Frame) (behind : List ℕ) → IsFrame f → ReadsAs p f → (read : List Piece) × AreRead later behind read
    → (read : List Piece) × AreRead (p ∷ later) (spelled f ++ behind) read
reads_on p later f behind admissible here (read, r) = (
  p ∷ read,
  record {
    first = (r.first.0, ap (λ ps. p ∷ ps) r.first.1);
    whole = (r.whole.0, append_assoc (bytes_of_piece p) (bytes_written read) r.whole.0 ∙ (ap (λ bs. bytes_of_piece p ++ bs) r.whole.1 ∙ ap (λ bs. bs ++ behind) (sym here.bytes)));
    frames = subst (λ fs. AllZip ReadsAs (p ∷ read) fs) (sym (frames_of-front f behind admissible)) (here, r.frames);
  },
)

pub written_is_read : WrittenIsRead
written_is_read [] [] legal are_bytes begins = reads_none [] [] tt
written_is_read [] (b ∷ bytes) legal are_bytes begins = let e = begins.1 in absurd (cc e)
written_is_read (p ∷ later) bytes legal are_bytes begins =
    by_cut (λ behind are goes. written_is_read later behind legal.1 are (begins.0, goes))
    (cut bytes (spelled f) (bytes_written later) begins.0 (begins.1 ∙ ap (λ bs. bs ++ bytes_written later) (sym here.reads.bytes)))
  where
    here : HasFrame p
    here = has_frame p legal.0

    f : Frame
    f = here.frame

    by_cut : ((behind : List ℕ) → IsBytes behind → behind ++ begins.0 ≡ bytes_written later → (read : List Piece) × AreRead later behind read)
        → Cut bytes (spelled f) (bytes_written later) begins.0 → (read : List Piece) × AreRead (p ∷ later) bytes read
    by_cut reads (past behind e goes) =
        let are : IsBytes behind = subst IsBytes (drop-spelled f behind) (All-drop (λ b. b < 256) (6 + length f.message) (spelled f ++ behind) (subst IsBytes (sym e) are_bytes)) in
        subst (λ bs. (read : List Piece) × AreRead (p ∷ later) bs read) e (reads_on p later f behind here.admissible here.reads (reads behind are goes))
    by_cut reads (short missing e some) = reads_none (p ∷ later) bytes (less_than_frame f bytes missing here.admissible are_bytes e some)

pub all_is_read : AllIsRead
all_is_read [] legal = subst (λ fs. AllZip ReadsAs [] fs) (sym (frames_of-none [] tt)) tt
all_is_read (p ∷ later) legal =
    let here : HasFrame p = has_frame p legal.0 in
    subst (λ bs. AllZip ReadsAs (p ∷ later) (frames_of (bs ++ bytes_written later))) here.reads.bytes
    (subst (λ fs. AllZip ReadsAs (p ∷ later) fs) (sym (frames_of-front here.frame (bytes_written later) here.admissible)) (here.reads, all_is_read later legal.1))

pub event_is_carried : EventIsCarried
event_is_carried (said m) = refl
event_is_carried (entry payload) = refl
