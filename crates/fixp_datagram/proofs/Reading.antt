-- Reading a datagram frame by frame.
use Rattle.std.proofs.Common.{◌≡◌, ◌==◌, ◌⊎◌, inl, inr, true, eqb-true, false, ℕ, ◌+◌, ◌≤◌, List, [], ◌∷◌, ◌++◌, map, length, take, drop, refl, sym, ap, subst, ◌∙◌, arith, append_assoc, length-append, Bor}
use Rattle.std.specs.Int.{w16, w32, to_be_bytes}
use Rattle.std.specs.List.{AllByRecursion}
use Rattle.std.proofs.Math.Seq.{drop-append_seam, take-append_seam}
use Rattle.sbe_prim.specs.declared.Order.{Order}
use Rattle.sofh_frame.specs.Framing.{Frame, IsFrame, header_of, spelled, encoding_of, First, frame, first_of, length_in}
use Rattle.sofh_frame.specs.Splits.{spelled_all, IsNoFrame, frames_of}
use Rattle.sofh_frame.proofs.FramingLemmas.{frame-begins, length_in-header_of}
use Rattle.sofh_frame.proofs.SplitLemmas.{length-spelled, spelled_all-push, AllByRecursion-push, frames_of-split, frames_of-none}
use Rattle.sofh_frame.specs.FirstFrame.{seen}
use Rattle.sofh_frame.specs.declared.header.FirstFrame.{FirstFrame}
use Rattle.sofh_frame.specs.declared.header.FirstFrame.TheVariants as variants
use Rattle.fixp_msgs.specs.declared.frames.FrameKind.{FrameKind}
use Rattle.fixp_msgs.specs.declared.frames.FrameKind.TheVariants.{App, Session, Wrong}
use Rattle.fixp_msgs.specs.Header.{kind_of}
use Rattle.fixp_msgs.specs.Message.{sequence}
use Rattle.fixp_msgs.specs.Grammar.{Spells}
use Rattle.fixp_msgs.specs.Numbering.{payload_of}
use Rattle.fixp_msgs.specs.Payload.{IsApplication}
use Rattle.fixp_datagram.specs.Datagrams.{IsApplicationFrame, BeginsWithSequence, BeginsWithApplications}
use Rattle.fixp_datagram.specs.Opened.{payloads_in, AreApplications, BeginsWithApplication}
use Rattle.fixp_datagram.proofs.Framed.{HasNone}

-- application frames are frames
all_frames : (fs : List Frame) → AllByRecursion IsApplicationFrame fs → AllByRecursion IsFrame fs
all_frames [] all = tt
all_frames (f ∷ fs) all = (all.0.admissible, all_frames fs all.1)

-- the payloads in application frames are theirs
pub payloads_found : (bytes : List ℕ) (fs : List Frame) → AllByRecursion IsApplicationFrame fs → bytes ≡ spelled_all fs ++ [] → frames_of bytes ≡ fs
payloads_found bytes fs all joins = frames_of-split bytes fs [] (record { joins = joins; each = all_frames fs all; ends = tt })

pub are_applications : (bytes : List ℕ) (fs : List Frame) → AllByRecursion IsApplicationFrame fs → bytes ≡ spelled_all fs ++ [] → AreApplications bytes
are_applications bytes fs all joins =
    record { frames = fs; each = all; joins = joins; holds = ap (λ gs. map payload_of gs) (sym (payloads_found bytes fs all joins)) }

-- behind 4 bytes of a frame stands its payload
pub payload_in : (f : Frame) → drop 4 (spelled f) ≡ payload_of f
unfolding header_of
payload_in f =
    let size = to_be_bytes w32 (6 + length f.message) in
    ap (drop 4) (append_assoc size (to_be_bytes w16 (encoding_of f.order)) f.message) ∙ drop-append_seam size (payload_of f)

-- the next message of application frames, of which there is one: its frame has the size that it states
pub record IsNext (bytes : List ℕ) (size : ℕ) : Type 0 where
  pub some : 6 ≤ size
  pub whole : size ≤ length bytes
  pub payloads : payloads_in bytes ≡ drop 4 (take size bytes) ∷ payloads_in (drop size bytes)
  pub behind : AreApplications (drop size bytes)
  pub application : IsApplication (drop 4 (take size bytes))

pub next_in : (bytes : List ℕ) → AreApplications bytes → (length bytes == 0) ≡ false → IsNext bytes (length_in bytes)
next_in bytes a there = by_frames a.frames a.each a.joins
  where
    by_frames : (fs : List Frame) → AllByRecursion IsApplicationFrame fs → bytes ≡ spelled_all fs ++ [] → IsNext bytes (length_in bytes)
    by_frames [] all joins = absurd (cc (sym there ∙ ap (λ bs. length bs == 0) joins))
    by_frames (f ∷ fs) all joins =
        let size = length_in bytes in
        let more = spelled_all fs ++ [] in
        let begins : bytes ≡ spelled f ++ more = joins ∙ append_assoc (spelled f) (spelled_all fs) [] in
        let states : size ≡ 6 + length f.message =
        ap length_in (begins ∙ append_assoc (header_of f) f.message more) ∙ length_in-header_of f (f.message ++ more) all.0.admissible.most in
        let size_is : size ≡ length (spelled f) = states ∙ sym (length-spelled f) in
        let front : take size bytes ≡ spelled f = ap (λ n. take n bytes) size_is ∙ (ap (take (length (spelled f))) begins ∙ take-append_seam (spelled f) more) in
        let back : drop size bytes ≡ more = ap (λ n. drop n bytes) size_is ∙ (ap (drop (length (spelled f))) begins ∙ drop-append_seam (spelled f) more) in
        let payload : drop 4 (take size bytes) ≡ payload_of f = ap (drop 4) front ∙ payload_in f in
        record {
          some = omega (arith, states);
          whole = omega (arith, size_is, ap length begins, length-append (spelled f) more);
          payloads = ap (λ gs. map payload_of gs) (payloads_found bytes (f ∷ fs) all joins)
              ∙ (ap (λ gs. payload_of f ∷ map payload_of gs) (sym (payloads_found (drop size bytes) fs all.1 back))
              ∙ ap (λ p. p ∷ payloads_in (drop size bytes)) (sym payload));
          behind = are_applications (drop size bytes) fs all.1 back;
          application = record {
            frame = f;
            admissible = all.0.admissible;
            application = all.0.application;
            spelled = sym payload;
          };
        }

-- where nothing stands there is no payload
pub none_in : (bytes : List ℕ) → (length bytes == 0) ≡ true → payloads_in bytes ≡ []
none_in [] nothing = ap (λ gs. map payload_of gs) (frames_of-none [] tt)
none_in (b ∷ bytes) nothing = absurd (omega (arith, eqb-true (length (b ∷ bytes)) 0 nothing))

-- what was read so far
abbrev pub IsRead : List ℕ → List ℕ → Type 0
IsRead bytes left = (payloads : List (List ℕ)) × BeginsWithApplications bytes payloads left

pub nothing_read : (bytes : List ℕ) → IsRead bytes bytes
nothing_read bytes = ([], record { frames = []; each = tt; joins = refl; holds = refl })

-- one frame more
pub read_more : (bytes left : List ℕ) (size : ℕ) → IsRead bytes left → BeginsWithApplication left size → IsRead bytes (drop size left)
read_more bytes left size read next =
    let fs = read.1.frames in
    let f = next.frame in
    let behind = drop size left in (
      map payload_of (fs ++ f ∷ []),
      record {
        frames = fs ++ f ∷ [];
        each = AllByRecursion-push IsApplicationFrame fs f read.1.each next.is_application;
        joins = read.1.joins
            ∙ (ap (λ xs. spelled_all fs ++ xs) next.joins
            ∙ (sym (append_assoc (spelled_all fs) (spelled f) behind)
            ∙ ap (λ xs. xs ++ behind) (sym (spelled_all-push fs f))));
        holds = refl;
      },
    )

-- the size of a frame that stands there is within the bytes
pub record IsWithin (bytes : List ℕ) (size : ℕ) : Type 0 where
  pub some : 6 ≤ size
  pub whole : size ≤ length bytes

pub size_within : (bytes : List ℕ) (size : ℕ) → BeginsWithApplication bytes size → IsWithin bytes size
size_within bytes size next = record {
  some = omega (arith, next.counts);
  whole = omega (arith, next.counts, ap length next.joins, length-append (spelled next.frame) (drop size bytes), length-spelled next.frame);
}

-- what is no frame is none that is spelled
no_frame : (bytes : List ℕ) → IsNoFrame (first_of bytes) → (f : Frame) (more : List ℕ) → IsFrame f → bytes ≡ spelled f ++ more → ⊥
no_frame bytes none f more whole e =
    let found : first_of bytes ≡ frame f.order f.message (6 + length f.message) = ap first_of e ∙ frame-begins f more whole in
    let P : First → Type 0 = IsNoFrame in
    subst P found none

-- the frame at the front is the one that is found
same_found : (bytes : List ℕ) (order : Order) (message : List ℕ) (size : ℕ) → first_of bytes ≡ frame order message size
    → (f : Frame) (more : List ℕ) → IsFrame f → bytes ≡ spelled f ++ more → f ≡ record { order = order; message = message }
same_found bytes order message size e f more whole begins =
    let found : frame f.order f.message (6 + length f.message) ≡ frame order message size =
    sym (frame-begins f more whole) ∙ (ap first_of (sym begins) ∙ e) in
    let orders : f.order ≡ order = cc found in
    let messages : f.message ≡ message = cc found in
    let F : Order → List ℕ → Frame = λ o m. record { order = o; message = m } in
    ap (λ o. F o f.message) orders ∙ ap (λ m. F order m) messages

pub no_application : (bytes : List ℕ) → IsNoFrame (first_of bytes) → HasNone bytes
no_application bytes none f more app e = no_frame bytes none f more app.admissible e

pub other_kind : (bytes : List ℕ) (order : Order) (message : List ℕ) (size : ℕ) → first_of bytes ≡ frame order message size
    → (kind_of order message ≡ App → ⊥) → HasNone bytes
other_kind bytes order message size e other f more app begins =
    let same = same_found bytes order message size e f more app.admissible begins in
    other (ap (λ (g : Frame). kind_of g.order g.message) (sym same) ∙ app.application)

pub no_sequence : (bytes : List ℕ) → IsNoFrame (first_of bytes) → (first : ℕ) (behind : List ℕ) → BeginsWithSequence bytes first behind → ⊥
no_sequence bytes none first behind s = no_frame bytes none s.head behind s.announces.admissible s.joins

pub other_message : (bytes : List ℕ) (order : Order) (message : List ℕ) (size : ℕ) → first_of bytes ≡ frame order message size
    → ((n : ℕ) → kind_of order message ≡ Session → Spells message (sequence n) → ⊥)
    → (first : ℕ) (behind : List ℕ) → BeginsWithSequence bytes first behind → ⊥
other_message bytes order message size e other first behind s =
    let same = same_found bytes order message size e s.head behind s.announces.admissible s.joins in
    other first
    (ap (λ (g : Frame). kind_of g.order g.message) (sym same) ∙ s.announces.session)
    (subst (λ (g : Frame). Spells g.message (sequence first)) same s.announces.sequence)

-- an answer that is no frame
pub not_frame : (r : FirstFrame) → ((order : Order) (message : Bor (List ℕ)) (size : ℕ) → r ≡ variants.Frame order message size → ⊥) → IsNoFrame (seen r)
not_frame (variants.Frame order message size) other = absurd (other order message size refl)
not_frame variants.Rest other = tt
not_frame (variants.BadLength n) other = tt
not_frame (variants.BadEncoding n) other = tt

-- a message of another kind is no application message
pub kinds_differ : (found kind : FrameKind) → (found ≡ Session) ⊎ (found ≡ Wrong) → found ≡ kind → kind ≡ App → ⊥
kinds_differ found kind (inl s) e app = absurd (cc (sym s ∙ (e ∙ app)))
kinds_differ found kind (inr w) e app = absurd (cc (sym w ∙ (e ∙ app)))

-- nothing stands behind the application frames
pub all_applications : (behind tail : List ℕ) → (length tail == 0) ≡ true → IsRead behind tail → AreApplications behind
all_applications behind [] empty read = are_applications behind read.1.frames read.1.each read.1.joins
all_applications behind (b ∷ tail) empty read = absurd (omega (arith, eqb-true (length (b ∷ tail)) 0 empty))
