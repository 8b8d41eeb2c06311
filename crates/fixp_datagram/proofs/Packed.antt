-- The bytes of payloads' frames, and of a datagram as it is packed.
use Rattle.std.proofs.Common.{◌≡◌, ℕ, ◌+◌, ◌<◌, ◌≤◌, ◌^◌, Bool, if◌then◌else◌, List, [], ◌∷◌, ◌++◌, map, length, take, drop, unwrap_or, refl, sym, ap, subst, ◌∙◌, arith, append_assoc, append-nil, length-append, eq-eqb}
use Rattle.std.specs.Int.{w16, w32, w64, from_be_bytes, to_be_bytes, to_le_bytes}
use Rattle.std.specs.List.{AllByRecursion}
use Rattle.std.proofs.Math.Seq.{drop-append_seam, take-append_seam}
use Rattle.std.proofs.lemmas.Nat.{from_be_bytes-to_be_bytes_2}
use Rattle.sbe_prim.specs.declared.Order.{Order}
use Rattle.sbe_prim.specs.declared.Order.TheVariants.{Little, Big}
use Rattle.sofh_frame.specs.Framing.{Frame, header_of, spelled, encoding_of, order_of}
use Rattle.sofh_frame.specs.Splits.{spelled_all}
use Rattle.sofh_frame.proofs.FramingLemmas.{order_of-encoding_of}
use Rattle.sofh_frame.proofs.SplitLemmas.{length-spelled}
use Rattle.fixp_msgs.specs.Canonical.{IsLegal, message_bytes, frame_bytes, framing_bytes}
use Rattle.fixp_msgs.specs.Message.{Message, sequence}
use Rattle.fixp_msgs.specs.declared.frames.FrameKind.TheVariants.{App, Session}
use Rattle.fixp_msgs.specs.Header.{kind_of, schema_in, session_schema}
use Rattle.fixp_msgs.specs.Numbering.{payload_of}
use Rattle.fixp_msgs.specs.Payload.{IsApplication}
use Rattle.fixp_msgs.proofs.Sizes.{frame_bytes_least, frame_bytes_most}
use Rattle.fixp_msgs.proofs.Written.{message_spells}
use Rattle.fixp_datagram.specs.Datagrams.{IsApplicationFrame, IsSequenceFrame, BeginsWithSequence, SpellsDatagram}
use Rattle.fixp_datagram.specs.Opened.{sequence_head}
use Rattle.fixp_datagram.specs.Packing.{frame_of, packed}

length-encoding : (order : Order) → length (to_be_bytes w16 (encoding_of order)) ≡ 2
length-encoding Little = refl
length-encoding Big = refl

encoding_fits : (order : Order) → encoding_of order < 2 ^ 16
encoding_fits Little = omega arith
encoding_fits Big = omega arith

pub length-payload_of : (f : Frame) → length (payload_of f) ≡ 2 + length f.message
length-payload_of f = omega (arith, length-append (to_be_bytes w16 (encoding_of f.order)) f.message, length-encoding f.order)

-- the frame of a frame's payload is that frame
frame_of-payload : (f : Frame) → frame_of (payload_of f) ≡ f
frame_of-payload f =
    let code : List ℕ = to_be_bytes w16 (encoding_of f.order) in
    let front : take 2 (code ++ f.message) ≡ code = ap (λ n. take n (code ++ f.message)) (sym (length-encoding f.order)) ∙ take-append_seam code f.message in
    let back : drop 2 (code ++ f.message) ≡ f.message = ap (λ n. drop n (code ++ f.message)) (sym (length-encoding f.order)) ∙ drop-append_seam code f.message in
    let number : from_be_bytes w16 (take 2 (code ++ f.message)) ≡ encoding_of f.order =
    ap (λ bytes. from_be_bytes w16 bytes) front ∙ from_be_bytes-to_be_bytes_2 (encoding_of f.order) (encoding_fits f.order) in
    let F : Order → List ℕ → Frame = λ o m. record { order = o; message = m } in
    ap (λ n. F (unwrap_or (order_of n) Little) (drop 2 (code ++ f.message))) number
    ∙ (ap (λ o. F (unwrap_or o Little) (drop 2 (code ++ f.message))) (order_of-encoding_of f.order)
    ∙ ap (λ m. F f.order m) back)

pub frame_of-application : (payload : List ℕ) (a : IsApplication payload) → frame_of payload ≡ a.frame
frame_of-application payload a = ap frame_of (sym a.spelled) ∙ frame_of-payload a.frame

pub application_frame : (payload : List ℕ) → IsApplication payload → IsApplicationFrame (frame_of payload)
application_frame payload a =
    subst IsApplicationFrame (sym (frame_of-application payload a)) (record { admissible = a.admissible; application = a.application })

pub payload_back : (payload : List ℕ) → IsApplication payload → payload_of (frame_of payload) ≡ payload
payload_back payload a = ap payload_of (frame_of-application payload a) ∙ a.spelled

-- its bytes: its length, and then the payload
spelled-payload : (f : Frame) → spelled f ≡ to_be_bytes w32 (length (payload_of f) + 4) ++ payload_of f
unfolding header_of
spelled-payload f =
    let code : List ℕ = to_be_bytes w16 (encoding_of f.order) in
    let size : 6 + length f.message ≡ length (payload_of f) + 4 = omega (arith, length-payload_of f) in
    append_assoc (to_be_bytes w32 (6 + length f.message)) code f.message
    ∙ ap (λ n. to_be_bytes w32 n ++ payload_of f) size

pub spelled-frame_of : (payload : List ℕ) → IsApplication payload → spelled (frame_of payload) ≡ to_be_bytes w32 (length payload + 4) ++ payload
spelled-frame_of payload a =
    spelled-payload (frame_of payload) ∙ ap (λ p. to_be_bytes w32 (length p + 4) ++ p) (payload_back payload a)

pub length-frame_of : (payload : List ℕ) → IsApplication payload → length (spelled (frame_of payload)) ≡ 4 + length payload
length-frame_of payload a =
    omega (arith, length-spelled (frame_of payload), length-payload_of (frame_of payload), ap length (payload_back payload a))

-- an application payload is short
pub payload_short : (payload : List ℕ) → IsApplication payload → length payload ≤ 16386
payload_short payload a = omega (arith, length-payload_of a.frame, ap length a.spelled, a.admissible.most)

pub frames_applications : (ps : List (List ℕ)) → AllByRecursion IsApplication ps → AllByRecursion IsApplicationFrame (map frame_of ps)
frames_applications [] all = tt
frames_applications (p ∷ ps) all = (application_frame p all.0, frames_applications ps all.1)

pub payloads_back : (ps : List (List ℕ)) → AllByRecursion IsApplication ps → map payload_of (map frame_of ps) ≡ ps
payloads_back [] all = refl
payloads_back (p ∷ ps) all = ap (λ q. q ∷ map payload_of (map frame_of ps)) (payload_back p all.0) ∙ ap (λ qs. p ∷ qs) (payloads_back ps all.1)

-- the frame of a Sequence as it is written
is_session : (m : Message) → IsLegal m → kind_of Little (message_bytes m) ≡ Session
is_session m legal = ap (λ (b : Bool). if b then Session else App) (eq-eqb (schema_in (message_bytes m)) session_schema (message_spells m legal).schema)

same_bytes : (m : Message) → spelled (record { order = Little; message = message_bytes m }) ≡ frame_bytes m
unfolding header_of
same_bytes m = refl

sequence_frame : (first : ℕ) → IsLegal (sequence first) → IsSequenceFrame (record { order = Little; message = message_bytes (sequence first) }) first
sequence_frame first legal =
    let m = sequence first in
    let size : length (frame_bytes m) ≡ 6 + length (message_bytes m) = length-append (framing_bytes (6 + length (message_bytes m))) (message_bytes m) in
    record {
      admissible = record { least = omega (arith, size, frame_bytes_least m); most = omega (arith, size, frame_bytes_most m legal) };
      session = is_session m legal;
      sequence = message_spells m legal;
    }

-- it is known by its head
written_frame : (first : ℕ) → frame_bytes (sequence first) ≡ sequence_head ++ to_le_bytes w64 first
written_frame first = refl

pub begins_written : (bytes number behind : List ℕ) (first : ℕ) → bytes ≡ sequence_head ++ number ++ behind → to_le_bytes w64 first ≡ number → first < 2 ^ 64
    → BeginsWithSequence bytes first behind
begins_written bytes number behind first joins is small = record {
  head = record { order = Little; message = message_bytes (sequence first) };
  announces = sequence_frame first (record { fields = (small, tt); datum = tt });
  joins = joins
      ∙ (sym (append_assoc sequence_head number behind)
      ∙ ap (λ front. front ++ behind) (ap (λ n. sequence_head ++ n) (sym is) ∙ (sym (written_frame first) ∙ sym (same_bytes (sequence first)))));
}

-- what is packed spells the datagram
pub packed_spells : (first : ℕ) (ps : List (List ℕ)) → IsLegal (sequence first) → AllByRecursion IsApplication ps
    → SpellsDatagram (packed first ps) (record { first = first; payloads = ps })
packed_spells first ps legal all = record {
  behind = spelled_all (map frame_of ps);
  sequence = record {
    head = record { order = Little; message = message_bytes (sequence first) };
    announces = sequence_frame first legal;
    joins = ap (λ bytes. bytes ++ spelled_all (map frame_of ps)) (sym (same_bytes (sequence first)));
  };
  applications = record {
    frames = map frame_of ps;
    each = frames_applications ps all;
    joins = sym (append-nil (spelled_all (map frame_of ps)));
    holds = payloads_back ps all;
  };
}
