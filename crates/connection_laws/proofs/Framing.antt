-- The bytes of what an end writes are those of frames.
use Rattle.std.proofs.Common.{◌≡◌, ℕ, ◌+◌, Bool, if◌then◌else◌, List, [], ◌∷◌, ◌++◌, length, option_to_list, refl, ap, ◌∙◌, arith, append_assoc, length-append, eq-eqb}
use Rattle.std.specs.Int.{w16, w32, to_be_bytes}
use Rattle.sbe_prim.specs.declared.Order.TheVariants.{Little}
use Rattle.sofh_frame.specs.Framing.{Frame, IsFrame, header_of, spelled, encoding_of}
use Rattle.sofh_frame.specs.Splits.{spelled_all}
use Rattle.fixp_msgs.specs.Canonical.{IsLegal, message_bytes, frame_bytes, framing_bytes}
use Rattle.fixp_msgs.specs.Message.{Message}
use Rattle.fixp_msgs.specs.declared.frames.FrameKind.TheVariants.{App, Session}
use Rattle.fixp_msgs.specs.Header.{kind_of, schema_in, session_schema}
use Rattle.fixp_msgs.proofs.Sizes.{frame_bytes_least, frame_bytes_most}
use Rattle.fixp_msgs.specs.Numbering.{event_of, event_among, announced_by, payload_of, events_of}
use Rattle.fixp_msgs.specs.Payload.{IsApplication}
use Rattle.fixp_msgs.proofs.Found.{found}
use Rattle.fixp_msgs.proofs.Written.{message_spells}
use Rattle.session_model.specs.Events.{Event}
use Rattle.fixp_machine.specs.Machine.{payload_frame}
use Rattle.connection_laws.specs.Writing.{Piece, said, entry, bytes_of_piece, events_of_piece}
use Rattle.connection_laws.specs.Framed.{AreFrames, PiecesAreFrames}

-- one piece is one frame
pub record IsFrameOf (p : Piece) (f : Frame) : Type 0 where
  pub admissible : IsFrame f
  pub bytes : spelled f ≡ bytes_of_piece p
  pub events : option_to_list (event_of f) ≡ events_of_piece p

pub is_session : (m : Message) → IsLegal m → kind_of Little (message_bytes m) ≡ Session
is_session m legal = ap (λ (b : Bool). if b then Session else App) (eq-eqb (schema_in (message_bytes m)) session_schema (message_spells m legal).schema)

same_bytes : (m : Message) → spelled (record { order = Little; message = message_bytes m }) ≡ frame_bytes m
unfolding header_of
same_bytes m = refl

pub frame_of_message : (m : Message) → IsLegal m → IsFrameOf (said m) (record { order = Little; message = message_bytes m })
frame_of_message m legal =
    let size : length (frame_bytes m) ≡ 6 + length (message_bytes m) = length-append (framing_bytes (6 + length (message_bytes m))) (message_bytes m) in
    record {
      admissible = record { least = omega (arith, size, frame_bytes_least m); most = omega (arith, size, frame_bytes_most m legal) };
      bytes = same_bytes m;
      events = ap (λ k. option_to_list (event_among k (record { order = Little; message = message_bytes m }))) (is_session m legal)
          ∙ ap (λ k. option_to_list (announced_by k)) (found (message_bytes m) m (message_spells m legal));
    }

entry_bytes : (f : Frame) (payload : List ℕ) → payload_of f ≡ payload → spelled f ≡ payload_frame payload
unfolding header_of
entry_bytes f payload e =
    let code : List ℕ = to_be_bytes w16 (encoding_of f.order) in
    let size : 6 + length f.message ≡ length (payload_of f) + 4 = omega (arith, length-append code f.message) in
    append_assoc (to_be_bytes w32 (6 + length f.message)) code f.message
    ∙ (ap (λ n. to_be_bytes w32 n ++ payload_of f) size ∙ ap payload_frame e)

pub frame_of_entry : (payload : List ℕ) (a : IsApplication payload) → IsFrameOf (entry payload) a.frame
frame_of_entry payload a = record {
  admissible = a.admissible;
  bytes = entry_bytes a.frame payload a.spelled;
  events = ap (λ k. option_to_list (event_among k a.frame)) a.application ∙ ap (λ p. Event.message p ∷ []) a.spelled;
}

-- one frame more in front
joined : (p : Piece) (f : Frame) (pieces : List Piece) (frames : List Frame) → IsFrameOf p f → AreFrames pieces frames → AreFrames (p ∷ pieces) (f ∷ frames)
joined p f pieces frames here rest = record {
  each = (here.admissible, rest.each);
  bytes = ap (λ bs. bs ++ spelled_all frames) here.bytes ∙ ap (λ bs. bytes_of_piece p ++ bs) rest.bytes;
  events = ap (λ es. es ++ events_of frames) here.events ∙ ap (λ es. events_of_piece p ++ es) rest.events;
}

pub pieces_are_frames : PiecesAreFrames
pieces_are_frames [] all = ([], record { each = tt; bytes = refl; events = refl })
pieces_are_frames (said m ∷ later) all =
    let f : Frame = record { order = Little; message = message_bytes m } in
    let rest = pieces_are_frames later all.1 in
    (f ∷ rest.0, joined (said m) f later rest.0 (frame_of_message m all.0) rest.1)
pieces_are_frames (entry payload ∷ later) all =
    let f : Frame = all.0.frame in
    let rest = pieces_are_frames later all.1 in
    (f ∷ rest.0, joined (entry payload) f later rest.0 (frame_of_entry payload all.0) rest.1)
