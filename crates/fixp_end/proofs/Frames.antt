-- The frames of entries, one after another.
use Rattle.std.proofs.Common.{◌≡◌, ℕ, zero, suc, ◌+◌, ◌<◌, ◌≤◌, List, [], ◌∷◌, ◌++◌, length, take, get_or, refl, sym, ap, ◌∙◌, append_assoc, append-nil, length-append, arith}
use Rattle.std.proofs.lemmas.List.{take_more}
use Rattle.std.proofs.lemmas.Grind.{flat_map-append}
use Rattle.std.proofs.lemmas.List.Elements.{All-head, All-tail}
use Rattle.session_model.specs.Inbox.{Numbered}
use Rattle.jr_record.specs.Records.{IsPayload}
use Rattle.fixp_machine.specs.Machine.{payload_frame, payload_frames}
use Rattle.fixp_end.specs.Sending.{FramesFit, payloads_of}

payloads-append : (first second : List Numbered) → payloads_of (first ++ second) ≡ payloads_of first ++ payloads_of second
payloads-append [] second = refl
payloads-append (m ∷ first) second = ap (λ (ps : List (List ℕ)). m.payload ∷ ps) (payloads-append first second)

-- what is written for one entry more
pub frames_more : (es : List Numbered) (i : ℕ) (d : Numbered) → i < length es
    → payload_frames (payloads_of (take (i + 1) es)) ≡ payload_frames (payloads_of (take i es)) ++ payload_frames ((get_or es i d).payload ∷ [])
frames_more es i d h =
    ap (λ (ms : List Numbered). payload_frames (payloads_of ms)) (take_more es i d h)
    ∙ (ap (λ (ps : List (List ℕ)). payload_frames ps) (payloads-append (take i es) (get_or es i d ∷ []))
    ∙ flat_map-append payload_frame (payloads_of (take i es)) (payloads_of (get_or es i d ∷ [])))

pub entry_written : (es : List Numbered) (i : ℕ) (d : Numbered) (start now more : List ℕ) → i < length es
    → now ≡ start ++ payload_frames (payloads_of (take i es)) → more ≡ now ++ payload_frames ((get_or es i d).payload ∷ [])
    → more ≡ start ++ payload_frames (payloads_of (take (i + 1) es))
entry_written es i d start now more h so_far last =
    let one = payload_frames ((get_or es i d).payload ∷ []) in
    last ∙ (ap (λ (bytes : List ℕ). bytes ++ one) so_far
    ∙ (append_assoc start (payload_frames (payloads_of (take i es))) one ∙ ap (λ (bytes : List ℕ). start ++ bytes) (sym (frames_more es i d h))))

-- the first entries have no more bytes than all
prefix_is_shorter : (es : List Numbered) (n : ℕ) → length (payload_frames (payloads_of (take n es))) ≤ length (payload_frames (payloads_of es))
prefix_is_shorter [] zero = omega (arith)
prefix_is_shorter [] (suc n) = omega (arith)
prefix_is_shorter (e ∷ es) zero = omega (arith)
prefix_is_shorter (e ∷ es) (suc n) = omega (
  arith,
  length-append (payload_frame e.payload) (payload_frames (payloads_of (take n es))),
  length-append (payload_frame e.payload) (payload_frames (payloads_of es)),
  prefix_is_shorter es n,
)

pub frame_size : (payload : List ℕ) → length (payload_frames (payload ∷ [])) ≡ length payload + 4
frame_size payload = omega (arith, ap (λ (bytes : List ℕ). length bytes) (append-nil payload))

-- and there is room for one more
pub frames_within : (es : List Numbered) (i : ℕ) (d : Numbered) → i < length es
    → length (payload_frames (payloads_of (take i es))) + (length (get_or es i d).payload + 4) ≤ length (payload_frames (payloads_of es))
frames_within es i d h = omega (
  arith,
  prefix_is_shorter es (i + 1),
  ap (λ (bytes : List ℕ). length bytes) (frames_more es i d h),
  length-append (payload_frames (payloads_of (take i es))) (payload_frames ((get_or es i d).payload ∷ [])),
  frame_size (get_or es i d).payload,
)

pub frames_fit : FramesFit
frames_fit [] all = omega (arith)
frames_fit (e ∷ es) all = omega (
  arith,
  length-append (payload_frame e.payload) (payload_frames (payloads_of es)),
  (All-head (λ (m : Numbered). IsPayload m.payload) e es all).1,
  frames_fit es (All-tail (λ (m : Numbered). IsPayload m.payload) e es all),
)
