-- The frames of bytes begin with the first one, and go on with those of the bytes behind it.
use Rattle.std.proofs.Common.{◌≡◌, ℕ, zero, suc, ◌+◌, ◌≤◌, List, [], ◌∷◌, length, drop, refl, sym, ◌∙◌, ap, arith}
use Rattle.std.proofs.lemmas.List.{length-append, length-drop, drop-drop}
use Rattle.sofh_frame.specs.Framing.{Frame, spelled, First, frame, rest, bad_length, bad_encoding, first_of}
use Rattle.sofh_frame.specs.Splits.{spelled_all, place_behind, IsNoFrame, frames_from, frames_within, frames_of, tail_of}
use Rattle.sofh_frame.proofs.FramingLemmas.{parts-frame, counts-frame}
use Rattle.sofh_frame.proofs.SplitLemmas.{length-spelled}

abbrev IfShorter : List ℕ → First → ℕ → Type 0
IfShorter bytes (frame order message size) m = length (drop size bytes) ≤ m
IfShorter bytes rest m = Unit {0}
IfShorter bytes (bad_length n) m = Unit {0}
IfShorter bytes (bad_encoding n) m = Unit {0}

-- what is left behind a frame is shorter
behind-shorter : (bytes : List ℕ) (first : First) (m : ℕ) → first_of bytes ≡ first → length bytes ≤ suc m → IfShorter bytes first m
behind-shorter bytes (frame order message size) m e within =
    let parts = parts-frame bytes order message size e in
    omega (arith, length-drop size bytes, parts.least, parts.there)
behind-shorter bytes rest m e within = tt
behind-shorter bytes (bad_length n) m e within = tt
behind-shorter bytes (bad_encoding n) m e within = tt

-- frames are found as far as the count reaches, and a count of all bytes reaches
from-same : (first : First) (bytes : List ℕ) (m : ℕ) (one other : ℕ → List Frame) → IfShorter bytes first m
    → ((size : ℕ) → length (drop size bytes) ≤ m → one size ≡ other size) → frames_from first one ≡ frames_from first other
from-same (frame order message size) bytes m one other shorter same = ap (λ fs. record { order = order; message = message } ∷ fs) (same size shorter)
from-same rest bytes m one other shorter same = refl
from-same (bad_length n) bytes m one other shorter same = refl
from-same (bad_encoding n) bytes m one other shorter same = refl

none-within : (n : ℕ) → frames_within n [] ≡ []
unfolding frames_within
none-within zero = refl
none-within (suc n) = refl

pub within-same : (k m n : ℕ) (bytes : List ℕ) → length bytes ≤ k → k ≤ m → k ≤ n → frames_within m bytes ≡ frames_within n bytes
unfolding frames_within
within-same k m n [] within one other = none-within m ∙ sym (none-within n)
within-same zero m n (b ∷ bs) within one other = absurd (omega arith)
within-same (suc k) zero n (b ∷ bs) within one other = absurd (omega arith)
within-same (suc k) (suc m) zero (b ∷ bs) within one other = absurd (omega arith)
within-same (suc k) (suc m) (suc n) (b ∷ bs) within one other =
    from-same (first_of (b ∷ bs)) (b ∷ bs) k (λ size. frames_within m (drop size (b ∷ bs))) (λ size. frames_within n (drop size (b ∷ bs)))
    (behind-shorter (b ∷ bs) (first_of (b ∷ bs)) k refl within)
    (λ size shorter. within-same k m n (drop size (b ∷ bs)) shorter (omega arith) (omega arith))

pub frames-frame : (bytes : List ℕ) (f : Frame) (size : ℕ) → first_of bytes ≡ frame f.order f.message size → frames_of bytes ≡ f ∷ frames_of (drop size bytes)
unfolding frames_of frames_within
frames-frame [] f size e = absurd (omega (arith, (parts-frame [] f.order f.message size e).least, (parts-frame [] f.order f.message size e).there))
frames-frame (b ∷ bs) f size e =
    let shorter = behind-shorter (b ∷ bs) (frame f.order f.message size) (length bs) e (omega arith) in
    ap (λ (first : First). frames_from first (λ at. frames_within (length bs) (drop at (b ∷ bs)))) e
    ∙ ap (λ fs. f ∷ fs) (within-same (length (drop size (b ∷ bs))) (length bs) (length (drop size (b ∷ bs))) (drop size (b ∷ bs)) (omega arith) shorter (omega arith))

pub size-spelled : (bytes : List ℕ) (f : Frame) (size : ℕ) → first_of bytes ≡ frame f.order f.message size → length (spelled f) ≡ size
size-spelled bytes f size e = length-spelled f ∙ sym (counts-frame bytes f.order f.message size e)

pub tail-frame : (bytes : List ℕ) (f : Frame) (size : ℕ) → first_of bytes ≡ frame f.order f.message size → tail_of bytes ≡ tail_of (drop size bytes)
unfolding tail_of
tail-frame bytes f size e =
    let fs = frames_of (drop size bytes) in
    let place : place_behind (frames_of bytes) ≡ size + place_behind fs =
    ap place_behind (frames-frame bytes f size e) ∙ length-append (spelled f) (spelled_all fs) ∙ omega (arith, size-spelled bytes f size e) in
    ap (λ n. drop n bytes) place ∙ sym (drop-drop (place_behind fs) size bytes)

-- where no frame begins, all is tail
no-frames-from : (first : First) (more : ℕ → List Frame) → IsNoFrame first → frames_from first more ≡ []
no-frames-from (frame order message size) more none = absurd none
no-frames-from rest more none = refl
no-frames-from (bad_length n) more none = refl
no-frames-from (bad_encoding n) more none = refl

pub no-frames : (bytes : List ℕ) → IsNoFrame (first_of bytes) → frames_of bytes ≡ []
unfolding frames_of frames_within
no-frames [] none = refl
no-frames (b ∷ bs) none = no-frames-from (first_of (b ∷ bs)) _ none

pub all-tail : (bytes : List ℕ) → IsNoFrame (first_of bytes) → tail_of bytes ≡ bytes
unfolding tail_of
all-tail bytes none = ap (λ fs. drop (place_behind fs) bytes) (no-frames bytes none)
